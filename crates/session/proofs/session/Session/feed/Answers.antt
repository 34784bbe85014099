use Rattle.session.proofs.Lines.{only}
use Rattle.session.proofs.session.Session.feed.Goals as goal

pub returns-in_err-make_room-clause-only : goal.returns-in_err-make_room-clause-only
returns-in_err-make_room-clause-only c = only

pub returns-clause-only : goal.returns-clause-only
returns-clause-only c = only

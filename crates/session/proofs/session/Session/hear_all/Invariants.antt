use Rattle.std.proofs.Common.{◌-◌, ◌*◌, length, take, vec_items}
use Rattle.forms.specs.Replies.{answer_most}
use Rattle.session.specs.Agree.{Standing, Hears}
use Rattle.session.specs.Room.{HasRoom}
use Rattle.session.proofs.session.Session.hear_all.Given as goal

-- the bytes so far are heard, and there is room for those to come and their answers
abbrev pub invariant-loop-b : goal.invariant-loop-b
invariant-loop-b l =
    Standing l.initial.self (λ b line. Hears l.self b line (take l.b-index l.chunk) (vec_items l.initial.out) (vec_items l.out))
    × HasRoom (length l.chunk - l.b-index) l.self.line
    × HasRoom (answer_most * (length l.chunk - l.b-index)) l.out

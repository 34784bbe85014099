use Rattle.std.proofs.Common.{◌≡◌, length, take, vec_items, vec_len, vec_capacity}
use Rattle.books.specs.Agree.{Agrees}
use Rattle.books.specs.Logbook.{blank, answers_of, after_all}
use Rattle.books.proofs.run.run.Given as goal

-- the logbook was told the visits so far, and there is room for the other answers
abbrev pub invariant-loop-v : goal.invariant-loop-v
invariant-loop-v g l =
    let start = blank (g.L.Account.agreed l.fn.left) (g.R.Account.agreed l.fn.right) in
    let vs = take l.v-index l.visits in
    record {
      agrees : Agrees g.L.Account g.R.Account l.ledger l.blade (after_all g.K.Kind vs start);
      answers : vec_items l.answers ≡ answers_of g.K.Kind vs start;
      len : vec_len l.answers ≡ l.v-index;
      room : vec_capacity l.answers ≡ length l.visits;
    }

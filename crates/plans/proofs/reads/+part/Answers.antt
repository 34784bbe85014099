-- Each way through the reader, by its lemma.
use Rattle.std.proofs.Common.{inl, inr, arith}
use Rattle.std.proofs.lemmas.Result.{err_from_is_err_and}
use Rattle.plans.proofs.Parts.{stop_end, stop_dot, stop_open, stop_other, read_dot, stop_first, stop_second, stop_close, read_pair}
use Rattle.plans.proofs.reads.+part.Goals as goal

pub returns-then-at-text : goal.returns-then-at-text
returns-then-at-text t c = stop_end (omega arith) (omega arith) (omega arith)

pub returns-then-left-ne1 : goal.returns-then-left-ne1
returns-then-left-ne1 t c =
    stop_dot (omega arith) (omega arith) c.in-46.is c.if-owed-eq0.true c.if-left-ne1.true

pub returns-then-left-owed : goal.returns-then-left-owed
returns-then-left-owed t c =
    stop_open (omega arith) (omega arith) c.in-40.is c.if-left-owed.true

pub returns-in_err-first-in-40 : goal.returns-in_err-first-in-40
returns-in_err-first-in-40 t c =
    let r = err_from_is_err_and c.from_residual.result c.from_residual.ensures.1 in
    rw (r.1, r.2) (stop_first c.if-at-text.false c.in-40.is c.in_err-first-in-40.ensures)

pub returns-in_err-second-in-40 : goal.returns-in_err-second-in-40
returns-in_err-second-in-40 t c =
    let r = err_from_is_err_and c.from_residual-in_err-second-in-40.result c.from_residual-in_err-second-in-40.ensures.1 in
    rw (r.1, r.2) (stop_second c.if-at-text.false c.in-40.is c.in_ok-first-in-40.ensures c.in_err-second-in-40.ensures)

pub returns-then-end-text : goal.returns-then-end-text
returns-then-end-text t c =
    stop_close c.if-at-text.false c.in-40.is c.in_ok-first-in-40.ensures c.in_ok-second-in-40.ensures (λ d o. omega arith)

pub returns-else-owed-eq0 : goal.returns-else-owed-eq0
returns-else-owed-eq0 t c =
    read_dot (omega arith) c.if-at-text.false (omega arith) c.in-46.is (λ z. elim c.else-owed-eq0.either [ inl q ↦ q.1 | inr q ↦ absurd (q z) ])

pub returns-in-41 : goal.returns-in-41
returns-in-41 t c =
    read_pair c.if-at-text.false c.in-40.is c.in_ok-first-in-40.ensures c.in_ok-second-in-40.ensures c.if-end-text.false c.in-41.is

pub returns-in_default-2 : goal.returns-in_default-2
returns-in_default-2 t c =
    stop_close c.if-at-text.false c.in-40.is c.in_ok-first-in-40.ensures c.in_ok-second-in-40.ensures (λ d o. omega arith)

pub returns-in_default : goal.returns-in_default
returns-in_default t c = stop_other (omega arith) (omega arith) (λ e. omega arith) (λ e. omega arith)

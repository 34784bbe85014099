use Rattle.std.proofs.Common.{length, sym, ap, ◌∙◌, subst, arith}
use Rattle.slots.specs.Pass.{Passed}
use Rattle.slots.proofs.Standing.{begin, at_open, at_dot, dot_room, two, at_close, at_other, at_end, whole_number, lead_number, cleared, same_after, moved}
use Rattle.slots.proofs.moves.pass_by.Goals as goal
use Rattle.slots.proofs.moves.pass_by.Goals.{in-46, in-40, in-41}

pub loop-byte-init : goal.loop-byte-init
loop-byte-init g c = begin _ g.met.K.Kind.lawful _ _ _ c.requires.count.0 c.requires.numbers c.requires.room c.requires.plan

pub bounds-slots-next : goal.bounds-slots-next
bounds-slots-next g c = (dot_room _ g.met.K.Kind.lawful _ _ _ _ _ _ _ _ _ c.loop-byte.invariant c.loop-byte-test.true c.in-46.is).0

pub overflow_sub-low : goal.overflow_sub-low
overflow_sub-low g c = (two _ g.met.K.Kind.lawful _ _ _ _ _ _ _ _ _ c.loop-byte.invariant c.loop-byte-test.true c.in-41.is).enough

pub add_pair-requires : goal.add_pair-requires
add_pair-requires g c =
    let w = two _ g.met.K.Kind.lawful _ _ _ _ _ _ _ _ _ c.loop-byte.invariant c.loop-byte-test.true c.in-41.is in
    record { places = (omega (arith, w.enough, w.fits), w.inside); numbers = (w.left, w.right) }

pub unreachable-requires : goal.unreachable-requires
unreachable-requires g c =
    at_other _ g.met.K.Kind.lawful _ _ _ _ _ _ _ _ _ c.loop-byte.invariant c.loop-byte-test.true (λ e. omega arith) (λ e. omega arith) (λ e. omega arith)

pub loop-byte-preserved : goal.loop-byte-preserved
loop-byte-preserved g c =
    let law = g.met.K.Kind.lawful in
    let s = c.loop-byte.invariant in
    let t = c.loop-byte-test.true in
    elim c.match-byte.branch [
      | in-46 w ↦ moved _ law _ _ _ (at_dot _ law _ _ _ _ _ _ _ _ _ s t w.in-46.is) w.slots-is w.column-is w.next-is w.held-is w.pairs-is
      | in-40 w ↦ moved _ law _ _ _ (at_open _ law _ _ _ _ _ _ _ _ _ s t w.in-40.is) w.slots-is w.column-is w.next-is w.held-is w.pairs-is
      | in-41 w ↦
          moved _ law _ _ _ (at_close _ law _ _ _ _ _ _ _ _ _ s t w.in-41.is)
          (w.slots-is ∙ w.add_pair.ensures.slots) (w.column-is ∙ w.add_pair.ensures.column) w.next-is w.held-is w.pairs-is
    ]

pub add_lead-requires : goal.add_lead-requires
add_lead-requires g c =
    let law = g.met.K.Kind.lawful in
    let s = c.loop-byte.invariant in
    record {
      count = omega (arith, c.requires.count.0, s.same);
      numbers = (
        lead_number _ law _ _ _ _ _ _ _ _ _ s c.requires.count.0 c.requires.numbers,
        whole_number _ law _ _ _ _ _ _ _ _ _ s c.loop-byte-test.false c.requires.numbers,
      );
    }

pub returns : goal.returns
returns g c =
    let law = g.met.K.Kind.lawful in
    let s = c.loop-byte.invariant in
    let after = c.add_lead.ensures in
    record {
      slots =
          subst (Passed g.K.Kind c.args.plan.now c.args.slots.now) (sym after)
          (at_end _ law _ _ _ _ _ _ _ _ _ s c.loop-byte-test.false c.requires.count.0);
      column = cleared _ law _ _ _ _ _ _ _ _ _ s _ _ (ap length after ∙ same_after _ law _ _ _ _ _ _ _ _ _ s _ _) c.clear.ensures;
    }

use Rattle.std.proofs.Common.{◌≡◌, length, ℤ, refl, ap, arith, rules}
use Rattle.slips.proofs.Granting.{not_refused}
use Rattle.slips.proofs.Passing.{Kept, settle_keeps, all_cleared}
use Rattle.slips.proofs.slips.Slips.settled.Goals as goal
use Rattle.slips.proofs.slips.Slips.settled.Goals.{After-settle}
use Rattle.slips.proofs.slips.Slips.settled.Given.{Over}

kept : (g : Over) (c : After-settle g) → Kept g.K.Kind c.args.self.now.slots c.settle.new.slots
kept g c = settle_keeps g.K.Kind g.met.K.Kind.lawful _ _ _ c.args.self.now.column _ c.settle.new.column c.settle.result c.args.self.now.numbers c.settle.ensures.answer

pub invariant_of-self : goal.invariant_of-self
invariant_of-self g c =
    let s = c.args.self.now in
    let k = kept g c in record { numbers = k.numbers; few = omega (arith, k.fewer, s.few); most = s.most }

pub returns-in_err-settle : goal.returns-in_err-settle
returns-in_err-settle g c =
    let s = c.args.self.now in
    let size : length s.slots ≡ 64 = search rules in
    let room : length s.column ≡ 64 = search rules in
    absurd (not_refused g.K.Kind _ _ _ _ size room s.numbers c.requires.plan c.in_err-settle.ensures.answer.0)

pub returns : goal.returns
returns g c =
    let s = c.args.self.now in
    let size : length s.slots ≡ 64 = search rules in
    let room : length s.column ≡ 64 = search rules in
    let answer = c.in_ok-settle.ensures.answer in
    record {
      answer = answer.1.outcome;
      means = ap (λ (z : ℤ). record { total = z; entries = s.count; limit = 63 }) (kept g (goal.at.returns g c).After-settle).sum;
      left =
          record {
            settled = c.in_ok-settle.field-0;
            slots = answer.1;
            column = all_cleared (length s.slots) 64 s.column c.settle.new.column size room answer.2;
            count = refl;
          };
    }

-- The settle of the examples, pass by pass.
use Rattle.std.proofs.Common.{◌≡◌, ℕ, zero, suc, ◌^◌, List, [], ◌∷◌, take, drop, ◌≢◌, pos, ◌+ℤ◌, ◌-ℤ◌, Ok, sym, refl, ap, subst, inl, inr, lt_irrefl, arith, lit<, lit≤}
use Rattle.std.proofs.lemmas.Bool.{cases_lt}
use Rattle.std.proofs.lemmas.List.Elements.{All-from_recursion}
use Rattle.numbers.specs.Binary as formats
use Rattle.numbers.specs.Nearest as nearest
use Rattle.numbers.proofs.Binary as binary
use Rattle.numbers.proofs.Laws.{lawful}
use Rattle.kinds.specs.Answer.{answered}
use Rattle.plans.specs.Plan.{Plan, dot, pair}
use Rattle.slots.specs.Pass.{exact_sum}
use Rattle.slots.proofs.Keeps.{Number}
use Rattle.settle.specs.Seen.{Below, Under, Peak}
use Rattle.settle.specs.Settle.{passes}
use Rattle.settle.specs.Test.{Reach, some, Rejects}
use Rattle.settle.proofs.Powers.{ceiling_of, under_weaker}
use Rattle.settle.proofs.Settling.{nearest_read}
use Rattle.cases.specs.Examples.{binary64, slots, settled, OfSettling}
use Rattle.cases.proofs.Plans.{no_plan_lem}

peak_of : (xs : List ℕ) (p : ℕ) → Under binary64 (suc p) xs → (Under binary64 p xs → ⊥) → Peak binary64 xs (suc p)
peak_of xs p u n =
    record { under = u; least = λ q v. elim (cases_lt p q) [ inl a ↦ a | inr a ↦ absurd (n (under_weaker binary64 q p xs a v)) ] }

abbrev plan : Plan
plan = pair (pair dot dot) dot

abbrev after : ℕ → List ℕ
after n = passes binary64 plan n slots

-- from the second pass on nothing changes
same : (n : ℕ) → after (suc (suc n)) ≡ settled
unfolding formats.is_number formats.worth formats.pattern nearest.nearest
same zero = refl
same (suc n) = ap (λ (xs : List ℕ). passes binary64 plan 1 xs) (same n)

-- behind the rest stand one cubic metre and one unit at first
early : Reach binary64 (0x3FF0_0000_0000_0000 ∷ (1 ∷ [])) (2 ^ 1076)
unfolding formats.worth
early =
    some 1 1075 (lit< tt) (ceiling_of 2 1 (lit≤ tt) (lit< tt))
    (peak_of (0x3FF0_0000_0000_0000 ∷ (1 ∷ [])) 1074 (All-from_recursion (Below binary64 1075) (0x3FF0_0000_0000_0000 ∷ (1 ∷ [])) (lit< tt, (lit< tt, tt)))
    (λ u. lt_irrefl (2 ^ 1074) (u 0 0 (lit≤ tt))))

-- and then one unit alone
late : Reach binary64 (0 ∷ (1 ∷ [])) 2
unfolding formats.worth
late =
    some 0 1 (lit< tt) (ceiling_of 1 0 (lit≤ tt) (lit< tt))
    (peak_of (0 ∷ (1 ∷ [])) 0 (All-from_recursion (Below binary64 1) (0 ∷ (1 ∷ [])) (lit< tt, (lit< tt, tt))) (λ u. lt_irrefl 1 (u 1 0 (lit≤ tt))))

rejects_by : (xs : List ℕ) (high low bound : ℕ) → high ≢ low → Reach binary64 (drop 2 xs) bound
    → Ok high ≡ answered (binary64.outcome (exact_sum binary64 (take 2 xs) +ℤ pos bound)) → Ok low ≡ answered (binary64.outcome (exact_sum binary64 (take 2 xs) -ℤ pos bound))
    → Rejects binary64 xs
rejects_by xs high low bound n r h l = (Ok high, (Ok low, (record { bound = bound; reach = r; higher = h; lower = l }, λ e. n cc)))

-- in the first two passes slots 0 and 1 have one sum
rejects_early : (a b : ℕ) → exact_sum binary64 (a ∷ (b ∷ [])) ≡ exact_sum binary64 (take 2 slots) → Rejects binary64 (a ∷ (b ∷ drop 2 slots))
unfolding formats.worth formats.pattern nearest.nearest nearest.outcome
rejects_early a b e =
    rejects_by (a ∷ (b ∷ drop 2 slots)) 0x4340_0000_0000_0002 0x433F_FFFF_FFFF_FFFC (2 ^ 1076) (λ (x : 0x4340_0000_0000_0002 ≡ 0x433F_FFFF_FFFF_FFFC). omega arith) early
    (ap (λ s. answered (binary64.outcome (s +ℤ pos (2 ^ 1076)))) (sym e))
    (ap (λ s. answered (binary64.outcome (s -ℤ pos (2 ^ 1076)))) (sym e))

rejects_settled : Rejects binary64 settled
unfolding formats.worth formats.pattern nearest.nearest nearest.outcome
rejects_settled =
    rejects_by settled 0x4340_0000_0000_0001 0x4340_0000_0000_0000 2 (λ (x : 0x4340_0000_0000_0001 ≡ 0x4340_0000_0000_0000). omega arith) late refl refl

rejects : (i : ℕ) → Rejects binary64 (after i)
unfolding formats.is_number formats.worth formats.pattern nearest.nearest
rejects zero = rejects_early 0 0x4340_0000_0000_0000 refl
rejects (suc zero) = rejects_early 0x4340_0000_0000_0000 0 refl
rejects (suc (suc n)) = subst (Rejects binary64) (sym (same n)) rejects_settled

pub of_settling : OfSettling
unfolding formats.is_number formats.worth formats.pattern nearest.nearest nearest.outcome
of_settling = record {
  by_register = λ a b c d e. (
    record { count = (lit≤ tt, lit≤ tt); numbers = All-from_recursion (Number binary64) slots (tt, (tt, (tt, (tt, tt)))); room = lit≤ tt; plan = record { plan = plan; written = refl; counted = refl } },
    record {
      by = plan;
      written = refl;
      counted = refl;
      outcome = refl;
      nearest = nearest_read binary64 (lawful (formats.binary formats.binary64) (binary.codes formats.binary64 refl (lit< tt))) (exact_sum binary64 slots);
      most = lit≤ tt;
      left = sym (same 6);
      earlier = λ i h. rejects i;
      ended = (refl, rejects_settled);
    },
    refl,
  );
  no_plan = no_plan_lem;
}

-- From one part read to what is answered of the whole text.
use Rattle.std.proofs.Common.{◌≡◌, ℕ, ◌+◌, ◌-◌, ◌*◌, ◌<◌, ◌≤◌, List, [], ◌∷◌, ◌++◌, length, take, drop, Err, sym, refl, ap, ◌∙◌, subst, inl, inr, append_assoc, append-nil, arith, length-take, take_all, take-add}
use Rattle.std.specs.List.{between}
use Rattle.std.proofs.lemmas.Bool.{cases_lt}
use Rattle.plans.specs.declared.reads.Stand.{Stand}
use Rattle.plans.specs.Plan.{text, Sized, IsPlan, Begins}
use Rattle.plans.specs.Goals.{plan, Written, Starts, PartRead, PartStopped, WholeAnswer}
use Rattle.plans.proofs.Texts.{text_length}

-- a plan as the only goal
whole : (n : ℕ) (s : List ℕ) → Written (plan ∷ []) s n → IsPlan n s
whole n s (p, (u, (j, (e, f, (none, z))))) =
    record {
      plan = p;
      written = sym (e ∙ ap (λ v. text p ++ v) none ∙ append-nil (text p));
      counted = omega (arith, f, z);
    }

unwhole : (n : ℕ) (s : List ℕ) → IsPlan n s → Written (plan ∷ []) s n
unwhole n s i = (i.plan, ([], (0, (sym i.written ∙ sym (append-nil (text i.plan)), omega (arith, i.counted), (refl, refl)))))

begins : (n : ℕ) (u : List ℕ) → Starts (plan ∷ []) n u → Begins n u
begins n u (t, w) = let i = whole n (u ++ t) w in record { plan = i.plan; rest = t; written = i.written; counted = i.counted }

starts : (n : ℕ) (u : List ℕ) → Begins n u → Starts (plan ∷ []) n u
starts n u b = (b.rest, unwhole n (u ++ b.rest) (record { plan = b.plan; written = b.written; counted = b.counted }))

from_start : (s : List ℕ) (e : ℕ) → between 0 e s ≡ take e s
from_start s e = let z : e - 0 ≡ e = omega arith in ap (λ n. take n s) z

-- a shorter start begins a plan too
pub shorter : (n : ℕ) (s : List ℕ) (i j : ℕ) → i ≤ j → Begins n (take j s) → Begins n (take i s)
shorter n s i j h b =
    let a : i + (j - i) ≡ j = omega arith in
    let cut : take j s ≡ take i s ++ take (j - i) (drop i s) = ap (λ m. take m s) (sym a) ∙ take-add i (j - i) s in
    record {
      plan = b.plan;
      rest = take (j - i) (drop i s) ++ b.rest;
      written = b.written ∙ ap (λ x. x ++ b.rest) cut ∙ append_assoc (take i s) (take (j - i) (drop i s)) b.rest;
      counted = b.counted;
    }

pub refused : (n : ℕ) (s : List ℕ) (e : ℕ) → PartStopped s 0 n 0 e → WholeAnswer n s (Err e)
refused n s e p =
    let q = p.stops [] refl in
    let stuck : (j : ℕ) → e < j → j ≤ length s → Begins n (take j s) → ⊥ =
    λ j lt le b.
    let h : e + 1 ≤ j = omega (arith, lt) in
    let i : e < length s = omega (arith, lt, le) in
    q.no_more i (starts n (between 0 (e + 1) s) (subst (Begins n) (sym (from_start s (e + 1))) (shorter n s (e + 1) j h b)))
    in
    let all : take (length s) s ≡ s = take_all (length s) s (omega arith) in (
      λ i.
          elim (cases_lt e (length s)) [
            | inl lt ↦ stuck (length s) lt (omega arith) (record { plan = i.plan; rest = []; written = i.written ∙ sym all ∙ sym (append-nil (take (length s) s)); counted = i.counted })
            | inr ge ↦
                let same : e ≡ length s = omega (arith, ge, p.within) in
                q.no_whole same (subst (λ x. Written (plan ∷ []) x n) (sym (from_start s e ∙ ap (λ m. take m s) same ∙ all)) (unwhole n s i))
          ],
      record {
        within = p.within;
        begins = subst (Begins n) (from_start s e) (begins n (between 0 e s) q.starts);
        longest = λ j le b. elim (cases_lt e j) [ inl lt ↦ absurd (stuck j lt le b) | inr ge ↦ ge ];
      },
    )

-- a plan of n dots has as many bytes as the text, so it is the whole text
pub granted : (n : ℕ) (s : List ℕ) (z : Stand) → Sized n s → PartRead s 0 n 0 z → IsPlan n s
granted n s z len p =
    let none : z.left ≡ 0 = elim p.ready [ inl q ↦ q.1 | inr q ↦ absurd (omega (arith, q.0)) ] in
    let w : Written (plan ∷ []) (between 0 z.at s ++ []) n = (p.reads [] refl []).1 (refl, none) in
    let i : IsPlan n (take z.at s) = whole n (take z.at s) (subst (λ x. Written (plan ∷ []) x n) (append-nil (between 0 z.at s) ∙ from_start s z.at) w) in
    let long : length (take z.at s) + 2 ≡ 3 * n = ap (λ x. length x + 2) (sym i.written) ∙ text_length i.plan ∙ ap (λ m. 3 * m) i.counted in
    let most : length (take z.at s) ≤ z.at = simp length-take (omega arith) in
    let all : length s ≤ z.at = omega (arith, long, len, most) in
    subst (IsPlan n) (take_all z.at s all) i

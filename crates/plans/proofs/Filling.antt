-- What a text holds whose places were written one after the other.
use Rattle.std.proofs.Common.{◌≡◌, ℕ, suc, ◌+◌, ◌-◌, ◌≤◌, List, [], ◌∷◌, ◌++◌, length, take, drop, set, refl, ap, ◌∙◌, append_assoc, arith, length-append, length-drop, length-set, length-take}
use borrow.Rule.Slice.PartMut.{put_mid}
use lib.Seq.{set_split}
use Rattle.std.proofs.lemmas.List.{drop_all}
use Rattle.std.proofs.lemmas.Slice.{take-put_mid}

-- a byte in place of the only one
pub one_filled : (xs : List ℕ) (b : ℕ) → length xs ≡ 1 → set xs 0 b ≡ b ∷ []
one_filled [] b h = absurd (omega arith)
one_filled (x ∷ []) b h = refl
one_filled (x ∷ (y ∷ ys)) b h = absurd (omega arith)

length_put_mid : (i k : ℕ) (xs ys : List ℕ) → length ys ≡ k → i + k ≤ length xs → length (put_mid i k xs ys) ≡ length xs
length_put_mid i k xs ys e h = simp (length-append, length-take, length-drop) (omega arith)

first_set : (xs : List ℕ) (b : ℕ) → 1 ≤ length xs → take 1 (set xs 0 b) ≡ b ∷ []
first_set [] b h = absurd (omega arith)
first_set (x ∷ xs) b h = refl

-- an opening bracket, two parts and a closing bracket fill the text
pub pair_filled : (xs a b : List ℕ) (mid end : ℕ) → mid ≡ 1 + length a → end ≡ mid + length b → length xs ≡ end + 1
    → set (put_mid mid (end - mid) (put_mid 1 (mid - 1) (set xs 0 40) a) b) end 41 ≡ 40 ∷ (a ++ (b ++ (41 ∷ [])))
pair_filled xs a b mid end e f l =
    let opened = set xs 0 40 in
    let first = put_mid 1 (mid - 1) opened a in
    let second = put_mid mid (end - mid) first b in
    let n₀ : length opened ≡ end + 1 = simp length-set (omega arith) in
    let n₁ : length first ≡ end + 1 = length_put_mid 1 (mid - 1) opened a (omega arith) (omega arith) ∙ n₀ in
    let n₂ : length second ≡ end + 1 = length_put_mid mid (end - mid) first b (omega arith) (omega arith) ∙ n₁ in
    let front : take end second ≡ (40 ∷ a) ++ b =
    take-put_mid mid (end - mid) first b end f (omega arith)
    ∙ ap (λ x. x ++ b) (take-put_mid 1 (mid - 1) opened a mid e (omega arith) ∙ ap (λ x. x ++ a) (first_set xs 40 (omega arith)))
    in
    set_split second end 41 (omega arith)
    ∙ ap (λ x. x ++ (41 ∷ drop (suc end) second)) front
    ∙ ap (λ x. ((40 ∷ a) ++ b) ++ (41 ∷ x)) (drop_all (suc end) second (omega arith))
    ∙ append_assoc (40 ∷ a) b (41 ∷ [])

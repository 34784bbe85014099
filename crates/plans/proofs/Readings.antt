-- How readings join, and where they stop.
use Rattle.std.proofs.Common.{◌≡◌, ℕ, ◌+◌, ◌-◌, ◌<◌, ◌≤◌, List, [], ◌∷◌, ◌++◌, length, get_or, take, drop, sym, refl, ap, ◌∙◌, subst, append_assoc, append-nil, arith, drop-drop, take-add}
use Rattle.std.specs.List.{between}
use Rattle.std.proofs.lemmas.List.Edits.{between_none, between_more}
use Rattle.plans.specs.Plan.{dot}
use Rattle.plans.specs.Goals.{Goal, plan, close, Written, plans, Ready, Reads, Stops}
use Rattle.plans.proofs.Bytes.{dot_in, open_in, open_out, close_in, fill}

pub reads_then : (g₁ g₂ g₃ : List Goal) (k₁ k₂ k₃ : ℕ) (u v : List ℕ) → Reads g₁ k₁ u g₂ k₂ → Reads g₂ k₂ v g₃ k₃ → Reads g₁ k₁ (u ++ v) g₃ k₃
reads_then g₁ g₂ g₃ k₁ k₂ k₃ u v r s t = (
  λ w. (s t).0 ((r (v ++ t)).0 (subst (λ x. Written g₁ x k₁) (append_assoc u v t) w)),
  λ w. subst (λ x. Written g₁ x k₁) (sym (append_assoc u v t)) ((r (v ++ t)).1 ((s t).1 w)),
)

pub dot_reads : (g : List Goal) (k j : ℕ) → k ≡ 1 + j → Reads (plan ∷ g) k (46 ∷ []) g j
dot_reads g k j e t = (
  λ w. let r = dot_in g t k w in let same : r.0 ≡ j = omega (arith, r.1.0, e) in subst (λ i. Written g t i) same r.1.1,
  λ w. (dot, (t, (j, (refl, e, w)))),
)

pub open_reads : (g : List Goal) (k : ℕ) → Reads (plan ∷ g) k (40 ∷ []) (plan ∷ (plan ∷ (close ∷ g))) k
open_reads g k t = (open_in g t k, open_out g t k)

pub close_reads : (g : List Goal) (k : ℕ) → Reads (close ∷ g) k (41 ∷ []) g k
close_reads g k t = (close_in g t k, λ w. (t, (refl, w)))

-- parts of the text
pub one_byte : (s : List ℕ) (i b : ℕ) → i < length s → get_or s i 0 ≡ b → between i (i + 1) s ≡ b ∷ []
one_byte s i b h e = between_more s i i 0 (omega arith) h ∙ ap (λ u. u ++ (get_or s i 0 ∷ [])) (between_none s i) ∙ ap (λ c. c ∷ []) e

pub between_then : (s : List ℕ) (i j l : ℕ) → i ≤ j → j ≤ l → between i j s ++ between j l s ≡ between i l s
between_then s i j l h k =
    let a : i + (j - i) ≡ j = omega arith in
    let b : (j - i) + (l - j) ≡ l - i = omega arith in
    sym (ap (λ n. take n (drop i s)) (sym b) ∙ take-add (j - i) (l - j) (drop i s)
    ∙ ap (λ x. take (j - i) (drop i s) ++ take (l - j) x) (drop-drop (j - i) i s ∙ ap (λ n. drop n s) a))

-- what is read first moves the place where the reading stops no further
pub stops_after : (s : List ℕ) (i j e : ℕ) (g g' : List Goal) (k k' : ℕ) → i ≤ j → j ≤ e → Reads g k (between i j s) g' k' → Stops s j g' k' e → Stops s i g k e
stops_after s i j e g g' k k' h l r q =
    let joined : (m : ℕ) → j ≤ m → (t : List ℕ) → between i m s ++ t ≡ between i j s ++ (between j m s ++ t) =
    λ m n t. ap (λ x. x ++ t) (sym (between_then s i j m h n)) ∙ append_assoc (between i j s) (between j m s) t
    in
    record {
      starts =
          let t = q.starts.0 in
          (t, subst (λ x. Written g x k) (sym (joined e l t)) ((r (between j e s ++ t)).1 q.starts.1));
      no_more = λ b w.
          let n : j ≤ e + 1 = omega arith in
          q.no_more b (w.0, (r (between j (e + 1) s ++ w.0)).0 (subst (λ x. Written g x k) (joined (e + 1) n w.0) w.1));
      no_whole = λ b w.
          let v : Written g (between i e s ++ []) k = subst (λ x. Written g x k) (sym (append-nil (between i e s))) w in
          let y : Written g' (between j e s ++ []) k' = (r (between j e s ++ [])).0 (subst (λ x. Written g x k) (joined e l []) v) in
          q.no_whole b (subst (λ x. Written g' x k') (append-nil (between j e s)) y);
    }

-- nothing is read: the goals can be met, and neither with this byte next nor with nothing
pub stops_here : (s : List ℕ) (e : ℕ) (g : List Goal) (k : ℕ) → Ready (plans g) k → (e < length s → (t : List ℕ) → Written g (get_or s e 0 ∷ t) k → ⊥) → (Written g [] k → ⊥) → Stops s e g k e
stops_here s e g k h n m =
    record {
      starts = let r = fill g k h in (r.0, subst (λ x. Written g (x ++ r.0) k) (sym (between_none s e)) r.1);
      no_more = λ b w. n b w.0 (subst (λ x. Written g (x ++ w.0) k) (one_byte s e (get_or s e 0) b refl) w.1);
      no_whole = λ b w. m (subst (λ x. Written g x k) (between_none s e) w);
    }

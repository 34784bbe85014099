-- The words of slots and column in the midst of a pass.
use Rattle.std.proofs.Common.{◌≡◌, ℕ, ◌+◌, ◌-◌, ◌<◌, ◌≤◌, T, ◌≢◌, List, [], ◌∷◌, ◌++◌, length, get_or, take, drop, set, replicate, sym, refl, ap, ◌∙◌, subst, ap₂, subst₂, append_assoc, arith, length-append, length-drop, length-set, length-take, get_or-drop, take_all, get_or-set_other, get_or-take, take-take, drop-drop, take_at, drop-set-lt}
use lib.Seq.{drop-set-add, get_or_at}
use Rattle.std.proofs.lemmas.List.{drop_more, drop_all, take_more_set}
use Rattle.std.proofs.lemmas.List.Elements.{All-drop}
use Rattle.numbers.specs.Lawful.{Lawful}
use Rattle.kinds.specs.declared.kind.Kind.{Ghosts}
use Rattle.plans.specs.Plan.{Plan, text, dots, IsPlan}
use Rattle.slots.specs.Pass.{sum_of, rest_of, value, remains, passed, Passed, Numbers, Cleared}
use Rattle.slots.proofs.Keeps.{Number, value_number, length_remains}
use Rattle.slots.proofs.Todo.{After, start, step_open, step_dot, step_close, step_other, finish}

-- i bytes are read; the values that wait stand in the column, the slots from `next` on are not read yet, and the remainders stand from slot 2 on
pub record Standing {K : Type 0} (k : Ghosts K) (plan before fresh : List ℕ) (i next held pairs : ℕ) (slots column : List ℕ) : Type 0 where
  pub by : Plan
  pub written : text by ≡ plan
  pub counted : dots by + 1 ≡ length before
  pub after : After k (value k by (drop 1 before)) (remains k by (drop 1 before)) (drop i plan) (take held column) (drop next slots) (take pairs (drop 2 slots))
  pub sizes : held + pairs + 1 ≡ next
  pub within : next ≤ length before
  pub same : length slots ≡ length before
  pub wide : length before ≤ length column
  pub lead : get_or slots 0 0 ≡ get_or before 0 0
  pub beyond : drop (length before) column ≡ drop (length before) fresh

module _ {K : Type 0} (k : Ghosts K) (l : Lawful k.number k.worth k.opposite k.adder k.outcome) (plan before fresh : List ℕ) where
  abbrev S : (i next held pairs : ℕ) (slots column : List ℕ) → Type 0
  S = Standing k plan before fresh

  pub begin : 2 ≤ length before → Numbers k before → length before ≤ length fresh → IsPlan (length before - 1) plan → S 0 1 0 0 before fresh
  begin h n w p =
      let p1 : length (drop 1 before) ≡ length before - 1 = length-drop 1 before in
      let le : dots p.plan ≤ length (drop 1 before) = omega (arith, p.counted) in
      record {
        by = p.plan;
        written = p.written;
        counted = omega (arith, p.counted);
        after = subst (λ t. After k (value k p.plan (drop 1 before)) (remains k p.plan (drop 1 before)) t [] (drop 1 before) []) p.written
            (start k l _ _ p.plan (drop 1 before) le (All-drop (Number k) 1 before n) refl refl);
        sizes = refl;
        within = omega arith;
        same = refl;
        wide = w;
        lead = refl;
        beyond = refl;
      }

  module _ (i next held pairs : ℕ) (slots column : List ℕ) (s : S i next held pairs slots column) where
    v : ℕ
    v = value k s.by (drop 1 before)

    abbrev A : List ℕ → List ℕ → List ℕ → List ℕ → Type 0
    A = After k (value k s.by (drop 1 before)) (remains k s.by (drop 1 before))

    at_byte : (b : ℕ) → i < length plan → get_or plan i 0 ≡ b
        → A (b ∷ drop (i + 1) plan) (take held column) (drop next slots) (take pairs (drop 2 slots))
    at_byte b h e =
        subst (λ t. A t (take held column) (drop next slots) (take pairs (drop 2 slots))) (drop_more plan i 0 h ∙ ap (λ x. x ∷ drop (i + 1) plan) e) s.after

    pub at_open : i < length plan → get_or plan i 0 ≡ 40 → S (i + 1) next held pairs slots column
    at_open h e =
        record {
          by = s.by;
          written = s.written;
          counted = s.counted;
          after = step_open k l _ _ (drop (i + 1) plan) _ _ _ (at_byte 40 h e);
          sizes = s.sizes;
          within = s.within;
          same = s.same;
          wide = s.wide;
          lead = s.lead;
          beyond = s.beyond;
        }

    dotted : i < length plan → get_or plan i 0 ≡ 46
        → (0 < length (drop next slots)) × A (drop (i + 1) plan) (take held column ++ (get_or (drop next slots) 0 0 ∷ [])) (drop 1 (drop next slots)) (take pairs (drop 2 slots))
    dotted h e = step_dot k l _ _ (drop (i + 1) plan) _ _ _ (at_byte 46 h e)

    pub dot_room : i < length plan → get_or plan i 0 ≡ 46 → (next < length slots) × (held < length column)
    dot_room h e =
        let a = (dotted h e).0 in
        let b = length-drop next slots in
        let lt : next < length slots = omega arith in
        (lt, omega (arith, s.sizes, s.same, s.wide))

    pub at_dot : i < length plan → get_or plan i 0 ≡ 46 → S (i + 1) (next + 1) (held + 1) pairs slots (set column held (get_or slots next 0))
    at_dot h e =
        let r = dot_room h e in
        let room = r.1 in
        let y = get_or slots next 0 in
        let z : next + 0 ≡ next = omega arith in
        let e₁ : take held column ++ (get_or (drop next slots) 0 0 ∷ []) ≡ take (held + 1) (set column held y) =
        ap (λ x. take held column ++ (x ∷ [])) (get_or-drop next slots 0 0 ∙ ap (λ n. get_or slots n 0) z) ∙ sym (take_more_set column held y room)
        in
        let e₂ : drop 1 (drop next slots) ≡ drop (next + 1) slots = drop-drop 1 next slots in
        record {
          by = s.by;
          written = s.written;
          counted = s.counted;
          after = subst₂ (λ st xs. A (drop (i + 1) plan) st xs (take pairs (drop 2 slots))) e₁ e₂ (dotted h e).1;
          sizes = omega (arith, s.sizes);
          within = omega (arith, r.0, s.same);
          same = s.same;
          wide = omega (arith, s.wide, length-set column held y);
          lead = s.lead;
          beyond = drop-set-lt (length before) column held y (omega (arith, r.0, s.sizes, s.same)) ∙ s.beyond;
        }

    closed : i < length plan → get_or plan i 0 ≡ 41
        → (t : List ℕ) × ((a : ℕ) × ((b : ℕ)
        × ((take held column ≡ t ++ (a ∷ (b ∷ []))) × T (k.number a) × T (k.number b)
        × A (drop (i + 1) plan) (t ++ (sum_of k a b ∷ [])) (drop next slots) (take pairs (drop 2 slots) ++ (rest_of k a b ∷ [])))))
    closed h e = step_close k l _ _ (drop (i + 1) plan) _ _ _ (at_byte 41 h e)

    -- two values wait, and both are numbers
    pub record Two : Type 0 where
      pub enough : 2 ≤ held
      pub fits : held ≤ length column
      pub target : pairs + 2 < next
      pub inside : pairs + 2 < length slots
      pub left : T (k.number (get_or column (held - 2) 0))
      pub right : T (k.number (get_or column ((held - 2) + 1) 0))
      pub next_stands : A (drop (i + 1) plan) (take (held - 2) column ++ (sum_of k (get_or column (held - 2) 0) (get_or column ((held - 2) + 1) 0) ∷ [])) (drop next slots) (take pairs (drop 2 slots) ++ (rest_of k (get_or column (held - 2) 0) (get_or column ((held - 2) + 1) 0) ∷ []))

    pub two : i < length plan → get_or plan i 0 ≡ 41 → Two
    two h e =
        let c = closed h e in
        let t = c.0 in
        let a = c.1.0 in
        let b = c.1.1.0 in
        let q = c.1.1.1 in
        let n₁ = ap length q.0 ∙ length-append t (a ∷ (b ∷ [])) in
        let n₂ = length-take held column in
        let fit : held ≤ length column = omega (arith, s.sizes, s.within, s.wide) in
        let long : held ≡ length t + 2 = omega (arith, n₁, n₂, fit) in
        let i₁ : length t ≡ held - 2 = omega (arith, long) in
        let i₂ : length (t ++ (a ∷ [])) ≡ (held - 2) + 1 = length-append t (a ∷ []) ∙ omega (arith, long) in
        let l₁ : held - 2 < held = omega (arith, long) in
        let l₂ : (held - 2) + 1 < held = omega (arith, long) in
        let split : take held column ≡ (t ++ (a ∷ [])) ++ (b ∷ []) = q.0 ∙ sym (append_assoc t (a ∷ []) (b ∷ [])) in
        let is-a : a ≡ get_or column (held - 2) 0 =
        sym (sym (get_or-take held column (held - 2) 0 l₁) ∙ ap (λ x. get_or x (held - 2) 0) q.0 ∙ get_or_at t a (b ∷ []) 0 (held - 2) i₁)
        in
        let is_b : b ≡ get_or column ((held - 2) + 1) 0 =
        sym (sym (get_or-take held column ((held - 2) + 1) 0 l₂) ∙ ap (λ x. get_or x ((held - 2) + 1) 0) split ∙ get_or_at (t ++ (a ∷ [])) b [] 0 ((held - 2) + 1) i₂)
        in
        let is-t : t ≡ take (held - 2) column =
        sym (sym (take-take (held - 2) held column (omega arith)) ∙ ap (take (held - 2)) q.0 ∙ take_at t (a ∷ (b ∷ [])) (held - 2) i₁)
        in
        let low : pairs + 2 < next = omega (arith, long, s.sizes) in
        record {
          enough = omega (arith, long);
          fits = fit;
          target = low;
          inside = omega (arith, low, s.within, s.same);
          left = subst (λ x. T (k.number x)) is-a q.1;
          right = subst (λ x. T (k.number x)) is_b q.2;
          next_stands =
              subst (λ u. A (drop (i + 1) plan) (u ++ (sum_of k (get_or column (held - 2) 0) (get_or column ((held - 2) + 1) 0) ∷ [])) (drop next slots) (take pairs (drop 2 slots) ++ (rest_of k (get_or column (held - 2) 0) (get_or column ((held - 2) + 1) 0) ∷ []))) is-t
              (subst₂ (λ x y. A (drop (i + 1) plan) (t ++ (sum_of k x y ∷ [])) (drop next slots) (take pairs (drop 2 slots) ++ (rest_of k x y ∷ []))) is-a is_b q.3);
        }

    pub at_close : i < length plan → get_or plan i 0 ≡ 41
        → S (i + 1) next ((held - 2) + 1) (pairs + 1)
        (set slots (pairs + 2) (rest_of k (get_or column (held - 2) 0) (get_or column ((held - 2) + 1) 0)))
        (set column (held - 2) (sum_of k (get_or column (held - 2) 0) (get_or column ((held - 2) + 1) 0)))
    at_close h e =
        let w = two h e in
        let x = sum_of k (get_or column (held - 2) 0) (get_or column ((held - 2) + 1) 0) in
        let y = rest_of k (get_or column (held - 2) 0) (get_or column ((held - 2) + 1) 0) in
        let in₁ : held - 2 < length column = omega (arith, w.enough, w.fits) in
        let in₂ : pairs < length (drop 2 slots) = simp length-drop (omega (arith, w.inside)) in
        let comm : 2 + pairs ≡ pairs + 2 = omega arith in
        let e₁ : take (held - 2) column ++ (x ∷ []) ≡ take ((held - 2) + 1) (set column (held - 2) x) =
        sym (take_more_set column (held - 2) x in₁)
        in
        let e₂ : drop next slots ≡ drop next (set slots (pairs + 2) y) = sym (drop-set-lt next slots (pairs + 2) y w.target) in
        let e₃ : take pairs (drop 2 slots) ++ (y ∷ []) ≡ take (pairs + 1) (drop 2 (set slots (pairs + 2) y)) =
        sym (ap (λ n. take (pairs + 1) (drop 2 (set slots n y))) (sym comm) ∙ ap (take (pairs + 1)) (drop-set-add 2 slots pairs y) ∙ take_more_set (drop 2 slots) pairs y in₂)
        in
        let ne : 0 ≢ pairs + 2 = omega arith in
        record {
          by = s.by;
          written = s.written;
          counted = s.counted;
          after =
              subst (λ o. A (drop (i + 1) plan) (take ((held - 2) + 1) (set column (held - 2) x)) (drop next (set slots (pairs + 2) y)) o) e₃
              (subst₂ (λ st xs. A (drop (i + 1) plan) st xs (take pairs (drop 2 slots) ++ (y ∷ []))) e₁ e₂ w.next_stands);
          sizes = omega (arith, s.sizes, w.enough);
          within = s.within;
          same = length-set slots (pairs + 2) y ∙ s.same;
          wide = omega (arith, s.wide, length-set column (held - 2) x);
          lead = get_or-set_other slots (pairs + 2) 0 y 0 ne ∙ s.lead;
          beyond = drop-set-lt (length before) column (held - 2) x (omega (arith, s.sizes, s.within, w.enough)) ∙ s.beyond;
        }

    pub at_other : i < length plan → (get_or plan i 0 ≡ 46 → ⊥) → (get_or plan i 0 ≡ 40 → ⊥) → (get_or plan i 0 ≡ 41 → ⊥) → ⊥
    at_other h x y z = step_other k l _ _ (get_or plan i 0) (drop (i + 1) plan) _ _ _ (at_byte _ h refl) x y z

    done : length plan ≤ i → (take held column ≡ value k s.by (drop 1 before) ∷ []) × (take pairs (drop 2 slots) ≡ remains k s.by (drop 1 before))
    done h =
        finish k l _ _ _ _ _
        (subst (λ t. A t (take held column) (drop next slots) (take pairs (drop 2 slots))) (drop_all i plan h) s.after)

    -- at the end the value of the whole plan stands first in the column
    pub whole : length plan ≤ i → get_or column 0 0 ≡ value k s.by (drop 1 before)
    whole h =
        let d = (done h).0 in
        let n₁ = ap length d in
        let n₂ = length-take held column in
        let lt : 0 < held = omega (arith, n₁, n₂) in
        sym (get_or-take held column 0 0 lt) ∙ ap (λ x. get_or x 0 0) d

    pub whole_number : length plan ≤ i → Numbers k before → T (k.number (get_or column 0 0))
    whole_number h n =
        let le : dots s.by ≤ length (drop 1 before) = simp length-drop (omega (arith, s.counted)) in
        subst (λ x. T (k.number x)) (sym (whole h)) (value_number k l s.by (drop 1 before) le (All-drop (Number k) 1 before n))

    pub lead_number : 2 ≤ length before → Numbers k before → T (k.number (get_or slots 0 0))
    lead_number h n = subst (λ x. T (k.number x)) (sym s.lead) (n 0 0 (omega arith))

    two_first : (xs : List ℕ) (x y : ℕ) → 2 ≤ length xs → set (set xs 0 x) 1 y ≡ x ∷ (y ∷ drop 2 xs)
    two_first [] x y h = absurd (omega arith)
    two_first (a ∷ []) x y h = absurd (omega arith)
    two_first (a ∷ (b ∷ xs)) x y h = refl

    passed_is : (xs : List ℕ) (p : Plan) → 2 ≤ length xs
        → passed k p xs ≡ sum_of k (get_or xs 0 0) (value k p (drop 1 xs)) ∷ (rest_of k (get_or xs 0 0) (value k p (drop 1 xs)) ∷ remains k p (drop 1 xs))
    passed_is [] p h = absurd (omega arith)
    passed_is (x ∷ xs) p h = refl

    pub at_end : length plan ≤ i → 2 ≤ length before
        → Passed k plan before (set (set slots 0 (sum_of k (get_or slots 0 0) (get_or column 0 0))) 1 (rest_of k (get_or slots 0 0) (get_or column 0 0)))
    at_end h two =
        let x = sum_of k (get_or slots 0 0) (get_or column 0 0) in
        let y = rest_of k (get_or slots 0 0) (get_or column 0 0) in
        let d = (done h).1 in
        let n₁ = ap length d in
        let n₂ = length-take pairs (drop 2 slots) in
        let n₃ = length-drop 2 slots in
        let n₄ = length_remains k s.by (drop 1 before) in
        let long : length (drop 2 slots) ≤ pairs = omega (arith, n₁, n₂, n₃, n₄, s.counted, s.same) in
        let all : drop 2 slots ≡ remains k s.by (drop 1 before) = sym (take_all pairs (drop 2 slots) long) ∙ d in
        let v = whole h in
        record {
          by = s.by;
          written = s.written;
          counted = s.counted;
          made =
              two_first slots x y (omega (arith, s.same)) ∙ ap (λ t. x ∷ (y ∷ t)) all
              ∙ ap₂ (λ x' y'. x' ∷ (y' ∷ remains k s.by (drop 1 before)))
              (ap₂ (sum_of k) s.lead v) (ap₂ (rest_of k) s.lead v)
              ∙ sym (passed_is before s.by two);
        }

    pub cleared : (after w : List ℕ) → length after ≡ length before → Cleared (length after) column w → Cleared (length before) fresh w
    cleared after w n e = e ∙ ap (λ m. replicate m 0 ++ drop m column) n ∙ ap (λ t. replicate (length before) 0 ++ t) s.beyond

    pub same_after : (x y : ℕ) → length (set (set slots 0 x) 1 y) ≡ length before
    same_after x y = length-set (set slots 0 x) 1 y ∙ length-set slots 0 x ∙ s.same

  pub moved : {i next next' held held' pairs pairs' : ℕ} {slots slots' column column' : List ℕ} → S i next held pairs slots column
      → slots' ≡ slots → column' ≡ column → next' ≡ next → held' ≡ held → pairs' ≡ pairs → S i next' held' pairs' slots' column'
  moved {i} {next} {next'} {held} {held'} {pairs} {pairs'} {slots} {slots'} {column} {column'} s a b c d e =
      subst (λ x. S i next' held' pairs' x column') (sym a)
      (subst (λ x. S i next' held' pairs' slots x) (sym b)
      (subst (λ x. S i x held' pairs' slots column) (sym c)
      (subst₂ (λ x y. S i next x y slots column) (sym d) (sym e) s)))

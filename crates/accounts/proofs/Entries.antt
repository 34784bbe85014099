-- An account that means what its accepted entries come to, before and after an entry.
use Rattle.std.proofs.Common.{◌≡◌, ℕ, ◌+◌, Bool, true, false, cond, List, [], ◌∷◌, ◌++◌, length, ℤ, pos, ◌+ℤ◌, is_ok, Option, Result, sym, refl, ap, ◌∙◌}
use lib.IntN.{+ℤ_assoc, +ℤ_comm, +ℤ_idr}
use Rattle.std.proofs.lemmas.List.{length_push}
use Rattle.std.proofs.lemmas.List.Sums.{fold_push}
use Rattle.std.proofs.lemmas.List.{map-id}
use Rattle.std.proofs.lemmas.Iterator.{YieldsList, items_from_drains}
use Rattle.std.specs.Iterator.{Drains}
use Rattle.join.proofs.Orders.{reordered}
use Rattle.kinds.specs.declared.kind.Kind.{Ghosts}
use Rattle.accounts.specs.Meaning.{Meaning, with_entry, entry_answer}
use Rattle.accounts.specs.Entries.{sum_of, meant, entered, accepted, AnyOrder, Readings}
use Rattle.accounts.specs.declared.readings.Entry.{Entry}
use Rattle.kinds.specs.Answer.{answered}
use Rattle.refusals.specs.declared.Refusal.{Refusal}

pub any_order_lem : AnyOrder
any_order_lem ws vs p = reordered +ℤ_assoc +ℤ_comm +ℤ_idr p

-- what a chain gives that yields a list of entries
pub drained : {S : Type 0} {steps : S → Option Entry → S → Type 0} {s : S} {all : List Entry} (es : List Entry) → Drains steps s es → YieldsList steps (λ e. e) s all → es ≡ all
drained es d y = sym (map-id es) ∙ items_from_drains es (d.1.0, d.1.1, λ _. (d.0, d.1.2)) y

-- two accounts that read what their accepted entries come to
pub readings_alike : {K : Type 0} (k : Ghosts K) (most more : ℕ) (first second : List Entry) (one other : Result ℕ Refusal)
    → one ≡ answered (k.outcome (sum_of (accepted k most first))) → other ≡ answered (k.outcome (sum_of (accepted k more second))) → Readings k most more first second one other
readings_alike k most more first second one other e f =
    let alike : sum_of (accepted k most first) ≡ sum_of (accepted k more second) → one ≡ other = λ h. e ∙ ap (λ (z : ℤ). answered (k.outcome z)) h ∙ sym f in
    record { exact_one = e; exact_other = f; alike = alike; any_order = λ r. alike (any_order_lem _ _ r) }

abbrev mean : ℤ → ℕ → ℕ → Meaning
mean t n l = record { total = t; entries = n; limit = l }

-- one entry more
pub meant_push : (most : ℕ) (ws : List ℤ) (w : ℤ) → with_entry w (meant most ws) ≡ meant most (ws ++ w ∷ [])
meant_push most ws w =
    ap (λ (t : ℤ). mean t (length ws + 1) most) (sym (fold_push ◌+ℤ◌ (pos 0) ws w))
    ∙ ap (λ (n : ℕ). mean (sum_of (ws ++ w ∷ [])) n most) (sym (length_push ws w))

either : (t : Bool) (most : ℕ) (ws : List ℤ) (w : ℤ) → cond t (with_entry w (meant most ws)) (meant most ws) ≡ meant most (cond t (ws ++ w ∷ []) ws)
either true most ws w = meant_push most ws w
either false most ws w = refl

-- an entry of worth w was asked for, and the account did what its meaning says
pub entered_means : {K : Type 0} (k : Ghosts K) (most p : ℕ) (w : ℤ) (ws : List ℤ) (m n : Meaning)
    → m ≡ meant most ws → n ≡ cond (is_ok (entry_answer k p m)) (with_entry w m) m → n ≡ meant most (entered k most p w ws)
entered_means k most p w ws m n e f =
    f ∙ ap (λ (x : Meaning). cond (is_ok (entry_answer k p x)) (with_entry w x) x) e ∙ either (is_ok (entry_answer k p (meant most ws))) most ws w

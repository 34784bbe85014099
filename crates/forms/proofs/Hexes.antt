-- Hexadecimal digits, one by one.
use Rattle.std.proofs.Common.{◌≡◌, ℕ, zero, suc, ◌+◌, ◌*◌, ◌/◌, ◌%◌, ◌^◌, ◌<◌, ◌≤◌, List, [], ◌∷◌, ◌++◌, length, get_or, sym, refl, ap, ◌∙◌, subst, mod-lt, pow-suc, add-one, arith}
use native.Mathlib.Nat.{pow-le-pow_right}
use lib.Arith.{digits_lt, digits_div, digits_mod}
use Rattle.std.specs.List.{All}
use Rattle.std.proofs.lemmas.List.{length_push}
use Rattle.std.proofs.lemmas.List.Elements.{All-nil, All-cons, All-append}
use Rattle.forms.specs.Text.{digit_text, hex_text, NoText}

pub length_hex : (k n : ℕ) → length (hex_text k n) ≡ k
length_hex zero n = refl
length_hex (suc k) n =
    length_push (hex_text k (n / 16)) (digit_text (n % 16)) ∙ ap (λ m. m + 1) (length_hex k (n / 16)) ∙ add-one k

abbrev IsDigit : ℕ → Type 0
IsDigit b = (d : ℕ) × ((d < 16) × (b ≡ digit_text d))

digits : (k n : ℕ) → All IsDigit (hex_text k n)
digits zero n = All-nil IsDigit
digits (suc k) n =
    let last : IsDigit (digit_text (n % 16)) = (n % 16, (mod-lt n (omega arith), refl)) in
    All-append IsDigit (hex_text k (n / 16)) (digit_text (n % 16) ∷ []) (digits k (n / 16)) (All-cons IsDigit (digit_text (n % 16)) [] last (All-nil IsDigit))

-- a byte that is no digit stands in no number
pub no_hex : (k : ℕ) (xs : List ℕ) (i : ℕ) → i < k → ((d : ℕ) → d < 16 → get_or xs i 0 ≡ digit_text d → ⊥) → NoText (hex_text k) xs
no_hex k xs i h none n e =
    let r = digits k n i 0 (omega (arith, length_hex k n)) in none r.0 r.1.0 (ap (λ ys. get_or ys i 0) e ∙ r.1.1)

-- one digit more
pub hex_push : (k n d : ℕ) → d < 16 → hex_text k n ++ (digit_text d ∷ []) ≡ hex_text (k + 1) (n * 16 + d)
hex_push k n d h =
    ap (λ q. hex_text k q ++ (digit_text d ∷ [])) (sym (digits_div n h))
    ∙ ap (λ r. hex_text k ((n * 16 + d) / 16) ++ (digit_text r ∷ [])) (sym (digits_mod n h))
    ∙ ap (λ m. hex_text m (n * 16 + d)) (sym (add-one k))

pub hex_room : (k n d : ℕ) → d < 16 → n < 16 ^ k → n * 16 + d < 16 ^ (k + 1)
hex_room k n d h l =
    let e : 16 ^ (k + 1) ≡ 16 ^ k * 16 = ap (λ m. 16 ^ m) (add-one k) ∙ pow-suc 16 k in
    subst (λ m. n * 16 + d < m) (sym e) (digits_lt l h)

-- sixteen digits fit 64 bits
pub hex_fits : (k n d : ℕ) → d < 16 → n < 16 ^ k → k + 1 ≤ 16 → n * 16 + d < 2 ^ 64
hex_fits k n d h l s =
    let room = hex_room k n d h l in
    let top : 16 ^ (k + 1) ≤ 16 ^ 16 = pow-le-pow_right (omega arith) s in
    omega (arith, room, top)

-- Bytes fed one after the other: the lines that they end, and the line so far.
use Rattle.std.proofs.Common.{◌≡◌, ℕ, List, [], ◌∷◌, ◌++◌, sym, refl, ap, ◌∙◌, ap₂, append_assoc, append-nil}
use Rattle.std.specs.List.{All}
use Rattle.std.proofs.lemmas.List.Elements.{All-nil, All-cons, All-head, All-tail, All-append}
use Rattle.std.proofs.lemmas.Grind.{flat_map-append, fold-append}
use Rattle.session.specs.Book.{Book, reply, heard}
use Rattle.session.specs.Fed.{NoEnd, Plain, ended, replies, heard_all, Fed, Cuts, Only}

replies_append : (b : Book) (xs ys : List (List ℕ)) → replies b (xs ++ ys) ≡ replies b xs ++ replies (heard_all b xs) ys
replies_append b [] ys = refl
replies_append b (x ∷ xs) ys = ap (λ t. reply b x ++ t) (replies_append (heard b x) xs ys) ∙ sym (append_assoc (reply b x) (replies (heard b x) xs) (replies (heard_all (heard b x) xs) ys))

pub cuts : Cuts
cuts a b c line next last chunk more written later f g =
    record {
      lines = f.lines ++ g.lines;
      text =
          sym (append_assoc line chunk more) ∙ ap (λ t. t ++ more) f.text ∙ append_assoc (ended f.lines) next more ∙ ap (λ t. ended f.lines ++ t) g.text
          ∙ sym (append_assoc (ended f.lines) (ended g.lines) last) ∙ ap (λ t. t ++ last) (sym (flat_map-append (λ line. line ++ (10 ∷ [])) f.lines g.lines));
      plain = All-append Plain f.lines g.lines f.plain g.plain;
      plain_next = g.plain_next;
      answers = ap₂ ◌++◌ f.answers (g.answers ∙ ap (λ (x : Book). replies x g.lines) f.book) ∙ sym (replies_append a f.lines g.lines);
      book = g.book ∙ ap (λ (x : Book). heard_all x g.lines) f.book ∙ sym (fold-append heard a f.lines g.lines);
    }

-- nothing fed, and one byte
pub fed_none : (b : Book) (line : List ℕ) → Plain line → Fed b line [] [] b line
fed_none b line p = record { lines = []; text = append-nil line; plain = All-nil Plain; plain_next = p; answers = refl; book = refl }

pub fed_byte : (b : Book) (line : List ℕ) (x : ℕ) → Plain line → NoEnd x → Fed b line (x ∷ []) [] b (line ++ (x ∷ []))
fed_byte b line x p n =
    record {
      lines = [];
      text = refl;
      plain = All-nil Plain;
      plain_next = All-append NoEnd line (x ∷ []) p (All-cons NoEnd x [] n (All-nil NoEnd));
      answers = refl;
      book = refl;
    }

pub fed_end : (b : Book) (line : List ℕ) (x : ℕ) → Plain line → x ≡ 10 → Fed b line (x ∷ []) (reply b line) (heard b line) []
fed_end b line x p e =
    record {
      lines = line ∷ [];
      text = ap (λ (y : ℕ). line ++ (y ∷ [])) e ∙ sym (append-nil (line ++ (10 ∷ []))) ∙ sym (append-nil ((line ++ (10 ∷ [])) ++ []));
      plain = All-cons Plain line [] p (All-nil Plain);
      plain_next = All-nil NoEnd;
      answers = sym (append-nil (reply b line));
      book = refl;
    }

-- ---- one answer only
-- the first line that a text ends
first_line : (a b x y : List ℕ) → Plain a → Plain b → (a ++ 10 ∷ []) ++ x ≡ (b ++ 10 ∷ []) ++ y → (a ≡ b) × (x ≡ y)
first_line [] [] x y p q e = (refl, cc)
first_line [] (c ∷ b) x y p q e = let h : c ≡ 10 = cc in absurd (All-head NoEnd c b q h)
first_line (c ∷ a) [] x y p q e = let h : c ≡ 10 = cc in absurd (All-head NoEnd c a p h)
first_line (c ∷ a) (d ∷ b) x y p q e =
    let r = first_line a b x y (All-tail NoEnd c a p) (All-tail NoEnd d b q) (cc) in (cc r.0, r.1)

-- a text with no end in it ends no line
no_line : {A : Type 0} (a b x : List ℕ) → Plain a → a ≡ (b ++ 10 ∷ []) ++ x → A
no_line [] [] x p e = cc
no_line [] (c ∷ b) x p e = cc
no_line (c ∷ a) [] x p e = let h : c ≡ 10 = cc in absurd (All-head NoEnd c a p h)
no_line (c ∷ a) (d ∷ b) x p e = no_line a b x (All-tail NoEnd c a p) (cc)

same_lines : (ls ms : List (List ℕ)) (x y : List ℕ) → All Plain ls → All Plain ms → Plain x → Plain y → ended ls ++ x ≡ ended ms ++ y → (ls ≡ ms) × (x ≡ y)
same_lines [] [] x y p q u v e = (refl, e)
same_lines [] (m ∷ ms) x y p q u v e = no_line x m (ended ms ++ y) u (e ∙ append_assoc (m ++ 10 ∷ []) (ended ms) y)
same_lines (l ∷ ls) [] x y p q u v e = no_line y l (ended ls ++ x) v (sym e ∙ append_assoc (l ++ 10 ∷ []) (ended ls) x)
same_lines (l ∷ ls) (m ∷ ms) x y p q u v e =
    let r = first_line l m (ended ls ++ x) (ended ms ++ y) (All-head Plain l ls p) (All-head Plain m ms q) (sym (append_assoc (l ++ 10 ∷ []) (ended ls) x) ∙ e ∙ append_assoc (m ++ 10 ∷ []) (ended ms) y) in
    let s = same_lines ls ms x y (All-tail Plain l ls p) (All-tail Plain m ms q) u v r.1 in
    (ap₂ ◌∷◌ r.0 s.0, s.1)

pub only : Only
only a b c line next last chunk written later f g =
    let s = same_lines f.lines g.lines next last f.plain g.plain f.plain_next g.plain_next (sym f.text ∙ g.text) in
    record {
      answers = f.answers ∙ ap (replies a) s.0 ∙ sym g.answers;
      book = f.book ∙ ap (heard_all a) s.0 ∙ sym g.book;
      rest = s.1;
    }

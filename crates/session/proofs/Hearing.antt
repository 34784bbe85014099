-- A session that hears bytes, one after the other.
use Rattle.std.proofs.Common.{◌≡◌, ℕ, ◌+◌, ◌<◌, List, [], ◌∷◌, ◌++◌, length, get_or, take, vec_items, sym, ap, ◌∙◌, subst, append_assoc, append-nil}
use Rattle.std.proofs.lemmas.List.{take_more}
use Rattle.std.proofs.lemmas.List.Elements.{All-nil}
use Rattle.session.specs.Agree.{held, Stands, Hears}
use Rattle.session.specs.Book.{Book, reply, heard}
use Rattle.session.specs.Fed.{NoEnd, Fed}
use Rattle.session.specs.declared.session.Session.{Session}
use Rattle.session.proofs.Lines.{cuts, fed_none, fed_byte, fed_end}

module _ (b : Book) (line before : List ℕ) where
  pub hears_none : (x : Session) → Stands x b line → Hears x b line [] before before
  hears_none x s = record { written = []; book = b; next = line; fed = fed_none b line s.plain; wrote = sym (append-nil before); stands = s }

  -- the line is cleared
  pub cleared : (x y : Session) → Stands x b line → y.books ≡ x.books → vec_items y.line ≡ [] → Stands y b []
  cleared x y s e f = record { books = ap held e ∙ s.books; so_far = f; plain = All-nil NoEnd }

  -- the line has ended, and was answered
  pub hears_end : (x y : Session) (after : List ℕ) (c : ℕ) → c ≡ 10 → Stands x b line → (after ≡ before ++ reply b line) × Stands y (heard b line) []
      → Hears y b line (c ∷ []) before after
  hears_end x y after c e s h =
      record { written = reply b line; book = heard b line; next = []; fed = fed_end b line c s.plain e; wrote = h.0; stands = h.1 }

  -- any other byte makes the line longer
  pub hears_byte : (x y : Session) (c : ℕ) → NoEnd c → y.books ≡ x.books → vec_items y.line ≡ vec_items x.line ++ (c ∷ []) → Stands x b line
      → Hears y b line (c ∷ []) before before
  hears_byte x y c n e f s =
      let fed = fed_byte b line c s.plain n in
      record {
        written = [];
        book = b;
        next = line ++ (c ∷ []);
        fed = fed;
        wrote = sym (append-nil before);
        stands = record { books = ap held e ∙ s.books; so_far = f ∙ ap (λ t. t ++ (c ∷ [])) s.so_far; plain = fed.plain_next };
      }

  -- one byte of a chunk more
  pub hears_more : (x y : Session) (mid after chunk : List ℕ) (i : ℕ) → i < length chunk → (h : Hears x b line (take i chunk) before mid)
      → Hears y h.book h.next (get_or chunk i 0 ∷ []) mid after → Hears y b line (take (i + 1) chunk) before after
  hears_more x y mid after chunk i l h g =
      record {
        written = h.written ++ g.written;
        book = g.book;
        next = g.next;
        fed =
            subst (λ (t : List ℕ). Fed b line t (h.written ++ g.written) g.book g.next) (sym (take_more chunk i 0 l))
            (cuts b h.book g.book line h.next g.next (take i chunk) (get_or chunk i 0 ∷ []) h.written g.written h.fed g.fed);
        wrote = g.wrote ∙ ap (λ t. t ++ g.written) h.wrote ∙ append_assoc before h.written g.written;
        stands = g.stands;
      }

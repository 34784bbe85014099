-- The logbook conserves: both sums and the load are worth what was posted less what was withdrawn or written off.
use Rattle.std.proofs.Common.{◌≡◌, ℕ, true, List, [], ◌∷◌, ℤ, pos, ◌+ℤ◌, neg_ℤ, is_ok, Some, None, Option, refl, arith}
use borrow.Author.Differences.{ints}
use Rattle.std.proofs.lemmas.Bool.{cond_both}
use Rattle.std.proofs.lemmas.List.Sums.{fold_push}
use Rattle.kinds.specs.declared.kind.Kind.{Ghosts}
use Rattle.accounts.specs.Entries.{sum_of}
use Rattle.books.specs.Logbook.{Logbook, replied, entering, load_worth, Conserved, take_asks, answer_of, writes, after, after_all}
use Rattle.books.specs.declared.visit.Side.{Side}
use Rattle.books.specs.declared.visit.Side.TheVariants.{Left, Right}
use Rattle.books.specs.declared.visit.Reply.TheVariants.{Done}
use Rattle.books.specs.declared.visit.Visit.{Visit}
use Rattle.books.specs.declared.visit.Visit.TheVariants.{Post, Withdraw, Take, Put, WriteOff, Read}

-- both sums
abbrev held : Logbook → ℤ
held b = sum_of b.lists.left +ℤ sum_of b.lists.right

entry : (s : Side) (w : ℤ) (b : Logbook) → held (entering s w b) ≡ held b +ℤ w
entry Left w b = let e = fold_push ◌+ℤ◌ (pos 0) b.lists.left w in omega (arith, ints)
entry Right w b = let e = fold_push ◌+ℤ◌ (pos 0) b.lists.right w in omega (arith, ints)

module _ {K : Type 0} (k : Ghosts K) where
  -- a take is granted only with an empty blade
  taken_unloaded : (s : Side) (p : ℕ) (b : Logbook) (load : Option ℕ) → is_ok (replied (λ _. Done) (take_asks k s p b load)) ≡ true → load_worth k load ≡ pos 0
  taken_unloaded s p b None granted = refl
  taken_unloaded s p b (Some q) granted = cc

  granted_balance : (v : Visit) (b : Logbook) → Conserved k b → is_ok (answer_of k v b) ≡ true → Conserved k (writes k v b)
  unfolding answer_of
  granted_balance (Post s p) b h granted = let e = entry s (k.worth p) b in omega (arith, ints)
  granted_balance (Withdraw s p) b h granted = let e = entry s (neg_ℤ (k.worth p)) b in omega (arith, ints)
  granted_balance (Take s p) b h granted =
      let e = entry s (neg_ℤ (k.worth p)) b in
      let z = taken_unloaded s p b b.load granted in
      omega (arith, ints)
  granted_balance (Put s) b h granted = let e = entry s (load_worth k b.load) b in omega (arith, ints)
  granted_balance WriteOff b h granted = omega (arith, ints)
  granted_balance (Read s) b h granted = h

  pub all_balance : (vs : List Visit) (b : Logbook) → Conserved k b → Conserved k (after_all k vs b)
  unfolding after
  all_balance [] b h = h
  all_balance (v ∷ vs) b h = all_balance vs (after k v b) (cond_both (is_ok (answer_of k v b)) (writes k v b) b (Conserved k) (granted_balance v b h) (λ _. h))

-- The ways through the reader of a part.
use Rattle.std.proofs.Common.{◌≡◌, ℕ, ◌+◌, ◌<◌, ◌≤◌, List, ◌∷◌, length, get_or, sym, subst, inl, inr, arith}
use Rattle.std.specs.List.{between}
use Rattle.std.proofs.lemmas.Bool.{cases_lt}
use Rattle.plans.specs.declared.reads.Stand.{Stand}
use Rattle.plans.specs.Goals.{Goal, plan, close, Written, plans, Ready, Reads, PartRead, PartStopped}
use Rattle.plans.proofs.Bytes.{dot_in, open_in, plan_first, plan_some, close_first, close_some, ready}
use Rattle.plans.proofs.Readings.{reads_then, dot_reads, open_reads, close_reads, one_byte, between_then, stops_after, stops_here}

-- what the reader has read behind an opening bracket, behind the first part and behind the second
module _ (s : List ℕ) (at k m : ℕ) (b : at < length s) (c : get_or s at 0 ≡ 40) where
  opened : (g : List Goal) → Reads (plan ∷ g) k (between at (at + 1) s) (plan ∷ (plan ∷ (close ∷ g))) k
  opened g = subst (λ u. Reads (plan ∷ g) k u (plan ∷ (plan ∷ (close ∷ g))) k) (sym (one_byte s at 40 b c)) (open_reads g k)

  module _ (x : Stand) (p : PartRead s (at + 1) k (m + 1) x) where
    after_first : (g : List Goal) → plans g ≡ m → Reads (plan ∷ g) k (between at x.at s) (plan ∷ (close ∷ g)) x.left
    after_first g h =
        subst (λ u. Reads (plan ∷ g) k u (plan ∷ (close ∷ g)) x.left) (between_then s at (at + 1) x.at (omega arith) (omega (arith, p.onward)))
        (reads_then (plan ∷ g) (plan ∷ (plan ∷ (close ∷ g))) (plan ∷ (close ∷ g)) k k x.left (between at (at + 1) s) (between (at + 1) x.at s)
        (opened g) (p.reads (plan ∷ (close ∷ g)) (omega (arith, h))))

    after_second : (y : Stand) → PartRead s x.at x.left m y → (g : List Goal) → plans g ≡ m → Reads (plan ∷ g) k (between at y.at s) (close ∷ g) y.left
    after_second y q g h =
        subst (λ u. Reads (plan ∷ g) k u (close ∷ g) y.left) (between_then s at x.at y.at (omega (arith, p.onward)) (omega (arith, q.onward)))
        (reads_then (plan ∷ g) (plan ∷ (close ∷ g)) (close ∷ g) k x.left y.left (between at x.at s) (between x.at y.at s)
        (after_first g h) (q.reads (close ∷ g) h))

module _ {s : List ℕ} {at k m : ℕ} where
  -- there are dots for all parts, but no plan goes on with this byte
  stop_here : m < k → at ≤ length s → ((g : List Goal) → plans g ≡ m → at < length s → (t : List ℕ) → Written (plan ∷ g) (get_or s at 0 ∷ t) k → ⊥) → PartStopped s at k m at
  stop_here h w n =
      record {
        onward = omega arith;
        within = w;
        stops = λ g e. stops_here s at (plan ∷ g) k (inr (omega arith, omega (arith, e))) (n g e) (plan_some g k);
      }

  pub stop_end : m < k → at ≤ length s → length s ≤ at → PartStopped s at k m at
  stop_end h w l = stop_here h w (λ g e b t x. omega arith)

  pub stop_dot : m < k → at ≤ length s → get_or s at 0 ≡ 46 → m ≡ 0 → (k ≡ 1 → ⊥) → PartStopped s at k m at
  stop_dot h w c z n =
      stop_here h w
      (λ g e b t x.
      let r = dot_in g t k (subst (λ y. Written (plan ∷ g) (y ∷ t) k) c x) in
      elim (ready g t r.0 r.1.1) [
        | inl q ↦ n (omega (arith, r.1.0, q.1))
        | inr q ↦ omega (arith, q.0, e, z)
      ])

  pub stop_open : m < k → at ≤ length s → get_or s at 0 ≡ 40 → k < m + 2 → PartStopped s at k m at
  stop_open h w c n =
      stop_here h w
      (λ g e b t x.
      elim (ready (plan ∷ (plan ∷ (close ∷ g))) t k (open_in g t k (subst (λ y. Written (plan ∷ g) (y ∷ t) k) c x))) [
        | inl q ↦ omega (arith, q.0)
        | inr q ↦ omega (arith, q.1, e, n)
      ])

  pub stop_other : m < k → at ≤ length s → (get_or s at 0 ≡ 46 → ⊥) → (get_or s at 0 ≡ 40 → ⊥) → PartStopped s at k m at
  stop_other h w c d = stop_here h w (λ g e b t x. elim (plan_first g (get_or s at 0) t k x) [ inl q ↦ c q | inr q ↦ d q ])

  pub read_dot : {j : ℕ} → j + 1 ≡ k → at < length s → m < k → get_or s at 0 ≡ 46 → (m ≡ 0 → k ≡ 1) → PartRead s at k m (record { at = at + 1; left = j })
  read_dot {j} l b h c n =
      record {
        onward = omega arith;
        within = omega arith;
        fewer = omega arith;
        ready = elim (cases_lt 0 m) [
          | inl some ↦ inr (some, omega arith)
          | inr none ↦ let one : k ≡ 1 = n (omega arith) in inl (omega arith, omega arith)
        ];
        reads = λ g e. subst (λ u. Reads (plan ∷ g) k u g j) (sym (one_byte s at 46 b c)) (dot_reads g k j (omega arith));
      }

  -- behind an opening bracket
  module _ (b : at < length s) (c : get_or s at 0 ≡ 40) where
    pub stop_first : {e : ℕ} → PartStopped s (at + 1) k (m + 1) e → PartStopped s at k m e
    stop_first {e} p =
        record {
          onward = omega (arith, p.onward);
          within = p.within;
          stops = λ g h.
              stops_after s at (at + 1) e (plan ∷ g) (plan ∷ (plan ∷ (close ∷ g))) k k (omega arith) p.onward (opened s at k m b c g)
              (p.stops (plan ∷ (close ∷ g)) (omega (arith, h)));
        }

    -- and behind the first part
    module _ {x : Stand} (p : PartRead s (at + 1) k (m + 1) x) where
      pub stop_second : {e : ℕ} → PartStopped s x.at x.left m e → PartStopped s at k m e
      stop_second {e} q =
          record {
            onward = omega (arith, p.onward, q.onward);
            within = q.within;
            stops = λ g h.
                stops_after s at x.at e (plan ∷ g) (plan ∷ (close ∷ g)) k x.left (omega (arith, p.onward)) q.onward (after_first s at k m b c x p g h)
                (q.stops (close ∷ g) h);
          }

      -- and behind the second
      module _ {y : Stand} (q : PartRead s x.at x.left m y) where
        pub stop_close : (y.at < length s → get_or s y.at 0 ≡ 41 → ⊥) → PartStopped s at k m y.at
        stop_close n =
            record {
              onward = omega (arith, p.onward, q.onward);
              within = q.within;
              stops = λ g h.
                  let met : Ready (plans (close ∷ g)) y.left = subst (λ i. Ready i y.left) (sym h) q.ready in
                  stops_after s at y.at y.at (plan ∷ g) (close ∷ g) k y.left (omega (arith, p.onward, q.onward)) (omega arith) (after_second s at k m b c x p y q g h)
                  (stops_here s y.at (close ∷ g) y.left met (λ d t w. n d (close_first g (get_or s y.at 0) t y.left w)) (close_some g y.left));
            }

        pub read_pair : y.at < length s → get_or s y.at 0 ≡ 41 → PartRead s at k m (record { at = y.at + 1; left = y.left })
        read_pair d o =
            record {
              onward = omega (arith, p.onward, q.onward);
              within = omega (arith, d);
              fewer = omega (arith, p.fewer, q.fewer);
              ready = q.ready;
              reads = λ g h.
                  subst (λ u. Reads (plan ∷ g) k u g y.left) (between_then s at y.at (y.at + 1) (omega (arith, p.onward, q.onward)) (omega arith))
                  (reads_then (plan ∷ g) (close ∷ g) g k y.left y.left (between at y.at s) (between y.at (y.at + 1) s)
                  (after_second s at k m b c x p y q g h)
                  (subst (λ u. Reads (close ∷ g) y.left u g y.left) (sym (one_byte s y.at 41 d o)) (close_reads g y.left)));
            }

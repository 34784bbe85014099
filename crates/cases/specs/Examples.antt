-- The worked examples of docs/RULES.md, of the definitions that the contracts of the code cite.
use Rattle.std.specs.Prelude.{◌≡◌, ℕ, ◌-◌, T, List, [], ◌∷◌, length, pos, neg_ℤ, ◌≤ℤ◌, Ok, Err, codes, Result}
use Rattle.refusals.specs.declared.Refusal.{Refusal}
use Rattle.refusals.specs.declared.Refusal.TheVariants.{NotANumber, AboveRange, NotAPlan}
use Rattle.numbers.specs.Binary as formats
use Rattle.kinds.specs.declared.kind.Kind.{Ghosts}
use Rattle.kinds.specs.Answer.{answered}
use Rattle.kinds.specs.Coded.{coded}
use Rattle.kinds.specs.Count.{counts}
use Rattle.plans.specs.Plan.{NoPlan}
use Rattle.settle.specs.Settle.{SettleAnswer}
use Rattle.settle.specs.declared.settled.Teller.TheVariants.{Register}
use Rattle.accounts.specs.Entries.{sum_of, accepted}
use Rattle.accounts.specs.Meaning.{questions}
use Rattle.accounts.specs.declared.readings.Entry.{Entry}
use Rattle.accounts.specs.declared.readings.Entry.TheVariants.{Post}

abbrev pub binary64 : Ghosts (Unit {0})
binary64 = coded (formats.binary formats.binary64)

abbrev pub binary32 : Ghosts (Unit {0})
binary32 = coded (formats.binary formats.binary32)

abbrev pub count : Ghosts (Unit {0})
count = coded counts

abbrev pub top : ℕ
top = 0x7FEF_FFFF_FFFF_FFFF

-- what is a number
pub record OfNumbers : Type 0 where
  -- 7FF0000000000000 is refused as no number, and 7FEFFFFFFFFFFFFF is the greatest number
  pub infinity : (entries limit : ℕ) → questions binary64 0x7FF0_0000_0000_0000 entries limit ≡ Err NotANumber
  pub top_is_number : T (binary64.number top)
  pub top_is_greatest : (p : ℕ) → T (binary64.number p) → binary64.worth p ≤ℤ binary64.worth top
  -- in count 80000000 is refused as no number, and 80000001 has worth -2147483647
  pub no_echo : (entries limit : ℕ) → questions count 0x8000_0000 entries limit ≡ Err NotANumber
  pub least_count : T (count.number 0x8000_0001) × (count.worth 0x8000_0001 ≡ neg_ℤ (pos 2147483647))

-- what an account of this kind reads that takes all entries
abbrev reads : Ghosts (Unit {0}) → List Entry → Result ℕ Refusal
reads k es = answered (k.outcome (sum_of (accepted k 4294967295 es)))

-- adder and readings
pub record OfSums : Type 0 where
  -- a tie: 4340000000000000 and 4008000000000000 give s 4340000000000002 and r BFF0000000000000
  pub tie : binary64.adder 0x4340_0000_0000_0000 0x4008_0000_0000_0000 ≡ (0x4340_0000_0000_0002, 0xBFF0_0000_0000_0000)
  -- beyond the top: in count 7FFFFFFF and 00000001 give the same two back
  pub beyond_top : count.adder 0x7FFF_FFFF 1 ≡ (0x7FFF_FFFF, 1)
  -- the edge: entries of the top and 7C90000000000000 read above range, of the top and 7C8FFFFFFFFFFFFF the top
  pub edge : reads binary64 (Post top ∷ (Post 0x7C90_0000_0000_0000 ∷ [])) ≡ Err AboveRange
  pub below_edge : reads binary64 (Post top ∷ (Post 0x7C8F_FFFF_FFFF_FFFF ∷ [])) ≡ Ok top
  -- a reading rounds once: binary32 entries 3F800000, 33800000, 21800000 read 3F800001
  pub once : reads binary32 (Post 0x3F80_0000 ∷ (Post 0x3380_0000 ∷ (Post 0x2180_0000 ∷ []))) ≡ Ok 0x3F80_0001

abbrev pub slots : List ℕ
slots = 0 ∷ (0x4340_0000_0000_0000 ∷ (0x3FF0_0000_0000_0000 ∷ (1 ∷ [])))

abbrev pub settled : List ℕ
settled = 0x4340_0000_0000_0000 ∷ (0x3FF0_0000_0000_0000 ∷ (0 ∷ (1 ∷ [])))

-- a settle and a text that is no plan
pub record OfSettling : Type 0 where
  -- these slots with the plan ((..).) and budget 8 give 4340000000000001 by the register after 8 passes; a column of five words has four zeros then
  pub by_register : (a b c d e : ℕ)
      → SettleAnswer binary64 (codes "((..).)") 8 slots (a ∷ (b ∷ (c ∷ (d ∷ (e ∷ []))))) settled (0 ∷ (0 ∷ (0 ∷ (0 ∷ (e ∷ [])))))
      (Ok (record { outcome = Ok 0x4340_0000_0000_0001; passes = 8; by = Register }))
  -- the text (.)(..) for 4 slots is refused as no plan at place 2
  pub no_plan : NoPlan (length slots - 1) (codes "(.)(..)") (NotAPlan 2)

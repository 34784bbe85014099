-- A number that is answered is a number of its kind, and so has all its digits.
use Rattle.std.proofs.Common.{◌≡◌, ℕ, ◌^◌, ◌<◌, T, Some, None, Ok, Err, Option, Result, refl, lit<}
use Rattle.std.specs.Result.{result_and, result_map_both}
use Rattle.refusals.specs.declared.Refusal.{Refusal}
use Rattle.numbers.specs.Outcome as outcomes
use Rattle.numbers.specs.Outcome.{Outcome}
use Rattle.numbers.proofs.Laws.{lawful}
use Rattle.kinds.specs.Answer.{answered}
use Rattle.kinds.specs.Counting as count
use Rattle.numbers.specs.Binary.{binary64, binary32}
use Rattle.numbers.specs.Coding.{Codes}
use Rattle.numbers.proofs.Binary as binary
use Rattle.accounts.specs.Entries.{sum_of}
use Rattle.forms.specs.Read.{read_visit, read_kind}
use Rattle.forms.specs.declared.words.KindName.{KindName}
use Rattle.forms.specs.declared.words.KindName.TheVariants.{Binary64, Binary32, Count}
use Rattle.forms.specs.declared.words.Visit.{Visit}
use Rattle.forms.specs.declared.words.Visit.TheVariants.{Post, Withdraw, Read}
use Rattle.forms.specs.declared.words.Reply.TheVariants.{Done, Number}
use Rattle.session.specs.Logbook.{Logbook, accepts}
use Rattle.session.specs.Book.{untold, told, coding, digits_of, kind_by, kind_answer, visit_answer, Shown}

kind_none : {A : Type 0} (r : Option KindName) (p : ℕ) → kind_answer r ≡ Ok (Number p) → A
kind_none None p e = cc
kind_none (Some n) p e = cc

done_none : {A : Type 0} (r : Result (Unit {0}) Refusal) (p : ℕ) → result_and r (Ok Done) ≡ Ok (Number p) → A
done_none (Ok u) p e = cc
done_none (Err why) p e = cc

number_is : (o : Outcome ℕ) (p : ℕ) → result_map_both Number (λ why. why) (answered o) ≡ Ok (Number p) → o ≡ outcomes.number p
number_is outcomes.below p e = cc
number_is outcomes.above p e = cc
number_is (outcomes.number q) p e = cc

-- each kind's coding owes what a coding owes, and its numbers go into its digits
codes : (n : KindName) → Codes (coding n)
codes Binary64 = binary.codes binary64 refl (lit< tt)
codes Binary32 = binary.codes binary32 refl (lit< tt)
codes Count = count.codes

fits : (n : KindName) (p : ℕ) → T ((coding n).number p) → p < 16 ^ digits_of n
fits Binary64 p t = (binary.number_out binary64 refl p t).0
fits Binary32 p t = (binary.number_out binary32 refl p t).0
fits Count p t = (count.number_out p t).0

visit_fits : (n : KindName) (r : Option Visit) (b : Logbook) (p : ℕ) → visit_answer (kind_by n) r b ≡ Ok (Number p) → p < 16 ^ digits_of n
visit_fits n None b p e = cc
visit_fits n (Some (Post s q)) b p e = done_none (accepts (kind_by n) q b) p e
visit_fits n (Some (Withdraw s q)) b p e = done_none (accepts (kind_by n) q b) p e
visit_fits n (Some (Read s)) b p e =
    let v = sum_of b.left in
    fits n p ((lawful (coding n) (codes n)).nearest_outcome v p (number_is ((kind_by n).outcome v) p e)).found

pub shown : Shown
shown untold line p e = kind_none (read_kind line) p e
shown (told n b) line p e = visit_fits n (read_visit (digits_of n) line) b p e

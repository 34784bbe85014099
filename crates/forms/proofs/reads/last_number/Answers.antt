use Rattle.std.proofs.Common.{Some, codes, rules}
use Rattle.std.proofs.lemmas.Bool.Decides.{Decides-eqb}
use Rattle.std.proofs.lemmas.Slice.Eq.{strip_suffix_is}
use Rattle.forms.proofs.Numbers.{number_means}
use Rattle.forms.proofs.reads.last_number.Goals as goal

pub returns : goal.returns
returns c =
    let rest = c.in_ok-strip_prefix.field-0.now in
    let number = c.in_ok-strip_suffix.field-0 in
    number_means c.args.digits c.args.text.now rest number.now c.hex_number.result (search rules)
    (strip_suffix_is Decides-eqb rest (codes ")") (Some number) c.in_ok-strip_suffix.ensures.cases) c.hex_number.ensures

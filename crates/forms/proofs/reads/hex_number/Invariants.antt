-- The digits read so far are the digits of n.
use Rattle.std.proofs.Common.{◌≡◌, ◌^◌, ◌<◌, take}
use Rattle.forms.specs.Text.{hex_text}
use Rattle.forms.proofs.reads.hex_number.Given as goal

abbrev pub invariant-loop-b : goal.invariant-loop-b
invariant-loop-b l = (take l.b-index l.text ≡ hex_text l.b-index l.n) × (l.n < 16 ^ l.b-index)

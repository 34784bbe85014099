-- The laws of the texts.
use Rattle.std.proofs.Common.{arith}
use Rattle.plans.proofs.Texts.{text_length, one_plan}
use Rattle.plans.proofs.reads.plan_bytes.Goals as goal

pub returns : goal.returns
returns c = record { value = omega arith; one = one_plan; bytes = text_length }

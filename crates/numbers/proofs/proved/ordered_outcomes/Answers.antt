use Rattle.numbers.proofs.Outcomes.{outcome_inside, outcome_over, outcome_under, outcome_mono}
use Rattle.numbers.proofs.Signed.{nearest_mono}
use Rattle.numbers.proofs.proved.ordered_outcomes.Goals as goal

pub returns : goal.returns
returns c =
    λ f.
    record {
      inside = outcome_inside f;
      over = outcome_over f;
      under = outcome_under f;
      nearest_keeps = nearest_mono f;
      keeps = outcome_mono f;
    }

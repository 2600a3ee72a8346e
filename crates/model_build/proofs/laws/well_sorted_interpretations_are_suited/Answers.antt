use Rattle.model_build.proofs.Suited.{suited}
use Rattle.model_build.proofs.laws.well_sorted_interpretations_are_suited.Goals as goal

pub returns : goal.returns
returns c = λ v bits terms values have sorted. suited v have bits terms values sorted

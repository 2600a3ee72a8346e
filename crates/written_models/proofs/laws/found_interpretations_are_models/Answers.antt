use Rattle.written_models.proofs.Found.{found_model}
use Rattle.written_models.proofs.laws.found_interpretations_are_models.Goals as goal

pub returns : goal.returns
returns c s log v M stands found = found_model s log v M stands found

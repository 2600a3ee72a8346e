use Rattle.proof_file.proofs.Noted.{other_placed}
use Rattle.proof_file.proofs.laws.other_places_keep_indexes.Goals as goal

pub returns : goal.returns
returns c = other_placed

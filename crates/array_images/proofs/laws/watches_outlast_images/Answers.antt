use Rattle.array_images.proofs.Walking.{has_watches}
use Rattle.array_images.proofs.laws.watches_outlast_images.Goals as goal

pub returns : goal.returns
returns c = has_watches

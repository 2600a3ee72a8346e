use Rattle.proof_log.proofs.Linked.{images_are}
use Rattle.proof_log.proofs.laws.images_are_images.Goals as goal

pub returns : goal.returns
returns c = images_are

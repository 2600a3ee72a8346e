use Rattle.proof_log.proofs.Linked.{stored_images_are}
use Rattle.proof_log.proofs.laws.stored_images_are_images.Goals as goal

pub returns : goal.returns
returns c = stored_images_are

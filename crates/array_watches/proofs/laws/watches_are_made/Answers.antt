use Rattle.array_watches.proofs.Whole.{watches_are_made}
use Rattle.array_watches.proofs.laws.watches_are_made.Goals as goal

pub returns : goal.returns
returns c = watches_are_made

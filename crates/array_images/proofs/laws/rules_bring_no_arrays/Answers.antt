use Rattle.array_images.proofs.Rules.{rules_bring_no_arrays}
use Rattle.array_images.proofs.laws.rules_bring_no_arrays.Goals as goal

pub returns : goal.returns
returns c = rules_bring_no_arrays

use Rattle.std.proofs.Common.{◌≡◌, suc}
use Rattle.proof_file.specs.Noting.{KeepsIndex}
use Rattle.proof_file.proofs.stale.StaleChains.learn.Given as goal

abbrev pub invariant-steps : goal.invariant-steps
invariant-steps l = record {
  keeps : KeepsIndex l.terms.nodes l.log.entries l.fn.self l.self;
  at : l.at ≡ suc l.self.read;
}

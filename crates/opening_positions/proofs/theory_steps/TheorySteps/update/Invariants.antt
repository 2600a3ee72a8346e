use Rattle.std.proofs.Common.{◌≡◌, suc}
use Rattle.opening_positions.specs.Reading.{IsRead}
use Rattle.opening_positions.proofs.theory_steps.TheorySteps.update.Given as goal

abbrev pub invariant-steps : goal.invariant-steps
invariant-steps l = record {
  read : IsRead l.terms.nodes l.log.entries l.self;
  at : l.at ≡ suc l.self.read;
}

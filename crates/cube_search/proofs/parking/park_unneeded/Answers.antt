use Rattle.std.proofs.Common.{◌+◌, subst}
use Rattle.std.specs.Prelude.{Contains}
use Rattle.std.proofs.lemmas.Result.{on_ok_weaker}
use Rattle.cube_search.proofs.parking.park_unneeded.Goals as goal

pub returns-clause-needed : goal.returns-clause-needed
returns-clause-needed c = λ q k. c.park_position.ensures.others q (λ p. c.if-has.ensures (subst (λ n. Contains c.args.needed.now (n + 1)) p k))

pub returns-clause-parked : goal.returns-clause-parked
returns-clause-parked c = on_ok_weaker c.park_position.result (λ h gapless un. h gapless) c.park_position.ensures.parked

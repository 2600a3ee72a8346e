use Rattle.std.specs.Prelude.{◌≡◌, vec_len}
use Rattle.proof_log.specs.Stored.{LogValue}
use Rattle.cube_workers.specs.Crews.{AreAtRest}
use Rattle.cube_workers.proofs.solving.fill.Given as goal

abbrev pub invariant-searches : goal.invariant-searches
invariant-searches l = record {
  count : vec_len l.searches ≡ l.counter;
  resting : (log : LogValue) → AreAtRest log l.fn.searches.items → AreAtRest log l.searches.items;
}

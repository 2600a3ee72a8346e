use Rattle.std.specs.Prelude.{◌≡◌, ◌≤◌, ◌+◌, ℕ, Some, slice_get, vec_len, vec_capacity}
use Rattle.proof_log.specs.Stored.{LogValue}
use Rattle.cube_workers.specs.declared.kept.KeptSearch.{KeptSearch}
use Rattle.cube_workers.specs.Crews.{AreAtRest}
use Rattle.cube_workers.proofs.solving.put_behind.Given as goal

abbrev pub decreases-others : goal.decreases-others
decreases-others l = vec_len l.others

abbrev pub invariant-others : goal.invariant-others
invariant-others l = record {
  count : vec_len l.searches + vec_len l.others ≡ vec_len l.fn.searches + vec_len l.fn.others;
  room : vec_len l.fn.searches + vec_len l.fn.others ≤ vec_capacity l.searches;
  front : (i : ℕ) (k : KeptSearch) → slice_get l.fn.searches.items i ≡ Some k → slice_get l.searches.items i ≡ Some k;
  resting : (log : LogValue) → AreAtRest log l.fn.searches.items → AreAtRest log l.fn.others.items → AreAtRest log l.searches.items × AreAtRest log l.others.items;
}

use Rattle.std.specs.Prelude.{◌≡◌, ◌≤◌, ◌+◌, [], suc, vec_len, vec_capacity}
use Rattle.shared_history.specs.Known.{IsPassOf}
use Rattle.cube_workers.specs.Crews.{Each, AreAtRest}
use Rattle.cube_workers.specs.Hired.{IsHired}
use Rattle.cube_workers.proofs.crew.hire.Given as goal

abbrev pub decreases-searches : goal.decreases-searches
decreases-searches g l = vec_len l.searches

abbrev pub invariant-searches : goal.invariant-searches
invariant-searches g l = record {
  own : IsPassOf l.hist l.first;
  number : l.first.number ≡ 0;
  mine : l.first.mine ≡ [];
  seen : l.first.seen ≡ [];
  made : l.first.made ≡ suc (vec_len l.workers);
  count : vec_len l.workers + vec_len l.searches ≡ vec_len l.fn.searches;
  room : vec_len l.fn.searches ≤ vec_capacity l.workers;
  resting : AreAtRest l.hist.law.log l.searches.items;
  workers : Each (IsHired l.hist l.check) l.workers.items;
}

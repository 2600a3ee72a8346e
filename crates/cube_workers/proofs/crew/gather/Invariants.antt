use Rattle.std.specs.Prelude.{◌≡◌, ◌+◌, List, length, vec_len}
use Rattle.shared_history.specs.Known.{IsPassOf}
use Rattle.cube_workers.specs.Workers.{problem_in}
use Rattle.cube_workers.specs.Crews.{Each, Left, AreKept, IsLowest}
use Rattle.cube_workers.specs.Hired.{HasEnded, AreMerged}
use Rattle.cube_workers.proofs.crew.gather.Given as goal

abbrev pub decreases-workers : goal.decreases-workers
decreases-workers g l = vec_len l.workers

abbrev pub invariant-workers : goal.invariant-workers
invariant-workers g l = record {
  own : IsPassOf l.hist l.first;
  number : l.first.number ≡ l.fn.first.number;
  made : l.first.made ≡ l.fn.first.made;
  mine : l.first.mine ≡ l.fn.first.mine;
  workers : Each (HasEnded l.hist l.check) l.workers.items;
  gathered : (xs : List Left)
      × (length xs + length l.workers.items ≡ length l.fn.workers.items)
      × AreMerged l.hist.law (problem_in l.hist.law l.check) (length l.fn.workers.items) l.first xs
      × AreKept l.sum.searches.items l.sum.model l.sum.wanting xs
      × IsLowest l.sum.spent xs;
}

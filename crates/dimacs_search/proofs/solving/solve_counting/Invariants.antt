use Rattle.std.proofs.Common.{◌≡◌, ◌+◌, ◌<◌, ◌≤◌, length}
use Rattle.cdcl_core.specs.Search.{clause_of}
use Rattle.dimacs_search.specs.Searching.{IsSearching, IsTelling}
use Rattle.dimacs_search.proofs.solving.solve_counting.Given as goal

abbrev pub invariant-conflicts : goal.invariant-conflicts
invariant-conflicts g l = record {
  low : length l.fn.cnf.clauses < l.number;
  searching : IsSearching l.fn.cnf l.engine;
  telling : IsTelling l.fn.cnf (clause_of l.engine.watches) l.number (g.W.Sink.written l.fn.refutation) (g.W.Sink.written l.refutation) l.lines;
  rare : l.rare.first ≡ length l.fn.cnf.clauses + 1;
  later : g.W.Sink.faults l.fn.refutation ≤ g.W.Sink.faults l.refutation;
}

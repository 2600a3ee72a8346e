use Rattle.std.proofs.Common.{ℕ, ◌<◌, ◌≤◌}
use Rattle.std.specs.Prelude.{slice_index}
use Rattle.cdcl_core.specs.Search.{literals_of, level_of}
use Rattle.cdcl_loop.specs.Agendas.{IsValuedBy}
use Rattle.cdcl_loop.proofs.agenda.first_open.Given as goal

abbrev pub invariant-places : goal.invariant-places
invariant-places l = (k : ℕ) → l.start ≤ k → k < l.place → IsValuedBy (literals_of l.trail) (level_of l.trail) (slice_index l.list k)

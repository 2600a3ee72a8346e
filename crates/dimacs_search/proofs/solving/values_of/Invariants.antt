use Rattle.std.proofs.Common.{◌≡◌, ◌-◌, ◌<◌, ℕ, length}
use Rattle.cdcl_loop.specs.Values.{valuation}
use Rattle.dimacs_search.specs.Solving.{assignment}
use Rattle.dimacs_search.proofs.solving.values_of.Given as goal

abbrev pub invariant-variables : goal.invariant-variables
invariant-variables l = record {
  from_one : 0 < l.variable;
  count : length l.values.items ≡ l.variable - 1;
  same : (x : ℕ) → 0 < x → x < l.variable → assignment l.values.items x ≡ valuation l.engine.trail x;
}

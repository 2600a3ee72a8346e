use Rattle.std.proofs.Common.{ℕ, ◌<◌, get_or}
use Rattle.cnf_base.specs.Literals.{literal_of}
use Rattle.cdcl_core.specs.State.{HasForced}
use Rattle.cdcl_core.proofs.watches.Watches.is_reason.Given as goal

abbrev pub invariant-loop-l : goal.invariant-loop-l
invariant-loop-l l = (k : ℕ) → k < l.l-index → HasForced l.trail l.slot (get_or l.clause k (literal_of 0)) → ⊥

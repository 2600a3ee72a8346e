-- How an engine counts what it does.
use Rattle.std.specs.Prelude.{ℕ, ◌+◌, ◌-◌, ◌^◌, min}
use Rattle.cdcl_loop.specs.declared.effort.Effort.{Effort}

-- so many more, as far as there is room below 2 ^ 64
abbrev pub counted : ℕ → ℕ → ℕ
counted n more = n + min more (2 ^ 64 - 1 - n)

-- nothing was done
abbrev pub no_effort : Effort
no_effort = record { conflicts = 0; decisions = 0; propagations = 0 }

-- one more conflict
abbrev pub with_conflict : Effort → Effort
with_conflict e = record e { conflicts = counted e.conflicts 1 }

-- one more decision
abbrev pub with_decision : Effort → Effort
with_decision e = record e { decisions = counted e.decisions 1 }

-- so many more literals that unit propagation made true
abbrev pub with_propagations : Effort → ℕ → Effort
with_propagations e n = record e { propagations = counted e.propagations n }

-- The assignment of a trail.
use Rattle.std.specs.Prelude.{ℕ, Bool, slice_index, ltb}
use Rattle.cnf_base.specs.Literals.{positive_of, code_of}
use Rattle.cdcl_core.specs.declared.trail.Trail.{Trail}

-- the variables that are true; the others are false or have no value
abbrev pub valuation : Trail → ℕ → Bool
valuation t x = ltb 0 (slice_index t.stamps.items (code_of (positive_of x)))

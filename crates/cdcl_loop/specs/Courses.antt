-- The decisions of a search: first the given literals, then others.
use Rattle.std.specs.Prelude.{◌≡◌, ◌≤◌, ◌<◌, ℕ, List, None, Contains, length}
use Rattle.cnf_base.specs.Literals.{Literal}
use Rattle.cdcl_core.specs.Levels.{Row, IsTrueBy, IsOpen}
use Rattle.cdcl_learn.specs.Rows.{literal_at, level_at, reason_at}
pub use Rattle.cdcl_learn.specs.Rows.{AreRaised}

-- what is decided up to the base level is given, and above it all given literals are true
pub record IsCourse (rows : List Row) (level base : ℕ) (given : List Literal) : Type 0 where
  pub lower : base ≤ level
  pub assumed : (i : ℕ) → i < length rows → reason_at rows i ≡ None → level_at rows i ≤ base → Contains given (literal_at rows i)
  pub all : base < level → (l : Literal) → Contains given l → IsTrueBy rows base l

-- each of these variables has a value
abbrev pub AreValued : List ℕ → List Row → ℕ → Type 0
AreValued listed rows level = (l : Literal) → Contains listed l.variable → IsOpen rows level l → ⊥

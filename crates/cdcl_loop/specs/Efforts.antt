-- What an engine has done.
use Rattle.std.specs.Prelude.{◌≡◌, ◌≤◌, ℕ, ◌+◌, ◌-◌, length}
use Rattle.cdcl_core.specs.Search.{literals_of, level_of}
use Rattle.cdcl_loop.specs.declared.effort.Effort.{Effort}
use Rattle.cdcl_loop.specs.declared.engine.Engine.{Engine}
use Rattle.cdcl_loop.specs.Counts.{counted}

-- what it has counted
abbrev pub effort_of : Engine → Effort
effort_of e = e.choices.effort

-- by how many its true literals, and its levels, became more
abbrev pub literals_gained : Engine → Engine → ℕ
literals_gained old new = length (literals_of new.trail) - length (literals_of old.trail)

abbrev pub levels_gained : Engine → Engine → ℕ
levels_gained old new = level_of new.trail - level_of old.trail

-- a decision for each level that came, and the other literals that became true are those of unit propagation
pub record HasWorked (old new : Engine) : Type 0 where
  pub levels : level_of old.trail ≤ level_of new.trail
  pub literals : length (literals_of old.trail) + levels_gained old new ≤ length (literals_of new.trail)
  pub conflicts : (effort_of new).conflicts ≡ (effort_of old).conflicts
  pub decisions : (effort_of new).decisions ≡ counted (effort_of old).decisions (levels_gained old new)
  pub propagations : (effort_of new).propagations ≡ counted (effort_of old).propagations (literals_gained old new - levels_gained old new)

-- An engine: its trail, the clauses that it holds, and its given literals.
use Rattle.std.specs.Prelude.{◌≡◌, ◌≢◌, ◌+◌, ◌++◌, List, [], ◌∷◌, None, Contains, IsSome}
use Rattle.cnf_base.specs.Literals.{Literal}
use Rattle.cnf_base.specs.declared.clause.ClauseId.{ClauseId}
use Rattle.cdcl_core.specs.declared.trail.Trail.{Trail}
use Rattle.cdcl_core.specs.declared.watches.Watches.{Watches}
use Rattle.cdcl_core.specs.Levels.{IsTrueBy, IsOpen, IsReason}
use Rattle.cdcl_core.specs.Search.{literals_of, level_of, clause_of, held_of, IsAtRest}
use Rattle.cdcl_core.specs.State.{IsSettled, IsPropagated}
use Rattle.cdcl_learn.specs.Rows.{AreDecidedFirst}
use Rattle.cdcl_loop.specs.declared.engine.Engine.{Engine}
use Rattle.cdcl_loop.specs.Courses.{AreRaised, IsCourse}
use Rattle.cdcl_loop.specs.Agendas.{IsScanned}

-- the trail and the clauses between two calls
pub record IsTrailOf (w : Watches) (t : Trail) : Type 0 where
  pub settled : IsSettled w t
  pub decided : AreDecidedFirst (literals_of t)
  pub raised : AreRaised (literals_of t)

-- the same clauses are kept, and the same of them held
pub record IsSameStore (old new : Watches) : Type 0 where
  pub kept : (id : ClauseId) → clause_of new id ≡ clause_of old id
  pub held : (id : ClauseId) → held_of new id ≡ held_of old id

-- but for the clause of this name
pub record IsSameBut (id : ClauseId) (old new : Watches) : Type 0 where
  pub kept : (q : ClauseId) → q ≢ id → clause_of new q ≡ clause_of old q
  pub held : (q : ClauseId) → q ≢ id → held_of new q ≡ held_of old q

abbrev pub IsEngine : Engine → Type 0
IsEngine e = IsTrailOf e.watches e.trail

-- it decides its given literals first, and has its place in the list of variables
abbrev pub IsOnCourse : Engine → Type 0
IsOnCourse e = IsCourse (literals_of e.trail) (level_of e.trail) e.base e.given.items × IsScanned e.agenda (literals_of e.trail) (level_of e.trail)

-- the given literals and the listed variables are the same
pub record IsSameTask (old new : Engine) : Type 0 where
  pub given : new.given ≡ old.given
  pub listed : new.agenda.list ≡ old.agenda.list

-- the clause of this name is kept, and forced no literal of the trail
pub record IsIdle (e : Engine) (id : ClauseId) : Type 0 where
  pub kept : IsSome (clause_of e.watches id)
  pub free : IsReason (literals_of e.trail) id → ⊥

-- unit propagation has come to rest, and each given literal is true
pub record IsAssumed (w : Watches) (t : Trail) (given : List Literal) : Type 0 where
  pub propagated : IsPropagated w t
  pub rest : IsAtRest w t
  pub all : (l : Literal) → Contains given l → IsTrueBy (literals_of t) (level_of t) l

-- a given literal is true, at the base level, and what was true is
pub record IsAssuming (old new : Engine) (l : Literal) : Type 0 where
  pub engine : IsEngine new
  pub course : IsOnCourse new
  pub at_base : new.base ≡ level_of new.trail
  pub made : IsTrueBy (literals_of new.trail) (level_of new.trail) l
  pub kept : (m : Literal) → IsTrueBy (literals_of old.trail) (level_of old.trail) m → IsTrueBy (literals_of new.trail) (level_of new.trail) m

-- an open literal of a listed variable is decided, at a level of its own
pub record HasDecided (old new : Engine) : Type 0 where
  pub literal : Literal
  pub listed : Contains old.agenda.list literal.variable
  pub unset : IsOpen (literals_of old.trail) (level_of old.trail) literal
  pub literals : literals_of new.trail ≡ literals_of old.trail ++ (literal, level_of old.trail + 1, None) ∷ []
  pub level : level_of new.trail ≡ level_of old.trail + 1

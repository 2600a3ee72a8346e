-- Which positions the search of a check's cubes begins with, and what a check has made ready for it.
use Rattle.std.specs.Prelude.{ℕ, List, All, Contains}
use Rattle.smt_terms.specs.declared.node.Node.{Node}
use Rattle.scope_selectors.specs.declared.live.Live.{Live}
use Rattle.script_state.specs.States.{StateValue, roots}
use Rattle.proof_log.specs.Stored.{LogValue}
use Rattle.reached_steps.specs.Opening.{AreOpeningSteps}
use Rattle.opening_positions.specs.Holding.{IsHeldAssertion}
use Rattle.session_terms.specs.Walked.{IsEncoded}

-- The positions at which a search begins: those of the steps of all on which the bits of these terms stand, with the equalities and
-- the lemmas over what these have, and those of the selectors of these assertions.
pub record AreEnough (nodes : List Node) (log : LogValue) (from : List ℕ) (live : List Live) (positions : List ℕ) : Type 0 where
  pub reached : List ℕ
  pub among : All (Contains reached) from
  pub opening : AreOpeningSteps nodes log.entries reached positions
  pub selectors : All (IsHeldAssertion log.entries positions) live

-- A check, which began with these terms, made its watches and gave bits to what it is about and to what its arrays need, and the
-- positions are enough for all of it.
pub record IsReady (old : List Node) (s : StateValue) (log : LogValue) (positions : List ℕ) : Type 0 where
  pub live : List ℕ
  pub encoded : IsEncoded old s.terms.nodes log (roots s) live
  pub enough : AreEnough s.terms.nodes log live s.scopes.live positions

-- Which chains of a file no later check can use: they rest on an assertion that is gone.
use Rattle.std.specs.Prelude.{◌≡◌, ◌≢◌, ℕ, ◌<◌, List, All, Contains, Some}
use Rattle.cnf_base.specs.Literals.{Literal, negated}
use Rattle.cnf_base.specs.declared.clause.ClauseId.{ClauseId}
use Rattle.smt_terms.specs.declared.node.Node.{Node}
use Rattle.scope_selectors.specs.declared.live.Live.{Live}
use Rattle.proof_log.specs.declared.entry.Entry.{Entry}
use Rattle.proof_log.specs.declared.entry.Entry.TheVariants as step
use Rattle.proof_log.specs.Logs.{Asserted, entry_at, state_of}
use Rattle.proof_file.specs.Needed.{AreRising}

-- the clause has the negated selector of an assertion that is not live
pub record RestsOnGone (nodes : List Node) (log : List Entry) (live : List Live) (clause : List Literal) : Type 0 where
  pub assertion : ℕ
  pub selector : Asserted
  pub made : (state_of nodes log).selectors assertion ≡ Some selector
  pub negation : Contains clause (negated selector.literal)
  pub gone : (a : Live) → Contains live a → a.assertion ≢ assertion

-- at the place stands a chain that does
pub record IsStale (nodes : List Node) (log : List Entry) (live : List Live) (places : ℕ → ℕ) (q : ℕ) : Type 0 where
  pub written : 0 < q
  pub position : ℕ
  pub place : places position ≡ q
  pub clause : List Literal
  pub hints : List ClauseId
  pub chain : entry_at log position ≡ Some (step.Chain clause hints)
  pub rests : RestsOnGone nodes log live clause

-- exactly these places, rising
pub record AreStale (nodes : List Node) (log : List Entry) (live : List Live) (places : ℕ → ℕ) (qs : List ℕ) : Type 0 where
  pub rise : AreRising 1 qs
  pub each : All (IsStale nodes log live places) qs
  pub every : (q : ℕ) → IsStale nodes log live places q → Contains qs q

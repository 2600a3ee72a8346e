-- What a search says of an interpretation that it found.
use Rattle.std.specs.Prelude.{◌≡◌, ℕ, Bool, true, List, [], ◌∷◌, Some, All, Contains}
use Rattle.cnf_base.specs.Literals.{Literal}
use Rattle.cnf_base.specs.Clauses.{lit_true}
use Rattle.smt_terms.specs.declared.node.Node.{Node}
use Rattle.smt_terms.specs.Bits.{bits_in}
use Rattle.smt_terms.specs.Values.{VBool, Interpretation, value}
use Rattle.scope_selectors.specs.declared.live.Live.{Live}
use Rattle.script_state.specs.declared.answer.Asked.{Asked}
use Rattle.script_state.specs.States.{StateValue, assumptions, roots}
use Rattle.proof_log.specs.Assigned.{IsTrueAt}
use Rattle.proof_log.specs.Logs.{Asserted, state_of}
use Rattle.proof_log.specs.Places.{GivesSelector}
use Rattle.proof_log.specs.Stored.{LogValue}

-- The assertion has a selector in the log, which stands for its term, and is true under the assignment; so are the clauses of the
-- step that gave it.
pub record IsSelected (nodes : List Node) (log : LogValue) (v : ℕ → Bool) (a : Live) : Type 0 where
  pub selector : Asserted
  pub made : (state_of nodes log.entries).selectors a.assertion ≡ Some selector
  pub term : selector.term ≡ a.term
  pub holds : lit_true v selector.literal ≡ true
  pub place : ℕ
  pub step : GivesSelector log.entries a.assertion place
  pub clauses : IsTrueAt log v place

-- the assumption has one bit in the log, which is true
pub record IsGiven (log : LogValue) (v : ℕ → Bool) (a : Asked) : Type 0 where
  pub bit : Literal
  pub bits : bits_in log.bits a.term ≡ Some (bit ∷ [])
  pub holds : lit_true v bit ≡ true

-- The live assertions are selected and the assumptions are given, under an assignment whose bits of their terms are those of the
-- terms' values in the interpretation.
pub record IsFound (s : StateValue) (log : LogValue) (v : ℕ → Bool) (M : Interpretation) : Type 0 where
  pub selected : All (IsSelected s.terms.nodes log v) s.scopes.live
  pub given : All (IsGiven log v) (assumptions s)
  pub values : (t : ℕ) (bit : Literal) → Contains (roots s) t → bits_in log.bits t ≡ Some (bit ∷ []) → value M s.terms.nodes t ≡ VBool (lit_true v bit)

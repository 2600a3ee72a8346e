-- Unsatisfiable cores and unsatisfiable assumptions (SMT-LIB 2.6, section 4.2.7): those that a refutation's clause blames.
use Rattle.std.specs.Prelude.{ℕ, Bool, false, ◌||◌, not, is_some, List, [], ◌∷◌, filter, All, Option, Some, None, option_to_list}
use Rattle.std.specs.List.{flat_map}
use Rattle.cnf_base.specs.Literals.{Literal, negated}
use Rattle.smt_terms.specs.Values.{Interpretation}
use Rattle.scope_selectors.specs.declared.live.Live.{Live}
use Rattle.scope_selectors.specs.Cores.{stands}
use Rattle.script_state.specs.declared.answer.Asked.{Asked}
use Rattle.script_state.specs.States.{StateValue, assumptions}
use Rattle.proof_log.specs.Logs.{Asserted, LogState, clause_at}
use Rattle.proof_text.specs.declared.record.Record.{Record}
use Rattle.proof_text.specs.declared.record.Record.TheVariants.{Unsat}
use Rattle.accepted_proof.specs.Models.{Holds, HoldsAssumed}

abbrev pub negation_stands : List Literal → Option Asserted → Bool
negation_stands clause None = false
negation_stands clause (Some r) = stands clause (negated r.literal)

-- the negated selector of the assertion stands in the clause
abbrev pub is_blamed : LogState → List Literal → Live → Bool
is_blamed log clause a = negation_stands clause (log.selectors a.assertion)

abbrev pub bit_stands : List Literal → Option (List Literal) → Bool
bit_stands clause (Some (b ∷ [])) = stands clause (negated b)
bit_stands clause _ = false

-- the negated bit of the assumption stands in the clause
abbrev pub is_blamed_assumption : LogState → List Literal → Asked → Bool
is_blamed_assumption log clause a = bit_stands clause (log.bits a.term)

-- the clause of a refutation; any other record has none
abbrev pub refuting_clause : LogState → Option Record → Option (List Literal)
refuting_clause log (Some (Unsat p)) = clause_at log.clauses (record { pos = p; part = 0 })
refuting_clause log _ = None

-- the names of the live assertions that the clause blames, in order of assertion
abbrev pub core_names : StateValue → LogState → List Literal → List (List ℕ)
core_names s log clause = flat_map (λ (a : Live). option_to_list a.name) (filter (is_blamed log clause) s.scopes.live)

-- the assumptions that it blames, in order
abbrev pub blamed_assumptions : StateValue → LogState → List Literal → List Asked
blamed_assumptions s log clause = filter (is_blamed_assumption log clause) (assumptions s)

-- ---- what they say

-- the assertion is in the core, or it has no name
abbrev pub is_in_core : LogState → List Literal → Live → Bool
is_in_core log clause a = not (is_some a.name) || is_blamed log clause a

-- The assertions of the core with all unnamed live ones and all assumptions have no model.
abbrev pub IsCore : StateValue → LogState → List Literal → Type 0
IsCore s log clause = (M : Interpretation) → All (Holds s.terms.nodes M) (filter (is_in_core log clause) s.scopes.live) → All (HoldsAssumed s.terms.nodes M) (assumptions s) → ⊥

-- The assumptions that are blamed with all live assertions have no model.
abbrev pub AreUnsatAssumptions : StateValue → LogState → List Literal → Type 0
AreUnsatAssumptions s log clause = (M : Interpretation) → All (Holds s.terms.nodes M) s.scopes.live → All (HoldsAssumed s.terms.nodes M) (blamed_assumptions s log clause) → ⊥

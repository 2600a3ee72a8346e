-- How a check is searched: the cubes into which it is split, and the diary of a cube on which the budget was spent.
-- Splitting is that of M. Heule, O. Kullmann, S. Wieringa and A. Biere, "Cube and Conquer: Guiding CDCL SAT Solvers by
-- Lookaheads", 2011.
use Rattle.std.specs.Prelude.{◌≡◌, ◌<◌, ◌≤◌, ◌^◌, suc, ℕ, Bool, ◌&&◌, is_some, if◌then◌else◌, List, [], ◌∷◌, ◌++◌, length, map, take, All, Option, Some, None, option_to_list}
use Rattle.std.specs.List.{list_any, flat_map}
use Rattle.cnf_base.specs.Literals.{Literal}
use Rattle.smt_terms.specs.declared.node.Node.{Node}
use Rattle.smt_terms.specs.Nodes.{node_at}
use Rattle.smt_build.specs.Definitions.{reaches}
use Rattle.scope_selectors.specs.declared.live.Live.{Live}
use Rattle.script_state.specs.declared.answer.Asked.{Asked}
use Rattle.script_state.specs.States.{StateValue, assumptions, roots}
use Rattle.proof_log.specs.declared.entry.Entry.{Entry}
use Rattle.proof_log.specs.declared.entry.Entry.TheVariants as entry
use Rattle.proof_log.specs.declared.diary.Diary.{Diary}
use Rattle.proof_log.specs.Logs.{Asserted, LogState, constant_width, entry_at, state_of}
use Rattle.proof_log.specs.Boards.{IsAdded}
use Rattle.proof_log.specs.Diaries.{Subject, IsSpent}
use Rattle.proof_text.specs.Deletions.{IsSpentWithout}
use Rattle.cube_tree.specs.Cubes.{cube_of}

-- ---- limits

-- how many variables may split a check, and how many chains a search may put on a cube before it gives up
pub record Limits : Type 0 where
  pub cubes : ℕ
  pub budget : ℕ

-- those that a proof may begin with
pub record AreLimits (limits : Limits) : Type 0 where
  pub cubes : limits.cubes ≤ 10
  pub budget : limits.budget ≤ 1000000000

-- ---- cubes

-- one of these reaches the term
abbrev pub is_reached : List ℕ → List Node → ℕ → Bool
is_reached from nodes t = list_any (λ r. reaches nodes r t) from

abbrev pub variables_of : Option (List Literal) → List ℕ
variables_of None = []
variables_of (Some bits) = map (λ (l : Literal). l.variable) bits

-- the variables of a declared Bool or word that is reached, which the step drew
abbrev pub leaf_variables : List ℕ → List Node → LogState → Entry → List ℕ
leaf_variables from nodes log (entry.Leaf t) = if is_some (constant_width (node_at nodes t).op) && is_reached from nodes t then variables_of (log.bits t) else []
leaf_variables from nodes log _ = []

-- the variables of all that is declared and reached. Each step draws its variables above those before it, so these rise.
abbrev pub split_variables : List ℕ → List Node → List Entry → List ℕ
split_variables from nodes log = flat_map (leaf_variables from nodes (state_of nodes log)) log

-- these rise from low on, and are below high
abbrev pub Rise : ℕ → ℕ → List ℕ → Type 0
Rise low high [] = low ≤ high
Rise low high (x ∷ xs) = (low ≤ x) × Rise (suc x) high xs

-- the variables that split the check
abbrev pub cube_variables : Limits → StateValue → List Node → List Entry → List ℕ
cube_variables limits s nodes log = take limits.cubes (split_variables (roots s) nodes log)

-- ---- searches

-- the literal that stands for a live assertion
abbrev pub selector_literals : LogState → Live → List Literal
selector_literals log a = map (λ (r : Asserted). r.literal) (option_to_list (log.selectors a.assertion))

abbrev pub bits_or_none : Option (List Literal) → List Literal
bits_or_none None = []
bits_or_none (Some bits) = bits

-- what the search of a cube takes as true: the cube's literals, the selectors of the live assertions, the assumptions' bits
abbrev pub given_literals : Limits → StateValue → List Node → List Entry → ℕ → List Literal
given_literals limits s nodes log n =
    cube_of (cube_variables limits s nodes log) n
    ++ flat_map (selector_literals (state_of nodes log)) s.scopes.live
    ++ flat_map (λ (a : Asked). bits_or_none ((state_of nodes log).bits a.term)) (assumptions s)

abbrev pub HasSelector : LogState → Live → Type 0
HasSelector log a = (r : Asserted) × (log.selectors a.assertion ≡ Some r)

abbrev pub HasBit : LogState → Asked → Type 0
HasBit log a = (bit : Literal) × (log.bits a.term ≡ Some (bit ∷ []))

-- A search of the cube may start at this position: the check has so many cubes, its assertions have selectors and its
-- assumptions bits, and from the position on no step makes a term, gives a term bits, or an assertion a selector.
pub record IsSearch (limits : Limits) (s : StateValue) (nodes : List Node) (log : List Entry) (cube start : ℕ) : Type 0 where
  pub cube_of_check : cube < 2 ^ length (cube_variables limits s nodes log)
  pub selectors : All (HasSelector (state_of nodes log)) s.scopes.live
  pub bits : All (HasBit (state_of nodes log)) (assumptions s)
  pub within : start ≤ suc (length log)
  pub added : (p : ℕ) (e : Entry) → start ≤ p → entry_at log p ≡ Some e → IsAdded e

-- what the diary of the search is about
abbrev pub subject_of : Limits → StateValue → List Node → List Entry → ℕ → ℕ → Subject
subject_of limits s nodes log cube start = record { nodes = nodes; log = log; given = given_literals limits s nodes log cube; from = start }

-- a search of a cube of the check put one chain more than the budget allows, where no place was deleted
pub record IsUnknown (limits : Limits) (s : StateValue) (nodes : List Node) (log : List Entry) (d : Diary) : Type 0 where
  pub search : IsSearch limits s nodes log d.cube d.start
  pub spent : IsSpent (subject_of limits s nodes log d.cube d.start) limits.budget d.lines

-- the same where these places were deleted before
pub record IsUnknownWithout (deleted : List ℕ) (limits : Limits) (s : StateValue) (nodes : List Node) (log : List Entry) (d : Diary) : Type 0 where
  pub search : IsSearch limits s nodes log d.cube d.start
  pub spent : IsSpentWithout deleted (subject_of limits s nodes log d.cube d.start) limits.budget d.lines

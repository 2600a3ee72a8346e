-- How the search of a cube is looked up: the variables of declared terms, and the literals that are taken as true.
use Rattle.std.specs.Prelude.{◌≡◌, ◌≤◌, ℕ, List, ◌∷◌, Option, Some, None, is_some, if◌then◌else◌, [], option_to_list}
use Rattle.cnf_base.specs.Literals.{Literal}
use Rattle.smt_terms.specs.declared.node.Node.{Node}
use Rattle.smt_terms.specs.Nodes.{node_at}
use Rattle.smt_terms.specs.Bits.{TermBits, bits_in}
use Rattle.scope_selectors.specs.declared.live.Live.{Live}
use Rattle.script_state.specs.declared.answer.Asked.{Asked}
use Rattle.proof_log.specs.declared.entry.Entry.{Entry}
use Rattle.proof_log.specs.Logs.{constant_width, entry_at}
use Rattle.proof_log.specs.Boards.{IsAdded}
use Rattle.proof_log.specs.Stored.{selector_in}
use Rattle.accepted_proof.specs.Searching as searching
use Rattle.accepted_proof.specs.Searching.{variables_of, bits_or_none}
use Rattle.check_cubes.specs.declared.limits.Limits.{Limits}

-- the limits of the header
abbrev pub limits_of : Limits → searching.Limits
limits_of l = record { cubes = l.cubes; budget = l.budget }

-- ---- what splits

-- the variables of a term's bits, where it is a declared Bool or word
abbrev pub declared_variables : List Node → List TermBits → ℕ → List ℕ
declared_variables nodes bits t = if is_some (constant_width (node_at nodes t).op) then variables_of (bits_in bits t) else []

-- ---- what is taken as true

-- the selector of an assertion, where it has one
abbrev pub kept_selector : List (Option Literal) → Live → List Literal
kept_selector selectors a = option_to_list (selector_in selectors a.assertion)

abbrev pub IsSelected : List (Option Literal) → Live → Type 0
IsSelected selectors a = (l : Literal) × (selector_in selectors a.assertion ≡ Some l)

-- the literal, where there is just one
abbrev pub only : Option (List Literal) → Option Literal
only (Some (l ∷ [])) = Some l
only _ = None

-- the bits of an assumption, where it has some
abbrev pub kept_bits : List TermBits → Asked → List Literal
kept_bits bits a = bits_or_none (bits_in bits a.term)

abbrev pub IsOneBit : List TermBits → Asked → Type 0
IsOneBit bits a = (l : Literal) × (bits_in bits a.term ≡ Some (l ∷ []))

-- ---- where a search starts

-- from the position on no step makes a term, gives a term bits, or an assertion a selector
abbrev pub AreAddedFrom : List Entry → ℕ → Type 0
AreAddedFrom log start = (p : ℕ) (e : Entry) → start ≤ p → entry_at log p ≡ Some e → IsAdded e

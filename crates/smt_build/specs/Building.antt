-- The terms of nodes, of literals, and of declared constants and functions.
use Rattle.std.specs.Prelude.{◌≡◌, ℕ, ◌*◌, nat_le, List, [], ◌∷◌, ◌++◌, length, slice_get, Option, Some, None, Result, Ok, Err, if◌then◌else◌}
use Rattle.smt_terms.specs.declared.sort.Signature.{Signature}
use Rattle.smt_terms.specs.declared.node.Op.TheVariants.{Word, Constant, Apply}
use Rattle.smt_terms.specs.declared.node.Node.{Node}
use Rattle.smt_terms.specs.declared.fault.MakeFault.{MakeFault}
use Rattle.smt_terms.specs.declared.fault.MakeFault.TheVariants as making
use Rattle.smt_terms.specs.Nodes.{leaf, node_of}
use Rattle.smt_terms.specs.Terms.{TermsValue, make}
use Rattle.smt_build.specs.declared.fault.BuildFault.{BuildFault}
use Rattle.smt_build.specs.declared.fault.BuildFault.TheVariants.{UnknownSymbol, WrongSort, Width, LiteralTooWide, TermLimit}
use Rattle.smt_build.specs.declared.fault.BuildError.{BuildError}
use Rattle.smt_build.specs.declared.fault.BuildError.TheVariants.{NoMemory, Fault}
use Rattle.smt_build.specs.Literals.{bit_value, hexadecimal_value, value_in}
use Rattle.smt_build.specs.Names.{SymbolsValue, AreDeclared}

-- a term's number with the terms then, or a fault
abbrev pub Built : Type 0
Built = Result (ℕ × TermsValue) BuildFault

abbrev pub fault_of : MakeFault → BuildFault
fault_of (making.WrongSort k) = WrongSort
fault_of (making.WidthOutOfRange n) = Width
fault_of making.TermLimit = TermLimit

abbrev pub as_built : Result (ℕ × TermsValue) MakeFault → Built
as_built (Ok r) = Ok r
as_built (Err f) = Err (fault_of f)

-- the term of a node
unfoldable pub made : TermsValue → Node → Built
made terms n = as_built (make terms n)

-- ---- literals

abbrev pub binary : TermsValue → List ℕ → Built
binary terms digits = if nat_le (length digits) 128 then made terms (leaf (Word (length digits) (value_in 2 bit_value digits))) else Err LiteralTooWide

abbrev pub hexadecimal : TermsValue → List ℕ → Built
hexadecimal terms digits = if nat_le (length digits) 32 then made terms (leaf (Word (4 * length digits) (value_in 16 hexadecimal_value digits))) else Err LiteralTooWide

-- ---- declared constants

-- a declaration with arguments is no constant
abbrev pub constant : TermsValue → ℕ → Signature → Built
constant terms d s = elim s.args [ [] ↦ made terms (leaf (Constant d s.value)) | _ ∷ _ ↦ Err WrongSort ]

abbrev pub declared_at : TermsValue → ℕ → Option Signature → Built
declared_at terms d None = Err UnknownSymbol
declared_at terms d (Some s) = constant terms d s

abbrev pub declared : SymbolsValue → TermsValue → Option ℕ → Built
declared symbols terms None = Err UnknownSymbol
declared symbols terms (Some d) = declared_at terms d (slice_get symbols.signatures d)

-- ---- declared functions

-- a declaration without arguments is no function
abbrev pub function : TermsValue → ℕ → Signature → List ℕ → Built
function terms d s args = elim s.args [ [] ↦ Err WrongSort | _ ∷ _ ↦ made terms (node_of (Apply d s) args) ]

abbrev pub called_at : TermsValue → ℕ → Option Signature → List ℕ → Built
called_at terms d None args = Err UnknownSymbol
called_at terms d (Some s) args = function terms d s args

abbrev pub called : SymbolsValue → TermsValue → Option ℕ → List ℕ → Built
called symbols terms None args = Err UnknownSymbol
called symbols terms (Some d) args = called_at terms d (slice_get symbols.signatures d) args

-- ---- what the code answers

-- The answer is what is meant, with the terms then. After a fault, or for want of memory, the terms are as before.
abbrev pub Builds : Built → Result ℕ BuildError → TermsValue → TermsValue → Type 0
Builds to (Ok t) old new = to ≡ Ok (t, new)
Builds to (Err (Fault f)) old new = (to ≡ Err f) × (new ≡ old)
Builds to (Err NoMemory) old new = new ≡ old

-- The answer is what is meant, with the terms then.
abbrev pub Means : Built → Result ℕ BuildError → TermsValue → Type 0
Means to (Ok t) terms = to ≡ Ok (t, terms)
Means to (Err (Fault e)) terms = to ≡ Err e
Means to (Err NoMemory) terms = Unit {0}

-- The terms stand as before, and more may stand behind them; the declarations that they name are still among these.
pub record Grows (signatures : List Signature) (old new : TermsValue) : Type 0 where
  pub behind : List Node
  pub nodes : new.nodes ≡ old.nodes ++ behind
  pub limit : new.limit ≡ old.limit
  pub declared : AreDeclared signatures old.nodes → AreDeclared signatures new.nodes

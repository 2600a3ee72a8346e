-- Models of the live assertions (SMT-LIB 2.6, section 4.2.5: what `sat` and `unsat` say).
use Rattle.std.specs.Prelude.{◌≡◌, ℕ, ◌==◌, true, if◌then◌else◌, List, [], ◌∷◌, map, slice_get, All, Option, Some, None}
use Rattle.std.specs.List.{AllByRecursion}
use Rattle.smt_terms.specs.declared.node.Node.{Node}
use Rattle.smt_terms.specs.declared.sort.Sort.{Sort}
use Rattle.smt_terms.specs.declared.sort.Sort.TheVariants as sort
use Rattle.smt_terms.specs.declared.sort.Signature.{Signature}
use Rattle.smt_terms.specs.Values.{Interpretation, is_true, value}
use Rattle.smt_terms.specs.declared.scalar.Scalar.{Scalar}
use Rattle.smt_words.specs.Words.{IsWord}
use Rattle.smt_values.specs.Arrays.{IsArray}
use Rattle.smt_values.specs.Tables.{TableFields, AreRowsRising}
use Rattle.smt_values.specs.declared.table.Row.{Row}
use Rattle.smt_values.specs.declared.value.Value.{Value}
use Rattle.smt_values.specs.declared.value.Value.TheVariants as held
use Rattle.smt_values.specs.Held.{value_of, constant_of, function_of}
use Rattle.smt_build.specs.declared.symbols.LiveName.{LiveName}
use Rattle.scope_selectors.specs.declared.live.Live.{Live}
use Rattle.script_state.specs.declared.answer.Asked.{Asked}
use Rattle.script_state.specs.States.{StateValue, assumptions}

-- the term of the assertion is true
abbrev pub Holds : List Node → Interpretation → Live → Type 0
Holds nodes M a = is_true (value M nodes a.term) ≡ true

-- the assumption is true
abbrev pub HoldsAssumed : List Node → Interpretation → Asked → Type 0
HoldsAssumed nodes M a = is_true (value M nodes a.term) ≡ true

-- an interpretation under which each live assertion and each assumption is true
pub record IsModel (s : StateValue) (M : Interpretation) : Type 0 where
  pub asserted : All (Holds s.terms.nodes M) s.scopes.live
  pub assumed : All (HoldsAssumed s.terms.nodes M) (assumptions s)

abbrev pub HasNoModel : StateValue → Type 0
HasNoModel s = (M : Interpretation) → IsModel s M → ⊥

-- ---- written models

-- the value that is written for a declaration
abbrev pub value_for : List (ℕ × Value) → ℕ → Option Value
value_for [] d = None
value_for (p ∷ ps) d = if d == p.0 then Some p.1 else value_for ps d

-- the interpretation that the values of declarations give; a declaration without one has false or zero
abbrev pub interpretation_of : List (ℕ × Value) → Interpretation
interpretation_of values = record { constants = λ d. constant_of (value_for values d); functions = λ d. function_of (value_for values d) }

-- the value is of the sort, and none that no code can hold
abbrev pub IsOfKind : Sort → Value → Type 0
IsOfKind s (held.Bool b) = s ≡ sort.Bool
IsOfKind s (held.Word w) = (s ≡ sort.Word w.width) × IsWord w.width w.value
IsOfKind s (held.Array a) = (s ≡ sort.Array a.index a.default.width) × IsArray a
IsOfKind s (held.Fun t) = ⊥

-- truth values and words of these sorts, one by one
abbrev pub AreOfKinds : List Sort → List Scalar → Type 0
AreOfKinds [] [] = Unit {0}
AreOfKinds [] (v ∷ vs) = ⊥
AreOfKinds (s ∷ ss) [] = ⊥
AreOfKinds (s ∷ ss) (v ∷ vs) = IsOfKind s (value_of v) × AreOfKinds ss vs

-- arguments and a value of these sorts
abbrev pub IsRowOf : List Sort → Sort → Row → Type 0
IsRowOf args s r = AreOfKinds args r.args × IsOfKind s (value_of r.value)

-- rows with arguments and a value of the function's sorts, whose arguments rise
pub record IsTableOf (g : Signature) (t : TableFields) : Type 0 where
  pub default : IsOfKind g.value (value_of t.default)
  pub rows : AllByRecursion (IsRowOf g.args g.value) t.rows
  pub rising : AreRowsRising t.rows

abbrev pub IsFunctionOf : Signature → Value → Type 0
IsFunctionOf g (held.Fun t) = IsTableOf g t
IsFunctionOf g _ = ⊥

-- with these arguments: the value of a constant is of its sort, that of a function is a table of it
abbrev pub IsOfArguments : List Sort → Signature → Value → Type 0
IsOfArguments [] g v = IsOfKind g.value v
IsOfArguments (s ∷ ss) g v = IsFunctionOf g v

-- the value is one that the declaration may have
abbrev pub IsOfSignature : Value → Option Signature → Type 0
IsOfSignature v None = ⊥
IsOfSignature v (Some g) = IsOfArguments g.args g v

-- a value of its sort for each live declaration, in the order of the declarations, under which each live assertion and each
-- assumption is true
pub record IsWrittenModel (s : StateValue) (values : List (ℕ × Value)) : Type 0 where
  pub listed : map (λ (p : ℕ × Value). p.0) values ≡ map (λ (l : LiveName). l.declaration) s.symbols.live
  pub sorted : All (λ (p : ℕ × Value). IsOfSignature p.1 (slice_get s.symbols.signatures p.0)) values
  pub model : IsModel s (interpretation_of values)

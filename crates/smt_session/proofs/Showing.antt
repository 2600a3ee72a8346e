-- The words that a model shows have digits.
use Rattle.std.proofs.Common.{ℕ, ◌<◌, List, [], ◌∷◌, Option, Some, None, arith}
use Rattle.std.specs.Prelude.{slice_get}
use Rattle.std.specs.List.{AllByRecursion}
use Rattle.std.proofs.lemmas.List.Elements.{recursion_from_All}
use Rattle.smt_terms.specs.declared.sort.Sort.{Sort}
use Rattle.smt_terms.specs.declared.sort.Signature.{Signature}
use Rattle.smt_terms.specs.declared.scalar.Scalar.{Scalar}
use Rattle.smt_terms.specs.declared.scalar.Scalar.TheVariants as scalar
use Rattle.smt_terms.specs.declared.node.Node.{Node}
use Rattle.smt_values.specs.declared.table.Row.{Row}
use Rattle.smt_values.specs.declared.value.Value.{Value}
use Rattle.smt_values.specs.declared.value.Value.TheVariants as held
use Rattle.smt_values.specs.Arrays.{Entry, IsEntry}
use Rattle.smt_values.specs.Held.{value_of}
use Rattle.script_state.specs.States.{StateValue}
use Rattle.proof_log.specs.declared.entry.Entry.{Entry as Step}
use Rattle.proof_text.specs.declared.record.Record.{Record}
use Rattle.proof_text.specs.declared.record.Record.TheVariants.{Sat, Unsat, Unknown}
use Rattle.proof_text.specs.Records.{HasDigit, HasScalarDigit, HaveDigits}
use Rattle.accepted_proof.specs.Models.{IsOfKind, AreOfKinds, IsRowOf, IsFunctionOf, IsOfArguments, IsOfSignature}
use Rattle.accepted_proof.specs.Searching.{Limits}
use Rattle.accepted_proof.specs.Turns.{IsShown}

-- ---- truth values, words and arrays

scalar_digit : (s : Sort) (x : Scalar) → IsOfKind s (value_of x) → HasScalarDigit x
scalar_digit s (scalar.Bool b) k = tt
scalar_digit s (scalar.Word w) k = let q = k.1.0 in omega (arith, q)

scalar_digits : (ss : List Sort) (xs : List Scalar) → AreOfKinds ss xs → AllByRecursion HasScalarDigit xs
scalar_digits ss [] k = tt
scalar_digits [] (x ∷ xs) k = absurd k
scalar_digits (s ∷ ss) (x ∷ xs) k = (scalar_digit s x k.0, scalar_digits ss xs k.1)

entry_digits : (n m : ℕ) (es : List Entry) → 0 < n → 0 < m → AllByRecursion (IsEntry n m) es → AllByRecursion (λ (e : Entry). (0 < e.0.width) × (0 < e.1.width)) es
entry_digits n m [] index element h = tt
entry_digits n m (e ∷ es) index element h =
    let left = h.0.0.width in
    let right = h.0.1.width in
    ((omega (arith, left, index), omega (arith, right, element)), entry_digits n m es index element h.1)

kind_digit : (s : Sort) (x : Value) → IsOfKind s x → HasDigit x
kind_digit s (held.Bool b) k = tt
kind_digit s (held.Word w) k = let q = k.1.0 in omega (arith, q)
kind_digit s (held.Array a) k =
    let index = k.1.index.0 in
    let element = k.1.element.0 in
    (omega (arith, element), entry_digits a.index a.default.width a.entries (omega (arith, index)) (omega (arith, element)) k.1.entries)
kind_digit s (held.Fun t) k = absurd k

-- ---- functions

row_digits : (args : List Sort) (s : Sort) (rs : List Row) → AllByRecursion (IsRowOf args s) rs → AllByRecursion (λ (r : Row). AllByRecursion HasScalarDigit r.args × HasScalarDigit r.value) rs
row_digits args s [] h = tt
row_digits args s (r ∷ rs) h = ((scalar_digits args r.args h.0.0, scalar_digit s r.value h.0.1), row_digits args s rs h.1)

function_digit : (g : Signature) (x : Value) → IsFunctionOf g x → HasDigit x
function_digit g (held.Bool b) h = absurd h
function_digit g (held.Word w) h = absurd h
function_digit g (held.Array a) h = absurd h
function_digit g (held.Fun t) h = (scalar_digit g.value t.default h.default, row_digits g.args g.value t.rows h.rows)

-- ---- declarations

declared_digit : (x : Value) (o : Option Signature) → IsOfSignature x o → HasDigit x
declared_digit x None h = absurd h
declared_digit x (Some g) h = go g.args h
  where
    go : (args : List Sort) → IsOfArguments args g x → HasDigit x
    go [] k = kind_digit g.value x k
    go (s ∷ ss) k = function_digit g x k

digits_of : (signatures : List Signature) (values : List (ℕ × Value)) → AllByRecursion (λ (p : ℕ × Value). IsOfSignature p.1 (slice_get signatures p.0)) values → AllByRecursion (λ (p : ℕ × Value). HasDigit p.1) values
digits_of signatures [] h = tt
digits_of signatures (p ∷ ps) h = (declared_digit p.1 (slice_get signatures p.0) h.0, digits_of signatures ps h.1)

pub shown_digits : (limits : Limits) (s : StateValue) (nodes : List Node) (log : List Step) (r : Record) → IsShown limits s nodes log r → HaveDigits r
shown_digits limits s nodes log (Sat values) h = digits_of s.symbols.signatures values (recursion_from_All _ _ h.1.sorted)
shown_digits limits s nodes log (Unsat p) h = tt
shown_digits limits s nodes log (Unknown d) h = tt

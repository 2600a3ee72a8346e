-- The lines of steps and records can be read: what holds of each of their parts holds of them.
use Rattle.std.proofs.Common.{◌≡◌, ℕ, ◌+◌, ◌^◌, ◌<◌, ◌≤◌, List, [], ◌∷◌, length, get_or, take, map, Option, Some, None, sym, subst, arith}
use Rattle.std.specs.Prelude.{IfSome}
use Rattle.std.specs.List.{AllByRecursion, flat_map}
use Rattle.std.specs.Option.{option_map}
use Rattle.std.proofs.lemmas.List.{take_more, take_all}
use Rattle.cnf_base.specs.Literals.{Literal}
use Rattle.cnf_base.specs.declared.clause.ClauseId.{ClauseId}
use Rattle.cnf_base.proofs.Lists.{each_append, each_get_or}
use Rattle.smt_words.specs.Words.{WordValue}
use Rattle.smt_terms.specs.declared.scalar.Scalar.{Scalar}
use Rattle.smt_terms.specs.declared.scalar.Scalar.TheVariants as scalar
use Rattle.smt_values.specs.Arrays.{Entry}
use Rattle.smt_values.specs.declared.table.Row.{Row}
use Rattle.theory_terms.specs.declared.lemma.Access.{Access}
use Rattle.smt_values.specs.declared.value.Value.{Value}
use Rattle.smt_values.specs.declared.value.Value.TheVariants as kept
use Rattle.proof_log.specs.declared.diary.Diary.{Diary}
use Rattle.proof_log.specs.declared.diary.DiaryLine.{DiaryLine}
use Rattle.proof_text.specs.declared.list.WrittenLiteral.{WrittenLiteral}
use Rattle.proof_text.specs.declared.list.WrittenHint.{WrittenHint}
use Rattle.proof_text.specs.declared.line.Head.{Head}
use Rattle.proof_text.specs.declared.line.Line.TheVariants as line
use Rattle.proof_text.specs.Lines.{IsNumber, IsHead, IsLiteral, IsHint, IsStart, IsMove, IsAccess, IsDigits, IsScalar, IsEntry, IsLine}
use Rattle.proof_text.specs.Entries.{written_literal, written_hint, written_start, written_move, written_access}
use Rattle.proof_text.specs.Records.{digits_of, written_scalar, written_entry, row_scalars, value_lines, diary_line, record_lines, HasScalarDigit, HasDigit, HaveDigits}
use Rattle.proof_text.specs.declared.record.Record.{Record}
use Rattle.proof_text.specs.declared.record.Record.TheVariants.{Sat, Unsat, Unknown}
use Rattle.proof_text.proofs.Appending.{binary_length}

-- ---- lists

pub each_more : {A : Type 0} (P : A → Type 0) (xs : List A) (k : ℕ) (d : A) → k < length xs → AllByRecursion P (take k xs) → P (get_or xs k d) → AllByRecursion P (take (k + 1) xs)
each_more P xs k d lt h p = subst (AllByRecursion P) (sym (take_more xs k d lt)) (each_append P (take k xs) (get_or xs k d ∷ []) h (p, tt))

pub each_all : {A : Type 0} (P : A → Type 0) (xs : List A) (k : ℕ) → length xs ≤ k → AllByRecursion P (take k xs) → AllByRecursion P xs
each_all P xs k le h = subst (AllByRecursion P) (take_all k xs le) h

pub each_flat : {A B : Type 0} (f : A → List B) (P : B → Type 0) (xs : List A) → AllByRecursion (λ x. AllByRecursion P (f x)) xs → AllByRecursion P (flat_map f xs)
each_flat f P [] h = tt
each_flat f P (x ∷ xs) h = each_append P (f x) (flat_map f xs) h.0 (each_flat f P xs h.1)

-- ---- steps

pub literal_readable : (l : Literal) (n : ℕ) → n ≡ l.variable → 0 < n → n < 2 ^ 63 → IsLiteral (written_literal l)
literal_readable l n e low high =
    let small : n < 2 ^ 64 = omega (arith, high) in
    record { from_one = subst (λ (m : ℕ). 0 < m) e low; bound = subst (λ (m : ℕ). m < 2 ^ 64) e small }

pub hint_readable : (id : ClauseId) → IsNumber id.pos → IsNumber id.part → IsHint (written_hint id)
hint_readable id p q = record { pos = p; part = q }

pub node_readable : (o : Option Head) (args : List ℕ) → IfSome o IsHead → AllByRecursion IsNumber args → IfSome (option_map (λ head. line.Term head args) o) IsLine
node_readable None args h k = tt
node_readable (Some head) args h k = (h, k)

pub chain_readable : (clause : List WrittenLiteral) (hints : List WrittenHint) → AllByRecursion IsLiteral clause → AllByRecursion IsHint hints → IsLine (line.Chain clause hints)
chain_readable clause hints h k = (h, k)

pub access_readable : (a : Access) → IsStart (written_start a.start) → AllByRecursion IsMove (map written_move a.path) → IsAccess (written_access a)
access_readable a h k = record { start = h; moves = k }

-- ---- records

digits_some : (w : WordValue) → 0 < w.width → IsDigits (digits_of w)
digits_some w h = subst (λ n. 0 < n) (sym (binary_length w.width w.value)) h

scalar_fits : (s : Scalar) → HasScalarDigit s → IsScalar (written_scalar s)
scalar_fits (scalar.Bool b) h = tt
scalar_fits (scalar.Word w) h = digits_some w h

scalars_fit : (xs : List Scalar) → AllByRecursion HasScalarDigit xs → AllByRecursion IsScalar (map written_scalar xs)
scalars_fit [] h = tt
scalars_fit (x ∷ xs) h = (scalar_fits x h.0, scalars_fit xs h.1)

entries_fit : (es : List Entry) → AllByRecursion (λ (e : Entry). (0 < e.0.width) × (0 < e.1.width)) es → AllByRecursion IsEntry (map written_entry es)
entries_fit [] h = tt
entries_fit (e ∷ es) h = (record { index = digits_some e.0 h.0.0; element = digits_some e.1 h.0.1 }, entries_fit es h.1)

rows_fit : (rs : List Row) → AllByRecursion (λ (r : Row). AllByRecursion HasScalarDigit r.args × HasScalarDigit r.value) rs → AllByRecursion IsScalar (flat_map row_scalars rs)
rows_fit [] h = tt
rows_fit (r ∷ rs) h =
    each_append IsScalar (row_scalars r) (flat_map row_scalars rs)
    (each_append IsScalar (map written_scalar r.args) (written_scalar r.value ∷ []) (scalars_fit r.args h.0.0) (scalar_fits r.value h.0.1, tt))
    (rows_fit rs h.1)

of_value : (d : ℕ) (x : Value) → d < 2 ^ 64 → HasDigit x → AllByRecursion IsLine (value_lines (d, x))
of_value d (kept.Bool b) lt h = ((lt, tt), tt)
of_value d (kept.Word w) lt h = ((lt, digits_some w h), tt)
of_value d (kept.Array a) lt h = ((lt, (digits_some a.default h.0, entries_fit a.entries h.1)), tt)
of_value d (kept.Fun t) lt h = ((lt, (scalar_fits t.default h.0, rows_fit t.rows h.1)), tt)

pub value_readable : (d : ℕ) (x : Value) → d < 2 ^ 32 → HasDigit x → AllByRecursion IsLine (value_lines (d, x))
value_readable d x lt h = of_value d x (omega (arith, lt)) h

-- the value at the next place can be read, if it has a digit
pub values_more : (xs : List (ℕ × Value)) (k : ℕ) (x : ℕ × Value) → k < length xs → x ≡ get_or xs k x → AllByRecursion (λ (p : ℕ × Value). HasDigit p.1) xs
    → (HasDigit x.1 → AllByRecursion IsLine (value_lines (x.0, x.1))) → AllByRecursion (λ (p : ℕ × Value). AllByRecursion IsLine (value_lines p)) (take k xs)
    → AllByRecursion (λ (p : ℕ × Value). AllByRecursion IsLine (value_lines p)) (take (k + 1) xs)
values_more xs k x lt e digits here front =
    let digit : HasDigit x.1 = subst (λ (p : ℕ × Value). HasDigit p.1) (sym e) (each_get_or (λ (p : ℕ × Value). HasDigit p.1) xs digits k x lt) in
    each_more (λ (p : ℕ × Value). AllByRecursion IsLine (value_lines p)) xs k x lt front (subst (λ (p : ℕ × Value). AllByRecursion IsLine (value_lines p)) e (here digit))

pub model_readable : (r : Record) (values xs : List (ℕ × Value)) → r ≡ Sat values → xs ≡ values → length xs < 2 ^ 64 → (AllByRecursion (λ (p : ℕ × Value). HasDigit p.1) xs → AllByRecursion IsLine (flat_map value_lines xs))
    → HaveDigits r → AllByRecursion IsLine (record_lines r)
model_readable r values xs e same lt h digits =
    let there : AllByRecursion (λ (p : ℕ × Value). HasDigit p.1) values = subst HaveDigits e digits in
    let here : AllByRecursion (λ (p : ℕ × Value). HasDigit p.1) xs = subst (λ (ys : List (ℕ × Value)). AllByRecursion (λ (p : ℕ × Value). HasDigit p.1) ys) (sym same) there in
    subst (λ (s : Record). AllByRecursion IsLine (record_lines s)) (sym e)
    (subst (λ (ys : List (ℕ × Value)). AllByRecursion IsLine (record_lines (Sat ys))) same (lt, h here))

pub refutation_readable : (r : Record) (p : ℕ) → r ≡ Unsat p → p < 2 ^ 64 → HaveDigits r → AllByRecursion IsLine (record_lines r)
refutation_readable r p e lt digits = subst (λ (s : Record). AllByRecursion IsLine (record_lines s)) (sym e) (lt, tt)

pub diary_readable : (r : Record) (d : Diary) (xs : List DiaryLine) → r ≡ Unknown d → xs ≡ d.lines → IsLine (line.Unknown d.cube d.start (length xs)) → AllByRecursion IsLine (map diary_line xs) → HaveDigits r → AllByRecursion IsLine (record_lines r)
diary_readable r d xs e same first rest digits =
    subst (λ (s : Record). AllByRecursion IsLine (record_lines s)) (sym e)
    (subst (λ (ls : List DiaryLine). AllByRecursion IsLine (line.Unknown d.cube d.start (length ls) ∷ map diary_line ls)) same (first, rest))

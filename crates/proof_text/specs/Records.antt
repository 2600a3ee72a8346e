-- Which lines a record is: the end of a check.
use Rattle.std.specs.Prelude.{ℕ, suc, zero, ◌<◌, ◌/◌, ◌%◌, ◌^◌, ◌==◌, Bool, List, [], ◌∷◌, ◌++◌, map, length, Option, Some, None, IsSome, option_to_list}
use Rattle.std.specs.List.{flat_map, AllByRecursion}
use Rattle.smt_words.specs.Words.{WordValue}
use Rattle.smt_terms.specs.declared.scalar.Scalar.{Scalar}
use Rattle.smt_terms.specs.declared.scalar.Scalar.TheVariants as scalar
use Rattle.smt_values.specs.declared.table.Row.{Row}
use Rattle.smt_values.specs.declared.value.Value.{Value}
use Rattle.smt_values.specs.declared.value.Value.TheVariants as kept
use Rattle.smt_values.specs.Arrays.{Entry}
use Rattle.proof_log.specs.declared.diary.DiaryLine.{DiaryLine}
use Rattle.proof_log.specs.declared.diary.DiaryLine.TheVariants as diary
use Rattle.proof_text.specs.declared.list.WrittenScalar.{WrittenScalar}
use Rattle.proof_text.specs.declared.list.WrittenScalar.TheVariants as plain
use Rattle.proof_text.specs.declared.list.WrittenEntry.{WrittenEntry}
use Rattle.proof_text.specs.declared.line.WrittenValue.{WrittenValue}
use Rattle.proof_text.specs.declared.line.WrittenValue.TheVariants as written
use Rattle.proof_text.specs.declared.line.Line.{Line}
use Rattle.proof_text.specs.declared.line.Line.TheVariants as line
use Rattle.proof_text.specs.declared.record.Record.{Record}
use Rattle.proof_text.specs.declared.record.Record.TheVariants.{Sat, Unsat, Unknown}

-- so many low binary digits of a number, the highest first
unfoldable pub binary : ℕ → ℕ → List Bool
binary zero x = []
binary (suc n) x = ((x / 2 ^ n) % 2 == 1) ∷ binary n x

abbrev pub digits_of : WordValue → List Bool
digits_of w = binary w.width w.value

abbrev pub written_scalar : Scalar → WrittenScalar
written_scalar (scalar.Bool b) = plain.Bool b
written_scalar (scalar.Word w) = plain.Word (digits_of w)

abbrev pub written_entry : Entry → WrittenEntry
written_entry e = record { index = digits_of e.0; element = digits_of e.1 }

-- the arguments of a row, and its value behind them
abbrev pub row_scalars : Row → List WrittenScalar
row_scalars r = map written_scalar r.args ++ written_scalar r.value ∷ []

-- each value has a written form; words are told by their digits
abbrev pub written_value : Value → Option WrittenValue
written_value (kept.Bool b) = Some (written.Bool b)
written_value (kept.Word w) = Some (written.Word (digits_of w))
written_value (kept.Array a) = Some (written.Array (digits_of a.default) (map written_entry a.entries))
written_value (kept.Fun t) = Some (written.Fun (written_scalar t.default) (flat_map row_scalars t.rows))

abbrev pub value_lines : ℕ × Value → List Line
value_lines p = map (line.Value p.0) (option_to_list (written_value p.1))

-- each value has a written form
abbrev pub AreWritten : Record → Type 0
AreWritten (Sat values) = AllByRecursion (λ (p : ℕ × Value). IsSome (written_value p.1)) values
AreWritten (Unsat p) = Unit {0}
AreWritten (Unknown d) = Unit {0}

abbrev pub HasScalarDigit : Scalar → Type 0
HasScalarDigit (scalar.Bool b) = Unit {0}
HasScalarDigit (scalar.Word w) = 0 < w.width

-- each of its words has a digit
abbrev pub HasDigit : Value → Type 0
HasDigit (kept.Bool b) = Unit {0}
HasDigit (kept.Word w) = 0 < w.width
HasDigit (kept.Array a) = (0 < a.default.width) × AllByRecursion (λ (e : Entry). (0 < e.0.width) × (0 < e.1.width)) a.entries
HasDigit (kept.Fun t) = HasScalarDigit t.default × AllByRecursion (λ (r : Row). AllByRecursion HasScalarDigit r.args × HasScalarDigit r.value) t.rows

-- each word that the record shows has one
abbrev pub HaveDigits : Record → Type 0
HaveDigits (Sat values) = AllByRecursion (λ (p : ℕ × Value). HasDigit p.1) values
HaveDigits (Unsat p) = Unit {0}
HaveDigits (Unknown d) = Unit {0}

abbrev pub diary_line : DiaryLine → Line
diary_line (diary.Take p) = line.Take p
diary_line (diary.Put p) = line.Put p
diary_line (diary.Drop p) = line.Drop p

-- the lines of a record
abbrev pub record_lines : Record → List Line
record_lines (Sat values) = line.Sat (length values) ∷ flat_map value_lines values
record_lines (Unsat p) = line.Unsat p ∷ []
record_lines (Unknown d) = line.Unknown d.cube d.start (length d.lines) ∷ map diary_line d.lines

-- Printed values in the pieces in which they are written.
use Rattle.std.specs.Prelude.{ℕ, ◌==◌, List, [], ◌++◌, codes, if◌then◌else◌}
use Rattle.smt_words.specs.Words.{WordValue}
use Rattle.smt_values.specs.Arrays.{Entry}
use Rattle.smt_values.specs.declared.table.Row.{Row}
use Rattle.proof_text.specs.Lines.{digits_text}
use Rattle.proof_text.specs.Records.{digits_of}
use Rattle.accepted_proof.specs.Answers.{condition_text, shown_scalar}

-- what stands before the array into which an element is stored
abbrev pub store_opening : ℕ → WordValue → List ℕ
store_opening default x = if x.value == default then [] else codes "(store "

-- what stands behind it
abbrev pub store_ending : ℕ → Entry → List ℕ
store_ending default e = if e.1.value == default then [] else codes " " ++ digits_text (digits_of e.0) ++ codes " " ++ digits_text (digits_of e.1) ++ codes ")"

-- what stands before the value where a row does not apply
abbrev pub row_opening : Row → List ℕ
row_opening r = codes "(ite " ++ condition_text r.args ++ codes " " ++ shown_scalar r.value ++ codes " "

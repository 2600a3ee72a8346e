-- Interpretations in which terms have the values that an assignment and a closed table give them.
use Rattle.std.specs.Prelude.{ℕ, Bool, List, Contains}
use Rattle.smt_terms.specs.declared.node.Node.{Node}
use Rattle.smt_terms.specs.Bits.{TermBits, image_in}
use Rattle.smt_terms.specs.Values.{Interpretation}
use Rattle.access_tables.specs.Built.{IsBuilt, Agrees}
use Rattle.access_tables.specs.Held.{TableValue, assigned_value, table_word}

-- Under the interpretation each of the table's terms in which no witness stands has its value: a Bool or a word that of the
-- assignment, an array at each index that of its access there, else that of its access at the spare index, else zero.
abbrev pub IsModel : List Node → List TermBits → (ℕ → Bool) → TableValue → Interpretation → Type 0
IsModel nodes bits f table M = Agrees nodes (Contains table.terms) (assigned_value nodes bits f) (table_word nodes bits f table) M

-- the interpretation has the assignment's values for declared constants and applications, and the table's arrays
abbrev pub IsFrom : List Node → List TermBits → (ℕ → Bool) → TableValue → Interpretation → Type 0
IsFrom nodes bits f table M = IsBuilt nodes (image_in bits) (Contains table.terms) (assigned_value nodes bits f) (table_word nodes bits f table) M

-- Truth values and words, and tables of them, read at a sort.
use Rattle.std.specs.Prelude.{◌%◌, ◌^◌, false, map}
use Rattle.smt_words.specs.Words.{word}
use Rattle.smt_terms.specs.declared.sort.Sort.{Sort}
use Rattle.smt_terms.specs.declared.sort.Sort.TheVariants as sort
use Rattle.smt_terms.specs.declared.scalar.Scalar.{Scalar}
use Rattle.smt_terms.specs.declared.scalar.Scalar.TheVariants as scalar
use Rattle.smt_values.specs.declared.table.Row.{Row}
use Rattle.smt_values.specs.Tables.{TableFields}

abbrev pub scalar_read : Sort → Scalar → Scalar
scalar_read sort.Bool (scalar.Bool b) = scalar.Bool b
scalar_read sort.Bool (scalar.Word w) = scalar.Bool false
scalar_read (sort.Word n) (scalar.Bool b) = scalar.Word (word n 0)
scalar_read (sort.Word n) (scalar.Word w) = scalar.Word (word n (w.value % 2 ^ n))
scalar_read (sort.Array n m) (scalar.Bool b) = scalar.Bool false
scalar_read (sort.Array n m) (scalar.Word w) = scalar.Bool false

abbrev pub row_read : Sort → Row → Row
row_read s r = record { args = r.args; value = scalar_read s r.value }

abbrev pub table_read : Sort → TableFields → TableFields
table_read s t = record { default = scalar_read s t.default; rows = map (row_read s) t.rows }

-- What is written of what was read.
use Rattle.std.specs.Prelude.{◌≡◌, ℕ, ◌<◌, suc, List, [], ◌∷◌, ◌++◌, length}
use Rattle.std.specs.List.{flat_map, AllByRecursion}
use Rattle.proof_text.specs.declared.line.Format.TheVariants.{Two}
use Rattle.proof_text.specs.Lines.{line_text, IsLine}
use Rattle.proof_conversion.specs.declared.header.Numbers.{Numbers}
use Rattle.proof_conversion.specs.Headers.{header_of}
use Rattle.proof_conversion.specs.Needs.{Known, deletion, due_in}
use Rattle.proof_conversion.specs.Conversions.{converted_lines}

-- the texts of parts, in front of which so many are, each behind the deletion of these places
abbrev pub texts_behind : (ℕ → List ℕ) → ℕ → List (List ℕ) → List ℕ
texts_behind due part [] = []
texts_behind due part (t ∷ ts) = (flat_map line_text (deletion (due part)) ++ t) ++ texts_behind due (suc part) ts

-- the proof and the number of its records
pub record IsWritten (numbers : Numbers) (known : Known) (out : List ℕ) (records : ℕ) : Type 0 where
  pub out_is : out ≡ header_of Two numbers ++ flat_map line_text (converted_lines known)
  pub readable : (part : ℕ) → part < length known.parts → AllByRecursion IsLine (deletion (due_in known part))
  pub count : records ≡ length known.parts

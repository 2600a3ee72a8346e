-- What the code keeps of the lines that it read.
use Rattle.std.specs.Prelude.{◌≡◌, ℕ, ◌+◌, List, [], ◌∷◌, ◌++◌, map}
use Rattle.std.specs.List.{flat_map}
use Rattle.proof_text.specs.Lines.{line_text}
use Rattle.proof_text.specs.declared.line.Line.{Line}
use Rattle.proof_conversion.specs.declared.kind.Owed.{Owed}
use Rattle.proof_conversion.specs.declared.kind.Owed.TheVariants as owed
use Rattle.proof_conversion.specs.declared.scanning.Scan.{Scan}
use Rattle.proof_conversion.specs.Needs.{Known, part_in}

abbrev pub text_of : List Line → List ℕ
text_of lines = flat_map line_text lines

-- it keeps what is known, with the bytes of the parts in place of their lines
pub record IsScan (s : Scan) (k : Known) : Type 0 where
  pub owed : s.owed ≡ k.owed
  pub part : s.part ≡ part_in k
  pub steps : s.steps.items ≡ k.steps
  pub last : s.last.items ≡ k.last
  pub texts : s.texts.items ≡ map text_of k.parts
  pub opened : s.opened ≡ text_of k.opened

-- but for the steps and for what needs them, both are equal
pub record IsBeside (old new : Scan) : Type 0 where
  pub owed : new.owed ≡ old.owed
  pub part : new.part ≡ old.part
  pub texts : new.texts.items ≡ old.texts.items
  pub opened : new.opened ≡ old.opened

-- ---- what the end of a part changes

abbrev pub part_with : Owed → ℕ → ℕ
part_with owed.Nothing part = part + 1
part_with _ part = part

abbrev pub whole_with : Owed → List (List ℕ) → List ℕ → List (List ℕ)
whole_with owed.Nothing texts text = texts ++ text ∷ []
whole_with _ texts text = texts

abbrev pub open_with : Owed → List ℕ → List ℕ
open_with owed.Nothing text = []
open_with _ text = text

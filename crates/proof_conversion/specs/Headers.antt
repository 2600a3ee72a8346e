-- The first line of a proof.
use Rattle.std.specs.Prelude.{ℕ, ◌≤◌, List}
use Rattle.proof_text.specs.declared.line.Format.{Format}
use Rattle.proof_text.specs.declared.line.Line.TheVariants.{Header}
use Rattle.proof_text.specs.Lines.{line_text}
use Rattle.proof_conversion.specs.declared.header.Numbers.{Numbers}

-- a proof may begin with these
pub record AreWithin (n : Numbers) : Type 0 where
  pub cubes : n.cubes ≤ 10
  pub budget : n.budget ≤ 1000000000

-- the header with these numbers
abbrev pub header_of : Format → Numbers → List ℕ
header_of format n = line_text (Header format n.cubes n.budget)

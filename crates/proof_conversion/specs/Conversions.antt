-- What a proof of the first format becomes in the second: its own lines, in front of which each part deletes what is not needed
-- any more. Whether its lines say anything valid is not asked.
use Rattle.std.specs.Prelude.{◌≡◌, ◌≢◌, ◌⊎◌, ℕ, ◌+◌, List, [], ◌++◌, length, None}
use Rattle.std.specs.List.{flat_map, AllByRecursion}
use Rattle.proof_text.specs.declared.line.Format.TheVariants.{One, Two}
use Rattle.proof_text.specs.declared.line.Line.{Line}
use Rattle.proof_text.specs.Lines.{line_text, IsLine}
use Rattle.proof_conversion.specs.declared.fault.Fault.{Fault}
use Rattle.proof_conversion.specs.declared.fault.Rule.{Rule}
use Rattle.proof_conversion.specs.declared.fault.Rule.TheVariants as rule
use Rattle.proof_conversion.specs.declared.header.Numbers.{Numbers}
use Rattle.proof_conversion.specs.declared.kind.Owed.{Owed}
use Rattle.proof_conversion.specs.declared.kind.Owed.TheVariants as owed
use Rattle.proof_conversion.specs.Headers.{AreWithin, header_of}
use Rattle.proof_conversion.specs.Parts.{kind_of, owed_behind}
use Rattle.proof_conversion.specs.Needs.{Known, nothing_known, Knows, due_in, with_deletions}

-- The text is that of these lines, each of which may stand behind those before it, and the last of which ends a part.
pub record IsRead (text : List ℕ) (lines : List Line) (known : Known) : Type 0 where
  pub text_is : text ≡ flat_map line_text lines
  pub each : AllByRecursion IsLine lines
  pub knows : Knows nothing_known lines known
  pub whole : known.owed ≡ owed.Nothing

-- what stands behind the header in the second format
abbrev pub converted_lines : Known → List Line
converted_lines k = with_deletions (due_in k) 0 k.parts

-- The proof is of the first format, by its lines, and this one of the second has its lines, which can be read, and so many records.
pub record IsConverted (text out : List ℕ) (records : ℕ) : Type 0 where
  pub numbers : Numbers
  pub within : AreWithin numbers
  pub rest : List ℕ
  pub lines : List Line
  pub known : Known
  pub header : text ≡ header_of One numbers ++ rest
  pub read : IsRead rest lines known
  pub out_is : out ≡ header_of Two numbers ++ flat_map line_text (converted_lines known)
  pub readable : AllByRecursion IsLine (converted_lines known)
  pub count : records ≡ length known.parts

-- ---- what is refused

-- it begins with no line, and is not nothing
pub record BeginsWithNone (rest : List ℕ) : Type 0 where
  pub some : rest ≢ []
  pub none : (l : Line) (more : List ℕ) → IsLine l → rest ≡ line_text l ++ more → ⊥

-- it begins with a line that may not stand where this is owed
pub record BeginsWrong (what : Owed) (rest : List ℕ) : Type 0 where
  pub next : Line
  pub more : List ℕ
  pub readable : IsLine next
  pub begins : rest ≡ line_text next ++ more
  pub misplaced : owed_behind what (kind_of next) ≡ None

-- the rule that is broken by what stands where this is owed
abbrev pub IsBroken : Owed → List ℕ → Rule → Type 0
IsBroken what rest name =
    ((name ≡ rule.Line) × (BeginsWithNone rest ⊎ BeginsWrong what rest))
    ⊎ ((name ≡ rule.End) × (rest ≡ []) × (what ≢ owed.Nothing))

-- The first bad line behind the header of a proof of the first format, and its rule: in front of it stand lines each of which may
-- stand behind those before it.
pub record IsFirstBad (text : List ℕ) (fault : Fault) : Type 0 where
  pub lines : List Line
  pub rest : List ℕ
  pub known : Known
  pub text_is : text ≡ flat_map line_text lines ++ rest
  pub each : AllByRecursion IsLine lines
  pub knows : Knows nothing_known lines known
  pub line : fault.line ≡ length lines + 2
  pub broken : IsBroken known.owed rest fault.rule

-- a text that begins with a header of the first format
pub record HasHeader (text rest : List ℕ) : Type 0 where
  pub numbers : Numbers
  pub within : AreWithin numbers
  pub begins : text ≡ header_of One numbers ++ rest

abbrev pub no_header : Fault
no_header = record { line = 1; rule = rule.Header }

-- the text is no proof of the first format, by its lines: its first bad line, and its rule
abbrev pub IsUnconverted : List ℕ → Fault → Type 0
IsUnconverted text fault =
    (((rest : List ℕ) → HasHeader text rest → ⊥) × (fault ≡ no_header))
    ⊎ ((rest : List ℕ) × HasHeader text rest × IsFirstBad rest fault)

-- What a conversion of a proof promises of its files: the proof that is read stands where a script does, and the one that is
-- written where a proof does.
use Rattle.std.specs.Prelude.{◌≡◌, ◌≢◌, ◌⊎◌, ℕ, ◌+◌, List, [], ◌∷◌, ◌++◌, codes, Option}
use Rattle.std.specs.Fmt.{decimal}
use Rattle.std.specs.Io.KnownBytes.{Appends, IsAtEnd}
use Rattle.proof_conversion.specs.declared.fault.Fault.{Fault}
use Rattle.proof_conversion.specs.declared.fault.Rule.{Rule}
use Rattle.proof_conversion.specs.declared.fault.Rule.TheVariants as rule
use Rattle.proof_conversion.specs.Conversions.{IsConverted, IsUnconverted}
use Rattle.smt_check.specs.declared.status.Status.{Status}
use Rattle.smt_check.specs.declared.status.Status.TheVariants.{Done, Refused, Usage, ReadFault, WriteFault, NoMemory, TooLong}
use Rattle.smt_check.specs.Runs.{ReadsBytes, ReadsWithin, HasCause, input_limit}
use Rattle.smt_run.specs.Beside.{IsShort, IsWithoutFault}
use Rattle.smt_run.specs.Commands.{Files, Adds, counts_of, IsEnd, IsEndOrWant}

-- ---- what is told

abbrev pub rule_text : Rule → List ℕ
rule_text rule.Header = codes "header"
rule_text rule.Line = codes "line"
rule_text rule.End = codes "end"

-- the first bad line of a proof, and its rule
abbrev pub refusal_text : Fault → List ℕ
refusal_text f = codes "refused line " ++ decimal f.line ++ codes " rule " ++ rule_text f.rule ++ 10 ∷ []

-- how many records a proof has that was converted
abbrev pub records_text : ℕ → List ℕ
records_text n = codes "converted " ++ decimal n ++ 10 ∷ []

-- What a text becomes, what is told of it, and the status: a proof of the first format becomes one of the second, by its lines;
-- of any other text the first bad line is told, and nothing is written.
abbrev pub Becomes : List ℕ → List ℕ → List ℕ → Status → Type 0
Becomes text told written Done = (records : ℕ) × IsConverted text written records × (told ≡ records_text records)
Becomes text told written Refused = (fault : Fault) × IsUnconverted text fault × (told ≡ refusal_text fault) × (written ≡ [])
Becomes text told written Usage = ⊥
Becomes text told written ReadFault = ⊥
Becomes text told written WriteFault = ⊥
Becomes text told written NoMemory = ⊥
Becomes text told written TooLong = ⊥

-- a front of what it becomes was written, and a front of the line was told: none of the line before all was written
pub record IsCutShort (text told written : List ℕ) : Type 0 where
  pub line : List ℕ
  pub proof : List ℕ
  pub status : Status
  pub becomes : Becomes text line proof status
  pub rest : List ℕ
  pub left : List ℕ
  pub line_is : line ≡ told ++ rest
  pub proof_is : proof ≡ written ++ left
  pub order : (told ≡ []) ⊎ (left ≡ [])

abbrev pub IsNothing : List ℕ → List ℕ → Type 0
IsNothing told written = (told ≡ []) × (written ≡ [])

-- what was told and written of a text before a run ended
abbrev pub IsLeft : List ℕ → List ℕ → List ℕ → Status → Type 0
IsLeft text told written Done = Becomes text told written Done
IsLeft text told written Refused = Becomes text told written Refused
IsLeft text told written Usage = ⊥
IsLeft text told written ReadFault = IsNothing told written
IsLeft text told written WriteFault = IsCutShort text told written
IsLeft text told written NoMemory = IsNothing told written
IsLeft text told written TooLong = IsNothing told written

-- A proof of the first format is converted to one of the second.
pub record Converts (status : Status) (old new : Files) : Type 0 where
  -- `Done` exactly where the text is a proof of the first format, by its lines: then the one of the second is written, and how many
  -- records it has is told. Of any other text the first bad line is told, and nothing is written. Before any other status nothing
  -- is told or written, but fronts of both where a write failed.
  pub becomes : Adds old new (λ text told written. IsLeft text told written status)
  -- The text is read to its end before anything is told or written.
  pub at_end : IsEnd status → IsAtEnd new.script.bytes
  -- Without a fault a text that is told and not too long is converted or refused, but for want of memory.
  pub always : IsShort old.script.bytes → IsWithoutFault (counts_of old) (counts_of new) → IsEndOrWant status
  -- Of the text 2^32 bytes are read, and one more where it is too long.
  pub within : status ≢ TooLong → ReadsWithin old.script.bytes new.script.bytes
  pub too_long : status ≡ TooLong → ReadsBytes (input_limit + 1) old.script.bytes new.script.bytes
  -- A fault is told only where a count rose.
  pub cause : HasCause (counts_of old) (counts_of new) status

-- ---- the two writes

-- fronts of this line and of this proof were added: none of the line before all of the proof
pub record AddsFronts (line proof : List ℕ) (answers answers' out out' : Option (List ℕ)) : Type 0 where
  pub told : List ℕ
  pub written : List ℕ
  pub rest : List ℕ
  pub left : List ℕ
  pub answers_are : Appends answers answers' told
  pub out_is : Appends out out' written
  pub line_is : line ≡ told ++ rest
  pub proof_is : proof ≡ written ++ left
  pub order : (told ≡ []) ⊎ (left ≡ [])

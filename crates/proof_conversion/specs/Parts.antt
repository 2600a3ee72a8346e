-- How the lines of a proof stand in parts, whatever they say: steps, and then a record with the lines that it counts.
use Rattle.std.specs.Prelude.{ℕ, zero, suc, Option, Some, None}
use Rattle.proof_text.specs.declared.line.Line.{Line}
use Rattle.proof_text.specs.declared.line.Line.TheVariants as line
use Rattle.proof_conversion.specs.declared.kind.Kind.{Kind}
use Rattle.proof_conversion.specs.declared.kind.Kind.TheVariants.{Step, Added, Values, Ends, Notes, OneValue, OneNote, Other}
use Rattle.proof_conversion.specs.declared.kind.Owed.{Owed}
use Rattle.proof_conversion.specs.declared.kind.Owed.TheVariants as owed

-- what a line is among those of its part
abbrev pub kind_of : Line → Kind
kind_of (line.Header format cubes budget) = Other
kind_of (line.Term head args) = Step
kind_of (line.Leaf t) = Step
kind_of (line.Encode t) = Step
kind_of (line.Rewrite rule t u) = Step
kind_of (line.Selector a) = Step
kind_of (line.Chain clause hints) = Added
kind_of (line.Equal t u) = Step
kind_of (line.Congruence t u) = Added
kind_of (line.Witness t) = Added
kind_of (line.Accesses a b) = Added
kind_of (line.Delete places) = Other
kind_of (line.Sat count) = Values count
kind_of (line.Value d v) = OneValue
kind_of (line.Unsat p) = Ends
kind_of (line.Unknown cube start count) = Notes count
kind_of (line.Take p) = OneNote
kind_of (line.Put p) = OneNote
kind_of (line.Drop p) = OneNote

-- so many lines more are owed: none where none is left, and then the part ends
abbrev pub owed_in : (ℕ → Owed) → ℕ → Owed
owed_in more zero = owed.Nothing
owed_in more (suc left) = more left

-- what is owed behind a line where a step or a record may stand, if it may stand there
abbrev pub begun_by : Kind → Option Owed
begun_by Step = Some owed.Steps
begun_by Added = Some owed.Steps
begun_by (Values count) = Some (owed_in owed.Values count)
begun_by Ends = Some owed.Nothing
begun_by (Notes count) = Some (owed_in owed.Notes count)
begun_by OneValue = None
begun_by OneNote = None
begun_by Other = None

abbrev pub valued_by : ℕ → Kind → Option Owed
valued_by left OneValue = Some (owed_in owed.Values left)
valued_by left _ = None

abbrev pub noted_by : ℕ → Kind → Option Owed
noted_by left OneNote = Some (owed_in owed.Notes left)
noted_by left _ = None

-- what is owed behind a line; none where it may not stand
abbrev pub owed_behind : Owed → Kind → Option Owed
owed_behind owed.Nothing k = begun_by k
owed_behind owed.Steps k = begun_by k
owed_behind (owed.Values left) k = valued_by left k
owed_behind (owed.Notes left) k = noted_by left k

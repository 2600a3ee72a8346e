-- What is kept of a proof file while it grows, and what a part that is written to it is.
use Rattle.std.specs.Prelude.{◌≡◌, ℕ, List, ◌++◌, Some, IsSome, option_to_list}
use Rattle.std.specs.List.{flat_map, AllByRecursion}
use Rattle.smt_terms.specs.declared.node.Node.{Node}
use Rattle.scope_selectors.specs.declared.live.Live.{Live}
use Rattle.proof_log.specs.declared.entry.Entry.{Entry}
use Rattle.proof_log.specs.declared.entry.Entry.TheVariants as step
use Rattle.proof_log.specs.Logs.{entry_at}
use Rattle.proof_text.specs.Entries.{entry_line}
use Rattle.proof_text.specs.declared.line.Line.{Line}
use Rattle.proof_text.specs.Lines.{line_text, IsLine}
use Rattle.proof_text.specs.declared.record.Record.{Record}
use Rattle.accepted_proof.specs.Turns.{Item, item_lines, shown_lines}
use Rattle.proof_file.specs.Places.{FileValue, with_steps_of, placed_steps}
use Rattle.proof_file.specs.Held.{PlacesValue, file_in}
use Rattle.proof_file.specs.Indexed.{StaleIndex, IsIndexOf, IsNoted, KnowsAll}
use Rattle.proof_file.specs.Trimmed.{IsTrimmedCheck}

-- the places of a file, and what finds its stale chains
pub record KeptFile : Type 0 where
  pub places : PlacesValue
  pub chains : StaleIndex

abbrev pub file_of : KeptFile → FileValue
file_of f = file_in f.places

-- the file has steps of this log over these terms
abbrev pub IsFileOf : List Node → List Entry → KeptFile → Type 0
IsFileOf nodes log f = IsIndexOf f.chains nodes log (file_of f).places

-- each step has a line
abbrev pub AreLined : List Entry → Type 0
AreLined = AllByRecursion (λ e. IsSome (entry_line e))

-- The part of a check was written behind a text, and each of its lines can be read: what the file gets for a check of these assertions,
-- which began with this log over these terms, added these steps and ended with this record.
pub record IsWrittenPart (nodes : List Node) (live : List Live) (log steps : List Entry) (r : Record) (old new : FileValue) (before after : List ℕ) : Type 0 where
  pub items : List Item
  pub placed : Record
  pub trimmed : IsTrimmedCheck nodes live log steps r old new items (Some placed)
  pub text : after ≡ before ++ flat_map line_text (flat_map item_lines items ++ shown_lines (Some placed))
  pub readable : AllByRecursion IsLine (flat_map item_lines items ++ shown_lines (Some placed))

-- ---- steps that are written

abbrev pub step_lines : List Entry → List Line
step_lines steps = flat_map (λ e. option_to_list (entry_line e)) steps

-- a step that has a line stands at the position
pub record HasLine (log : List Entry) (p : ℕ) : Type 0 where
  pub entry : Entry
  pub stands : entry_at log p ≡ Some entry
  pub line : IsSome (entry_line entry)

-- the steps of these positions were written behind a text, each by the places of those before it
pub record AreStepsWritten (log : List Entry) (old new : FileValue) (ps : List ℕ) (before after : List ℕ) : Type 0 where
  pub file : new ≡ with_steps_of old ps
  pub text : after ≡ before ++ flat_map line_text (step_lines (placed_steps log old ps))
  pub readable : AllByRecursion IsLine (step_lines (placed_steps log old ps))

-- the step at this position was noted, where it is a chain
abbrev pub IsStepNoted : ℕ → Entry → StaleIndex → StaleIndex → Type 0
IsStepNoted p (step.Chain c hints) old new = IsNoted p c old new
IsStepNoted p e old new = new ≡ old

-- wherever it was an index of the file that knows all selectors, it is one
abbrev pub KeepsIndex : List Entry → FileValue → FileValue → StaleIndex → StaleIndex → Type 0
KeepsIndex log old new chains chains' =
    (nodes : List Node) → IsIndexOf chains nodes log old.places → KnowsAll chains nodes log → IsIndexOf chains' nodes log new.places × KnowsAll chains' nodes log

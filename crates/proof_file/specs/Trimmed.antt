-- What a proof file of the second format has for a turn: of the steps of its check those that make terms and variables, and the lemmas and
-- chains that its record needs.
use Rattle.std.specs.Prelude.{◌≡◌, ℕ, suc, Bool, true, false, ltb, ◌&&◌, if◌then◌else◌, List, [], ◌∷◌, ◌++◌, length, map, filter, Option, Some, None}
use Rattle.std.specs.List.{AllByRecursion}
use Rattle.smt_terms.specs.declared.node.Node.{Node}
use Rattle.scope_selectors.specs.declared.live.Live.{Live}
use Rattle.script_state.specs.States.{StateValue}
use Rattle.script_state.specs.Steps.{step}
use Rattle.proof_log.specs.declared.entry.Entry.{Entry}
use Rattle.proof_log.specs.declared.entry.Entry.TheVariants as entry
use Rattle.proof_log.specs.declared.diary.Diary.{Diary}
use Rattle.proof_log.specs.declared.diary.DiaryLine.{DiaryLine}
use Rattle.proof_log.specs.declared.diary.DiaryLine.TheVariants.{Take}
use Rattle.proof_log.specs.Logs.{entry_at}
use Rattle.proof_text.specs.Deletions.{is_deletable}
use Rattle.proof_text.specs.Lines.{IsLine}
use Rattle.proof_text.specs.declared.record.Record.{Record}
use Rattle.proof_text.specs.declared.record.Record.TheVariants.{Sat, Unsat, Unknown}
use Rattle.accepted_proof.specs.Turns.{Item, Step, Delete, Turn, Part, state_after, part_lines}
use Rattle.proof_file.specs.Places.{FileValue, without_places, with_steps_of, placed_steps, placed_line}
use Rattle.proof_file.specs.Needed.{AreNeeded}
use Rattle.proof_file.specs.Stale.{AreStale}

-- the positions of the steps, counted from this one, that are neither lemmas nor chains: the file has each of them, and each once
abbrev pub made_from : ℕ → List Entry → List ℕ
made_from n [] = []
made_from n (e ∷ es) = if is_deletable (Some e) then made_from (suc n) es else n ∷ made_from (suc n) es

abbrev pub deletion : List ℕ → List Item
deletion [] = []
deletion (q ∷ qs) = Delete (q ∷ qs) ∷ []

-- ---- records

abbrev pub is_lemma : Option Entry → Bool
is_lemma (Some (entry.Lemma l)) = true
is_lemma _ = false

-- of these positions those of lemmas before this one, which a search that starts there holds
abbrev pub lemmas_before : List Entry → ℕ → List ℕ → List ℕ
lemmas_before log start ps = filter (λ p. ltb p start && is_lemma (entry_at log p)) ps

-- A diary over the file, whose lemmas and chains of this check begin at this place. What the search held at its start and what is written
-- only now is taken first.
abbrev pub placed_diary : List Entry → (ℕ → ℕ) → ℕ → List ℕ → Diary → Diary
placed_diary log places start needed d = record {
  cube = d.cube;
  start = start;
  lines = map (λ p. Take (places p)) (lemmas_before log d.start needed) ++ map (placed_line places) d.lines;
}

abbrev pub placed_record : List Entry → (ℕ → ℕ) → ℕ → List ℕ → Record → Record
placed_record log places start needed (Sat values) = Sat values
placed_record log places start needed (Unsat p) = Unsat (places p)
placed_record log places start needed (Unknown d) = Unknown (placed_diary log places start needed d)

-- ---- parts

-- What the file gets for a check, which is about these assertions, began with this log over these terms, added these steps and ended with
-- this record: the deletion of what is stale, the steps that make terms and variables, what the record needs, and the record.
pub record IsTrimmedCheck (nodes : List Node) (live : List Live) (log steps : List Entry) (r : Record) (old new : FileValue) (items : List Item) (shown : Option Record) : Type 0 where
  pub stale : List ℕ
  pub needed : List ℕ
  pub gone : AreStale nodes log live old.places stale
  pub wanted : AreNeeded (log ++ steps) (without_places old stale).places r needed
  pub file : new ≡ with_steps_of (without_places old stale) (made_from (suc (length log)) steps ++ needed)
  pub items_are : items ≡ deletion stale ++ map Step (placed_steps (log ++ steps) (without_places old stale) (made_from (suc (length log)) steps ++ needed))
  pub record_is : shown ≡ Some (placed_record (log ++ steps) new.places (suc (with_steps_of (without_places old stale) (made_from (suc (length log)) steps)).count) needed r)

-- what it gets for a turn: only for a check there is anything
abbrev pub IsTrimmedTo : List Node → List Live → List Entry → List Entry → Option Record → FileValue → FileValue → List Item → Option Record → Type 0
IsTrimmedTo nodes live log steps None old new items shown = (new ≡ old) × (items ≡ []) × (shown ≡ None)
IsTrimmedTo nodes live log steps (Some r) old new items shown = IsTrimmedCheck nodes live log steps r old new items shown

-- The part is what the file gets for the turn, which follows in this state with this log. Its command and its answer are the turn's, and each
-- line can be read.
pub record IsTrimmed (s : StateValue) (log : List Entry) (old new : FileValue) (t : Turn) (p : Part) : Type 0 where
  pub line : p.line ≡ t.line
  pub says : p.says ≡ t.says
  pub answer : p.answer ≡ t.answer
  pub check : IsTrimmedTo (step s t.says).1.terms.nodes (step s t.says).1.scopes.live log t.steps t.shown old new p.items p.shown
  pub readable : AllByRecursion IsLine (part_lines p)

-- the parts are what the file gets for the turns
abbrev pub AreTrimmed : StateValue → List Entry → FileValue → List Turn → List Part → Type 0
AreTrimmed s log file [] [] = Unit {0}
AreTrimmed s log file [] (p ∷ ps) = ⊥
AreTrimmed s log file (t ∷ ts) [] = ⊥
AreTrimmed s log file (t ∷ ts) (p ∷ ps) = (new : FileValue) × IsTrimmed s log file new t p × AreTrimmed (state_after s t) (log ++ t.steps) new ts ps

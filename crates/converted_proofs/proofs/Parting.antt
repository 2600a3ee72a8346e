-- The parts of an accepted proof of the first format, in front of each of which places are deleted that no line needs from there on.
use Rattle.std.proofs.Common.{◌≡◌, ℕ, suc, ◌<◌, ◌≤◌, true, false, List, [], ◌∷◌, ◌++◌, length, map, get_or, Option, Some, None, refl, sym, ap, ap₂, subst, ◌∙◌, arith, inl, inr, ⊎_elim, append_assoc, append-nil}
use Rattle.std.specs.Prelude.{◌⊎◌, IsSome, option_to_list, Contains}
use Rattle.std.specs.List.{flat_map, AllByRecursion}
use Rattle.std.proofs.lemmas.Bool.{cases_lt}
use Rattle.std.proofs.lemmas.List.{length-append, length-map, get_or_append_left}
use Rattle.cnf_base.specs.Literals.{Literal}
use Rattle.cnf_base.specs.declared.clause.ClauseId.{ClauseId}
use Rattle.smt_terms.specs.declared.node.Node.{Node}
use Rattle.smt_values.specs.declared.value.Value.{Value}
use Rattle.script_state.specs.States.{StateValue}
use Rattle.script_state.specs.Steps.{step}
use Rattle.script_state.specs.declared.answer.Answer.{Answer}
use Rattle.script_state.specs.declared.answer.Answer.TheVariants.{Done, Refused, Check, Says, Model, Values, Core, Assumptions, Exit}
use Rattle.proof_log.specs.declared.entry.Entry.{Entry}
use Rattle.proof_log.specs.declared.entry.Entry.TheVariants as entry
use Rattle.proof_log.specs.declared.diary.DiaryLine.{DiaryLine}
use Rattle.proof_log.specs.declared.diary.DiaryLine.TheVariants as diary
use Rattle.proof_log.specs.Logs.{entry_at}
use Rattle.proof_text.specs.declared.line.Format.TheVariants.{One, Two}
use Rattle.proof_text.specs.declared.line.Line.{Line}
use Rattle.proof_text.specs.declared.line.Line.TheVariants as line
use Rattle.proof_text.specs.declared.line.WrittenValue.{WrittenValue}
use Rattle.proof_text.specs.declared.record.Record.{Record}
use Rattle.proof_text.specs.declared.record.Record.TheVariants.{Sat, Unsat, Unknown}
use Rattle.proof_text.specs.Deletions.{AreDeletable, is_deletable, is_deleted}
use Rattle.proof_text.specs.Entries.{entry_line, written_hint, written_literal}
use Rattle.proof_text.specs.Lines.{IsLine}
use Rattle.proof_text.specs.Records.{diary_line, record_lines, value_lines, written_value}
use Rattle.proof_conversion.specs.declared.kind.Kind.TheVariants as kind
use Rattle.proof_conversion.specs.declared.kind.Owed.{Owed}
use Rattle.proof_conversion.specs.declared.kind.Owed.TheVariants as owed
use Rattle.proof_conversion.specs.Parts.{kind_of, begun_by, owed_in}
use Rattle.proof_conversion.specs.Needs.{Known, Knows, known_with, needs, part_in, cited_by, step_at, step_in, is_added, due_in, deletion, with_deletions}
use Rattle.accepted_proof.specs.Searching.{Limits}
use Rattle.accepted_proof.specs.Turns.{Item, Step, Delete, Part, Turn, AreKept, AreParts, AreStepsOf, HasPart, IsPart, IsShownWithout, deleted_behind, item_lines, part_lines, shown_lines, state_after, steps_in, turn_of, with_steps}
use Rattle.converted_proofs.proofs.Noted.{Stays, made_noted, needs_noted}
use Rattle.converted_proofs.proofs.Places.{ArePast, IsPast, are_deletable, due_all, due_rises, not_past, past_append, past_more}
use Rattle.converted_proofs.proofs.Lighter.{NamesNone, spent_lighter}
use Rattle.converted_proofs.proofs.Walking.{CountedKnown, IsAt, IsOpen, Pending, StepsKnown, added_at, at_other, begun_open, counted_known, hint_not, line_at, longer_with, note_count, some_back, steps_known, value_count}

-- ---- the lines of a diary

pub note_kinds : (ls : List DiaryLine) → AllByRecursion (λ (l : Line). kind_of l ≡ kind.OneNote) (map diary_line ls)
note_kinds [] = tt
note_kinds (diary.Take p ∷ ls) = (refl, note_kinds ls)
note_kinds (diary.Put p ∷ ls) = (refl, note_kinds ls)
note_kinds (diary.Drop p ∷ ls) = (refl, note_kinds ls)

module _ (last : List ℕ) (n m m' : ℕ) (deleted : List ℕ) (le : m ≤ m') (past : ArePast last n m deleted) (log : List Entry) (steps : List Line) (fits : map entry_line log ≡ map Some steps) where
  put_cites : (p : ℕ) → AllByRecursion (Stays last n m') (cited_by (step_at steps p)) → (c : List Literal) (hints : List ClauseId) → entry_at log p ≡ Some (entry.Chain c hints) → (id : ClauseId) → Contains hints id → is_deleted deleted id.pos ≡ false
  put_cites p h c hints e id k =
      let l = line_at log steps fits p (entry.Chain c hints) e in
      let same : l.at ≡ line.Chain (map written_literal c) (map written_hint hints) = sym (some_back (line.Chain (map written_literal c) (map written_hint hints)) l.at l.line_is) in
      hint_not last n m m' deleted hints le past (subst (λ (x : Option Line). AllByRecursion (Stays last n m') (cited_by x)) (l.stands ∙ ap Some same) h) id k

  names_none : (ls : List DiaryLine) → AllByRecursion (λ (l : Line). AllByRecursion (Stays last n m') (needs steps l)) (map diary_line ls) → AllByRecursion (NamesNone deleted log) ls
  names_none [] h = tt
  names_none (diary.Take p ∷ ls) h = (not_past last n m m' deleted p le past h.0.0, names_none ls h.1)
  names_none (diary.Put p ∷ ls) h = ((not_past last n m m' deleted p le past h.0.0, put_cites p h.0.1), names_none ls h.1)
  names_none (diary.Drop p ∷ ls) h = (not_past last n m m' deleted p le past h.0.0, names_none ls h.1)

-- ---- values

pub written_lines : (values : List (ℕ × Value)) → AllByRecursion (λ (p : ℕ × Value). IsSome (written_value p.1)) values → (AllByRecursion (λ (l : Line). kind_of l ≡ kind.OneValue) (flat_map value_lines values)) × (length (flat_map value_lines values) ≡ length values)
written_lines [] h = (tt, refl)
written_lines (p ∷ ps) h = go (written_lines ps h.1) (written_value p.1) refl h.0
  where
    go : (AllByRecursion (λ (l : Line). kind_of l ≡ kind.OneValue) (flat_map value_lines ps)) × (length (flat_map value_lines ps) ≡ length ps) → (o : Option WrittenValue) → written_value p.1 ≡ o → IsSome o → (AllByRecursion (λ (l : Line). kind_of l ≡ kind.OneValue) (flat_map value_lines (p ∷ ps))) × (length (flat_map value_lines (p ∷ ps)) ≡ suc (length ps))
    go rest None e i = let z : ⊥ = cc in absurd z
    go rest (Some v) e i =
        let same : line.Value p.0 v ∷ flat_map value_lines ps ≡ flat_map value_lines (p ∷ ps) = ap (λ (x : Option WrittenValue). map (line.Value p.0) (option_to_list x) ++ flat_map value_lines ps) (sym e) in (
          subst (AllByRecursion (λ (l : Line). kind_of l ≡ kind.OneValue)) same (refl, rest.0),
          ap (λ (x : List Line). length x) (sym same) ∙ ap suc rest.1,
        )

-- ---- a record

pub record RecordKnown (deleted : List ℕ) (limits : Limits) (s : StateValue) (nodes : List Node) (log : List Entry) (r : Record) (k : Known) (more : List Line) (end : Known) : Type 0 where
  pub next : Known
  pub knows : Knows next more end
  pub at : IsAt log next
  pub pending : Pending k.parts (k.opened ++ record_lines r) owed.Nothing next
  pub longer : length k.last ≤ length next.last
  pub shown : IsShownWithout deleted limits s nodes log r

module _ (deleted : List ℕ) (limits : Limits) (s : StateValue) (nodes : List Node) (log : List Entry) (k : Known) (more : List Line) (end : Known) (m : ℕ) (a : IsAt log k) (begun : IsOpen k.owed) (past : ArePast end.last (part_in k) m deleted) (le : m ≤ length k.last) where
  -- a record that is one line, or which more lines follow
  first_owed : (l : Line) (ls : List Line) (o : Owed) → begun_by (kind_of l) ≡ Some o → (w : Knows k (l ∷ ls) end) → Knows (known_with k l o) ls end
  first_owed l ls o e w = subst (λ (x : Owed). Knows (known_with k l x) ls end) (some_back w.0 o (sym (begun_open k.owed w.0 (kind_of l) begun w.1) ∙ e)) w.2

  pub record_known : (r : Record) → IsShownWithout [] limits s nodes log r → Knows k (record_lines r ++ more) end → RecordKnown deleted limits s nodes log r k more end
  record_known (Sat values) h w = record {
    next = rest.next;
    knows = rest.knows;
    at = rest.at;
    pending = subst (λ (x : List Line). Pending k.parts x owed.Nothing rest.next) (append_assoc k.opened (line.Sat (length values) ∷ []) (flat_map value_lines values)) rest.pending;
    longer = (let x = rest.longer in let y = longer_with k (line.Sat (length values)) (owed_in owed.Values (length values)) a.same in omega (arith, x, y));
    shown = h;
  }
    where
      lines : (AllByRecursion (λ (l : Line). kind_of l ≡ kind.OneValue) (flat_map value_lines values)) × (length (flat_map value_lines values) ≡ length values)
      lines = written_lines values h.0

      rest : CountedKnown log k.parts (k.opened ++ line.Sat (length values) ∷ []) (flat_map value_lines values) (known_with k (line.Sat (length values)) (owed_in owed.Values (length values))) more end
      rest =
          counted_known kind.OneValue owed.Values value_count log k.parts end more (flat_map value_lines values) (k.opened ++ line.Sat (length values) ∷ []) (known_with k (line.Sat (length values)) (owed_in owed.Values (length values))) lines.0
          (subst (λ (n : ℕ). Pending k.parts (k.opened ++ line.Sat (length values) ∷ []) (owed_in owed.Values n) (known_with k (line.Sat (length values)) (owed_in owed.Values (length values)))) (sym lines.1) (record { owed_is = refl; parts_are = refl; opened_are = refl }))
          (at_other log (line.Sat (length values)) k (owed_in owed.Values (length values)) a refl) (first_owed (line.Sat (length values)) (flat_map value_lines values ++ more) (owed_in owed.Values (length values)) refl w)
  record_known (Unsat p) h w = record {
    next = known_with k (line.Unsat p) owed.Nothing;
    knows = first_owed (line.Unsat p) more owed.Nothing refl w;
    at = at_other log (line.Unsat p) k owed.Nothing a refl;
    pending = record { owed_is = refl; parts_are = refl; opened_are = refl };
    longer = longer_with k (line.Unsat p) owed.Nothing a.same;
    shown = (not_past end.last (part_in k) m (length k.last) deleted p le past (needs_noted k (line.Unsat p) more end w a.most).0, h.1);
  }
  record_known (Unknown d) h w = record {
    next = rest.next;
    knows = rest.knows;
    at = rest.at;
    pending = subst (λ (x : List Line). Pending k.parts x owed.Nothing rest.next) (append_assoc k.opened ((line.Unknown d.cube d.start (length d.lines)) ∷ []) (map diary_line d.lines)) rest.pending;
    longer = (let x = rest.longer in let y = long in omega (arith, x, y));
    shown = record { search = h.search; spent = spent_lighter deleted _ limits.budget d.lines named h.spent };
  }
    where
      long : length k.last ≤ length (known_with k (line.Unknown d.cube d.start (length d.lines)) (owed_in owed.Notes (length d.lines))).last
      long = longer_with k (line.Unknown d.cube d.start (length d.lines)) (owed_in owed.Notes (length d.lines)) a.same

      rest : CountedKnown log k.parts (k.opened ++ (line.Unknown d.cube d.start (length d.lines)) ∷ []) (map diary_line d.lines) (known_with k (line.Unknown d.cube d.start (length d.lines)) (owed_in owed.Notes (length d.lines))) more end
      rest =
          counted_known kind.OneNote owed.Notes note_count log k.parts end more (map diary_line d.lines) (k.opened ++ (line.Unknown d.cube d.start (length d.lines)) ∷ []) (known_with k (line.Unknown d.cube d.start (length d.lines)) (owed_in owed.Notes (length d.lines))) (note_kinds d.lines)
          (subst (λ (n : ℕ). Pending k.parts (k.opened ++ (line.Unknown d.cube d.start (length d.lines)) ∷ []) (owed_in owed.Notes n) (known_with k (line.Unknown d.cube d.start (length d.lines)) (owed_in owed.Notes (length d.lines)))) (sym (length-map d.lines diary_line)) (record { owed_is = refl; parts_are = refl; opened_are = refl }))
          (at_other log (line.Unknown d.cube d.start (length d.lines)) k (owed_in owed.Notes (length d.lines)) a refl) (first_owed (line.Unknown d.cube d.start (length d.lines)) (map diary_line d.lines ++ more) (owed_in owed.Notes (length d.lines)) refl w)

      named : AllByRecursion (NamesNone deleted log) d.lines
      named = names_none end.last (part_in k) m (length (known_with k (line.Unknown d.cube d.start (length d.lines)) (owed_in owed.Notes (length d.lines))).last) deleted (let y = long in omega (arith, le, y)) past log (known_with k (line.Unknown d.cube d.start (length d.lines)) (owed_in owed.Notes (length d.lines))).steps (at_other log (line.Unknown d.cube d.start (length d.lines)) k (owed_in owed.Notes (length d.lines)) a refl).lines d.lines rest.stays

-- ---- what is due in front of a part

-- steps that are known stay
pub steps_kept : (d : Line) (k : Known) (ls : List Line) (end : Known) → Knows k ls end → (i : ℕ) → i < length k.steps → get_or end.steps i d ≡ get_or k.steps i d
steps_kept d k [] end w i lt = ap (λ (x : Known). get_or x.steps i d) (sym w)
steps_kept d k (l ∷ ls) end w i lt =
    let long = length-append k.steps (step_in (kind_of l) l) in
    steps_kept d (known_with k l w.0) ls end w.2 i (omega (arith, lt, long)) ∙ get_or_append_left k.steps (step_in (kind_of l) l) d i lt

module _ (log : List Entry) (k : Known) (ls : List Line) (end : Known) (w : Knows k ls end) (a : IsAt log k) where
  -- a place whose last part is the one before is that of a step before
  within_known : (i : ℕ) → i < length end.last → get_or end.last i 0 ≡ length k.parts → suc i ≤ length k.last
  within_known i lt e = ⊎_elim (λ more. absurd (later more)) (λ le. le) (cases_lt (length k.last) (suc i))
    where
      later : length k.last < suc i → ⊥
      later more = let n = made_noted k ls end (suc i) w a.most more (omega (arith, lt)) in omega (arith, n, e)

  pub due_past : ArePast end.last (part_in k) (length k.last) (due_in end (length k.parts))
  due_past =
      due_all (IsPast end.last (part_in k) (length k.last)) (line.Leaf 0) (length k.parts) end.steps end.last
      (λ i p q added e. record { some = omega arith; within = within_known i q e; before = omega (arith, e) })

  pub due_deletable : AllByRecursion (λ (x : ℕ). is_deletable (entry_at log x) ≡ true) (due_in end (length k.parts))
  due_deletable =
      due_all (λ (x : ℕ). is_deletable (entry_at log x) ≡ true) (line.Leaf 0) (length k.parts) end.steps end.last
      (λ i p q added e.
      let lt : i < length k.steps = (let x = within_known i q e in let y = a.same in omega (arith, x, y)) in
      added_at log k.steps (line.Leaf 0) a.lines i lt (ap (λ (x : Line). is_added (kind_of x)) (sym (steps_kept (line.Leaf 0) k ls end w i lt)) ∙ added))

  pub due_new : (m : ℕ) (deleted : List ℕ) → ArePast end.last (length k.parts) m deleted → AllByRecursion (λ (x : ℕ). is_deleted deleted x ≡ false) (due_in end (length k.parts))
  due_new m deleted past =
      due_all (λ (x : ℕ). is_deleted deleted x ≡ false) (line.Leaf 0) (length k.parts) end.steps end.last
      (λ i p q added e. not_past end.last (length k.parts) m m deleted (suc i) (omega arith) past (λ some le. omega (arith, e)))

  pub due_can_be : (m : ℕ) (deleted : List ℕ) → ArePast end.last (length k.parts) m deleted → AreDeletable log deleted (due_in end (length k.parts))
  due_can_be m deleted past = are_deletable log deleted 1 (due_in end (length k.parts)) (due_rises (length k.parts) 1 end.steps end.last) due_deletable (due_new m deleted past)

-- ---- a part behind a deletion

-- the deletion of places in front of items, where there are any
abbrev pub items_with : List ℕ → List Item → List Item
items_with [] items = items
items_with (x ∷ xs) items = Delete (x ∷ xs) ∷ items

abbrev pub with_due : List ℕ → Part → Part
with_due xs p = record { line = p.line; says = p.says; answer = p.answer; items = items_with xs p.items; shown = p.shown }

turn_with : (xs : List ℕ) (p : Part) → turn_of (with_due xs p) ≡ turn_of p
turn_with [] p = refl
turn_with (x ∷ xs) p = refl

lines_with : (xs : List ℕ) (p : Part) → part_lines (with_due xs p) ≡ deletion xs ++ part_lines p
lines_with [] p = refl
lines_with (x ∷ xs) p = refl

steps_with : (xs : List ℕ) (items : List Item) → steps_in (items_with xs items) ≡ steps_in items
steps_with [] items = refl
steps_with (x ∷ xs) items = refl

kept_with : (xs deleted : List ℕ) (log : List Entry) (items : List Item) → AreDeletable log deleted xs → AreKept Two (deleted ++ xs) log items → AreKept Two deleted log (items_with xs items)
kept_with [] deleted log items h k = subst (λ (d : List ℕ). AreKept Two d log items) (append-nil deleted) k
kept_with (x ∷ xs) deleted log items h k = (refl, h, k)

-- the first format deletes nothing
pub none_deleted : (first : List ℕ) (log : List Entry) (items : List Item) → AreKept One first log items → (d : List ℕ) → deleted_behind d items ≡ d
none_deleted first log [] k d = refl
none_deleted first log (Step e ∷ items) k d = none_deleted first (log ++ e ∷ []) items k.1 d
none_deleted first log (Delete places ∷ items) k d = let e = k.0 in let z : ⊥ = cc in absurd z

deleted_with : (xs deleted : List ℕ) (items : List Item) → ((d : List ℕ) → deleted_behind d items ≡ d) → deleted_behind deleted (items_with xs items) ≡ deleted ++ xs
deleted_with [] deleted items h = h deleted ∙ sym (append-nil deleted)
deleted_with (x ∷ xs) deleted items h = h (deleted ++ x ∷ xs)

readable_with : (xs : List ℕ) (p : Part) → AllByRecursion IsLine (deletion xs) → AllByRecursion IsLine (part_lines p) → AllByRecursion IsLine (part_lines (with_due xs p))
readable_with [] p h k = k
readable_with (x ∷ xs) p h k = (h.0, k)

-- a part of a check
pub record IsCheck (limits : Limits) (s : StateValue) (log : List Entry) (items : List Item) (a : Answer) (o : Option Record) : Type 0 where
  pub record_of : Record
  pub is_check : a ≡ Check
  pub is_some : o ≡ Some record_of
  pub valid : AreStepsOf s log (steps_in items)
  pub kept : AreKept One [] log items
  pub shows : IsShownWithout (deleted_behind [] items) limits s (with_steps s (steps_in items)).terms.nodes (log ++ steps_in items) record_of

-- a part of another command, in either format
pub record IsIdle (limits : Limits) (s : StateValue) (log : List Entry) (items : List Item) (a : Answer) (o : Option Record) : Type 0 where
  pub no_items : items ≡ []
  pub no_record : o ≡ None
  pub stays : (deleted : List ℕ) → HasPart Two limits a s log deleted items o

pub has_part : (limits : Limits) (s : StateValue) (log : List Entry) (items : List Item) (a : Answer) (o : Option Record) → HasPart One limits a s log [] items o → IsIdle limits s log items a o ⊎ IsCheck limits s log items a o
has_part limits s log items Done o h = inl (record { no_items = h.0; no_record = h.1; stays = λ d. h })
has_part limits s log items (Refused e) o h = inl (record { no_items = h.0; no_record = h.1; stays = λ d. h })
has_part limits s log items (Says text) o h = inl (record { no_items = h.0; no_record = h.1; stays = λ d. h })
has_part limits s log items Model o h = inl (record { no_items = h.0; no_record = h.1; stays = λ d. h })
has_part limits s log items (Values asked) o h = inl (record { no_items = h.0; no_record = h.1; stays = λ d. h })
has_part limits s log items Core o h = inl (record { no_items = h.0; no_record = h.1; stays = λ d. h })
has_part limits s log items Assumptions o h = inl (record { no_items = h.0; no_record = h.1; stays = λ d. h })
has_part limits s log items Exit o h = inl (record { no_items = h.0; no_record = h.1; stays = λ d. h })
has_part limits s log items Check None h = absurd h
has_part limits s log items Check (Some r) h = inr (record { record_of = r; is_check = refl; is_some = refl; valid = h.0; kept = h.1; shows = h.2 })

check_part : (limits : Limits) (s : StateValue) (log : List Entry) (deleted xs : List ℕ) (items : List Item) (a : Answer) (o : Option Record) → ((d : List ℕ) → deleted_behind d items ≡ d) → AreDeletable log deleted xs → (c : IsCheck limits s log items a o)
    → AreKept Two (deleted ++ xs) log items → IsShownWithout (deleted ++ xs) limits s (with_steps s (steps_in items)).terms.nodes (log ++ steps_in items) c.record_of → HasPart Two limits a s log deleted (items_with xs items) o
check_part limits s log deleted xs items a o none deletable c kept shows =
    subst (λ (x : Answer). HasPart Two limits x s log deleted (items_with xs items) o) (sym c.is_check)
    (subst (λ (x : Option Record). HasPart Two limits Check s log deleted (items_with xs items) x) (sym c.is_some) (
      subst (AreStepsOf s log) (sym (steps_with xs items)) c.valid,
      kept_with xs deleted log items deletable kept,
      subst (λ (d : List ℕ). IsShownWithout d limits s (with_steps s (steps_in (items_with xs items))).terms.nodes (log ++ steps_in (items_with xs items)) c.record_of) (sym (deleted_with xs deleted items none))
          (subst (λ (es : List Entry). IsShownWithout (deleted ++ xs) limits s (with_steps s es).terms.nodes (log ++ es) c.record_of) (sym (steps_with xs items)) shows),
    ))

joined : (xs : List ℕ) (limits : Limits) (s : StateValue) (log : List Entry) (deleted : List ℕ) (p : Part) (qs : List Part) → ((d : List ℕ) → deleted_behind d p.items ≡ d) → IsPart Two limits s log deleted (with_due xs p) → AreParts Two limits (state_after s (turn_of p)) (log ++ steps_in p.items) (deleted ++ xs) qs → AreParts Two limits s log deleted (with_due xs p ∷ qs)
joined [] limits s log deleted p qs none h k = (h, subst (λ (d : List ℕ). AreParts Two limits (state_after s (turn_of p)) (log ++ steps_in p.items) d qs) (sym (deleted_with [] deleted p.items none)) k)
joined (x ∷ xs) limits s log deleted p qs none h k = (h, subst (λ (d : List ℕ). AreParts Two limits (state_after s (turn_of p)) (log ++ steps_in p.items) d qs) (sym (deleted_with (x ∷ xs) deleted p.items none)) k)

-- ---- the parts

-- The parts are accepted in the second format, each behind the deletion of what is due, with the same turns; and their lines are those
-- of the conversion.
pub record AreConverted (limits : Limits) (s : StateValue) (log : List Entry) (deleted : List ℕ) (ps : List Part) (k end : Known) : Type 0 where
  pub parts : List Part
  pub turns : map turn_of parts ≡ map turn_of ps
  pub run : AreParts Two limits s log deleted parts
  pub rest : List (List Line)
  pub ended : end.parts ≡ k.parts ++ rest
  pub lines : flat_map part_lines parts ≡ with_deletions (due_in end) (length k.parts) rest

module _ (limits : Limits) (end : Known) (readable : (n : ℕ) → n < length end.parts → AllByRecursion IsLine (deletion (due_in end n))) where
  -- what is said of these parts behind others
  abbrev Again : List Part → Type 0
  Again ps = (s : StateValue) (log : List Entry) (deleted : List ℕ) (k : Known) (m : ℕ) → AreParts One limits s log [] ps → Knows k (flat_map part_lines ps) end → IsAt log k → k.owed ≡ owed.Nothing → k.opened ≡ [] → ArePast end.last (length k.parts) m deleted → m ≤ length k.last → AreConverted limits s log deleted ps k end

  pub parts_converted : (ps : List Part) (s : StateValue) (log : List Entry) (deleted : List ℕ) (k : Known) (m : ℕ) → AreParts One limits s log [] ps → Knows k (flat_map part_lines ps) end → IsAt log k → k.owed ≡ owed.Nothing → k.opened ≡ [] → ArePast end.last (length k.parts) m deleted → m ≤ length k.last → AreConverted limits s log deleted ps k end
  parts_converted [] s log deleted k m h w a o e past le = record { parts = []; turns = refl; run = tt; rest = []; ended = ap (λ (x : Known). x.parts) (sym w) ∙ sym (append-nil k.parts); lines = refl }
  parts_converted (p ∷ ps) s log deleted k m h w a o e past le = ⊎_elim (idle (λ s' log' d' k' m' h' w' a' o' e' p' l'. parts_converted ps s' log' d' k' m' h' w' a' o' e' p' l')) (check (λ s' log' d' k' m' h' w' a' o' e' p' l'. parts_converted ps s' log' d' k' m' h' w' a' o' e' p' l')) (has_part limits (step s p.says).1 log p.items p.answer p.shown h.0.proof)
    where
      idle : Again ps → IsIdle limits (step s p.says).1 log p.items p.answer p.shown → AreConverted limits s log deleted (p ∷ ps) k end
      idle again i = record {
        parts = p ∷ rest.parts;
        turns = ap (λ (ts : List Turn). turn_of p ∷ ts) rest.turns;
        run = (record { answer = h.0.answer; proof = i.stays deleted; readable = h.0.readable }, rest.run);
        rest = rest.rest;
        ended = rest.ended;
        lines = ap (λ (x : List Line). x ++ flat_map part_lines rest.parts) no_lines ∙ rest.lines;
      }
        where
          no_lines : part_lines p ≡ []
          no_lines = ap₂ (λ (items : List Item) (r : Option Record). flat_map item_lines items ++ shown_lines r) i.no_items i.no_record

          same_log : log ≡ log ++ steps_in p.items
          same_log = sym (ap (λ (items : List Item). log ++ steps_in items) i.no_items ∙ append-nil log)

          rest : AreConverted limits (state_after s (turn_of p)) (log ++ steps_in p.items) (deleted_behind deleted p.items) ps k end
          rest =
              again (state_after s (turn_of p)) (log ++ steps_in p.items) (deleted_behind deleted p.items) k m
              (subst (λ (d : List ℕ). AreParts One limits (state_after s (turn_of p)) (log ++ steps_in p.items) d ps) (ap (deleted_behind []) i.no_items) h.1)
              (subst (λ (x : List Line). Knows k (x ++ flat_map part_lines ps) end) no_lines w)
              (subst (λ (x : List Entry). IsAt x k) same_log a) o e
              (subst (ArePast end.last (length k.parts) m) (sym (ap (deleted_behind deleted) i.no_items)) past) le

      check : Again ps → IsCheck limits (step s p.says).1 log p.items p.answer p.shown → AreConverted limits s log deleted (p ∷ ps) k end
      check again c = record {
        parts = with_due (due_in end (length k.parts)) p ∷ rest.parts;
        turns = ap₂ (λ (t : Turn) (ts : List Turn). t ∷ ts) (turn_with (due_in end (length k.parts)) p) rest.turns;
        run = joined (due_in end (length k.parts)) limits s log deleted p rest.parts none part rest.run;
        rest = part_lines p ∷ rest.rest;
        ended = ended;
        lines =
            ap₂ (λ (x y : List Line). x ++ y) (lines_with (due_in end (length k.parts)) p) rest.lines
            ∙ ap (λ (n : ℕ). (deletion (due_in end (length k.parts)) ++ part_lines p) ++ with_deletions (due_in end) n rest.rest) count;
      }
        where
          none : (d : List ℕ) → deleted_behind d p.items ≡ d
          none = none_deleted [] log p.items c.kept

          behind_past : ArePast end.last (part_in k) (length k.last) (deleted ++ due_in end (length k.parts))
          behind_past =
              past_append end.last (part_in k) (length k.last) deleted (due_in end (length k.parts)) (past_more end.last (length k.parts) m (part_in k) (length k.last) deleted (omega arith) le past)
              (due_past log k (part_lines p ++ flat_map part_lines ps) end w a)

          own_lines : part_lines p ≡ flat_map item_lines p.items ++ record_lines c.record_of
          own_lines = ap (λ (r : Option Record). flat_map item_lines p.items ++ shown_lines r) c.is_some

          first : StepsKnown (deleted ++ due_in end (length k.parts)) log p.items k (record_lines c.record_of ++ flat_map part_lines ps) end
          first =
              steps_known [] (deleted ++ due_in end (length k.parts)) (length k.last) end (record_lines c.record_of ++ flat_map part_lines ps) p.items (step s p.says).1 log k c.valid c.kept
              (subst (λ (x : List Line). Knows k x end) (ap (λ (x : List Line). x ++ flat_map part_lines ps) own_lines ∙ append_assoc (flat_map item_lines p.items) (record_lines c.record_of) (flat_map part_lines ps)) w)
              a (inl o) behind_past (omega arith)

          second : RecordKnown (deleted ++ due_in end (length k.parts)) limits (step s p.says).1 (with_steps (step s p.says).1 (steps_in p.items)).terms.nodes (log ++ steps_in p.items) c.record_of first.next (flat_map part_lines ps) end
          second =
              record_known (deleted ++ due_in end (length k.parts)) limits (step s p.says).1 (with_steps (step s p.says).1 (steps_in p.items)).terms.nodes (log ++ steps_in p.items) first.next (flat_map part_lines ps) end (length k.last) first.at first.begun
              (subst (λ (x : List (List Line)). ArePast end.last (suc (length x)) (length k.last) (deleted ++ due_in end (length k.parts))) (sym first.parts) behind_past) first.longer c.record_of
              (subst (λ (d : List ℕ). IsShownWithout d limits (step s p.says).1 (with_steps (step s p.says).1 (steps_in p.items)).terms.nodes (log ++ steps_in p.items) c.record_of) (none []) c.shows) first.knows

          next_parts : second.next.parts ≡ k.parts ++ part_lines p ∷ []
          next_parts =
              second.pending.parts_are
              ∙ ap₂ (λ (x : List (List Line)) (y : List Line). x ++ (y ++ record_lines c.record_of) ∷ []) first.parts (first.opened ∙ ap (λ (y : List Line). y ++ flat_map item_lines p.items) e)
              ∙ ap (λ (y : List Line). k.parts ++ y ∷ []) (sym own_lines)

          count : length second.next.parts ≡ suc (length k.parts)
          count = let x = length-append k.parts (part_lines p ∷ []) in let y = ap (λ (z : List (List Line)). length z) next_parts in omega (arith, x, y)

          rest : AreConverted limits (state_after s (turn_of p)) (log ++ steps_in p.items) (deleted ++ due_in end (length k.parts)) ps second.next end
          rest =
              again (state_after s (turn_of p)) (log ++ steps_in p.items) (deleted ++ due_in end (length k.parts)) second.next (length k.last)
              (subst (λ (d : List ℕ). AreParts One limits (state_after s (turn_of p)) (log ++ steps_in p.items) d ps) (none []) h.1) second.knows second.at second.pending.owed_is second.pending.opened_are
              (subst (λ (n : ℕ). ArePast end.last n (length k.last) (deleted ++ due_in end (length k.parts))) (sym count) behind_past) (let x = first.longer in let y = second.longer in omega (arith, x, y))

          ended : end.parts ≡ k.parts ++ (part_lines p ∷ rest.rest)
          ended = rest.ended ∙ ap (λ (x : List (List Line)). x ++ rest.rest) next_parts ∙ append_assoc k.parts (part_lines p ∷ []) rest.rest

          here : length k.parts < length end.parts
          here = let x = ap (λ (z : List (List Line)). length z) ended in let y = length-append k.parts (part_lines p ∷ rest.rest) in omega (arith, x, y)

          part : IsPart Two limits s log deleted (with_due (due_in end (length k.parts)) p)
          part = record {
            answer = h.0.answer;
            proof = check_part limits (step s p.says).1 log deleted (due_in end (length k.parts)) p.items p.answer p.shown none (due_can_be log k (part_lines p ++ flat_map part_lines ps) end w a m deleted past) c first.kept second.shown;
            readable = readable_with (due_in end (length k.parts)) p (readable (length k.parts) here) h.0.readable;
          }

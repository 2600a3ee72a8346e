-- The lines of an accepted proof of the first format stand where they may.
use Rattle.std.proofs.Common.{◌≡◌, ℕ, List, [], ◌∷◌, ◌++◌, length, map, Option, Some, None, refl, sym, ap, ap₂, subst, ◌∙◌, inl, inr, ⊎_elim}
use Rattle.std.specs.Prelude.{IsSome, option_to_list}
use Rattle.std.specs.List.{flat_map, AllByRecursion}
use Rattle.std.proofs.lemmas.List.{length-map}
use Rattle.smt_terms.specs.declared.node.Node.{Node}
use Rattle.script_state.specs.States.{StateValue}
use Rattle.script_state.specs.Steps.{step}
use Rattle.proof_log.specs.declared.entry.Entry.{Entry}
use Rattle.proof_text.specs.declared.line.Format.TheVariants.{One}
use Rattle.proof_text.specs.declared.line.Line.{Line}
use Rattle.proof_text.specs.declared.record.Record.{Record}
use Rattle.proof_text.specs.declared.record.Record.TheVariants.{Sat, Unsat, Unknown}
use Rattle.proof_text.specs.Entries.{entry_line}
use Rattle.proof_text.specs.Records.{AreWritten, diary_line, record_lines, value_lines}
use Rattle.proof_conversion.specs.declared.kind.Kind.{Kind}
use Rattle.proof_conversion.specs.declared.kind.Kind.TheVariants as kind
use Rattle.proof_conversion.specs.declared.kind.Owed.{Owed}
use Rattle.proof_conversion.specs.declared.kind.Owed.TheVariants as owed
use Rattle.proof_conversion.specs.Parts.{kind_of, begun_by, owed_behind, owed_in}
use Rattle.proof_conversion.specs.Needs.{Known, Knows, known_with}
use Rattle.accepted_proof.specs.Searching.{Limits}
use Rattle.accepted_proof.specs.Turns.{Item, Step, Delete, Part, AreKept, AreParts, AreStepsOf, IsShownWithout, deleted_behind, item_lines, part_lines, shown_lines, state_after, steps_in, turn_of, with_step}
use Rattle.converted_proofs.proofs.Walking.{IsCount, IsOpen, note_count, step_kind, step_owed, value_count}
use Rattle.converted_proofs.proofs.Parting.{IsCheck, IsIdle, has_part, note_kinds, none_deleted, written_lines}

-- what is owed behind lines
abbrev pub Owes : Owed → List Line → Owed → Type 0
Owes o [] p = o ≡ p
Owes o (l ∷ ls) p = (q : Owed) × (owed_behind o (kind_of l) ≡ Some q) × Owes q ls p

owes_append : (o p q : Owed) (xs ys : List Line) → Owes o xs p → Owes p ys q → Owes o (xs ++ ys) q
owes_append o p q [] ys h k = subst (λ (x : Owed). Owes x ys q) (sym h) k
owes_append o p q (x ∷ xs) ys h k = (h.0, h.1, owes_append h.0 p q xs ys h.2 k)

-- lines that stand where they may are known
pub owes_known : (k : Known) (ls : List Line) (p : Owed) → Owes k.owed ls p → (end : Known) × Knows k ls end × (end.owed ≡ p)
owes_known k [] p h = (k, refl, h)
owes_known k (l ∷ ls) p h =
    let rest = owes_known (known_with k l h.0) ls p h.2 in
    (rest.0, (h.0, h.1, rest.1), rest.2)

open_owes : (o p : Owed) (x : Kind) → IsOpen o → begun_by x ≡ Some p → owed_behind o x ≡ Some p
open_owes o p x h e = ⊎_elim (λ q. subst (λ (y : Owed). owed_behind y x ≡ Some p) (sym q) e) (λ q. subst (λ (y : Owed). owed_behind y x ≡ Some p) (sym q) e) h

steps_owe : (first : List ℕ) (items : List Item) (s : StateValue) (log : List Entry) (o : Owed) → AreStepsOf s log (steps_in items) → AreKept One first log items → IsOpen o → (p : Owed) × Owes o (flat_map item_lines items) p × IsOpen p
steps_owe first [] s log o v k h = (o, refl, h)
steps_owe first (Delete places ∷ items) s log o v k h = let e = k.0 in let z : ⊥ = cc in absurd z
steps_owe first (Step e ∷ items) s log o v k h = with_line (steps_owe first items (with_step s e) (log ++ e ∷ []) owed.Steps v.3 k.1 (inr refl)) (entry_line e) refl v.2
  where
    with_line : (p : Owed) × Owes owed.Steps (flat_map item_lines items) p × IsOpen p → (l : Option Line) → entry_line e ≡ l → IsSome l → (p : Owed) × Owes o (flat_map item_lines (Step e ∷ items)) p × IsOpen p
    with_line rest None h' i = let z : ⊥ = cc in absurd z
    with_line rest (Some l) h' i =
        let begun : begun_by (kind_of l) ≡ Some owed.Steps = ap begun_by (step_kind e l h') ∙ step_owed _ in
        let all : Owes o (l ∷ flat_map item_lines items) rest.0 = (owed.Steps, open_owes o owed.Steps (kind_of l) h begun, rest.1) in
        (rest.0, subst (λ (x : Option Line). Owes o (option_to_list x ++ flat_map item_lines items) rest.0) (sym h') all, rest.2)

counted_owe : (one : Kind) (owing : ℕ → Owed) → IsCount one owing → (ls : List Line) → AllByRecursion (λ (l : Line). kind_of l ≡ one) ls → Owes (owed_in owing (length ls)) ls owed.Nothing
counted_owe one owing c [] h = refl
counted_owe one owing c (l ∷ ls) h = (owed_in owing (length ls), ap (owed_behind (owing (length ls))) h.0 ∙ c.less (length ls), counted_owe one owing c ls h.1)

record_owes : (r : Record) (o : Owed) → IsOpen o → AreWritten r → Owes o (record_lines r) owed.Nothing
record_owes (Sat values) o h w =
    let lines = written_lines values w in
    (owed_in owed.Values (length values), open_owes o (owed_in owed.Values (length values)) (kind.Values (length values)) h refl, subst (λ (n : ℕ). Owes (owed_in owed.Values n) (flat_map value_lines values) owed.Nothing) lines.1 (counted_owe kind.OneValue owed.Values value_count (flat_map value_lines values) lines.0))
record_owes (Unsat p) o h w = (owed.Nothing, open_owes o owed.Nothing kind.Ends h refl, refl)
record_owes (Unknown d) o h w = (
  owed_in owed.Notes (length d.lines),
  open_owes o (owed_in owed.Notes (length d.lines)) (kind.Notes (length d.lines)) h refl,
  subst (λ (n : ℕ). Owes (owed_in owed.Notes n) (map diary_line d.lines) owed.Nothing) (length-map d.lines diary_line) (counted_owe kind.OneNote owed.Notes note_count (map diary_line d.lines) (note_kinds d.lines)),
)

shown_written : (deleted : List ℕ) (limits : Limits) (s : StateValue) (nodes : List Node) (log : List Entry) (r : Record) → IsShownWithout deleted limits s nodes log r → AreWritten r
shown_written deleted limits s nodes log (Sat values) h = h.0
shown_written deleted limits s nodes log (Unsat p) h = tt
shown_written deleted limits s nodes log (Unknown d) h = tt

-- behind all parts nothing is owed
pub parts_owe : (limits : Limits) (ps : List Part) (s : StateValue) (log : List Entry) → AreParts One limits s log [] ps → Owes owed.Nothing (flat_map part_lines ps) owed.Nothing
parts_owe limits [] s log h = refl
parts_owe limits (p ∷ ps) s log h = ⊎_elim (idle (λ x. parts_owe limits ps (state_after s (turn_of p)) (log ++ steps_in p.items) x)) (check (λ x. parts_owe limits ps (state_after s (turn_of p)) (log ++ steps_in p.items) x)) (has_part limits (step s p.says).1 log p.items p.answer p.shown h.0.proof)
  where
    rest : (AreParts One limits (state_after s (turn_of p)) (log ++ steps_in p.items) [] ps → Owes owed.Nothing (flat_map part_lines ps) owed.Nothing) → deleted_behind [] p.items ≡ [] → Owes owed.Nothing (flat_map part_lines ps) owed.Nothing
    rest again e = again (subst (λ (d : List ℕ). AreParts One limits (state_after s (turn_of p)) (log ++ steps_in p.items) d ps) e h.1)

    idle : (AreParts One limits (state_after s (turn_of p)) (log ++ steps_in p.items) [] ps → Owes owed.Nothing (flat_map part_lines ps) owed.Nothing) → IsIdle limits (step s p.says).1 log p.items p.answer p.shown → Owes owed.Nothing (flat_map part_lines (p ∷ ps)) owed.Nothing
    idle again i =
        let no_lines : part_lines p ≡ [] = ap₂ (λ (items : List Item) (r : Option Record). flat_map item_lines items ++ shown_lines r) i.no_items i.no_record in
        subst (λ (x : List Line). Owes owed.Nothing (x ++ flat_map part_lines ps) owed.Nothing) (sym no_lines) (rest again (ap (deleted_behind []) i.no_items))

    check : (AreParts One limits (state_after s (turn_of p)) (log ++ steps_in p.items) [] ps → Owes owed.Nothing (flat_map part_lines ps) owed.Nothing) → IsCheck limits (step s p.says).1 log p.items p.answer p.shown → Owes owed.Nothing (flat_map part_lines (p ∷ ps)) owed.Nothing
    check again c =
        let first = steps_owe [] p.items (step s p.says).1 log owed.Nothing c.valid c.kept (inl refl) in
        let second = record_owes c.record_of first.0 first.2 (shown_written _ limits _ _ _ c.record_of c.shows) in
        let lines : part_lines p ≡ flat_map item_lines p.items ++ record_lines c.record_of = ap (λ (r : Option Record). flat_map item_lines p.items ++ shown_lines r) c.is_some in
        owes_append owed.Nothing owed.Nothing owed.Nothing (part_lines p) (flat_map part_lines ps)
        (subst (λ (x : List Line). Owes owed.Nothing x owed.Nothing) (sym lines) (owes_append owed.Nothing first.0 owed.Nothing (flat_map item_lines p.items) (record_lines c.record_of) first.1 second))
        (rest again (none_deleted [] log p.items c.kept []))

-- A part that was written piece by piece.
use Rattle.std.proofs.Common.{◌≡◌, ℕ, suc, List, [], ◌∷◌, ◌++◌, length, map, Some, refl, sym, ap, ◌∙◌, subst}
use Rattle.std.specs.List.{flat_map, AllByRecursion}
use Rattle.cnf_base.proofs.Lists.{each_append}
use Rattle.smt_terms.specs.declared.node.Node.{Node}
use Rattle.scope_selectors.specs.declared.live.Live.{Live}
use Rattle.proof_log.specs.declared.entry.Entry.{Entry}
use Rattle.proof_text.specs.declared.line.Line.{Line}
use Rattle.proof_text.specs.declared.record.Record.{Record}
use Rattle.proof_text.specs.Lines.{line_text, IsLine}
use Rattle.proof_text.specs.Records.{record_lines}
use Rattle.accepted_proof.specs.Turns.{Item, Step, item_lines}
use Rattle.proof_file.specs.Places.{FileValue, without_places, with_steps_of, placed_steps}
use Rattle.proof_file.specs.Needed.{AreNeeded}
use Rattle.proof_file.specs.Stale.{AreStale}
use Rattle.proof_file.specs.Trimmed.{made_from, deletion, placed_record}
use Rattle.proof_file.specs.Files.{AreStepsWritten, IsWrittenPart, step_lines}
use Rattle.proof_file.proofs.Lining.{behind, items_lines, steps_more}

module _ (nodes : List Node) (live : List Live) (log steps : List Entry) (r : Record) (old f g : FileValue) (gone needed : List ℕ) (start : ℕ) where
  whole : (a b c d e : List ℕ)
      → AreStale nodes log live old.places gone
      → AreNeeded (log ++ steps) (without_places old gone).places r needed
      → b ≡ a ++ flat_map line_text (flat_map item_lines (deletion gone)) → AllByRecursion IsLine (flat_map item_lines (deletion gone))
      → AreStepsWritten (log ++ steps) (without_places old gone) f (made_from (suc (length log)) steps) b c
      → AreStepsWritten (log ++ steps) f g needed c d
      → start ≡ suc f.count
      → e ≡ d ++ flat_map line_text (record_lines (placed_record (log ++ steps) g.places start needed r)) → AllByRecursion IsLine (record_lines (placed_record (log ++ steps) g.places start needed r))
      → IsWrittenPart nodes live log steps r old g a e
  whole a b c d e stale wanted front front_readable w1 w2 first end end_readable =
      let made = made_from (suc (length log)) steps in
      let both = steps_more (log ++ steps) (without_places old gone) f g made needed b c d w1 w2 in
      let es = placed_steps (log ++ steps) (without_places old gone) (made ++ needed) in
      let shown = placed_record (log ++ steps) g.places start needed r in
      let lines : flat_map item_lines (deletion gone ++ map Step es) ≡ flat_map item_lines (deletion gone) ++ step_lines es = items_lines gone es in
      let text : e ≡ a ++ flat_map line_text ((flat_map item_lines (deletion gone) ++ step_lines es) ++ record_lines shown) =
      behind a d e (flat_map item_lines (deletion gone) ++ step_lines es) (record_lines shown) (behind a b d (flat_map item_lines (deletion gone)) (step_lines es) front both.text) end in
      let readable : AllByRecursion IsLine ((flat_map item_lines (deletion gone) ++ step_lines es) ++ record_lines shown) =
      each_append IsLine (flat_map item_lines (deletion gone) ++ step_lines es) (record_lines shown) (each_append IsLine (flat_map item_lines (deletion gone)) (step_lines es) front_readable both.readable) end_readable in
      record {
        items = deletion gone ++ map Step es;
        placed = shown;
        trimmed = record {
          stale = gone;
          needed = needed;
          gone = stale;
          wanted = wanted;
          file = both.file;
          items_are = refl;
          record_is = ap (λ (n : ℕ). Some (placed_record (log ++ steps) g.places n needed r)) (first ∙ ap (λ (h : FileValue). suc h.count) w1.file);
        };
        text = text ∙ ap (λ (ls : List Line). a ++ flat_map line_text (ls ++ record_lines shown)) (sym lines);
        readable = subst (λ (ls : List Line). AllByRecursion IsLine (ls ++ record_lines shown)) (sym lines) readable;
      }

  pub part_is : (es : List Entry) (made a b c d e : List ℕ)
      → es ≡ log ++ steps → made ≡ made_from (suc (length log)) steps
      → AreStale nodes log live old.places gone
      → AreNeeded es (without_places old gone).places r needed
      → b ≡ a ++ flat_map line_text (flat_map item_lines (deletion gone)) → AllByRecursion IsLine (flat_map item_lines (deletion gone))
      → AreStepsWritten es (without_places old gone) f made b c
      → AreStepsWritten es f g needed c d
      → start ≡ suc f.count
      → e ≡ d ++ flat_map line_text (record_lines (placed_record es g.places start needed r)) → AllByRecursion IsLine (record_lines (placed_record es g.places start needed r))
      → IsWrittenPart nodes live log steps r old g a e
  part_is es made a b c d e whole_log made_all stale wanted front front_readable w1 w2 first end end_readable =
      whole a b c d e stale
      (subst (λ (xs : List Entry). AreNeeded xs (without_places old gone).places r needed) whole_log wanted)
      front front_readable
      (subst (λ (ps : List ℕ). AreStepsWritten (log ++ steps) (without_places old gone) f ps b c) made_all
      (subst (λ (xs : List Entry). AreStepsWritten xs (without_places old gone) f made b c) whole_log w1))
      (subst (λ (xs : List Entry). AreStepsWritten xs f g needed c d) whole_log w2)
      first
      (subst (λ (xs : List Entry). e ≡ d ++ flat_map line_text (record_lines (placed_record xs g.places start needed r))) whole_log end)
      (subst (λ (xs : List Entry). AllByRecursion IsLine (record_lines (placed_record xs g.places start needed r))) whole_log end_readable)

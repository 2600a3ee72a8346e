use Rattle.std.proofs.Common.{List, ◌∷◌, ◌++◌, map, refl, ap, ◌∙◌}
use Rattle.std.specs.List.{flat_map}
use Rattle.std.proofs.lemmas.List.Concat.{flat_map-append}
use Rattle.smt_values.specs.Arrays.{Entry}
use Rattle.proof_text.specs.Lines.{spaced, entry_words}
use Rattle.proof_text.specs.Records.{written_entry}
use Rattle.proof_text.proofs.Appending.{text_more}
use Rattle.proof_text.proofs.value.push_entries.Goals as goal

pub loop-entry-preserved : goal.loop-entry-preserved
loop-entry-preserved c =
    text_more (λ (xs : List Entry). spaced (flat_map entry_words (map written_entry xs))) (λ (x : Entry). spaced (entry_words (written_entry x))) refl
    (λ y ys. flat_map-append (λ w. 32 ∷ w) (entry_words (written_entry y)) (flat_map entry_words (map written_entry ys))) c.args.entries.now c.loop-entry.entry-index c.entry-item.result _ _ _
    c.loop-entry-test.true c.loop-entry.invariant
    (c.in_ok-push_entry.ensures.ok ∙ ap (λ (x : Entry). c.loop-entry.out ++ spaced (entry_words (written_entry x))) c.entry-item.is)

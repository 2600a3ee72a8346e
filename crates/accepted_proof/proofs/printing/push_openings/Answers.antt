use Rattle.std.proofs.Common.{List, ◌++◌, refl, ap, ◌∙◌}
use Rattle.std.specs.List.{flat_map}
use Rattle.smt_values.specs.Arrays.{Entry}
use Rattle.proof_text.proofs.Appending.{text_more}
use Rattle.accepted_proof.specs.Printed.{store_opening}
use Rattle.accepted_proof.proofs.printing.push_openings.Goals as goal

pub loop-entry-preserved : goal.loop-entry-preserved
loop-entry-preserved c =
    text_more (λ (xs : List Entry). flat_map (λ (e : Entry). store_opening c.args.default e.1) xs) (λ (e : Entry). store_opening c.args.default e.1) refl (λ _ _. refl)
    c.args.entries.now c.loop-entry.entry-index c.entry-item.result _ _ _ c.loop-entry-test.true c.loop-entry.invariant
    (c.in_ok-push_opening.ensures.ok ∙ ap (λ (e : Entry). c.loop-entry.out ++ store_opening c.args.default e.1) c.entry-item.is)

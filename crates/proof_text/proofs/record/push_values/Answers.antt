use Rattle.std.proofs.Common.{ℕ, List, ◌++◌, refl, ap, ◌∙◌}
use Rattle.std.specs.List.{flat_map, AllByRecursion}
use Rattle.std.proofs.lemmas.List.Concat.{flat_map-append}
use Rattle.smt_values.specs.declared.value.Value.{Value}
use Rattle.proof_text.specs.Lines.{line_text, IsLine}
use Rattle.proof_text.specs.Records.{value_lines}
use Rattle.proof_text.proofs.Appending.{text_more, kept_front, on_err}
use Rattle.proof_text.proofs.Readable.{each_all, each_flat, values_more}
use Rattle.proof_text.proofs.record.push_values.Goals as goal

pub loop-pair-preserved : goal.loop-pair-preserved
loop-pair-preserved c = record {
  text =
      text_more (λ (xs : List (ℕ × Value)). flat_map line_text (flat_map value_lines xs)) (λ (p : ℕ × Value). flat_map line_text (value_lines p)) refl
      (λ y ys. flat_map-append line_text (value_lines y) (flat_map value_lines ys)) c.args.values.now c.loop-pair.pair-index c.pair-item.result _ _ _
      c.loop-pair-test.true c.loop-pair.invariant.text
      (c.in_ok-push_declared.ensures.ok ∙ ap (λ (p : ℕ × Value). c.loop-pair.out ++ flat_map line_text (value_lines p)) c.pair-item.is);
  lines = λ h. values_more c.args.values.now c.loop-pair.pair-index c.pair-item.result c.loop-pair-test.true c.pair-item.is h c.in_ok-push_declared.ensures.lines (c.loop-pair.invariant.lines h);
}

pub returns-clause-lines : goal.returns-clause-lines
returns-clause-lines c = λ h.
    each_flat value_lines IsLine c.args.values.now
    (each_all (λ (p : ℕ × Value). AllByRecursion IsLine (value_lines p)) c.args.values.now c.loop-pair.pair-index c.loop-pair-test.false (c.loop-pair.invariant.lines h))

pub returns-in_err-push_declared-clause-err : goal.returns-in_err-push_declared-clause-err
returns-in_err-push_declared-clause-err c =
    on_err c.from_residual.result (kept_front c.args.out.now c.loop-pair.out c.push_declared.new.out _ c.loop-pair.invariant.text c.in_err-push_declared.ensures.err)

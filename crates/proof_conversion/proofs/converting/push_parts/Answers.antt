use Rattle.std.proofs.Common.{◌<◌, ◌++◌, ℕ, List, [], length, get_or, ap, ◌∙◌, arith}
use Rattle.std.specs.List.{flat_map}
use Rattle.proof_text.specs.Lines.{line_text}
use Rattle.proof_conversion.specs.Needs.{deletion}
use Rattle.proof_conversion.proofs.Behind.{part_pushed, places_at, readable_more}
use Rattle.proof_conversion.proofs.converting.push_parts.Goals as goal

pub loop-part-preserved : goal.loop-part-preserved
loop-part-preserved c =
    let within : c.loop-part.part < length c.args.due.now = (let r = c.requires in let t = c.loop-part-test.true in omega arith) in
    let places = places_at c.args.due.now c.loop-part.part c.as_slice.result.now c.index-due-part.result within c.as_slice.ensures c.index-due-part.is in
    record {
      text =
          part_pushed (λ (p : ℕ). get_or c.args.due.now p []) c.args.texts.now c.loop-part.part c.index-texts-part.result c.loop-part.out c.push_deletion.new.out c.push_slice.new.self _ c.loop-part-test.true
          (c.in_ok-push_deletion.ensures.text ∙ ap (λ (x : List ℕ). c.loop-part.out ++ flat_map line_text (deletion x)) places)
          (c.in_ok-push_slice.ensures.ok ∙ ap (λ (x : List ℕ). c.push_deletion.new.out ++ x) (c.as_slice-in-loop-part.ensures ∙ c.index-texts-part.is))
          c.loop-part.invariant.text;
      lines = readable_more c.args.due.now c.loop-part.part c.as_slice.result.now places c.in_ok-push_deletion.ensures.line c.loop-part.invariant.lines;
    }

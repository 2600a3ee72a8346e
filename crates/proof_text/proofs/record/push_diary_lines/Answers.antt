use Rattle.std.proofs.Common.{List, map, refl}
use Rattle.std.specs.List.{flat_map}
use Rattle.cnf_base.proofs.Lists.{each_map}
use Rattle.proof_log.specs.declared.diary.DiaryLine.{DiaryLine}
use Rattle.proof_text.specs.Lines.{line_text, IsLine}
use Rattle.proof_text.specs.Records.{diary_line}
use Rattle.proof_text.proofs.Appending.{text_more}
use Rattle.proof_text.proofs.Readable.{each_more, each_all}
use Rattle.proof_text.proofs.record.push_diary_lines.Goals as goal

pub loop-line-preserved : goal.loop-line-preserved
loop-line-preserved c = record {
  text =
      text_more (λ (xs : List DiaryLine). flat_map line_text (map diary_line xs)) (λ (d : DiaryLine). line_text (diary_line d)) refl (λ _ _. refl)
      c.args.lines.now c.loop-line.line-index _ _ _ _ c.loop-line-test.true c.loop-line.invariant.text c.in_ok-push_diary_line.ensures.ok;
  lines = each_more (λ (d : DiaryLine). IsLine (diary_line d)) c.args.lines.now c.loop-line.line-index _ c.loop-line-test.true c.loop-line.invariant.lines c.in_ok-push_diary_line.ensures.line;
}

pub returns-clause-lines : goal.returns-clause-lines
returns-clause-lines c =
    each_map diary_line IsLine c.args.lines.now
    (each_all (λ (d : DiaryLine). IsLine (diary_line d)) c.args.lines.now c.loop-line.line-index c.loop-line-test.false c.loop-line.invariant.lines)

use Rattle.std.proofs.Common.{◌≡◌, ◌++◌, take, map}
use Rattle.std.specs.List.{flat_map, AllByRecursion}
use Rattle.proof_log.specs.declared.diary.DiaryLine.{DiaryLine}
use Rattle.proof_text.specs.Lines.{line_text, IsLine}
use Rattle.proof_text.specs.Records.{diary_line}
use Rattle.proof_text.proofs.record.push_diary_lines.Given as goal

abbrev pub invariant-loop-line : goal.invariant-loop-line
invariant-loop-line l = record {
  text : l.out ≡ l.fn.out ++ flat_map line_text (map diary_line (take l.line-index l.lines));
  lines : AllByRecursion (λ (d : DiaryLine). IsLine (diary_line d)) (take l.line-index l.lines);
}

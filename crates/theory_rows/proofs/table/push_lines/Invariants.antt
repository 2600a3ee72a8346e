use Rattle.std.proofs.Common.{◌≡◌, ◌++◌, take, map}
use Rattle.theory_rows.specs.Rows.{lines_text}
use Rattle.theory_rows.proofs.table.push_lines.Given as goal

abbrev pub invariant-loop-line : goal.invariant-loop-line
invariant-loop-line l = record { text : l.text ≡ l.fn.text ++ lines_text (map (λ x. x.now) (take l.line-index l.lines)) }

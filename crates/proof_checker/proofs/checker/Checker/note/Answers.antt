use Rattle.std.proofs.Common.{IfOk, subst}
use Rattle.check_cubes.specs.Searches.{limits_of}
use Rattle.proof_checker.specs.Checkers.{CheckerValue, GoesTo, IsNoted, NotesBy}
use Rattle.proof_checker.proofs.Noting.{line_noted, noted_when}
use Rattle.proof_checker.proofs.checker.Checker.note.Goals as goal

pub judge_line-requires-clause-noted : goal.judge_line-requires-clause-noted
judge_line-requires-clause-noted c =
    let before = c.checker.inside in
    let limits = limits_of before.limits in
    let was = subst (IsNoted limits before.state.value before.log.value.entries before.deleted) c.in-Noted.is c.checker.invariant.2 in
    let told = rw c.deref.ensures at c.in-Ok.ensures in
    noted_when limits before.state.value before.log.value.entries before.deleted c.in-Noted.noting c.in-Ok.noting c.args.line c.in-Ok.stands (told limits before.state.value c.checker.invariant.0 was)

pub returns : goal.returns
returns c =
    let before = c.checker.inside in
    let limits = limits_of before.limits in
    let was = subst (IsNoted limits before.state.value before.log.value.entries before.deleted) c.in-Noted.is c.checker.invariant.2 in
    let told = rw c.deref.ensures at c.in-Ok.ensures in
    subst (λ (x : CheckerValue). IfOk c.judge_line.result (λ to. GoesTo (NotesBy x.judging.owed x.judging c.args.line) x to)) c.checker.view_is
    (line_noted before.format limits before.state.value before.log.value.entries before.deleted before.due before.state.value.symbols.live before.values.items before.line before.verdicts.items
    c.in-Noted.noting c.in-Ok.noting c.args.line c.in-Ok.stands c.judge_line.result c.in-Noted.is (told limits before.state.value c.checker.invariant.0 was) c.judge_line.ensures)

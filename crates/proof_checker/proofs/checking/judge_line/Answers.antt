use Rattle.std.proofs.Common.{refl, sym, Some}
use Rattle.accepted_proof.specs.Judged.{ending}
use Rattle.proof_checker.proofs.Keeping.{proof_asked, lined_like, refused_like, ended, end_answered, end_verdicts}
use Rattle.proof_checker.proofs.checking.judge_line.Goals as goal

pub returns-in-Ok-told : goal.returns-in-Ok-told
returns-in-Ok-told c =
    let l = rw c.in-Line.is at c.in-Ok.ensures.line in
    lined_like _ _ _ c.in-Ok.ensures.same l.1 c.args.checker c.in_ok-checker-in-Line.checker c.requires c.in_ok-checker-in-Line.ensures.moves c.go_on.result c.go_on.ensures

pub returns-in-Err : goal.returns-in-Err
returns-in-Err c =
    let l = rw c.in-Line.is at c.in-Ok.ensures.line in
    let told = rw c.in-Err.is at c.in_ok-checker-in-Line.ensures.told in
    refused_like _ _ _ c.in-Ok.ensures.same l.1 c.args.checker c.in_ok-checker-in-Line.checker c.requires c.in_ok-checker-in-Line.ensures.moves _ (sym told) (record { checker = Some c.in_ok-checker-in-Line.checker; refusal = Some c.in-Err.refusal }) refl refl

pub returns-in-End : goal.returns-in-End
returns-in-End c =
    let e = rw c.in-End.is at c.in-Ok.ensures.line in
    let told = end_answered _ _ c.end-checker.ensures.told in
    ended _ e.0 c.args.checker _ told c.requires c.end-checker.result.0 (end_verdicts c.args.checker c.end-checker.result.0 (ending c.args.checker.judging.owed c.args.checker.judging.line) c.end-checker.ensures.end) (record { checker = Some c.end-checker.result.0; refusal = c.err.result }) refl c.err.ensures.value

pub returns-in-More : goal.returns-in-More
returns-in-More c = proof_asked _ _ c.in-Ok.ensures.same (rw c.in-More.is at c.in-Ok.ensures.line) _ _ refl refl

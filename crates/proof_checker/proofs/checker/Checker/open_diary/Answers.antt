use Rattle.std.proofs.Common.{◌≡◌, ◌+◌, inr, sym, ap, subst, ◌∙◌, arith}
use Rattle.accepted_proof.specs.Judged.{noted, refused}
use Rattle.accepted_proof.specs.declared.refusal.RuleName.TheVariants as rule
use Rattle.check_cubes.specs.Searches.{limits_of}
use Rattle.proof_checker.specs.Checkers.{CheckerValue, given_in, judged_so}
use Rattle.proof_checker.proofs.Noting.{not_opened, opened}
use Rattle.proof_checker.proofs.checker.Checker.open_diary.Goals as goal

pub owe_lines-requires-clause-noted : goal.owe_lines-requires-clause-noted
owe_lines-requires-clause-noted c =
    let before = c.checker.inside in
    let found = rw c.in-Some.is at c.in-Ok.ensures.search in
    let same = ap (λ (x : CheckerValue). given_in x.judging c.args.cube) (sym (c.checker.view_is ∙ c.searched.ensures.same)) in
    (rw c.deref.ensures at c.in-Ok-open.ensures.noted) (limits_of before.limits) before.state.value c.checker.invariant.0 (c.as_slice.ensures.value ∙ found.1 ∙ same)

pub returns-in-Ok-open : goal.returns-in-Ok-open
returns-in-Ok-open c =
    let found = rw c.in-Some.is at c.in-Ok.ensures.search in
    let parts = c.in-Ok-open.ensures.parts in
    let n = c.in-Ok-open.noting in
    let some = c.if-count-eq0.false in
    let left = parts.2 in
    let more : n.left + 1 ≡ c.args.count = omega (arith, some, left) in
    opened c.args.self c.owe_lines.result c.args.cube c.args.start c.args.count n found.0 more parts.0 parts.1 parts.3
    (subst (λ (x : CheckerValue). c.owe_lines.result ≡ judged_so x (noted x.judging n.cube n.start n.left n.lines)) (c.checker.view_is ∙ c.searched.ensures.same) c.owe_lines.ensures)

pub returns : goal.returns
returns c =
    not_opened c.args.self c.refuse-in-None.result c.args.cube c.args.start c.args.count
    (inr (rw c.in-None.is at c.in-Ok.ensures.search))
    (subst (λ (x : CheckerValue). c.refuse-in-None.result ≡ judged_so x (refused x.judging rule.Diary)) c.searched.ensures.same c.refuse-in-None.ensures)

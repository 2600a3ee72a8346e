use Rattle.std.proofs.Common.{◌≡◌, sym, subst, arith}
use Rattle.std.proofs.lemmas.Bool.{MatchBool-at_true, MatchBool-at_false}
use Rattle.proof_text.specs.Deletions.{IsSpentWithout}
use Rattle.accepted_proof.specs.Judged.{subject_at}
use Rattle.proof_checker.specs.declared.due.Due.TheVariants.{Noted}
use Rattle.check_cubes.specs.Searches.{limits_of}
use Rattle.proof_checker.specs.Checkers.{CheckerValue, IsNoted}
use Rattle.proof_checker.proofs.Noting.{read_on, read_spent, read_unspent}
use Rattle.proof_checker.proofs.checker.Checker.judge_line.Goals as goal

pub returns-then-noting-gt0 : goal.returns-then-noting-gt0
returns-then-noting-gt0 c =
    let same = c.one_less-noting.ensures.same in
    read_on c.args.self c.args.noting c.args.stands c.owe_lines.result c.one_less-noting.result c.if-not-stands.false c.one_less-noting.ensures.left same.0 same.1 same.2 c.owe_lines.ensures

pub close_diary-requires-clause-noted : goal.close_diary-requires-clause-noted
close_diary-requires-clause-noted c = c.requires.noted c.if-not-stands.false

pub returns-then-is_spent : goal.returns-then-is_spent
returns-then-is_spent c =
    let before = c.self.inside in
    let n = c.args.noting in
    let noted = subst (λ (x : CheckerValue). IsNoted x.judging.limits x.judging.state x.judging.log x.judging.deleted (Noted n)) (sym c.self.view_is) (c.requires.noted c.if-not-stands.false) in
    let spent = MatchBool-at_true _ _ c.if-is_spent.true (c.is_spent.ensures (limits_of before.limits) before.state.value before.log.value.entries before.deleted noted) in
    let some = c.if-noting-gt0.false in
    let last : n.left ≡ 0 = omega (arith, some) in
    read_spent c.args.self n c.args.stands c.close_diary.result c.if-not-stands.false last
    (subst (λ (x : CheckerValue). IsSpentWithout x.judging.deleted (subject_at x.judging n.cube n.start) x.judging.limits.budget n.lines) c.self.view_is spent) c.close_diary.ensures

pub returns-else-is_spent : goal.returns-else-is_spent
returns-else-is_spent c =
    let before = c.self.inside in
    let n = c.args.noting in
    let noted = subst (λ (x : CheckerValue). IsNoted x.judging.limits x.judging.state x.judging.log x.judging.deleted (Noted n)) (sym c.self.view_is) (c.requires.noted c.if-not-stands.false) in
    let unspent = MatchBool-at_false _ _ c.if-is_spent.false (c.is_spent.ensures (limits_of before.limits) before.state.value before.log.value.entries before.deleted noted) in
    let some = c.if-noting-gt0.false in
    let last : n.left ≡ 0 = omega (arith, some) in
    read_unspent c.args.self n c.args.stands c.refuse-else-is_spent.result c.if-not-stands.false last
    (subst (λ (x : CheckerValue). IsSpentWithout x.judging.deleted (subject_at x.judging n.cube n.start) x.judging.limits.budget n.lines → ⊥) c.self.view_is unspent) c.refuse-else-is_spent.ensures

use Rattle.proof_log.specs.Logs.{clause_at}
use Rattle.diary_checker.specs.Tables.{bit_in}
use Rattle.diary_checker.proofs.Puts.{good, good_derived}
use Rattle.diary_checker.proofs.goodness.is_good_put.Goals as goal

pub returns-then-not-branch : goal.returns-then-not-branch
returns-then-not-branch c = λ g e set filed p.
    let refuted = rw c.if-not-branch.true at c.in_ok-is_derived.ensures in
    refuted (good_derived g (clause_at c.args.log.now.clauses) (bit_in c.args.held.now) c.args.clause.now c.args.hints.now e p)

pub returns : goal.returns
returns c =
    let d = rw c.if-not-branch.false at c.in_ok-is_derived.ensures in
    good (clause_at c.args.log.now.clauses) (bit_in c.args.held.now) c.args.given.now c.args.watches.now c.args.clause.now c.args.hints.now c.is_apart.result d c.is_apart.ensures

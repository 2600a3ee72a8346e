use Rattle.proof_log.specs.Logs.{clause_at}
use Rattle.diary_checker.specs.Tables.{bit_in}
use Rattle.diary_checker.proofs.Puts.{derived, not_from_hints}
use Rattle.diary_checker.proofs.goodness.is_derived.Goals as goal

pub returns-then-not-are_all_in : goal.returns-then-not-are_all_in
returns-then-not-are_all_in c =
    let out = c.if-not-are_all_in.ensures in
    not_from_hints (clause_at c.args.log.now.clauses) (bit_in c.args.held.now) c.args.clause.now c.args.hints.now c.find_lasts.new.lasts out.0 c.in_ok-find_lasts.ensures out.1 out.2

pub returns : goal.returns
returns c =
    derived (clause_at c.args.log.now.clauses) (bit_in c.args.held.now) c.args.clause.now c.args.hints.now c.find_lasts.new.lasts c.negate.new.trues c.are_used.result
    c.if-not-are_held.ensures c.in_ok-find_lasts.ensures c.if-not-are_all_in.ensures c.in_ok-negate.ensures c.are_used.ensures

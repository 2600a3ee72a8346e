use Rattle.std.proofs.lemmas.List.{take_all}
use Rattle.cnf_base.specs.Clauses.{no_id}
use Rattle.proof_log.specs.Logs.{clause_at}
use Rattle.diary_checker.specs.Tables.{bit_in}
use Rattle.diary_checker.specs.Uses.{Subsumes}
use Rattle.diary_checker.proofs.Sets.{each_more_at}
use Rattle.diary_checker.proofs.conditions.is_one_within.Goals as goal

pub loop-id-preserved : goal.loop-id-preserved
loop-id-preserved c =
    each_more_at (λ id. ¬ (Subsumes (clause_at c.args.log.now.clauses) (bit_in c.args.held.now) c.args.own.now id)) c.args.ids.now c.loop-id.id-index no_id c.loop-id-test.true c.loop-id.invariant c.if-is_within.ensures

pub returns : goal.returns
returns c = rw (take_all c.loop-id.id-index c.args.ids.now c.loop-id-test.false) at c.loop-id.invariant

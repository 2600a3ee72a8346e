use Rattle.std.proofs.Common.{sym, arith}
use Rattle.std.proofs.lemmas.Option.{get_or_from_slice_get}
use Rattle.cnf_base.specs.Clauses.{no_id}
use Rattle.proof_log.specs.Logs.{clause_at}
use Rattle.diary_checker.proofs.Using.{lasts_none, lasts_step, lasts_all}
use Rattle.diary_checker.proofs.uses.find_lasts.Goals as goal

pub loop-k-init : goal.loop-k-init
loop-k-init c = lasts_none (clause_at c.args.log.now.clauses) c.args.hints.now c.clear.new.self c.clear.ensures

pub loop-k-preserved : goal.loop-k-preserved
loop-k-preserved c =
    let same = sym (get_or_from_slice_get c.args.hints.now c.loop-k.k c.hint.result no_id c.hint.ensures) in
    lasts_step (clause_at c.args.log.now.clauses) c.args.hints.now c.loop-k.k c.loop-k.lasts c.mark_hint.new.table c.loop-k.invariant (rw same at c.in_ok-mark_hint.ensures)

pub returns : goal.returns
returns c = lasts_all (clause_at c.args.log.now.clauses) c.args.hints.now c.loop-k.k c.loop-k.lasts (omega arith) (omega arith) c.loop-k.invariant

use Rattle.std.specs.Prelude.{Contains, Option, Some, None, List}
use Rattle.std.proofs.lemmas.List.{take_all}
use Rattle.cnf_base.specs.Literals.{Literal}
use Rattle.cnf_base.specs.declared.clause.ClauseId.{ClauseId}
use Rattle.proof_log.specs.Logs.{clause_at}
use Rattle.diary_checker.specs.Tables.{bit_in, filed_under}
use Rattle.diary_checker.specs.Uses.{Subsumes, MayBeUnder}
use Rattle.diary_checker.proofs.Sets.{each_more}
use Rattle.diary_checker.proofs.conditions.is_subsumed.Goals as goal

pub loop-l-preserved : goal.loop-l-preserved
loop-l-preserved c =
    let found = rw c.under-in-loop-l.ensures at c.if-is_one_within-2.ensures in
    each_more (λ k. (id : ClauseId) → Contains (filed_under c.args.watches.now (Some k)) id → ¬ (Subsumes (clause_at c.args.log.now.clauses) (bit_in c.args.held.now) c.args.own.now id)) c.args.clause.now c.loop-l.l-index c.l-item.result c.loop-l-test.true c.l-item.is c.loop-l.invariant found

by_key : (P : ClauseId → Type 0) (lists : List (List ClauseId)) (clause : List Literal) →
    ((id : ClauseId) → Contains (filed_under lists None) id → ¬ (P id)) →
    ((k : Literal) → Contains clause k → (id : ClauseId) → Contains (filed_under lists (Some k)) id → ¬ (P id)) →
    (id : ClauseId) (key : Option Literal) → MayBeUnder clause key → Contains (filed_under lists key) id → ¬ (P id)
by_key P lists clause e h id None f c = e id c
by_key P lists clause e h id (Some k) f c = h k f id c

pub returns : goal.returns
returns c =
    let empty = rw c.under.ensures at c.if-is_one_within.ensures in
    let all = rw (take_all c.loop-l.l-index c.args.clause.now c.loop-l-test.false) at c.loop-l.invariant in
    by_key (Subsumes (clause_at c.args.log.now.clauses) (bit_in c.args.held.now) c.args.own.now) c.args.watches.now c.args.clause.now empty all

use Rattle.std.proofs.Common.{List, sym, subst, arith}
use Rattle.cnf_base.specs.Literals.{Literal, negated}
use Rattle.proof_log.specs.Logs.{clause_at}
use Rattle.diary_checker.specs.Tables.{bit_in, AreEach}
use Rattle.diary_checker.proofs.Puts.{apart}
use Rattle.diary_checker.proofs.Each.{apart_by_each}
use Rattle.diary_checker.proofs.goodness.is_apart.Goals as goal

pub returns-then-not-is_none_in : goal.returns-then-not-is_none_in
returns-then-not-is_none_in c = λ literals set filed a.
    let out = c.if-not-is_none_in.ensures in
    a.not_given out.0 out.1 ((set out.0).0 out.2)

pub returns-then-has_pair : goal.returns-then-has_pair
returns-then-has_pair c = λ literals set filed a.
    let own = subst (λ (ls : List Literal). AreEach c.collect.new.self.table ls c.args.clause.now) (sym c.as_slice-each.ensures.value) c.in_ok-collect.ensures in
    let p = c.if-has_pair.ensures in
    a.no_pair (p.0, (own.same p.0).0 p.1, (own.same (negated p.0)).0 p.2)

pub returns : goal.returns
returns c = λ literals set filed.
    let own = subst (λ (ls : List Literal). AreEach c.collect.new.self.table ls c.args.clause.now) (sym c.as_slice-each.ensures.value) c.in_ok-collect.ensures in
    apart_by_each (clause_at c.args.log.now.clauses) (bit_in c.args.held.now) literals c.as_slice-each.result.now c.args.clause.now _ own.same
    (apart (clause_at c.args.log.now.clauses) (bit_in c.args.held.now) literals c.as_slice-each.result.now c.args.watches.now c.collect.new.self.table c.is_subsumed.result
    c.if-has_pair.ensures own.table (λ l cl gl. let e = c.if-not-is_none_in.ensures l ((own.same l).0 cl) in let lt = (set l).1 gl in absurd (omega arith)) filed c.is_subsumed.ensures)

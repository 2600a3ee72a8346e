use Rattle.std.proofs.Common.{rules, ◌≡◌, ◌≢◌, ◌<◌, length, arith, get_or}
use Rattle.std.proofs.lemmas.List.{length-map}
use Rattle.cdcl_core.proofs.Counting.{times_nil, each_more}
use Rattle.cdcl_core.proofs.Clauses.{code_read, code_in}
use Rattle.cdcl_core.specs.Stamps.{codes, Has}
use Rattle.cdcl_core.proofs.propagate.is_satisfied.Goals as goal

pub loop-l-init : goal.loop-l-init
loop-l-init c = λ m h e. absurd (omega (arith, h, times_nil m))

pub bounds-stamps-code : goal.bounds-stamps-code
bounds-stamps-code c = c.requires.within _ (code_in c.args.clause.now c.loop-l.l-index c.l-item.result c.code-code.result c.loop-l-test.true c.l-item.is c.code-code.ensures.code)

pub offset_bounds-stamps-code : goal.offset_bounds-stamps-code
offset_bounds-stamps-code c =
    let within : c.code-code.result < length c.args.stamps.now = c.requires.within _ (code_in c.args.clause.now c.loop-l.l-index c.l-item.result c.code-code.result c.loop-l-test.true c.l-item.is c.code-code.ensures.code) in
    search rules

pub returns-then-stamps-code-eq1 : goal.returns-then-stamps-code-eq1
returns-then-stamps-code-eq1 c =
    let has : Has (codes c.args.clause.now) c.code-code.result = code_in c.args.clause.now c.loop-l.l-index c.l-item.result c.code-code.result c.loop-l-test.true c.l-item.is c.code-code.ensures.code in
    record { satisfied = λ _. (c.code-code.result, (has, c.if-stamps-code-eq1.true)); not_satisfied = λ e. absurd cc }

pub loop-l-preserved : goal.loop-l-preserved
loop-l-preserved c =
    let e : get_or (codes c.args.clause.now) c.loop-l.l-index 0 ≡ c.code-code.result = code_read c.args.clause.now c.loop-l.l-index c.l-item.result c.code-code.result c.loop-l-test.true c.l-item.is c.code-code.ensures.code in
    let within : c.loop-l.l-index < length (codes c.args.clause.now) = rw length-map c.loop-l-test.true in
    each_more (λ m. get_or c.args.stamps.now m 0 ≢ 1) (codes c.args.clause.now) c.loop-l.l-index c.code-code.result within e c.loop-l.invariant c.if-stamps-code-eq1.false

use Rattle.std.proofs.Common.{rules, ◌≡◌, ◌≢◌, ◌<◌, length, arith, get_or}
use Rattle.cdcl_core.proofs.Counting.{read_more, neg_below}
use Rattle.cdcl_core.proofs.Clauses.{code_read, code_in}
use Rattle.cdcl_core.specs.Stamps.{neg as neg_of, codes, Has}
use Rattle.cdcl_core.proofs.propagate.scan_part.Goals as goal
use Rattle.cdcl_core.proofs.propagate.scan_part.Goals.{else-code-other-via-then-code-other+else-stamps-neg-eq0, else-code-other-via-else-code-other}

pub bounds-stamps-neg : goal.bounds-stamps-neg
bounds-stamps-neg c =
    let within : c.loop-k.k < length c.args.clause.now = omega (arith, c.loop-k-test.true, c.requires.end, c.loop-k.auto.k-end) in
    let has : Has (codes c.args.clause.now) c.code-code.result = code_in c.args.clause.now c.loop-k.k c.index-clause-k.result c.code-code.result within c.index-clause-k.is c.code-code.ensures.code in
    rw c.neg.ensures (neg_below _ (length c.args.stamps.now) (c.requires.within _ has) c.requires.even)

pub offset_bounds-stamps-neg : goal.offset_bounds-stamps-neg
offset_bounds-stamps-neg c =
    let within : c.loop-k.k < length c.args.clause.now = omega (arith, c.loop-k-test.true, c.requires.end, c.loop-k.auto.k-end) in
    let has : Has (codes c.args.clause.now) c.code-code.result = code_in c.args.clause.now c.loop-k.k c.index-clause-k.result c.code-code.result within c.index-clause-k.is c.code-code.ensures.code in
    let b : c.neg.result < length c.args.stamps.now = rw c.neg.ensures (neg_below _ (length c.args.stamps.now) (c.requires.within _ has) c.requires.even) in
    search rules

pub returns-then-stamps-neg-eq0 : goal.returns-then-stamps-neg-eq0
returns-then-stamps-neg-eq0 c =
    let within : c.loop-k.k < length c.args.clause.now = omega (arith, c.loop-k-test.true, c.requires.end, c.loop-k.auto.k-end) in
    let has : Has (codes c.args.clause.now) c.code-code.result = code_in c.args.clause.now c.loop-k.k c.index-clause-k.result c.code-code.result within c.index-clause-k.is c.code-code.ensures.code in
    (has, (c.if-code-other.true, rw c.neg.ensures at c.if-stamps-neg-eq0.true))

pub loop-k-preserved : goal.loop-k-preserved
loop-k-preserved c =
    let within : c.loop-k.k < length c.args.clause.now = omega (arith, c.loop-k-test.true, c.requires.end, c.loop-k.auto.k-end) in
    let e : get_or (codes c.args.clause.now) c.loop-k.k 0 ≡ c.code-code.result = code_read c.args.clause.now c.loop-k.k c.index-clause-k.result c.code-code.result within c.index-clause-k.is c.code-code.ensures.code in
    read_more (codes c.args.clause.now) c.args.stamps.now c.args.other c.args.start c.loop-k.k c.code-code.result e c.loop-k.invariant
    (elim c.else-code-other.branch [
      | else-code-other-via-then-code-other+else-stamps-neg-eq0 w ↦ (λ ne. let h : get_or c.args.stamps.now (neg_of c.code-code.result) 0 ≢ 0 = rw w.neg.ensures at w.if-stamps-neg-eq0.false in omega (arith, h))
      | else-code-other-via-else-code-other w ↦ (λ ne. absurd (ne w.if-code-other.false))
    ])

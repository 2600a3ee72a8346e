use Rattle.std.proofs.Common.{◌≡◌, ◌+◌, ◌*◌, ◌/◌, ◌<◌, ◌≤◌, length, get_or, arith}
use Rattle.std.proofs.lemmas.List.{length-map}
use Rattle.cdcl_core.specs.Stamps.{codes}
use Rattle.cdcl_core.proofs.Counting.{times_nil, each_more}
use Rattle.cdcl_core.proofs.Clauses.{code_read}
use Rattle.cdcl_core.proofs.add.bound_of.Goals as goal
use Rattle.cdcl_core.proofs.add.bound_of.Goals.{then-bound-code, else-bound-code}

pub loop-l-init : goal.loop-l-init
loop-l-init c = record { some = omega arith; below = λ m h. absurd (omega (arith, h, times_nil m)) }

pub loop-l-preserved : goal.loop-l-preserved
loop-l-preserved c =
    let two : 2 ≤ c.code-code.result = c.code-code.ensures.from_two in
    let read : get_or (codes c.args.clause.now) c.loop-l.l-index 0 ≡ c.code-code.result = code_read c.args.clause.now c.loop-l.l-index c.l-item.result c.code-code.result c.loop-l-test.true c.l-item.is c.code-code.ensures.code in
    let within : c.loop-l.l-index < length (codes c.args.clause.now) = rw length-map c.loop-l-test.true in
    elim c.if-bound-code.branch [
      | then-bound-code w ↦ rw w.bound-is (record {
        some = omega arith;
        below = each_more (λ m. (2 ≤ m) × (m < 2 * (c.code-code.result / 2 + 1))) (codes c.args.clause.now) c.loop-l.l-index c.code-code.result within read
            (λ m h. let o : (2 ≤ m) × (m < 2 * c.loop-l.bound) = c.loop-l.invariant.below m h in (o.0, omega (arith, o.1, w.if-bound-code.true))) (two, omega arith);
      })
      | else-bound-code w ↦ rw w.bound-is (record {
        some = c.loop-l.invariant.some;
        below = each_more (λ m. (2 ≤ m) × (m < 2 * c.loop-l.bound)) (codes c.args.clause.now) c.loop-l.l-index c.code-code.result within read c.loop-l.invariant.below (two, omega (arith, w.if-bound-code.false));
      })
    ]

use Rattle.std.proofs.Common.{◌≡◌, ◌^◌, ◌≤◌, ◌∙◌, sym, subst, arith}
use Rattle.circ_plain.proofs.Powers.{stages_only}
use Rattle.circ_plain.proofs.shifts.stages_of.Goals as goal

pub returns-then-width-count : goal.returns-then-width-count
returns-then-width-count c = stages_only c.args.width c.loop-count.count c.loop-count.invariant (omega arith)

pub returns : goal.returns
returns c =
    let all : c.loop-count.count ≡ 64 = omega arith in
    let fits : c.args.width ≤ 2 ^ c.loop-count.count = subst (λ k. c.args.width ≤ 2 ^ k) (sym all) (omega arith) in
    sym all ∙ stages_only c.args.width c.loop-count.count c.loop-count.invariant fits

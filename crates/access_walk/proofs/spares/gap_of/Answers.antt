use Rattle.std.proofs.Common.{◌≡◌, ◌<◌, ◌+◌, subst, ap, ◌∙◌, arith}
use Rattle.std.specs.Prelude.{Some, slice_index_or}
use Rattle.access_walk.proofs.Lists.{some_at}
use Rattle.access_walk.proofs.Gaps.{IsGapTo, gap_more, gap_kept, gap_end}
use Rattle.access_walk.proofs.spares.gap_of.Goals.{then-number-gap-2, else-number-gap-2}
use Rattle.access_walk.proofs.spares.gap_of.Goals as goal

pub loop-number-preserved : goal.loop-number-preserved
loop-number-preserved c =
    let numbers = c.args.numbers.now in
    let at = some_at c.args.numbers.now c.loop-number.number-index 0 c.loop-number-test.true in
    elim c.if-number-gap-2.branch [
      | then-number-gap-2 w ↦
          let same : slice_index_or c.args.numbers.now c.loop-number.number-index 0 ≡ c.loop-number.gap = let t = w.if-number-gap-2.true in omega (arith, t) in
          let now : c.loop-number.gap + 1 ≡ c.if-number-gap-2.gap = let g = w.gap-is in omega (arith, g) in
          subst (IsGapTo c.args.numbers.now (c.loop-number.number-index + 1)) now (gap_more c.args.numbers.now c.loop-number.number-index c.loop-number.gap c.loop-number.invariant (at ∙ ap Some same))
      | else-number-gap-2 w ↦
          let now : c.loop-number.gap ≡ c.if-number-gap-2.gap = let g = w.gap-is in omega (arith, g) in
          let less : slice_index_or c.args.numbers.now c.loop-number.number-index 0 < c.loop-number.gap = let t = w.if-number-gap-2.false in let m = c.if-number-gap.false in omega (arith, t, m) in
          subst (IsGapTo c.args.numbers.now (c.loop-number.number-index + 1)) now (gap_kept c.args.numbers.now c.loop-number.number-index c.loop-number.gap _ c.loop-number.invariant at less)
    ]

pub returns : goal.returns
returns c = record { gap = gap_end c.args.numbers.now c.loop-number.number-index c.loop-number.gap c.loop-number.invariant (let over = c.loop-number-test.false in omega (arith, over)) }

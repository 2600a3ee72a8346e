use Rattle.std.proofs.Common.{◌∙◌, refl, append-nil}
use Rattle.smt_text.proofs.Cuts.{first_chunk_shrinks, AreCut-one}
use Rattle.smt_text.proofs.Driver.{framed_none, framed_fed, framed_given, framed_end, next_piece}
use Rattle.smt_text.proofs.framer.chunks.Goals as goal
use Rattle.smt_text.proofs.framer.chunks.Goals.{in-Some-2+in_ok-push-2, in_default-2}

pub pieces-init : goal.pieces-init
pieces-init c = framed_none _ _ c.new-framer.ensures c.new-out.ensures.items

pub whole-init : goal.whole-init
whole-init c =
    rw (next_piece c.args.pieces.now c.pieces.piece-index c.piece-item.result c.pieces-test.true c.piece-item.is)
    (framed_fed _ _ _ _ _ c.pieces.invariant.0 c.in_ok-feed.ensures.line (c.in_ok-feed.ensures.ok ∙ rw c.as_slice.ensures refl))

pub whole-smaller : goal.whole-smaller
whole-smaller c = (first_chunk_shrinks _ _ _ (rw c.in-Some.is at c.in_ok-chunk.ensures.ok)).less

pub whole-preserved : goal.whole-preserved
whole-preserved c = framed_given _ _ _ _ _ _ c.whole.invariant (rw c.in-Some.is at c.in_ok-chunk.ensures.ok) c.in_ok-push.ensures.items

all_out : goal.returns-clause-split
all_out c = framed_end c.args.pieces.now _ _ _ _ c.in_ok-chunk-2.field-0 c.pieces-test.false c.pieces.invariant c.in_ok-chunk-2.ensures.ok
    (elim c.match-branch-6.branch [
      | in-Some-2+in_ok-push-2 w ↦ rw (w.out-is, w.in-Some-2.is) w.in_ok-push-2.ensures.items
      | in_default-2 w ↦ rw (w.out-is, w.in_default-2.is, append-nil c.pieces.out.items) refl
    ])

pub returns-clause-split : goal.returns-clause-split
returns-clause-split c = all_out c

pub returns-clause-only : goal.returns-clause-only
returns-clause-only c = λ others o. AreCut-one _ _ _ (all_out c) o

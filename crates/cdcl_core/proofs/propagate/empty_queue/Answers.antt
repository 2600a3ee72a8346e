use Rattle.std.proofs.Common.{rules, ◌≡◌, ◌<◌, length, get_or, sym, ap, ◌∙◌}
use Rattle.std.proofs.lemmas.List.{get_or_read}
use Rattle.cdcl_core.specs.Stamps.{neg as neg_of}
use Rattle.cdcl_core.proofs.Counting.{neg_below, neg_neg}
use Rattle.cdcl_core.proofs.Reasons.{grown_more, moved_grown}
use Rattle.cdcl_core.proofs.Visits.{next_within, codes_size, stopped_settles, visit_settles, with_lists}
use Rattle.cdcl_core.proofs.propagate.empty_queue.Goals as goal

pub index-requires : goal.index-requires
index-requires c =
    let size : c.queue.t.head < length c.queue.t.codes.items = codes_size c.queue.w c.queue.t c.queue.invariant.settled c.queue-test.true in
    search rules

pub visit-stop-requires-clause-within : goal.visit-stop-requires-clause-within
visit-stop-requires-clause-within c =
    let e : c.index.result.now ≡ get_or c.queue.t.codes.items c.queue.t.head 0 = get_or_read c.queue.t.codes.items c.queue.t.head c.index.result.now (codes_size c.queue.w c.queue.t c.queue.invariant.settled c.queue-test.true) c.index.ensures 0 in
    let h : c.index.result.now < length c.queue.t.stamps.items = rw e (next_within c.queue.w c.queue.t c.queue.invariant.settled c.queue-test.true) in
    rw c.neg-p.ensures (neg_below c.index.result.now (length c.queue.t.stamps.items) h c.queue.invariant.settled.trail.even)

pub visit-stop-requires-clause-next : goal.visit-stop-requires-clause-next
visit-stop-requires-clause-next c =
    let e : c.index.result.now ≡ get_or c.queue.t.codes.items c.queue.t.head 0 = get_or_read c.queue.t.codes.items c.queue.t.head c.index.result.now (codes_size c.queue.w c.queue.t c.queue.invariant.settled c.queue-test.true) c.index.ensures 0 in
    sym e ∙ (sym (neg_neg c.index.result.now) ∙ ap neg_of (sym c.neg-p.ensures))

pub returns-then-stop-ne0-clause-settled : goal.returns-then-stop-ne0-clause-settled
returns-then-stop-ne0-clause-settled c = stopped_settles c.visit-stop.new.w c.visit-stop.new.t c.neg-p.result c.visit-stop.result c.visit-stop.ensures.visiting c.visit-stop.ensures.idle

pub queue-preserved : goal.queue-preserved
queue-preserved c = record {
  settled = visit_settles c.visit-stop.new.w c.visit-stop.new.t c.neg-p.result c.visit-stop.result c.visit-stop.ensures.visiting c.if-stop-ne0.false c.visit-stop.ensures.idle;
  same = c.visit-stop.ensures.same ∙ ap (λ w. with_lists w c.visit-stop.new.w.lists) c.queue.invariant.same;
  level = c.visit-stop.ensures.level ∙ c.queue.invariant.level;
  size = c.visit-stop.ensures.size ∙ c.queue.invariant.size;
  grown = moved_grown c.args.t.now c.visit-stop.new.t (grown_more c.args.t.now c.queue.t c.visit-stop.new.t c.queue.invariant.level c.queue.invariant.grown c.visit-stop.ensures.grown);
}

pub returns-then-stop-ne0-clause-grown : goal.returns-then-stop-ne0-clause-grown
returns-then-stop-ne0-clause-grown c = grown_more c.args.t.now c.queue.t c.visit-stop.new.t c.queue.invariant.level c.queue.invariant.grown c.visit-stop.ensures.grown

pub returns-then-stop-ne0-clause-size : goal.returns-then-stop-ne0-clause-size
returns-then-stop-ne0-clause-size c = c.visit-stop.ensures.size ∙ c.queue.invariant.size

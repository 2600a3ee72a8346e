use Rattle.std.proofs.Common.{◌≡◌, refl, sym, ap, ◌∙◌}
use Rattle.cdcl_core.proofs.Reasons.{same_grown, grown_more}
use Rattle.cdcl_core.proofs.Visits.{visit_starts, visited_all, with_lists}
use Rattle.cdcl_core.proofs.propagate.visit_some.Goals as goal

pub places-init : goal.places-init
places-init c = record {
  visiting = rw c.exchange.ensures (visit_starts c.args.w.now c.args.t.now c.args.p c.requires.settled c.requires.within c.requires.next c.requires.more);
  first = c.first-place.ensures.value;
  same = refl;
  head = refl;
  level = refl;
  size = refl;
  grown = same_grown c.args.t.now;
}

pub returns-clause-idle : goal.returns-clause-idle
returns-clause-idle c = λ z. visited_all c.places.w c.places.t c.args.p 0 c.places.invariant.visiting (sym c.places.invariant.first ∙ c.places-test.false)

pub returns-then-stop-ne0-clause-grown : goal.returns-then-stop-ne0-clause-grown
returns-then-stop-ne0-clause-grown c = grown_more c.args.t.now c.places.t c.step-next.new.t c.places.invariant.level c.places.invariant.grown c.step-next.ensures.grown

pub places-preserved : goal.places-preserved
places-preserved c =
    let none : c.step-next.result.1 ≡ 0 = c.if-stop-ne0.false in
    record {
      visiting = rw none at c.step-next.ensures.visiting;
      first = c.step-next.ensures.next;
      same = c.step-next.ensures.same ∙ ap (λ w. with_lists w c.step-next.new.w.lists) c.places.invariant.same;
      head = c.step-next.ensures.head ∙ c.places.invariant.head;
      level = c.step-next.ensures.level ∙ c.places.invariant.level;
      size = c.step-next.ensures.size ∙ c.places.invariant.size;
      grown = grown_more c.args.t.now c.places.t c.step-next.new.t c.places.invariant.level c.places.invariant.grown c.step-next.ensures.grown;
    }

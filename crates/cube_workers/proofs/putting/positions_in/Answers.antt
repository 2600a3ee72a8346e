use Rattle.std.proofs.Common.{◌≡◌, length, take, sym, ap, ◌∙◌, subst, arith}
use Rattle.std.specs.Option.{option_copied}
use Rattle.std.proofs.Math.Seq.{take-length}
use Rattle.cube_workers.specs.Histories.{ArePlaces}
use Rattle.cube_workers.proofs.PutBack.{places_more}
use Rattle.cube_workers.proofs.putting.positions_in.Goals as goal

pub events-preserved : goal.events-preserved
events-preserved c = (
  c.keep_place.ensures.len ∙ c.events.invariant.0,
  λ law.
      places_more law c.args.events.now c.events.at c.in-Some.event.now c.events.places.items c.keep_place.new.places.items (sym c.get.ensures ∙ ap option_copied c.in-Some.is) (c.events.invariant.1 law)
      (λ seen n h. c.keep_place.ensures.places law seen n h),
)

pub returns-clause-places : goal.returns-clause-places
returns-clause-places c = λ law.
    let count = c.len-at-end.ensures in
    let last = c.events-test.false in
    let within = c.events.auto.at-end in
    let same : c.events.at ≡ length c.args.events.now = omega (arith, count, last, within) in
    subst (λ l. ArePlaces law l c.events.places.items) (ap (λ n. take n c.args.events.now) same ∙ take-length c.args.events.now) (c.events.invariant.1 law)

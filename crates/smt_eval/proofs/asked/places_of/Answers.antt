use Rattle.std.proofs.Common.{◌+◌, ◌∷◌, ◌++◌, [], List, ℕ, get_or, take, sym, subst}
use Rattle.std.proofs.lemmas.List.{take_more}
use Rattle.smt_eval.specs.Asked.{AreAtPlaces}
use Rattle.smt_eval.proofs.Placing.{at_places_more, found_at}
use Rattle.smt_eval.proofs.asked.places_of.Goals as goal

pub loop-term-preserved : goal.loop-term-preserved
loop-term-preserved c =
    let t = get_or c.args.terms.now c.loop-term.term-index 0 in
    let at = found_at c.args.reached.now c.place_of.result t c.unwrap-place.result c.place_of.ensures.place c.unwrap-place.ensures in
    subst (AreAtPlaces c.args.reached.now (take (c.loop-term.term-index + 1) c.args.terms.now)) (sym c.in_ok-push.ensures.items)
    (subst (λ (ts : List ℕ). AreAtPlaces c.args.reached.now ts (c.loop-term.out.items ++ c.unwrap-place.result ∷ [])) (sym (take_more c.args.terms.now c.loop-term.term-index 0 c.loop-term-test.true))
    (at_places_more c.args.reached.now (take c.loop-term.term-index c.args.terms.now) c.loop-term.out.items t c.unwrap-place.result c.loop-term.invariant at))

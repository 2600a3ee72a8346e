use Rattle.std.proofs.Common.{ℕ, List, [], ◌∷◌, ◌++◌, refl, inl, inr, sym, ap, ◌∙◌, subst, ⊎_elim}
use Rattle.std.specs.Prelude.{Contains, slice_index}
use Rattle.std.proofs.lemmas.List.{take_more, take_all}
use Rattle.std.proofs.lemmas.List.Elements.{Contains-get_or}
use Rattle.proof_log.specs.Logs.{state_of}
use Rattle.cube_search.specs.Holding.{IsFilling}
use Rattle.cube_search.proofs.Filling.{brought_kept, filling_more}
use Rattle.cube_search.proofs.search.Search.go_on.Goals as goal

pub places-init : goal.places-init
places-init g c = record {
  engine = c.requires.engine;
  level = c.requires.level;
  taken = refl;
  opening = c.requires.opening;
  came = λ id d e. inl e;
  filling = c.requires.filling;
}

pub places-preserved : goal.places-preserved
places-preserved g c =
    let ps = c.args.positions.now in
    let pos = slice_index ps c.places.place in
    let has : Contains ps pos = Contains-get_or ps c.places.place 0 c.places-test.true in
    let rows = (state_of (g.B.Board.nodes c.args.board.now) (g.B.Board.log c.args.board.now)).clauses in
    let w = c.places.self.engine in
    let v = c.bring.new.engine in
    let brought = c.in_ok-bring.ensures.brought (λ id d e. c.places.invariant.filling.sound id d e) in
    record {
      engine = c.in_ok-bring.ensures.engine;
      level = c.in_ok-bring.ensures.level;
      taken = c.places.invariant.taken;
      opening = c.in_ok-push-2.ensures.items ∙ ap (λ (ls : List ℕ). ls ++ pos ∷ []) c.places.invariant.opening ∙ sym (take_more ps c.places.place 0 c.places-test.true);
      came = λ id d e. ⊎_elim (λ old. c.places.invariant.came id d old) (λ p. inr (subst (Contains ps) (sym p) has)) (brought_kept w.watches v.watches rows w.agenda.list v.agenda.list pos brought id d e);
      filling = subst (λ (os : List ℕ). IsFilling v.watches rows v.agenda.list os c.push.new.self.items ps c.args.self.now.taken.items) (sym c.in_ok-push-2.ensures.items)
          (subst (λ (es : List ℕ). IsFilling v.watches rows v.agenda.list (c.places.self.opening.items ++ pos ∷ []) es ps c.args.self.now.taken.items)
          (sym (c.in_ok-push.ensures.items ∙ ap (λ n. c.places.self.ends.items ++ n ∷ []) c.listed-end.ensures))
          (filling_more w.watches v.watches rows w.agenda.list v.agenda.list c.places.self.opening.items c.places.self.ends.items ps c.args.self.now.taken.items pos has brought c.places.invariant.filling));
    }

pub returns-clause-opening : goal.returns-clause-opening
returns-clause-opening g c = c.places.invariant.opening ∙ take_all c.places.place c.args.positions.now c.places-test.false

pub bring-requires-clause-known : goal.bring-requires-clause-known
bring-requires-clause-known g c = c.requires.known (slice_index c.args.positions.now c.places.place) (Contains-get_or c.args.positions.now c.places.place 0 c.places-test.true)

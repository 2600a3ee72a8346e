use Rattle.std.proofs.Common.{ℕ, List, refl, sym, ap, ◌∙◌, subst}
use Rattle.std.specs.Prelude.{Contains, slice_index}
use Rattle.std.proofs.lemmas.List.{get_or_default, take_all}
use Rattle.cnf_base.proofs.Lists.{Contains-nil}
use Rattle.cdcl_core.specs.Search.{level_of}
use Rattle.cdcl_loop.specs.declared.engine.Engine.{Engine}
use Rattle.cube_search.proofs.Leaving.{parking_none, parking_then, parked_more}
use Rattle.cube_search.proofs.parking.park_others.Goals as goal

pub positions-init : goal.positions-init
positions-init c = record {
  same = refl;
  engine = c.requires.engine;
  level = c.requires.level;
  parking = parking_none c.args.engine.now.watches;
  needed = λ q k. refl;
  parked = λ gapless q k un. absurd (Contains-nil q.pos k);
}

pub positions-preserved : goal.positions-preserved
positions-preserved c =
    let ps = c.args.positions.now in
    let i = c.positions.pos-index in
    let p = slice_index ps i in
    let lt = c.positions-test.true in
    let is = get_or_default ps i 0 p lt in
    let first = c.args.engine.now.watches in
    let w = c.positions.engine.watches in
    let v = c.park_unneeded.new.engine.watches in
    record {
      same = c.park_unneeded.ensures.same ∙ ap (λ (e : Engine). record e { watches = v }) c.positions.invariant.same;
      engine = c.park_unneeded.ensures.engine;
      level = ap (λ (e : Engine). level_of e.trail) c.park_unneeded.ensures.same ∙ c.positions.invariant.level;
      parking = parking_then first w v c.positions.invariant.parking c.park_unneeded.ensures.parking;
      needed = λ q k. c.park_unneeded.ensures.needed q k ∙ c.positions.invariant.needed q k;
      parked = λ gapless. parked_more first w v c.args.needed.now ps i p lt is c.positions.invariant.parking c.park_unneeded.ensures.parking gapless c.in_ok-park_unneeded.ensures.parked (c.positions.invariant.parked gapless);
    }

pub returns-clause-parked : goal.returns-clause-parked
returns-clause-parked c = λ gapless q k un. c.positions.invariant.parked gapless q (subst (λ (xs : List ℕ). Contains xs q.pos) (sym (take_all c.positions.pos-index c.args.positions.now c.positions-test.false)) k) un

pub returns-in_err-park_unneeded-clause-parking : goal.returns-in_err-park_unneeded-clause-parking
returns-in_err-park_unneeded-clause-parking c = parking_then c.args.engine.now.watches c.positions.engine.watches c.park_unneeded.new.engine.watches c.positions.invariant.parking c.park_unneeded.ensures.parking

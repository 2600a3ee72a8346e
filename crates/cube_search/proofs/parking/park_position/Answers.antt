use Rattle.std.proofs.Common.{refl, sym, ap, ◌∙◌, arith}
use Rattle.cnf_base.specs.declared.clause.ClauseId.{ClauseId}
use Rattle.cdcl_core.specs.Search.{level_of}
use Rattle.cdcl_loop.specs.declared.engine.Engine.{Engine}
use Rattle.cube_search.proofs.Leaving.{parking_none, parking_then, parked_one, parked_part, parked_all}
use Rattle.cube_search.proofs.parking.park_position.Goals as goal

pub parts-init : goal.parts-init
parts-init c = record {
  same = refl;
  engine = c.requires.engine;
  level = c.requires.level;
  parking = parking_none c.args.engine.now.watches;
  others = λ q ne. refl;
  parked = λ q p lt. absurd (omega (arith, lt));
}

pub parts-preserved : goal.parts-preserved
parts-preserved c =
    let id : ClauseId = record { pos = c.args.pos; part = c.parts.part } in
    let w = c.parts.engine.watches in
    let v = c.park.new.self.watches in
    record {
      same = c.park.ensures.same ∙ ap (λ (e : Engine). record e { watches = v }) c.parts.invariant.same;
      engine = c.park.ensures.engine;
      level = ap (λ (e : Engine). level_of e.trail) c.park.ensures.same ∙ c.parts.invariant.level;
      parking = parking_then c.args.engine.now.watches w v c.parts.invariant.parking (parked_one w v id c.park.ensures.parked c.park.ensures.kept c.park.ensures.others);
      others = λ q ne. c.park.ensures.others q (λ e. ne (ap (λ (x : ClauseId). x.pos) e)) ∙ c.parts.invariant.others q ne;
      parked = parked_part w v id c.park.ensures.parked c.park.ensures.others c.parts.invariant.parked;
    }

pub returns-in_default-clause-parked : goal.returns-in_default-clause-parked
returns-in_default-clause-parked c = parked_all c.args.engine.now.watches c.parts.engine.watches c.args.pos c.parts.part c.parts.invariant.parking (sym c.in_default.ensures) c.parts.invariant.parked

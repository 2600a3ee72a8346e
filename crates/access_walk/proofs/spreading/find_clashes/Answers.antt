use Rattle.std.proofs.Common.{◌≡◌, [], true, false, length, sym, ap, ◌∙◌, subst, arith}
use Rattle.std.specs.Vec.{vec_len}
use Rattle.std.proofs.lemmas.Bool.{eq-eqb, eqb-true}
use Rattle.bit_blast.specs.Assigned.{assigned}
use Rattle.access_spread.specs.Spreads.{AreTold}
use Rattle.access_walk.specs.Networks.{landings_of}
use Rattle.access_walk.specs.Valuing.{landings_in}
use Rattle.access_walk.proofs.Tabled.{table_closed, lemmas_false, lemmas_few, lemmas_some}
use Rattle.access_walk.proofs.Telling.{no_lemmas, all_told}
use Rattle.access_walk.proofs.spreading.find_clashes.Goals as goal

pub returns-then-is_empty-clause-found : goal.returns-then-is_empty-clause-found
returns-then-is_empty-clause-found c =
    let values = c.fill.new.self in
    let state = c.spread_down_first.new.state in
    let none : vec_len state.refused ≡ 0 = eqb-true (vec_len state.refused) 0 (sym c.is_empty.ensures ∙ c.if-is_empty.true) in
    let held = c.deref-then-is_empty.result.now in
    let spread = c.deref-then-is_empty-2.result.now in
    let same : c.in_ok-rows.rows.items ≡ landings_of c.args.reached.now (landings_in values.entries.items) state.rows.items =
    c.in_ok-rows.ensures ∙ ap (λ xs. landings_of xs (landings_in held) spread) c.terms.ensures.terms ∙ ap (λ xs. landings_of c.args.reached.now (landings_in xs) spread) c.deref-then-is_empty.ensures.value ∙ ap (landings_of c.args.reached.now (landings_in values.entries.items)) c.deref-then-is_empty-2.ensures.value in
    table_closed c.args.terms.now.nodes c.args.bits.now c.args.reached.now c.args.network.now c.requires.network (assigned c.args.assignment.now) values.entries.items values.gates.items values.starts.items c.in_ok-fill.ensures
    state.rows.items state.refused.items c.in_ok-spread_down_first.ensures.spread c.in_ok-rows.rows.items (omega (arith, none)) same

pub returns-clause-found : goal.returns-clause-found
returns-clause-found c =
    let values = c.fill.new.self in
    let state = c.spread_down_first.new.state in
    let nodes = c.args.terms.now.nodes in
    let bits = c.args.bits.now in
    let f = assigned c.args.assignment.now in
    let some : length state.refused.items ≡ 0 → ⊥ = λ z.
    let w : vec_len state.refused ≡ 0 = omega (arith, z) in
    let t : true ≡ false = sym (eq-eqb (vec_len state.refused) 0 w) ∙ sym c.is_empty.ensures ∙ c.if-is_empty.false in
    let q : ⊥ = cc in q in
    record {
      some = lemmas_some nodes bits c.args.reached.now c.args.network.now c.requires.network f values.entries.items values.gates.items values.starts.items c.in_ok-fill.ensures state.rows.items state.refused.items c.in_ok-spread_down_first.ensures.spread c.in_ok-falses.falses.items some c.in_ok-falses.ensures;
      falses = lemmas_false nodes bits c.args.reached.now c.args.network.now c.requires.network f values.entries.items values.gates.items values.starts.items c.in_ok-fill.ensures state.rows.items state.refused.items c.in_ok-spread_down_first.ensures.spread c.in_ok-falses.falses.items c.in_ok-falses.ensures;
      few = lemmas_few nodes bits c.args.reached.now c.args.network.now c.requires.network f values.entries.items values.gates.items values.starts.items c.in_ok-fill.ensures state.rows.items state.refused.items c.in_ok-spread_down_first.ensures.spread c.in_ok-falses.falses.items c.in_ok-falses.ensures;
      siblings = c.in_ok-siblings.ensures;
    }

pub returns-then-is_empty-clause-told : goal.returns-then-is_empty-clause-told
returns-then-is_empty-clause-told c =
    let values = c.fill.new.self in
    let state = c.spread_down_first.new.state in
    let none : vec_len state.refused ≡ 0 = eqb-true (vec_len state.refused) 0 (sym c.is_empty.ensures ∙ c.if-is_empty.true) in
    let zero : length state.refused.items ≡ 0 = omega (arith, none) in
    all_told c.args.terms.now.nodes c.args.bits.now c.args.reached.now c.args.network.now c.requires.network (assigned c.args.assignment.now) values.entries.items values.gates.items values.starts.items c.in_ok-fill.ensures
    state.rows.items state.refused.items c.in_ok-spread_down_first.ensures.spread c.fill-2.new.self.under.items c.fill-2.new.self.lanes.items c.in_ok-fill-2.ensures (subst (λ ls. AreTold c.args.network.now.graph values.gates.items ls values.starts.items state.rows.items state.refused.items) c.deref-2.ensures.value c.in_ok-spread_down_first.ensures.told) [] (no_lemmas c.args.network.now values.entries.items values.gates.items values.starts.items state.rows.items state.refused.items zero)

pub returns-clause-told : goal.returns-clause-told
returns-clause-told c =
    let values = c.fill.new.self in
    let state = c.spread_down_first.new.state in
    all_told c.args.terms.now.nodes c.args.bits.now c.args.reached.now c.args.network.now c.requires.network (assigned c.args.assignment.now) values.entries.items values.gates.items values.starts.items c.in_ok-fill.ensures
    state.rows.items state.refused.items c.in_ok-spread_down_first.ensures.spread c.fill-2.new.self.under.items c.fill-2.new.self.lanes.items c.in_ok-fill-2.ensures (subst (λ ls. AreTold c.args.network.now.graph values.gates.items ls values.starts.items state.rows.items state.refused.items) c.deref-2.ensures.value c.in_ok-spread_down_first.ensures.told) c.in_ok-falses.falses.items c.in_ok-falses.ensures

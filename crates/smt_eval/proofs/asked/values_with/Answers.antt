use Rattle.std.proofs.Common.{◌∙◌, get_or, arith}
use Rattle.smt_values.specs.Held.{interpretation_of}
use Rattle.smt_eval.proofs.Stores.{read_is}
use Rattle.smt_eval.proofs.Placing.{found_at, asked_more}
use Rattle.smt_eval.proofs.asked.values_with.Goals as goal

pub index-requires : goal.index-requires
index-requires c =
    let t = get_or c.args.asked.now c.loop-term.term-index 0 in
    let at = found_at c.reach_by_arguments.new.reached c.place_of.result t c.unwrap-place.result c.place_of.ensures.place c.unwrap-place.ensures in
    let here = c.in_ok-computed.ensures c.unwrap-place.result t at in
    omega (arith, here.within, c.in_ok-computed.computed.ok)

pub loop-term-preserved : goal.loop-term-preserved
loop-term-preserved c =
    let t = get_or c.args.asked.now c.loop-term.term-index 0 in
    let at = found_at c.reach_by_arguments.new.reached c.place_of.result t c.unwrap-place.result c.place_of.ensures.place c.unwrap-place.ensures in
    let here = c.in_ok-computed.ensures c.unwrap-place.result t at in
    asked_more (interpretation_of c.args.interp.now) c.args.terms.now.nodes c.args.asked.now c.in_ok-computed.computed.items c.loop-term.values.items c.push.new.self.items c.loop-term.term-index c.unwrap-place.result c.in_ok-copy.field-0
    c.in_ok-reach_by_arguments.ensures.terms.list c.requires.held c.loop-term.invariant c.loop-term-test.true here (c.in_ok-copy.ensures ∙ read_is c.in_ok-computed.computed.items c.unwrap-place.result c.index.result.now here.within c.index.ensures) c.in_ok-push.ensures.items

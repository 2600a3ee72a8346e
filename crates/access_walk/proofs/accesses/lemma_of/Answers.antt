use Rattle.std.proofs.Common.{◌<◌, length, sym, ◌∙◌, subst}
use Rattle.std.proofs.lemmas.Option.{slice_get_within}
use Rattle.access_spread.specs.Spreads.{AreDerived, AreStartsOf}
use Rattle.access_spread.proofs.Arriving.{refused_clash}
use Rattle.access_walk.proofs.accesses.lemma_of.Goals as goal

pub access_of-requires-clause-derived : goal.access_of-requires-clause-derived
access_of-requires-clause-derived c =
    let g = c.args.network.now.graph in
    let gates = c.args.values.now.gates.items in
    let starts = c.args.values.now.starts.items in
    let clash = refused_clash g gates starts c.args.rows.now.items c.args.refusal c.requires.derived c.requires.started c.requires.refused in
    subst (AreDerived g gates starts) (sym (c.deref.ensures.value ∙ c.in_ok-push.ensures.items)) clash.derived

pub access_of-requires-clause-started : goal.access_of-requires-clause-started
access_of-requires-clause-started c =
    let g = c.args.network.now.graph in
    let gates = c.args.values.now.gates.items in
    let starts = c.args.values.now.starts.items in
    let clash = refused_clash g gates starts c.args.rows.now.items c.args.refusal c.requires.derived c.requires.started c.requires.refused in
    subst (AreStartsOf starts) (sym (c.deref.ensures.value ∙ c.in_ok-push.ensures.items)) clash.started

pub access_of-requires-clause-place : goal.access_of-requires-clause-place
access_of-requires-clause-place c =
    let g = c.args.network.now.graph in
    let gates = c.args.values.now.gates.items in
    let starts = c.args.values.now.starts.items in
    let clash = refused_clash g gates starts c.args.rows.now.items c.args.refusal c.requires.derived c.requires.started c.requires.refused in
    let lt = slice_get_within _ c.args.refusal.standing clash.left clash.at_left in
    subst (λ xs. c.args.refusal.standing < length xs) (sym (c.deref.ensures.value ∙ c.in_ok-push.ensures.items)) lt

pub access_of-requires-2-clause-derived : goal.access_of-requires-2-clause-derived
access_of-requires-2-clause-derived c =
    let g = c.args.network.now.graph in
    let gates = c.args.values.now.gates.items in
    let starts = c.args.values.now.starts.items in
    let clash = refused_clash g gates starts c.args.rows.now.items c.args.refusal c.requires.derived c.requires.started c.requires.refused in
    subst (AreDerived g gates starts) (sym (c.deref-2.ensures.value ∙ c.in_ok-push.ensures.items)) clash.derived

pub access_of-requires-2-clause-started : goal.access_of-requires-2-clause-started
access_of-requires-2-clause-started c =
    let g = c.args.network.now.graph in
    let gates = c.args.values.now.gates.items in
    let starts = c.args.values.now.starts.items in
    let clash = refused_clash g gates starts c.args.rows.now.items c.args.refusal c.requires.derived c.requires.started c.requires.refused in
    subst (AreStartsOf starts) (sym (c.deref-2.ensures.value ∙ c.in_ok-push.ensures.items)) clash.started

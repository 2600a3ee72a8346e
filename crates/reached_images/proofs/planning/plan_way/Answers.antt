use Rattle.std.proofs.Common.{get_or, ◌++◌, sym, subst, inr}
use Rattle.smt_terms.specs.Nodes.{node_at}
use Rattle.bv_rewrite.specs.Simplifying.{IsWay}
use Rattle.reached_images.specs.Plans.{known_image, AreInnerFirst, HasKnownArguments, IsPlan}
use Rattle.reached_images.specs.Settled.{way_steps, with_end}
use Rattle.reached_images.proofs.Knowing.{known_later}
use Rattle.reached_images.proofs.planning.plan_way.Goals as goal

pub returns-clause-whole : goal.returns-clause-whole
returns-clause-whole c e args old =
    let nodes = c.args.terms.now.nodes in
    let mid = c.in_ok-plan_end.ensures.planned in
    let way = subst (λ l. IsWay nodes (known_image c.args.bits.now c.args.plan.now) c.args.term l c.args.simplified.now.term) (sym c.as_slice.ensures.value) c.requires.way in
    let first = subst AreInnerFirst (sym c.as_slice.ensures.value) c.requires.inner in
    let later : HasKnownArguments nodes c.args.bits.now c.plan_end.new.plan c.args.term = λ k d lt. known_later c.args.bits.now c.args.plan.now c.plan_end.new.plan (get_or (node_at nodes c.args.term).args k d) mid.1 (args k d lt) in
    c.in_ok-all.ensures.whole e nodes c.args.plan.now c.args.simplified.now.term mid.0 mid.1 way (c.in_ok-plan_end.ensures.known c.if-not-branch.false) first later (c.in_ok-plan_end.ensures.whole old)

pub returns-clause-own : goal.returns-clause-own
returns-clause-own c old = c.in_ok-all.ensures.own c.args.terms.now (c.in_ok-plan_end.ensures.own old)

pub returns-clause-tangled : goal.returns-clause-tangled
returns-clause-tangled c e =
    let nodes = c.args.terms.now.nodes in
    let bits = c.args.bits.now in
    inr (λ all.
    c.in_ok-all.ensures.blocked e nodes
    (subst (λ l. IsPlan nodes bits (l ++ way_steps c.args.term c.as_slice.result.now)) (sym (c.in_ok-plan_end.ensures.steps c.if-not-branch.false))
    (subst (λ us. IsPlan nodes bits (with_end nodes bits c.args.plan.now c.args.simplified.now.term ++ way_steps c.args.term us)) (sym c.as_slice.ensures.value) all)))

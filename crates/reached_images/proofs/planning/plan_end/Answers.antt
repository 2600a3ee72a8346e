use Rattle.std.proofs.Common.{◌≡◌, Bool, true, false, sym, ap, ◌∙◌, subst}
use Rattle.std.specs.Prelude.{All}
use Rattle.smt_terms.specs.declared.node.Node.{Node}
use Rattle.smt_terms.specs.Nodes.{node_at}
use Rattle.bv_rules.proofs.Known.{never}
use Rattle.reached_images.specs.Plans.{is_known, IsKnown}
use Rattle.reached_images.specs.Settled.{IsSupported}
use Rattle.reached_images.proofs.Owning.{args_next, end_is, end_known, end_next, own_next}
use Rattle.reached_images.proofs.planning.plan_end.Goals as goal

pub returns-then-not-are_supported-clause-unsupported : goal.returns-then-not-are_supported-clause-unsupported
returns-then-not-are_supported-clause-unsupported c e all =
    let same : c.as_slice-args.result.now ≡ (node_at c.args.terms.now.nodes c.args.term).args = c.as_slice-args.ensures ∙ ap (λ (n : Node). n.args) c.node.ensures.node in
    c.if-not-are_supported.ensures (subst (All (IsSupported c.args.terms.now.nodes c.args.bits.now c.args.plan.now)) (sym same) all)

pub arguments-preserved : goal.arguments-preserved
arguments-preserved c =
    let same : c.as_slice-args.result.now ≡ (node_at c.args.terms.now.nodes c.args.term).args = c.as_slice-args.ensures ∙ ap (λ (n : Node). n.args) c.node.ensures.node in (
      args_next c.args.terms.now c.args.bits.now c.args.plan.now c.arguments.plan c.add.new.self c.args.term c.as_slice-args.result.now c.arguments.argument-index _ c.node.ensures.terms.list same c.if-not-are_supported.ensures c.arguments.invariant.0 c.arguments-test.true c.in_ok-add.ensures.ok,
      own_next c.args.bits.now c.args.plan.now c.arguments.plan c.add.new.self c.as_slice-args.result.now c.arguments.argument-index _ c.arguments-test.true c.arguments.invariant.1 c.in_ok-add.ensures.ok,
    )

pub returns-clause-planned : goal.returns-clause-planned
returns-clause-planned c =
    let same : c.as_slice-args.result.now ≡ (node_at c.args.terms.now.nodes c.args.term).args = c.as_slice-args.ensures ∙ ap (λ (n : Node). n.args) c.node.ensures.node in
    let new : IsKnown c.args.bits.now c.args.plan.now c.args.term → ⊥ = λ k. never (sym c.if-has.false ∙ c.has.ensures ∙ (λ i. is_known (c.new.ensures.bits i) (c.new.ensures.plan i) c.args.term) ∙ k) in
    let r = end_next c.args.terms.now c.args.bits.now c.args.plan.now c.arguments.plan c.add-2.new.self c.args.term c.as_slice-args.result.now c.arguments.argument-index c.requires.held same (c.requires.settled new) c.arguments.invariant.0 c.arguments-test.false c.in_ok-add-2.ensures.ok in
    (r.0.plan, r.0.later)

pub returns-clause-known : goal.returns-clause-known
returns-clause-known c e =
    let same : c.as_slice-args.result.now ≡ (node_at c.args.terms.now.nodes c.args.term).args = c.as_slice-args.ensures ∙ ap (λ (n : Node). n.args) c.node.ensures.node in
    let new : IsKnown c.args.bits.now c.args.plan.now c.args.term → ⊥ = λ k. never (sym c.if-has.false ∙ c.has.ensures ∙ (λ i. is_known (c.new.ensures.bits i) (c.new.ensures.plan i) c.args.term) ∙ k) in
    let r = end_next c.args.terms.now c.args.bits.now c.args.plan.now c.arguments.plan c.add-2.new.self c.args.term c.as_slice-args.result.now c.arguments.argument-index c.requires.held same (c.requires.settled new) c.arguments.invariant.0 c.arguments-test.false c.in_ok-add-2.ensures.ok in
    r.1

pub returns-clause-whole : goal.returns-clause-whole
returns-clause-whole c =
    let same : c.as_slice-args.result.now ≡ (node_at c.args.terms.now.nodes c.args.term).args = c.as_slice-args.ensures ∙ ap (λ (n : Node). n.args) c.node.ensures.node in
    let new : IsKnown c.args.bits.now c.args.plan.now c.args.term → ⊥ = λ k. never (sym c.if-has.false ∙ c.has.ensures ∙ (λ i. is_known (c.new.ensures.bits i) (c.new.ensures.plan i) c.args.term) ∙ k) in
    let r = end_next c.args.terms.now c.args.bits.now c.args.plan.now c.arguments.plan c.add-2.new.self c.args.term c.as_slice-args.result.now c.arguments.argument-index c.requires.held same (c.requires.settled new) c.arguments.invariant.0 c.arguments-test.false c.in_ok-add-2.ensures.ok in
    r.0.whole

pub returns-clause-own : goal.returns-clause-own
returns-clause-own c =
    let same : c.as_slice-args.result.now ≡ (node_at c.args.terms.now.nodes c.args.term).args = c.as_slice-args.ensures ∙ ap (λ (n : Node). n.args) c.node.ensures.node in
    let new : IsKnown c.args.bits.now c.args.plan.now c.args.term → ⊥ = λ k. never (sym c.if-has.false ∙ c.has.ensures ∙ (λ i. is_known (c.new.ensures.bits i) (c.new.ensures.plan i) c.args.term) ∙ k) in
    let r = end_next c.args.terms.now c.args.bits.now c.args.plan.now c.arguments.plan c.add-2.new.self c.args.term c.as_slice-args.result.now c.arguments.argument-index c.requires.held same (c.requires.settled new) c.arguments.invariant.0 c.arguments-test.false c.in_ok-add-2.ensures.ok in
    r.0.own

pub returns-then-has-clause-steps : goal.returns-then-has-clause-steps
returns-then-has-clause-steps c e =
    end_known c.args.terms.now.nodes c.args.bits.now c.args.plan.now c.args.term
    (sym ((λ i. is_known (c.new.ensures.bits i) (c.new.ensures.plan i) c.args.term)) ∙ sym c.has.ensures ∙ c.if-has.true)

pub returns-clause-steps : goal.returns-clause-steps
returns-clause-steps c e =
    let same : c.as_slice-args.result.now ≡ (node_at c.args.terms.now.nodes c.args.term).args = c.as_slice-args.ensures ∙ ap (λ (n : Node). n.args) c.node.ensures.node in
    let none : is_known c.args.bits.now c.args.plan.now c.args.term ≡ false = sym ((λ i. is_known (c.new.ensures.bits i) (c.new.ensures.plan i) c.args.term)) ∙ sym c.has.ensures ∙ c.if-has.false in
    end_is c.args.terms.now.nodes c.args.bits.now c.args.plan.now c.arguments.plan c.add-2.new.self c.args.term c.arguments.argument-index c.as_slice-args.result.now same none c.arguments-test.false c.arguments.invariant.1 c.in_ok-add-2.ensures.ok

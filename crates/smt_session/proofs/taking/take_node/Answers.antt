use Rattle.std.proofs.Common.{◌≡◌, sym, ◌∙◌, subst}
use Rattle.smt_build.specs.Names.{IsDeclared}
use Rattle.smt_build.proofs.Growth.{agrees}
use Rattle.script_state.specs.States.{StateValue, with_terms}
use Rattle.proof_log.specs.Stored.{Stands}
use Rattle.smt_session.proofs.PlanSteps.{node_adds, node_fits}
use Rattle.smt_session.proofs.taking.take_node.Goals as goal

pub push_node-requires-clause-agrees : goal.push_node-requires-clause-agrees
push_node-requires-clause-agrees c =
    let parts = c.into_parts-terms in
    let before : c.args.state.now ≡ with_terms parts.result.1 parts.result.0 = sym c.replace.ensures.value ∙ parts.ensures.state in
    let of = subst (λ (s : StateValue). IsDeclared s.symbols.signatures c.args.node.op) before (c.is_of_script.ensures c.if-not-is_of_script.false) in
    agrees parts.result.1.symbols.signatures parts.result.0 c.args.node.op parts.ensures.fit.state.declared of

pub from_parts-requires : goal.from_parts-requires
from_parts-requires c =
    let parts = c.into_parts-terms in
    let before : c.args.state.now ≡ with_terms parts.result.1 parts.result.0 = sym c.replace.ensures.value ∙ parts.ensures.state in
    let of = subst (λ (s : StateValue). IsDeclared s.symbols.signatures c.args.node.op) before (c.is_of_script.ensures c.if-not-is_of_script.false) in
    node_fits parts.result.0 c.push_node.new.terms parts.result.1 c.args.log.now c.push_node.new.log c.args.node c.in-Ok.ensures.0 parts.ensures.fit of c.in-Ok.ensures.1

pub returns-clause-adds : goal.returns-clause-adds
returns-clause-adds c =
    let parts = c.into_parts-terms in
    let before : c.args.state.now ≡ with_terms parts.result.1 parts.result.0 = sym c.replace.ensures.value ∙ parts.ensures.state in
    let of = subst (λ (s : StateValue). IsDeclared s.symbols.signatures c.args.node.op) before (c.is_of_script.ensures c.if-not-is_of_script.false) in
    node_adds c.args.state.now c.from_parts.result parts.result.0 c.push_node.new.terms parts.result.1 c.args.log.now c.push_node.new.log c.args.node c.in-Ok.ensures.0
    before c.from_parts.ensures of (subst (λ (s : StateValue). Stands s.terms.nodes c.args.log.now) before c.requires.session.stands) c.in-Ok.ensures.1

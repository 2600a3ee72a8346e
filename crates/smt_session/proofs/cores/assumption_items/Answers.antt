use Rattle.std.proofs.Common.{◌≡◌, ◌<◌, List, length, get_or, sym, ap, ◌∙◌, subst}
use Rattle.script_state.specs.declared.answer.Asked.{Asked}
use Rattle.script_state.specs.States.{assumptions}
use Rattle.proof_log.specs.Logs.{state_of}
use Rattle.accepted_proof.specs.Cores.{is_blamed_assumption}
use Rattle.smt_session.specs.Blaming.{AreCodes}
use Rattle.cnf_base.specs.Literals.{Literal}
use Rattle.smt_session.proofs.Coring.{texts_more, texts_same}
use Rattle.smt_session.proofs.cores.assumption_items.Goals as goal
use Rattle.smt_session.proofs.cores.assumption_items.Goals.{then-is_blamed_assumption+in_ok-item+in_ok-push, else-is_blamed_assumption}

pub assumed-preserved : goal.assumed-preserved
assumed-preserved c =
    let s = c.args.state.now in
    let log = state_of c.args.state.now.terms.nodes c.args.log.now.entries in
    let codes = subst (λ (ls : List Literal). AreCodes c.in_ok-codes.codes ls) c.literals.ensures c.in_ok-codes.ensures in
    let told = c.is_blamed_assumption.ensures s.terms.nodes c.args.clause.now c.requires codes in
    let lt : c.assumed.assumption-index < length (assumptions c.args.state.now) = subst (λ (ls : List Asked). c.assumed.assumption-index < length ls) c.assumptions-assumption-items.ensures.assumptions c.assumed-test.true in
    let at : c.assumption-item.result ≡ get_or (assumptions c.args.state.now) c.assumed.assumption-index c.assumption-item.result = subst (λ (ls : List Asked). c.assumption-item.result ≡ get_or ls c.assumed.assumption-index c.assumption-item.result) c.assumptions-assumption-items.ensures.assumptions c.assumption-item.is in
    elim c.if-is_blamed_assumption.branch [
      | then-is_blamed_assumption+in_ok-item+in_ok-push w ↦ texts_more (is_blamed_assumption log c.args.clause.now) (assumptions s) c.assumed.items.items c.if-is_blamed_assumption.items.items c.assumed.assumption-index c.assumption-item.result w.in_ok-item.item lt at (sym told ∙ w.if-is_blamed_assumption.true) (w.in_ok-item.ensures ∙ w.as_slice.ensures) c.assumed.invariant (ap (λ v. v.items) w.items-is ∙ w.in_ok-push.ensures.items)
      | else-is_blamed_assumption w ↦ ap (λ v. v.items) w.items-is ∙ texts_same (is_blamed_assumption log c.args.clause.now) (assumptions s) c.assumed.items.items c.assumed.assumption-index c.assumption-item.result lt at (sym told ∙ w.if-is_blamed_assumption.false) c.assumed.invariant
    ]

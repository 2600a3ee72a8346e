use Rattle.std.proofs.Common.{◌≡◌, ◌<◌, List, length, get_or, sym, ap, ◌∙◌, subst}
use Rattle.scope_selectors.specs.declared.live.Live.{Live}
use Rattle.proof_log.specs.Logs.{state_of}
use Rattle.accepted_proof.specs.Cores.{is_blamed}
use Rattle.smt_session.specs.Blaming.{AreCodes}
use Rattle.cnf_base.specs.Literals.{Literal}
use Rattle.smt_session.proofs.Coring.{names_more, names_same}
use Rattle.smt_session.proofs.cores.core_items.Goals as goal
use Rattle.smt_session.proofs.cores.core_items.Goals.{then-is_blamed+in_ok-push_name, else-is_blamed}

pub live-preserved : goal.live-preserved
live-preserved c =
    let s = c.args.state.now in
    let log = state_of c.args.state.now.terms.nodes c.args.log.now.entries in
    let codes = subst (λ (ls : List Literal). AreCodes c.in_ok-codes.codes ls) c.literals.ensures c.in_ok-codes.ensures in
    let told = c.is_blamed.ensures s.terms.nodes c.args.clause.now c.requires codes in
    let lt : c.live.assertion-index < length c.args.state.now.scopes.live = subst (λ (ls : List Live). c.live.assertion-index < length ls) c.live-assertion-items.ensures.live c.live-test.true in
    let at : c.assertion-item.result ≡ get_or c.args.state.now.scopes.live c.live.assertion-index c.assertion-item.result = subst (λ (ls : List Live). c.assertion-item.result ≡ get_or ls c.live.assertion-index c.assertion-item.result) c.live-assertion-items.ensures.live c.assertion-item.is in
    elim c.if-is_blamed.branch [
      | then-is_blamed+in_ok-push_name w ↦ names_more (is_blamed log c.args.clause.now) s.scopes.live c.live.items.items c.if-is_blamed.items.items c.live.assertion-index c.assertion-item.result lt at (sym told ∙ w.if-is_blamed.true) c.live.invariant (ap (λ v. v.items) w.items-is ∙ w.in_ok-push_name.ensures)
      | else-is_blamed w ↦ ap (λ v. v.items) w.items-is ∙ names_same (is_blamed log c.args.clause.now) s.scopes.live c.live.items.items c.live.assertion-index c.assertion-item.result lt at (sym told ∙ w.if-is_blamed.false) c.live.invariant
    ]

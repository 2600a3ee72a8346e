-- What is kept from check to check stays so where searches add steps.
use Rattle.std.proofs.Common.{◌≡◌, List, [], ◌++◌, sym, subst, append-nil}
use Rattle.smt_terms.specs.declared.node.Node.{Node}
use Rattle.smt_terms.specs.Terms.{TermsValue}
use Rattle.script_state.specs.States.{StateValue}
use Rattle.proof_log.specs.LemmaBoards.{Adds}
use Rattle.proof_log.specs.Stored.{Stands}
use Rattle.proof_log.proofs.Standing.{stands_over}
use Rattle.cube_workers.specs.Crews.{AreAtRest}
use Rattle.opening_positions.specs.Reading.{IsRead}
use Rattle.opening_positions.proofs.Kept.{more_keep_read}
use Rattle.smt_session.specs.declared.workspace.Workspace.{Workspace}
use Rattle.smt_session.specs.Growing.{Grows}
use Rattle.smt_session.specs.Parts.{IsKept}
use Rattle.smt_session.proofs.Adding.{grows_by_adds}
use Rattle.smt_session.proofs.Ordered.{order_grows}
use Rattle.smt_session.proofs.Staying.{grown_steps}

kept_added : (s : StateValue) (old new : Workspace) → IsKept s old → Adds old.log.entries new.log.entries → Stands s.terms.nodes new.log → new.steps ≡ old.steps → AreAtRest new.log new.searches.items → IsKept s new
kept_added s old new h adds stands same resting =
    let session = h.session in
    let nodes = s.terms.nodes in
    let grows : Grows s old.log new.log = grows_by_adds s old.log new.log adds stands in
    let more = more_keep_read nodes [] old.log.entries adds.more old.steps session.state.terms (stands_over nodes old.log session.stands).steps h.read in
    record {
      session = record { state = session.state; stands = stands; each = grown_steps s old.log new.log session.each grows };
      order = order_grows s old.log new.log session.stands grows h.order;
      read =
          subst (IsRead nodes new.log.entries) (sym same)
          (subst (λ es. IsRead nodes es old.steps) (sym adds.is)
          (subst (λ (ns : List Node). IsRead ns (old.log.entries ++ adds.more) old.steps) (append-nil nodes) more));
      resting = resting;
    }

-- the same over the terms that a check looked up
pub kept_over : (s : StateValue) (terms : TermsValue) (old new : Workspace) → terms ≡ s.terms → IsKept s old → Adds old.log.entries new.log.entries → Stands terms.nodes new.log → new.steps ≡ old.steps → AreAtRest new.log new.searches.items → IsKept s new
kept_over s terms old new own h adds stands same resting = kept_added s old new h adds (subst (λ (t : TermsValue). Stands t.nodes new.log) own stands) same resting

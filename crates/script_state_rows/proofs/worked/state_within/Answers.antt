use Rattle.std.proofs.Common.{◌≡◌, ◌∙◌, ap, sym, subst}
use Rattle.smt_terms.specs.Terms.{TermsValue, no_terms}
use Rattle.script_state.specs.Plain.{HavePlain}
use Rattle.script_state.specs.States.{StateValue, IsState, no_state, with_terms}
use Rattle.script_state.proofs.Leveling.{first_state_within}
use Rattle.script_state_rows.proofs.worked.state_within.Goals as goal

-- the rest is that of a state in which nothing is declared and nothing asserted
pub from_parts-requires : goal.from_parts-requires
from_parts-requires c =
    let whole : no_state ≡ with_terms c.into_parts-rest.result.1 c.into_parts-rest.result.0 = sym c.new.ensures ∙ c.into_parts-rest.ensures.state in
    let within : StateValue → StateValue = λ s. record { symbols = s.symbols; terms = no_terms c.args.limit; scopes = s.scopes; options = s.options; standing = s.standing; assumed = s.assumed } in
    rw c.with_limit.ensures (record {
      state = subst IsState (ap within whole) (first_state_within c.args.limit);
      marks = subst (λ (v : TermsValue). HavePlain v.nodes c.into_parts-rest.result.1.marks) (sym (ap (λ (s : StateValue). s.terms) whole)) c.into_parts-rest.ensures.fit.marks;
    })

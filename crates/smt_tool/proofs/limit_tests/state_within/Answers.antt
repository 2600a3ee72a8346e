use Rattle.std.proofs.Common.{sym, ◌∙◌, subst}
use Rattle.smt_terms.specs.Terms.{TermsValue}
use Rattle.script_state.specs.States.{Fit}
use Rattle.smt_tool.proofs.Limits.{fits_within}
use Rattle.smt_tool.proofs.limit_tests.state_within.Goals as goal

pub from_parts-requires : goal.from_parts-requires
from_parts-requires c =
    let parts = c.into_parts-rest in
    subst (λ (t : TermsValue). Fit t parts.result.1) (sym c.with_limit.ensures) (fits_within c.args.limit parts.result.0 parts.result.1 (sym parts.ensures.state ∙ c.new.ensures) parts.ensures.fit)

use Rattle.std.proofs.Common.{◌∙◌}
use Rattle.cnf_base.specs.Literals.{code_of}
use Rattle.scope_selectors.proofs.Blaming.{same_blame, same_core}
use Rattle.scope_selectors.proofs.scopes.Scopes.core_of.Goals as goal

pub returns : goal.returns
returns c =
    rw (c.in_ok-core.ensures, c.deref.ensures.value, ← c.self.view_is)
    (same_core _ _ (λ a. c.in_ok-assertions.ensures a ∙ same_blame _ _ (λ l. c.in_ok-codes.ensures (code_of l)) _ a) c.self.inside.live.items)

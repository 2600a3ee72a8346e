use Rattle.std.proofs.Common.{List, ℕ, [], ◌∷◌, ◌++◌, ap, ◌∙◌}
use Rattle.proof_conversion.specs.Filing.{no_lists}
use Rattle.proof_conversion.proofs.Filed.{none_push}
use Rattle.proof_conversion.proofs.deleting.no_lists.Goals as goal

pub loop-k-preserved : goal.loop-k-preserved
loop-k-preserved c =
    c.in_ok-push.ensures.items ∙ ap (λ (x : List (List ℕ)). x ++ c.none.result ∷ []) c.loop-k.invariant
    ∙ ap (λ (x : List ℕ). no_lists c.loop-k.k ++ x ∷ []) c.none.ensures ∙ none_push c.loop-k.k

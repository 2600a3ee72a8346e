use Rattle.std.proofs.Common.{sym, ◌∙◌, refl}
use Rattle.std.proofs.lemmas.Result.{err_from_is_err_and}
use Rattle.smt_build.proofs.Definings.{head_unread, head_read}
use Rattle.smt_build.proofs.define.define_function.Goals as goal

pub returns-in_err-value-clause-defines : goal.returns-in_err-value-clause-defines
returns-in_err-value-clause-defines c = λ n p s t a b d h.
    let q = err_from_is_err_and c.from_residual.result c.from_residual.ensures.1 in
    rw (q.1, q.2) (head_unread _ _ _ _ c.in-len1.len_at_least c.in-len1.len_below n _ t a (sym c.is_reserved.ensures ∙ c.if-is_reserved.false) (sym c.is_taken.ensures ∙ c.if-is_taken.false) _ _ _ _ (c.in_err-value.ensures p s b d) refl refl)

pub returns-clause-defines : goal.returns-clause-defines
returns-clause-defines c = λ n p s t a b d h.
    head_read _ _ _ _ c.in-len1.len_at_least c.in-len1.len_below n _ t a (sym c.is_reserved.ensures ∙ c.if-is_reserved.false) (sym c.is_taken.ensures ∙ c.if-is_taken.false) _ _ (c.in_ok-value.ensures p s b d) _ _ (c.define_name.ensures.defines t h)

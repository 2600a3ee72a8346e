use Rattle.std.proofs.Common.{sym, ◌∙◌, refl}
use Rattle.smt_build.proofs.Declarations.{declared_name, no_signature, not_declared}
use Rattle.smt_build.proofs.declare.declare_name.Goals as goal

pub returns-then-is_taken : goal.returns-then-is_taken
returns-then-is_taken c = λ n e.
    (declared_name _ _ _ c.in-len1.len_at_least c.in-len1.len_below n _ e (sym c.is_reserved.ensures ∙ c.if-is_reserved.false) (sym c.is_taken.ensures ∙ c.if-is_taken.true), refl)

pub returns-in-Err : goal.returns-in-Err
returns-in-Err c = λ n e.
    (no_signature _ _ _ c.in-len1.len_at_least c.in-len1.len_below n _ e (sym c.is_reserved.ensures ∙ c.if-is_reserved.false) (sym c.is_taken.ensures ∙ c.if-is_taken.false) c.in-Err.fault c.in-Err.is, refl)

pub add-requires : goal.add-requires
add-requires c = not_declared _ _ (sym c.is_taken.ensures ∙ c.if-is_taken.false)

use Rattle.std.proofs.Common.{refl}
use Rattle.smt_build.proofs.Growth.{grows_none}
use Rattle.smt_build.proofs.Spellings.{at_span}
use Rattle.smt_build.proofs.Definings.{defines_function, no_definition}
use Rattle.smt_build.proofs.symbols.Symbols.define.Goals as goal

pub returns-in-DefineFun-clause-defines : goal.returns-in-DefineFun-clause-defines
returns-in-DefineFun-clause-defines c = rw c.in-DefineFun.is (λ es h.
    defines_function _ _ _ _ _ es h _ _ _
    (λ n p s t a b d e. c.define_function.ensures.defines n p s t (at_span _ _ _ _ n c.as_slice-items.ensures c.tokens_at.ensures a) (at_span _ _ _ _ p c.as_slice-items.ensures c.tokens_at-in-DefineFun.ensures b) (at_span _ _ _ _ s c.as_slice-items.ensures c.tokens_at-in-DefineFun-2.ensures d) e))

pub returns-in_default-clause-defines : goal.returns-in_default-clause-defines
returns-in_default-clause-defines c = λ es h. (no_definition _ _ _ c.args.command.now c.in_default.not-DefineFun es h, refl, refl)

pub returns-in_default-clause-grows : goal.returns-in_default-clause-grows
returns-in_default-clause-grows c = grows_none _ _

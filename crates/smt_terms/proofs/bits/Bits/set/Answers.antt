use Rattle.std.proofs.Common.{◌≡◌, length, arith, refl}
use Rattle.std.proofs.lemmas.Result.{err_from_is_err_and}
use Rattle.smt_terms.proofs.Spans.{no_span, shown_set, within_set, shown_kept, within_kept}
use Rattle.smt_terms.proofs.bits.Bits.set.Goals as goal

pub enter-requires-clause-new : goal.enter-requires-clause-new
enter-requires-clause-new c = no_span _ _ _ _ c.self.view_is c.requires.new

pub invariant_of-self-in_err-enter : goal.invariant_of-self-in_err-enter
invariant_of-self-in_err-enter c = (c.enter.ensures.table, within_kept _ _ _ _ _ c.self.invariant.1 c.in_ok-extend_from_slice.ensures.items c.in_err-enter.ensures.err)

pub returns-in_err-enter-clause-err : goal.returns-in_err-enter-clause-err
returns-in_err-enter-clause-err c =
    let p = err_from_is_err_and c.from_residual-in_err-enter.result c.from_residual-in_err-enter.ensures.1 in
    rw p.1 (shown_kept _ _ _ _ _ _ c.self.view_is c.self.invariant.1 c.in_ok-extend_from_slice.ensures.items c.in_err-enter.ensures.err)

pub invariant_of-self-2 : goal.invariant_of-self-2
invariant_of-self-2 c =
    let start : c.len-start.result ≡ length c.self.inside.literals.items = omega arith in
    (c.enter.ensures.table, within_set _ _ _ _ _ _ c.self.invariant.1 start refl c.in_ok-extend_from_slice.ensures.items c.in_ok-enter.ensures.ok)

pub returns-clause-ok : goal.returns-clause-ok
returns-clause-ok c =
    let start : c.len-start.result ≡ length c.self.inside.literals.items = omega arith in
    shown_set _ _ c.args.bits.now _ _ c.args.term _ _ c.self.view_is c.self.invariant.1 start c.in_ok-extend_from_slice.ensures.items c.in_ok-enter.ensures.ok

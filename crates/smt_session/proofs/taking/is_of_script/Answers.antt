use Rattle.std.proofs.Common.{◌≡◌, Some, sym, ap, ◌∙◌, subst}
use Rattle.std.specs.Prelude.{slice_get}
use Rattle.std.specs.Option.{option_copied}
use Rattle.smt_terms.specs.Same.{signature_same}
use Rattle.smt_build.specs.Names.{IsDeclared}
use Rattle.smt_build.proofs.Growth.{function_declared}
use Rattle.smt_session.proofs.taking.is_of_script.Goals as goal

pub returns-in-Some : goal.returns-in-Some
returns-in-Some c told =
    let signatures = c.args.state.now.symbols.signatures in
    let found : slice_get signatures c.in-Apply.declaration ≡ Some c.in-Some.own.now = sym c.signature.ensures ∙ ap option_copied c.in-Some.is in
    let same : c.in-Some.own.now ≡ c.in-Apply.signature = signature_same c.in-Some.own.now c.in-Apply.signature (sym c.eq.ensures ∙ told) in
    subst (IsDeclared signatures) (sym c.in-Apply.is) (function_declared signatures c.in-Apply.declaration c.in-Apply.signature (found ∙ ap Some same))

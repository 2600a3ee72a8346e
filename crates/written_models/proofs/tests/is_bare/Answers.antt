use Rattle.std.proofs.Common.{◌≡◌, length, sym, ap, ◌∙◌}
use Rattle.std.proofs.lemmas.Bool.{eqb-true}
use Rattle.script_state.specs.States.{assumptions}
use Rattle.written_models.proofs.Bare.{nothing_asked}
use Rattle.written_models.proofs.tests.is_bare.Goals as goal

pub returns : goal.returns
returns c = λ free M.
    (let live : length c.args.state.now.scopes.live ≡ 0 = sym (ap length c.live.ensures.live) ∙ eqb-true (length c.live.result.now) 0 (sym c.is_empty.ensures ∙ c.if-not-is_empty.false) in
    let assumed : length (assumptions c.args.state.now) ≡ 0 = sym (ap length c.assumptions.ensures.assumptions) ∙ eqb-true (length c.assumptions.result.now) 0 (sym c.is_empty-2.ensures ∙ free) in
    nothing_asked c.args.state.now M live assumed)

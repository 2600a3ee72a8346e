use Rattle.std.proofs.Common.{refl, sym, ap, ◌∙◌, Some, None}
use Rattle.std.specs.Prelude.{slice_get}
use Rattle.std.specs.Option.{option_map}
use Rattle.smt_build.proofs.Places.{found_term, found_none}
use Rattle.smt_build.proofs.scope.Variables.term.Goals as goal

pub returns-in-Some : goal.returns-in-Some
returns-in-Some c =
    c.term_at.ensures ∙ ap (λ l. option_map (λ v. v.term) (slice_get l c.in-Some.place.now)) c.as_slice.ensures.value
    ∙ sym (found_term _ _ _ c.args.name c.self.invariant c.self.view_is (Some c.in-Some.place.now) c.in-Some.ensures.value c.in-Some.place.now refl)

pub returns-in-None : goal.returns-in-None
returns-in-None c = sym (found_none _ _ _ c.args.name c.self.invariant c.self.view_is None c.in-None.ensures.value refl)

-- A command that ends the run is answered so, and no other is.
use Rattle.std.proofs.Common.{◌≡◌, Bool, true, false, refl, sym, ◌∙◌}
use Rattle.script_state.specs.declared.answer.Answer.{Answer}
use Rattle.script_state.specs.declared.answer.Answer.TheVariants.{Done, Refused, Check, Says, Model, Values, Core, Assumptions, Exit}
use Rattle.script_state.specs.Readings.{Reading}
use Rattle.script_state.specs.States.{StateValue}
use Rattle.script_state.specs.Steps.{step, ends}
use Rattle.script_state.proofs.Deciding.{ends_by_exit}
use Rattle.smt_session.specs.Sessions.{is_end}

pub ends_is : (s : StateValue) (r : Reading) → is_end (step s r).0 ≡ ends r
ends_is s r = go (step s r).0 (ends r) refl refl
  where
    other : (a : Answer) → (a ≡ Exit → ⊥) → (step s r).0 ≡ a → ends r ≡ true → ⊥
    other a n e f = n (sym e ∙ (ends_by_exit s r).1 f)

    go : (a : Answer) (b : Bool) → (step s r).0 ≡ a → ends r ≡ b → is_end a ≡ b
    go Exit b e f = sym ((ends_by_exit s r).0 e) ∙ f
    go Done false e f = refl
    go Done true e f = absurd (other Done (λ q. let z : ⊥ = cc in z) e f)
    go (Refused x) false e f = refl
    go (Refused x) true e f = absurd (other (Refused x) (λ q. let z : ⊥ = cc in z) e f)
    go Check false e f = refl
    go Check true e f = absurd (other Check (λ q. let z : ⊥ = cc in z) e f)
    go (Says x) false e f = refl
    go (Says x) true e f = absurd (other (Says x) (λ q. let z : ⊥ = cc in z) e f)
    go Model false e f = refl
    go Model true e f = absurd (other Model (λ q. let z : ⊥ = cc in z) e f)
    go (Values x) false e f = refl
    go (Values x) true e f = absurd (other (Values x) (λ q. let z : ⊥ = cc in z) e f)
    go Core false e f = refl
    go Core true e f = absurd (other Core (λ q. let z : ⊥ = cc in z) e f)
    go Assumptions false e f = refl
    go Assumptions true e f = absurd (other Assumptions (λ q. let z : ⊥ = cc in z) e f)

-- The state once a command is answered.
use Rattle.std.proofs.Common.{◌≡◌, ℕ, Bool, true, false, List, length, refl, sym, ap, ◌∙◌, subst}
use Rattle.std.specs.Prelude.{if◌then◌else◌}
use Rattle.script_state.specs.declared.answer.Answer.{Answer}
use Rattle.script_state.specs.declared.answer.Answer.TheVariants.{Done, Refused, Check, Says, Model, Values, Core, Assumptions, Exit}
use Rattle.script_state.specs.declared.answer.Asked.{Asked}
use Rattle.script_state.specs.Readings.{Reading}
use Rattle.script_state.specs.States.{StateValue, IsState}
use Rattle.script_state.specs.Steps.{Step, IsAskedValues, step, settled, forgotten}
use Rattle.script_state.proofs.Deciding.{values_after_sat}
use Rattle.smt_session.specs.Sessions.{AreHeld, asks_values}

-- values are asked of a state whose terms are forgotten again
asked_of : (s mid : StateValue) (a : Answer) (r : Reading) (asked : List Asked) → IsState s → ◌≡◌ {A = Step} (step s r) (a, mid) → a ≡ Values asked → IsAskedValues s mid asked
asked_of s mid a r asked is e own =
    subst (λ (to : StateValue). IsAskedValues s to asked) (ap (λ (to : Step). to.1) e)
    (values_after_sat s r asked is (ap (λ (to : Step). to.0) e ∙ own))

-- the terms are held that values are asked of
pub held_of : (s mid : StateValue) (a : Answer) (r : Reading) → IsState s → ◌≡◌ {A = Step} (step s r) (a, mid) → AreHeld mid a
held_of s mid a r is e = go a refl
  where
    go : (b : Answer) → a ≡ b → AreHeld mid b
    go (Values asked) own = (let h = asked_of s mid a r asked is e own in λ k d lt. (h.each k d lt).held)
    go Done own = tt
    go (Refused f) own = tt
    go Check own = tt
    go (Says x) own = tt
    go Model own = tt
    go Core own = tt
    go Assumptions own = tt
    go Exit own = tt

-- where values were asked for, the terms that were made for them are forgotten
back : (s mid : StateValue) (a : Answer) (r : Reading) → IsState s → ◌≡◌ {A = Step} (step s r) (a, mid) → asks_values a ≡ true → forgotten mid (length s.terms.nodes) ≡ s
back s mid a r is e asks = go a refl asks
  where
    go : (b : Answer) → a ≡ b → asks_values b ≡ true → forgotten mid (length s.terms.nodes) ≡ s
    go (Values asked) own q = (asked_of s mid a r asked is e own).back
    go Done own q = let f : ⊥ = cc in absurd f
    go (Refused x) own q = let f : ⊥ = cc in absurd f
    go Check own q = let f : ⊥ = cc in absurd f
    go (Says x) own q = let f : ⊥ = cc in absurd f
    go Model own q = let f : ⊥ = cc in absurd f
    go Core own q = let f : ⊥ = cc in absurd f
    go Assumptions own q = let f : ⊥ = cc in absurd f
    go Exit own q = let f : ⊥ = cc in absurd f

settled_back : (s last : StateValue) (a : Answer) → asks_values a ≡ true → settled s a last ≡ s
settled_back s last (Values asked) q = refl
settled_back s last Done q = let f : ⊥ = cc in absurd f
settled_back s last (Refused x) q = let f : ⊥ = cc in absurd f
settled_back s last Check q = let f : ⊥ = cc in absurd f
settled_back s last (Says x) q = let f : ⊥ = cc in absurd f
settled_back s last Model q = let f : ⊥ = cc in absurd f
settled_back s last Core q = let f : ⊥ = cc in absurd f
settled_back s last Assumptions q = let f : ⊥ = cc in absurd f
settled_back s last Exit q = let f : ⊥ = cc in absurd f

settled_on : (s last : StateValue) (a : Answer) → asks_values a ≡ false → settled s a last ≡ last
settled_on s last (Values asked) q = let f : ⊥ = cc in absurd f
settled_on s last Done q = refl
settled_on s last (Refused x) q = refl
settled_on s last Check q = refl
settled_on s last (Says x) q = refl
settled_on s last Model q = refl
settled_on s last Core q = refl
settled_on s last Assumptions q = refl
settled_on s last Exit q = refl

-- a command that is answered over a state
module _ (s mid last final : StateValue) (a : Answer) (r : Reading) (asked : Bool) (n : ℕ)
    (is : IsState s) (does : ◌≡◌ {A = Step} (step s r) (a, mid)) (told : asked ≡ asks_values a) (count : n ≡ length s.terms.nodes)
    (still : asks_values a ≡ true → last ≡ mid) where
  pub forgotten_is : asks_values a ≡ true → forgotten last n ≡ s
  forgotten_is q = ap (λ (x : StateValue). forgotten x n) (still q) ∙ ap (forgotten mid) count ∙ back s mid a r is does q

  -- the terms can be forgotten
  pub can_forget : asked ≡ true → IsState (forgotten last n)
  can_forget q = subst IsState (sym (forgotten_is (sym told ∙ q))) is

  by : (b : Bool) → asks_values a ≡ b → final ≡ (if b then forgotten last n else last) → final ≡ settled s a last
  by true q e = e ∙ forgotten_is q ∙ sym (settled_back s last a q)
  by false q e = e ∙ sym (settled_on s last a q)

  pub settled_is : final ≡ (if asked then forgotten last n else last) → final ≡ settled s a last
  settled_is e = by (asks_values a) refl (e ∙ ap (λ b. if b then forgotten last n else last) told)

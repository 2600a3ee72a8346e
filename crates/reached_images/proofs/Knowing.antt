-- More steps, and what is known by then.
use Rattle.std.proofs.Common.{append_assoc, ◌≡◌, ℕ, Bool, true, false, List, [], ◌∷◌, ◌++◌, Option, Some, None, refl, sym, ap, ◌∙◌, subst, inl, inr, ⊎_elim}
use Rattle.std.specs.Prelude.{◌⊎◌, ◌==◌, ◌||◌, is_some, if◌then◌else◌}
use Rattle.std.specs.Option.{option_or}
use Rattle.std.proofs.lemmas.List.Folds.{find-append}
use Rattle.std.proofs.lemmas.Bool.{cases_eq, eq-eqb, ne_eqb}
use Rattle.std.proofs.lemmas.List.{append-nil}
use Rattle.smt_terms.specs.Bits.{TermBits, bits_in, image_in}
use Rattle.bv_rules.proofs.Known.{or_cases, never}
use Rattle.reached_images.specs.declared.plan.Planned.{Planned}
use Rattle.reached_images.specs.Plans.{is_for, planned_in, known_image, step_image, led_to, IsKnown, IsLater}

-- ---- steps that stay

pub planned_later : (old more : List Planned) (t : ℕ) (p : Planned) → planned_in old t ≡ Some p → planned_in (old ++ more) t ≡ Some p
planned_later old more t p e = find-append (is_for t) old more ∙ ap (λ o. option_or o (planned_in more t)) e

pub later_itself : (steps : List Planned) → IsLater steps steps
later_itself steps = ([], sym (append-nil steps))

pub later_on : (a b c : List Planned) → IsLater a b → IsLater b c → IsLater a c
later_on a b c p q = (p.0 ++ q.0, q.1 ∙ ap (λ l. l ++ q.0) p.1 ∙ append_assoc a p.0 q.0)

-- ---- what is known

first_or : (b c : Bool) → b ≡ true → (b || c) ≡ true
first_or b c e = ap (λ d. d || c) e

second_or : (b c : Bool) → c ≡ true → (b || c) ≡ true
second_or true c e = refl
second_or false c e = e

some_later : (old more : List Planned) (t : ℕ) → is_some (planned_in old t) ≡ true → is_some (planned_in (old ++ more) t) ≡ true
some_later old more t h = go (planned_in old t) refl h where
  go : (o : Option Planned) → planned_in old t ≡ o → is_some o ≡ true → is_some (planned_in (old ++ more) t) ≡ true
  go None e h = never h
  go (Some p) e h = ap is_some (planned_later old more t p e)

pub known_more : (bits : List TermBits) (old more : List Planned) (t : ℕ) → IsKnown bits old t → IsKnown bits (old ++ more) t
known_more bits old more t h =
    or_cases (is_some (bits_in bits t)) (is_some (planned_in old t)) h
    (λ p. first_or (is_some (bits_in bits t)) (is_some (planned_in (old ++ more) t)) p)
    (λ p. second_or (is_some (bits_in bits t)) (is_some (planned_in (old ++ more) t)) (some_later old more t p))

pub known_later : (bits : List TermBits) (old new : List Planned) (t : ℕ) → IsLater old new → IsKnown bits old t → IsKnown bits new t
known_later bits old new t l h = subst (λ s. IsKnown bits s t) (sym l.1) (known_more bits old l.0 t h)

-- the step that was added
pub planned_last : (steps : List Planned) (p : Planned) → is_some (planned_in (steps ++ p ∷ []) p.term) ≡ true
planned_last steps p = go (planned_in steps p.term) refl where
  own : planned_in (p ∷ []) p.term ≡ Some p
  own = ap (λ b. if b then Some p else None) (eq-eqb p.term p.term refl)

  go : (o : Option Planned) → planned_in steps p.term ≡ o → is_some (planned_in (steps ++ p ∷ []) p.term) ≡ true
  go None e = ap is_some (find-append (is_for p.term) steps (p ∷ []) ∙ ap (λ o. option_or o (planned_in (p ∷ []) p.term)) e ∙ own)
  go (Some q) e = ap is_some (planned_later steps (p ∷ []) p.term q e)

pub known_last : (bits : List TermBits) (steps : List Planned) (p : Planned) → IsKnown bits (steps ++ p ∷ []) p.term
known_last bits steps p = second_or (is_some (bits_in bits p.term)) (is_some (planned_in (steps ++ p ∷ []) p.term)) (planned_last steps p)

-- ---- images that stay

pub image_more : (bits : List TermBits) (old more : List Planned) (t u : ℕ) → known_image bits old t ≡ Some u → known_image bits (old ++ more) t ≡ Some u
image_more bits old more t u = go (is_some (bits_in bits t)) where
  step : (o : Option Planned) → planned_in old t ≡ o → step_image o ≡ Some u → step_image (planned_in (old ++ more) t) ≡ Some u
  step None e h = let z : ⊥ = cc in absurd z
  step (Some p) e h = ap step_image (planned_later old more t p e) ∙ h

  go : (b : Bool) → (if b then image_in bits t else step_image (planned_in old t)) ≡ Some u → (if b then image_in bits t else step_image (planned_in (old ++ more) t)) ≡ Some u
  go true h = h
  go false h = step (planned_in old t) refl h

pub image_later : (bits : List TermBits) (old new : List Planned) (t u : ℕ) → IsLater old new → known_image bits old t ≡ Some u → known_image bits new t ≡ Some u
image_later bits old new t u l h = subst (λ s. known_image bits s t ≡ Some u) (sym l.1) (image_more bits old l.0 t u h)

-- an image behind one step more is one that was there, or that of the step
pub image_last : (bits : List TermBits) (steps : List Planned) (p : Planned) (t u : ℕ) → known_image bits (steps ++ p ∷ []) t ≡ Some u → (known_image bits steps t ≡ Some u) ⊎ ((p.term ≡ t) × (led_to p.used ≡ Some u))
image_last bits steps p t u = go (is_some (bits_in bits t)) where
  Told : Bool → Type 0
  Told b = ((if b then image_in bits t else step_image (planned_in steps t)) ≡ Some u) ⊎ ((p.term ≡ t) × (led_to p.used ≡ Some u))

  new : (b : Bool) → (p.term == t) ≡ b → step_image (if b then Some p else None) ≡ Some u → (p.term ≡ t) × (led_to p.used ≡ Some u)
  new true e h = (⊎_elim (λ q. q) (λ ne. never (sym (ne_eqb p.term t ne) ∙ e)) (cases_eq p.term t), h)
  new false e h = let z : ⊥ = cc in absurd z

  old : (o : Option Planned) → planned_in steps t ≡ o → step_image (planned_in (steps ++ p ∷ []) t) ≡ Some u → Told false
  old None e h = inr (new (p.term == t) refl (sym (ap step_image (find-append (is_for t) steps (p ∷ []) ∙ ap (λ o. option_or o (planned_in (p ∷ []) t)) e)) ∙ h))
  old (Some q) e h = inl (ap step_image e ∙ sym (ap step_image (planned_later steps (p ∷ []) t q e)) ∙ h)

  go : (b : Bool) → (if b then image_in bits t else step_image (planned_in (steps ++ p ∷ []) t)) ≡ Some u → Told b
  go true h = inl h
  go false h = old (planned_in steps t) refl h

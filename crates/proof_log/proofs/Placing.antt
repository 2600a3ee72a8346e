-- The positions of the steps that gave bits and selectors, as steps are added.
use Rattle.std.proofs.Common.{◌≡◌, ℕ, zero, suc, ◌==◌, if◌then◌else◌, Bool, true, false, List, [], ◌∷◌, ◌++◌, length, map, Option, Some, None, refl, sym, ap, ◌∙◌, subst, inl, inr, ⊎_elim, arith}
use Rattle.std.specs.Prelude.{◌⊎◌}
use Rattle.std.proofs.lemmas.Bool.{eqb-true}
use Rattle.std.proofs.lemmas.List.{map_push}
use Rattle.proof_log.specs.declared.entry.Entry.{Entry}
use Rattle.proof_log.specs.declared.entry.Entry.TheVariants as step
use Rattle.proof_log.specs.declared.entry.Role.TheVariants as role
use Rattle.proof_log.specs.Roles.{role_of}
use Rattle.proof_log.specs.Logs.{entry_at, with_value}
use Rattle.proof_log.specs.Places.{GivesBits, GivesSelector, IsPlaceOf, place_in, ArePlaces, IsForTerm, IsPlain}
use Rattle.cnf_base.proofs.Lists.{slice_get-longer, slice_get-push, slice_get-push_cases}

-- ---- the step at a position, where one step is added

pub entry_more : (log : List Entry) (e x : Entry) (p : ℕ) → entry_at log p ≡ Some x → entry_at (log ++ e ∷ []) p ≡ Some x
entry_more log e x zero h = let q : ⊥ = cc in absurd q
entry_more log e x (suc p) h = slice_get-longer log (e ∷ []) p x h

entry_push : (log : List Entry) (e x : Entry) (p : ℕ) → entry_at (log ++ e ∷ []) p ≡ Some x → (entry_at log p ≡ Some x) ⊎ (e ≡ x)
entry_push log e x zero h = let q : ⊥ = cc in absurd q
entry_push log e x (suc p) h = ⊎_elim (λ q. inl q) (λ q. inr q.1) (slice_get-push_cases log e x p h)

pub entry_last : (log : List Entry) (e : Entry) → entry_at (log ++ e ∷ []) (suc (length log)) ≡ Some e
entry_last log e = slice_get-push log e

-- ---- positions

pub no_places : ArePlaces [] [] []
no_places = record {
  bits = λ t p h. none p h.0 h.1;
  selectors = λ a p h. none p (step.Selector a h.0) h.1;
}
  where
    none : (p : ℕ) (e : Entry) → entry_at [] p ≡ Some e → ⊥
    none zero e h = cc
    none (suc p) e h = cc

pub bits_more : (log : List Entry) (e : Entry) (t p : ℕ) → GivesBits log t p → GivesBits (log ++ e ∷ []) t p
bits_more log e t p h = (h.0, entry_more log e h.0 p h.1, h.2)

bits_push : (log : List Entry) (e : Entry) (t p : ℕ) → GivesBits (log ++ e ∷ []) t p → GivesBits log t p ⊎ IsForTerm t e
bits_push log e t p h = ⊎_elim (λ q. inl (h.0, q, h.2)) (λ q. inr (subst (IsForTerm t) (sym q) h.2)) (entry_push log e h.0 p h.1)

selector_more : (log : List Entry) (e : Entry) (a p : ℕ) → GivesSelector log a p → GivesSelector (log ++ e ∷ []) a p
selector_more log e a p h = (h.0, entry_more log e (step.Selector a h.0) p h.1)

selector_push : (log : List Entry) (e : Entry) (a p : ℕ) → GivesSelector (log ++ e ∷ []) a p → GivesSelector log a p ⊎ ((t : ℕ) × (e ≡ step.Selector a t))
selector_push log e a p h = ⊎_elim (λ q. inl (h.0, q)) (λ q. inr (h.0, q)) (entry_push log e (step.Selector a h.0) p h.1)

-- a place stays where what is added is none
place_more : (P Q : ℕ → Type 0) (o : Option ℕ) → ((p : ℕ) → P p → Q p) → ((p : ℕ) → Q p → P p) → IsPlaceOf P o → IsPlaceOf Q o
place_more P Q None on back h = λ p q. h p (back p q)
place_more P Q (Some p) on back h = on p h

same_term : (t u : ℕ) (e : Entry) → IsForTerm t e → IsForTerm u e → t ≡ u
same_term t u e h k = let r : role.Bits t ≡ role.Bits u = sym h ∙ k in cc

plain_term : (e : Entry) (t : ℕ) → IsPlain e → IsForTerm t e → ⊥
plain_term e t h k =
    ⊎_elim (λ p. let r : role.Term ≡ role.Bits t = sym p ∙ k in cc) (λ p. let r : role.Search ≡ role.Bits t = sym p ∙ k in cc) h

plain_selector : (e : Entry) (a t : ℕ) → IsPlain e → e ≡ step.Selector a t → ⊥
plain_selector e a t h k =
    ⊎_elim (λ p. let r : role.Term ≡ role.Selector a = sym p ∙ ap role_of k in cc) (λ p. let r : role.Search ≡ role.Selector a = sym p ∙ ap role_of k in cc) h

term_selector : (e : Entry) (t a u : ℕ) → IsForTerm t e → e ≡ step.Selector a u → ⊥
term_selector e t a u h k = let r : role.Bits t ≡ role.Selector a = sym h ∙ ap role_of k in cc

bits_other : (log : List Entry) (e : Entry) (t : ℕ) (o : Option ℕ) → (IsForTerm t e → ⊥) → IsPlaceOf (GivesBits log t) o → IsPlaceOf (GivesBits (log ++ e ∷ []) t) o
bits_other log e t o other h =
    place_more (GivesBits log t) (GivesBits (log ++ e ∷ []) t) o (bits_more log e t) (λ p q. ⊎_elim (λ r. r) (λ r. absurd (other r)) (bits_push log e t p q)) h

selector_other : (log : List Entry) (e : Entry) (a : ℕ) (o : Option ℕ) → ((t : ℕ) → e ≡ step.Selector a t → ⊥) → IsPlaceOf (GivesSelector log a) o → IsPlaceOf (GivesSelector (log ++ e ∷ []) a) o
selector_other log e a o other h =
    place_more (GivesSelector log a) (GivesSelector (log ++ e ∷ []) a) o (selector_more log e a) (λ p q. ⊎_elim (λ r. r) (λ r. absurd (other r.0 r.1)) (selector_push log e a p q)) h

pub plain_places : (log : List Entry) (e : Entry) (terms assertions : List (Option ℕ)) → IsPlain e → ArePlaces log terms assertions → ArePlaces (log ++ e ∷ []) terms assertions
plain_places log e terms assertions plain h = record {
  bits = λ t. bits_other log e t (place_in terms t) (plain_term e t plain) (h.bits t);
  selectors = λ a. selector_other log e a (place_in assertions a) (λ t. plain_selector e a t plain) (h.selectors a);
}

-- the tables are the same by number
pub same_places : (log : List Entry) (terms more assertions others : List (Option ℕ)) → ((t : ℕ) → place_in more t ≡ place_in terms t) → ((a : ℕ) → place_in others a ≡ place_in assertions a)
    → ArePlaces log terms assertions → ArePlaces log more others
same_places log terms more assertions others e f h = record {
  bits = λ t. subst (IsPlaceOf (GivesBits log t)) (sym (e t)) (h.bits t);
  selectors = λ a. subst (IsPlaceOf (GivesSelector log a)) (sym (f a)) (h.selectors a);
}

-- one more value of a table
value_cases : (P : ℕ → Option ℕ → Type 0) (f : ℕ → Option ℕ) (x p : ℕ) (y : ℕ) → P x (Some p) → ((x ≡ y → ⊥) → P y (f y)) → P y (with_value f x p y)
value_cases P f x p y own other = go (y == x) refl
  where
    go : (b : Bool) → (y == x) ≡ b → P y (if b then Some p else f y)
    go true e = subst (λ z. P z (Some p)) (sym (eqb-true y x e)) own
    go false e = other (λ q. let r : (y == x) ≡ (x == x) = ap (λ z. z == x) (sym q) in let k : ⊥ = grind arith in k)

pub term_places : (log : List Entry) (e : Entry) (t : ℕ) (terms mid new assertions : List (Option ℕ)) → IsForTerm t e → ((u : ℕ) → place_in mid u ≡ place_in terms u)
    → ((u : ℕ) → place_in new u ≡ with_value (place_in mid) t (suc (length log)) u) → ArePlaces log terms assertions → ArePlaces (log ++ e ∷ []) new assertions
term_places log e t terms mid new assertions is same set h = record {
  bits = λ u. subst (IsPlaceOf (GivesBits (log ++ e ∷ []) u)) (sym (set u))
      (value_cases (λ v o. IsPlaceOf (GivesBits (log ++ e ∷ []) v) o) (place_in mid) t (suc (length log)) u
      (e, entry_last log e, is)
      (λ other. bits_other log e u (place_in mid u) (λ k. other (same_term t u e is k)) (subst (IsPlaceOf (GivesBits log u)) (sym (same u)) (h.bits u))));
  selectors = λ a. selector_other log e a (place_in assertions a) (λ u. term_selector e t a u is) (h.selectors a);
}

pub assertion_places : (log : List Entry) (e : Entry) (a t : ℕ) (terms assertions mid new : List (Option ℕ)) → e ≡ step.Selector a t → ((b : ℕ) → place_in mid b ≡ place_in assertions b)
    → ((b : ℕ) → place_in new b ≡ with_value (place_in mid) a (suc (length log)) b) → ArePlaces log terms assertions → ArePlaces (log ++ e ∷ []) terms new
assertion_places log e a t terms assertions mid new is same set h = record {
  bits = λ u. bits_other log e u (place_in terms u) (λ k. term_selector e u a t k is) (h.bits u);
  selectors = λ b. subst (IsPlaceOf (GivesSelector (log ++ e ∷ []) b)) (sym (set b))
      (value_cases (λ c o. IsPlaceOf (GivesSelector (log ++ e ∷ []) c) o) (place_in mid) a (suc (length log)) b
      (t, entry_last log e ∙ ap Some is)
      (λ other. selector_other log e b (place_in mid b) (λ u k. let r : step.Selector a t ≡ step.Selector b u = sym is ∙ k in let own : a ≡ b = cc in other own) (subst (IsPlaceOf (GivesSelector log b)) (sym (same b)) (h.selectors b))));
}

-- ---- the same of a list of steps, each with its entry

pub plain_kept : {A : Type 0} (f : A → Entry) (items held new : List A) (x : A) (terms assertions : List (Option ℕ)) → held ≡ items → new ≡ held ++ x ∷ [] → IsPlain (f x)
    → ArePlaces (map f items) terms assertions → ArePlaces (map f new) terms assertions
plain_kept f items held new x terms assertions same_items e plain h =
    subst (λ l. ArePlaces l terms assertions) (sym (ap (map f) (e ∙ ap (λ l. l ++ x ∷ []) same_items) ∙ map_push f items x)) (plain_places (map f items) (f x) terms assertions plain h)

pub term_kept : {A : Type 0} (f : A → Entry) (items held new : List A) (x : A) (t at : ℕ) (terms mid placed assertions : List (Option ℕ)) → held ≡ items → new ≡ held ++ x ∷ [] → at ≡ suc (length (map f items)) → IsForTerm t (f x)
    → ((u : ℕ) → place_in mid u ≡ place_in terms u) → ((u : ℕ) → place_in placed u ≡ with_value (place_in mid) t at u) → ArePlaces (map f items) terms assertions → ArePlaces (map f new) placed assertions
term_kept f items held new x t at terms mid placed assertions same_items e place is same set h =
    subst (λ l. ArePlaces l placed assertions) (sym (ap (map f) (e ∙ ap (λ l. l ++ x ∷ []) same_items) ∙ map_push f items x))
    (term_places (map f items) (f x) t terms mid placed assertions is same (subst (λ k. (u : ℕ) → place_in placed u ≡ with_value (place_in mid) t k u) place set) h)

pub assertion_kept : {A : Type 0} (f : A → Entry) (items held new : List A) (x : A) (a t at : ℕ) (terms assertions mid placed : List (Option ℕ)) → held ≡ items → new ≡ held ++ x ∷ [] → at ≡ suc (length (map f items)) → f x ≡ step.Selector a t
    → ((b : ℕ) → place_in mid b ≡ place_in assertions b) → ((b : ℕ) → place_in placed b ≡ with_value (place_in mid) a at b) → ArePlaces (map f items) terms assertions → ArePlaces (map f new) terms placed
assertion_kept f items held new x a t at terms assertions mid placed same_items e place is same set h =
    subst (λ l. ArePlaces l terms placed) (sym (ap (map f) (e ∙ ap (λ l. l ++ x ∷ []) same_items) ∙ map_push f items x))
    (assertion_places (map f items) (f x) a t terms assertions mid placed is same (subst (λ k. (b : ℕ) → place_in placed b ≡ with_value (place_in mid) a k b) place set) h)

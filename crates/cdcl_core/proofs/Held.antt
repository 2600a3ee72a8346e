-- Which of the clauses that are kept are held.
use Rattle.std.proofs.Common.{ℕ, ◌≡◌, ◌≢◌, ◌⊎◌, true, false, Bool, List, Option, Some, None, cond, refl, sym, ap, ◌∙◌, inl, inr}
use Rattle.std.proofs.lemmas.Bool.Decides.{eqb_tells}
use Rattle.cnf_base.specs.Literals.{Literal}
use Rattle.cnf_base.specs.declared.clause.ClauseId.{ClauseId}
use Rattle.cdcl_core.specs.declared.watches.Watches.{Watches}
use Rattle.cdcl_core.specs.declared.watches.Kind.{Kind}
use Rattle.cdcl_core.specs.declared.watches.Kind.TheVariants.{Free, Fixed, Watched, Parked}
use Rattle.cdcl_core.specs.Search.{clause_of, held_of, is_held_slot, AreAllHeld}
use Rattle.cdcl_core.specs.Slots.{slot_in}
use Rattle.cdcl_core.specs.Watched.{kind_at, is_held, IsHeld}

-- ---- kinds

not_true : false ≡ true → ⊥
not_true e = cc

pub held_if : (k j : Kind) → k ≡ j → IsHeld j → IsHeld k
held_if k j e h = ap is_held e ∙ h

-- a slot with a held clause is not free
pub held_live : (k : Kind) → IsHeld k → k ≢ Free
held_live k h e = not_true (ap is_held (sym e) ∙ h)

pub held_kinds : (k : Kind) → IsHeld k → (k ≡ Fixed) ⊎ (k ≡ Watched)
held_kinds Free h = absurd (not_true h)
held_kinds Fixed h = inl refl
held_kinds Watched h = inr refl
held_kinds Parked h = absurd (not_true h)

-- ---- look-ups

none_some : {A B : Type 0} (x : A) → None ≡ Some x → B
none_some x e = absurd cc

pub picked : {A : Type 0} (b : Bool) (o : Option A) (x : A) → cond b o None ≡ Some x → (b ≡ true) × (o ≡ Some x)
picked true o x e = (refl, e)
picked false o x e = none_some x e

pub none_picked : {A : Type 0} (b : Bool) (o : Option A) → o ≡ None → cond b o None ≡ None
none_picked true o e = e
none_picked false o e = refl

-- a held clause is kept
pub held_kept : (w : Watches) (id : ClauseId) (c : List Literal) → held_of w id ≡ Some c → clause_of w id ≡ Some c
held_kept w id c e = (picked (is_held_slot w.kinds.items (slot_in w.slots id)) (clause_of w id) c e).1

-- what is not kept is not held
pub not_held : (w : Watches) (id : ClauseId) → clause_of w id ≡ None → held_of w id ≡ None
not_held w id e = none_picked (is_held_slot w.kinds.items (slot_in w.slots id)) (clause_of w id) e

-- the clause of a slot, by the slot's kind
pub held_by : (w : Watches) (id : ClauseId) (b : Bool) (o : Option (List Literal)) → is_held_slot w.kinds.items (slot_in w.slots id) ≡ b → clause_of w id ≡ o → held_of w id ≡ cond b o None
held_by w id b o flag kept = ap (λ (x : Bool). cond x (clause_of w id) None) flag ∙ ap (λ (y : Option (List Literal)). cond b y None) kept

-- the kind of a slot that is found is as before
slot_same : (ks ks2 : List Kind) (o : Option ℕ) → ((q : ℕ) → o ≡ Some q → kind_at ks2 q ≡ kind_at ks q) → is_held_slot ks2 o ≡ is_held_slot ks o
slot_same ks ks2 None h = refl
slot_same ks ks2 (Some q) h = ap is_held (h q refl)

-- the same clause is kept, in a slot of the same kind
pub held_same : (w w2 : Watches) (id : ClauseId) → slot_in w2.slots id ≡ slot_in w.slots id → ((q : ℕ) → slot_in w.slots id ≡ Some q → kind_at w2.kinds.items q ≡ kind_at w.kinds.items q) → clause_of w2 id ≡ clause_of w id → held_of w2 id ≡ held_of w id
held_same w w2 id slot kind kept = held_by w2 id (is_held_slot w.kinds.items (slot_in w.slots id)) (clause_of w id) (ap (is_held_slot w2.kinds.items) slot ∙ slot_same w.kinds.items w2.kinds.items (slot_in w.slots id) kind) kept

-- ---- names

pub same_or_other : (a b : ClauseId) → (a ≡ b) ⊎ (a ≢ b)
same_or_other a b = elim (eqb_tells a.pos b.pos) [
  | inr p ↦ inr (λ e. p.1 (ap (λ (x : ClauseId). x.pos) e))
  | inl p ↦ elim (eqb_tells a.part b.part) [
    | inr q ↦ inr (λ e. q.1 (ap (λ (x : ClauseId). x.part) e))
    | inl q ↦ inl (λ i. record { pos = p.1 i; part = q.1 i })
  ]
]

-- ---- where every clause that is kept is held

pub all_same : (w v : Watches) → AreAllHeld w → ((id : ClauseId) → clause_of v id ≡ clause_of w id) → ((id : ClauseId) → held_of v id ≡ held_of w id) → AreAllHeld v
all_same w v all kept held id = held id ∙ (all id ∙ sym (kept id))

pub all_but : (w v : Watches) (id : ClauseId) → AreAllHeld w → held_of v id ≡ clause_of v id → ((q : ClauseId) → q ≢ id → clause_of v q ≡ clause_of w q) → ((q : ClauseId) → q ≢ id → held_of v q ≡ held_of w q) → AreAllHeld v
all_but w v id all here kept held q = elim (same_or_other q id) [
  | inl e ↦ rw e here
  | inr ne ↦ held q ne ∙ (all q ∙ sym (kept q ne))
]

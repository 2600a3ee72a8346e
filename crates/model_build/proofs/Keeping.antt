-- What a change of one declaration leaves of the others.
use Rattle.std.proofs.Common.{◌≡◌, ℕ, List, Option, refl, ap, ◌∙◌}
use Rattle.std.specs.Prelude.{if◌then◌else◌}
use Rattle.std.proofs.lemmas.Bool.{eq-eqb, ne_eqb}
use Rattle.smt_terms.specs.declared.sort.Sort.TheVariants as sort
use Rattle.smt_terms.specs.declared.node.Node.{Node}
use Rattle.smt_terms.specs.Values as of
use Rattle.smt_values.specs.declared.value.Value.{Value}
use Rattle.smt_values.specs.Arrays.{ArrayFields}
use Rattle.smt_values.specs.Held.{set_for}
use Rattle.theory_terms.specs.declared.shape.Shape.{Shape}
use Rattle.theory_terms.specs.declared.shape.Shape.TheVariants.{Selecting, Storing, Filling, Choosing, Equating, Witnessing, Applying, Declaring, Other}
use Rattle.model_build.specs.Drafts.{Sets, HoldsShape}

pub sets_at : (d : ℕ) (change : Option Value → Option Value) (old new : List (Option Value)) → Sets d change old new → set_for new d ≡ change (set_for old d)
sets_at d change old new s = s d ∙ ap (λ b. if b then change (set_for old d) else set_for old d) (eq-eqb d d refl)

pub sets_other : (d : ℕ) (change : Option Value → Option Value) (old new : List (Option Value)) → Sets d change old new → (e : ℕ) → (e ≡ d → ⊥) → set_for new e ≡ set_for old e
sets_other d change old new s e ne = s e ∙ ap (λ b. if b then change (set_for old e) else set_for old e) (ne_eqb e d ne)

-- the shape is that of a term of this declaration
abbrev pub Names : Shape → ℕ → Type 0
Names (Declaring d q) e = d ≡ e
Names (Applying d) e = d ≡ e
Names _ e = ⊥

-- where the declaration of a term has what it had, and arrays meet another condition too
pub kept : (nodes : List Node) (val : ℕ → of.Value) (Is Also : ℕ → ArrayFields → Type 0) (old new : List (Option Value)) (t : ℕ) (k : Shape)
    → ((e : ℕ) → Names k e → set_for new e ≡ set_for old e) → ((d n m : ℕ) (a : ArrayFields) → k ≡ Declaring d (sort.Array n m) → a.index ≡ n → a.default.width ≡ m → Is t a → Also t a)
    → HoldsShape Is nodes val old t k → HoldsShape Also nodes val new t k
kept nodes val Is Also old new t (Declaring d sort.Bool) same more h = (h.0, same d refl ∙ h.1, h.2)
kept nodes val Is Also old new t (Declaring d (sort.Word n)) same more h = (h.0, same d refl ∙ h.1, h.2)
kept nodes val Is Also old new t (Declaring d (sort.Array n m)) same more h =
    record { array = h.array; set = same d refl ∙ h.set; index = h.index; element = h.element; well = h.well; is = more d n m h.array refl h.index h.element h.is }
kept nodes val Is Also old new t (Applying d) same more h = record { table = h.table; args = h.args; set = same d refl ∙ h.set; are = h.are; is = h.is }
kept nodes val Is Also old new t (Selecting a i) same more h = tt
kept nodes val Is Also old new t (Storing b j x) same more h = tt
kept nodes val Is Also old new t (Filling x) same more h = tt
kept nodes val Is Also old new t (Choosing c a b) same more h = tt
kept nodes val Is Also old new t (Equating a b) same more h = tt
kept nodes val Is Also old new t (Witnessing a b) same more h = tt
kept nodes val Is Also old new t Other same more h = tt

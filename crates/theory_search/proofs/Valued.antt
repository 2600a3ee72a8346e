-- Variables that get their values one by one.
use Rattle.std.proofs.Common.{◌≡◌, ℕ, ◌+◌, ◌<◌, Bool, true, false, List, length, take, get_or, sym, ap, ◌∙◌, ⊎_elim}
use Rattle.std.specs.Prelude.{◌==◌, if◌then◌else◌, Contains, All, MatchBool, ◌⊎◌, Result, Ok, Err, OnOk}
use Rattle.std.proofs.Common.{inl}
use Rattle.std.proofs.lemmas.Bool.Decides.{eqb_tells}
use Rattle.std.proofs.lemmas.List.Elements.{All-contains}
use Rattle.variable_list.specs.Variables.{IsVariable}
use Rattle.cdcl_learn.proofs.Lists.{front_cases}
use Rattle.cube_search.proofs.Told.{take_within}

pub assigned_more : (vs : List ℕ) (i y : ℕ) (f old new : ℕ → Bool) (value : Bool) → i < length vs → y ≡ get_or vs i y → All IsVariable vs → value ≡ f y
    → ((x : ℕ) → 0 < x → new x ≡ (if x == y then value else old x)) → ((x : ℕ) → Contains (take i vs) x → old x ≡ f x)
    → (x : ℕ) → Contains (take (i + 1) vs) x → new x ≡ f x
assigned_more vs i y f old new value lt is all here step h x k =
    let positive : 0 < x = (All-contains IsVariable vs x all (take_within (i + 1) vs x k)).0 in
    step x positive ∙ ⊎_elim
    (λ p. ap (λ (b : Bool). if b then value else old x) p.0 ∙ here ∙ ap f (sym p.1))
    (λ p. ap (λ (b : Bool). if b then value else old x) p.0 ∙ ⊎_elim (λ before. h x before) (λ q. absurd (p.1 (sym (is ∙ q)))) (front_cases vs i y x lt k))
    (eqb_tells x y)

pub has_known : (b : Bool) (P Q : Type 0) → MatchBool b P (P → ⊥) → MatchBool b (P ⊎ Q) (Unit {0})
has_known true P Q h = inl h
has_known false P Q h = tt

pub on_done : {A E : Type 0} (r : Result A E) (P Q : Type 0) → (P → Q) → OnOk r P → OnOk r Q
on_done (Ok a) P Q f h = f h
on_done (Err e) P Q f h = h

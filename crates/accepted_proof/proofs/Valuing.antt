-- Values of declarations, as interpretations hold them.
use Rattle.std.proofs.Common.{◌≡◌, ℕ, ◌+◌, ◌<◌, Bool, true, false, List, [], ◌∷◌, length, drop, get_or, slice_get, Option, Some, None, refl, sym, ap, subst, ◌∙◌, inl, inr}
use Rattle.std.specs.Prelude.{◌⊎◌, ◌==◌, if◌then◌else◌}
use Rattle.std.specs.List.{AllByRecursion}
use Rattle.std.proofs.lemmas.Bool.{eqb-true}
use Rattle.std.proofs.lemmas.List.{at_drop_more}
use Rattle.smt_terms.specs.declared.sort.Sort.{Sort}
use Rattle.smt_terms.specs.declared.sort.Sort.TheVariants as sort
use Rattle.smt_terms.specs.declared.sort.Signature.{Signature}
use Rattle.smt_terms.specs.declared.node.Op.{Op}
use Rattle.smt_terms.specs.declared.node.Op.TheVariants as op
use Rattle.smt_terms.specs.Nodes.{node_at}
use Rattle.smt_terms.specs.Terms.{constant_signature, signature_of, declaration_of}
use Rattle.smt_values.specs.declared.value.Value.{Value}
use Rattle.smt_values.specs.declared.value.Value.TheVariants as held
use Rattle.smt_values.specs.Held.{set_for, constant_of, function_of, Suits}
use Rattle.smt_values.specs.Held as set
use Rattle.smt_eval.specs.Evaluated.{AreSuited, IsSuited}
use Rattle.script_state.specs.States.{StateValue, IsState}
use Rattle.accepted_proof.specs.Models.{value_for, interpretation_of, IsOfSignature}

-- ---- the interpretation

-- one value more, in front of those that were set
pub values_more : (values : List (ℕ × Value)) (k n : ℕ) (p : ℕ × Value) (old new : List (Option Value)) → k < length values → n ≡ k + 1 → p ≡ get_or values k p → ((d : ℕ) → set_for old d ≡ value_for (drop n values) d)
    → ((d : ℕ) → set_for new d ≡ (if d == p.0 then Some p.1 else set_for old d)) → (d : ℕ) → set_for new d ≡ value_for (drop k values) d
values_more values k n p old new lt e here before after d =
    after d
    ∙ ap (λ o. if d == p.0 then Some p.1 else o) (before d ∙ ap (λ x. value_for (drop x values) d) e)
    ∙ sym (at_drop_more (λ vs. value_for vs d) values k p lt ∙ ap (λ q. value_for (q ∷ drop (k + 1) values) d) (sym here))

-- the interpretations of the same values
pub same_interpretation : (held : List (Option Value)) (values : List (ℕ × Value)) → ((d : ℕ) → set_for held d ≡ value_for values d) → set.interpretation_of held ≡ interpretation_of values
same_interpretation held values h = λ i. record { constants = λ d. constant_of (h d i); functions = λ d. function_of (h d i) }

-- false, or a value that the declaration may have
abbrev pub IsHeldFor : Value → Option Signature → Type 0
IsHeldFor v o = (v ≡ held.Bool false) ⊎ IsOfSignature v o

-- the widths of an array that is set are those of the sort
suits_held : (s : Sort) (v : Value) → IsHeldFor v (Some (constant_signature s)) → Suits s (Some v)
suits_held sort.Bool v h = tt
suits_held (sort.Word n) v h = tt
suits_held (sort.Array n m) (held.Bool b) h = tt
suits_held (sort.Array n m) (held.Word w) h = tt
suits_held (sort.Array n m) (held.Fun t) h = tt
suits_held (sort.Array n m) (held.Array a) (inl e) = let f : ⊥ = cc in absurd f
suits_held (sort.Array n m) (held.Array a) (inr k) =
    let e : sort.Array n m ≡ sort.Array a.index a.default.width = k.0 in
    let p : a.index ≡ n = cc in
    let q : a.default.width ≡ m = cc in
    (p, q)

suits_none : (s : Sort) → Suits s None
suits_none sort.Bool = tt
suits_none (sort.Word n) = tt
suits_none (sort.Array n m) = tt

suits_set : (s : Sort) (o : Option Value) → ((v : Value) → o ≡ Some v → IsHeldFor v (Some (constant_signature s))) → Suits s o
suits_set s None h = suits_none s
suits_set s (Some v) h = suits_held s v (h v refl)

module _ (s : StateValue) (h : IsState s) (values : List (Option Value))
    (suits : (d : ℕ) (r : Sort) → slice_get s.symbols.signatures d ≡ Some (constant_signature r) → Suits r (set_for values d)) where
  suited_op : (t : ℕ) (o : Op) → (node_at s.terms.nodes t).op ≡ o → IsSuited o values
  suited_op t (op.Plain o) e = tt
  suited_op t (op.Word n x) e = tt
  suited_op t (op.Extract i j) e = tt
  suited_op t (op.ZeroExtend i) e = tt
  suited_op t (op.SignExtend i) e = tt
  suited_op t (op.RotateLeft i) e = tt
  suited_op t (op.RotateRight i) e = tt
  suited_op t (op.Repeat i) e = tt
  suited_op t (op.ConstantArray k) e = tt
  suited_op t (op.Constant d r) e = suits d r (h.declared.each t d (ap declaration_of e) ∙ ap (λ x. Some (signature_of x)) e)
  suited_op t (op.Apply d r) e = tt
  suited_op t (op.Param k r) e = tt

  all_suited : AreSuited s.terms.nodes values
  all_suited t lt = suited_op t (node_at s.terms.nodes t).op refl

-- each value that is set is one that its declaration may have, or false
pub are_suited : (s : StateValue) → IsState s → (values : List (Option Value)) → ((d : ℕ) (v : Value) → set_for values d ≡ Some v → IsHeldFor v (slice_get s.symbols.signatures d)) → AreSuited s.terms.nodes values
are_suited s h values held_for =
    all_suited s h values (λ d r e. suits_set r (set_for values d) (λ v k. subst (IsHeldFor v) e (held_for d v k)))

-- the value of a declaration is one of those that are listed
pub value_among : (P : Value → ℕ → Type 0) (values : List (ℕ × Value)) (d : ℕ) (v : Value) → AllByRecursion (λ (p : ℕ × Value). P p.1 p.0) values → value_for values d ≡ Some v → P v d
value_among P [] d v all e = let f : ⊥ = cc in absurd f
value_among P (p ∷ ps) d v all e = chosen (d == p.0) refl e (λ f. value_among P ps d v all.1 f)
  where
    chosen : (b : Bool) → (d == p.0) ≡ b → (if b then Some p.1 else value_for ps d) ≡ Some v → (value_for ps d ≡ Some v → P v d) → P v d
    chosen true k f rest =
        let same : d ≡ p.0 = eqb-true d p.0 k in
        let here : p.1 ≡ v = cc in
        subst (P v) (sym same) (subst (λ x. P x p.0) here all.0)
    chosen false k f rest = rest f

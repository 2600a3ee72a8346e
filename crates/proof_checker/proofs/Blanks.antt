-- Of a table of values that is kept.
use Rattle.std.proofs.Common.{◌≡◌, ◌≢◌, ℕ, ◌+◌, ◌<◌, ◌≤◌, Bool, true, false, List, ◌∷◌, length, drop, get_or, Option, Some, None, refl, sym, ap, ◌∙◌, subst, inl, inr}
use Rattle.std.specs.Prelude.{◌⊎◌, ◌==◌, if◌then◌else◌}
use Rattle.std.proofs.lemmas.List.{at_drop_more}
use Rattle.std.proofs.Math.ListN.{drop_of_length-le}
use Rattle.smt_values.specs.declared.value.Value.{Value}
use Rattle.smt_values.specs.declared.value.Value.TheVariants as held
use Rattle.smt_values.specs.Held.{set_for, constant_of, function_of}
use Rattle.smt_values.specs.Held as set
use Rattle.accepted_proof.specs.Models.{value_for, interpretation_of}
use Rattle.proof_checker.specs.Blanks.{IsBlank, MeansSame}

-- the value of a declaration, by the first of the values that are left
value_here : (values : List (ℕ × Value)) (k : ℕ) (p : ℕ × Value) → k < length values → p ≡ get_or values k p → (d : ℕ) → value_for (drop k values) d ≡ (if d == p.0 then Some p.1 else value_for (drop (k + 1) values) d)
value_here values k p lt here d = at_drop_more (λ vs. value_for vs d) values k p lt ∙ ap (λ (q : ℕ × Value). value_for (q ∷ drop (k + 1) values) d) (sym here)

none_left : (values : List (ℕ × Value)) (n : ℕ) → length values ≤ n → (d : ℕ) → value_for (drop n values) d ≡ None
none_left values n le d = ap (λ vs. value_for vs d) (drop_of_length-le values le)

-- ---- values are set

pub means_none : (values : List (ℕ × Value)) (n : ℕ) (table : List (Option Value)) → length values ≤ n → ((d : ℕ) → IsBlank (set_for table d)) → (d : ℕ) → MeansSame (set_for table d) (value_for (drop n values) d)
means_none values n table le blank d = inr (blank d, none_left values n le d)

chosen : (b : Bool) (v old wanted : Option Value) → MeansSame old wanted → MeansSame (if b then v else old) (if b then v else wanted)
chosen true v old wanted h = inl refl
chosen false v old wanted h = h

pub means_more : (values : List (ℕ × Value)) (k n : ℕ) (p : ℕ × Value) (old new : List (Option Value)) → k < length values → n ≡ k + 1 → p ≡ get_or values k p → ((d : ℕ) → MeansSame (set_for old d) (value_for (drop n values) d))
    → ((d : ℕ) → set_for new d ≡ (if d == p.0 then Some p.1 else set_for old d)) → (d : ℕ) → MeansSame (set_for new d) (value_for (drop k values) d)
means_more values k n p old new lt e here before after d =
    let b : MeansSame (set_for old d) (value_for (drop (k + 1) values) d) = subst (λ x. MeansSame (set_for old d) (value_for (drop x values) d)) e (before d) in
    subst (λ x. MeansSame x (value_for (drop k values) d)) (sym (after d))
    (subst (MeansSame (if d == p.0 then Some p.1 else set_for old d)) (sym (value_here values k p lt here d)) (chosen (d == p.0) (Some p.1) (set_for old d) (value_for (drop (k + 1) values) d) b))

-- ---- and taken back

-- a blank, or one of the values that are left is of this declaration
abbrev pub IsTaken : Option Value → Option Value → Type 0
IsTaken o left = IsBlank o ⊎ (left ≢ None)

some_left : (v : Value) → Some v ≢ None
some_left v e = cc

pub taken_none : (o wanted : Option Value) → MeansSame o wanted → IsTaken o wanted
taken_none o None (inl e) = inl (inl e)
taken_none o (Some v) (inl e) = inr (some_left v)
taken_none o None (inr h) = inl h.0
taken_none o (Some v) (inr h) = inl h.0

taken_by : (b : Bool) (v w old wanted : Option Value) → IsBlank v → IsTaken old (if b then w else wanted) → IsTaken (if b then v else old) wanted
taken_by true v w old wanted blank h = inl blank
taken_by false v w old wanted blank h = h

pub taken_more : (values : List (ℕ × Value)) (k : ℕ) (p : ℕ × Value) (old new : List (Option Value)) → k < length values → p ≡ get_or values k p → ((d : ℕ) → IsTaken (set_for old d) (value_for (drop k values) d))
    → ((d : ℕ) → set_for new d ≡ (if d == p.0 then Some (held.Bool false) else set_for old d)) → (d : ℕ) → IsTaken (set_for new d) (value_for (drop (k + 1) values) d)
taken_more values k p old new lt here before after d =
    subst (λ x. IsTaken x (value_for (drop (k + 1) values) d)) (sym (after d))
    (taken_by (d == p.0) (Some (held.Bool false)) (Some p.1) (set_for old d) (value_for (drop (k + 1) values) d) (inr refl)
    (subst (IsTaken (set_for old d)) (value_here values k p lt here d) (before d)))

pub taken_all : (values : List (ℕ × Value)) (n : ℕ) (table : List (Option Value)) → length values ≤ n → ((d : ℕ) → IsTaken (set_for table d) (value_for (drop n values) d)) → (d : ℕ) → IsBlank (set_for table d)
taken_all values n table le h d = by (h d) where
  by : IsTaken (set_for table d) (value_for (drop n values) d) → IsBlank (set_for table d)
  by (inl blank) = blank
  by (inr some) = absurd (some (none_left values n le d))

-- ---- what it means

means_blank : (o : Option Value) → IsBlank o → (constant_of o ≡ constant_of None) × (function_of o ≡ function_of None)
means_blank o (inl e) = (ap constant_of e, ap function_of e)
means_blank o (inr e) = (ap constant_of e, ap function_of e)

means : (o w : Option Value) → MeansSame o w → (constant_of o ≡ constant_of w) × (function_of o ≡ function_of w)
means o w (inl e) = (ap constant_of e, ap function_of e)
means o w (inr h) = let b = means_blank o h.0 in (b.0 ∙ sym (ap constant_of h.1), b.1 ∙ sym (ap function_of h.1))

pub kept_interpretation : (table : List (Option Value)) (values : List (ℕ × Value)) → ((d : ℕ) → MeansSame (set_for table d) (value_for values d)) → set.interpretation_of table ≡ interpretation_of values
kept_interpretation table values h = λ i. record { constants = λ d. (means (set_for table d) (value_for values d) (h d)).0 i; functions = λ d. (means (set_for table d) (value_for values d) (h d)).1 i }

-- One term's value, from those of its arguments.
use Rattle.std.proofs.Common.{◌≡◌, ℕ, zero, suc, ◌+◌, ◌<◌, Bool, true, false, List, [], ◌∷◌, ◌++◌, length, map, get_or, take, refl, ap, sym, ◌∙◌, subst, arith, add-one, length-append, ⊎_elim, Result, Ok, Err}
use Rattle.std.specs.Prelude.{IsOk, is_ok, ◌||◌}
use Rattle.std.specs.List.{AllByRecursion, list_any}
use Rattle.std.proofs.Math.Seq.{take-suc}
use Rattle.std.proofs.lemmas.List.{map-append, get_or_append_left}
use Rattle.std.proofs.Math.Seq.{get_or-append_seam}
use Rattle.std.proofs.lemmas.Bool.{cases_lt}
use Rattle.smt_terms.specs.declared.sort.Sort.{Sort}
use Rattle.smt_terms.specs.declared.sort.Sort.TheVariants as sort
use Rattle.smt_terms.specs.declared.node.Op.{Op}
use Rattle.smt_terms.specs.declared.node.Op.TheVariants.{Constant, Param}
use Rattle.smt_terms.specs.declared.node.Node.{Node}
use Rattle.smt_terms.specs.declared.fault.MakeFault.{MakeFault}
use Rattle.smt_terms.specs.declared.scalar.Scalar.{Scalar}
use Rattle.smt_terms.specs.declared.scalar.Scalar.TheVariants as scalar
use Rattle.smt_terms.specs.Scalars.{scalar_value, scalar_sort}
use Rattle.smt_terms.specs.Ranks.{is_array, constant_sort, plain_sort}
use Rattle.smt_terms.specs.Nodes.{node_at}
use Rattle.smt_terms.specs.Terms.{IsSort, IsTermList, op_rank, sort_of}
use Rattle.smt_terms.specs.Values as of
use Rattle.smt_terms.proofs.Recursion.{same_map}
use Rattle.smt_terms.proofs.Typing.{typed, value_is, constant_sort_ok, plain_sort_ok}
use Rattle.smt_terms.proofs.Widths.{constant_bounded, plain_bounded}
use Rattle.smt_values.specs.declared.value.Value.{Value}
use Rattle.smt_values.specs.declared.value.Value.TheVariants as held
use Rattle.smt_values.specs.Held.{value_of, meaning, IsOfSort}
use Rattle.smt_eval.specs.Evaluated.{held_value, is_table, holds_array, kind_of, IsTyped, given, AreTaken, IsGiven, AreValues}

-- ---- lists

pub all_map_at : {X Y : Type 0} (P : Y → Type 0) (f : X → Y) (xs : List X) → AllByRecursion P (map f xs) → (k : ℕ) (d : X) → k < length xs → P (f (get_or xs k d))
all_map_at P f [] h k d lt = absurd (omega arith)
all_map_at P f (x ∷ xs) h zero d lt = h.0
all_map_at P f (x ∷ xs) h (suc k) d lt = all_map_at P f xs h.1 k d (omega arith)

pub any_map_at : {X Y : Type 0} (p : Y → Bool) (f : X → Y) (xs : List X) (k : ℕ) (d : X) → k < length xs → p (f (get_or xs k d)) ≡ true → list_any p (map f xs) ≡ true
any_map_at p f [] k d lt e = absurd (omega arith)
any_map_at p f (x ∷ xs) zero d lt e = ap (λ b. b || list_any p (map f xs)) e
any_map_at p f (x ∷ xs) (suc k) d lt e = go (p (f x)) (any_map_at p f xs k d (omega arith) e) where
  go : (b : Bool) → list_any p (map f xs) ≡ true → (b || list_any p (map f xs)) ≡ true
  go true h = refl
  go false h = h

pub map_map : {X Y Z : Type 0} (f : Y → Z) (g : X → Y) (xs : List X) → map f (map g xs) ≡ map (λ x. f (g x)) xs
map_map f g [] = refl
map_map f g (x ∷ xs) = ap (λ ys. f (g x) ∷ ys) (map_map f g xs)

pub plain_each : (vs : List Value) → AllByRecursion IsTyped vs → AllByRecursion (λ v. is_table v ≡ false) vs
plain_each [] h = tt
plain_each (v ∷ vs) h = (h.0.plain, plain_each vs h.1)

-- ---- truth values and words

scalar_meaning : (s : Scalar) → meaning (value_of s) ≡ scalar_value s
scalar_meaning (scalar.Bool b) = refl
scalar_meaning (scalar.Word w) = refl

scalar_kind : (s : Scalar) → kind_of (value_of s) ≡ scalar_sort s
scalar_kind (scalar.Bool b) = refl
scalar_kind (scalar.Word w) = refl

scalar_plain : (s : Scalar) → is_table (value_of s) ≡ false
scalar_plain (scalar.Bool b) = refl
scalar_plain (scalar.Word w) = refl

pub scalar_meanings : (ss : List Scalar) → map meaning (map value_of ss) ≡ map scalar_value ss
scalar_meanings [] = refl
scalar_meanings (s ∷ ss) = rw (scalar_meaning s, scalar_meanings ss) refl

pub scalar_kinds : (ss : List Scalar) → map kind_of (map value_of ss) ≡ map scalar_sort ss
scalar_kinds [] = refl
scalar_kinds (s ∷ ss) = rw (scalar_kind s, scalar_kinds ss) refl

pub given_scalar : (M : of.Interpretation) (op : Op) (ss : List Scalar) (r : Scalar) (v : Value) → v ≡ value_of r → of.op_value M op (map scalar_value ss) ≡ scalar_value r → IsGiven M op (map value_of ss) v
given_scalar M op ss r v e h = record {
  plain = ap is_table e ∙ scalar_plain r;
  value = ap meaning e ∙ scalar_meaning r ∙ sym h ∙ ap (of.op_value M op) (sym (scalar_meanings ss));
}

-- one more argument is gathered
pub gathered : (values : List Value) (args : List ℕ) (ss : List Scalar) (s : Scalar) (k : ℕ) → map value_of ss ≡ map (held_value values) (take k args) → k < length args → held_value values (get_or args k 0) ≡ value_of s → map value_of (ss ++ s ∷ []) ≡ map (held_value values) (take (k + 1) args)
gathered values args ss s k h lt e =
    map-append value_of ss (s ∷ [])
    ∙ ap (λ l. l ++ value_of s ∷ []) h
    ∙ ap (λ v. map (held_value values) (take k args) ++ v ∷ []) (sym e)
    ∙ sym (map-append (held_value values) (take k args) (get_or args k 0 ∷ []))
    ∙ ap (map (held_value values)) (sym (take-suc args k 0 lt))
    ∙ ap (λ n. map (held_value values) (take n args)) (sym (add-one k))

kind_array : (v : Value) → is_array (kind_of v) ≡ holds_array v
kind_array (held.Bool b) = refl
kind_array (held.Word w) = refl
kind_array (held.Array a) = refl
kind_array (held.Fun t) = refl

-- an array among values is one among their kinds
pub kinds_array : (vs : List Value) → list_any is_array (map kind_of vs) ≡ list_any holds_array vs
kinds_array [] = refl
kinds_array (v ∷ vs) = rw (kind_array v, kinds_array vs) refl

-- ---- declarations

pub constant_taken : (d : ℕ) (s : Sort) (ss : List Sort) → IsOk (op_rank (Constant d s) ss) → IsSort s
constant_taken d s [] ok = go (constant_sort s) refl ok where
  go : (r : Result Sort MakeFault) → constant_sort s ≡ r → IsOk r → IsSort s
  go (Ok t) e k = subst IsSort (sym (constant_sort_ok s t e)) (constant_bounded s t e)
  go (Err f) e k = let q : ⊥ = cc in absurd q
constant_taken d s (x ∷ ss) ok = let q : ⊥ = cc in absurd q

pub param_taken : (k : ℕ) (s : Sort) (ss : List Sort) → IsOk (op_rank (Param k s) ss) → IsSort s
param_taken k s [] ok = go (plain_sort s) refl ok where
  go : (r : Result Sort MakeFault) → plain_sort s ≡ r → IsOk r → IsSort s
  go (Ok t) e k = subst IsSort (sym (plain_sort_ok s t e)) (plain_bounded s t e)
  go (Err f) e k = let q : ⊥ = cc in absurd q
param_taken k s (x ∷ ss) ok = let q : ⊥ = cc in absurd q

pub sort_plain : (s : Sort) (v : Value) → IsOfSort s v → is_table v ≡ false
sort_plain s (held.Bool b) h = refl
sort_plain s (held.Word w) h = refl
sort_plain s (held.Array a) h = refl
sort_plain s (held.Fun t) h = absurd h

-- ---- terms

pub kind_is : (s : Sort) (v : Value) → is_table v ≡ false → of.HasSort s (meaning v) → kind_of v ≡ s
kind_is sort.Bool (held.Bool b) p h = refl
kind_is sort.Bool (held.Word w) p h = let e = h.1 in cc
kind_is sort.Bool (held.Array a) p h = let e = h.1 in cc
kind_is (sort.Word n) (held.Bool b) p h = let e = h.1 in cc
kind_is (sort.Word n) (held.Word w) p h = let e = h.1 in cc
kind_is (sort.Word n) (held.Array a) p h = let e = h.1 in cc
kind_is (sort.Array n m) (held.Bool b) p h = let e = h.1 in cc
kind_is (sort.Array n m) (held.Word w) p h = let e = h.1 in cc
kind_is (sort.Array n m) (held.Array a) p h = let e = h.1 in cc
kind_is s (held.Fun t) p h = let q : ⊥ = cc in absurd q

pub of_kind : (s : Sort) (v : Value) → is_table v ≡ false → of.HasSort s (meaning v) → IsOfSort s v
of_kind s v p h = go v p (kind_is s v p h) where
  go : (w : Value) → is_table w ≡ false → kind_of w ≡ s → IsOfSort s w
  go (held.Bool b) q e = sym e
  go (held.Word w) q e = sym e
  go (held.Array a) q e = sym e
  go (held.Fun t) q e = let f : ⊥ = cc in absurd f

-- the values of the terms below a number are held
pub record AreHeldBelow (M : of.Interpretation) (nodes : List Node) (values : List Value) (n : ℕ) : Type 0 where
  pub count : length values ≡ n
  pub plain : (t : ℕ) → t < n → is_table (held_value values t) ≡ false
  pub means : (t : ℕ) → t < n → meaning (held_value values t) ≡ of.value M nodes t

module _ (M : of.Interpretation) (nodes : List Node) (values : List Value) (terms : IsTermList nodes) (n : ℕ) (h : AreHeldBelow M nodes values n) (within : n < length nodes) where
  sorted : (a : ℕ) → a < n → of.HasSort (sort_of nodes a) (meaning (held_value values a))
  sorted a lt = subst (of.HasSort (sort_of nodes a)) (sym (h.means a lt)) (typed M nodes terms a (omega arith))

  kind : (a : ℕ) → a < n → kind_of (held_value values a) ≡ sort_of nodes a
  kind a lt = kind_is (sort_of nodes a) (held_value values a) (h.plain a lt) (sorted a lt)

  each_typed : (args : List ℕ) → AllByRecursion (λ a. a < n) args → AllByRecursion IsTyped (given values args)
  each_typed [] lt = tt
  each_typed (a ∷ args) lt = (record { plain = h.plain a lt.0; sorted = subst (λ s. of.HasSort s (meaning (held_value values a))) (sym (kind a lt.0)) (sorted a lt.0) }, each_typed args lt.1)

  -- the next term's arguments are taken
  pub next_taken : AreTaken (node_at nodes n).op (given values (node_at nodes n).args)
  next_taken =
      let own = terms n within in
      let args = (node_at nodes n).args in
      let kinds : map kind_of (given values args) ≡ map (sort_of nodes) args = map_map kind_of (held_value values) args ∙ same_map (λ a. a < n) (λ a. kind_of (held_value values a)) (sort_of nodes) kind args own.earlier in
      record {
        typed = each_typed args own.earlier;
        rank = ap is_ok (ap (op_rank (node_at nodes n).op) kinds ∙ own.rank);
      }

  -- what is given for them is its value
  pub next_value : (v : Value) → IsGiven M (node_at nodes n).op (given values (node_at nodes n).args) v → meaning v ≡ of.value M nodes n
  next_value v g =
      let own = terms n within in
      let args = (node_at nodes n).args in
      let same : map meaning (given values args) ≡ map (of.value M nodes) args = map_map meaning (held_value values) args ∙ same_map (λ a. a < n) (λ a. meaning (held_value values a)) (of.value M nodes) h.means args own.earlier in
      g.value ∙ ap (of.op_value M (node_at nodes n).op) same ∙ sym (value_is M nodes n own)

pub none_below : (M : of.Interpretation) (nodes : List Node) → AreHeldBelow M nodes [] 0
none_below M nodes = record { count = refl; plain = λ t lt. absurd (omega arith); means = λ t lt. absurd (omega arith) }

-- one more is held
pub next_below : (M : of.Interpretation) (nodes : List Node) (values : List Value) (n : ℕ) (v : Value) → AreHeldBelow M nodes values n → is_table v ≡ false → meaning v ≡ of.value M nodes n → AreHeldBelow M nodes (values ++ v ∷ []) (n + 1)
next_below M nodes values n v h p e = record {
  count = omega (arith, length-append values (v ∷ []), h.count);
  plain = λ t lt. each (λ w k. is_table w ≡ false) (λ k less. h.plain k less) p t lt;
  means = λ t lt. each (λ w k. meaning w ≡ of.value M nodes k) (λ k less. h.means k less) e t lt;
} where
  each : (P : Value → ℕ → Type 0) → ((k : ℕ) → k < n → P (held_value values k) k) → P v n → (t : ℕ) → t < n + 1 → P (held_value (values ++ v ∷ []) t) t
  each P old new t lt = ⊎_elim
      (λ less. let c = h.count in subst (λ w. P w t) (sym (get_or_append_left values (v ∷ []) (held.Bool false) t (omega arith))) (old t less))
      (λ le.
      let c = h.count in
      let last : t ≡ length values = omega arith in
      let same : n ≡ t = omega arith in
      subst (λ k. P (held_value (values ++ v ∷ []) k) k) (sym last) (subst (λ w. P w (length values)) (sym (get_or-append_seam values v [] (held.Bool false))) (subst (λ k. P v k) (same ∙ last) new)))
      (cases_lt t n)

-- all are held
pub all_held : (M : of.Interpretation) (nodes : List Node) (values : List Value) (n : ℕ) → IsTermList nodes → AreHeldBelow M nodes values n → n ≡ length nodes → AreValues M nodes values
all_held M nodes values n terms h e = record {
  count = h.count ∙ e;
  means = λ t lt. h.means t (omega arith);
  sorted = λ t lt. of_kind (sort_of nodes t) (held_value values t) (h.plain t (omega arith)) (subst (of.HasSort (sort_of nodes t)) (sym (h.means t (omega arith))) (typed M nodes terms t lt));
}

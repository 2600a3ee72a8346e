-- Which sorts the arguments of an operator have, by its rank.
use Rattle.std.proofs.Common.{◌≡◌, ℕ, suc, pred, true, List, [], ◌∷◌, length, refl, sym, ap, ◌∙◌, subst, Some, Result, Ok}
use Rattle.std.specs.Prelude.{◌&&◌, map}
use Rattle.std.specs.List.{AllByRecursion}
use Rattle.std.proofs.lemmas.Bool.{and_parts}
use Rattle.smt_terms.specs.declared.sort.Sort.{Sort}
use Rattle.smt_terms.specs.declared.sort.Sort.TheVariants as sort
use Rattle.smt_terms.specs.declared.operator.Operator.TheVariants as plain
use Rattle.smt_terms.specs.declared.node.Op.TheVariants.{Plain, ConstantArray, Constant, Apply}
use Rattle.smt_terms.specs.declared.sort.Signature.{Signature}
use Rattle.smt_terms.specs.declared.fault.MakeFault.{MakeFault}
use Rattle.smt_terms.specs.Same.{same_sort, sort_same}
use Rattle.smt_terms.specs.Ranks.{is_plain, ranked, each_of, plain_sort}
use Rattle.smt_terms.specs.Terms.{op_rank}
use Rattle.smt_terms.specs.Values.{Value, applied, collected}
use Rattle.smt_terms.proofs.Typing.{guard_ok, constant_sort_ok, plain_sort_ok}
use Rattle.theory_terms.specs.Shapes.{IsPlain}

pub ok_is : (t s : Sort) → (let r : Result Sort MakeFault = Ok t in r) ≡ Ok s → s ≡ t
ok_is t s e = cc

pub plain_is : (s : Sort) → is_plain s ≡ true → IsPlain s
plain_is sort.Bool h = tt
plain_is (sort.Word n) h = tt
plain_is (sort.Array n m) h = let f : ⊥ = cc in absurd f

pub select_rank : (p q r : Sort) → op_rank (Plain plain.Select) (p ∷ q ∷ []) ≡ Ok r → (n : ℕ) × (m : ℕ) × (p ≡ sort.Array n m) × (q ≡ sort.Word n) × (r ≡ sort.Word m)
select_rank sort.Bool q r e = let f : ⊥ = cc in absurd f
select_rank (sort.Word n) q r e = let f : ⊥ = cc in absurd f
select_rank (sort.Array n m) q r e =
    let g = guard_ok (same_sort (sort.Word n) q) (Ok (sort.Word m)) _ r e in
    (n, m, refl, sym (sort_same (sort.Word n) q g.0), ok_is (sort.Word m) r g.1)

pub store_rank : (p q x r : Sort) → op_rank (Plain plain.Store) (p ∷ q ∷ x ∷ []) ≡ Ok r → (n : ℕ) × (m : ℕ) × (p ≡ sort.Array n m) × (q ≡ sort.Word n) × (x ≡ sort.Word m) × (r ≡ sort.Array n m)
store_rank sort.Bool q x r e = let f : ⊥ = cc in absurd f
store_rank (sort.Word n) q x r e = let f : ⊥ = cc in absurd f
store_rank (sort.Array n m) q x r e =
    let g = guard_ok (same_sort (sort.Word n) q) _ _ r e in
    let h = guard_ok (same_sort (sort.Word m) x) (Ok (sort.Array n m)) _ r g.1 in
    (n, m, refl, sym (sort_same (sort.Word n) q g.0), sym (sort_same (sort.Word m) x h.0), ok_is (sort.Array n m) r h.1)

pub filling_rank : (k : ℕ) (p r : Sort) → op_rank (ConstantArray k) (p ∷ []) ≡ Ok r → (m : ℕ) × (p ≡ sort.Word m) × (r ≡ sort.Array k m)
filling_rank k sort.Bool r e = let f : ⊥ = cc in absurd f
filling_rank k (sort.Word m) r e = (m, refl, sym (constant_sort_ok (sort.Array k m) r e))
filling_rank k (sort.Array n m) r e = let f : ⊥ = cc in absurd f

pub choice_rank : (c p q r : Sort) → op_rank (Plain plain.Ite) (c ∷ p ∷ q ∷ []) ≡ Ok r → (c ≡ sort.Bool) × (p ≡ r) × (q ≡ r)
choice_rank c p q r e =
    let g = guard_ok (same_sort sort.Bool c) _ _ r e in
    let h = guard_ok (same_sort p q) (Ok p) _ r g.1 in
    let k = ok_is p r h.1 in
    (sym (sort_same sort.Bool c g.0), sym k, sym (sort_same p q h.0) ∙ sym k)

pub equal_rank : (p q r : Sort) → op_rank (Plain plain.Equal) (p ∷ q ∷ []) ≡ Ok r → (p ≡ q) × (r ≡ sort.Bool)
equal_rank p q r e =
    let g = guard_ok (same_sort p q) (Ok sort.Bool) _ r e in
    (sort_same p q g.0, ok_is sort.Bool r g.1)

pub witness_rank : (p q r : Sort) → op_rank (Plain plain.Witness) (p ∷ q ∷ []) ≡ Ok r → (n : ℕ) × (m : ℕ) × (p ≡ sort.Array n m) × (q ≡ sort.Array n m) × (r ≡ sort.Word n)
witness_rank sort.Bool q r e = let f : ⊥ = cc in absurd f
witness_rank (sort.Word n) q r e = let f : ⊥ = cc in absurd f
witness_rank (sort.Array n m) q r e =
    let g = guard_ok (same_sort (sort.Array n m) q) (Ok (sort.Word n)) _ r e in
    (n, m, refl, sym (sort_same (sort.Array n m) q g.0), ok_is (sort.Word n) r g.1)

each_rank : (gs : List Sort) (given : Result Sort MakeFault) (k : ℕ) (ss : List Sort) (r : Sort) → ranked (each_of gs given) k (map Some ss) ≡ Ok r → (ss ≡ gs) × AllByRecursion IsPlain ss × (given ≡ Ok r)
each_rank [] given k [] r e = (refl, tt, e)
each_rank [] given k (s ∷ ss) r e = let f : ⊥ = cc in absurd f
each_rank (g ∷ gs) given k [] r e = let f : ⊥ = cc in absurd f
each_rank (g ∷ gs) given k (s ∷ ss) r e =
    let h = guard_ok (is_plain g && same_sort g s) _ _ r e in
    let p = and_parts (is_plain g) (same_sort g s) h.0 in
    let same : g ≡ s = sort_same g s p.1 in
    let rest = each_rank gs given (suc k) ss r h.1 in
    (rw (sym same, rest.0) refl, (rw (sym same) (plain_is g p.0), rest.1), rest.2)

pub plain_sort_plain : (s r : Sort) → plain_sort s ≡ Ok r → IsPlain r
plain_sort_plain sort.Bool r h = subst IsPlain (plain_sort_ok sort.Bool r h) tt
plain_sort_plain (sort.Word n) r h = subst IsPlain (plain_sort_ok (sort.Word n) r h) tt
plain_sort_plain (sort.Array n m) r h = let f : ⊥ = cc in absurd f

pub apply_rank : (d : ℕ) (g : Signature) (ss : List Sort) (r : Sort) → op_rank (Apply d g) ss ≡ Ok r → (ss ≡ g.args) × AllByRecursion IsPlain ss × (r ≡ g.value) × IsPlain r
apply_rank d g ss r e = go g.args e where
  given : plain_sort g.value ≡ Ok r → (r ≡ g.value) × IsPlain r
  given h = (sym (plain_sort_ok g.value r h), plain_sort_plain g.value r h)

  go : (as' : List Sort) → op_rank (Apply d (record { args = as'; value = g.value })) ss ≡ Ok r → (ss ≡ as') × AllByRecursion IsPlain ss × (r ≡ g.value) × IsPlain r
  go [] h = bad ss h where
    bad : (ss : List Sort) → op_rank (Apply d (record { args = []; value = g.value })) ss ≡ Ok r → (ss ≡ []) × AllByRecursion IsPlain ss × (r ≡ g.value) × IsPlain r
    bad [] h = let f : ⊥ = cc in absurd f
    bad (s ∷ ss) h = let f : ⊥ = cc in absurd f
  go (s ∷ as') h =
      let k = each_rank (s ∷ as') (plain_sort g.value) 0 ss r h in
      let p = given k.2 in
      (k.0, k.1, p.0, p.1)

pub constant_rank : (d : ℕ) (q : Sort) (ss : List Sort) (r : Sort) → op_rank (Constant d q) ss ≡ Ok r → r ≡ q
constant_rank d q [] r e = sym (constant_sort_ok q r e)
constant_rank d q (s ∷ ss) r e = let f : ⊥ = cc in absurd f

-- a function of as many arguments as there are sorts
pub collected_is : (ss : List Sort) (f : List Value → Value) (vs : List Value) → length vs ≡ length ss → applied (collected ss f) vs ≡ f vs
collected_is [] f [] e = refl
collected_is [] f (v ∷ vs) e = let z : ⊥ = cc in absurd z
collected_is (s ∷ ss) f [] e = let z : ⊥ = cc in absurd z
collected_is (s ∷ ss) f (v ∷ vs) e = collected_is ss (λ ws. f (v ∷ ws)) vs (ap pred e)

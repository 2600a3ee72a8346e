-- What an evaluation gives a term whose operator and arguments a rule sees.
use Rattle.std.proofs.Common.{◌≡◌, ℕ, ◌-◌, ◌^◌, ◌<◌, ◌≤◌, Bool, true, false, List, [], ◌∷◌, length, map, refl, sym, ap, ◌∙◌, subst, arith, Some, Result, Ok}
use Rattle.std.specs.Prelude.{◌==◌, ◌&&◌, ◌||◌, nat_lt, slice_index_or}
use Rattle.std.specs.Int.{w128, trailing_zeros}
use Rattle.std.specs.List.{AllByRecursion}
use Rattle.std.proofs.lemmas.Bool.{eqb-true, leb-true, and_parts}
use Rattle.smt_terms.specs.declared.sort.Sort.{Sort}
use Rattle.smt_terms.specs.declared.sort.Sort.TheVariants as sort
use Rattle.smt_terms.specs.declared.operator.Operator.{Operator}
use Rattle.smt_terms.specs.declared.operator.Operator.TheVariants as plain
use Rattle.smt_terms.specs.declared.node.Op.{Op}
use Rattle.smt_terms.specs.declared.node.Op.TheVariants.{Plain, Word}
use Rattle.smt_terms.specs.declared.node.Node.{Node}
use Rattle.smt_terms.specs.declared.rank.Demand.{Demand}
use Rattle.smt_terms.specs.declared.rank.Demand.TheVariants.{AnyWord, Exactly}
use Rattle.smt_terms.specs.declared.fault.MakeFault.{MakeFault}
use Rattle.smt_terms.specs.Operators.{same_operator}
use Rattle.smt_terms.specs.Same.{sort_same, op_same}
use Rattle.smt_terms.specs.Nodes.{node_at}
use Rattle.smt_terms.specs.Ranks.{is_word, width_of, allows, Gives, Takes, ranked, rank_of, one_word, two_words, operator_rank}
use Rattle.smt_terms.specs.Terms.{IsSort, op_rank, sort_of, IsTermList}
use Rattle.smt_terms.specs.Values.{Value, VWord, HasSort, number_of, width_in, Interpretation, applied, word_of, words_of, operator_meaning, meaning_of, op_value}
use Rattle.smt_terms.specs.Evaluations.{is_witness, IsEvaluation}
use Rattle.smt_terms.proofs.Typing.{guard_ok}
use Rattle.smt_terms.proofs.Widths.{sort_bounded}
use Rattle.bv_rules.specs.declared.reading.Constant.{Constant}
use Rattle.bv_rules.specs.declared.reading.Constant.TheVariants as bits
use Rattle.bv_rules.specs.Reading.{commutes, is_number, is_ones, is_constant, exponent_in, is_power, is_past, op_at, arg}
use Rattle.bv_rules.specs.Rules.{is, on}

-- an evaluation of the terms of a list
pub record Context : Type 0 where
  pub M : Interpretation
  pub nodes : List Node
  pub v : ℕ → Value
  pub terms : IsTermList nodes
  pub evaluation : IsEvaluation M nodes v

-- ---- tests

pub or_cases : {C : Type 0} (b c : Bool) → (b || c) ≡ true → (b ≡ true → C) → (c ≡ true → C) → C
or_cases true c e f g = f refl
or_cases false c e f g = g e

pub never : {C : Type 0} → false ≡ true → C
never e = let q : ⊥ = cc in absurd q

-- ---- words that stand in an operator

pub number_op : (m : ℕ) (o : Op) → is_number m o ≡ true → (n : ℕ) × (o ≡ Word n m)
number_op m (Word n x) e = (n, ap (Word n) (eqb-true x m e))
number_op m _ e = let q : ⊥ = cc in absurd q

ones_op : (o : Op) → is_ones o ≡ true → (n : ℕ) × (o ≡ Word n (2 ^ n - 1))
ones_op (Word n x) e = (n, ap (Word n) (eqb-true x (2 ^ n - 1) e))
ones_op _ e = let q : ⊥ = cc in absurd q

abbrev pub constant_of : Constant → ℕ → ℕ
constant_of bits.Zero n = 0
constant_of bits.One n = 1
constant_of bits.Ones n = 2 ^ n - 1

constant_op : (z : Constant) (o : Op) → is_constant z o ≡ true → (n : ℕ) × (o ≡ Word n (constant_of z n))
constant_op bits.Zero o e = number_op 0 o e
constant_op bits.One o e = number_op 1 o e
constant_op bits.Ones o e = ones_op o e

power_op : (o : Op) → is_power o ≡ true → (n : ℕ) × (o ≡ Word n (2 ^ exponent_in o))
power_op (Word n x) e =
    let k = trailing_zeros w128 x in
    let p = and_parts (nat_lt 0 k) (nat_lt k n && (x == 2 ^ k)) e in
    let q = and_parts (nat_lt k n) (x == 2 ^ k) p.1 in
    (n, ap (Word n) (eqb-true x (2 ^ k) q.1))
power_op _ e = let q : ⊥ = cc in absurd q

past_op : (o : Op) → is_past o ≡ true → (n : ℕ) × (x : ℕ) × (o ≡ Word n x) × (n ≤ x)
past_op (Word n x) e = (n, x, refl, leb-true n x e)
past_op _ e = let q : ⊥ = cc in absurd q

-- ---- arguments, by ranks

one_is : (f : ℕ → Sort) (args : List ℕ) (p : Sort) → map f args ≡ p ∷ [] → (args ≡ slice_index_or args 0 0 ∷ []) × (f (slice_index_or args 0 0) ≡ p)
one_is f [] p e = let q : ⊥ = cc in absurd q
one_is f (a ∷ []) p e = let q : f a ≡ p = cc in (refl, q)
one_is f (a ∷ b ∷ args) p e = let q : ⊥ = cc in absurd q

two_is : (f : ℕ → Sort) (args : List ℕ) (p q : Sort) → map f args ≡ p ∷ q ∷ [] → (args ≡ slice_index_or args 0 0 ∷ slice_index_or args 1 0 ∷ []) × (f (slice_index_or args 0 0) ≡ p) × (f (slice_index_or args 1 0) ≡ q)
two_is f [] p q e = let z : ⊥ = cc in absurd z
two_is f (a ∷ []) p q e = let z : ⊥ = cc in absurd z
two_is f (a ∷ b ∷ []) p q e = let x : f a ≡ p = cc in let y : f b ≡ q = cc in (refl, x, y)
two_is f (a ∷ b ∷ c ∷ args) p q e = let z : ⊥ = cc in absurd z

three_is : (f : ℕ → Sort) (args : List ℕ) (p q r : Sort) → map f args ≡ p ∷ q ∷ r ∷ [] → (args ≡ slice_index_or args 0 0 ∷ slice_index_or args 1 0 ∷ slice_index_or args 2 0 ∷ []) × (f (slice_index_or args 0 0) ≡ p) × (f (slice_index_or args 1 0) ≡ q) × (f (slice_index_or args 2 0) ≡ r)
three_is f [] p q r e = let z : ⊥ = cc in absurd z
three_is f (a ∷ []) p q r e = let z : ⊥ = cc in absurd z
three_is f (a ∷ b ∷ []) p q r e = let z : ⊥ = cc in absurd z
three_is f (a ∷ b ∷ c ∷ []) p q r e = let x : f a ≡ p = cc in let y : f b ≡ q = cc in let z : f c ≡ r = cc in (refl, x, y, z)
three_is f (a ∷ b ∷ c ∷ d ∷ args) p q r e = let z : ⊥ = cc in absurd z

one_taken : (d : Demand) (g : Sort → Result Sort MakeFault) (ss : List Sort) (s : Sort) → ranked (Takes d λ p. Gives (g p)) 0 (map Some ss) ≡ Ok s → (p : Sort) × (ss ≡ p ∷ []) × (allows d p ≡ true) × (g p ≡ Ok s)
one_taken d g [] s r = let z : ⊥ = cc in absurd z
one_taken d g (p ∷ []) s r = let a = guard_ok (allows d p) (g p) _ s r in (p, refl, a.0, a.1)
one_taken d g (p ∷ q ∷ ss) s r = let a = guard_ok (allows d p) _ _ s r in let e = a.1 in let z : ⊥ = cc in absurd z

two_taken : (d : Demand) (e : Sort → Demand) (g : Sort → Sort → Result Sort MakeFault) (ss : List Sort) (s : Sort) → ranked (Takes d λ p. Takes (e p) λ q. Gives (g p q)) 0 (map Some ss) ≡ Ok s → (p : Sort) × (q : Sort) × (ss ≡ p ∷ q ∷ []) × (allows d p ≡ true) × (allows (e p) q ≡ true) × (g p q ≡ Ok s)
two_taken d e g [] s r = let z : ⊥ = cc in absurd z
two_taken d e g (p ∷ []) s r = let a = guard_ok (allows d p) _ _ s r in let x = a.1 in let z : ⊥ = cc in absurd z
two_taken d e g (p ∷ q ∷ []) s r =
    let a = guard_ok (allows d p) _ _ s r in
    let b = guard_ok (allows (e p) q) (g p q) _ s a.1 in
    (p, q, refl, a.0, b.0, b.1)
two_taken d e g (p ∷ q ∷ o ∷ ss) s r =
    let a = guard_ok (allows d p) _ _ s r in
    let b = guard_ok (allows (e p) q) _ _ s a.1 in
    let x = b.1 in
    let z : ⊥ = cc in absurd z

three_taken : (d : Demand) (e : Sort → Demand) (f : Sort → Sort → Demand) (g : Sort → Sort → Sort → Result Sort MakeFault) (ss : List Sort) (s : Sort) → ranked (Takes d λ p. Takes (e p) λ q. Takes (f p q) λ o. Gives (g p q o)) 0 (map Some ss) ≡ Ok s → (p : Sort) × (q : Sort) × (o : Sort) × (ss ≡ p ∷ q ∷ o ∷ []) × (allows d p ≡ true) × (allows (e p) q ≡ true) × (allows (f p q) o ≡ true) × (g p q o ≡ Ok s)
three_taken d e f g [] s r = let z : ⊥ = cc in absurd z
three_taken d e f g (p ∷ []) s r = let a = guard_ok (allows d p) _ _ s r in let x = a.1 in let z : ⊥ = cc in absurd z
three_taken d e f g (p ∷ q ∷ []) s r =
    let a = guard_ok (allows d p) _ _ s r in
    let b = guard_ok (allows (e p) q) _ _ s a.1 in
    let x = b.1 in
    let z : ⊥ = cc in absurd z
three_taken d e f g (p ∷ q ∷ o ∷ []) s r =
    let a = guard_ok (allows d p) _ _ s r in
    let b = guard_ok (allows (e p) q) _ _ s a.1 in
    let c = guard_ok (allows (f p q) o) (g p q o) _ s b.1 in
    (p, q, o, refl, a.0, b.0, c.0, c.1)
three_taken d e f g (p ∷ q ∷ o ∷ w ∷ ss) s r =
    let a = guard_ok (allows d p) _ _ s r in
    let b = guard_ok (allows (e p) q) _ _ s a.1 in
    let c = guard_ok (allows (f p q) o) _ _ s b.1 in
    let x = c.1 in
    let z : ⊥ = cc in absurd z

pub word_is : (s : Sort) → is_word s ≡ true → s ≡ sort.Word (width_of s)
word_is sort.Bool e = never e
word_is (sort.Word n) e = refl
word_is (sort.Array n m) e = never e

pub ok_is : (t s : Sort) → (let r : Result Sort MakeFault = Ok t in r) ≡ Ok s → s ≡ t
ok_is t s e = cc

-- ---- terms

-- a word
pub record WordAt (k : Context) (t n : ℕ) : Type 0 where
  pub held : t < length k.nodes
  pub sort : sort_of k.nodes t ≡ sort.Word n
  pub number : ℕ
  pub is : k.v t ≡ VWord n number
  pub fits : number < 2 ^ n
  pub width : (1 ≤ n) × (n ≤ 128)

-- an operator on one, two or three terms, by its rank
pub record One (k : Context) (d : Demand) (g : Sort → Result Sort MakeFault) (t : ℕ) : Type 0 where
  pub args : (node_at k.nodes t).args ≡ arg k.nodes 0 t ∷ []
  pub held : arg k.nodes 0 t < length k.nodes
  pub allowed : allows d (sort_of k.nodes (arg k.nodes 0 t)) ≡ true
  pub gives : g (sort_of k.nodes (arg k.nodes 0 t)) ≡ Ok (sort_of k.nodes t)

pub record Two (k : Context) (d : Demand) (e : Sort → Demand) (g : Sort → Sort → Result Sort MakeFault) (t : ℕ) : Type 0 where
  pub args : (node_at k.nodes t).args ≡ arg k.nodes 0 t ∷ arg k.nodes 1 t ∷ []
  pub first : arg k.nodes 0 t < length k.nodes
  pub second : arg k.nodes 1 t < length k.nodes
  pub left : allows d (sort_of k.nodes (arg k.nodes 0 t)) ≡ true
  pub right : allows (e (sort_of k.nodes (arg k.nodes 0 t))) (sort_of k.nodes (arg k.nodes 1 t)) ≡ true
  pub gives : g (sort_of k.nodes (arg k.nodes 0 t)) (sort_of k.nodes (arg k.nodes 1 t)) ≡ Ok (sort_of k.nodes t)

pub record Three (k : Context) (d : Demand) (e : Sort → Demand) (f : Sort → Sort → Demand) (g : Sort → Sort → Sort → Result Sort MakeFault) (t : ℕ) : Type 0 where
  pub args : (node_at k.nodes t).args ≡ arg k.nodes 0 t ∷ arg k.nodes 1 t ∷ arg k.nodes 2 t ∷ []
  pub first : arg k.nodes 0 t < length k.nodes
  pub second : arg k.nodes 1 t < length k.nodes
  pub third : arg k.nodes 2 t < length k.nodes
  pub left : allows d (sort_of k.nodes (arg k.nodes 0 t)) ≡ true
  pub middle : allows (e (sort_of k.nodes (arg k.nodes 0 t))) (sort_of k.nodes (arg k.nodes 1 t)) ≡ true
  pub right : allows (f (sort_of k.nodes (arg k.nodes 0 t)) (sort_of k.nodes (arg k.nodes 1 t))) (sort_of k.nodes (arg k.nodes 2 t)) ≡ true
  pub gives : g (sort_of k.nodes (arg k.nodes 0 t)) (sort_of k.nodes (arg k.nodes 1 t)) (sort_of k.nodes (arg k.nodes 2 t)) ≡ Ok (sort_of k.nodes t)

-- what a function of a word's width and number gives for a value
abbrev pub on_word : (ℕ → ℕ → Value) → Value → Value
on_word f w = f (width_in w) (number_of w)

pub record OfWord (k : Context) (f : ℕ → ℕ → Value) (h : ℕ → Result Sort MakeFault) (t : ℕ) : Type 0 where
  pub n : ℕ
  pub word : WordAt k (arg k.nodes 0 t) n
  pub value : k.v t ≡ on_word f (k.v (arg k.nodes 0 t))
  pub gives : h n ≡ Ok (sort_of k.nodes t)

module _ (k : Context) where
  pub word_at : (t n : ℕ) → t < length k.nodes → sort_of k.nodes t ≡ sort.Word n → WordAt k t n
  word_at t n lt e =
      let h : HasSort (sort.Word n) (k.v t) = subst (λ q. HasSort q (k.v t)) e (k.evaluation.sorted t lt) in
      let w : IsSort (sort.Word n) = subst IsSort e (sort_bounded k.nodes k.terms t lt) in
      record { held = lt; sort = e; number = h.0; is = h.1; fits = h.2; width = w }

  pub op_is : (o : Operator) (t : ℕ) → is k.nodes o t ≡ true → op_at k.nodes t ≡ Plain o
  op_is o t h = op_same (op_at k.nodes t) (Plain o) h

  pub value_by : (o : Op) (t : ℕ) (args : List ℕ) → t < length k.nodes → op_at k.nodes t ≡ o → is_witness o ≡ false → (node_at k.nodes t).args ≡ args → k.v t ≡ op_value k.M o (map k.v args)
  value_by o t args lt e w a =
      k.evaluation.means t lt (ap is_witness e ∙ w)
      ∙ (λ i. op_value k.M (e i) (map k.v (a i)))

  rank_by : (o : Op) (t : ℕ) → t < length k.nodes → op_at k.nodes t ≡ o → op_rank o (map (sort_of k.nodes) (node_at k.nodes t).args) ≡ Ok (sort_of k.nodes t)
  rank_by o t lt e = ap (λ p. op_rank p (map (sort_of k.nodes) (node_at k.nodes t).args)) (sym e) ∙ (k.terms t lt).rank

  earlier_in : (t : ℕ) (args : List ℕ) → t < length k.nodes → (node_at k.nodes t).args ≡ args → AllByRecursion (λ a. a < t) args
  earlier_in t args lt e = subst (AllByRecursion (λ a. a < t)) e (k.terms t lt).earlier

  pub one_at : (d : Demand) (g : Sort → Result Sort MakeFault) (o : Op) (t : ℕ) → rank_of o ≡ (Takes d λ p. Gives (g p)) → t < length k.nodes → op_at k.nodes t ≡ o → One k d g t
  one_at d g o t r lt e =
      let args = (node_at k.nodes t).args in
      let h = one_taken d g (map (sort_of k.nodes) args) (sort_of k.nodes t) (ap (λ x. ranked x 0 (map Some (map (sort_of k.nodes) args))) (sym r) ∙ rank_by o t lt e) in
      let w = one_is (sort_of k.nodes) args h.0 h.1 in
      let early = earlier_in t (arg k.nodes 0 t ∷ []) lt w.0 in
      record { args = w.0; held = omega (arith, early.0, lt); allowed = ap (allows d) w.1 ∙ h.2; gives = ap g w.1 ∙ h.3 }

  pub two_at : (d : Demand) (f : Sort → Demand) (g : Sort → Sort → Result Sort MakeFault) (o : Op) (t : ℕ) → rank_of o ≡ (Takes d λ p. Takes (f p) λ q. Gives (g p q)) → t < length k.nodes → op_at k.nodes t ≡ o → Two k d f g t
  two_at d f g o t r lt e =
      let args = (node_at k.nodes t).args in
      let h = two_taken d f g (map (sort_of k.nodes) args) (sort_of k.nodes t) (ap (λ x. ranked x 0 (map Some (map (sort_of k.nodes) args))) (sym r) ∙ rank_by o t lt e) in
      let w = two_is (sort_of k.nodes) args h.0 h.1 h.2 in
      let early = earlier_in t (arg k.nodes 0 t ∷ arg k.nodes 1 t ∷ []) lt w.0 in
      record {
        args = w.0;
        first = omega (arith, early.0, lt);
        second = omega (arith, early.1.0, lt);
        left = ap (allows d) w.1 ∙ h.3;
        right = (λ i. allows (f (w.1 i)) (w.2 i)) ∙ h.4;
        gives = (λ i. g (w.1 i) (w.2 i)) ∙ h.5;
      }

  pub three_at : (d : Demand) (f : Sort → Demand) (j : Sort → Sort → Demand) (g : Sort → Sort → Sort → Result Sort MakeFault) (o : Op) (t : ℕ) → rank_of o ≡ (Takes d λ p. Takes (f p) λ q. Takes (j p q) λ x. Gives (g p q x)) → t < length k.nodes → op_at k.nodes t ≡ o → Three k d f j g t
  three_at d f j g o t r lt e =
      let args = (node_at k.nodes t).args in
      let h = three_taken d f j g (map (sort_of k.nodes) args) (sort_of k.nodes t) (ap (λ x. ranked x 0 (map Some (map (sort_of k.nodes) args))) (sym r) ∙ rank_by o t lt e) in
      let w = three_is (sort_of k.nodes) args h.0 h.1 h.2 h.3 in
      let early = earlier_in t (arg k.nodes 0 t ∷ arg k.nodes 1 t ∷ arg k.nodes 2 t ∷ []) lt w.0 in
      record {
        args = w.0;
        first = omega (arith, early.0, lt);
        second = omega (arith, early.1.0, lt);
        third = omega (arith, early.1.1.0, lt);
        left = ap (allows d) w.1 ∙ h.4;
        middle = (λ i. allows (f (w.1 i)) (w.2 i)) ∙ h.5;
        right = (λ i. allows (j (w.1 i) (w.2 i)) (w.3 i)) ∙ h.6;
        gives = (λ i. g (w.1 i) (w.2 i) (w.3 i)) ∙ h.7;
      }

  -- an operator on one word
  pub one_word_at : (o : Op) (f : ℕ → ℕ → Value) (h : ℕ → Result Sort MakeFault) → rank_of o ≡ one_word h → meaning_of k.M o ≡ word_of f → is_witness o ≡ false → (t : ℕ) → t < length k.nodes → op_at k.nodes t ≡ o → OfWord k f h t
  one_word_at o f h r m w t lt e =
      let a = arg k.nodes 0 t in
      let q = one_at AnyWord (λ p. h (width_of p)) o t r lt e in
      let n = width_of (sort_of k.nodes a) in
      record {
        n = n;
        word = word_at a n q.held (word_is (sort_of k.nodes a) q.allowed);
        value = value_by o t (a ∷ []) lt e w q.args ∙ ap (λ p. applied p (k.v a ∷ [])) m;
        gives = q.gives;
      }

  -- ---- literals

  pub literal_is : (t n m x : ℕ) (w : WordAt k t n) → op_at k.nodes t ≡ Word m x → (m ≡ n) × (w.number ≡ x)
  literal_is t n m x w e =
      let p : VWord m x ≡ VWord n w.number = sym (value_by (Word m x) t (node_at k.nodes t).args w.held e refl refl) ∙ w.is in
      (ap width_in p, sym (ap number_of p))

  pub constant_is : (t n : ℕ) (w : WordAt k t n) (z : Constant) → is_constant z (op_at k.nodes t) ≡ true → w.number ≡ constant_of z n
  constant_is t n w z h =
      let o = constant_op z (op_at k.nodes t) h in
      let l = literal_is t n o.0 (constant_of z o.0) w o.1 in
      l.1 ∙ ap (constant_of z) l.0

  pub number_is : (t n m : ℕ) (w : WordAt k t n) → is_number m (op_at k.nodes t) ≡ true → w.number ≡ m
  number_is t n m w h = let o = number_op m (op_at k.nodes t) h in (literal_is t n o.0 m w o.1).1

  pub power_is : (t n : ℕ) (w : WordAt k t n) → is_power (op_at k.nodes t) ≡ true → w.number ≡ 2 ^ exponent_in (op_at k.nodes t)
  power_is t n w h = let o = power_op (op_at k.nodes t) h in (literal_is t n o.0 (2 ^ exponent_in (op_at k.nodes t)) w o.1).1

  pub past_is : (t n : ℕ) (w : WordAt k t n) → is_past (op_at k.nodes t) ≡ true → n ≤ w.number
  past_is t n w h =
      let o = past_op (op_at k.nodes t) h in
      let l = literal_is t n o.0 o.1 w o.2 in
      omega (arith, l.0, l.1, o.3)

-- ---- operators on two words of one width

pub record OnWords (o : Operator) (g : ℕ → ℕ → ℕ → Value) (h : Sort → Result Sort MakeFault) : Type 0 where
  pub rank : operator_rank o ≡ two_words h
  pub meaning : operator_meaning o ≡ words_of g
  pub other : same_operator o plain.Witness ≡ false
  pub turns : commutes o ≡ true → (n x y : ℕ) → g n x y ≡ g n y x

pub record Words (k : Context) (g : ℕ → ℕ → ℕ → Value) (h : Sort → Result Sort MakeFault) (p : ℕ → ℕ → Bool) (t : ℕ) : Type 0 where
  pub x : ℕ
  pub y : ℕ
  pub n : ℕ
  pub holds : p x y ≡ true
  pub left : WordAt k x n
  pub right : WordAt k y n
  pub value : k.v t ≡ g n left.number right.number
  pub gives : h (sort.Word n) ≡ Ok (sort_of k.nodes t)

module _ (k : Context) (o : Operator) (g : ℕ → ℕ → ℕ → Value) (h : Sort → Result Sort MakeFault) (w : OnWords o g h) where
  pub words : (p : ℕ → ℕ → Bool) (t : ℕ) → t < length k.nodes → on k.nodes o p t ≡ true → Words k g h p t
  words p t lt e =
      let a = arg k.nodes 0 t in
      let b = arg k.nodes 1 t in
      let parts = and_parts (is k.nodes o t) (p a b || (commutes o && p b a)) e in
      let op = op_is k o t parts.0 in
      let q = two_at k AnyWord (λ r. Exactly r) (λ r _. h r) (Plain o) t w.rank lt op in
      let n = width_of (sort_of k.nodes a) in
      let sa : sort_of k.nodes a ≡ sort.Word n = word_is (sort_of k.nodes a) q.left in
      let sb : sort_of k.nodes b ≡ sort.Word n = sym (sort_same (sort_of k.nodes a) (sort_of k.nodes b) q.right) ∙ sa in
      let x = word_at k a n q.first sa in
      let y = word_at k b n q.second sb in
      let val : k.v t ≡ g n x.number y.number =
      value_by k (Plain o) t (a ∷ b ∷ []) lt op w.other q.args
      ∙ ap (λ m. applied m (k.v a ∷ k.v b ∷ [])) w.meaning
      ∙ (λ i. g (width_in (x.is i)) (number_of (x.is i)) (number_of (y.is i))) in
      let given : h (sort.Word n) ≡ Ok (sort_of k.nodes t) = ap h (sym sa) ∙ q.gives in
      or_cases (p a b) (commutes o && p b a) parts.1
      (λ z. record { x = a; y = b; n = n; holds = z; left = x; right = y; value = val; gives = given })
      (λ z.
      let c = and_parts (commutes o) (p b a) z in
      record { x = b; y = a; n = n; holds = c.1; left = y; right = x; value = val ∙ w.turns c.0 n x.number y.number; gives = given })

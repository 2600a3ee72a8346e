-- What the rules on words and on truth values bring.
use Rattle.std.proofs.Common.{◌≡◌, ℕ, ◌+◌, ◌<◌, Bool, true, false, List, length, refl, sym, subst, arith}
use Rattle.std.specs.Prelude.{◌==◌, ◌&&◌, ◌||◌, Option}
use Rattle.std.proofs.lemmas.Bool.{eqb-true, and_parts}
use Rattle.smt_terms.specs.declared.operator.Operator.{Operator}
use Rattle.smt_terms.specs.declared.operator.Operator.TheVariants as plain
use Rattle.smt_terms.specs.declared.node.Op.{Op}
use Rattle.smt_terms.specs.declared.node.Op.TheVariants.{Plain, Extract, ZeroExtend, SignExtend, RotateLeft, RotateRight, Repeat}
use Rattle.smt_terms.specs.declared.node.Node.{Node}
use Rattle.smt_terms.specs.Same.{same_op, op_same}
use Rattle.smt_terms.specs.Ranks.{rank_of, operator_rank, is_array, width_of}
use Rattle.smt_terms.specs.Terms.{sort_of, IsTermList}
use Rattle.smt_terms.proofs.Arities.{AtMost}
use Rattle.term_reach.specs.Reach.{arguments}
use Rattle.bv_rules.specs.declared.reading.Constant.{Constant}
use Rattle.bv_rules.specs.declared.reading.Constant.TheVariants.{One}
use Rattle.bv_rules.specs.Reading.{is_number, is_constant, is_extract, is_idle, high_in, low_in, op_at, arg}
use Rattle.bv_rules.specs.Rules.{is, on, of_term, of_terms, with_term, width_at, extracts}
use Rattle.bv_rules.proofs.Known.{or_cases}
use Rattle.array_images.specs.Brought.{IsUnder, IsBrought}
use Rattle.array_images.proofs.Ranked.{AtLeast, plain_of}
use Rattle.array_images.proofs.Under.{reaches_on, under_brought}
use Rattle.array_images.proofs.Parts.{IsOther, op_of, arg_under, arg_held, on_cases, on_op, made_one, made_two, constant_made, number_made, words_no_array}

abbrev extract_in : Op → Op
extract_in o = Extract (high_in o) (low_in o)

extract_op : (o : Op) → is_extract o ≡ true → o ≡ extract_in o
extract_op (Extract i j) e = refl
extract_op _ e = let q : ⊥ = cc in absurd q

module _ (nodes : List Node) (list : IsTermList nodes) (image : ℕ → Option ℕ) (t u : ℕ) (lt : t < length nodes) (lu : u < length nodes) (no : is_array (sort_of nodes u) ≡ false) where
  abbrev B : ℕ → Type 0
  B = IsBrought nodes image t

  pub part : (x : ℕ) → IsUnder nodes t x → B x
  part x below = under_brought nodes image t x below

  pub is_part : (x : ℕ) → IsUnder nodes t x → (u == x) ≡ true → B u
  is_part x below e = subst B (sym (eqb-true u x e)) (part x below)

  -- the operator on an argument of an argument
  pub nested : (o p : Op) (n k m j : ℕ) → op_at nodes t ≡ o → AtLeast n (rank_of o) → k < n → op_at nodes (arg nodes k t) ≡ p → AtLeast m (rank_of p) → j < m → IsUnder nodes t (arg nodes j (arg nodes k t))
  nested o p n k m j e h less f g lower =
      reaches_on (arguments nodes) t (arg nodes k t) (arg nodes j (arg nodes k t))
      (arg_under nodes list t lt o e n k h less)
      (arg_under nodes list (arg nodes k t) (arg_held nodes list t lt o e n k h less) p f m j g lower)

  pub twice : (o : Operator) → AtLeast 1 (operator_rank o) → (is nodes o t && (is nodes o (arg nodes 0 t) && (u == arg nodes 0 (arg nodes 0 t)))) ≡ true → B u
  twice o h e =
      let a = arg nodes 0 t in
      let p = and_parts (is nodes o t) (is nodes o a && (u == arg nodes 0 a)) e in
      let q = and_parts (is nodes o a) (u == arg nodes 0 a) p.1 in
      is_part (arg nodes 0 a) (nested (Plain o) (Plain o) 1 0 1 0 (op_of nodes list o t p.0) h (omega arith) (op_of nodes list o a q.0) h (omega arith)) q.1

  -- two arguments of which a test holds
  module _ (o : Operator) (two : AtLeast 2 (operator_rank o)) where
    pub on_gives : (p : ℕ → ℕ → Bool) → on nodes o p t ≡ true → ((x y : ℕ) → IsUnder nodes t x → IsUnder nodes t y → p x y ≡ true → B u) → B u
    on_gives p h f =
        let op = on_op nodes list o p t h in
        let a = arg_under nodes list t lt (Plain o) op 2 0 two (omega arith) in
        let b = arg_under nodes list t lt (Plain o) op 2 1 two (omega arith) in
        on_cases nodes list o p t h (f (arg nodes 0 t) (arg nodes 1 t) a b) (f (arg nodes 1 t) (arg nodes 0 t) b a)

    -- one of them
    pub gives_term : (q : ℕ → ℕ → Bool) → on nodes o (λ x y. q x y && (u == x)) t ≡ true → B u
    gives_term q h = on_gives (λ x y. q x y && (u == x)) h (λ x y a b e. is_part x a (and_parts (q x y) (u == x) e).1)

    -- a literal
    pub gives_literal : (q : ℕ → ℕ → Bool) (b : Bool) → (b ≡ true → B u) → on nodes o (λ x y. q x y && b) t ≡ true → B u
    gives_literal q b f h = on_gives (λ x y. q x y && b) h (λ x y c d e. f (and_parts (q x y) b e).1)

    pub gives_constant : (q : ℕ → ℕ → Bool) (z : Constant) → on nodes o (λ x y. q x y && is_constant z (op_at nodes u)) t ≡ true → B u
    gives_constant q z h = gives_literal q (is_constant z (op_at nodes u)) (λ e. constant_made nodes list image t z u lu e) h

  -- ---- new operators

  pub one_made : (r : Operator) → IsOther (Plain r) → AtMost 1 (operator_rank r) → (x : ℕ) → B x → of_term nodes r x u ≡ true → B u
  one_made r other most x b h =
      let p = and_parts (is nodes r u) (arg nodes 0 u == x) h in
      made_one nodes list image t u lu (Plain r) (op_of nodes list r u p.0) other no most (subst B (sym (eqb-true (arg nodes 0 u) x p.1)) b)

  pub two_made : (r : Operator) → IsOther (Plain r) → AtMost 2 (operator_rank r) → (x y : ℕ) → B x → B y → of_terms nodes r x y u ≡ true → B u
  two_made r other most x y b c h =
      let p = and_parts (is nodes r u) ((arg nodes 0 u == x) && (arg nodes 1 u == y)) h in
      let q = and_parts (arg nodes 0 u == x) (arg nodes 1 u == y) p.1 in
      made_two nodes list image t u lu (Plain r) (op_of nodes list r u p.0) other no most (subst B (sym (eqb-true (arg nodes 0 u) x q.0)) b) (subst B (sym (eqb-true (arg nodes 1 u) y q.1)) c)

  pub with_made : (r : Operator) → IsOther (Plain r) → AtMost 2 (operator_rank r) → AtLeast 2 (operator_rank r) → (x : ℕ) (p : ℕ → Bool) → B x → ((z : ℕ) → z < length nodes → p z ≡ true → B z) → with_term nodes r x p u ≡ true → B u
  with_made r other most least x p b f h =
      let op = on_op nodes list r (λ y z. (y == x) && p z) u h in
      let left = arg_held nodes list u lu (Plain r) op 2 0 least (omega arith) in
      let right = arg_held nodes list u lu (Plain r) op 2 1 least (omega arith) in
      on_cases nodes list r (λ y z. (y == x) && p z) u h
      (λ e. (let q = and_parts (arg nodes 0 u == x) (p (arg nodes 1 u)) e in
      made_two nodes list image t u lu (Plain r) op other no most (subst B (sym (eqb-true (arg nodes 0 u) x q.0)) b) (f (arg nodes 1 u) right q.1)))
      (λ e. (let q = and_parts (arg nodes 1 u == x) (p (arg nodes 0 u)) e in
      made_two nodes list image t u lu (Plain r) op other no most (f (arg nodes 0 u) left q.1) (subst B (sym (eqb-true (arg nodes 1 u) x q.0)) b)))

  -- the negation of a part
  negated : (y z : ℕ) → IsUnder nodes t y → z < length nodes → of_term nodes plain.Bvneg y z ≡ true → B z
  negated y z below held h =
      let p = and_parts (is nodes plain.Bvneg z) (arg nodes 0 z == y) h in
      let op = op_of nodes list plain.Bvneg z p.0 in
      made_one nodes list image t z held (Plain plain.Bvneg) op (λ args. refl) (plain_of nodes list z held (Plain plain.Bvneg) op (λ a s e. words_no_array (width_of a) s e)) (λ s. tt) (subst B (sym (eqb-true (arg nodes 0 z) y p.1)) (part y below))

  pub subtracted : on nodes plain.Bvsub (λ x y. with_term nodes plain.Bvadd x (of_term nodes plain.Bvneg y) u) t ≡ true → B u
  subtracted h = on_gives plain.Bvsub (λ a b. tt) (λ x y. with_term nodes plain.Bvadd x (of_term nodes plain.Bvneg y) u) h
      (λ x y a b e. with_made plain.Bvadd (λ args. refl) (λ r s. tt) (λ r s. tt) x (of_term nodes plain.Bvneg y) (part x a) (λ z held g. negated y z b held g) e)

  pub doubled : on nodes plain.Bvadd (λ x y. (x == y) && with_term nodes plain.Bvshl x (λ z. is_constant One (op_at nodes z)) u) t ≡ true → B u
  doubled h =
      let by : ℕ → Bool = λ z. is_constant One (op_at nodes z) in
      on_gives plain.Bvadd (λ a b. tt) (λ x y. (x == y) && with_term nodes plain.Bvshl x by u) h
      (λ x y a b e. with_made plain.Bvshl (λ args. refl) (λ r s. tt) (λ r s. tt) x by (part x a) (λ z held g. constant_made nodes list image t One z held g) (and_parts (x == y) (with_term nodes plain.Bvshl x by u) e).1)

  -- a power of two becomes its exponent, or a mask
  pub by_number : (o : Operator) → AtLeast 2 (operator_rank o) → (r : Operator) → IsOther (Plain r) → AtMost 2 (operator_rank r) → AtLeast 2 (operator_rank r) → (q : ℕ → Bool) (m : ℕ → ℕ)
      → on nodes o (λ x c. q c && with_term nodes r x (λ z. is_number (m c) (op_at nodes z)) u) t ≡ true → B u
  by_number o two r other most least q m h =
      on_gives o two (λ x c. q c && with_term nodes r x (λ z. is_number (m c) (op_at nodes z)) u) h
      (λ x c a b e. with_made r other most least x (λ z. is_number (m c) (op_at nodes z)) (part x a) (λ z held g. number_made nodes list image t z (m c) held g) (and_parts (q c) (with_term nodes r x (λ z. is_number (m c) (op_at nodes z)) u) e).1)

  pub turned_made : (o r : Operator) → AtLeast 2 (operator_rank o) → IsOther (Plain r) → AtMost 2 (operator_rank r) → on nodes o (λ x y. of_terms nodes r y x u) t ≡ true → B u
  turned_made o r two other most h = on_gives o two (λ x y. of_terms nodes r y x u) h (λ x y a b e. two_made r other most y x (part y b) (part x a) e)

  -- ---- parts of words

  pub extract_made : (i j x : ℕ) → IsUnder nodes t x → extracts nodes i j x u ≡ true → B u
  extract_made i j x below h =
      let p = and_parts (same_op (op_at nodes u) (Extract i j)) (arg nodes 0 u == x) h in
      made_one nodes list image t u lu (Extract i j) (op_same (op_at nodes u) (Extract i j) p.0) (λ args. refl) no (λ s. tt) (subst B (sym (eqb-true (arg nodes 0 u) x p.1)) (part x below))

  pub whole : (is_extract (op_at nodes t) && ((high_in (op_at nodes t) + 1 == width_at nodes (arg nodes 0 t)) && ((low_in (op_at nodes t) == 0) && (u == arg nodes 0 t)))) ≡ true → B u
  whole h =
      let x = arg nodes 0 t in
      let i = high_in (op_at nodes t) + 1 == width_at nodes x in
      let j = low_in (op_at nodes t) == 0 in
      let p = and_parts (is_extract (op_at nodes t)) (i && (j && (u == x))) h in
      let q = and_parts i (j && (u == x)) p.1 in
      let r = and_parts j (u == x) q.1 in
      is_part x (arg_under nodes list t lt (extract_in (op_at nodes t)) (extract_op (op_at nodes t) p.0) 1 0 (λ s. tt) (omega arith)) r.1

  pub inner_extract : (i j : ℕ) → (is_extract (op_at nodes t) && (is_extract (op_at nodes (arg nodes 0 t)) && extracts nodes i j (arg nodes 0 (arg nodes 0 t)) u)) ≡ true → B u
  inner_extract i j h =
      let a = arg nodes 0 t in
      let x = arg nodes 0 a in
      let p = and_parts (is_extract (op_at nodes t)) (is_extract (op_at nodes a) && extracts nodes i j x u) h in
      let q = and_parts (is_extract (op_at nodes a)) (extracts nodes i j x u) p.1 in
      let below = nested (extract_in (op_at nodes t)) (extract_in (op_at nodes a)) 1 0 1 0 (extract_op (op_at nodes t) p.0) (λ s. tt) (omega arith) (extract_op (op_at nodes a) q.0) (λ s. tt) (omega arith) in
      extract_made i j x below q.1

  pub concat_extract : (b c : Bool) (i j k l : ℕ) → (is_extract (op_at nodes t) && (is nodes plain.Concat (arg nodes 0 t) && ((b && extracts nodes i j (arg nodes 1 (arg nodes 0 t)) u) || (c && extracts nodes k l (arg nodes 0 (arg nodes 0 t)) u)))) ≡ true → B u
  concat_extract b c i j k l h =
      let a = arg nodes 0 t in
      let x = arg nodes 0 a in
      let y = arg nodes 1 a in
      let left = b && extracts nodes i j y u in
      let right = c && extracts nodes k l x u in
      let p = and_parts (is_extract (op_at nodes t)) (is nodes plain.Concat a && (left || right)) h in
      let q = and_parts (is nodes plain.Concat a) (left || right) p.1 in
      let op = op_of nodes list plain.Concat a q.0 in
      let out = extract_op (op_at nodes t) p.0 in
      or_cases left right q.1
      (λ e. extract_made i j y (nested (extract_in (op_at nodes t)) (Plain plain.Concat) 1 0 2 1 out (λ s. tt) (omega arith) op (λ r s. tt) (omega arith)) (and_parts b (extracts nodes i j y u) e).1)
      (λ e. extract_made k l x (nested (extract_in (op_at nodes t)) (Plain plain.Concat) 1 0 2 0 out (λ s. tt) (omega arith) op (λ r s. tt) (omega arith)) (and_parts c (extracts nodes k l x u) e).1)

  idle_least : (n : ℕ) (o : Op) → is_idle n o ≡ true → AtLeast 1 (rank_of o)
  idle_least n (ZeroExtend i) h = λ s. tt
  idle_least n (SignExtend i) h = λ s. tt
  idle_least n (RotateLeft i) h = λ s. tt
  idle_least n (RotateRight i) h = λ s. tt
  idle_least n (Repeat i) h = λ s. tt
  idle_least n _ h = let q : ⊥ = cc in absurd q

  pub idle : (n : ℕ) → (is_idle n (op_at nodes t) && (u == arg nodes 0 t)) ≡ true → B u
  idle n h =
      let p = and_parts (is_idle n (op_at nodes t)) (u == arg nodes 0 t) h in
      is_part (arg nodes 0 t) (arg_under nodes list t lt (op_at nodes t) refl 1 0 (idle_least n (op_at nodes t) p.0) (omega arith)) p.1

  -- ---- truth values

  -- one of the two arguments, or a truth value
  pub decided : (o : Operator) → AtLeast 2 (operator_rank o) → (q : ℕ → ℕ → Bool) (r : ℕ → Bool) (b : Bool) → (b ≡ true → B u) → on nodes o (λ x y. (q x y && (u == x)) || (r y && b)) t ≡ true → B u
  decided o two q r b f h = on_gives o two (λ x y. (q x y && (u == x)) || (r y && b)) h
      (λ x y below other e. or_cases (q x y && (u == x)) (r y && b) e
      (λ g. is_part x below (and_parts (q x y) (u == x) g).1)
      (λ g. f (and_parts (r y) b g).1))

  pub chosen : (b c d : Bool) → (is nodes plain.Ite t && ((b && (u == arg nodes 1 t)) || ((c && (u == arg nodes 2 t)) || (d && (u == arg nodes 1 t))))) ≡ true → B u
  chosen b c d h =
      let x = arg nodes 1 t in
      let y = arg nodes 2 t in
      let p = and_parts (is nodes plain.Ite t) ((b && (u == x)) || ((c && (u == y)) || (d && (u == x)))) h in
      let op = op_of nodes list plain.Ite t p.0 in
      let first = arg_under nodes list t lt (Plain plain.Ite) op 3 1 (λ r s q. tt) (omega arith) in
      let second = arg_under nodes list t lt (Plain plain.Ite) op 3 2 (λ r s q. tt) (omega arith) in
      or_cases (b && (u == x)) ((c && (u == y)) || (d && (u == x))) p.1
      (λ e. is_part x first (and_parts b (u == x) e).1)
      (λ e. or_cases (c && (u == y)) (d && (u == x)) e
      (λ g. is_part y second (and_parts c (u == y) g).1)
      (λ g. is_part x first (and_parts d (u == x) g).1))

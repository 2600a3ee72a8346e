-- Each step keeps the meaning of a log: its clauses are true, bits are those of values, selectors mean their terms.
use Rattle.std.proofs.Common.{◌≡◌, ℕ, suc, ◌+◌, ◌*◌, ◌^◌, ◌<◌, ◌≤◌, Bool, true, false, not, ◌||◌, List, [], ◌∷◌, length, map, Option, Some, None, Ok, refl, sym, ap, ◌∙◌, subst, inl, inr, ⊎_elim, arith}
use Rattle.std.specs.Prelude.{◌==◌, ◌&&◌, ◌⊎◌, ltb, if◌then◌else◌}
use Rattle.std.specs.List.{AllByRecursion}
use Rattle.std.proofs.lemmas.Bool.{eqb-true, eq-eqb, ne_eqb, and_parts}
use Rattle.cnf_base.specs.Literals.{Literal, positive_of, true_literal}
use Rattle.cnf_base.specs.Clauses.{lit_true, clause_true, all_true, bit, number}
use Rattle.cnf_base.specs.Choices.{equal_gates, equal_bit}
use Rattle.cnf_base.specs.Gates.{gates_clauses}
use Rattle.cnf_base.specs.Assignments.{AgreeBelow, AreBelow, ClausesBelow, fresh_bits, with_variable, with_number, with_gates}
use Rattle.cnf_base.proofs.Agreeing.{same_lit_true, same_clause_true, AreBelow-more, AreBelow-fresh_bits}
use Rattle.cnf_base.proofs.Extending.{with_variable-here, with_variable-agrees, with_number-agrees, number-with_number, with_gates-agrees, with_gates-mean, gates_clauses-below}
use Rattle.cnf_base.proofs.Meaning.{gates_mean}
use Rattle.cnf_base.proofs.Rows.{length-fresh_bits}
use Rattle.cnf_base.proofs.Lists.{each_append}
use Rattle.cnf_base.proofs.Options.{some_value}
use Rattle.smt_terms.specs.declared.sort.Sort.{Sort}
use Rattle.smt_terms.specs.declared.sort.Sort.TheVariants as sort
use Rattle.smt_terms.specs.declared.operator.Operator.TheVariants as plain
use Rattle.smt_terms.specs.declared.node.Op.TheVariants.{Plain}
use Rattle.smt_terms.specs.declared.node.Node.{Node}
use Rattle.smt_terms.specs.Nodes.{node_at}
use Rattle.smt_terms.specs.Ranks.{is_array, is_plain}
use Rattle.smt_terms.specs.Terms.{IsTermList, sort_of}
use Rattle.smt_terms.specs.Values.{Value, VBool, VWord, HasSort, Interpretation, no_value, is_true, same_value, value}
use Rattle.smt_terms.proofs.Evaluating.{value_is_evaluation}
use Rattle.smt_terms.proofs.Typing.{value_is, typed}
use Rattle.bv_rules.specs.Matches.{KeepValues}
use Rattle.bv_rules.proofs.Keeping.{matched, keeps_values}
use Rattle.bit_blast.specs.Circuits.{Makes, Lacks, built, equality}
use Rattle.bit_blast.specs.Blocks.{Block, with_first, all_bits, block_over, block_of, circuit_of}
use Rattle.bit_blast.specs.Meanings.{AreBitsOf, EachIsBits}
use Rattle.bit_blast.proofs.Compared.{equal_means}
use Rattle.bit_blast.proofs.Table.{op_correct}
use Rattle.bit_blast.proofs.Ordered.{op_ordered}
use Rattle.bit_blast.proofs.Fixing.{same_bits}
use Rattle.hint_chain.proofs.Sound.{IsChain-follows}
use Rattle.theory_terms.specs.declared.shape.Shape.{Shape}
use Rattle.theory_terms.specs.declared.shape.Shape.TheVariants.{Selecting as SelectingShape, Storing, Filling, Choosing, Equating as EquatingShape, Witnessing, Applying, Declaring, Other}
use Rattle.theory_terms.specs.declared.lemma.Lemma.{Lemma}
use Rattle.theory_terms.specs.Shapes.{shape_at}
use Rattle.theory_terms.proofs.Shapes.{FactsOf, facts}
use Rattle.theory_lemmas.specs.Clauses.{clause_of, Means}
use Rattle.theory_lemmas.proofs.Below.{clause_below}
use Rattle.theory_lemmas.proofs.Literals.{clause_sound}
use Rattle.proof_log.specs.declared.entry.RuleUse.{RuleUse}
use Rattle.proof_log.specs.declared.entry.Entry.{Entry}
use Rattle.proof_log.specs.declared.entry.Entry.TheVariants as step
use Rattle.proof_log.specs.Pairs.{with_pair}
use Rattle.proof_log.specs.Logs.{Asserted, LogState, start, clause_at, with_value, with_row, plain_width, width_by, leaf_width, IsRuled, IsStep, leaf_after, block_after, selector_clause, selector_after, equal_after, rewrite_after, lemma_after, after, state_from, state_of, AreSteps, IsLog}
use Rattle.proof_log.specs.Meanings.{bits_number, leaf_mean, block_mean, equal_mean, mean_after, mean_from, meaning, LogIsSound}
use Rattle.proof_log.proofs.Growing.{clause_each}

-- a clause that is true, and of variables that there are
abbrev pub IsTrueBelow : ℕ → (ℕ → Bool) → List Literal → Type 0
IsTrueBelow n f c = (clause_true f c ≡ true) × AreBelow n c

abbrev pub AreTrueBelow : ℕ → (ℕ → Bool) → List (List Literal) → Type 0
AreTrueBelow n f = AllByRecursion (IsTrueBelow n f)

row_keeps : (n m : ℕ) (f g : ℕ → Bool) → AgreeBelow n f g → n ≤ m → (cs : List (List Literal)) → AreTrueBelow n f cs → AreTrueBelow m g cs
row_keeps n m f g a le [] h = tt
row_keeps n m f g a le (c ∷ cs) h =
    ((same_clause_true n f g a c h.0.1 ∙ h.0.0, AreBelow-more n m le c h.0.1), row_keeps n m f g a le cs h.1)

rows_keep : (n m : ℕ) (f g : ℕ → Bool) → AgreeBelow n f g → n ≤ m → (rows : List (List (List Literal))) → AllByRecursion (AreTrueBelow n f) rows → AllByRecursion (AreTrueBelow m g) rows
rows_keep n m f g a le [] h = tt
rows_keep n m f g a le (row ∷ rows) h = (row_keeps n m f g a le row h.0, rows_keep n m f g a le rows h.1)

row_of_both : (n : ℕ) (f : ℕ → Bool) (cs : List (List Literal)) → all_true f cs ≡ true → ClausesBelow n cs → AreTrueBelow n f cs
row_of_both n f [] t h = tt
row_of_both n f (c ∷ cs) t h =
    let p = and_parts (clause_true f c) (all_true f cs) t in
    ((p.0, h.0), row_of_both n f cs p.1 h.1)

-- ---- partial functions with one value more

pub with_value_cases : {A : Type 0} (h : ℕ → Option A) (x : ℕ) (a : A) (y : ℕ) (b : A) → with_value h x a y ≡ Some b → ((y ≡ x) × (a ≡ b)) ⊎ (h y ≡ Some b)
with_value_cases {A} h x a y b e = go (y == x) refl
  where
    go : (c : Bool) → (y == x) ≡ c → ((y ≡ x) × (a ≡ b)) ⊎ (h y ≡ Some b)
    go true q =
        let p : Some a ≡ Some b = subst (λ c. (if c then Some a else h y) ≡ Some b) q e in
        let r : a ≡ b = cc in
        inl (eqb-true y x q, r)
    go false q = inr (subst (λ c. (if c then Some a else h y) ≡ Some b) q e)

pub pair_cases : {A : Type 0} (f : ℕ → ℕ → Option A) (t u : ℕ) (a : A) (x y : ℕ) (b : A) → with_pair f t u a x y ≡ Some b → ((x ≡ t) × (y ≡ u) × (a ≡ b)) ⊎ (f x y ≡ Some b)
pair_cases {A} f t u a x y b e = go ((x == t) && (y == u)) refl
  where
    go : (c : Bool) → ((x == t) && (y == u)) ≡ c → ((x ≡ t) × (y ≡ u) × (a ≡ b)) ⊎ (f x y ≡ Some b)
    go true q =
        let both = and_parts (x == t) (y == u) q in
        let p : Some a ≡ Some b = subst (λ c. (if c then Some a else f x y) ≡ Some b) q e in
        let r : a ≡ b = cc in
        inl (eqb-true x t both.0, eqb-true y u both.1, r)
    go false q = inr (subst (λ c. (if c then Some a else f x y) ≡ Some b) q e)

-- ---- the meaning suits the log

-- the bits of each term are of variables that there are, and those of its value
abbrev pub Known : ℕ → (ℕ → Bool) → (ℕ → Option (List Literal)) → (ℕ → Sort) → (ℕ → Value) → Type 0
Known n f bits sorts values = (t : ℕ) (b : List Literal) → bits t ≡ Some b → AreBelow n b × AreBitsOf f (sorts t) b (values t)

abbrev pub Selecting : ℕ → (ℕ → Bool) → (ℕ → Option Asserted) → (ℕ → Value) → Type 0
Selecting n f selectors values = (a : ℕ) (r : Asserted) → selectors a ≡ Some r → (r.literal.variable < n) × (lit_true f r.literal ≡ is_true (values r.term))

-- the literal of an equality is a variable, and tells whether two values are the same, whichever is named first
pub record Equates (n : ℕ) (f : ℕ → Bool) (v w : Value) (l : Literal) : Type 0 where
  pub positive : l.positive ≡ true
  pub below : l.variable < n
  pub means : lit_true f l ≡ same_value v w
  pub back : lit_true f l ≡ same_value w v

abbrev pub Equating : ℕ → (ℕ → Bool) → (ℕ → ℕ → Option Literal) → (ℕ → Value) → Type 0
Equating n f equals values = (t u : ℕ) (l : Literal) → equals t u ≡ Some l → Equates n f (values t) (values u) l

pub record Suits (M : Interpretation) (nodes : List Node) (s : LogState) (f : ℕ → Bool) : Type 0 where
  pub one : f 1 ≡ true
  pub next : 1 < s.next
  pub clauses : AllByRecursion (AreTrueBelow s.next f) s.clauses
  pub terms : (t : ℕ) (b : List Literal) → s.bits t ≡ Some b → t < length nodes
  pub bits : Known s.next f s.bits (sort_of nodes) (value M nodes)
  pub images : KeepValues nodes (value M nodes) s.images
  pub selectors : Selecting s.next f s.selectors (value M nodes)
  pub equals : Equating s.next f s.equals (value M nodes)

known_keeps : (n m : ℕ) (f g : ℕ → Bool) → AgreeBelow n f g → n ≤ m → (bits : ℕ → Option (List Literal)) (sorts : ℕ → Sort) (values : ℕ → Value) → Known n f bits sorts values → Known m g bits sorts values
known_keeps n m f g a le bits sorts values h t b e =
    let k = h t b e in (AreBelow-more n m le b k.0, same_bits n f g a (sorts t) b (values t) k.0 k.1)

known_more : (m : ℕ) (g : ℕ → Bool) (bits : ℕ → Option (List Literal)) (sorts : ℕ → Sort) (values : ℕ → Value) (t : ℕ) (new : List Literal) → Known m g bits sorts values → AreBelow m new → AreBitsOf g (sorts t) new (values t) → Known m g (with_value bits t new) sorts values
known_more m g bits sorts values t new h held is u b e =
    ⊎_elim
    (λ p. subst (λ w. AreBelow m b × AreBitsOf g (sorts w) b (values w)) (sym p.0) (subst (λ c. AreBelow m c × AreBitsOf g (sorts t) c (values t)) p.1 (held, is)))
    (λ p. h u b p)
    (with_value_cases bits t new u b e)

terms_more : (nodes : List Node) (bits : ℕ → Option (List Literal)) (t : ℕ) (new : List Literal) → ((u : ℕ) (b : List Literal) → bits u ≡ Some b → u < length nodes) → t < length nodes → (u : ℕ) (b : List Literal) → with_value bits t new u ≡ Some b → u < length nodes
terms_more nodes bits t new h within u b e =
    ⊎_elim (λ p. subst (λ w. w < length nodes) (sym p.0) within) (λ p. h u b p) (with_value_cases bits t new u b e)

images_more : (nodes : List Node) (values : ℕ → Value) (images : ℕ → Option ℕ) (t u : ℕ) → KeepValues nodes values images → is_plain (sort_of nodes t) ≡ true → values u ≡ values t → KeepValues nodes values (with_value images t u)
images_more nodes values images t u h plain same x y e =
    ⊎_elim
    (λ p. subst (λ z. (is_plain (sort_of nodes z) ≡ true) × (values y ≡ values z)) (sym p.0) (plain, ap values (sym p.1) ∙ same))
    (λ p. h x y p)
    (with_value_cases images t u x y e)

selecting_keeps : (n m : ℕ) (f g : ℕ → Bool) → AgreeBelow n f g → n ≤ m → (selectors : ℕ → Option Asserted) (values : ℕ → Value) → Selecting n f selectors values → Selecting m g selectors values
selecting_keeps n m f g a le selectors values h x r e =
    let k = h x r e in (omega (arith, k.0), same_lit_true n f g a r.literal k.0 ∙ k.1)

selecting_more : (m : ℕ) (g : ℕ → Bool) (selectors : ℕ → Option Asserted) (values : ℕ → Value) (x : ℕ) (new : Asserted) → Selecting m g selectors values → new.literal.variable < m → lit_true g new.literal ≡ is_true (values new.term) → Selecting m g (with_value selectors x new) values
selecting_more m g selectors values x new h below means y r e =
    ⊎_elim
    (λ p. subst (λ q. (q.literal.variable < m) × (lit_true g q.literal ≡ is_true (values q.term))) p.1 (below, means))
    (λ p. h y r p)
    (with_value_cases selectors x new y r e)

equating_keeps : (n m : ℕ) (f g : ℕ → Bool) → AgreeBelow n f g → n ≤ m → (equals : ℕ → ℕ → Option Literal) (values : ℕ → Value) → Equating n f equals values → Equating m g equals values
equating_keeps n m f g a le equals values h t u l e =
    let k = h t u l e in
    let below = k.below in
    let same = same_lit_true n f g a l k.below in
    record { positive = k.positive; below = omega (arith, below, le); means = same ∙ k.means; back = same ∙ k.back }

equating_more : (m : ℕ) (g : ℕ → Bool) (equals : ℕ → ℕ → Option Literal) (values : ℕ → Value) (t u : ℕ) (new : Literal) → Equating m g equals values → Equates m g (values t) (values u) new → Equating m g (with_pair equals t u new) values
equating_more m g equals values t u new h own x y l e =
    ⊎_elim
    (λ p. subst (λ k. Equates m g (values x) (values y) k) p.2 (subst (λ z. Equates m g (values x) (values z) new) (sym p.1) (subst (λ z. Equates m g (values z) (values u) new) (sym p.0) own)))
    (λ p. h x y l p)
    (pair_cases equals t u new x y l e)

-- one position more whose clauses are true
row_suits : (M : Interpretation) (nodes : List Node) (s : LogState) (f : ℕ → Bool) (row : List (List Literal)) → Suits M nodes s f → AreTrueBelow s.next f row → Suits M nodes (with_row s row) f
row_suits M nodes s f row h k = record {
  one = h.one;
  next = h.next;
  clauses = each_append (AreTrueBelow s.next f) s.clauses (row ∷ []) h.clauses (k, tt);
  terms = h.terms;
  bits = h.bits;
  images = h.images;
  selectors = h.selectors;
  equals = h.equals;
}

-- ---- leaves

bit_same : (b c : Bool) → bit b ≡ bit c → b ≡ c
bit_same true true e = refl
bit_same true false e = absurd (omega arith)
bit_same false true e = absurd (omega arith)
bit_same false false e = refl

truth_bits : (g : ℕ → Bool) (l : Literal) (b : Bool) → number g (l ∷ []) ≡ bit b → VBool b ≡ VBool (lit_true g l)
truth_bits g l b e = let q : bit b ≡ bit (lit_true g l) = omega (arith, e) in ap VBool (bit_same b (lit_true g l) q)

bit_small : (b : Bool) → bit b < 2 ^ 1
bit_small true = omega arith
bit_small false = omega arith

-- new variables are the bits of a value, as many as its sort has
fresh_means : (f : ℕ → Bool) (g n : ℕ) (s : Sort) (v : Value) → plain_width s ≡ Some n → HasSort s v → AreBitsOf (with_number f g n (bits_number v)) s (fresh_bits g n) v
fresh_means f g n sort.Bool v e h =
    let q : 1 ≡ n = cc in
    let one = number-with_number 1 f g (bit h.0) (bit_small h.0) in
    let is : AreBitsOf (with_number f g 1 (bit h.0)) sort.Bool (fresh_bits g 1) (VBool h.0) = (positive_of g, refl, truth_bits (with_number f g 1 (bit h.0)) (positive_of g) h.0 one) in
    subst (λ k. AreBitsOf (with_number f g k (bits_number v)) sort.Bool (fresh_bits g k) v) q
    (subst (λ w. AreBitsOf (with_number f g 1 (bits_number w)) sort.Bool (fresh_bits g 1) w) (sym h.1) is)
fresh_means f g n (sort.Word m) v e h =
    let q : m ≡ n = cc in
    let is : AreBitsOf (with_number f g m h.0) (sort.Word m) (fresh_bits g m) (VWord m h.0) = (length-fresh_bits m g, ap (VWord m) (sym (number-with_number m f g h.0 h.2))) in
    subst (λ k. AreBitsOf (with_number f g k (bits_number v)) (sort.Word m) (fresh_bits g k) v) q
    (subst (λ w. AreBitsOf (with_number f g m (bits_number w)) (sort.Word m) (fresh_bits g m) w) (sym h.1) is)
fresh_means f g n (sort.Array m k) v e h = let q : ⊥ = cc in absurd q

-- an interpretation
some_interpretation : Interpretation
some_interpretation = record { constants = λ d. no_value; functions = λ d vs. no_value }

one_bit : (c : Bool) (n : ℕ) → (let o : Option ℕ = if c then Some 1 else None in o) ≡ Some n → 1 ≡ n
one_bit true n e = cc
one_bit false n e = let q : ⊥ = cc in absurd q

-- a leaf gives a term as many bits as its sort has
pub leaf_sort : (nodes : List Node) (t n : ℕ) → IsTermList nodes → leaf_width nodes t ≡ Some n → plain_width (sort_of nodes t) ≡ Some n
leaf_sort nodes t n all w = go (shape_at nodes t) (facts some_interpretation nodes (value some_interpretation nodes) all (value_is_evaluation some_interpretation nodes all) t) w
  where
    go : (k : Shape) → FactsOf some_interpretation (sort_of nodes) (value some_interpretation nodes) t (node_at nodes t) k → width_by nodes t k ≡ Some n → plain_width (sort_of nodes t) ≡ Some n
    go (Declaring d q) h e = ap plain_width h.sort ∙ e
    go (SelectingShape a i) h e = e
    go (Witnessing a b) h e = e
    go (Applying d) h e = e
    go (EquatingShape a b) h e = ap plain_width h.sort ∙ ap Some (one_bit (ltb a t && is_array (sort_of nodes a)) n e)
    go (Storing a i x) h e = let q : ⊥ = cc in absurd q
    go (Filling x) h e = let q : ⊥ = cc in absurd q
    go (Choosing c a b) h e = let q : ⊥ = cc in absurd q
    go Other h e = let q : ⊥ = cc in absurd q

-- ---- equalities

both_bits : (p q : Bool) → ((bit p + 2 * 0) == (bit q + 2 * 0)) ≡ (if p then q else not q)
both_bits true true = refl
both_bits true false = refl
both_bits false true = refl
both_bits false false = refl

-- rows of the bits of two values of one sort are of one length, and equal where the values are
rows_agree : (v : ℕ → Bool) (s : Sort) (a c : List Literal) (x y : Value) → AreBitsOf v s a x → AreBitsOf v s c y → (length a ≡ length c) × ((number v a == number v c) ≡ same_value x y)
rows_agree v sort.Bool a c x y p q =
    let l = p.0 in
    let m = q.0 in
    (ap length p.1 ∙ sym (ap length q.1), rw (p.1, q.1, p.2, q.2) (both_bits (lit_true v l) (lit_true v m)))
rows_agree v (sort.Word n) a c x y p q =
    (p.0 ∙ sym q.0, rw (p.1, q.1) (sym (ap (λ b. b && (number v a == number v c)) (eq-eqb n n refl))))
rows_agree v (sort.Array n m) a c x y p q = absurd p

-- the circuit of `=` over rows of one length
equal_built : (g : ℕ) (a b : List Literal) → length a ≡ length b → built (circuit_of (Plain plain.Equal)) g (a ∷ b ∷ []) ≡ Some (equality a b g)
equal_built g a b same = ap (λ t. built (if t then Makes (equality a b) else Lacks) g []) (eq-eqb (length a) (length b) same)

equal_positive : (g : ℕ) (e : Literal) (a b : List Literal) → e.positive ≡ true → (equal_bit g e a b).positive ≡ true
equal_positive g e [] b p = p
equal_positive g e (x ∷ a) [] p = p
equal_positive g e (x ∷ a) (y ∷ b) p = equal_positive (suc (suc g)) (positive_of (suc g)) a b refl

pub eqb_flip : (t u : ℕ) → (t == u) ≡ (u == t)
eqb_flip t u = go (u == t) refl
  where
    go : (b : Bool) → (u == t) ≡ b → (t == u) ≡ b
    go true h = eq-eqb t u (sym (eqb-true u t h))
    go false h = ne_eqb t u (λ e. let p : (u == t) ≡ true = eq-eqb u t (sym e) in let q : ⊥ = cc in q)

-- the rows of the arguments of a block
pub block_rows : (s : LogState) (n : Node) (b : Block) → block_of s.next s.bits n ≡ Some b → (rows : List (List Literal)) × (all_bits s.bits n.args ≡ Some rows) × (built (circuit_of n.op) s.next rows ≡ Some b)
block_rows s n b e = go (all_bits s.bits n.args) refl e
  where
    go : (o : Option (List (List Literal))) → all_bits s.bits n.args ≡ o → block_over n.op s.next o ≡ Some b → (rows : List (List Literal)) × (all_bits s.bits n.args ≡ Some rows) × (built (circuit_of n.op) s.next rows ≡ Some b)
    go None p e = let r : ⊥ = cc in absurd r
    go (Some rows) p e = (rows, p, e)

module _ (M : Interpretation) (nodes : List Node) (all : IsTermList nodes) where
  leaf_suits : (s : LogState) (f : ℕ → Bool) (t n : ℕ) → Suits M nodes s f → t < length nodes → plain_width (sort_of nodes t) ≡ Some n → Suits M nodes (leaf_after s t (Some n)) (with_number f s.next n (bits_number (value M nodes t)))
  leaf_suits s f t n h within w =
      let x = bits_number (value M nodes t) in
      let g = with_number f s.next n x in
      let a : AgreeBelow s.next f (with_number f s.next n x) = with_number-agrees n f s.next x in
      let le : s.next ≤ s.next + n = omega arith in
      let is = fresh_means f s.next n (sort_of nodes t) (value M nodes t) w (typed M nodes all t within) in
      record {
        one = a 1 h.next ∙ h.one;
        next = omega (arith, h.next);
        clauses = each_append (AreTrueBelow (s.next + n) g) s.clauses ([] ∷ []) (rows_keep s.next (s.next + n) f g a le s.clauses h.clauses) (tt, tt);
        terms = terms_more nodes s.bits t (fresh_bits s.next n) h.terms within;
        bits =
            known_more (s.next + n) g s.bits (sort_of nodes) (value M nodes) t (fresh_bits s.next n)
            (known_keeps s.next (s.next + n) f g a le s.bits (sort_of nodes) (value M nodes) h.bits)
            (AreBelow-fresh_bits n s.next) is;
        images = h.images;
        selectors = selecting_keeps s.next (s.next + n) f g a le s.selectors (value M nodes) h.selectors;
        equals = equating_keeps s.next (s.next + n) f g a le s.equals (value M nodes) h.equals;
      }

  -- ---- circuits

  each_bits : (n : ℕ) (f : ℕ → Bool) (bits : ℕ → Option (List Literal)) → Known n f bits (sort_of nodes) (value M nodes) → (args : List ℕ) (rows : List (List Literal)) → all_bits bits args ≡ Some rows
      → AllByRecursion (AreBelow n) rows × EachIsBits f (map (sort_of nodes) args) rows (map (value M nodes) args)
  each_bits n f bits h [] rows e =
      let q : [] ≡ rows = cc in
      subst (λ r. AllByRecursion (AreBelow n) r × EachIsBits f [] r []) q (tt, tt)
  each_bits n f bits h (t ∷ ts) rows e = go (bits t) (all_bits bits ts) refl refl (λ bs q. each_bits n f bits h ts bs q) e
    where
      go : (o : Option (List Literal)) (os : Option (List (List Literal))) → bits t ≡ o → all_bits bits ts ≡ os
          → ((bs : List (List Literal)) → all_bits bits ts ≡ Some bs → AllByRecursion (AreBelow n) bs × EachIsBits f (map (sort_of nodes) ts) bs (map (value M nodes) ts))
          → with_first o os ≡ Some rows
          → AllByRecursion (AreBelow n) rows × EachIsBits f (sort_of nodes t ∷ map (sort_of nodes) ts) rows (value M nodes t ∷ map (value M nodes) ts)
      go None os p q rest e = let r : ⊥ = cc in absurd r
      go (Some b) None p q rest e = let r : ⊥ = cc in absurd r
      go (Some b) (Some bs) p q rest e =
          let r : b ∷ bs ≡ rows = cc in
          let k = h t b p in
          let ks = rest bs q in
          subst (λ w. AllByRecursion (AreBelow n) w × EachIsBits f (sort_of nodes t ∷ map (sort_of nodes) ts) w (value M nodes t ∷ map (value M nodes) ts)) r
          ((k.0, ks.0), (k.1, ks.1))

  block_suits : (s : LogState) (f : ℕ → Bool) (t : ℕ) (b : Block) → Suits M nodes s f → t < length nodes → block_of s.next s.bits (node_at nodes t) ≡ Some b → Suits M nodes (block_after s t (Some b)) (with_gates f s.next b.gates)
  block_suits s f t b h within e =
      let g = with_gates f s.next b.gates in
      let m = s.next + length b.gates in
      let a : AgreeBelow s.next f (with_gates f s.next b.gates) = with_gates-agrees b.gates f s.next in
      let le : s.next ≤ s.next + length b.gates = omega arith in
      let node = node_at nodes t in
      let k = block_rows s (node_at nodes t) b e in
      let known = known_keeps s.next m f g a le s.bits (sort_of nodes) (value M nodes) h.bits in
      let below = (each_bits s.next f s.bits h.bits node.args k.0 k.1).0 in
      let each = (each_bits m g s.bits known node.args k.0 k.1).1 in
      let ordered = op_ordered s.next node.op k.0 b h.next below k.2 in
      let have = with_gates-mean b.gates f s.next ordered.0 in
      let one = a 1 h.next ∙ h.one in
      let term = all t within in
      let is = op_correct M g s.next node.op (map (sort_of nodes) node.args) k.0 (map (value M nodes) node.args) (sort_of nodes t) b one term.rank each k.2 have in
      record {
        one = one;
        next = omega (arith, h.next);
        clauses =
            each_append (AreTrueBelow m g) s.clauses (gates_clauses s.next b.gates ∷ [])
            (rows_keep s.next m f g a le s.clauses h.clauses)
            (row_of_both m g (gates_clauses s.next b.gates) ((gates_mean g s.next b.gates).1 have) (gates_clauses-below b.gates s.next ordered.0), tt);
        terms = terms_more nodes s.bits t b.bits h.terms within;
        bits = known_more m g s.bits (sort_of nodes) (value M nodes) t b.bits known ordered.1 (subst (AreBitsOf g (sort_of nodes t) b.bits) (sym (value_is M nodes t term)) is);
        images = h.images;
        selectors = selecting_keeps s.next m f g a le s.selectors (value M nodes) h.selectors;
        equals = equating_keeps s.next m f g a le s.equals (value M nodes) h.equals;
      }

  -- ---- selectors

  implied : (p q r : Bool) → p ≡ r → q ≡ r → (not p || (q || false)) ≡ true
  implied true q r e k = rw (k ∙ sym e) refl
  implied false q r e k = refl

  selector_suits : (s : LogState) (f : ℕ → Bool) (x t : ℕ) (l : Literal) → Suits M nodes s f → t < length nodes → sort_of nodes t ≡ sort.Bool → s.bits t ≡ Some (l ∷ [])
      → Suits M nodes (selector_after s x t (Some (l ∷ []))) (with_variable f s.next (is_true (value M nodes t)))
  selector_suits s f x t l h within bool e =
      let v = is_true (value M nodes t) in
      let g = with_variable f s.next v in
      let a : AgreeBelow s.next f (with_variable f s.next (is_true (value M nodes t))) = with_variable-agrees f s.next v in
      let le : s.next ≤ suc s.next = omega arith in
      let here : with_variable f s.next (is_true (value M nodes t)) s.next ≡ is_true (value M nodes t) = with_variable-here f s.next v in
      let k = h.bits t (l ∷ []) e in
      let means = subst (λ w. AreBitsOf f w (l ∷ []) (value M nodes t)) bool k.1 in
      let same : l ≡ means.0 = let q = means.1 in cc in
      let bit : lit_true g l ≡ v = same_lit_true s.next f g a l k.0.0 ∙ ap (lit_true f) same ∙ sym (ap is_true means.2) in
      let below : l.variable < suc s.next = omega (arith, k.0.0) in
      let own : s.next < suc s.next = omega arith in
      let new : IsTrueBelow (suc s.next) g (selector_clause s.next l) = (implied (g s.next) (lit_true g l) v here bit, (own, (below, tt))) in
      record {
        one = a 1 h.next ∙ h.one;
        next = omega (arith, h.next);
        clauses = each_append (AreTrueBelow (suc s.next) g) s.clauses ((selector_clause s.next l ∷ []) ∷ []) (rows_keep s.next (suc s.next) f g a le s.clauses h.clauses) ((new, tt), tt);
        terms = h.terms;
        bits = known_keeps s.next (suc s.next) f g a le s.bits (sort_of nodes) (value M nodes) h.bits;
        images = h.images;
        selectors =
            selecting_more (suc s.next) g s.selectors (value M nodes) x (record { literal = positive_of s.next; term = t })
            (selecting_keeps s.next (suc s.next) f g a le s.selectors (value M nodes) h.selectors) own here;
        equals = equating_keeps s.next (suc s.next) f g a le s.equals (value M nodes) h.equals;
      }

  -- ---- equalities

  equal_suits : (s : LogState) (f : ℕ → Bool) (t u : ℕ) (a b : List Literal) → Suits M nodes s f → sort_of nodes t ≡ sort_of nodes u → s.bits t ≡ Some a → s.bits u ≡ Some b
      → Suits M nodes (equal_after s t u (Some a) (Some b)) (with_gates f s.next (equal_gates s.next true_literal a b))
  equal_suits s f t u a b h same e k =
      let gates = equal_gates s.next true_literal a b in
      let g = with_gates f s.next gates in
      let m = s.next + length gates in
      let agree : AgreeBelow s.next f (with_gates f s.next (equal_gates s.next true_literal a b)) = with_gates-agrees (equal_gates s.next true_literal a b) f s.next in
      let le : s.next ≤ s.next + length (equal_gates s.next true_literal a b) = omega arith in
      let known = known_keeps s.next m f g agree le s.bits (sort_of nodes) (value M nodes) h.bits in
      let p = (known t a e).1 in
      let q = subst (λ w. AreBitsOf g w b (value M nodes u)) (sym same) (known u b k).1 in
      let there = rows_agree g (sort_of nodes t) a b (value M nodes t) (value M nodes u) p q in
      let back = rows_agree g (sort_of nodes t) b a (value M nodes u) (value M nodes t) q p in
      let ordered = op_ordered s.next (Plain plain.Equal) (a ∷ b ∷ []) (equality a b s.next) h.next ((h.bits t a e).0, ((h.bits u b k).0, tt)) (equal_built s.next a b there.0) in
      let have = with_gates-mean gates f s.next ordered.0 in
      let one = agree 1 h.next ∙ h.one in
      let means = equal_means g s.next one a b there.0 have in
      record {
        one = one;
        next = omega (arith, h.next);
        clauses =
            each_append (AreTrueBelow m g) s.clauses (gates_clauses s.next gates ∷ [])
            (rows_keep s.next m f g agree le s.clauses h.clauses)
            (row_of_both m g (gates_clauses s.next gates) ((gates_mean g s.next gates).1 have) (gates_clauses-below gates s.next ordered.0), tt);
        terms = h.terms;
        bits = known;
        images = h.images;
        selectors = selecting_keeps s.next m f g agree le s.selectors (value M nodes) h.selectors;
        equals =
            equating_more m g s.equals (value M nodes) t u (equal_bit s.next true_literal a b)
            (equating_keeps s.next m f g agree le s.equals (value M nodes) h.equals)
            (record {
              positive = equal_positive s.next true_literal a b refl;
              below = ordered.1.0;
              means = means ∙ there.1;
              back = means ∙ eqb_flip (number g a) (number g b) ∙ back.1;
            });
      }

  -- ---- lemmas

  bit_means : (s : LogState) (f : ℕ → Bool) (t : ℕ) (l : Literal) → Suits M nodes s f → sort_of nodes t ≡ sort.Bool → s.bits t ≡ Some (l ∷ []) → lit_true f l ≡ is_true (value M nodes t)
  bit_means s f t l h bool e =
      let means = subst (λ w. AreBitsOf f w (l ∷ []) (value M nodes t)) bool (h.bits t (l ∷ []) e).1 in
      let same : l ≡ means.0 = let q = means.1 in cc in
      ap (lit_true f) same ∙ sym (ap is_true means.2)

  lemma_suits : (s : LogState) (f : ℕ → Bool) (l : Lemma) (c : List Literal) → Suits M nodes s f → clause_of nodes s.bits s.equals l ≡ Ok c → Suits M nodes (with_row s (c ∷ [])) f
  lemma_suits s f l c h e =
      let means : Means f (sort_of nodes) (value M nodes) s.bits s.equals = record {
        top = h.one;
        bit = λ t k bool q. bit_means s f t k h bool q;
        equal = λ t u k q. (h.equals t u k q).means;
        back = λ t u k q. (h.equals t u k q).back;
      } in
      let holds = clause_sound f M nodes s.bits s.equals l c all means e in
      let below = clause_below s.next s.bits s.equals h.next (λ t b q. (h.bits t b q).0) (λ t u k q. (h.equals t u k q).below) nodes l c e in
      row_suits M nodes s f (c ∷ []) h ((holds, below), tt)

  -- ---- rewriting

  -- a term has the sort and the value of the one to which a rule takes it, so its bits
  rewrite_suits : (s : LogState) (f : ℕ → Bool) (r : RuleUse) (b : List Literal) → Suits M nodes s f → IsRuled nodes s.images r → s.bits r.to ≡ Some b → Suits M nodes (rewrite_after s r (Some b)) f
  rewrite_suits s f r b h i e =
      let m = matched nodes s.images i.rule r.from r.to i.takes in
      let same : value M nodes r.to ≡ value M nodes r.from = keeps_values M nodes s.images i.rule r.from r.to all h.images i.takes in
      let k = h.bits r.to b e in
      let is : AreBitsOf f (sort_of nodes r.from) b (value M nodes r.from) = subst (λ w. AreBitsOf f w b (value M nodes r.from)) m.sort (subst (AreBitsOf f (sort_of nodes r.to) b) same k.1) in
      record {
        one = h.one;
        next = h.next;
        clauses = each_append (AreTrueBelow s.next f) s.clauses ([] ∷ []) h.clauses (tt, tt);
        terms = terms_more nodes s.bits r.from b h.terms m.from;
        bits = known_more s.next f s.bits (sort_of nodes) (value M nodes) r.from b h.bits k.0 is;
        images = images_more nodes (value M nodes) s.images r.from r.to h.images m.plain same;
        selectors = h.selectors;
        equals = h.equals;
      }

  -- ---- all steps

  pub step_suits : (s : LogState) (f : ℕ → Bool) (e : Entry) → Suits M nodes s f → IsStep nodes s e → Suits M nodes (after nodes s e) (mean_after M nodes s f e)
  step_suits s f (step.Node n) h i = row_suits M nodes s f [] h tt
  step_suits s f (step.Leaf t) h i =
      let w = leaf_sort nodes t i.width all i.constant in
      subst (λ o. Suits M nodes (leaf_after s t o) (leaf_mean f s.next o (value M nodes t))) (sym i.constant)
      (leaf_suits s f t i.width h i.term w)
  step_suits s f (step.Encode t) h i =
      subst (λ o. Suits M nodes (block_after s t o) (block_mean f s.next o)) (sym i.circuit)
      (block_suits s f t i.block h i.term i.circuit)
  step_suits s f (step.Selector x t) h i =
      subst (λ o. Suits M nodes (selector_after s x t o) (with_variable f s.next (is_true (value M nodes t)))) (sym i.encoded)
      (selector_suits s f x t i.bit h i.term i.sort i.encoded)
  step_suits s f (step.Chain c hints) h i =
      let holds = IsChain-follows (clause_at s.clauses) c hints i.1 f (λ k d among e. (clause_each (IsTrueBelow s.next f) s.clauses k d h.clauses e).0) in
      row_suits M nodes s f (c ∷ []) h ((holds, i.0), tt)
  step_suits s f (step.Equal t u) h i =
      let a = some_value (s.bits t) i.pair.left in
      let b = some_value (s.bits u) i.pair.right in
      subst (λ o. Suits M nodes (equal_after s t u o (s.bits u)) (equal_mean f s.next o (s.bits u))) (sym a.1)
      (subst (λ o. Suits M nodes (equal_after s t u (Some a.0) o) (equal_mean f s.next (Some a.0) o)) (sym b.1)
      (equal_suits s f t u a.0 b.0 h i.pair.sort a.1 b.1))
  step_suits s f (step.Lemma l) h i =
      subst (λ o. Suits M nodes (lemma_after s o) f) (sym i.is)
      (lemma_suits s f l i.clause h i.is)
  step_suits s f (step.Rewrite r) h i =
      let b = some_value (s.bits r.to) i.held in
      subst (λ o. Suits M nodes (rewrite_after s r o) f) (sym b.1) (rewrite_suits s f r b.0 h i.ruled b.1)

  pub run_suits : (s : LogState) (f : ℕ → Bool) (log : List Entry) → Suits M nodes s f → AreSteps nodes s log → Suits M nodes (state_from nodes s log) (mean_from M nodes s f log)
  run_suits s f [] h i = h
  run_suits s f (e ∷ log) h i = run_suits (after nodes s e) (mean_after M nodes s f e) log (step_suits s f e h i.0) i.1

  start_suits : Suits M nodes start (λ x. x == 1)
  start_suits = record {
    one = refl;
    next = omega arith;
    clauses = (((refl, (omega arith, tt)), tt), tt);
    terms = λ t b e. let q : ⊥ = cc in absurd q;
    bits = λ t b e. let q : ⊥ = cc in absurd q;
    images = λ t u e. let q : ⊥ = cc in absurd q;
    selectors = λ x t e. let q : ⊥ = cc in absurd q;
    equals = λ t u l e. let q : ⊥ = cc in absurd q;
  }

  pub log_suits : (log : List Entry) → IsLog nodes log → Suits M nodes (state_of nodes log) (meaning M nodes log)
  log_suits log i = run_suits start (λ x. x == 1) log start_suits i

pub log_is_sound : (nodes : List Node) (log : List Entry) → IsTermList nodes → IsLog nodes log → LogIsSound nodes log
log_is_sound nodes log all i = record {
  clauses = λ id c e M. let h = log_suits M nodes all log i in (clause_each (IsTrueBelow (state_of nodes log).next (meaning M nodes log)) (state_of nodes log).clauses id c h.clauses e).0;
  bits = λ M t b e. ((log_suits M nodes all log i).bits t b e).1;
  images = λ M. (log_suits M nodes all log i).images;
  selectors = λ M a r e. ((log_suits M nodes all log i).selectors a r e).1;
  equals = λ M t u l e. ((log_suits M nodes all log i).equals t u l e).means;
}

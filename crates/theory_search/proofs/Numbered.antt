-- A word that has bits has those of its number.
use Rattle.std.proofs.Common.{◌≡◌, ℕ, ◌<◌, Bool, true, false, not, ◌&&◌, ◌||◌, List, [], ◌∷◌, map, length, Option, Some, None, refl, sym, ap, ◌∙◌, subst, inl, inr, ⊎_elim}
use Rattle.std.specs.Prelude.{◌⊎◌, ◌==◌, nat_lt, if◌then◌else◌}
use Rattle.std.specs.Cmp.Lexicographic.{pointwise}
use Rattle.std.proofs.lemmas.Bool.Decides.{eqb_tells}
use Rattle.cnf_base.specs.Literals.{Literal}
use Rattle.cnf_base.specs.Clauses.{number}
use Rattle.smt_terms.specs.declared.operator.Operator.{Operator}
use Rattle.smt_terms.specs.declared.operator.Operator.TheVariants as plain
use Rattle.smt_terms.specs.declared.sort.Sort.{Sort}
use Rattle.smt_terms.specs.declared.sort.Sort.TheVariants as sort
use Rattle.smt_terms.specs.declared.node.Op.{Op}
use Rattle.smt_terms.specs.declared.node.Op.TheVariants.{Plain, Word}
use Rattle.smt_terms.specs.declared.node.Node.{Node}
use Rattle.smt_terms.specs.Bits.{TermBits, bits_in}
use Rattle.smt_terms.specs.Nodes.{node_at, leaf}
use Rattle.smt_terms.specs.Same.{same_op, same_sort}
use Rattle.smt_terms.specs.Ranks.{is_plain}
use Rattle.smt_terms.specs.Scalars.{is_fixed}
use Rattle.smt_terms.specs.Terms.{IsTermList, sort_of, op_rank}
use Rattle.smt_terms.specs.Values.{VWord, same_value, number_of}
use Rattle.smt_terms.proofs.Made.{at_place}
use Rattle.bv_rules.specs.declared.rule.Rule.{Rule}
use Rattle.bv_rules.specs.declared.rule.Rule.TheVariants.{BvnotTwice, BvnegTwice, AndSame, AndZero, AndOnes, OrSame, OrZero, OrOnes, XorSame, XorZero, XorOnes, AddZero, AddOpposite, Subtract, AddSame, MultiplyZero, MultiplyOne, MultiplyPower, DivideOne, DivideZero, DividePower, RemainderZero, RemainderOne, RemainderPower, ShiftZero, ShiftPast, ExtractAll, ExtractExtract, ExtractConcat, Idle, Less, AtMost, Greater, EqualSame, NotTwice, Connective, Choice, SelectStore, Fold, Inner}
use Rattle.bv_rules.specs.Arguments.{is_literal, literal_at, are_literals, has_literals, folded_value, leads, commutes_in, has_reached, folds}
use Rattle.bv_rules.specs.Matches.{matches}
use Rattle.bv_rules.specs.Reading.{op_at, arg, is_extract, is_idle}
use Rattle.bv_rules.specs.Rules.{is, takes}
use Rattle.bit_blast.specs.Blocks.{Block, block_of}
use Rattle.bit_blast.specs.Circuits.{literal_bits}
use Rattle.bit_blast.proofs.Fixing.{clauses_fix}
use Rattle.proof_log.specs.declared.entry.RuleUse.{RuleUse}
use Rattle.proof_log.specs.declared.entry.Entry.{Entry}
use Rattle.proof_log.specs.declared.entry.Entry.TheVariants as step
use Rattle.proof_log.specs.Logs.{LogState, start, with_value, leaf_width, IsStep, leaf_after, block_after, rewrite_after, selector_after, equal_after, lemma_after, after, state_from, state_of, AreSteps, IsLog}
use Rattle.proof_log.specs.Boards.{AreBitsIn}
use Rattle.proof_log.proofs.Ordered.{any_interpretation}
use Rattle.theory_lemmas.specs.declared.fault.LemmaFault.{LemmaFault}
use Rattle.theory_lemmas.specs.Clauses.{clause_of}
use Rattle.std.specs.Prelude.{Result, Ok, Err}
use Rattle.access_tables.specs.Held.{value_by}
use Rattle.theory_search.specs.Theories.{AreNumbered}

-- ---- no rule but the one of arguments takes a word to another term, and that one to an equal word

and_left : (a b : Bool) → (a && b) ≡ true → a ≡ true
and_left true b e = refl
and_left false b e = let f : ⊥ = cc in absurd f

and_right : (a b : Bool) → (a && b) ≡ true → b ≡ true
and_right true b e = e
and_right false b e = let f : ⊥ = cc in absurd f

neither : (a b : Bool) → (a ≡ true → ⊥) → (b ≡ true → ⊥) → (a || b) ≡ true → ⊥
neither true b p q e = p refl
neither false b p q e = q e

same_word : (n k : ℕ) (o : Op) → same_op (Word n k) o ≡ true → o ≡ Word n k
same_word n k (Word m y) e = ⊎_elim
    (λ p. ⊎_elim
    (λ q. (λ i. Word (sym p.1 i) (sym q.1 i)))
    (λ q. (let f : false ≡ true = sym q.0 ∙ and_right (n == m) (k == y) e in let g : ⊥ = cc in absurd g))
    (eqb_tells k y))
    (λ p. (let f : false ≡ true = sym p.0 ∙ and_left (n == m) (k == y) e in let g : ⊥ = cc in absurd g))
    (eqb_tells n m)
same_word n k o e = let f : ⊥ = cc in absurd f

either : (a b : Bool) → (a || b) ≡ true → (a ≡ true) ⊎ (b ≡ true)
either true b p = inl refl
either false b p = inr p

matched_takes : (nodes : List Node) (images : ℕ → Option ℕ) (rule : Rule) (t u : ℕ) → matches nodes images rule t u ≡ true → takes nodes images rule t u ≡ true
matched_takes nodes images rule t u q =
    let last : Bool = takes nodes images rule t u in
    let sorts : Bool = same_sort (sort_of nodes t) (sort_of nodes u) in
    let plains : Bool = is_plain (sort_of nodes t) in
    let here : Bool = nat_lt u (length nodes) in
    let there : Bool = nat_lt t (length nodes) in
    and_right sorts last (and_right plains (sorts && last) (and_right here (plains && (sorts && last)) (and_right there (here && (plains && (sorts && last))) q)))

none_pointwise : {A : Type 0} (f : A → A → Bool) (ys : List A) → pointwise f [] ys ≡ true → ys ≡ []
none_pointwise f [] e = refl
none_pointwise f (y ∷ ys) e = let g : ⊥ = cc in absurd g

module _ (nodes : List Node) (images : ℕ → Option ℕ) (t u n k : ℕ) (e : node_at nodes t ≡ leaf (Word n k)) where
  op_is : op_at nodes t ≡ Word n k
  op_is = ap (λ (x : Node). x.op) e

  off : (o : Operator) → is nodes o t ≡ true → ⊥
  off o h = let f : false ≡ true = sym (ap (λ x. same_op x (Plain o)) op_is) ∙ h in let g : ⊥ = cc in g

  off_and : (o : Operator) (b : Bool) → (is nodes o t && b) ≡ true → ⊥
  off_and o b h = off o (and_left (is nodes o t) b h)

  no_extract : (b : Bool) → (is_extract (op_at nodes t) && b) ≡ true → ⊥
  no_extract b h =
      let f : false ≡ true = sym (ap is_extract op_is) ∙ and_left (is_extract (op_at nodes t)) b h in
      let g : ⊥ = cc in g

  no_idle : (m : ℕ) (b : Bool) → (is_idle m (op_at nodes t) && b) ≡ true → ⊥
  no_idle m b h =
      let f : false ≡ true = sym (ap (is_idle m) op_is) ∙ and_left (is_idle m (op_at nodes t)) b h in
      let g : ⊥ = cc in g

  no_fold : folds nodes t u ≡ true → ⊥
  no_fold h =
      let x : has_literals nodes t ≡ true = and_left (has_literals nodes t) (is_literal (op_at nodes u) && same_value (folded_value nodes t) (literal_at nodes u)) h in
      let y : not (length (node_at nodes t).args == 0) ≡ true =
      and_left (not (length (node_at nodes t).args == 0)) (are_literals nodes (node_at nodes t).args)
      (and_right (is_fixed (op_at nodes t)) (not (length (node_at nodes t).args == 0) && are_literals nodes (node_at nodes t).args) x) in
      let f : false ≡ true = sym (ap (λ (q : Node). not (length q.args == 0)) e) ∙ y in
      let g : ⊥ = cc in g

  inner_equal : has_reached nodes images t u ≡ true → node_at nodes u ≡ leaf (Word n k)
  inner_equal h =
      let A : Bool = pointwise (leads nodes images) (node_at nodes t).args (node_at nodes u).args in
      let B : Bool = commutes_in (op_at nodes t) && (leads nodes images (arg nodes 0 t) (arg nodes 1 u) && leads nodes images (arg nodes 1 t) (arg nodes 0 u)) in
      let both : (A || B) ≡ true = and_right (same_op (op_at nodes t) (op_at nodes u)) (A || B) h in
      let same : op_at nodes u ≡ Word n k = same_word n k (op_at nodes u) (sym (ap (λ (x : Op). same_op x (op_at nodes u)) op_is) ∙ and_left (same_op (op_at nodes t) (op_at nodes u)) (A || B) h) in
      ⊎_elim
      (λ p.
      let none : (node_at nodes u).args ≡ [] = none_pointwise (leads nodes images) (node_at nodes u).args (sym (ap (λ (q : Node). pointwise (leads nodes images) q.args (node_at nodes u).args) e) ∙ p) in
      equal_node same none)
      (λ p.
      let f : false ≡ true = sym (ap commutes_in op_is) ∙ and_left (commutes_in (op_at nodes t)) (leads nodes images (arg nodes 0 t) (arg nodes 1 u) && leads nodes images (arg nodes 1 t) (arg nodes 0 u)) p in
      let g : ⊥ = cc in absurd g)
      (either A B both)
    where
      equal_node : op_at nodes u ≡ Word n k → (node_at nodes u).args ≡ [] → node_at nodes u ≡ leaf (Word n k)
      equal_node p q = λ i. record { op = p i; args = q i }

  taken_equal : (rule : Rule) → takes nodes images rule t u ≡ true → node_at nodes u ≡ leaf (Word n k)
  taken_equal BvnotTwice h = absurd (off_and plain.Bvnot _ h)
  taken_equal BvnegTwice h = absurd (off_and plain.Bvneg _ h)
  taken_equal AndSame h = absurd (off_and plain.Bvand _ h)
  taken_equal AndZero h = absurd (off_and plain.Bvand _ h)
  taken_equal AndOnes h = absurd (off_and plain.Bvand _ h)
  taken_equal OrSame h = absurd (off_and plain.Bvor _ h)
  taken_equal OrZero h = absurd (off_and plain.Bvor _ h)
  taken_equal OrOnes h = absurd (off_and plain.Bvor _ h)
  taken_equal XorSame h = absurd (off_and plain.Bvxor _ h)
  taken_equal XorZero h = absurd (off_and plain.Bvxor _ h)
  taken_equal XorOnes h = absurd (off_and plain.Bvxor _ h)
  taken_equal AddZero h = absurd (off_and plain.Bvadd _ h)
  taken_equal AddOpposite h = absurd (off_and plain.Bvadd _ h)
  taken_equal Subtract h = absurd (off_and plain.Bvsub _ h)
  taken_equal AddSame h = absurd (off_and plain.Bvadd _ h)
  taken_equal MultiplyZero h = absurd (off_and plain.Bvmul _ h)
  taken_equal MultiplyOne h = absurd (off_and plain.Bvmul _ h)
  taken_equal MultiplyPower h = absurd (off_and plain.Bvmul _ h)
  taken_equal DivideOne h = absurd (off_and plain.Bvudiv _ h)
  taken_equal DivideZero h = absurd (off_and plain.Bvudiv _ h)
  taken_equal DividePower h = absurd (off_and plain.Bvudiv _ h)
  taken_equal RemainderZero h = absurd (off_and plain.Bvurem _ h)
  taken_equal RemainderOne h = absurd (off_and plain.Bvurem _ h)
  taken_equal RemainderPower h = absurd (off_and plain.Bvurem _ h)
  taken_equal ShiftZero h = absurd (neither _ _ (off_and plain.Bvshl _) (λ q. neither _ _ (off_and plain.Bvlshr _) (off_and plain.Bvashr _) q) h)
  taken_equal ShiftPast h = absurd (neither _ _ (off_and plain.Bvshl _) (off_and plain.Bvlshr _) h)
  taken_equal ExtractAll h = absurd (no_extract _ h)
  taken_equal ExtractExtract h = absurd (no_extract _ h)
  taken_equal ExtractConcat h = absurd (no_extract _ h)
  taken_equal Idle h = absurd (no_idle _ _ h)
  taken_equal Less h = absurd (off_and plain.Bvult _ h)
  taken_equal AtMost h = absurd (off_and plain.Bvule _ h)
  taken_equal Greater h = absurd (neither _ _ (off_and plain.Bvugt _) (λ q. neither _ _ (off_and plain.Bvuge _) (λ r. neither _ _ (off_and plain.Bvsgt _) (off_and plain.Bvsge _) r) q) h)
  taken_equal EqualSame h = absurd (off_and plain.Equal _ h)
  taken_equal NotTwice h = absurd (off_and plain.Not _ h)
  taken_equal Connective h = absurd (neither _ _ (off_and plain.And _) (off_and plain.Or _) h)
  taken_equal Choice h = absurd (off_and plain.Ite _ h)
  taken_equal SelectStore h = absurd (off_and plain.Select _ h)
  taken_equal Fold h = absurd (no_fold h)
  taken_equal Inner h = inner_equal h

-- ---- step by step

-- each word with bits has those of its number
abbrev AreWords : List Node → (ℕ → Option (List Literal)) → Type 0
AreWords nodes bits = (w n k : ℕ) (row : List Literal) → node_at nodes w ≡ leaf (Word n k) → bits w ≡ Some row → row ≡ literal_bits n k

one_more : (nodes : List Node) (bits : ℕ → Option (List Literal)) (t : ℕ) (b : List Literal) → ((n k : ℕ) → node_at nodes t ≡ leaf (Word n k) → b ≡ literal_bits n k) → AreWords nodes bits → AreWords nodes (with_value bits t b)
one_more nodes bits t b own h w n k row e q = ⊎_elim
    (λ p. (let here : Some b ≡ Some row = sym (ap (λ (c : Bool). if c then Some b else bits w) p.0) ∙ q in
    let same : b ≡ row = cc in
    sym same ∙ own n k (sym (ap (node_at nodes) p.1) ∙ e)))
    (λ p. h w n k row e (sym (ap (λ (c : Bool). if c then Some b else bits w) p.0) ∙ q))
    (eqb_tells w t)

module _ (nodes : List Node) where
  leaf_words : (s : LogState) (t : ℕ) (o : Option ℕ) → leaf_width nodes t ≡ o → AreWords nodes s.bits → AreWords nodes (leaf_after s t o).bits
  leaf_words s t None p h = h
  leaf_words s t (Some m) p h = one_more nodes s.bits t _ (λ n k e. (let q : None ≡ Some m = sym (no_leaf n k e) ∙ p in let f : ⊥ = cc in absurd f)) h
    where
      no_leaf : (n k : ℕ) → node_at nodes t ≡ leaf (Word n k) → leaf_width nodes t ≡ None
      no_leaf n k e = rw e refl

  block_words : (s : LogState) (t : ℕ) (o : Option Block) → block_of s.next s.bits (node_at nodes t) ≡ o → AreWords nodes s.bits → AreWords nodes (block_after s t o).bits
  block_words s t None p h = h
  block_words s t (Some b) p h = one_more nodes s.bits t b.bits
      (λ n k e. (let q : Some (record { gates = []; bits = literal_bits n k }) ≡ Some b = sym (ap (block_of s.next s.bits) e) ∙ p in
      let same : record { gates = []; bits = literal_bits n k } ≡ b = cc in
      sym (ap (λ (x : Block). x.bits) same)))
      h

  rewrite_words : (s : LogState) (r : RuleUse) (o : Option (List Literal)) → s.bits r.to ≡ o → ((n k : ℕ) → node_at nodes r.from ≡ leaf (Word n k) → node_at nodes r.to ≡ leaf (Word n k)) → AreWords nodes s.bits → AreWords nodes (rewrite_after s r o).bits
  rewrite_words s r None p same h = h
  rewrite_words s r (Some b) p same h = one_more nodes s.bits r.from b (λ n k e. h r.to n k b (same n k e) p) h

  selector_same : (s : LogState) (a t : ℕ) (o : Option (List Literal)) → (selector_after s a t o).bits ≡ s.bits
  selector_same s a t None = refl
  selector_same s a t (Some []) = refl
  selector_same s a t (Some (b ∷ bs)) = refl

  equal_same : (s : LogState) (t u : ℕ) (o p : Option (List Literal)) → (equal_after s t u o p).bits ≡ s.bits
  equal_same s t u None p = refl
  equal_same s t u (Some a) None = refl
  equal_same s t u (Some a) (Some b) = refl

  lemma_same : (s : LogState) (o : Result (List Literal) LemmaFault) → (lemma_after s o).bits ≡ s.bits
  lemma_same s (Err f) = refl
  lemma_same s (Ok c) = refl

  step_words : (s : LogState) (e : Entry) → IsStep nodes s e → AreWords nodes s.bits → AreWords nodes (after nodes s e).bits
  step_words s (step.Leaf t) i h = leaf_words s t (leaf_width nodes t) refl h
  step_words s (step.Encode t) i h = block_words s t (block_of s.next s.bits (node_at nodes t)) refl h
  step_words s (step.Selector a t) i h = subst (AreWords nodes) (sym (selector_same s a t (s.bits t))) h
  step_words s (step.Chain c hints) i h = h
  step_words s (step.Rewrite r) i h =
      rewrite_words s r (s.bits r.to) refl
      (λ n k e. taken_equal nodes s.images r.from r.to n k e i.ruled.rule (matched_takes nodes s.images i.ruled.rule r.from r.to i.ruled.takes)) h
  step_words s (step.Equal t u) i h = subst (AreWords nodes) (sym (equal_same s t u (s.bits t) (s.bits u))) h
  step_words s (step.Lemma l) i h = subst (AreWords nodes) (sym (lemma_same s (clause_of nodes s.bits s.equals l))) h
  step_words s (step.Node n) i h = h

  steps_words : (s : LogState) (log : List Entry) → AreSteps nodes s log → AreWords nodes s.bits → AreWords nodes (state_from nodes s log).bits
  steps_words s [] i h = h
  steps_words s (e ∷ log) i h = steps_words (after nodes s e) log i.1 (step_words s e i.0 h)

  log_words : (log : List Entry) → IsLog nodes log → AreWords nodes (state_of nodes log).bits
  log_words log i = steps_words start log i (λ w n k row e q. let f : ⊥ = cc in absurd f)

-- ---- under an assignment

module _ (nodes : List Node) (terms : IsTermList nodes) (log : List Entry) (stands : IsLog nodes log) (bits : List TermBits) (are : AreBitsIn nodes log bits) where
  word_number : (f : ℕ → Bool) → f 1 ≡ true → (w n k : ℕ) → w < length nodes → node_at nodes w ≡ leaf (Word n k) → sort_of nodes w ≡ sort.Word n → number f (literal_bits n k) ≡ k
  word_number f one w n k within e s =
      let rank : op_rank (Word n k) [] ≡ Ok (sort.Word n) = subst (λ (q : Sort). op_rank (Word n k) [] ≡ Ok q) s (subst (λ (x : Node). op_rank x.op (map (sort_of nodes) x.args) ≡ Ok (sort_of nodes w)) e (terms w within).rank) in
      let fixed = clauses_fix any_interpretation f 0 (Word n k) [] [] [] (sort.Word n) (record { gates = []; bits = literal_bits n k }) one rank tt refl refl in
      let both : VWord n k ≡ VWord n (number f (literal_bits n k)) = fixed.1 in
      sym (ap number_of both)

  pub numbered : AreNumbered nodes bits
  numbered f one n k w is row =
      let p = at_place nodes (leaf (Word n k)) w is.0 in
      let e : node_at nodes w ≡ leaf (Word n k) = p.1 in
      let same : row.0 ≡ literal_bits n k = log_words nodes log stands w n k row.0 e (sym (are w) ∙ row.1) in
      ap (λ q. number_of (value_by f q (bits_in bits w))) is.1
      ∙ ap (λ o. number_of (value_by f (sort.Word n) o)) (row.1 ∙ ap Some same)
      ∙ word_number f one w n k p.0 e is.1

-- What a log has stays where more steps and more terms stand.
use Rattle.std.proofs.Common.{◌≡◌, ℕ, ◌<◌, ◌≤◌, Bool, true, false, List, [], ◌∷◌, ◌++◌, length, Option, Some, None, Result, Ok, Err, refl, sym, ap, ◌∙◌, subst, arith, length-append}
use Rattle.std.specs.Prelude.{◌==◌, ◌&&◌, ltb, if◌then◌else◌, IsSome, is_some}
use Rattle.std.proofs.lemmas.Bool.{eqb-true, ne_eqb, ltb-true, and_parts}
use Rattle.std.proofs.lemmas.List.Elements.{Contains-append_left}
use Rattle.cnf_base.specs.Literals.{Literal, true_literal}
use Rattle.cnf_base.specs.Choices.{equal_gates, equal_bit}
use Rattle.cnf_base.specs.Assignments.{AgreeBelow, with_variable}
use Rattle.cnf_base.proofs.Agreeing.{AgreeBelow-refl, AgreeBelow-then}
use Rattle.cnf_base.proofs.Extending.{with_variable-agrees, with_number-agrees, with_gates-agrees}
use Rattle.cnf_base.proofs.Options.{some_value}
use Rattle.smt_terms.specs.declared.node.Node.{Node}
use Rattle.smt_terms.specs.Nodes.{node_at}
use Rattle.smt_terms.specs.Ranks.{is_array}
use Rattle.smt_terms.specs.Terms.{IsTermList, sort_of}
use Rattle.smt_terms.specs.Values.{Value, Interpretation, is_true, value}
use Rattle.smt_terms.proofs.Growing.{sort_longer, node_longer}
use Rattle.smt_terms.proofs.Evaluating.{value_longer}
use Rattle.bv_rules.proofs.Longer.{matches_more}
use Rattle.bit_blast.specs.Blocks.{Block, block_of}
use Rattle.hint_chain.specs.Chains.{FindsMore}
use Rattle.theory_terms.specs.declared.shape.Shape.{Shape}
use Rattle.theory_terms.specs.declared.shape.Shape.TheVariants.{Selecting, Storing, Filling, Choosing, Equating, Witnessing, Applying, Declaring, Other}
use Rattle.theory_terms.specs.declared.lemma.Lemma.{Lemma}
use Rattle.theory_terms.specs.Shapes.{shape_of, shape_at}
use Rattle.theory_terms.specs.Lemmas.{atoms_of}
use Rattle.theory_terms.proofs.Longer.{lemma_longer as lemma_stays}
use Rattle.theory_lemmas.specs.declared.fault.LemmaFault.{LemmaFault}
use Rattle.theory_lemmas.specs.Clauses.{of_atoms, clause_of}
use Rattle.theory_lemmas.proofs.Parts.{atoms_are}
use Rattle.proof_log.specs.declared.entry.RuleUse.{RuleUse}
use Rattle.proof_log.specs.declared.entry.Entry.{Entry}
use Rattle.proof_log.specs.declared.entry.Entry.TheVariants as step
use Rattle.proof_log.specs.Logs.{LogState, start, clause_at, with_value, with_row, plain_width, width_by, leaf_width, IsStep, IsLemma, leaf_after, block_after, selector_after, equal_after, rewrite_after, lemma_after, after, state_from, state_of, AreSteps, IsLog}
use Rattle.proof_log.specs.Pairs.{with_pair}
use Rattle.proof_log.specs.Stored.{clauses_of}
use Rattle.proof_log.specs.Meanings.{leaf_mean, block_mean, equal_mean, mean_after, mean_from, meaning, GivesMore, GivesMorePairs, StaysLog, IsLogOver}
use Rattle.proof_log.proofs.Growing.{clause_more}

-- ---- more steps

pub state_from-append : (nodes : List Node) (s : LogState) (log more : List Entry) → state_from nodes s (log ++ more) ≡ state_from nodes (state_from nodes s log) more
state_from-append nodes s [] more = refl
state_from-append nodes s (e ∷ log) more = state_from-append nodes (after nodes s e) log more

pub steps_append : (nodes : List Node) (s : LogState) (log more : List Entry) → AreSteps nodes s log → AreSteps nodes (state_from nodes s log) more → AreSteps nodes s (log ++ more)
steps_append nodes s [] more h k = k
steps_append nodes s (e ∷ log) more h k = (h.0, steps_append nodes (after nodes s e) log more h.1 k)

pub steps_parts : (nodes : List Node) (s : LogState) (log more : List Entry) → AreSteps nodes s (log ++ more) → AreSteps nodes s log × AreSteps nodes (state_from nodes s log) more
steps_parts nodes s [] more h = (tt, h)
steps_parts nodes s (e ∷ log) more h = let k = steps_parts nodes (after nodes s e) log more h.1 in ((h.0, k.0), k.1)

-- what the first state has, the second has
pub record Holds (s r : LogState) : Type 0 where
  pub next : s.next ≤ r.next
  pub clauses : FindsMore (clause_at s.clauses) (clause_at r.clauses)
  pub bits : GivesMore s.bits r.bits
  pub images : (t : ℕ) → IsSome (s.bits t) → r.images t ≡ s.images t
  pub selectors : GivesMore s.selectors r.selectors
  pub equals : GivesMorePairs s.equals r.equals

pub Holds-refl : (s : LogState) → Holds s s
Holds-refl s = record { next = omega arith; clauses = λ id c e. e; bits = λ t b e. e; images = λ t h. refl; selectors = λ a r e. e; equals = λ t u l e. e }

pub Holds-then : (s r q : LogState) → Holds s r → Holds r q → Holds s q
Holds-then s r q h k = record {
  next = omega (arith, h.next, k.next);
  clauses = λ id c e. k.clauses id c (h.clauses id c e);
  bits = λ t b e. k.bits t b (h.bits t b e);
  images = λ t has. let b = some_value (s.bits t) has in k.images t (ap is_some (h.bits t b.0 b.1)) ∙ h.images t has;
  selectors = λ a x e. k.selectors a x (h.selectors a x e);
  equals = λ t u l e. k.equals t u l (h.equals t u l e);
}

-- a new value where there was none
gives_more : {A : Type 0} (f : ℕ → Option A) (x : ℕ) (a : A) → f x ≡ None → GivesMore f (with_value f x a)
gives_more {A} f x a n y b e = go (y == x) refl
  where
    go : (t : Bool) → (y == x) ≡ t → (if t then Some a else f y) ≡ Some b
    go true h = let q : f y ≡ None = ap f (eqb-true y x h) ∙ n in let r : ⊥ = cc in absurd r
    go false h = e

-- a value of another number stays
pub elsewhere : {A : Type 0} (f : ℕ → Option A) (x : ℕ) (a : A) (y : ℕ) → (y ≡ x → ⊥) → with_value f x a y ≡ f y
elsewhere f x a y ne = ap (λ b. if b then Some a else f y) (ne_eqb y x ne)

-- the same of a pair
pairs_more : {A : Type 0} (f : ℕ → ℕ → Option A) (t u : ℕ) (a : A) → f t u ≡ None → GivesMorePairs f (with_pair f t u a)
pairs_more {A} f t u a n x y b e = go ((x == t) && (y == u)) refl
  where
    go : (c : Bool) → ((x == t) && (y == u)) ≡ c → (if c then Some a else f x y) ≡ Some b
    go true h =
        let both = and_parts (x == t) (y == u) h in
        let q : f x y ≡ None = ap (λ k. f k y) (eqb-true x t both.0) ∙ ap (f t) (eqb-true y u both.1) ∙ n in
        let r : ⊥ = cc in absurd r
    go false h = e

row_holds : (s : LogState) (row : List (List Literal)) → Holds s (with_row s row)
row_holds s row = record { next = omega arith; clauses = clause_more s.clauses (row ∷ []); bits = λ u b e. e; images = λ u h. refl; selectors = λ a r e. e; equals = λ t u l e. e }

pub equal_holds : (s : LogState) (t u : ℕ) (o p : Option (List Literal)) → s.equals t u ≡ None → Holds s (equal_after s t u o p)
equal_holds s t u None p n = row_holds s []
equal_holds s t u (Some a) None n = row_holds s []
equal_holds s t u (Some a) (Some b) n = record {
  next = omega arith;
  clauses = clause_more s.clauses _;
  bits = λ x c e. e;
  images = λ x h. refl;
  selectors = λ x r e. e;
  equals = pairs_more s.equals t u (equal_bit s.next true_literal a b) n;
}

pub lemma_holds : (s : LogState) (o : Result (List Literal) LemmaFault) → Holds s (lemma_after s o)
lemma_holds s (Err f) = row_holds s []
lemma_holds s (Ok c) = row_holds s (c ∷ [])

leaf_holds : (s : LogState) (t : ℕ) (o : Option ℕ) → s.bits t ≡ None → Holds s (leaf_after s t o)
leaf_holds s t None n = record { next = omega arith; clauses = clause_more s.clauses ([] ∷ []); bits = λ u b e. e; images = λ u h. refl; selectors = λ a r e. e; equals = λ t u l e. e }
leaf_holds s t (Some k) n = record { next = omega arith; clauses = clause_more s.clauses ([] ∷ []); bits = gives_more s.bits t _ n; images = λ u h. refl; selectors = λ a r e. e; equals = λ t u l e. e }

block_holds : (s : LogState) (t : ℕ) (o : Option Block) → s.bits t ≡ None → Holds s (block_after s t o)
block_holds s t None n = record { next = omega arith; clauses = clause_more s.clauses ([] ∷ []); bits = λ u b e. e; images = λ u h. refl; selectors = λ a r e. e; equals = λ t u l e. e }
block_holds s t (Some k) n = record { next = omega arith; clauses = clause_more s.clauses _; bits = gives_more s.bits t _ n; images = λ u h. refl; selectors = λ a r e. e; equals = λ t u l e. e }

selector_holds : (s : LogState) (a t : ℕ) (o : Option (List Literal)) → s.selectors a ≡ None → Holds s (selector_after s a t o)
selector_holds s a t None n = record { next = omega arith; clauses = clause_more s.clauses ([] ∷ []); bits = λ u b e. e; images = λ u h. refl; selectors = λ a r e. e; equals = λ t u l e. e }
selector_holds s a t (Some []) n = record { next = omega arith; clauses = clause_more s.clauses ([] ∷ []); bits = λ u b e. e; images = λ u h. refl; selectors = λ a r e. e; equals = λ t u l e. e }
selector_holds s a t (Some (b ∷ bs)) n = record { next = omega arith; clauses = clause_more s.clauses _; bits = λ u b e. e; images = λ u h. refl; selectors = gives_more s.selectors a _ n; equals = λ t u l e. e }

-- a term without bits gets those of another
rewrite_holds : (s : LogState) (r : RuleUse) (o : Option (List Literal)) → s.bits r.from ≡ None → Holds s (rewrite_after s r o)
rewrite_holds s r None n = row_holds s []
rewrite_holds s r (Some b) n = record {
  next = omega arith;
  clauses = clause_more s.clauses ([] ∷ []);
  bits = gives_more s.bits r.from b n;
  images = λ t has. elsewhere s.images r.from r.to t (λ same. let q : is_some (s.bits t) ≡ false = ap (λ x. is_some (s.bits x)) same ∙ ap is_some n in let f : true ≡ false = sym has ∙ q in let g : ⊥ = cc in g);
  selectors = λ a x e. e;
  equals = λ t u l e. e;
}

pub step_holds : (nodes : List Node) (s : LogState) (e : Entry) → IsStep nodes s e → Holds s (after nodes s e)
step_holds nodes s (step.Leaf t) i = leaf_holds s t (leaf_width nodes t) i.new
step_holds nodes s (step.Encode t) i = block_holds s t (block_of s.next s.bits (node_at nodes t)) i.new
step_holds nodes s (step.Selector a t) i = selector_holds s a t (s.bits t) i.new
step_holds nodes s (step.Equal t u) i = equal_holds s t u (s.bits t) (s.bits u) i.new
step_holds nodes s (step.Rewrite r) i = rewrite_holds s r (s.bits r.to) i.new
step_holds nodes s (step.Lemma l) i = lemma_holds s (clause_of nodes s.bits s.equals l)
step_holds nodes s e i = record { next = omega arith; clauses = clause_more s.clauses (clauses_of e [] ∷ []); bits = λ u b e. e; images = λ u h. refl; selectors = λ a r e. e; equals = λ t u l e. e }

pub steps_hold : (nodes : List Node) (s : LogState) (log : List Entry) → AreSteps nodes s log → Holds s (state_from nodes s log)
steps_hold nodes s [] h = Holds-refl s
steps_hold nodes s (e ∷ log) h =
    Holds-then s (after nodes s e) (state_from nodes (after nodes s e) log) (step_holds nodes s e h.0) (steps_hold nodes (after nodes s e) log h.1)

-- ---- the meaning of more steps

leaf_agrees : (f : ℕ → Bool) (g : ℕ) (o : Option ℕ) (v : Value) → AgreeBelow g f (leaf_mean f g o v)
leaf_agrees f g None v = AgreeBelow-refl g f
leaf_agrees f g (Some n) v = with_number-agrees n f g _

block_agrees : (f : ℕ → Bool) (g : ℕ) (o : Option Block) → AgreeBelow g f (block_mean f g o)
block_agrees f g None = AgreeBelow-refl g f
block_agrees f g (Some b) = with_gates-agrees b.gates f g

equal_agrees : (f : ℕ → Bool) (g : ℕ) (o p : Option (List Literal)) → AgreeBelow g f (equal_mean f g o p)
equal_agrees f g None p = AgreeBelow-refl g f
equal_agrees f g (Some a) None = AgreeBelow-refl g f
equal_agrees f g (Some a) (Some b) = with_gates-agrees (equal_gates g true_literal a b) f g

step_agrees : (M : Interpretation) (nodes : List Node) (s : LogState) (f : ℕ → Bool) (e : Entry) → AgreeBelow s.next f (mean_after M nodes s f e)
step_agrees M nodes s f (step.Leaf t) = leaf_agrees f s.next (leaf_width nodes t) (value M nodes t)
step_agrees M nodes s f (step.Encode t) = block_agrees f s.next (block_of s.next s.bits (node_at nodes t))
step_agrees M nodes s f (step.Selector a t) = with_variable-agrees f s.next (is_true (value M nodes t))
step_agrees M nodes s f (step.Equal t u) = equal_agrees f s.next (s.bits t) (s.bits u)
step_agrees M nodes s f e = AgreeBelow-refl s.next f

pub steps_agree : (M : Interpretation) (nodes : List Node) (s : LogState) (f : ℕ → Bool) (log : List Entry) → AreSteps nodes s log → AgreeBelow s.next f (mean_from M nodes s f log)
steps_agree M nodes s f [] h = AgreeBelow-refl s.next f
steps_agree M nodes s f (e ∷ log) h =
    let g = mean_after M nodes s f e in
    AgreeBelow-then s.next (after nodes s e).next f g (mean_from M nodes (after nodes s e) g log) (step_holds nodes s e h.0).next
    (step_agrees M nodes s f e) (steps_agree M nodes (after nodes s e) g log h.1)

mean_from-append : (M : Interpretation) (nodes : List Node) (s : LogState) (f : ℕ → Bool) (log more : List Entry) → mean_from M nodes s f (log ++ more) ≡ mean_from M nodes (state_from nodes s log) (mean_from M nodes s f log) more
mean_from-append M nodes s f [] more = refl
mean_from-append M nodes s f (e ∷ log) more = mean_from-append M nodes (after nodes s e) (mean_after M nodes s f e) log more

pub log_stays : (nodes : List Node) (log more : List Entry) → IsLog nodes (log ++ more) → StaysLog nodes log more
log_stays nodes log more h =
    let p = steps_parts nodes start log more h in
    let s = state_of nodes log in
    let k = subst (Holds s) (sym (state_from-append nodes start log more)) (steps_hold nodes s more p.1) in
    record {
      steps = p.0;
      next = k.next;
      clauses = k.clauses;
      bits = k.bits;
      images = k.images;
      selectors = k.selectors;
      equals = k.equals;
      meaning = λ M. subst (AgreeBelow s.next (meaning M nodes log)) (sym (mean_from-append M nodes start (λ x. x == 1) log more)) (steps_agree M nodes s (meaning M nodes log) more p.1);
    }

-- ---- more terms

module _ (nodes more : List Node) where
  within : (t : ℕ) → t < length nodes → t < length (nodes ++ more)
  within t lt = omega (arith, length-append nodes more)

  width_longer : (t : ℕ) → t < length nodes → (k : Shape) → width_by (nodes ++ more) t k ≡ width_by nodes t k
  width_longer t lt (Declaring d q) = refl
  width_longer t lt (Selecting a i) = ap plain_width (sort_longer nodes more t lt)
  width_longer t lt (Witnessing a b) = ap plain_width (sort_longer nodes more t lt)
  width_longer t lt (Applying d) = ap plain_width (sort_longer nodes more t lt)
  width_longer t lt (Equating a b) = go (ltb a t) refl
    where
      go : (c : Bool) → ltb a t ≡ c → (let o : Option ℕ = if c && is_array (sort_of (nodes ++ more) a) then Some 1 else None in o) ≡ (let o : Option ℕ = if c && is_array (sort_of nodes a) then Some 1 else None in o)
      go true q = let earlier = ltb-true a t q in ap (λ r. let o : Option ℕ = if is_array r then Some 1 else None in o) (sort_longer nodes more a (omega arith))
      go false q = refl
  width_longer t lt (Storing a i x) = refl
  width_longer t lt (Filling x) = refl
  width_longer t lt (Choosing c a b) = refl
  width_longer t lt Other = refl

  leaf_longer : (t : ℕ) → t < length nodes → leaf_width (nodes ++ more) t ≡ leaf_width nodes t
  leaf_longer t lt = ap (λ n. width_by (nodes ++ more) t (shape_of n.op n.args)) (node_longer nodes more t lt) ∙ width_longer t lt (shape_at nodes t)

  lemma_longer : (s : LogState) (l : Lemma) → IsLemma nodes s l → clause_of (nodes ++ more) s.bits s.equals l ≡ clause_of nodes s.bits s.equals l
  lemma_longer s l i =
      let h = atoms_are s.bits s.equals (atoms_of nodes l) i.clause i.is in
      ap (of_atoms s.bits s.equals) (lemma_stays nodes more l h.atoms h.is ∙ sym h.is)

  same_after : (s : LogState) (e : Entry) → IsStep nodes s e → after (nodes ++ more) s e ≡ after nodes s e
  same_after s (step.Leaf t) i = ap (leaf_after s t) (leaf_longer t i.term)
  same_after s (step.Encode t) i = ap (λ n. block_after s t (block_of s.next s.bits n)) (node_longer nodes more t i.term)
  same_after s (step.Lemma l) i = ap (lemma_after s) (lemma_longer s l i)
  same_after s e i = refl

  -- where each term is over earlier ones, a rule takes it to the same term among more
  pub step_longer : IsTermList nodes → (s : LogState) (e : Entry) → IsStep nodes s e → IsStep (nodes ++ more) s e
  step_longer all s (step.Node n) i = Contains-append_left nodes more n i
  step_longer all s (step.Leaf t) i = record { term = within t i.term; new = i.new; width = i.width; constant = leaf_longer t i.term ∙ i.constant }
  step_longer all s (step.Encode t) i = record { term = within t i.term; new = i.new; block = i.block; circuit = ap (block_of s.next s.bits) (node_longer nodes more t i.term) ∙ i.circuit }
  step_longer all s (step.Selector a t) i = record { term = within t i.term; sort = sort_longer nodes more t i.term ∙ i.sort; new = i.new; bit = i.bit; encoded = i.encoded }
  step_longer all s (step.Equal t u) i =
      let p = i.pair in
      let lower = p.lower in
      let term = p.term in
      let first : t < length nodes = omega arith in
      record {
        pair = record { lower = lower; term = within u term; sort = sort_longer nodes more t first ∙ p.sort ∙ sym (sort_longer nodes more u term); left = p.left; right = p.right };
        new = i.new;
      }
  step_longer all s (step.Lemma l) i = record { clause = i.clause; is = lemma_longer s l i ∙ i.is }
  step_longer all s (step.Rewrite r) i = record {
    ruled = record { rule = i.ruled.rule; number = i.ruled.number; takes = matches_more nodes more s.images i.ruled.rule r.from r.to all i.ruled.takes };
    new = i.new;
    held = i.held;
  }
  step_longer all s e i = i

  pub same_state : (s : LogState) (log : List Entry) → AreSteps nodes s log → state_from (nodes ++ more) s log ≡ state_from nodes s log
  same_state s [] i = refl
  same_state s (e ∷ log) i = ap (λ r. state_from (nodes ++ more) r log) (same_after s e i.0) ∙ same_state (after nodes s e) log i.1

  pub steps_longer : IsTermList nodes → (s : LogState) (log : List Entry) → AreSteps nodes s log → AreSteps (nodes ++ more) s log
  steps_longer all s [] i = tt
  steps_longer all s (e ∷ log) i =
      (step_longer all s e i.0, subst (λ r. AreSteps (nodes ++ more) r log) (sym (same_after s e i.0)) (steps_longer all (after nodes s e) log i.1))

  same_mean : (M : Interpretation) (s : LogState) (f : ℕ → Bool) (e : Entry) → IsStep nodes s e → mean_after M (nodes ++ more) s f e ≡ mean_after M nodes s f e
  same_mean M s f (step.Leaf t) i =
      ap (λ o. leaf_mean f s.next o (value M (nodes ++ more) t)) (leaf_longer t i.term)
      ∙ ap (leaf_mean f s.next (leaf_width nodes t)) (value_longer M nodes more t i.term)
  same_mean M s f (step.Encode t) i = ap (λ n. block_mean f s.next (block_of s.next s.bits n)) (node_longer nodes more t i.term)
  same_mean M s f (step.Selector a t) i = ap (λ v. with_variable f s.next (is_true v)) (value_longer M nodes more t i.term)
  same_mean M s f e i = refl

  same_means : (M : Interpretation) (s : LogState) (f : ℕ → Bool) (log : List Entry) → AreSteps nodes s log → mean_from M (nodes ++ more) s f log ≡ mean_from M nodes s f log
  same_means M s f [] i = refl
  same_means M s f (e ∷ log) i =
      ap (λ r. mean_from M (nodes ++ more) r (mean_after M (nodes ++ more) s f e) log) (same_after s e i.0)
      ∙ ap (λ g. mean_from M (nodes ++ more) (after nodes s e) g log) (same_mean M s f e i.0)
      ∙ same_means M (after nodes s e) (mean_after M nodes s f e) log i.1

  pub log_over : IsTermList nodes → (log : List Entry) → IsLog nodes log → IsLogOver nodes more log
  log_over all log i = record {
    steps = steps_longer all start log i;
    state = same_state start log i;
    meaning = λ M. same_means M start (λ x. x == 1) log i;
  }

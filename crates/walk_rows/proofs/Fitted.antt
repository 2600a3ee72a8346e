-- From what is looked at term by term to what a walk and an interpretation ask for.
use Rattle.std.proofs.Common.{◌≡◌, ℕ, zero, suc, ◌+◌, ◌*◌, ◌<◌, ◌≤◌, ◌^◌, Bool, true, false, not, List, [], ◌∷◌, length, Option, Some, None, refl, sym, ap, ◌∙◌, subst, inl, inr, ⊎_elim, arith}
use Rattle.std.specs.Prelude.{All, get_or, Contains, MatchBool, if◌then◌else◌, ◌==◌, Result, Ok, Err, OnOk, OnErr}
use Rattle.std.specs.List.{AllByRecursion, range_with_len}
use Rattle.std.proofs.lemmas.Bool.{cases_lt}
use Rattle.std.proofs.lemmas.List.{get_or_past}
use Rattle.std.proofs.lemmas.List.FromFn.{length-range_with_len, get_or-range_with_len}
use Rattle.std.proofs.lemmas.List.Elements.{All-contains, Contains-append_cases}
use Rattle.cnf_base.specs.Literals.{Literal}
use Rattle.cnf_base.specs.Clauses.{bit, number}
use Rattle.smt_terms.specs.declared.sort.Sort.TheVariants as sort
use Rattle.smt_terms.specs.declared.node.Op.{Op}
use Rattle.smt_terms.specs.declared.node.Op.TheVariants.{Word}
use Rattle.smt_terms.specs.declared.node.Node.{Node}
use Rattle.smt_terms.specs.Nodes.{node_at, no_node, leaf}
use Rattle.smt_terms.specs.Bits.{TermBits, bits_in, image_in, with_bits}
use Rattle.smt_terms.specs.Terms.{sort_of, op_sort, IsTermList}
use Rattle.smt_terms.specs.Values.{number_of}
use Rattle.smt_terms.proofs.Made.{at_place}
use Rattle.smt_terms.proofs.Recursion.{at_term_is}
use Rattle.theory_terms.specs.declared.shape.Shape.{Shape}
use Rattle.theory_terms.specs.declared.shape.Shape.TheVariants.{Selecting, Storing, Filling, Choosing, Equating, Witnessing, Applying, Declaring, Other}
use Rattle.theory_terms.specs.declared.atom.Watch.{Watch}
use Rattle.theory_terms.specs.Shapes.{IsPlain, shape_at}
use Rattle.theory_terms.specs.Lemmas.{watch}
use Rattle.theory_terms.proofs.Shapes.{shape_within}
use Rattle.theory_terms.proofs.Sound.{watch_is}
use Rattle.term_reach.specs.Reach.{arguments, IsAcyclic, LeadsBelow}
use Rattle.term_reach.proofs.Ways.{way_closed}
use Rattle.bit_blast.specs.Blocks.{block_of}
use Rattle.bit_blast.specs.Circuits.{literal_bits}
use Rattle.access_tables.specs.Leading.{selects_of, watched, leads_by, leads}
use Rattle.access_tables.specs.Encoded.{IsSatisfied, AreSatisfied}
use Rattle.access_tables.specs.Held.{assigned_value, value_by}
use Rattle.access_tables.proofs.Descending.{no_way_back}
use Rattle.access_walk.specs.Walked.{Reached, IsHeldWord, HasHeldWords, IsWalkable}
use Rattle.access_walk.proofs.Words.{word_within}
use Rattle.walk_rows.specs.Fitting.{AreUnlinked, IsFit, IsLiteral, IsGiven, IsReady}

abbrev number_in : Op → ℕ
number_in (Word n x) = x
number_in _ = 0

in_one : (a u : ℕ) → Contains (a ∷ []) u → a ≡ u
in_one a u c = let first : c.0 ≡ 0 = (let lt = c.1 in omega (arith, lt)) in ap (λ j. get_or (a ∷ []) j u) (sym first) ∙ c.2

none_in : (u : ℕ) → Contains [] u → ⊥
none_in u c = let lt = c.1 in omega (arith, lt)

all_in : (P : ℕ → Type 0) (xs : List ℕ) (u : ℕ) → AllByRecursion P xs → Contains xs u → P u
all_in P [] u h c = absurd (none_in u c)
all_in P (x ∷ xs) u h c = ⊎_elim
    (λ (p : Contains (x ∷ []) u). subst P (in_one x u p) h.0)
    (λ (p : Contains xs u). all_in P xs u h.1 p)
    (Contains-append_cases (x ∷ []) xs u c)

in_range : (count u : ℕ) → u < count → Contains (range_with_len 0 count) u
in_range count u lt = (u, (let long = length-range_with_len 0 count in omega (arith, long, lt)), (let at = get_or-range_with_len 0 count u u lt in omega (arith, at)))

past_sort : (nodes : List Node) (t : ℕ) → length nodes ≤ t → sort_of nodes t ≡ sort.Bool
past_sort nodes t le =
    let e : node_at nodes t ≡ no_node = get_or_past nodes t no_node le in
    at_term_is sort.Bool (λ u. op_sort) nodes t (rw e tt) ∙ rw e refl

-- a term gets bits of its own
last_unlinked : (t : ℕ) (row : List Literal) (u : ℕ) (b : Bool) → (t == u) ≡ b → image_in (with_bits [] t row) u ≡ None
last_unlinked t row u true e = rw e refl
last_unlinked t row u false e = rw e refl

both_unlinked : (here before after : Option ℕ) (b : Bool) → (before ≡ None → after ≡ None) → (if b then here else before) ≡ None → (if b then here else after) ≡ None
both_unlinked here before after true f e = e
both_unlinked here before after false f e = f e

more_unlinked : (bits : List TermBits) (t : ℕ) (row : List Literal) (u : ℕ) → image_in bits u ≡ None → image_in (with_bits bits t row) u ≡ None
more_unlinked [] t row u h = last_unlinked t row u (t == u) refl
more_unlinked (e ∷ es) t row u h = both_unlinked e.image (image_in es u) (image_in (with_bits es t row) u) (e.term == u) (more_unlinked es t row u) h

pub still_unlinked : (E : Type 0) (r : Result Unit E) (old new : List TermBits) (t : ℕ) (row : List Literal) → AreUnlinked old → OnOk r (new ≡ with_bits old t row) → OnErr r (new ≡ old) → AreUnlinked new
still_unlinked E (Ok x) old new t row unlinked ok err u = ap (λ b. image_in b u) ok ∙ more_unlinked old t row u (unlinked u)
still_unlinked E (Err x) old new t row unlinked ok err u = ap (λ b. image_in b u) err ∙ unlinked u

module _ (nodes : List Node) (terms : IsTermList nodes) (bits : List TermBits) (unlinked : AreUnlinked bits) where
  argument_below : (t u : ℕ) → Contains (node_at nodes t).args u → u < length nodes
  argument_below t u c = ⊎_elim
      (λ lt. (let less = all_in (λ a. a < t) (node_at nodes t).args u (terms t lt).earlier c in omega (arith, less, lt)))
      (λ le. absurd (none_in u (subst (λ (n : Node). Contains n.args u) (get_or_past nodes t no_node le) c)))
      (cases_lt t (length nodes))

  select_within : (l a i : ℕ) → shape_at nodes l ≡ Selecting a i → l < length nodes
  select_within l a i e = shape_within nodes l (λ o. let z : Selecting a i ≡ Other = sym e ∙ o in let y : ⊥ = cc in y)

  select_below : (a b u : ℕ) → (o : Option Watch) → watch nodes a b ≡ o → Contains (selects_of o) u → u < length nodes
  select_below a b u None p c = absurd (none_in u c)
  select_below a b u (Some w) p c =
      let i = watch_is nodes a b w p in
      ⊎_elim
      (λ (q : Contains (w.left ∷ []) u). subst (λ x. x < length nodes) (in_one w.left u q) (select_within w.left a w.witness i.left))
      (λ (q : Contains (w.right ∷ []) u). subst (λ x. x < length nodes) (in_one w.right u q) (select_within w.right b w.witness i.right))
      (Contains-append_cases (w.left ∷ []) (w.right ∷ []) u c)

  watched_below : (u : ℕ) (k : Shape) → Contains (watched nodes k) u → u < length nodes
  watched_below u (Equating a b) c = select_below a b u (watch nodes a b) refl c
  watched_below u (Selecting a i) c = absurd (none_in u c)
  watched_below u (Storing b j x) c = absurd (none_in u c)
  watched_below u (Filling x) c = absurd (none_in u c)
  watched_below u (Choosing x a b) c = absurd (none_in u c)
  watched_below u (Witnessing a b) c = absurd (none_in u c)
  watched_below u (Applying d) c = absurd (none_in u c)
  watched_below u (Declaring d q) c = absurd (none_in u c)
  watched_below u Other c = absurd (none_in u c)

  own_leads : (t u : ℕ) → Contains (leads nodes (image_in bits) t) u → Contains (leads nodes (λ x. None) t) u
  own_leads t u c = subst (λ o. Contains (leads_by nodes t o) u) (unlinked t) c

  pub leads_below : LeadsBelow (length nodes) (leads nodes (image_in bits))
  leads_below t u c = ⊎_elim
      (λ (p : Contains (arguments nodes t) u). argument_below t u p)
      (λ (p : Contains (watched nodes (shape_at nodes t)) u). watched_below u (shape_at nodes t) p)
      (Contains-append_cases (arguments nodes t) (watched nodes (shape_at nodes t)) u (own_leads t u c))

  pub no_way : IsAcyclic (leads nodes (image_in bits))
  no_way = let r = no_way_back nodes terms in (r.0, λ t u c. r.1 t u (own_leads t u c))

  never : (t u : ℕ) → image_in bits t ≡ Some u → ⊥
  never t u e = let z : None ≡ Some u = sym (unlinked t) ∙ e in let f : ⊥ = cc in f

  module _ (live : List ℕ) (held : All (λ t. t < length nodes) live) where
    pub reached_held : (t : ℕ) → Reached nodes bits live t → t < length nodes
    reached_held t r = way_closed (leads nodes (image_in bits)) (λ x. x < length nodes) (λ x y h c. leads_below x y c) r.0 r.2.0 t r.2.1 (All-contains (λ x. x < length nodes) live r.0 held r.1)

    both_words : (x : ℕ) (k : ℕ) → IsHeldWord nodes bits 1 0 → IsHeldWord nodes bits 1 1 → k < 2 ^ 1 → IsHeldWord nodes bits 1 k
    both_words x zero a b lt = a
    both_words x (suc zero) a b lt = b
    both_words x (suc (suc k)) a b lt = absurd (omega (arith, lt))

    words_from : (n : ℕ) → (n ≡ 1) × IsHeldWord nodes bits 1 0 × IsHeldWord nodes bits 1 1 → HasHeldWords nodes bits (Reached nodes bits live) n
    words_from n h = subst (HasHeldWords nodes bits (Reached nodes bits live)) (sym h.0) (record {
      indexes = range_with_len 0 (length nodes);
      among = λ t l own s i. (l.index, in_range (length nodes) l.index (word_within nodes l.index 1 i), ([], refl));
      words = λ k lt le. both_words 0 k h.1 h.2 lt;
    })

    pub walkable : ((t : ℕ) → t < length nodes → IsFit nodes bits t) → IsWalkable nodes bits live
    walkable fit = record {
      bits_are = record {
        held = reached_held;
        acyclic = no_way;
        images = record { plain = λ t u e. absurd (never t u e); sort = λ t u e. absurd (never t u e) };
        rows = λ t r p. (fit t (reached_held t r)).bits_are.row p;
        alone = λ t row e. ⊎_elim (λ lt. (fit t lt).bits_are.alone row e) (λ le. subst IsPlain (sym (past_sort nodes t le)) tt) (cases_lt t (length nodes));
      };
      images = λ t u e. absurd (never t u e);
      watches = λ t a b n m own shape sides. (fit t (reached_held t own.0)).watches a b n m shape sides;
      words = λ t x n m own shape array. words_from n ((fit t (reached_held t own.0)).words x n m shape array);
    }

  -- ---- under an assignment

  module _ (f : ℕ → Bool) (first : f 1 ≡ true) (given : (t : ℕ) → t < length nodes → IsGiven nodes bits t) where
    literal_is : (k : ℕ) → k < 2 → number f (literal_bits 1 k) ≡ k
    literal_is zero lt = ap (λ b. bit (not b) + 2 * 0) first
    literal_is (suc zero) lt = ap (λ b. bit b + 2 * 0) first
    literal_is (suc (suc k)) lt = absurd (omega (arith, lt))

    word_value : (n k w : ℕ) → sort_of nodes w ≡ sort.Word n → node_at nodes w ≡ leaf (Word n k) → IsLiteral nodes bits w → number_of (assigned_value nodes bits f w) ≡ k
    word_value n k w s e l =
        let same : leaf (Word n k) ≡ leaf (Word 1 l.0) = sym e ∙ l.2 in
        let number_same : k ≡ l.0 = ap (λ (x : Node). number_in x.op) same in
        ap (λ q. number_of (value_by f q (bits_in bits w))) s ∙ ap (λ o. number_of (value_by f (sort.Word n) o)) l.3 ∙ literal_is l.0 l.1 ∙ sym number_same

    literal_block : (t : ℕ) → IsLiteral nodes bits t → IsSatisfied nodes bits f t
    literal_block t l = record {
      first = 0;
      block = record { bits = literal_bits 1 l.0; gates = [] };
      is = ap (block_of 0 (bits_in bits)) l.2;
      own = l.3;
      clauses = refl;
    }

    pub ready : IsReady nodes bits f
    ready = record {
      words = λ n k w e row. (let p = at_place nodes (leaf (Word n k)) w e.0 in word_value n k w e.1 p.1 ((given w p.0).words n k p.1));
      linked = λ t u e. absurd (never t u e);
      satisfied = record {
        first = first;
        kept = λ M v ev t u e. absurd (never t u e);
        linked = λ t u h e. absurd (never t u e);
        each = λ t own plain. ⊎_elim (λ free. inl free) (λ l. inr (literal_block t l)) ((given t own.0).value plain);
      };
    }

  pub satisfied_in : (f : ℕ → Bool) (Here : ℕ → Type 0) → ((t : ℕ) → Here t → t < length nodes) → AreSatisfied nodes bits f (λ t. t < length nodes) → AreSatisfied nodes bits f Here
  satisfied_in f Here held s = record {
    first = s.first;
    kept = s.kept;
    linked = λ t u h e. absurd (never t u e);
    each = λ t own plain. s.each t (held t own.0, own.1) plain;
  }

-- what follows where an answer is true, and where it is false
pub matched : (P N Q : Type 0) (b : Bool) → (P → Q) → MatchBool b P N → MatchBool b Q (Unit {0})
matched P N Q true f h = f h
matched P N Q false f h = tt

pub matched_both : (P Q : Type 0) (b : Bool) → (P → Q) → (Q → P) → MatchBool b P (P → ⊥) → MatchBool b Q (Q → ⊥)
matched_both P Q true f g h = f h
matched_both P Q false f g h = λ q. h (g q)

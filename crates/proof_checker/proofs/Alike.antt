-- What the steps of logs leave that differ at chains alone which are deleted.
use Rattle.std.proofs.Common.{◌≡◌, ℕ, zero, suc, ◌+◌, ◌<◌, ◌≤◌, Bool, true, false, List, [], ◌∷◌, ◌++◌, length, take, flat_map, Option, Some, None, refl, sym, ap, ap₂, ◌∙◌, subst, inl, inr, ◌^◌, arith, append_assoc, append-nil}
use Rattle.std.specs.Prelude.{◌⊎◌, ◌||◌, ◌&&◌, ◌==◌, ltb, not, if◌then◌else◌, All, Contains, slice_get, is_some}
use Rattle.std.specs.List.{AllByRecursion, list_any}
use Rattle.cnf_base.specs.Literals.{Literal, negated}
use Rattle.cnf_base.specs.declared.clause.ClauseId.{ClauseId}
use Rattle.cnf_base.proofs.Lists.{Contains-first, Contains-later}
use Rattle.hint_chain.specs.Chains.{Lookup, ChainFrom, IsChain}
use Rattle.smt_terms.specs.declared.node.Node.{Node}
use Rattle.smt_terms.specs.Terms.{TermsValue}
use Rattle.smt_terms.specs.Nodes.{node_at}
use Rattle.scope_selectors.specs.declared.live.Live.{Live}
use Rattle.script_state.specs.declared.answer.Asked.{Asked}
use Rattle.script_state.specs.States.{StateValue, assumptions, roots}
use Rattle.proof_log.specs.declared.entry.Entry.{Entry}
use Rattle.proof_log.specs.declared.entry.Entry.TheVariants as entry
use Rattle.proof_log.specs.declared.entry.Role.TheVariants as role
use Rattle.proof_log.specs.Boards.{IsAdded}
use Rattle.proof_log.specs.Diaries.{is_chain}
use Rattle.proof_log.specs.Logs.{LogState, start, clause_in, clause_at, entry_at, after, state_from, state_of}
use Rattle.proof_log.specs.Stored.{clauses_of}
use Rattle.proof_log.specs.Faults.{IsValid}
use Rattle.proof_log.proofs.Growth.{row_of, chain_is_added}
use Rattle.proof_text.specs.Deletions.{AreDeletable, cites, is_deletable, is_deleted}
use Rattle.faded_log.proofs.States.{with_clauses, after_with, valid_with, rows_from, state_rows}
use Rattle.faded_log.proofs.Weaving.{chain_after}
use Rattle.accepted_proof.specs.Turns.{IsAgainst, IsAgainstAssumed, IsAgainstOne, IsRefutation}
use Rattle.accepted_proof.specs.Searching.{Limits, leaf_variables, split_variables, cube_variables, selector_literals, bits_or_none, given_literals, HasSelector, HasBit, IsSearch}
use Rattle.cube_tree.specs.Cubes.{cube_of}
use Rattle.proof_checker.specs.Deletions.{IsAlike, AreAlike}

-- ---- steps that are alike

one_same : (gone : Bool) (e : Entry) → IsAlike gone e e
one_same gone e = inl refl

pub alike_same : (gone : ℕ → Bool) (p : ℕ) (es : List Entry) → AreAlike gone p es es
alike_same gone p [] = tt
alike_same gone p (e ∷ es) = (inl refl, alike_same gone (suc p) es)

pub alike_back : (gone : ℕ → Bool) (p : ℕ) (es fs : List Entry) → AreAlike gone p es fs → AreAlike gone p fs es
alike_back gone p [] [] h = tt
alike_back gone p [] (f ∷ fs) h = absurd h
alike_back gone p (e ∷ es) [] h = absurd h
alike_back gone p (e ∷ es) (f ∷ fs) h = (one_back h.0, alike_back gone (suc p) es fs h.1)
  where
    one_back : IsAlike (gone p) e f → IsAlike (gone p) f e
    one_back (inl same) = inl (sym same)
    one_back (inr k) = inr (k.0, k.2, k.1)

pub alike_more : (gone : ℕ → Bool) (p : ℕ) (es fs : List Entry) (e : Entry) → AreAlike gone p es fs → AreAlike gone p (es ++ e ∷ []) (fs ++ e ∷ [])
alike_more gone p [] [] e h = (inl refl, tt)
alike_more gone p [] (f ∷ fs) e h = absurd h
alike_more gone p (x ∷ es) [] e h = absurd h
alike_more gone p (x ∷ es) (f ∷ fs) e h = (h.0, alike_more gone (suc p) es fs e h.1)

-- where more positions are gone
pub alike_wider : (gone wider : ℕ → Bool) → ((q : ℕ) → gone q ≡ true → wider q ≡ true) → (p : ℕ) (es fs : List Entry) → AreAlike gone p es fs → AreAlike wider p es fs
alike_wider gone wider more p [] [] h = tt
alike_wider gone wider more p [] (f ∷ fs) h = absurd h
alike_wider gone wider more p (e ∷ es) [] h = absurd h
alike_wider gone wider more p (e ∷ es) (f ∷ fs) h = (one h.0, alike_wider gone wider more (suc p) es fs h.1)
  where
    one : IsAlike (gone p) e f → IsAlike (wider p) e f
    one (inl same) = inl same
    one (inr k) = inr (more p k.0, k.1, k.2)

pub alike_length : (gone : ℕ → Bool) (p : ℕ) (es fs : List Entry) → AreAlike gone p es fs → length fs ≡ length es
alike_length gone p [] [] h = refl
alike_length gone p [] (f ∷ fs) h = absurd h
alike_length gone p (e ∷ es) [] h = absurd h
alike_length gone p (e ∷ es) (f ∷ fs) h = ap suc (alike_length gone (suc p) es fs h.1)

one_kind : (gone : Bool) (e f : Entry) → IsAlike gone e f → is_chain (Some f) ≡ is_chain (Some e)
one_kind gone e f (inl same) = ap (λ x. is_chain (Some x)) (sym same)
one_kind gone e f (inr k) = k.2 ∙ sym k.1

kinds_from : (gone : ℕ → Bool) (p : ℕ) (es fs : List Entry) → AreAlike gone p es fs → (k : ℕ) → is_chain (slice_get fs k) ≡ is_chain (slice_get es k)
kinds_from gone p [] [] h k = refl
kinds_from gone p [] (f ∷ fs) h k = absurd h
kinds_from gone p (e ∷ es) [] h k = absurd h
kinds_from gone p (e ∷ es) (f ∷ fs) h zero = one_kind (gone p) e f h.0
kinds_from gone p (e ∷ es) (f ∷ fs) h (suc k) = kinds_from gone (suc p) es fs h.1 k

chain_deletable : (o : Option Entry) → is_chain o ≡ true → is_deletable o ≡ true
chain_deletable (Some (entry.Chain c hints)) h = refl
chain_deletable (Some (entry.Node n)) h = let f : ⊥ = cc in absurd f
chain_deletable (Some (entry.Leaf t)) h = let f : ⊥ = cc in absurd f
chain_deletable (Some (entry.Encode t)) h = let f : ⊥ = cc in absurd f
chain_deletable (Some (entry.Selector a t)) h = let f : ⊥ = cc in absurd f
chain_deletable (Some (entry.Rewrite r)) h = let f : ⊥ = cc in absurd f
chain_deletable (Some (entry.Equal t u)) h = let f : ⊥ = cc in absurd f
chain_deletable (Some (entry.Lemma l)) h = let f : ⊥ = cc in absurd f
chain_deletable None h = let f : ⊥ = cc in absurd f

one_deletable : (gone : Bool) (e f : Entry) → IsAlike gone e f → is_deletable (Some f) ≡ is_deletable (Some e)
one_deletable gone e f (inl same) = ap (λ x. is_deletable (Some x)) (sym same)
one_deletable gone e f (inr k) = chain_deletable (Some f) k.2 ∙ sym (chain_deletable (Some e) k.1)

deletable_from : (gone : ℕ → Bool) (p : ℕ) (es fs : List Entry) → AreAlike gone p es fs → (k : ℕ) → is_deletable (slice_get fs k) ≡ is_deletable (slice_get es k)
deletable_from gone p [] [] h k = refl
deletable_from gone p [] (f ∷ fs) h k = absurd h
deletable_from gone p (e ∷ es) [] h k = absurd h
deletable_from gone p (e ∷ es) (f ∷ fs) h zero = one_deletable (gone p) e f h.0
deletable_from gone p (e ∷ es) (f ∷ fs) h (suc k) = deletable_from gone (suc p) es fs h.1 k

-- the step that is alike at the same place
found_from : (gone : ℕ → Bool) (p : ℕ) (es fs : List Entry) → AreAlike gone p es fs → (k : ℕ) (f : Entry) → slice_get fs k ≡ Some f → (e : Entry) × (slice_get es k ≡ Some e) × IsAlike (gone (p + k)) e f
found_from gone p [] [] h k f is = let z : ⊥ = cc in absurd z
found_from gone p [] (x ∷ fs) h k f is = absurd h
found_from gone p (e ∷ es) [] h k f is = absurd h
found_from gone p (e ∷ es) (x ∷ fs) h zero f is =
    let same : x ≡ f = cc in
    let at : p ≡ p + 0 = omega arith in
    (e, refl, subst (λ q. IsAlike (gone q) e f) at (subst (IsAlike (gone p) e) same h.0))
found_from gone p (e ∷ es) (x ∷ fs) h (suc k) f is =
    let r = found_from gone (suc p) es fs h.1 k f is in
    let at : suc p + k ≡ p + suc k = omega arith in
    (r.0, r.1, subst (λ q. IsAlike (gone q) r.0 f) at r.2)

same_from : (gone : ℕ → Bool) (p : ℕ) (es fs : List Entry) → AreAlike gone p es fs → (k : ℕ) → gone (p + k) ≡ false → slice_get fs k ≡ slice_get es k
same_from gone p [] [] h k free = refl
same_from gone p [] (f ∷ fs) h k free = absurd h
same_from gone p (e ∷ es) [] h k free = absurd h
same_from gone p (e ∷ es) (f ∷ fs) h zero free = by h.0
  where
    here : gone p ≡ false
    here = let at : p ≡ p + 0 = omega arith in ap gone at ∙ free

    by : IsAlike (gone p) e f → Some f ≡ Some e
    by (inl same) = ap (λ x. Some x) (sym same)
    by (inr k) = let z : true ≡ false = sym k.0 ∙ here in let bad : ⊥ = cc in absurd bad
same_from gone p (e ∷ es) (f ∷ fs) h (suc k) free = let at : suc p + k ≡ p + suc k = omega arith in same_from gone (suc p) es fs h.1 k (ap gone at ∙ free)

-- ---- what they leave

-- the clauses of positions, which are the same where a position is not gone
abbrev RowsAlike : (ℕ → Bool) → ℕ → List (List (List Literal)) → List (List (List Literal)) → Type 0
RowsAlike gone p [] [] = Unit {0}
RowsAlike gone p [] (q ∷ qs) = ⊥
RowsAlike gone p (r ∷ rs) [] = ⊥
RowsAlike gone p (r ∷ rs) (q ∷ qs) = ((q ≡ r) ⊎ (gone p ≡ true)) × RowsAlike gone (suc p) rs qs

rows_at : (gone : ℕ → Bool) (p : ℕ) (rs qs : List (List (List Literal))) → RowsAlike gone p rs qs → (k : ℕ) → gone (p + k) ≡ false → slice_get qs k ≡ slice_get rs k
rows_at gone p [] [] h k free = refl
rows_at gone p [] (q ∷ qs) h k free = absurd h
rows_at gone p (r ∷ rs) [] h k free = absurd h
rows_at gone p (r ∷ rs) (q ∷ qs) h zero free = by h.0
  where
    here : gone p ≡ false
    here = let at : p ≡ p + 0 = omega arith in ap gone at ∙ free

    by : (q ≡ r) ⊎ (gone p ≡ true) → Some q ≡ Some r
    by (inl same) = ap (λ x. Some x) same
    by (inr k) = let z : true ≡ false = sym k ∙ here in let bad : ⊥ = cc in absurd bad
rows_at gone p (r ∷ rs) (q ∷ qs) h (suc k) free = let at : suc p + k ≡ p + suc k = omega arith in rows_at gone (suc p) rs qs h.1 k (ap gone at ∙ free)

-- the other log leaves the same, but for clauses
pub record LeavesAlike (nodes : List Node) (gone : ℕ → Bool) (p : ℕ) (s : LogState) (es fs : List Entry) : Type 0 where
  pub more : List (List (List Literal))
  pub state : (rows : List (List (List Literal))) → state_from nodes (with_clauses s rows) fs ≡ with_clauses (state_from nodes s es) (rows ++ more)
  pub rows : RowsAlike gone p (rows_from nodes s es) more

leaves_alike : (nodes : List Node) (gone : ℕ → Bool) (p : ℕ) (s : LogState) (es fs : List Entry) → AreAlike gone p es fs → LeavesAlike nodes gone p s es fs
leaves_alike nodes gone p s [] [] h = record { more = []; state = λ rows. ap (with_clauses s) (sym (append-nil rows)); rows = tt }
leaves_alike nodes gone p s [] (f ∷ fs) h = absurd h
leaves_alike nodes gone p s (e ∷ es) [] h = absurd h
leaves_alike nodes gone p s (e ∷ es) (f ∷ fs) h = by (leaves_alike nodes gone (suc p) (after nodes s e) es fs h.1) h.0
  where
    next : LogState
    next = after nodes s e

    by : LeavesAlike nodes gone (suc p) (after nodes s e) es fs → IsAlike (gone p) e f → LeavesAlike nodes gone p s (e ∷ es) (f ∷ fs)
    by rest (inl same) = record {
      more = row_of nodes s e ∷ rest.more;
      state = λ rows.
          ap (λ x. state_from nodes (after nodes (with_clauses s rows) x) fs) (sym same)
          ∙ ap (λ x. state_from nodes x fs) (after_with s rows nodes e)
          ∙ rest.state (rows ++ row_of nodes s e ∷ [])
          ∙ ap (with_clauses (state_from nodes next es)) (append_assoc rows (row_of nodes s e ∷ []) rest.more);
      rows = (inl refl, rest.rows);
    }
    by rest (inr k) = record {
      more = clauses_of f [] ∷ rest.more;
      state = λ rows.
          ap (λ x. state_from nodes x fs) (chain_after nodes s rows f k.2)
          ∙ ap (λ x. state_from nodes (with_clauses x (rows ++ clauses_of f [] ∷ [])) fs) (sym (chain_after nodes s s.clauses e k.1))
          ∙ rest.state (rows ++ clauses_of f [] ∷ [])
          ∙ ap (with_clauses (state_from nodes next es)) (append_assoc rows (clauses_of f [] ∷ []) rest.more);
      rows = (inr k.0, rest.rows);
    }

-- each holds of what is alike
each_weaker : {A : Type 0} (P Q : A → Type 0) → ((x : A) → P x → Q x) → (xs : List A) → AllByRecursion P xs → AllByRecursion Q xs
each_weaker P Q f [] h = tt
each_weaker P Q f (x ∷ xs) h = (f x h.0, each_weaker P Q f xs h.1)

or_parts : (a b : Bool) → (a || b) ≡ false → (a ≡ false) × (b ≡ false)
or_parts true b h = let f : ⊥ = cc in absurd f
or_parts false b h = (refl, h)

chain_same : (look other : Lookup) (gone : ℕ → Bool) → ((id : ClauseId) → gone id.pos ≡ false → other id ≡ look id) → (trues : List Literal) (hints : List ClauseId) → list_any (λ (h : ClauseId). gone h.pos) hints ≡ false → ChainFrom look trues hints → ChainFrom other trues hints
chain_same look other gone same trues [] free c = c
chain_same look other gone same trues (i ∷ []) free c = (c.0, same i (or_parts (gone i.pos) false free).0 ∙ c.1, c.2)
chain_same look other gone same trues (i ∷ j ∷ is) free c =
    let parts = or_parts (gone i.pos) (list_any (λ (h : ClauseId). gone h.pos) (j ∷ is)) free in
    (c.0, c.1, same i parts.0 ∙ c.2, c.3, chain_same look other gone same (trues ++ c.1 ∷ []) (j ∷ is) parts.1 c.4)

chains_same : (look other : Lookup) (gone : ℕ → Bool) → ((id : ClauseId) → gone id.pos ≡ false → other id ≡ look id) → (c : List Literal) (hints : List ClauseId) → list_any (λ (h : ClauseId). gone h.pos) hints ≡ false → IsChain look c hints → IsChain other c hints
chains_same look other gone same c hints free (inl p) = inl p
chains_same look other gone same c hints free (inr p) = inr (p.0, chain_same look other gone same _ hints free p.1)

-- the variables by which a check is split, of logs of which chains alone differ
split_from : (f : Entry → List ℕ) → ((c : List Literal) (hints : List ClauseId) → f (entry.Chain c hints) ≡ []) → (gone : ℕ → Bool) (p : ℕ) (es fs : List Entry) → AreAlike gone p es fs → flat_map f fs ≡ flat_map f es
split_from f none gone p [] [] h = refl
split_from f none gone p [] (x ∷ fs) h = absurd h
split_from f none gone p (e ∷ es) [] h = absurd h
split_from f none gone p (e ∷ es) (x ∷ fs) h = by (split_from f none gone (suc p) es fs h.1) h.0
  where
    of_chain : (y : Entry) → is_chain (Some y) ≡ true → f y ≡ []
    of_chain (entry.Chain c hints) k = none c hints
    of_chain (entry.Node n) k = let z : ⊥ = cc in absurd z
    of_chain (entry.Leaf t) k = let z : ⊥ = cc in absurd z
    of_chain (entry.Encode t) k = let z : ⊥ = cc in absurd z
    of_chain (entry.Selector a t) k = let z : ⊥ = cc in absurd z
    of_chain (entry.Rewrite r) k = let z : ⊥ = cc in absurd z
    of_chain (entry.Equal t u) k = let z : ⊥ = cc in absurd z
    of_chain (entry.Lemma l) k = let z : ⊥ = cc in absurd z

    by : flat_map f fs ≡ flat_map f es → IsAlike (gone p) e x → flat_map f (x ∷ fs) ≡ flat_map f (e ∷ es)
    by rest (inl same) = ap (λ y. f y ++ flat_map f fs) (sym same) ∙ ap (λ l. f e ++ l) rest
    by rest (inr k) = ap (λ l. l ++ flat_map f fs) (of_chain x k.2 ∙ sym (of_chain e k.1)) ∙ ap (λ l. f e ++ l) rest

pub leaf_with : (from : List ℕ) (nodes : List Node) (s : LogState) (rows : List (List (List Literal))) (e : Entry) → leaf_variables from nodes (with_clauses s rows) e ≡ leaf_variables from nodes s e
leaf_with from nodes s rows (entry.Leaf t) = refl
leaf_with from nodes s rows e = refl

module _ (nodes : List Node) (gone : ℕ → Bool) (es fs : List Entry) (alike : AreAlike gone 1 es fs) where
  pub leaves : LeavesAlike nodes gone 1 start es fs
  leaves = leaves_alike nodes gone 1 start es fs alike

  rows : List (List (List Literal))
  rows = start.clauses ++ leaves.more

  pub state_alike : state_of nodes fs ≡ with_clauses (state_of nodes es) (start.clauses ++ leaves.more)
  state_alike = leaves.state start.clauses

  pub clause_alike : (id : ClauseId) → gone id.pos ≡ false → clause_at (state_of nodes fs).clauses id ≡ clause_at (state_of nodes es).clauses id
  clause_alike id free =
      ap (λ (s : LogState). clause_at s.clauses id) state_alike
      ∙ ap (λ o. clause_in o id.part) (row_at id.pos free)
      ∙ ap (λ rs. clause_at rs id) (sym (state_rows nodes start es))
    where
      row_at : (q : ℕ) → gone q ≡ false → slice_get (start.clauses ++ leaves.more) q ≡ slice_get (start.clauses ++ rows_from nodes start es) q
      row_at zero n = refl
      row_at (suc q) n = let at : 1 + q ≡ suc q = omega arith in rows_at gone 1 (rows_from nodes start es) leaves.more leaves.rows q (ap gone at ∙ n)

  pub kind_alike : (p : ℕ) → is_chain (entry_at fs p) ≡ is_chain (entry_at es p)
  kind_alike zero = refl
  kind_alike (suc p) = kinds_from gone 1 es fs alike p

  pub entry_alike : (p : ℕ) → gone p ≡ false → entry_at fs p ≡ entry_at es p
  entry_alike zero free = refl
  entry_alike (suc p) free = let at : 1 + p ≡ suc p = omega arith in same_from gone 1 es fs alike p (ap gone at ∙ free)

  deletable_at : (p : ℕ) → is_deletable (entry_at fs p) ≡ is_deletable (entry_at es p)
  deletable_at zero = refl
  deletable_at (suc p) = deletable_from gone 1 es fs alike p

  pub deletable_alike : (deleted places : List ℕ) → AreDeletable es deleted places → AreDeletable fs deleted places
  deletable_alike deleted [] h = tt
  deletable_alike deleted (p ∷ ps) h = (deletable_at p ∙ h.0, h.1, deletable_alike (deleted ++ p ∷ []) ps h.2)

  -- ---- refutations

  refuted_alike : (s : StateValue) → s.terms.nodes ≡ nodes → (l : Literal) → IsAgainstOne s nodes es l → IsAgainstOne s nodes fs l
  refuted_alike s e l (inl h) = inl (record { assertion = h.assertion; live = h.live; selector = h.selector; made = ap (λ (x : LogState). x.selectors h.assertion.assertion) state_alike ∙ h.made; negation = h.negation })
  refuted_alike s e l (inr h) = inr (record { assumption = h.assumption; assumed = h.assumed; bit = h.bit; bits = ap (λ (x : LogState). x.bits h.assumption.term) state_alike ∙ h.bits; negation = h.negation })

  pub refutation_alike : (s : StateValue) → s.terms.nodes ≡ nodes → (p : ℕ) → gone p ≡ false → IsRefutation s nodes es p → IsRefutation s nodes fs p
  refutation_alike s e p free h = record {
    clause = h.clause;
    stands = clause_alike (record { pos = p; part = 0 }) free ∙ h.stands;
    against = each_weaker (IsAgainstOne s nodes es) (IsAgainstOne s nodes fs) (refuted_alike s e) h.clause h.against;
  }

  -- ---- searches

  pub variables_alike : (limits : Limits) (s : StateValue) → cube_variables limits s nodes fs ≡ cube_variables limits s nodes es
  variables_alike limits s = ap (take limits.cubes) (drawn ∙ split_from (leaf_variables (roots s) nodes (state_of nodes es)) (λ c hints. refl) gone 1 es fs alike)
    where
      drawn : split_variables (roots s) nodes fs ≡ flat_map (leaf_variables (roots s) nodes (state_of nodes es)) fs
      drawn =
          ap (λ (x : LogState). flat_map (leaf_variables (roots s) nodes x) fs) state_alike
          ∙ ap (λ (f : Entry → List ℕ). flat_map f fs) (λ i e. leaf_with (roots s) nodes (state_of nodes es) (start.clauses ++ leaves.more) e i)

  pub given_alike : (limits : Limits) (s : StateValue) (cube : ℕ) → given_literals limits s nodes fs cube ≡ given_literals limits s nodes es cube
  given_alike limits s cube =
      ap (λ vs. cube_of vs cube ++ flat_map (selector_literals (state_of nodes fs)) s.scopes.live ++ flat_map (λ (a : Asked). bits_or_none ((state_of nodes fs).bits a.term)) (assumptions s)) (variables_alike limits s)
      ∙ ap (λ (x : LogState). cube_of (cube_variables limits s nodes es) cube ++ flat_map (selector_literals x) s.scopes.live ++ flat_map (λ (a : Asked). bits_or_none (x.bits a.term)) (assumptions s)) state_alike

  pub added_alike : (p : ℕ) (f : Entry) → entry_at fs p ≡ Some f → ((e : Entry) → entry_at es p ≡ Some e → IsAdded e) → IsAdded f
  added_alike zero f is h = let z : ⊥ = cc in absurd z
  added_alike (suc p) f is h = let r = found_from gone 1 es fs alike p f is in by r.0 (h r.0 r.1) r.2
    where
      by : (e : Entry) → IsAdded e → IsAlike (gone (1 + p)) e f → IsAdded f
      by e a (inl same) = subst IsAdded same a
      by e a (inr k) = chain_is_added f k.2

  pub search_alike : (limits : Limits) (s : StateValue) (cube first : ℕ) → IsSearch limits s nodes es cube first → IsSearch limits s nodes fs cube first
  search_alike limits s cube first h = record {
    cube_of_check = subst (λ vs. cube < 2 ^ length vs) (sym (variables_alike limits s)) h.cube_of_check;
    selectors = subst (λ (x : LogState). All (HasSelector x) s.scopes.live) (sym state_alike) h.selectors;
    bits = subst (λ (x : LogState). All (HasBit x) (assumptions s)) (sym state_alike) h.bits;
    within = subst (λ n. first ≤ suc n) (sym (alike_length gone 1 es fs alike)) h.within;
    added = λ p f le is. added_alike p f is (λ e at. h.added p e le at);
  }

  -- ---- steps

  pub valid_alike : (v : TermsValue) → v.nodes ≡ nodes → (deleted : List ℕ) → gone ≡ is_deleted deleted → (e : Entry) → cites deleted e ≡ false → IsValid v (state_of nodes es) e → IsValid v (state_of nodes fs) e
  valid_alike v same deleted is (entry.Chain c hints) left i = (
    subst (λ (x : LogState). AllByRecursion (λ (l : Literal). l.variable < x.next) c) (sym state_alike) i.0,
    chains_same (clause_at (state_of nodes es).clauses) (clause_at (state_of nodes fs).clauses) gone clause_alike c hints (ap (λ (g : ℕ → Bool). list_any (λ (h : ClauseId). g h.pos) hints) is ∙ left) i.1,
  )
  valid_alike v same deleted is (entry.Node n) left i = i
  valid_alike v same deleted is (entry.Leaf t) left i = subst (λ (x : LogState). IsValid v x (entry.Leaf t)) (sym state_alike) (valid_with (state_of nodes es) (start.clauses ++ leaves.more) v (entry.Leaf t) refl i)
  valid_alike v same deleted is (entry.Encode t) left i = subst (λ (x : LogState). IsValid v x (entry.Encode t)) (sym state_alike) (valid_with (state_of nodes es) (start.clauses ++ leaves.more) v (entry.Encode t) refl i)
  valid_alike v same deleted is (entry.Selector a t) left i = subst (λ (x : LogState). IsValid v x (entry.Selector a t)) (sym state_alike) (valid_with (state_of nodes es) (start.clauses ++ leaves.more) v (entry.Selector a t) refl i)
  valid_alike v same deleted is (entry.Rewrite r) left i = subst (λ (x : LogState). IsValid v x (entry.Rewrite r)) (sym state_alike) (valid_with (state_of nodes es) (start.clauses ++ leaves.more) v (entry.Rewrite r) refl i)
  valid_alike v same deleted is (entry.Equal t u) left i = subst (λ (x : LogState). IsValid v x (entry.Equal t u)) (sym state_alike) (valid_with (state_of nodes es) (start.clauses ++ leaves.more) v (entry.Equal t u) refl i)
  valid_alike v same deleted is (entry.Lemma l) left i = subst (λ (x : LogState). IsValid v x (entry.Lemma l)) (sym state_alike) (valid_with (state_of nodes es) (start.clauses ++ leaves.more) v (entry.Lemma l) refl i)

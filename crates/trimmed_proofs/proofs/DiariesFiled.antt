-- A diary of a check is spent over the trimmed file, where it is spent over the log and takes equalities first.
use Rattle.std.proofs.Common.{◌≡◌, ℕ, zero, suc, ◌<◌, ◌≤◌, ◌^◌, Bool, true, false, cond, List, [], ◌∷◌, ◌++◌, length, map, take, Option, Some, refl, sym, ap, ap₂, ◌∙◌, subst, inl, inr, ⊎_elim, arith}
use Rattle.std.specs.Prelude.{◌⊎◌, ◌&&◌, if◌then◌else◌, is_some, ltb, filter, All, Contains, option_map, option_to_list}
use Rattle.std.specs.List.{flat_map}
use Rattle.std.proofs.lemmas.Bool.{and_parts, cases_lt, lt-ltb, ltb-true}
use Rattle.std.proofs.lemmas.List.Elements.{Contains-append_cases}
use Rattle.cnf_base.specs.Literals.{Literal}
use Rattle.cnf_base.specs.declared.clause.ClauseId.{ClauseId}
use Rattle.cnf_base.proofs.Lists.{Contains-first, Contains-later, Contains-nil, Contains-one, slice_get-there}
use Rattle.smt_terms.specs.declared.node.Node.{Node}
use Rattle.smt_terms.specs.Nodes.{node_at}
use Rattle.scope_selectors.specs.declared.live.Live.{Live}
use Rattle.script_state.specs.declared.answer.Asked.{Asked}
use Rattle.script_state.specs.States.{StateValue, assumptions, roots}
use Rattle.proof_log.specs.declared.diary.Diary.{Diary}
use Rattle.proof_log.specs.declared.diary.DiaryLine.{DiaryLine}
use Rattle.proof_log.specs.declared.entry.Entry.{Entry}
use Rattle.proof_log.specs.declared.entry.Entry.TheVariants as step
use Rattle.proof_log.specs.Boards.{IsAdded}
use Rattle.proof_log.specs.Logs.{Asserted, LogState, constant_width, entry_at, state_of}
use Rattle.proof_log.specs.Diaries.{is_chain}
use Rattle.proof_log.proofs.Growth.{entry_within}
use Rattle.proof_text.specs.Deletions.{is_deletable, is_deleted, place_of, IsSpentWithout}
use Rattle.proof_text.specs.declared.record.Record.TheVariants.{Unknown}
use Rattle.cube_tree.specs.Cubes.{cube_of}
use Rattle.accepted_proof.specs.Searching.{Limits, IsSearch, IsUnknown, IsUnknownWithout, bits_or_none, cube_variables, given_literals, is_reached, leaf_variables, selector_literals, variables_of}
use Rattle.proof_file.specs.Equalities.{HasTakenFirst}
use Rattle.proof_file.specs.Needed.{IsDerived}
use Rattle.proof_file.specs.Places.{FileValue, placed}
use Rattle.proof_file.specs.Trimmed.{is_lemma, lemmas_before, placed_diary}
use Rattle.trimmed_proofs.proofs.States.{is_made, made_of, same_bare}
use Rattle.trimmed_proofs.proofs.Filing.{HasPlace}
use Rattle.trimmed_proofs.proofs.Filed.{IsFiledCheck}
use Rattle.trimmed_proofs.proofs.Diaries.{IsDiaryFile, IsEquality, spent_placed}

-- ---- what a search is about

flat_made : (f : Entry → List ℕ) → ((e : Entry) → is_made e ≡ false → f e ≡ []) → (log : List Entry) → flat_map f (made_of log) ≡ flat_map f log
flat_made f none [] = refl
flat_made f none (e ∷ log) = go (flat_made f none log) (is_made e) refl
  where
    go : flat_map f (made_of log) ≡ flat_map f log → (b : Bool) → is_made e ≡ b → flat_map f (made_of (e ∷ log)) ≡ flat_map f (e ∷ log)
    go again true q = ap (λ (x : Bool). flat_map f (cond x (e ∷ made_of log) (made_of log))) q ∙ ap (λ xs. f e ++ xs) again
    go again false q = ap (λ (x : Bool). flat_map f (cond x (e ∷ made_of log) (made_of log))) q ∙ again ∙ ap (λ xs. xs ++ flat_map f log) (sym (none e q))

flat_alike : (f g : Entry → List ℕ) → ((e : Entry) → f e ≡ g e) → (log : List Entry) → flat_map f log ≡ flat_map g log
flat_alike f g h [] = refl
flat_alike f g h (e ∷ log) = ap₂ (λ (xs ys : List ℕ). xs ++ ys) (h e) (flat_alike f g h log)

unmade_draws : (from : List ℕ) (nodes : List Node) (s : LogState) (e : Entry) → is_made e ≡ false → leaf_variables from nodes s e ≡ []
unmade_draws from nodes s (step.Leaf t) q = let f : ⊥ = cc in absurd f
unmade_draws from nodes s e q = refl

draws_alike : (from : List ℕ) (nodes : List Node) (s r : LogState) → s.bits ≡ r.bits → (e : Entry) → leaf_variables from nodes s e ≡ leaf_variables from nodes r e
draws_alike from nodes s r same (step.Leaf t) = ap (λ (bits : ℕ → Option (List Literal)). if is_some (constant_width (node_at nodes t).op) && is_reached from nodes t then variables_of (bits t) else []) same
draws_alike from nodes s r same e = refl

module _ (limits : Limits) (s : StateValue) (nodes : List Node) (log file : List Entry) (made : made_of file ≡ made_of log) where
  same_bits : (state_of nodes file).bits ≡ (state_of nodes log).bits
  same_bits = ap (λ (r : LogState). r.bits) (same_bare nodes log file made)

  same_selectors : (state_of nodes file).selectors ≡ (state_of nodes log).selectors
  same_selectors = ap (λ (r : LogState). r.selectors) (same_bare nodes log file made)

  same_cubes : cube_variables limits s nodes file ≡ cube_variables limits s nodes log
  same_cubes = ap (take limits.cubes)
      (sym (flat_made (leaf_variables (roots s) nodes (state_of nodes file)) (unmade_draws (roots s) nodes (state_of nodes file)) file)
      ∙ ap (flat_map (leaf_variables (roots s) nodes (state_of nodes file))) made
      ∙ flat_made (leaf_variables (roots s) nodes (state_of nodes file)) (unmade_draws (roots s) nodes (state_of nodes file)) log
      ∙ flat_alike (leaf_variables (roots s) nodes (state_of nodes file)) (leaf_variables (roots s) nodes (state_of nodes log)) (draws_alike (roots s) nodes (state_of nodes file) (state_of nodes log) same_bits) log)

  same_given : (n : ℕ) → given_literals limits s nodes file n ≡ given_literals limits s nodes log n
  same_given n =
      ap (λ xs. cube_of xs n ++ flat_map (selector_literals (state_of nodes file)) s.scopes.live ++ flat_map (λ (a : Asked). bits_or_none ((state_of nodes file).bits a.term)) (assumptions s)) same_cubes
      ∙ ap (λ (f : ℕ → Option Asserted). cube_of (cube_variables limits s nodes log) n ++ flat_map (λ (a : Live). map (λ (r : Asserted). r.literal) (option_to_list (f a.assertion))) s.scopes.live ++ flat_map (λ (a : Asked). bits_or_none ((state_of nodes file).bits a.term)) (assumptions s)) same_selectors
      ∙ ap (λ (f : ℕ → Option (List Literal)). cube_of (cube_variables limits s nodes log) n ++ flat_map (selector_literals (state_of nodes log)) s.scopes.live ++ flat_map (λ (a : Asked). bits_or_none (f a.term)) (assumptions s)) same_bits

  pub search_placed : (cube from start : ℕ) → start ≤ suc (length file) → ((p : ℕ) (e : Entry) → start ≤ p → entry_at file p ≡ Some e → IsAdded e) → IsSearch limits s nodes log cube from → IsSearch limits s nodes file cube start
  search_placed cube from start within added h = record {
    cube_of_check = subst (λ (xs : List ℕ). cube < 2 ^ length xs) (sym same_cubes) h.cube_of_check;
    selectors = subst (λ (f : ℕ → Option Asserted). All (λ (a : Live). (r : Asserted) × (f a.assertion ≡ Some r)) s.scopes.live) (sym same_selectors) h.selectors;
    bits = subst (λ (f : ℕ → Option (List Literal)). All (λ (a : Asked). (bit : Literal) × (f a.term ≡ Some (bit ∷ []))) (assumptions s)) (sym same_bits) h.bits;
    within = within;
    added = added;
  }

-- ---- steps by their kind

derived_added : (e : Entry) → is_deletable (Some e) ≡ true → IsAdded e
derived_added (step.Lemma l) h = refl
derived_added (step.Chain c hints) h = refl
derived_added e h = let f : ⊥ = cc in absurd f

-- a derived step that is no chain is a lemma
derived_lemma : (o : Option Entry) → is_deletable o ≡ true → is_chain o ≡ false → is_lemma o ≡ true
derived_lemma (Some (step.Lemma l)) h k = refl
derived_lemma (Some (step.Chain c hints)) h k = let f : ⊥ = cc in absurd f
derived_lemma _ h k = let f : ⊥ = cc in absurd f

lemma_plain : (o : Option Entry) → is_lemma o ≡ true → is_chain o ≡ false
lemma_plain (Some (step.Lemma l)) h = refl
lemma_plain _ h = let f : ⊥ = cc in absurd f

-- a step of a search that is not derived is an equality
search_cases : (e : Entry) → IsAdded e → is_chain (Some e) ≡ false → (is_deletable (Some e) ≡ true) ⊎ ((t : ℕ) × (u : ℕ) × (Some e ≡ Some (step.Equal t u)))
search_cases (step.Equal t u) h k = inr (t, u, refl)
search_cases (step.Lemma l) h k = inl refl
search_cases (step.Chain c hints) h k = inl refl
search_cases e h k = let f : ⊥ = cc in absurd f

entry_there : (log : List Entry) (p : ℕ) → 0 < p → p ≤ length log → (e : Entry) × (entry_at log p ≡ Some e)
entry_there log zero some le = absurd (omega (arith, some))
entry_there log (suc p) some le = slice_get-there log p (omega (arith, le))

-- ---- lemmas before the start

filter_has : (f : ℕ → Bool) (xs : List ℕ) (x : ℕ) → Contains xs x → f x ≡ true → Contains (filter f xs) x
filter_has f [] x c h = absurd (Contains-nil x c)
filter_has f (y ∷ xs) x c h = go (λ more. filter_has f xs x more h) (f y) refl
  where
    go : (Contains xs x → Contains (filter f xs) x) → (b : Bool) → f y ≡ b → Contains (filter f (y ∷ xs)) x
    go again true e = subst (λ (b : Bool). Contains (cond b (y ∷ filter f xs) (filter f xs)) x) (sym e) (⊎_elim
        (λ first. subst (λ z. Contains (y ∷ filter f xs) z) (Contains-one y x first) (Contains-first y (filter f xs)))
        (λ more. Contains-later y x (filter f xs) (again more))
        (Contains-append_cases (y ∷ []) xs x c))
    go again false e = subst (λ (b : Bool). Contains (cond b (y ∷ filter f xs) (filter f xs)) x) (sym e) (⊎_elim
        (λ first. (let z : true ≡ false = sym h ∙ ap f (sym (Contains-one y x first)) ∙ e in let w : ⊥ = cc in absurd w))
        (λ more. again more)
        (Contains-append_cases (y ∷ []) xs x c))

has_filtered : (f : ℕ → Bool) (xs : List ℕ) (x : ℕ) → Contains (filter f xs) x → Contains xs x × (f x ≡ true)
has_filtered f [] x c = absurd (Contains-nil x c)
has_filtered f (y ∷ xs) x c = go (λ more. has_filtered f xs x more) (f y) refl
  where
    rest : (Contains (filter f xs) x → Contains xs x × (f x ≡ true)) → Contains (filter f xs) x → Contains (y ∷ xs) x × (f x ≡ true)
    rest again more = let k = again more in (Contains-later y x xs k.0, k.1)

    go : (Contains (filter f xs) x → Contains xs x × (f x ≡ true)) → (b : Bool) → f y ≡ b → Contains (y ∷ xs) x × (f x ≡ true)
    go again true e = ⊎_elim
        (λ first. (let same = Contains-one y x first in (subst (λ z. Contains (y ∷ xs) z) same (Contains-first y xs), ap f (sym same) ∙ e)))
        (rest again)
        (Contains-append_cases (y ∷ []) (filter f xs) x (subst (λ (b : Bool). Contains (cond b (y ∷ filter f xs) (filter f xs)) x) e c))
    go again false e = rest again (subst (λ (b : Bool). Contains (cond b (y ∷ filter f xs) (filter f xs)) x) e c)

-- ---- the diary of a check

module _ (limits : Limits) (s : StateValue) (nodes : List Node) (log steps file : List Entry) (deleted : List ℕ) (base new : FileValue) (start : ℕ) (needed : List ℕ) (d : Diary)
    (filed : IsFiledCheck nodes log steps file deleted base new start needed (Unknown d))
    (unknown : IsUnknown limits s nodes (log ++ steps) d)
    (first : HasTakenFirst (suc (length log)) (log ++ steps) (Some (Unknown d))) where
  abbrev whole : List Entry
  whole = log ++ steps

  abbrev lemmas : List ℕ
  lemmas = lemmas_before whole d.start needed

  one_place : (p q : ℕ) → HasPlace new.places p → HasPlace new.places q → new.places p ≡ new.places q → p ≡ q
  one_place p q a b e = ⊎_elim
      (λ none. ⊎_elim (λ same. none ∙ sym same) (λ some. sym (filed.file_is.once q p some (sym e))) b)
      (λ some. filed.file_is.once p q some e)
      a

  lemmas_are : (p : ℕ) → Contains lemmas p → HasPlace new.places p × (p < d.start) × (is_chain (entry_at whole p) ≡ false)
  lemmas_are p c =
      let k = has_filtered (λ x. ltb x d.start && is_lemma (entry_at whole x)) needed p c in
      let both = and_parts (ltb p d.start) (is_lemma (entry_at whole p)) k.1 in
      let far = (filed.written p k.0).1 in
      let one = filed.start_within.0 in
      (inr (omega (arith, far, one)), ltb-true p d.start both.0, lemma_plain (entry_at whole p) both.1)

  held : (p : ℕ) → HasPlace new.places p → p < d.start → is_chain (entry_at whole p) ≡ false → (new.places p < start) ⊎ Contains lemmas p
  held p has lt plain = ⊎_elim
      (λ low. inl low)
      (λ far. inr (let c = filed.behind p far in
      filter_has (λ x. ltb x d.start && is_lemma (entry_at whole x)) needed p c
      (ap₂ (λ (a b : Bool). a && b) (lt-ltb p d.start lt) (derived_lemma (entry_at whole p) (filed.written p c).0 plain))))
      (cases_lt (new.places p) start)

  some_place : (p : ℕ) → d.start ≤ p → HasPlace new.places p → 0 < new.places p
  some_place p le has = ⊎_elim (λ none. (let begin = first.0 in absurd (omega (arith, none, le, begin)))) (λ some. some) has

  -- a chain or a lemma from the start on is needed
  own : (p : ℕ) → d.start ≤ p → HasPlace new.places p → IsDerived whole p → Contains needed p
  own p le has derived = filed.own p (let begin = first.0 in omega (arith, le, begin)) derived (some_place p le has)

  behind : (p : ℕ) → d.start ≤ p → HasPlace new.places p → p ≤ length whole → is_chain (entry_at whole p) ≡ false → new.places p < start → IsEquality whole p
  behind p le has within plain low =
      let begin = first.0 in
      let e = entry_there whole p (omega (arith, le, begin)) within in
      ⊎_elim
      (λ derived. absurd (filed.before p low (own p le has (ap is_deletable e.1 ∙ derived))))
      (λ k. (k.0, k.1, e.1 ∙ k.2))
      (search_cases e.0 (unknown.search.added p e.0 le e.1) (sym (ap is_chain e.1) ∙ plain))

  only : (q : ℕ) → q < start → is_deleted deleted q ≡ false → is_chain (entry_at file q) ≡ false
      → (p : ℕ) × (new.places p ≡ q) × HasPlace new.places p × (is_chain (entry_at whole p) ≡ false) × ((p < d.start) ⊎ ((d.start ≤ p) × IsEquality whole p))
  only q lt there plain =
      let k = filed.file_is.every q (let far = filed.start_within.1 in omega (arith, lt, far)) there in
      let open_chain = sym (filed.file_is.chains k.0 k.2) ∙ ap (λ x. is_chain (entry_at file x)) k.1 ∙ plain in (
        k.0,
        k.1,
        k.2,
        open_chain,
        ⊎_elim
            (λ low. inl low)
            (λ ge. inr (ge, behind k.0 ge k.2 k.3 open_chain (subst (λ x. x < start) (sym k.1) lt)))
            (cases_lt k.0 d.start),
      )

  chain_needed : (p : ℕ) (c : List Literal) (hints : List ClauseId) → d.start ≤ p → HasPlace new.places p → entry_at whole p ≡ Some (step.Chain c hints) → Contains needed p
  chain_needed p c hints le has e = own p le has (ap is_deletable e)

  diary_file : IsDiaryFile nodes whole file deleted new.places d.start start lemmas
  diary_file = record {
    steps = filed.whole_log;
    within = filed.file_is.within;
    once = one_place;
    rows = filed.file_is.rows;
    chains = filed.file_is.chains;
    left = filed.file_is.left;
    lemmas_are = lemmas_are;
    held = held;
    only = only;
    written = λ p c hints le has e. (filed.written p (chain_needed p c hints le has e)).2 ∙ ap (option_map (placed new.places)) e;
    hinted = λ p c hints h le has e m. filed.hinted p c hints h (chain_needed p c hints le has e) e m;
  }

  added : (p : ℕ) (e : Entry) → start ≤ p → entry_at file p ≡ Some e → IsAdded e
  added p e le q =
      let k = filed.file_is.every p (entry_within file p e q) (filed.fresh p le) in
      let c = filed.behind k.0 (subst (λ x. start ≤ x) (sym k.1) le) in
      derived_added e (sym (ap is_deletable q) ∙ ap (λ x. is_deletable (entry_at file x)) (sym k.1) ∙ filed.file_is.kinds k.0 k.2 ∙ (filed.written k.0 c).0)

  named : (l : DiaryLine) → Contains d.lines l → place_of l ≤ length whole → HasPlace new.places (place_of l)
  named l c le = filed.named (place_of l) (l, c, refl) le

  pub diary_placed : IsUnknownWithout deleted limits s nodes file (placed_diary whole new.places start needed d)
  diary_placed = record {
    search = search_placed limits s nodes whole file filed.file_is.made d.cube d.start start filed.start_within.1 added unknown.search;
    spent =
        subst (λ (given : List Literal). IsSpentWithout deleted (record { nodes = nodes; log = file; given = given; from = start }) limits.budget (placed_diary whole new.places start needed d).lines) (sym (same_given limits s nodes whole file filed.file_is.made d.cube))
        (spent_placed nodes whole file deleted new.places d.start start lemmas (given_literals limits s nodes whole d.cube) diary_file limits.budget d.lines named first.1 unknown.spent);
  }

-- What the search of its cubes shows of a check.
use Rattle.std.proofs.Common.{◌≡◌, ℕ, suc, ◌<◌, ◌≤◌, ◌^◌, Bool, false, List, [], ◌∷◌, ◌++◌, length, map, flat_map, Option, Some, refl, sym, ap, ◌∙◌, subst, inl, inr, ⊎_elim, append_assoc, length-append, arith}
use Rattle.std.specs.Prelude.{◌⊎◌, All, Contains, option_to_list}
use Rattle.std.specs.List.{AllByRecursion}
use Rattle.std.proofs.lemmas.List.Elements.{All-cons, All-from_recursion, All-nil, All-weaker, Contains-append_left, Contains-append_right}
use Rattle.cnf_base.specs.Literals.{Literal, negated}
use Rattle.cnf_base.specs.Assignments.{AreBelow}
use Rattle.smt_terms.specs.declared.node.Node.{Node}
use Rattle.smt_terms.specs.Bits.{bits_in}
use Rattle.smt_terms.specs.Terms.{TermsValue}
use Rattle.smt_values.specs.declared.value.Value.{Value}
use Rattle.scope_selectors.specs.declared.live.Live.{Live}
use Rattle.script_state.specs.declared.answer.Asked.{Asked}
use Rattle.script_state.specs.States.{StateValue, assumptions, roots}
use Rattle.proof_log.specs.declared.entry.Entry.{Entry}
use Rattle.proof_log.specs.declared.entry.Entry.TheVariants as step
use Rattle.proof_log.specs.declared.diary.Diary.{Diary}
use Rattle.proof_log.specs.Diaries.{IsSpent, is_chain}
use Rattle.proof_log.specs.LemmaBoards.{Adds}
use Rattle.proof_log.specs.Places.{IsForTerm}
use Rattle.proof_log.specs.Logs.{Asserted, clause_at, entry_at, state_of}
use Rattle.proof_log.specs.Stored.{LogValue, Stands, IsKept, selector_in}
use Rattle.proof_log.proofs.Growth.{entry_within}
use Rattle.proof_log.proofs.Standing.{stands_over, some_literal}
use Rattle.cube_search.proofs.Longer.{longer_holds}
use Rattle.cube_tree.specs.Closing.{Closes}
use Rattle.cube_tree.specs.Cubes.{cube_of}
use Rattle.cube_workers.specs.declared.outcome.Outcome.{Outcome}
use Rattle.cube_workers.specs.declared.outcome.Outcome.TheVariants as outcome
use Rattle.cube_workers.specs.Searched.{IsProblem, IsSpentCube, IsClosed, IsLowestSpent, IsFound, problem}
use Rattle.theory_cubes.specs.Searched as theory
use Rattle.theory_cubes.specs.declared.outcome.Outcome as found
use Rattle.theory_cubes.specs.declared.outcome.Outcome.TheVariants as interpreted
use Rattle.proof_text.specs.Records.{AreWritten}
use Rattle.proof_text.specs.declared.record.Record.{Record}
use Rattle.proof_text.specs.declared.record.Record.TheVariants.{Sat, Unsat, Unknown}
use Rattle.proof_file.proofs.TakenFirst.{taken_in_order, taken_before}
use Rattle.accepted_proof.specs.Models.{IsWrittenModel}
use Rattle.accepted_proof.specs.Searching.{Limits, Rise, cube_variables, selector_literals, bits_or_none, given_literals, HasSelector, HasBit, IsUnknown}
use Rattle.reached_steps.specs.Reached.{IsOfTerms}
use Rattle.reached_steps.specs.Opening.{IsOfPair, IsOfLemma, AreOpeningSteps}
use Rattle.reached_steps.proofs.Separate.{openings_are_separate}
use Rattle.smt_session.specs.Growing.{Grows, AreBits, AreGiven, AreSelectors}
use Rattle.smt_session.specs.Thorough.{IsClosedCube, AreOthersSearched}
use Rattle.smt_session.specs.Sessions.{IsSession, IsConcluded}
use Rattle.smt_session.proofs.Adding.{added_behind, grows_by_adds, variables_stay}
use Rattle.smt_session.proofs.Giving.{given_below, given_stays}
use Rattle.smt_session.proofs.Staying.{grows_more}
use Rattle.smt_session.proofs.Turning.{refutation}

-- ---- what is searched

rise_below : (low high : ℕ) (xs : List ℕ) → Rise low high xs → AllByRecursion (λ x. x < high) xs
rise_below low high [] h = tt
rise_below low high (x ∷ xs) h = (below x xs h.1, rise_below (suc x) high xs h.1)
  where
    ends : (low high : ℕ) (xs : List ℕ) → Rise low high xs → low ≤ high
    ends low high [] h = h
    ends low high (y ∷ ys) h = let first = h.0 in let rest = ends (suc y) high ys h.1 in omega (arith, first, rest)

    below : (x : ℕ) (xs : List ℕ) → Rise (suc x) high xs → x < high
    below x xs h = let le = ends (suc x) high xs h in omega (arith, le)

rise_more : (low high more : ℕ) (xs : List ℕ) → high ≤ more → Rise low high xs → Rise low more xs
rise_more low high more [] le h = omega (arith, le, h)
rise_more low high more (x ∷ xs) le h = (h.0, rise_more (suc x) high more xs le h.1)

-- no variable goes where a log grows
next_rises : (s : StateValue) (old new : LogValue) → Stands s.terms.nodes old → Grows s old new → old.next ≤ new.next
next_rises s old new before g =
    let a = (stands_over s.terms.nodes old before).next in
    let k = stands_over s.terms.nodes new g.stands in
    let b = k.next in
    let le = (longer_holds s.terms.nodes old.entries new.entries g.added g.entries k.steps).next in
    omega (arith, a, b, le)

pub still_rise : (s : StateValue) (old new : LogValue) (xs : List ℕ) → Stands s.terms.nodes old → Grows s old new → Rise 2 old.next xs → Rise 2 new.next xs
still_rise s old new xs before g h = rise_more 2 old.next new.next xs (next_rises s old new before g) h

-- a step that gives a term bits is no chain
bits_plain : (t : ℕ) (e : Entry) → IsForTerm t e → is_chain (Some e) ≡ false
bits_plain t (step.Chain c hints) h = let f : ⊥ = cc in absurd f
bits_plain t e h = refl

-- the position is there, and its step is no chain
abbrev IsPlainStep : List Entry → ℕ → Type 0
IsPlainStep log p = (p < suc (length log)) × (is_chain (entry_at log p) ≡ false)

plain_entry : (log : List Entry) (p : ℕ) (e : Entry) → entry_at log p ≡ Some e → is_chain (Some e) ≡ false → IsPlainStep log p
plain_entry log p e at plain = let le = entry_within log p e at in (omega (arith, le), ap is_chain at ∙ plain)

module _ (nodes : List Node) (log : List Entry) (reached positions : List ℕ) (opening : AreOpeningSteps nodes log reached positions) where
  of_terms : (p : ℕ) → IsOfTerms log reached p → IsPlainStep log p
  of_terms p (inl e) = (omega (arith, e), ap (λ q. is_chain (entry_at log q)) e)
  of_terms p (inr (inl h)) = plain_entry log p h.2.0 h.2.1 (bits_plain h.0 h.2.0 h.2.2)
  of_terms p (inr (inr h)) = plain_entry log p (step.Selector h.0 h.1) h.3 refl

  of_theory : (p : ℕ) → IsOfPair log reached p ⊎ IsOfLemma nodes log positions p → IsPlainStep log p
  of_theory p (inl h) = plain_entry log p (step.Equal h.0 h.1) h.4 refl
  of_theory p (inr h) = plain_entry log p (step.Lemma h.lemma) h.is refl

  plain_step : (p : ℕ) → Contains positions p → IsPlainStep log p
  plain_step p among = ⊎_elim (of_terms p) (of_theory p) (opening.only p among)

-- the problem of a search with functions and arrays
abbrev pub theory_problem : List Node → List Entry → List ℕ → List ℕ → List ℕ → List Literal → ℕ → theory.Problem
theory_problem nodes log live positions variables given budget = record { nodes = nodes; live = live; positions = positions; from = suc (length log); variables = variables; assumed = given; budget = budget }

module _ (s : StateValue) (log : LogValue) (session : IsSession s log) (reached positions : List ℕ) (opening : AreOpeningSteps s.terms.nodes log.entries reached positions) (variables : List ℕ) (given : List Literal) (budget : ℕ) (rise : Rise 2 log.next variables) (are : AreGiven s log given) where
  over : IsKept s.terms.nodes log
  over = stands_over s.terms.nodes log session.stands

  plain_at : (p : ℕ) → Contains positions p → IsPlainStep log.entries p
  plain_at = plain_step s.terms.nodes log.entries reached positions opening

  variables_below : All (λ x. x < (state_of s.terms.nodes log.entries).next) variables
  variables_below = subst (λ n. All (λ x. x < n) variables) over.next (All-from_recursion (λ x. x < log.next) variables (rise_below 2 log.next variables rise))

  assumed_below : AreBelow (state_of s.terms.nodes log.entries).next given
  assumed_below = subst (λ n. AreBelow n given) over.next (given_below s log given session.state.terms session.stands are)

  pub is_problem : IsProblem (problem s.terms.nodes log.entries positions variables given budget) log.entries
  is_problem = record {
    positions = λ p among. (plain_at p among).0;
    begun = omega arith;
    from = omega arith;
    plain = λ p among. (plain_at p among).1;
    chains = λ at e le q. absurd (let w = entry_within log.entries at e q in omega (arith, le, w));
    separate = openings_are_separate s.terms.nodes log.entries reached positions (suc (length log.entries)) session.state.terms over.steps opening;
    variables = variables_below;
    assumed = assumed_below;
  }

  pub is_theory_problem : (live : List ℕ) → theory.IsProblem (theory_problem s.terms.nodes log.entries live positions variables given budget) log.entries
  is_theory_problem live = record {
    positions = λ p among. (plain_at p among).0;
    from = omega arith;
    plain = λ p among. (plain_at p among).1;
    variables = variables_below;
    assumed = assumed_below;
  }

-- ---- a spent cube

selectors_given : (nodes : List Node) (log : LogValue) (live : List Live) (selectors : List Literal) → Stands nodes log → AreSelectors log live selectors → flat_map (selector_literals (state_of nodes log.entries)) live ≡ selectors
selectors_given nodes log [] [] h e = refl
selectors_given nodes log [] (x ∷ xs) h e = let q : ⊥ = cc in absurd q
selectors_given nodes log (a ∷ live) [] h e = let q : ⊥ = cc in absurd q
selectors_given nodes log (a ∷ live) (x ∷ xs) h e =
    let first : selector_in log.selectors a.assertion ≡ Some x = cc in
    let rest : map (λ (y : Live). selector_in log.selectors y.assertion) live ≡ map Some xs = cc in
    let made = some_literal _ x (sym ((stands_over nodes log h).selectors a.assertion) ∙ first) in
    ap (λ (o : Option Asserted). map (λ (r : Asserted). r.literal) (option_to_list o) ++ flat_map (selector_literals (state_of nodes log.entries)) live) made.1
    ∙ ap (λ y. y ∷ flat_map (selector_literals (state_of nodes log.entries)) live) made.2
    ∙ ap (λ ys. x ∷ ys) (selectors_given nodes log live xs h rest)

bits_given : (nodes : List Node) (log : LogValue) (asked : List Asked) (bits : List Literal) → Stands nodes log → AreBits log asked bits → flat_map (λ (a : Asked). bits_or_none ((state_of nodes log.entries).bits a.term)) asked ≡ bits
bits_given nodes log [] [] h e = refl
bits_given nodes log [] (x ∷ xs) h e = let q : ⊥ = cc in absurd q
bits_given nodes log (a ∷ asked) [] h e = let q : ⊥ = cc in absurd q
bits_given nodes log (a ∷ asked) (x ∷ xs) h e =
    let first : bits_in log.bits a.term ≡ Some (x ∷ []) = cc in
    let rest : map (λ (y : Asked). bits_in log.bits y.term) asked ≡ map (λ l. Some (l ∷ [])) xs = cc in
    let made : (state_of nodes log.entries).bits a.term ≡ Some (x ∷ []) = sym ((stands_over nodes log h).bits a.term) ∙ first in
    ap (λ o. bits_or_none o ++ flat_map (λ (b : Asked). bits_or_none ((state_of nodes log.entries).bits b.term)) asked) made
    ∙ ap (λ ys. x ∷ ys) (bits_given nodes log asked xs h rest)

have_selectors : (nodes : List Node) (log : LogValue) (live : List Live) (selectors : List Literal) → Stands nodes log → AreSelectors log live selectors → All (HasSelector (state_of nodes log.entries)) live
have_selectors nodes log [] xs h e = All-nil _
have_selectors nodes log (a ∷ live) [] h e = let q : ⊥ = cc in absurd q
have_selectors nodes log (a ∷ live) (x ∷ xs) h e =
    let first : selector_in log.selectors a.assertion ≡ Some x = cc in
    let rest : map (λ (y : Live). selector_in log.selectors y.assertion) live ≡ map Some xs = cc in
    let made = some_literal _ x (sym ((stands_over nodes log h).selectors a.assertion) ∙ first) in
    All-cons (HasSelector (state_of nodes log.entries)) a live (made.0, made.1) (have_selectors nodes log live xs h rest)

have_bits : (nodes : List Node) (log : LogValue) (asked : List Asked) (bits : List Literal) → Stands nodes log → AreBits log asked bits → All (HasBit (state_of nodes log.entries)) asked
have_bits nodes log [] xs h e = All-nil _
have_bits nodes log (a ∷ asked) [] h e = let q : ⊥ = cc in absurd q
have_bits nodes log (a ∷ asked) (x ∷ xs) h e =
    let first : bits_in log.bits a.term ≡ Some (x ∷ []) = cc in
    let rest : map (λ (y : Asked). bits_in log.bits y.term) asked ≡ map (λ l. Some (l ∷ [])) xs = cc in
    All-cons (HasBit (state_of nodes log.entries)) a asked (x, sym ((stands_over nodes log h).bits a.term) ∙ first) (have_bits nodes log asked xs h rest)

module _ (limits : Limits) (s : StateValue) (old new : LogValue) (positions variables : List ℕ) (given : List Literal) (before : Stands s.terms.nodes old) (after : Stands s.terms.nodes new) (adds : Adds old.entries new.entries)
    (split : variables ≡ cube_variables limits s s.terms.nodes old.entries) (are : AreGiven s old given) where
  now : AreGiven s new given
  now = given_stays s old new given before (grows_by_adds s old new adds after) are

  same : cube_variables limits s s.terms.nodes new.entries ≡ variables
  same = variables_stay limits s s.terms.nodes old.entries new.entries adds ∙ sym split

  literals : (n : ℕ) → given_literals limits s s.terms.nodes new.entries n ≡ cube_of variables n ++ given
  literals n =
      ap (λ xs. cube_of xs n ++ flat_map (selector_literals (state_of s.terms.nodes new.entries)) s.scopes.live ++ flat_map (λ (a : Asked). bits_or_none ((state_of s.terms.nodes new.entries).bits a.term)) (assumptions s)) same
      ∙ ap (λ xs. cube_of variables n ++ xs ++ flat_map (λ (a : Asked). bits_or_none ((state_of s.terms.nodes new.entries).bits a.term)) (assumptions s)) (selectors_given s.terms.nodes new s.scopes.live now.selectors after now.chosen)
      ∙ ap (λ xs. cube_of variables n ++ now.selectors ++ xs) (bits_given s.terms.nodes new (assumptions s) now.bits after now.assumed)
      ∙ append_assoc (cube_of variables n) now.selectors now.bits
      ∙ ap (λ xs. cube_of variables n ++ xs) (sym now.all)

  -- the diary of a spent cube shows that the answer is not known
  unknown : (d : Diary) → IsSpentCube (problem s.terms.nodes old.entries positions variables given limits.budget) new.entries d → IsUnknown limits s s.terms.nodes new.entries d
  unknown d h = record {
    search = record {
      cube_of_check = subst (λ (xs : List ℕ). d.cube < 2 ^ length xs) (sym same) h.cube;
      selectors = have_selectors s.terms.nodes new s.scopes.live now.selectors after now.chosen;
      bits = have_bits s.terms.nodes new (assumptions s) now.bits after now.assumed;
      within = h.within;
      added = λ p e le q. (let start = h.start in added_behind old.entries new.entries p e adds (omega (arith, start, le)) q);
    };
    spent = subst (λ xs. IsSpent (record { nodes = s.terms.nodes; log = new.entries; given = xs; from = d.start }) limits.budget d.lines) (sym (literals d.cube)) h.spent;
  }

  -- what closes a cube has opposites of what its search takes as true
  closed_cube : (n : ℕ) → IsClosed (problem s.terms.nodes old.entries positions variables given limits.budget) new.entries n → IsClosedCube limits s s.terms.nodes new.entries n
  closed_cube n h = record {
    at = h.0;
    clause = h.1.clause;
    stands = h.1.found;
    against =
        subst (λ gs. All (λ l. Contains gs (negated l)) h.1.clause) (sym (literals n))
        (All-weaker (λ l. Contains (cube_of variables n) (negated l) ⊎ Contains given (negated l)) (λ l. Contains (cube_of variables n ++ given) (negated l))
        (λ l. ⊎_elim (Contains-append_left (cube_of variables n) given (negated l)) (Contains-append_right (cube_of variables n) given (negated l))) h.1.clause h.1.closing);
  }

  others_searched : (d : Diary) → IsLowestSpent (problem s.terms.nodes old.entries positions variables given limits.budget) new.entries (2 ^ length variables) d → AreOthersSearched limits s s.terms.nodes new.entries d
  others_searched d h = record {
    lower = λ n lt. closed_cube n (h.lower n lt);
    later = λ n gt lt.
        ⊎_elim
        (λ (c : IsClosed (problem s.terms.nodes old.entries positions variables given limits.budget) new.entries n). inl (closed_cube n c))
        (λ (e : (f : Diary) × (f.cube ≡ n) × IsSpentCube (problem s.terms.nodes old.entries positions variables given limits.budget) new.entries f). inr (e.0, e.1, unknown e.0 e.2))
        (h.later n gt (subst (λ (xs : List ℕ). n < 2 ^ length xs) same lt));
  }

  pub spent_checked : (d : Diary) → IsLowestSpent (problem s.terms.nodes old.entries positions variables given limits.budget) new.entries (2 ^ length variables) d → IsConcluded limits s old new (Unknown d)
  spent_checked d h = record { grows = grows_by_adds s old new adds after; shown = unknown d h.own; cubes = others_searched d h; taken = (h.own.start, taken_in_order new.entries d.start d.lines h.own.order.later h.own.order.first) }

-- ---- what a check comes to

pub closed_checked : (limits : Limits) (s : StateValue) (old new : LogValue) (given : List Literal) (at : ℕ) → Stands s.terms.nodes old → Stands s.terms.nodes new → Adds old.entries new.entries → AreGiven s old given
    → Closes (clause_at (state_of s.terms.nodes new.entries).clauses) given [] at → IsConcluded limits s old new (Unsat at)
closed_checked limits s old new given at before after adds are h =
    let grows = grows_by_adds s old new adds after in
    record { grows = grows; shown = refutation s old new given at before grows are h; cubes = tt; taken = tt }

pub model_checked : (limits : Limits) (s : StateValue) (old new : LogValue) (values : List (ℕ × Value)) → Stands s.terms.nodes new → Adds old.entries new.entries → AreWritten (Sat values) × IsWrittenModel s values → IsConcluded limits s old new (Sat values)
model_checked limits s old new values after adds shown = record { grows = grows_by_adds s old new adds after; shown = shown; cubes = tt; taken = tt }

-- by bits alone
module _ (limits : Limits) (s : StateValue) (terms : TermsValue) (old new : LogValue) (positions variables : List ℕ) (given : List Literal) (budget : ℕ) (v : ℕ → Bool) (f : Outcome)
    (own : terms ≡ s.terms) (before : Stands s.terms.nodes old) (are : AreGiven s old given) (adds : Adds old.entries new.entries) (after : Stands terms.nodes new)
    (is : IsFound (problem terms.nodes old.entries positions variables given budget) new.entries v f) where
  stands : Stands s.terms.nodes new
  stands = subst (λ (t : TermsValue). Stands t.nodes new) own after

  pub found_as : (g : Outcome) → f ≡ g → IsFound (problem s.terms.nodes old.entries positions variables given budget) new.entries v g
  found_as g e =
      subst (IsFound (problem s.terms.nodes old.entries positions variables given budget) new.entries v) e
      (subst (λ (t : TermsValue). IsFound (problem t.nodes old.entries positions variables given budget) new.entries v f) own is)

  pub refuted : (at : ℕ) → f ≡ outcome.Unsat at → IsConcluded limits s old new (Unsat at)
  refuted at e = closed_checked limits s old new given at before stands adds are (found_as (outcome.Unsat at) e)

  pub spent : (d : Diary) (by : Limits) → by ≡ limits → budget ≡ by.budget → variables ≡ cube_variables by s s.terms.nodes old.entries → f ≡ outcome.Unknown d → IsConcluded limits s old new (Unknown d)
  spent d by same b split e =
      subst (λ (l : Limits). IsConcluded l s old new (Unknown d)) same
      (spent_checked by s old new positions variables given before stands adds split are d
      (subst (λ n. IsLowestSpent (problem s.terms.nodes old.entries positions variables given n) new.entries (2 ^ length variables) d) b (found_as (outcome.Unknown d) e)))

-- with functions and arrays

module _ (nodes : List Node) (log log' : List Entry) (live positions variables : List ℕ) (given : List Literal) (budget : ℕ) where
  -- a diary that starts where the search did
  as_spent : (d : Diary) → theory.IsSpentCube (theory_problem nodes log live positions variables given budget) log' d → IsSpentCube (problem nodes log positions variables given budget) log' d
  as_spent d h = record { cube = h.cube; start = (let e = h.start in omega (arith, e)); within = h.within; spent = h.spent; order = h.order }

  as_lowest : (count : ℕ) (d : Diary) → theory.IsLowestSpent (theory_problem nodes log live positions variables given budget) log' count d → IsLowestSpent (problem nodes log positions variables given budget) log' count d
  as_lowest count d h = record {
    own = as_spent d h.own;
    lower = λ n lt. h.lower n lt;
    later = λ n gt lt.
        ⊎_elim
        (λ (c : theory.IsClosed (theory_problem nodes log live positions variables given budget) log' n). inl c)
        (λ (e : (f : Diary) × (f.cube ≡ n) × theory.IsSpentCube (theory_problem nodes log live positions variables given budget) log' f). inr (e.0, e.1, as_spent e.0 e.2))
        (h.later n gt lt);
  }

module _ (limits : Limits) (s : StateValue) (terms : TermsValue) (old new : LogValue) (live positions variables : List ℕ) (given : List Literal) (budget : ℕ) (f : found.Outcome)
    (own : terms ≡ s.terms) (before : Stands s.terms.nodes old) (are : AreGiven s old given) (adds : Adds old.entries new.entries) (after : Stands terms.nodes new)
    (is : theory.IsFound (theory_problem terms.nodes old.entries live positions variables given budget) new.entries f) where
  standing : Stands s.terms.nodes new
  standing = subst (λ (t : TermsValue). Stands t.nodes new) own after

  pub interpreted_as : (g : found.Outcome) → f ≡ g → theory.IsFound (theory_problem s.terms.nodes old.entries live positions variables given budget) new.entries g
  interpreted_as g e =
      subst (theory.IsFound (theory_problem s.terms.nodes old.entries live positions variables given budget) new.entries) e
      (subst (λ (t : TermsValue). theory.IsFound (theory_problem t.nodes old.entries live positions variables given budget) new.entries f) own is)

  pub refuted_with_lemmas : (at : ℕ) → f ≡ interpreted.Unsat at → IsConcluded limits s old new (Unsat at)
  refuted_with_lemmas at e = closed_checked limits s old new given at before standing adds are (interpreted_as (interpreted.Unsat at) e)

  pub spent_with_lemmas : (d : Diary) → budget ≡ limits.budget → variables ≡ cube_variables limits s s.terms.nodes old.entries → f ≡ interpreted.Unknown d → IsConcluded limits s old new (Unknown d)
  spent_with_lemmas d b split e =
      let lowest = as_lowest s.terms.nodes old.entries new.entries live positions variables given budget (2 ^ length variables) d (interpreted_as (interpreted.Unknown d) e) in
      spent_checked limits s old new positions variables given before standing adds split are d
      (subst (λ n. IsLowestSpent (problem s.terms.nodes old.entries positions variables given n) new.entries (2 ^ length variables) d) b lowest)

-- what a further search comes to is what the check comes to
pub concluded_then : (limits : Limits) (s : StateValue) (old mid new : LogValue) (r : Record) → Grows s old mid → IsConcluded limits s mid new r → IsConcluded limits s old new r
concluded_then limits s old mid new r g h = record {
  grows = grows_more s old mid new g h.grows;
  shown = h.shown;
  cubes = h.cubes;
  taken = taken_before (suc (length old.entries)) (suc (length mid.entries)) new.entries r (omega (arith, ap length g.entries, length-append old.entries g.added)) h.taken;
}

-- what holds over the terms of a state and the terms of its check holds over others that are the same
pub over_roots : (P : List Node → List ℕ → Type 0) (s : StateValue) (terms : TermsValue) (live : List ℕ) → terms ≡ s.terms → live ≡ roots s → P s.terms.nodes (roots s) → P terms.nodes live
over_roots P s terms live own all h = subst (λ (t : TermsValue). P t.nodes live) (sym own) (subst (P s.terms.nodes) (sym all) h)

-- An interpretation that gives the roots of a check the values of their bits is a model of the live assertions and the assumptions.
use Rattle.std.proofs.Common.{◌≡◌, ℕ, Bool, true, List, [], ◌∷◌, map, Some, sym, ap, ◌∙◌, subst, append-nil}
use Rattle.std.specs.Prelude.{All, Contains, slice_get}
use Rattle.std.specs.List.{AllByRecursion}
use Rattle.std.proofs.lemmas.List.Elements.{All-contains, All-from_recursion, recursion_from_All}
use Rattle.cnf_base.specs.Literals.{Literal}
use Rattle.cnf_base.specs.Clauses.{lit_true, clause_true}
use Rattle.cnf_base.proofs.Options.{same_found}
use Rattle.smt_terms.specs.declared.sort.Sort.TheVariants as sort
use Rattle.smt_terms.specs.declared.node.Node.{Node}
use Rattle.smt_terms.specs.Bits.{bits_in}
use Rattle.smt_terms.specs.Evaluations.{has_no_witness}
use Rattle.smt_terms.specs.Terms.{sort_of}
use Rattle.smt_terms.specs.Values.{VBool, Interpretation, value}
use Rattle.theory_terms.specs.Shapes.{IsPlain}
use Rattle.term_reach.proofs.Ways.{root_reached}
use Rattle.scope_selectors.specs.declared.live.Live.{Live}
use Rattle.script_state.specs.States.{StateValue, IsState, assumptions, roots}
use Rattle.proof_log.specs.declared.entry.Entry.{Entry}
use Rattle.proof_log.specs.declared.entry.Entry.TheVariants as step
use Rattle.proof_log.specs.Assigned.{IsTrueAt}
use Rattle.proof_log.specs.Places.{GivesSelector}
use Rattle.proof_log.specs.LemmaBoards.{Adds}
use Rattle.proof_log.specs.Logs.{Asserted, clause_at, state_of}
use Rattle.proof_log.specs.Stored.{LogValue, Stands, IsKept, selector_in}
use Rattle.proof_log.proofs.Growth.{entry_within}
use Rattle.proof_log.proofs.Ordered.{log_is_ordered}
use Rattle.proof_log.proofs.Standing.{stands_over, some_literal}
use Rattle.cube_search.proofs.Longer.{entry_longer}
use Rattle.cube_search.specs.Ends as ends
use Rattle.cube_tree.proofs.Resolving.{members}
use Rattle.access_tables.specs.Held.{value_by}
use Rattle.access_tables.specs.Leading.{leads}
use Rattle.opening_positions.specs.Holding.{IsHeldAssertion}
use Rattle.theory_cubes.specs.Searched.{HasModel}
use Rattle.accepted_proof.specs.Models.{IsModel}
use Rattle.written_models.specs.Found.{IsSelected, IsGiven, IsFound}
use Rattle.written_models.proofs.Found.{found_model}
use Rattle.smt_session.specs.Growing.{IsStepFor, Grows, AreGiven, AreSelectors}
use Rattle.smt_session.specs.Sessions.{IsSession}
use Rattle.word_models.specs.Models.{HaveTheirBits}
use Rattle.word_models.proofs.Found.{truth}
use Rattle.smt_session.specs.Searched.{IsReady}
use Rattle.smt_session.proofs.Adding.{grows_by_adds}
use Rattle.smt_session.proofs.Concluding.{theory_problem}
use Rattle.smt_session.proofs.Giving.{given_stays, selectors_true, true_bits}
use Rattle.smt_session.proofs.Plans.{among_all}
use Rattle.smt_session.proofs.Roots.{roots_true}
use Rattle.smt_session.proofs.Staying.{grown_steps}

abbrev IsKnown : StateValue → Live → Type 0
IsKnown s a = slice_get s.scopes.terms a.assertion ≡ Some a.term

-- an assertion's selector stands for its term
selector_term : (s : StateValue) (l : LogValue) (a : Live) (r : Asserted) → IsSession s l → IsKnown s a → (state_of s.terms.nodes l.entries).selectors a.assertion ≡ Some r → r.term ≡ a.term
selector_term s l a r session known e =
    let k = stands_over s.terms.nodes l session.stands in
    let among = ((log_is_ordered s.terms.nodes l.entries session.state.terms k.steps).selectors a.assertion r e).2 in
    let for_script = All-contains (IsStepFor s) l.entries (step.Selector a.assertion r.term) (All-from_recursion (IsStepFor s) l.entries session.each) among in
    same_found _ r.term a.term for_script.0 known

module _ (s : StateValue) (old new : LogValue) (positions : List ℕ) (given : List Literal) (session : IsSession s old) (adds : Adds old.entries new.entries) (after : Stands s.terms.nodes new) (are : AreGiven s old given)
    (held : All (IsHeldAssertion old.entries positions) s.scopes.live) (M : Interpretation) (v : ℕ → Bool) (model : ends.IsModel (state_of s.terms.nodes new.entries).clauses positions given v)
    (values : (t : ℕ) (bit : Literal) → Contains (roots s) t → bits_in new.bits t ≡ Some (bit ∷ []) → value M s.terms.nodes t ≡ VBool (lit_true v bit)) where
  grows : Grows s old new
  grows = grows_by_adds s old new adds after

  here : IsSession s new
  here = record { state = session.state; stands = after; each = grown_steps s old new session.each grows }

  now : AreGiven s new given
  now = given_stays s old new given session.stands grows are

  over : IsKept s.terms.nodes new
  over = stands_over s.terms.nodes new after

  given_true : AllByRecursion (λ x. lit_true v x ≡ true) given
  given_true = recursion_from_All (λ x. lit_true v x ≡ true) given (members (λ x. lit_true v x ≡ true) given model.literals)

  true_at : (p : ℕ) → Contains positions p → IsTrueAt new v p
  true_at p among k c q = model.clauses (record { pos = p; part = k }) c among (sym (ap (λ rows. clause_at rows (record { pos = p; part = k })) over.clauses) ∙ q)

  -- the step of a selector stands where it stood
  step_stays : (a p : ℕ) → GivesSelector old.entries a p → GivesSelector new.entries a p
  step_stays a p h = (h.0, entry_longer old.entries new.entries adds.more adds.is p (entry_within old.entries p (step.Selector a h.0) h.1) ∙ h.1)

  selected : (live : List Live) (chosen : List Literal) → AllByRecursion (IsKnown s) live → AllByRecursion (IsHeldAssertion old.entries positions) live → AreSelectors new live chosen → AllByRecursion (λ x. lit_true v x ≡ true) chosen
      → AllByRecursion (IsSelected s.terms.nodes new v) live
  selected [] chosen known in_it e all = tt
  selected (a ∷ live) [] known in_it e all = let q : ⊥ = cc in absurd q
  selected (a ∷ live) (x ∷ chosen) known in_it e all =
      let first : selector_in new.selectors a.assertion ≡ Some x = cc in
      let rest : map (λ (y : Live). selector_in new.selectors y.assertion) live ≡ map Some chosen = cc in
      let r = some_literal _ x (sym (over.selectors a.assertion) ∙ first) in
      let place = in_it.0 in (
        record {
          selector = r.0;
          made = r.1;
          term = selector_term s new a r.0 here known.0 r.1;
          holds = ap (lit_true v) r.2 ∙ all.0;
          place = place.0;
          step = step_stays a.assertion place.0 place.1;
          clauses = true_at place.0 place.2;
        },
        selected live chosen known.1 in_it.1 rest all.1,
      )

  found : IsFound s new v M
  found = record {
    selected =
        All-from_recursion (IsSelected s.terms.nodes new v) s.scopes.live
        (selected s.scopes.live now.selectors (recursion_from_All (IsKnown s) s.scopes.live session.state.scopes.known) (recursion_from_All (IsHeldAssertion old.entries positions) s.scopes.live held) now.chosen
        (selectors_true s new v given now given_true));
    given = All-from_recursion (IsGiven new v) (assumptions s) (true_bits s new v given now given_true);
    values = values;
  }

  pub is_model_by : IsModel s M
  is_model_by = found_model s new v M after found

root_true : (s : StateValue) (state : IsState s) (t : ℕ) → Contains (roots s) t → sort_of s.terms.nodes t ≡ sort.Bool
root_true s state t = All-contains (λ x. sort_of s.terms.nodes x ≡ sort.Bool) (roots s) t (roots_true s state)

-- ---- by a search with functions and arrays

module _ (s : StateValue) (old new : LogValue) (positions variables : List ℕ) (given : List Literal) (budget : ℕ) (session : IsSession s old) (adds : Adds old.entries new.entries) (after : Stands s.terms.nodes new) (are : AreGiven s old given)
    (held : All (IsHeldAssertion old.entries positions) s.scopes.live) (M : Interpretation) (model : HasModel (theory_problem s.terms.nodes old.entries (roots s) positions variables given budget) new.entries M)
    (scripted : All (λ t. has_no_witness s.terms.nodes t ≡ true) (roots s)) where
  -- a root has the value of its bit
  root_value : (t : ℕ) (bit : Literal) → Contains (roots s) t → bits_in new.bits t ≡ Some (bit ∷ []) → value M s.terms.nodes t ≡ VBool (lit_true model.0 bit)
  root_value t bit in_it e =
      let truth = root_true s session.state t in_it in
      let row : (state_of s.terms.nodes new.entries).bits t ≡ Some (bit ∷ []) = sym ((stands_over s.terms.nodes new after).bits t) ∙ e in
      model.1.values t (root_reached (leads s.terms.nodes (state_of s.terms.nodes new.entries).images) (roots s) t in_it) (subst IsPlain (sym truth) tt) (All-contains (λ x. has_no_witness s.terms.nodes x ≡ true) (roots s) t scripted in_it)
      ∙ ap (value_by model.0 (sort_of s.terms.nodes t)) row
      ∙ ap (λ q. value_by model.0 q (Some (bit ∷ []))) truth

  pub is_model : IsModel s M
  is_model = is_model_by s old new positions given session adds after are held M model.0 model.1.clauses root_value

-- ---- by a search over words

pub adds_nothing : (log : List Entry) → Adds log log
adds_nothing log = record { more = []; is = sym (append-nil log); added = tt }

-- the clauses of the positions are true
pub true_there : (nodes : List Node) (log : LogValue) (positions : List ℕ) (given : List Literal) (v w : ℕ → Bool) → Stands nodes log → v ≡ w → ends.IsModel (state_of nodes log.entries).clauses positions given v → (p : ℕ) → Contains positions p → IsTrueAt log w p
true_there nodes log positions given v w stands same model p among k c q =
    subst (λ f. clause_true f c ≡ true) same
    (model.clauses (record { pos = p; part = k }) c among (sym (ap (λ rows. clause_at rows (record { pos = p; part = k })) (stands_over nodes log stands).clauses) ∙ q))

-- what is read off the bits where no function and no array is reached
pub is_word_model : (old : List Node) (s : StateValue) (log : LogValue) (positions : List ℕ) (given : List Literal) (M : Interpretation) (v : ℕ → Bool) → IsSession s log → IsReady old s log positions → AreGiven s log given
    → ends.IsModel (state_of s.terms.nodes log.entries).clauses positions given v → HaveTheirBits M s.terms.nodes log v positions → IsModel s M
is_word_model old s log positions given M v session ready are model bits =
    is_model_by s log log positions given session (adds_nothing log.entries) session.stands are ready.enough.selectors M v model
    (λ t bit in_it e.
    truth M s.terms.nodes log v t bit (bits ready.enough.reached t ready.enough.opening (All-contains (Contains ready.enough.reached) (roots s) t (among_all (Contains ready.enough.reached) ready.live (roots s) ready.enough.among ready.encoded.all.own) in_it)) (root_true s session.state t in_it) e)

-- What a check makes ready for its search.
use Rattle.std.proofs.Common.{◌≡◌, ℕ, zero, suc, List, [], ◌∷◌, ◌++◌, get_or, map, Some, sym, subst, arith}
use Rattle.std.specs.Prelude.{All, Contains, IsSome, slice_get}
use Rattle.std.proofs.lemmas.List.Elements.{All-contains, All-cons, All-from_recursion, All-nil}
use Rattle.cnf_base.specs.Literals.{Literal}
use Rattle.cnf_base.proofs.Options.{IsSome-from, same_found}
use Rattle.smt_terms.specs.declared.node.Node.{Node}
use Rattle.smt_terms.specs.Terms.{AreDifferent}
use Rattle.array_watches.specs.Needed.{watched}
use Rattle.watch_roots.specs.Roots.{AreLive}
use Rattle.scope_selectors.specs.declared.live.Live.{Live}
use Rattle.script_state.specs.States.{StateValue, roots}
use Rattle.proof_log.specs.declared.entry.Entry.{Entry}
use Rattle.proof_log.specs.declared.entry.Entry.TheVariants as step
use Rattle.proof_log.specs.Logs.{entry_at}
use Rattle.proof_log.specs.Stored.{LogValue, Stands, selector_in}
use Rattle.proof_log.proofs.Standing.{stands_over}
use Rattle.opening_positions.specs.Holding.{IsOfReached}
use Rattle.opening_positions.specs.Reading.{ReadSteps, IsRead}
use Rattle.opening_positions.proofs.Kept.{more_keep_read}
use Rattle.session_terms.specs.Placed.{IsInOrder}
use Rattle.session_terms.specs.Walked.{IsEncoded}
use Rattle.smt_session.specs.Growing.{Grows, HasBits, IsStepFor, AreSelectors, LeadsTo}
use Rattle.smt_session.specs.Planning.{Prepares}
use Rattle.smt_session.specs.Sessions.{IsSession}
use Rattle.smt_session.proofs.Leading.{behind_of, prepares_more, roots_led, session_led}
use Rattle.smt_session.proofs.Ordered.{is_encoded}
use Rattle.smt_session.proofs.Plans.{among_all}
use Rattle.smt_session.proofs.Roots.{roots_held, roots_live}
use Rattle.smt_session.proofs.Staying.{bits_stay}

-- ---- bits and selectors

-- what is live keeps its bits
pub live_bits : (s : StateValue) (old new : LogValue) (live : List ℕ) → Stands s.terms.nodes old → Grows s old new → All (HasBits old) live → All (HasBits new) live
live_bits s old new live stands grows bits k d lt = bits_stay s old new (get_or live k d) stands grows (bits k d lt)

pub have_selectors : (log : LogValue) (live : List Live) (given : List Literal) → AreSelectors log live given → All (λ (a : Live). IsSome (selector_in log.selectors a.assertion)) live
have_selectors log [] given e = All-nil _
have_selectors log (a ∷ live) [] e = let q : ⊥ = cc in absurd q
have_selectors log (a ∷ live) (x ∷ given) e =
    let first : selector_in log.selectors a.assertion ≡ Some x = cc in
    let rest : map (λ (y : Live). selector_in log.selectors y.assertion) live ≡ map Some given = cc in
    All-cons (λ (y : Live). IsSome (selector_in log.selectors y.assertion)) a live (IsSome-from (selector_in log.selectors a.assertion) x first) (have_selectors log live given rest)

-- ---- what is reached

-- a step at a position is among the steps
entry_among : (log : List Entry) (p : ℕ) (e : Entry) → entry_at log p ≡ Some e → Contains log e
entry_among log zero e h = let q : ⊥ = cc in absurd q
entry_among log (suc k) e h = go log k h
  where
    go : (log : List Entry) (k : ℕ) → slice_get log k ≡ Some e → Contains log e
    go [] k h = let q : ⊥ = cc in absurd q
    go (x ∷ log) zero h = let q : x ≡ e = cc in (zero, omega arith, q)
    go (x ∷ log) (suc k) h = let r = go log k h in (suc r.0, omega (arith, r.1), r.2)

-- the selectors of live assertions stand for their terms, which are reached
pub selectors_reached : (s : StateValue) (log : LogValue) (reached : List ℕ) → IsSession s log → All (Contains reached) (roots s) → All (IsOfReached log.entries reached) s.scopes.live
selectors_reached s log reached session among k d lt p t e =
    let a = get_or s.scopes.live k d in
    let for_script = All-contains (IsStepFor s) log.entries (step.Selector a.assertion t) (All-from_recursion (IsStepFor s) log.entries session.each) (entry_among log.entries p (step.Selector a.assertion t) e) in
    subst (Contains reached) (same_found _ a.term t (session.state.scopes.known k d lt) for_script.0) (roots_live (Contains reached) s among k d lt)

-- ---- what was read

-- what was read of a log was read of it where steps led to another state
pub read_led : (s s' : StateValue) (old new : LogValue) (r : ReadSteps) → IsSession s old → LeadsTo s old s' new → IsRead s.terms.nodes old.entries r → IsRead s'.terms.nodes new.entries r
read_led s s' old new r session l h =
    let more = behind_of s s' old new l in
    subst (λ es. IsRead s'.terms.nodes es r) (sym l.entries)
    (subst (λ (ns : List Node). IsRead ns (old.entries ++ l.added) r) (sym more.1)
    (more_keep_read s.terms.nodes more.0 old.entries l.added r session.state.terms (stands_over s.terms.nodes old session.stands).steps h))

-- ---- behind the selectors of a check

module _ (s t : StateValue) (old mid new : LogValue) (session : IsSession s old) (prepares : Prepares s old t mid) (grows : Grows t mid new) where
  pub prepared : Prepares s old t new
  prepared = prepares_more s t old mid new prepares grows

  pub session_prepared : IsSession t new
  session_prepared = session_led s t old new session prepared.leads

  pub encoded_prepared : (live : List ℕ) (more : List Node) → AreDifferent t.terms.nodes → t.terms.nodes ≡ watched s.terms.nodes (roots s) ++ more → IsInOrder t.terms.nodes new.bits → AreLive (watched s.terms.nodes (roots s)) (roots s) live → All (HasBits mid) live
      → IsEncoded s.terms.nodes t.terms.nodes new (roots t) live
  encoded_prepared live more different begins order are bits =
      subst (λ r. IsEncoded s.terms.nodes t.terms.nodes new r live) (sym (roots_led s t old mid prepares.leads))
      (is_encoded s t new live more session_prepared.state.terms different begins (roots_held s session.state) session_prepared.stands order are (live_bits t mid new live prepares.leads.stands grows bits))

  -- the terms of the live assertions and of the assumptions are reached where all that is live is
  pub roots_among : (live reached : List ℕ) → AreLive (watched s.terms.nodes (roots s)) (roots s) live → All (Contains reached) live → All (Contains reached) (roots t)
  roots_among live reached are among = subst (All (Contains reached)) (sym (roots_led s t old mid prepares.leads)) (among_all (Contains reached) live (roots s) among are.own)

-- What the steps before the search and the search come to together.
use Rattle.std.proofs.Common.{◌≡◌, ℕ, suc, ◌<◌, ◌^◌, List, length, length-append, Some, sym, ap, subst, inl, inr, ⊎_elim, arith}
use Rattle.std.specs.Prelude.{All, Contains}
use Rattle.cnf_base.specs.Literals.{negated}
use Rattle.smt_terms.specs.declared.node.Node.{Node}
use Rattle.script_state.specs.States.{StateValue, IsState}
use Rattle.proof_log.specs.declared.entry.Entry.{Entry}
use Rattle.proof_log.specs.Stored.{LogValue}
use Rattle.proof_text.specs.declared.record.Record.{Record}
use Rattle.proof_text.specs.declared.record.Record.TheVariants.{Sat, Unsat, Unknown}
use Rattle.proof_file.proofs.TakenFirst.{taken_before}
use Rattle.accepted_proof.specs.Searching.{Limits, cube_variables, given_literals}
use Rattle.accepted_proof.specs.Turns.{IsShown, with_steps}
use Rattle.accepted_proof.proofs.Following.{same_assumed, same_scopes, shown_back, unknown_in}
use Rattle.accepted_proof.proofs.Good.{states_keep}
use Rattle.smt_session.specs.Growing.{LeadsTo}
use Rattle.smt_session.specs.Planning.{Prepares}
use Rattle.smt_session.specs.Thorough.{IsClosedCube, HasSpent, AreSearched, AreSimplified, AreWanted}
use Rattle.smt_session.specs.Sessions.{IsSession, IsChecked, IsConcluded}
use Rattle.smt_session.proofs.Leading.{prepares_more, state_with}

-- ---- the cubes

module _ (limits : Limits) (s : StateValue) (steps : List Entry) (nodes : List Node) (log : List Entry) where
  same_given : (n : ℕ) → given_literals limits (with_steps s steps) nodes log n ≡ given_literals limits s nodes log n
  same_given n i = given_literals limits (state_with s (same_scopes s steps i) (same_assumed s steps i)) nodes log n

  same_variables : cube_variables limits (with_steps s steps) nodes log ≡ cube_variables limits s nodes log
  same_variables i = cube_variables limits (state_with s (same_scopes s steps i) (same_assumed s steps i)) nodes log

  closed_back : (n : ℕ) → IsClosedCube limits (with_steps s steps) nodes log n → IsClosedCube limits s nodes log n
  closed_back n h = record { at = h.at; clause = h.clause; stands = h.stands; against = subst (λ gs. All (λ l. Contains gs (negated l)) h.clause) (same_given n) h.against }

  spent_back : (n : ℕ) → HasSpent limits (with_steps s steps) nodes log n → HasSpent limits s nodes log n
  spent_back n h = (h.0, h.1, unknown_in (with_steps s steps) s (same_scopes s steps) (same_assumed s steps) nodes log limits h.0 h.2)

  pub searched_back : (r : Record) → AreSearched limits (with_steps s steps) nodes log (Some r) → AreSearched limits s nodes log (Some r)
  searched_back (Sat values) h = tt
  searched_back (Unsat p) h = tt
  searched_back (Unknown d) h = record {
    lower = λ n lt. closed_back n (h.lower n lt);
    later = λ n gt lt.
        ⊎_elim
        (λ (c : IsClosedCube limits (with_steps s steps) nodes log n). inl (closed_back n c))
        (λ (e : HasSpent limits (with_steps s steps) nodes log n). inr (spent_back n e))
        (h.later n gt (subst (λ (xs : List ℕ). n < 2 ^ length xs) (sym same_variables) lt));
  }

-- ---- a check

module _ (limits : Limits) (s t : StateValue) (old mid new : LogValue) (r : Record) (session : IsSession s old) (prepares : Prepares s old t mid) (concluded : IsConcluded limits t mid new r) where
  abbrev whole : Prepares s old t new
  whole = prepares_more s t old mid new prepares concluded.grows

  abbrev leads : LeadsTo s old t new
  leads = whole.leads

  shown : IsShown limits s t.terms.nodes new.entries r
  shown =
      shown_back IsState states_keep limits s old.entries prepares.leads.added t.terms.nodes new.entries r session.state prepares.leads.steps
      (subst (λ x. IsShown limits x t.terms.nodes new.entries r) prepares.leads.state concluded.shown)

  cubes : AreSearched limits s t.terms.nodes new.entries (Some r)
  cubes =
      searched_back limits s prepares.leads.added t.terms.nodes new.entries r
      (subst (λ x. AreSearched limits x t.terms.nodes new.entries (Some r)) prepares.leads.state concluded.cubes)

  pub is_checked : IsChecked limits s t old new r
  is_checked = record {
    leads = leads;
    shown = shown;
    thorough = record {
      terms = subst (λ (x : StateValue). AreWanted s x.terms.nodes leads.added) leads.state whole.wanted;
      simple = subst (λ (x : StateValue). AreSimplified x.terms old.entries leads.added) leads.state whole.simple;
      cubes =
          subst (λ es. AreSearched limits s (with_steps s leads.added).terms.nodes es (Some r)) leads.entries
          (subst (λ (x : StateValue). AreSearched limits s x.terms.nodes new.entries (Some r)) leads.state cubes);
    };
    taken = taken_before (suc (length old.entries)) (suc (length mid.entries)) new.entries r (omega (arith, ap length prepares.leads.entries, length-append old.entries prepares.leads.added)) concluded.taken;
  }

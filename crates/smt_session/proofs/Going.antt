-- A session goes on over the terms and the assertions that a command leaves.
use Rattle.std.proofs.Common.{◌≡◌, ℕ, List, [], ◌∷◌, sym, subst, Some}
use Rattle.std.specs.Prelude.{slice_get}
use Rattle.smt_terms.specs.declared.sort.Signature.{Signature}
use Rattle.script_state.specs.Readings.{Reading}
use Rattle.script_state.specs.declared.answer.Answer.{Answer}
use Rattle.script_state.specs.States.{StateValue, IsState}
use Rattle.script_state.specs.Steps.{Step, step}
use Rattle.script_state.proofs.Keeping.{GoesOn, step_goes_on}
use Rattle.proof_log.specs.declared.entry.Entry.{Entry}
use Rattle.proof_log.specs.declared.entry.Entry.TheVariants as entry
use Rattle.proof_log.specs.Stored.{LogValue, Stands}
use Rattle.proof_log.proofs.Standing.{stands_longer}
use Rattle.accepted_proof.specs.Turns.{IsOfScript}
use Rattle.smt_session.specs.Growing.{AreStepsFor}
use Rattle.smt_session.specs.Sessions.{IsSession}

more_for : (old new : StateValue) → ((d : ℕ) (g : Signature) → slice_get old.symbols.signatures d ≡ Some g → slice_get new.symbols.signatures d ≡ Some g) → ((a t : ℕ) → slice_get old.scopes.terms a ≡ Some t → slice_get new.scopes.terms a ≡ Some t) → (e : Entry) → IsOfScript old e → IsOfScript new e
more_for old new known more (entry.Node n) i = record { each = λ d e. known d _ (i.each d e) }
more_for old new known more (entry.Selector a t) i = more a t i
more_for old new known more e i = tt

-- steps for a script are for one with more assertions
pub more_steps : (old new : StateValue) (es : List Entry) → ((d : ℕ) (g : Signature) → slice_get old.symbols.signatures d ≡ Some g → slice_get new.symbols.signatures d ≡ Some g) → ((a t : ℕ) → slice_get old.scopes.terms a ≡ Some t → slice_get new.scopes.terms a ≡ Some t) → AreStepsFor old es → AreStepsFor new es
more_steps old new [] known more h = tt
more_steps old new (e ∷ es) known more h = ((more_for old new known more e h.0.0, h.0.1), more_steps old new es known more h.1)

pub goes_on : (old new : StateValue) (a : Answer) (es : Reading) → IsState old → ◌≡◌ {A = Step} (step old es) (a, new) → GoesOn old new
goes_on old new a es is e = subst (λ (to : Step). GoesOn old to.1) e (step_goes_on old is es)

-- what is a session before a command is one behind it
pub still_session : (old new : StateValue) (log : LogValue) (a : Answer) (es : Reading) → IsSession old log → ◌≡◌ {A = Step} (step old es) (a, new) → IsSession new log
still_session old new log a es h e =
    let g = goes_on old new a es h.state e in
    record {
      state = g.state;
      stands = subst (λ ns. Stands ns log) (sym g.keeps.nodes) (stands_longer old.terms.nodes g.keeps.behind log h.stands);
      each = more_steps old new log.entries g.keeps.signatures g.keeps.assertions h.each;
    }

-- What diaries hold at their start, over a log that grew by a step.
use Rattle.std.specs.Prelude.{◌&&◌, ◌||◌, ltb, not}
use Rattle.std.proofs.Common.{◌≡◌, ◌≤◌, ℕ, suc, take, ◌++◌, ◌∷◌, [], List, length, Result, Ok, Err, IfOk, MatchBool, Bool, true, false, refl, sym, ap, ◌∙◌, subst}
use Rattle.cnf_base.specs.Literals.{Literal}
use Rattle.smt_terms.specs.declared.node.Node.{Node}
use Rattle.script_state.specs.States.{StateValue}
use Rattle.proof_log.specs.declared.entry.Entry.{Entry}
use Rattle.proof_log.specs.Logs.{LogState, entry_at, start, state_of, state_from}
use Rattle.proof_log.specs.Faults.{terms_after}
use Rattle.faded_log.specs.Faded.{FadedValue, IsHeld, IsFaded}
use Rattle.faded_log.proofs.Fading.{faded_kind, faded_length, faded_clause}
use Rattle.faded_log.proofs.Holding.{held_longer}
use Rattle.faded_log.proofs.Weaving.{held_clauses}
use Rattle.proof_log.specs.Diaries.{is_chain}
use Rattle.proof_text.specs.Deletions.{is_deleted}
use Rattle.diary_checker.specs.Tables.{bit_in}
use Rattle.proof_log.proofs.Growth.{positions, steps_rows}
use Rattle.proof_log.proofs.Staying.{state_from-append}
use Rattle.accepted_proof.proofs.Reaching.{terms_longer}
use Rattle.diary_checker.specs.Starts.{StartValue, IsStart}
use Rattle.diary_checker.proofs.Starting.{start_longer, start_deleted}
use Rattle.proof_checker.specs.Checkers.{IsTaken}

-- a step more keeps it
pub start_taken : (old new : StateValue) (log longer : FadedValue) (e : Entry) (deleted : List ℕ) (s : StartValue) → IsHeld old.terms.nodes log → IsTaken old log e new longer → IsStart deleted log s → IsStart deleted longer s
start_taken old new log longer e deleted s held taken h = start_longer deleted log longer (e ∷ []) rows.0 s taken.entries clauses places h
  where
    nodes : List Node
    nodes = new.terms.nodes

    more : (ns : List Node) × ((terms_after old.terms e).nodes ≡ old.terms.nodes ++ ns)
    more = terms_longer old.terms e

    wider : nodes ≡ old.terms.nodes ++ more.0
    wider = ap (λ (x : StateValue). x.terms.nodes) taken.state ∙ more.1

    over : IsHeld nodes log
    over = subst (λ ns. IsHeld ns log) (sym wider) (held_longer old.terms.nodes more.0 log held)

    before : log.clauses ≡ (state_of nodes log.entries).clauses
    before = held_clauses nodes log over

    rows : (rest : List (List (List Literal))) × ((state_from nodes (state_of nodes log.entries) (e ∷ [])).clauses ≡ (state_of nodes log.entries).clauses ++ rest)
    rows = steps_rows nodes (state_of nodes log.entries) (e ∷ [])

    places : length log.clauses ≡ suc (length log.entries)
    places = ap length before ∙ positions nodes log.entries

    clauses : longer.clauses ≡ log.clauses ++ rows.0
    clauses =
        held_clauses nodes longer taken.held
        ∙ (ap (λ l. (state_of nodes l).clauses) taken.entries
        ∙ (ap (λ (x : LogState). x.clauses) (state_from-append nodes start log.entries (e ∷ [])) ∙ (rows.1 ∙ ap (λ rs. rs ++ rows.0) (sym before))))

-- chains that are forgotten keep it, since none is held at a start
pub start_faded : (gone : ℕ → Bool) (deleted : List ℕ) (log faded : FadedValue) (s : StartValue) → IsFaded gone log faded → IsStart deleted log s → IsStart deleted faded s
start_faded gone deleted log faded s f h = record {
  within = subst (λ n. s.from ≤ suc n) (sym (faded_length gone log faded f)) h.within;
  known = h.known;
  held = λ p. h.held p ∙ ap (λ b. ltb p s.from && not (is_deleted (take s.known deleted) p || b)) (sym (faded_kind gone log faded f p));
  filed = λ id c held is. h.filed id c held (sym (faded_clause gone log faded f id (plain id.pos held)) ∙ is);
}
  where
    no_chain : (l d b : Bool) → (l && not (d || b)) ≡ true → b ≡ false
    no_chain true true b k = let z : ⊥ = cc in absurd z
    no_chain true false true k = let z : ⊥ = cc in absurd z
    no_chain true false false k = refl
    no_chain false d b k = let z : ⊥ = cc in absurd z

    plain : (p : ℕ) → bit_in s.held p ≡ true → is_chain (entry_at log.entries p) ≡ false
    plain p k = no_chain (ltb p s.from) (is_deleted (take s.known deleted) p) (is_chain (entry_at log.entries p)) (sym (h.held p) ∙ k)

-- places that were deleted where each could be keep it
pub start_left : (A : Type 0) (deleted now places : List ℕ) (log : FadedValue) (s : StartValue) (done : Bool) → MatchBool done (A × (now ≡ deleted ++ places)) ((A → ⊥) × (now ≡ deleted)) → IsStart deleted log s → IsStart now log s
start_left A deleted now places log s true told h = subst (λ ds. IsStart ds log s) (sym told.1) (start_deleted deleted places log s h)
start_left A deleted now places log s false told h = subst (λ ds. IsStart ds log s) (sym told.1) h

-- what follows of what a call gave
pub if_ok : {E X : Type 0} (P Q : X → Type 0) (r : Result X E) → ((x : X) → P x → Q x) → IfOk r P → IfOk r Q
if_ok P Q (Ok x) f h = f x h
if_ok P Q (Err e) f h = tt

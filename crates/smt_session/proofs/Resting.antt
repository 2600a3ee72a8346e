-- The searches that are kept rest beside the log, also where steps are added.
use Rattle.std.proofs.Common.{◌≡◌, ℕ, zero, suc, ◌<◌, List, [], ◌∷◌, ◌++◌, length, get_or, Some, sym, ap, ◌∙◌, subst}
use Rattle.std.specs.Prelude.{slice_get, slice_set}
use Rattle.std.proofs.lemmas.Option.{slice_get-get_or}
use Rattle.cnf_base.specs.Literals.{Literal}
use Rattle.smt_terms.specs.declared.node.Node.{Node}
use Rattle.script_state.specs.States.{StateValue}
use Rattle.proof_log.specs.declared.entry.Entry.{Entry}
use Rattle.proof_log.specs.LemmaBoards.{Adds}
use Rattle.proof_log.specs.Logs.{start, state_of}
use Rattle.proof_log.specs.Stored.{LogValue, Stands}
use Rattle.proof_log.proofs.Growth.{positions, steps_rows}
use Rattle.proof_log.proofs.Standing.{stands_longer}
use Rattle.proof_log.proofs.Staying.{state_from-append}
use Rattle.cube_search.specs.declared.search.Search.{Search}
use Rattle.cube_search.specs.Running.{IsResting, valuation_of}
use Rattle.cube_search.proofs.Resting.{rests_longer}
use Rattle.cube_workers.specs.declared.kept.KeptSearch.{KeptSearch}
use Rattle.cube_workers.specs.Searched.{RestsBeside}
use Rattle.cube_workers.specs.Crews.{AreAtRest, values_in, values_of}
use Rattle.cube_workers.proofs.Resting.{rests_by_steps, rests_stored}
use Rattle.smt_session.specs.Growing.{LeadsTo}
use Rattle.smt_session.proofs.Leading.{behind_of}

-- the rows of a longer log are those of the log, and more
longer_rows : (nodes : List Node) (log more : List Entry) → (rest : List (List (List Literal))) × ((state_of nodes (log ++ more)).clauses ≡ (state_of nodes log).clauses ++ rest)
longer_rows nodes log more =
    let k = steps_rows nodes (state_of nodes log) more in
    (k.0, ap (λ s. s.clauses) (state_from-append nodes start log more) ∙ k.1)

rests_more : (nodes : List Node) (old new : LogValue) (x : Search) (more : List Entry) → Stands nodes old → Stands nodes new → new.entries ≡ old.entries ++ more → RestsBeside old x → RestsBeside new x
rests_more nodes old new x more before after is h =
    let rows = longer_rows nodes old.entries more in
    rests_stored nodes new x after
    (subst (λ log. IsResting x (state_of nodes log).clauses log) (sym is)
    (subst (λ cs. IsResting x cs (old.entries ++ more)) (sym rows.1)
    (rests_longer x (state_of nodes old.entries).clauses rows.0 old.entries more (positions nodes old.entries) (rests_by_steps nodes old x before h))))

-- where the steps of a check lead to another state
rests_led : (s s' : StateValue) (old new : LogValue) (x : Search) → Stands s.terms.nodes old → LeadsTo s old s' new → RestsBeside old x → RestsBeside new x
rests_led s s' old new x stands l h =
    let more = behind_of s s' old new l in
    rests_more s'.terms.nodes old new x l.added (subst (λ ns. Stands ns old) (sym more.1) (stands_longer s.terms.nodes more.0 old stands)) l.stands l.entries h

-- all of them
pub all_led : (s s' : StateValue) (old new : LogValue) (xs : List KeptSearch) → Stands s.terms.nodes old → LeadsTo s old s' new → AreAtRest old xs → AreAtRest new xs
all_led s s' old new xs stands l h i k e = rests_led s s' old new k.search stands l (h i k e)

-- ---- where a search added steps

-- what holds of each item holds of each where one was set of which it holds too
each_set : {A : Type 0} (P : A → Type 0) (xs : List A) (i : ℕ) (x : A) → ((k : ℕ) (y : A) → slice_get xs k ≡ Some y → P y) → P x → (k : ℕ) (y : A) → slice_get (slice_set xs i x) k ≡ Some y → P y
each_set P [] i x h here k y e = let f : ⊥ = cc in absurd f
each_set P (z ∷ xs) zero x h here zero y e = let q : x ≡ y = cc in subst P q here
each_set P (z ∷ xs) zero x h here (suc k) y e = h (suc k) y e
each_set P (z ∷ xs) (suc i) x h here zero y e = h zero y e
each_set P (z ∷ xs) (suc i) x h here (suc k) y e = each_set P xs i x (λ n w q. h (suc n) w q) here k y e

-- of all searches one searched, which rests then
pub all_added : (nodes : List Node) (old new : LogValue) (xs : List KeptSearch) (i : ℕ) (x : KeptSearch) → Stands nodes old → Stands nodes new → Adds old.entries new.entries → AreAtRest old xs → RestsBeside new x.search → AreAtRest new (slice_set xs i x)
all_added nodes old new xs i x before after g h here =
    each_set (λ (k : KeptSearch). RestsBeside new k.search) xs i x (λ n k e. rests_more nodes old new k.search g.more before after g.is (h n k e)) here

-- the values that the search at a place has
pub values_there : (xs : List KeptSearch) (i : ℕ) (d : KeptSearch) → i < length xs → values_in xs i ≡ valuation_of (get_or xs i d).search
values_there xs i d lt = ap values_of (slice_get-get_or xs i d lt)

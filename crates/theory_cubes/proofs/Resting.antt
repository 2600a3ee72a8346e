-- The search that is kept rests beside the log, also where steps are added.
use Rattle.std.proofs.Common.{◌≡◌, ℕ, suc, List, [], ◌∷◌, ◌++◌, length, sym, ap, ◌∙◌, subst, arith}
use Rattle.std.specs.List.{AllByRecursion}
use Rattle.cnf_base.specs.Literals.{Literal}
use Rattle.smt_terms.specs.declared.node.Node.{Node}
use Rattle.proof_log.specs.declared.entry.Entry.{Entry}
use Rattle.proof_log.specs.Logs.{start, state_of}
use Rattle.proof_log.specs.LemmaBoards.{Adds}
use Rattle.proof_log.specs.Boards.{IsAdded, IsOfSearch, Grows}
use Rattle.proof_log.specs.Stored.{LogValue, Stands}
use Rattle.proof_log.proofs.Adding.{adds_then}
use Rattle.proof_log.proofs.Growth.{chain_is_added, clause_place, positions, steps_rows}
use Rattle.proof_log.proofs.Standing.{stands_over}
use Rattle.proof_log.proofs.Staying.{state_from-append}
use Rattle.cdcl_core.specs.Search.{clause_of}
use Rattle.cube_search.specs.declared.search.Search.{Search}
use Rattle.cube_search.specs.Holding.{AreStoredBelow}
use Rattle.cube_search.specs.Running.{IsResting, IsSearch}
use Rattle.cube_search.proofs.Resting.{rests_longer, search_rests}
use Rattle.theory_cubes.specs.Searched.{RestsBeside}

-- the rows that are stored are those that the steps leave
pub rests_by_steps : (nodes : List Node) (log : LogValue) (x : Search) → Stands nodes log → RestsBeside log x → IsResting x (state_of nodes log.entries).clauses log.entries
rests_by_steps nodes log x stands h = subst (λ rows. IsResting x rows log.entries) (stands_over nodes log stands).clauses h

pub rests_stored : (nodes : List Node) (log : LogValue) (x : Search) → Stands nodes log → IsResting x (state_of nodes log.entries).clauses log.entries → RestsBeside log x
rests_stored nodes log x stands h = subst (λ rows. IsResting x rows log.entries) (sym (stands_over nodes log stands).clauses) h

-- the rows of a longer log are those of the log, and more
longer_rows : (nodes : List Node) (log more : List Entry) → (rest : List (List (List Literal))) × ((state_of nodes (log ++ more)).clauses ≡ (state_of nodes log).clauses ++ rest)
longer_rows nodes log more =
    let k = steps_rows nodes (state_of nodes log) more in
    (k.0, ap (λ s. s.clauses) (state_from-append nodes start log more) ∙ k.1)

-- over a log that grew
rests_grown : (nodes : List Node) (log log' : List Entry) (x : Search) → Grows log log' → IsResting x (state_of nodes log).clauses log → IsResting x (state_of nodes log').clauses log'
rests_grown nodes log log' x g h =
    let rows = longer_rows nodes log g.more in
    subst (λ l. IsResting x (state_of nodes l).clauses l) (sym g.is)
    (subst (λ cs. IsResting x cs (log ++ g.more)) (sym rows.1)
    (rests_longer x (state_of nodes log).clauses rows.0 log g.more (positions nodes log) h))

-- where chains were added
pub rests_prolonged : (nodes : List Node) (old new : LogValue) (x : Search) → Stands nodes old → Stands nodes new → Grows old.entries new.entries → RestsBeside old x → RestsBeside new x
rests_prolonged nodes old new x before after g h = rests_stored nodes new x after (rests_grown nodes old.entries new.entries x g (rests_by_steps nodes old x before h))

-- what is kept are clauses of positions that there are
pub stored_below : (nodes : List Node) (log : List Entry) (x : Search) (from : ℕ) → from ≡ suc (length log) → IsResting x (state_of nodes log).clauses log → AreStoredBelow (clause_of x.engine.watches) log from
stored_below nodes log x from e h = λ id c held kind. let k = clause_place nodes log id c (h.sound id c held) in omega (arith, k, e)

-- after the last search
pub search_left : (nodes : List Node) (log : LogValue) (x : Search) → Stands nodes log → IsSearch x nodes log.entries → RestsBeside log x
search_left nodes log x stands h = rests_stored nodes log x stands (search_rests x nodes log.entries h)

-- over the log that a board gave back
pub left_back : (nodes : List Node) (own back : LogValue) (x : Search) → back ≡ own → Stands nodes back → IsSearch x nodes own.entries → RestsBeside back x
left_back nodes own back x e stands h = search_left nodes back x stands (subst (λ (l : LogValue). IsSearch x nodes l.entries) (sym e) h)

-- ---- steps that were added

all_added : (xs : List Entry) → AllByRecursion IsOfSearch xs → AllByRecursion IsAdded xs
all_added [] h = tt
all_added (x ∷ xs) h = (chain_is_added x h.0, all_added xs h.1)

pub adds_chains : (log log' : List Entry) → Grows log log' → Adds log log'
adds_chains log log' g = record { more = g.more; is = g.is; added = all_added g.more g.of_search }

-- to the log that a board was made of, over the one that it gave back
pub adds_back : (old own mid back : LogValue) → own ≡ old → back ≡ mid → Adds own.entries mid.entries → Adds old.entries back.entries
adds_back old own mid back e f h = subst (λ (l : LogValue). Adds l.entries back.entries) e (subst (λ (l : LogValue). Adds own.entries l.entries) (sym f) h)

pub adds_joined : (old own mid back new : LogValue) → own ≡ old → back ≡ mid → Adds own.entries mid.entries → Grows back.entries new.entries → Adds old.entries new.entries
adds_joined old own mid back new e f h g = adds_then old.entries back.entries new.entries (adds_back old own mid back e f h) (adds_chains back.entries new.entries g)

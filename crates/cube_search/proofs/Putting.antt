-- A learnt clause is a good put of a diary that is kept.
use Rattle.std.proofs.Common.{◌≡◌, ℕ, List, map, Some, subst, ⊎_elim}
use Rattle.std.specs.Prelude.{Contains}
use Rattle.cnf_base.specs.Literals.{Literal, negated}
use Rattle.cnf_base.specs.declared.clause.ClauseId.{ClauseId}
use Rattle.cnf_base.proofs.Options.{some_value}
use Rattle.proof_log.specs.Diaries.{Subject, look_of}
use Rattle.proof_log.specs.Diaries as diary
use Rattle.cdcl_core.specs.declared.watches.Watches.{Watches}
use Rattle.cdcl_core.specs.Levels.{Row, IsTrueBy}
use Rattle.cdcl_core.specs.Search.{clause_of, held_of}
use Rattle.cdcl_learn.specs.Puts as learnt
use Rattle.cube_search.specs.Holding.{AreAmong}
use Rattle.cube_search.specs.Keeping.{IsKept, state_in}
use Rattle.cube_search.specs.declared.keeper.Keeper.{Keeper}
use Rattle.cube_search.proofs.Keeping.{each_used}

pub good_put : (g : Subject) (w : Watches) (variables : List ℕ) (given : List Literal) (k : Keeper) (seen : ℕ) (rows : List Row) (level : ℕ) (clause : List Literal) (hints : List ClauseId)
    → IsKept g w variables k seen
    → ((id : ClauseId) (c : List Literal) → clause_of w id ≡ Some c → look_of g id ≡ Some c)
    → ((l : Literal) → Contains given l → IsTrueBy rows level l)
    → g.given ≡ given
    → AreAmong variables clause
    → learnt.IsGoodPut (clause_of w) (held_of w) rows level clause hints
    → diary.IsGoodPut g (state_in g k).held clause hints
good_put g w variables given k seen rows level clause hints h sound true_given same among good = record {
  no_pair = good.no_pair;
  from_held = λ id c. let s = some_value (clause_of w id) (good.kept id c) in h.held id s.0 s.1;
  from_hints = λ l c. let s = good.stands l c in (s.0, s.1.0, s.1.1.0, sound s.0 s.1.0 s.1.1.1.0, s.1.1.1.1);
  used = each_used (clause_of w) (look_of g) sound (map negated clause) hints good.uses;
  is_new = λ id c held e less. ⊎_elim
      (λ x. good.is_new id c x less)
      (λ x. x.2 (among x.0 (less x.0 x.1)))
      (h.complete id c held e);
  not_given = λ l c d. good.not_true l c (true_given l (subst (λ (ls : List Literal). Contains ls l) same d));
}

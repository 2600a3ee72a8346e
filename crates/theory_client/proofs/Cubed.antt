-- A search of cubes over all positions of a log.
use Rattle.std.proofs.Common.{◌≡◌, ℕ, suc, ◌<◌, List, length, take, sym, subst, inl, arith}
use Rattle.std.specs.Prelude.{All, Contains}
use Rattle.std.proofs.lemmas.List.Elements.{All-take}
use Rattle.cnf_base.specs.Literals.{Literal}
use Rattle.cnf_base.specs.Assignments.{AreBelow}
use Rattle.smt_terms.specs.declared.node.Node.{Node}
use Rattle.proof_log.specs.declared.entry.Entry.{Entry}
use Rattle.proof_log.specs.Logs.{state_of}
use Rattle.proof_log.specs.Stored.{LogValue, Stands}
use Rattle.proof_log.proofs.Growth.{clause_place}
use Rattle.proof_log.proofs.Standing.{stands_over}
use Rattle.theory_search.specs.Theories.{AreEnough}
use Rattle.theory_cubes.specs.Searched.{Problem, IsProblem, AreApart}
use Rattle.theory_client.specs.Posed.{IsPosed}

-- the first two of some variables that there are
first_two : (variables : List ℕ) (n m : ℕ) → n ≡ m → All (λ x. x < n) variables → All (λ x. x < m) (take 2 variables)
first_two variables n m e h = All-take (λ x. x < m) 2 variables (subst (λ (k : ℕ). All (λ x. x < k) variables) e h)

-- behind the log, over two variables
pub problem_posed : (p : Problem) (log : LogValue) (roots variables positions : List ℕ) (given : List Literal) → Stands p.nodes log → IsPosed p.nodes log.entries roots positions given
    → p.from ≡ suc (length log.entries) → p.positions ≡ positions → p.assumed ≡ given → p.variables ≡ take 2 variables → All (λ x. x < log.next) variables → IsProblem p log.entries
problem_posed p log roots variables positions given stands posed from held same split lower = record {
  positions = λ at k. let lt = posed.positions_are.below at (subst (λ (ps : List ℕ). Contains ps at) held k) in omega (arith, lt, from);
  from = omega (arith, from);
  plain = λ at k. posed.positions_are.plain at (subst (λ (ps : List ℕ). Contains ps at) held k);
  variables = subst (All (λ x. x < (state_of p.nodes log.entries).next)) (sym split) (first_two variables _ _ (stands_over p.nodes log stands).next lower);
  assumed = subst (λ (ls : List Literal). AreBelow (state_of p.nodes log.entries).next ls) (sym same) posed.below;
}

pub enough_posed : (nodes : List Node) (log : List Entry) (roots positions own : List ℕ) (given : List Literal) → own ≡ positions → IsPosed nodes log roots positions given → AreEnough nodes log roots own
enough_posed nodes log roots positions own given same posed = subst (λ (ps : List ℕ). AreEnough nodes log roots ps) (sym same) posed.enough

-- each clause is of one of the positions
pub posed_apart : (nodes : List Node) (log : List Entry) (roots positions own : List ℕ) (given : List Literal) → own ≡ positions → IsPosed nodes log roots positions given → AreApart nodes log roots own
posed_apart nodes log roots positions own given same posed = λ id c plain e.
    let le = clause_place nodes log id c e in
    inl (subst (λ (ps : List ℕ). Contains ps id.pos) (sym same) (posed.positions_are.all id.pos (omega (arith, le))))

-- Lists of clauses, by their names, where more stand after them.
use Rattle.std.proofs.Common.{◌≡◌, ℕ, ◌<◌, List, ◌++◌, length, Option, Some, None, refl, ap, ◌∙◌}
use Rattle.std.specs.Prelude.{slice_get, Contains}
use Rattle.std.specs.List.{AllByRecursion}
use Rattle.std.proofs.lemmas.Option.{slice_get_within}
use Rattle.cnf_base.specs.Literals.{Literal}
use Rattle.cnf_base.specs.declared.clause.ClauseId.{ClauseId}
use Rattle.cnf_base.specs.Assignments.{AreBelow}
use Rattle.cnf_base.proofs.Lists.{each_slice_get, slice_get-longer, each_member}
use Rattle.hint_chain.specs.Chains.{FindsMore}
use Rattle.proof_log.specs.Logs.{clause_in, clause_at}

-- ---- literals below a number

pub below_member : (n : ℕ) (c : List Literal) (l : Literal) → AreBelow n c → Contains c l → l.variable < n
below_member n c l h m = each_member (λ (k : Literal). k.variable < n) c l h m

-- ---- clauses by name

-- the clauses of a position, where the name's clause is found
pub clause_row : (rows : List (List (List Literal))) (id : ClauseId) (c : List Literal) → clause_at rows id ≡ Some c → (row : List (List Literal)) × (slice_get rows id.pos ≡ Some row) × (slice_get row id.part ≡ Some c)
clause_row rows id c e = go (slice_get rows id.pos) refl e
  where
    go : (o : Option (List (List Literal))) → slice_get rows id.pos ≡ o → clause_in o id.part ≡ Some c → (row : List (List Literal)) × (slice_get rows id.pos ≡ Some row) × (slice_get row id.part ≡ Some c)
    go None h e = let f : ⊥ = cc in absurd f
    go (Some row) h e = (row, h, e)

pub clause_more : (rows more : List (List (List Literal))) → FindsMore (clause_at rows) (clause_at (rows ++ more))
clause_more rows more id c e =
    let r = clause_row rows id c e in
    ap (λ o. clause_in o id.part) (slice_get-longer rows more id.pos r.0 r.1) ∙ r.2

pub clause_within : (rows : List (List (List Literal))) (id : ClauseId) (c : List Literal) → clause_at rows id ≡ Some c → id.pos < length rows
clause_within rows id c e = let r = clause_row rows id c e in slice_get_within rows id.pos r.0 r.1

-- what holds of each clause holds of that of a name
pub clause_each : (P : List Literal → Type 0) (rows : List (List (List Literal))) (id : ClauseId) (c : List Literal) → AllByRecursion (AllByRecursion P) rows → clause_at rows id ≡ Some c → P c
clause_each P rows id c h e =
    let r = clause_row rows id c e in
    each_slice_get P r.0 id.part c (each_slice_get (AllByRecursion P) rows id.pos r.0 h r.1) r.2

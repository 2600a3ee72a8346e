-- Accesses that are closed.
use Rattle.std.specs.Prelude.{ℕ, Bool, List, Contains}
use Rattle.smt_terms.specs.declared.node.Node.{Node}
use Rattle.smt_terms.specs.Bits.{TermBits, image_in}
use Rattle.theory_terms.specs.declared.atom.Landing.{Landing}
use Rattle.access_tables.specs.Tables.{IsClosedTable}
use Rattle.access_tables.specs.Held.{IsAccess, assigned_value}
use Rattle.access_walk.specs.Networks.{AreApart, AreCongruent}

-- The accesses are of arrays among these terms. Where applications are congruent, and arrays that are said to differ have
-- different words at their witness, they are a closed table.
pub record AreClosedRows (nodes : List Node) (bits : List TermBits) (f : ℕ → Bool) (terms : List ℕ) (rows : List Landing) : Type 0 where
  pub accesses : (r : Landing) → Contains rows r → IsAccess nodes bits terms r
  pub closed : AreCongruent nodes (image_in bits) (Contains terms) (assigned_value nodes bits f) → AreApart nodes (image_in bits) (Contains terms) (assigned_value nodes bits f)
      → IsClosedTable nodes (image_in bits) (Contains terms) (assigned_value nodes bits f) rows

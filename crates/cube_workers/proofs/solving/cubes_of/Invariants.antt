use Rattle.std.specs.Prelude.{◌≡◌, ◌<◌, ℕ, List, length, slice_index_or}
use Rattle.cnf_base.specs.Literals.{Literal}
use Rattle.cube_tree.specs.Cubes.{cube_of}
use Rattle.cube_workers.proofs.solving.cubes_of.Given as goal

abbrev pub invariant-cubes : goal.invariant-cubes
invariant-cubes l = record {
  count : length l.cubes.items ≡ l.cube;
  each : (n : ℕ) (d : List Literal) → n < length l.cubes.items → slice_index_or l.cubes.items n d ≡ cube_of l.tree n;
}

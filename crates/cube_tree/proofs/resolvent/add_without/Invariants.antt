use Rattle.std.specs.Prelude.{◌≡◌, ◌≢◌, ◌⊎◌, Contains}
use Rattle.std.specs.List.{AllWithin}
use Rattle.cnf_base.specs.Literals.{Literal}
use Rattle.cube_tree.proofs.resolvent.add_without.Given as goal

abbrev pub invariant-loop-literal : goal.invariant-loop-literal
invariant-loop-literal l = record {
  kept : (k : Literal) → Contains l.fn.into.items k → Contains l.into.items k;
  has : AllWithin (λ k. (k ≡ l.skip) ⊎ Contains l.into.items k) l.from 0 l.literal-index;
  only : (k : Literal) → Contains l.into.items k → Contains l.fn.into.items k ⊎ (Contains l.from k × (k ≢ l.skip));
}

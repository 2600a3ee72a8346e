use Rattle.std.proofs.Common.{◌≡◌, ℕ, List, sym, subst}
use Rattle.std.specs.Prelude.{◌==◌, ◌↔◌, Contains, IsPermutation}
use Rattle.std.specs.List.{dedup}
use Rattle.std.proofs.lemmas.List.Kept.{Contains-dedup_nat, Contains-from_dedup}
use Rattle.std.proofs.lemmas.List.Sorted.{Contains-permutation, IsPermutation-sym}
use Rattle.std.proofs.lemmas.List.Filters.{dedup_is}
use Rattle.access_walk.proofs.filling.leave_once.Goals as goal

once_same : (old sorted left : List ℕ) → IsPermutation old sorted → left ≡ dedup (λ (a b : ℕ). a == b) sorted → (x : ℕ) → Contains left x ↔ Contains old x
once_same old sorted left moved is x = (
  (λ c. Contains-permutation sorted old x (IsPermutation-sym old sorted moved) (Contains-from_dedup (λ (a b : ℕ). a == b) sorted x (subst (λ l. Contains l x) is c))),
  (λ c. subst (λ l. Contains l x) (sym is) (Contains-dedup_nat sorted x (Contains-permutation old sorted x moved c))),
)

pub returns : goal.returns
returns c = once_same c.args.indexes.now.items c.sort_unstable.new.self.items c.dedup.new.self.items c.sort_unstable.ensures.permutation (dedup_is (λ (a b : ℕ). a == b) c.sort_unstable.new.self.items c.dedup.new.self.items c.dedup.ensures.filtered)

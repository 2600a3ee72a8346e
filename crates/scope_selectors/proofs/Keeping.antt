-- What closing levels keeps.
use Rattle.std.proofs.Common.{◌≡◌, ℕ, ◌<◌, ◌≤◌, true, List, arith, leb-true}
use Rattle.std.specs.Prelude.{nat_le, slice_get, Some}
use Rattle.std.proofs.lemmas.List.Elements.{All-weaker, All-filter, filter_passes}
use Rattle.std.proofs.lemmas.List.Kept.{AllPairs-filter, IsNonDecreasingBy-filter}
use Rattle.scope_selectors.specs.declared.live.Live.{Live}
use Rattle.scope_selectors.specs.Scopes.{AreScopes, made_within}

-- what was made within fewer levels stands with these levels
pub fewer_levels : (levels left made : ℕ) (terms : List ℕ) (live rest : List Live) → AreScopes (record { levels = levels; live = live; made = made; terms = terms }) → left ≤ levels → rest ≡ made_within left live → AreScopes (record { levels = left; live = rest; made = made; terms = terms })
fewer_levels levels left made terms live rest are le is = rw is (record {
  numbered = AllPairs-filter (λ (a b : Live). a.assertion < b.assertion) (λ (a : Live). nat_le a.level left) live are.numbered;
  made = All-filter (λ (a : Live). nat_le a.level left) (λ (a : Live). a.assertion < made) live are.made;
  counted = are.counted;
  known = All-filter (λ (a : Live). nat_le a.level left) (λ (a : Live). slice_get terms a.assertion ≡ Some a.term) live are.known;
  leveled = IsNonDecreasingBy-filter (λ (a : Live). a.level) (λ (a : Live). nat_le a.level left) live are.leveled;
  standing = All-weaker (λ (a : Live). nat_le a.level left ≡ true) (λ (a : Live). a.level ≤ left) (λ a h. leb-true _ _ h) (made_within left live) (filter_passes (λ (a : Live). nat_le a.level left) live);
  within = omega (arith, are.within);
})

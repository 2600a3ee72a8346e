-- Which literals a clause has, by their codes.
use Rattle.std.specs.Prelude.{◌≡◌, ◌==◌, ℕ, List}
use Rattle.std.specs.List.{list_any}
use Rattle.std.specs.Ordering.{nat_cmp}
use Rattle.std.specs.BTreeSet.{BTreeSet, contains}
use Rattle.cnf_base.specs.Literals.{Literal, code_of}

-- these are the codes of the clause's literals
abbrev pub AreCodes : BTreeSet ℕ → List Literal → Type 0
AreCodes codes clause = (q : ℕ) → contains nat_cmp codes q ≡ list_any (λ k. code_of k == q) clause

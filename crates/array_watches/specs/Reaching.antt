-- The terms that some terms reach through arguments, in rising order.
use Rattle.std.specs.Prelude.{ℕ, zero, suc, ◌==◌, Bool, List, [], ◌∷◌, ◌++◌, length, if◌then◌else◌}
use Rattle.std.specs.Set.{is_member}
use Rattle.smt_terms.specs.declared.node.Node.{Node}
use Rattle.term_reach.specs.Reach.{arguments}

-- a number is one of these
abbrev pub is_among : List ℕ → ℕ → Bool
is_among = is_member (λ x y. x == y)

-- Of the terms below a number those that these terms reach, the lowest first: each of these, and with each its arguments.
unfoldable pub reached_below : List Node → ℕ → List ℕ → List ℕ
reached_below nodes zero from = []
reached_below nodes (suc t) from =
    if is_among from t then reached_below nodes t (arguments nodes t ++ from) ++ t ∷ [] else reached_below nodes t from

-- all that these terms reach
abbrev pub reached : List Node → List ℕ → List ℕ
reached nodes roots = reached_below nodes (length nodes) roots

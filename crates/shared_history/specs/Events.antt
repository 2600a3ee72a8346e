-- Events of one pass, and beginnings of a history.
use Rattle.std.specs.Prelude.{◌≡◌, ℕ, ◌==◌, List, ◌∷◌, ◌++◌, map}
use Rattle.std.specs.List.{filter}

-- the events of a pass, in their order
abbrev pub of_pass : {E : Type 0} → (E → ℕ) → ℕ → List E → List E
of_pass by n events = filter (λ e. by e == n) events

-- the history begins with these events
abbrev pub StartsWith : {E : Type 0} → List E → List E → Type 0
StartsWith {E} log seen = (rest : List E) × (log ≡ seen ++ rest)

-- the number of a pass, and those of the passes merged into it
abbrev pub numbers : {E : Type 0} → ℕ → List (ℕ × List E) → List ℕ
numbers n ended = n ∷ map (λ p. p.0) ended

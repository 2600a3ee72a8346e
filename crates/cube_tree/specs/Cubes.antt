-- The cubes of a check: the parts into which some variables split all assignments
-- (M. Heule, O. Kullmann, S. Wieringa, A. Biere, "Cube and Conquer: Guiding CDCL SAT Solvers by Lookaheads", 2011).
use Rattle.std.specs.Prelude.{◌≡◌, ◌==◌, ◌<◌, ◌≤◌, ◌^◌, ◌/◌, ◌%◌, ℕ, Bool, true, List, [], ◌∷◌, length, slice_index_or}
use Rattle.std.specs.List.{AllByRecursion}
use Rattle.cnf_base.specs.Literals.{Literal}
use Rattle.cnf_base.specs.Clauses.{lit_true}

-- Cube n has a literal of each variable, positive where the variable's bit of n is 0. The first variable has the lowest
-- bit: over the variables 5 and 7 the cubes are 5 7, -5 7, 5 -7 and -5 -7.
abbrev pub cube_of : List ℕ → ℕ → List Literal
cube_of [] n = []
cube_of (x ∷ xs) n = record { variable = x; positive = n % 2 == 0 } ∷ cube_of xs (n / 2)

-- every literal is true
abbrev pub AreTrue : (ℕ → Bool) → List Literal → Type 0
AreTrue v = AllByRecursion (λ l. lit_true v l ≡ true)

-- every assignment makes all literals of exactly one cube true
pub record SplitAll (variables : List ℕ) : Type 0 where
  pub some_cube : (v : ℕ → Bool) → (n : ℕ) × (n < 2 ^ length variables) × AreTrue v (cube_of variables n)
  pub one_cube : (v : ℕ → Bool) (m n : ℕ) → m < 2 ^ length variables → n < 2 ^ length variables
      → AreTrue v (cube_of variables m) → AreTrue v (cube_of variables n) → m ≡ n

-- each is the variable of a literal
abbrev pub AreVariables : List ℕ → Type 0
AreVariables = AllByRecursion (λ x. (0 < x) × (x < 2 ^ 63))

-- at most ten variables, and the cubes in the order of their numbers
pub record AreCubes (variables : List ℕ) (cubes : List (List Literal)) : Type 0 where
  pub variables_of : AreVariables variables
  pub depth : length variables ≤ 10
  pub count : length cubes ≡ 2 ^ length variables
  pub each : (n : ℕ) (d : List Literal) → n < length cubes → slice_index_or cubes n d ≡ cube_of variables n

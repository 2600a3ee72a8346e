-- How many parentheses are open at once.
use Rattle.std.specs.Prelude.{ℕ, ◌+◌, ◌-◌, max, List, [], ◌∷◌}
use Rattle.smt_syntax.specs.Sexps.{Sign, open_paren, close_paren, word, Sexp, Sexps, atom, group, none, more}

unfoldable mutual
  pub depth : Sexp → ℕ
  depth (atom k text) = 0
  depth (group es) = depths es + 1

  pub depths : Sexps → ℕ
  depths none = 0
  depths (more e es) = max (depth e) (depths es)

-- the most that are open at once in these tokens, where n are open before them
unfoldable pub most_open : ℕ → List Sign → ℕ
most_open n [] = n
most_open n (open_paren ∷ ls) = most_open (n + 1) ls
most_open n (close_paren ∷ ls) = max n (most_open (n - 1) ls)
most_open n (word k text ∷ ls) = most_open n ls

-- so many parentheses may be open at once
abbrev pub most_depth : ℕ
most_depth = 1000000

-- how many are open behind a token
abbrev pub open_after : ℕ → Sign → ℕ
open_after depth open_paren = depth + 1
open_after depth close_paren = depth - 1
open_after depth (word k x) = depth

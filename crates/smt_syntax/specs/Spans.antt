-- Where the parts of a list stand among its tokens.
use Rattle.std.specs.Prelude.{◌≡◌, ℕ, ◌+◌, ◌-◌, ◌≤◌, List, [], ◌∷◌, ◌++◌, length, take, drop, Some, None, option_to_list, if◌then◌else◌, ◌==◌}
use Rattle.smt_syntax.specs.declared.span.Span.{Span}
use Rattle.smt_syntax.specs.declared.parts.CutStep.{CutStep}
use Rattle.smt_syntax.specs.Sexps.{Sign, open_paren, close_paren, word, Sexp, Sexps, none, more, spelling}

abbrev pub span : ℕ → ℕ → Span
span start end = record { start = start; end = end }

-- the spans of these S-expressions, written one after another from a place on
abbrev pub spans_from : ℕ → Sexps → List Span
spans_from place none = []
spans_from place (more e es) = span place (place + length (spelling e)) ∷ spans_from (place + length (spelling e)) es

-- the tokens of the span
abbrev pub tokens_at : List Sign → Span → List Sign
tokens_at tokens s = take (s.end - s.start) (drop s.start tokens)

pub record IsWithin (tokens : List Sign) (s : Span) : Type 0 where
  pub ordered : s.start ≤ s.end
  pub ends : s.end ≤ length tokens

-- the S-expression stands there
pub record Stands (tokens : List Sign) (s : Span) (e : Sexp) : Type 0 where
  pub within : IsWithin tokens s
  pub spelled : tokens_at tokens s ≡ spelling e

-- each of these S-expressions stands at its span
abbrev pub AllStand : List Sign → List Span → Sexps → Type 0
AllStand tokens [] none = Unit {0}
AllStand tokens [] (more e es) = ⊥
AllStand tokens (s ∷ ss) none = ⊥
AllStand tokens (s ∷ ss) (more e es) = Stands tokens s e × AllStand tokens ss es

-- One step of a count of open parentheses: the part that ends, where the next one begun, and how many are open then.
abbrev pub cut_step : ℕ → ℕ → ℕ → Sign → CutStep
cut_step place begun depth open_paren = if depth == 0 then record { found = None; begun = place; depth = 1 } else record { found = None; begun = begun; depth = depth + 1 }
cut_step place begun depth close_paren = if depth == 1 then record { found = Some (span begun (place + 1)); begun = begun; depth = 0 } else record { found = None; begun = begun; depth = depth - 1 }
cut_step place begun depth (word k x) = if depth == 0 then record { found = Some (span place (place + 1)); begun = begun; depth = 0 } else record { found = None; begun = begun; depth = depth }

-- the parts that are cut from these tokens, of which the first stands at the place
unfoldable pub cut : ℕ → ℕ → ℕ → List Sign → List Span
cut place begun depth [] = []
cut place begun depth (l ∷ ls) = let step = cut_step place begun depth l in option_to_list step.found ++ cut (place + 1) step.begun step.depth ls

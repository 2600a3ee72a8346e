-- Tables of proofs: the lines that a change leaves, and what is told of a proof.
use Rattle.std.specs.Prelude.{◌≡◌, ℕ, ◌+◌, List, [], ◌∷◌, ◌++◌, length, take, drop, Option}
use Rattle.std.specs.List.{flat_map}
use Rattle.script_state.specs.declared.answer.Verdict.{Verdict}
use Rattle.accepted_proof.specs.declared.refusal.Refusal.{Refusal}
use Rattle.proof_checker.specs.Checked.{IsJudged}
use Rattle.proof_checker.specs.Reports.{ending_text}

-- each line with a line feed
abbrev pub lines_text : List (List ℕ) → List ℕ
lines_text lines = flat_map (λ l. l ++ 10 ∷ []) lines

-- behind so many lines, these stand in the place of so many others
abbrev pub changed_lines : ℕ → ℕ → List (List ℕ) → List (List ℕ) → List (List ℕ)
changed_lines front count new lines = take front lines ++ new ++ drop (front + count) lines

-- the text is the line that ends a check of the script and the proof
pub record IsEndOfCheck (script proof text : List ℕ) : Type 0 where
  pub verdicts : List Verdict
  pub refusal : Option Refusal
  pub judged : IsJudged script proof verdicts refusal
  pub is : text ≡ ending_text (length verdicts) refusal

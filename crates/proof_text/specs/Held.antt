-- What a reader of a proof gives of the bytes that it holds: its lines, or its first fault.
use Rattle.std.specs.Prelude.{◌≡◌, ◌≢◌, ℕ, length, ◌+◌, ◌==◌, Bool, true, not, List, [], ◌∷◌, ◌++◌, Result, Ok, Err}
use Rattle.std.specs.List.{list_all, flat_map, AllByRecursion}
use Rattle.smt_text.specs.Framing.{Held}
use Rattle.proof_text.specs.Lines.{line_text, IsLine}
use Rattle.proof_text.specs.declared.line.Line.{Line}
use Rattle.proof_text.specs.declared.reader.LineFault.{LineFault}

-- no line feed stands there
abbrev pub without_feed : List ℕ → Bool
without_feed bytes = list_all (λ b. not (b == 10)) bytes

-- the first whole line, up to its line feed, and what is behind it
pub record IsNext (old : Held) (text : List ℕ) (new : Held) : Type 0 where
  pub bytes : old.bytes ≡ text ++ 10 ∷ new.bytes
  pub first : without_feed text ≡ true
  pub line : new.line ≡ old.line + 1

-- the line that is printed so, or the fault where none is
abbrev pub Answers : Result Line LineFault → ℕ → List ℕ → Type 0
Answers (Ok l) line text = IsLine l × (text ++ 10 ∷ [] ≡ line_text l)
Answers (Err f) line text = (f.line ≡ line) × ((l : Line) → IsLine l → text ++ 10 ∷ [] ≡ line_text l → ⊥)

-- In front of it stand these lines, and what follows is not nothing and begins with no line. Lines are counted from 1.
pub record IsFirstFault (text : List ℕ) (number : ℕ) : Type 0 where
  pub lines : List Line
  pub rest : List ℕ
  pub whole : text ≡ flat_map line_text lines ++ rest
  pub each : AllByRecursion IsLine lines
  pub count : number ≡ length lines + 1
  pub some : rest ≢ []
  pub none : (l : Line) (more : List ℕ) → IsLine l → rest ≡ line_text l ++ more → ⊥

-- The summary of the responses to a script.
use Rattle.std.specs.Prelude.{ℕ, ◌+◌, ◌==◌, Bool, true, false, if◌then◌else◌, List, [], ◌∷◌, ◌++◌, codes}
use Rattle.std.specs.Str.{bytes_eq}
use Rattle.drill_script.specs.Scripts.{state_after, drawn, hexadecimal, around}

-- The line that is begun, how many checks had each verdict, and whether the last check was `sat` and the one before it.
pub record Tally : Type 0 where
  pub line : List ℕ
  pub sat : ℕ
  pub unsat : ℕ
  pub unknown : ℕ
  pub last : Bool
  pub before : Bool

abbrev pub none_yet : Tally
none_yet = record { line = []; sat = 0; unsat = 0; unknown = 0; last = false; before = false }

-- a line ends: it is a verdict, or another response
abbrev pub closed : Tally → Tally
closed t =
    if bytes_eq t.line (codes "sat") then record { line = []; sat = t.sat + 1; unsat = t.unsat; unknown = t.unknown; last = true; before = t.last }
    else (if bytes_eq t.line (codes "unsat") then record { line = []; sat = t.sat; unsat = t.unsat + 1; unknown = t.unknown; last = false; before = t.last }
    else (if bytes_eq t.line (codes "unknown") then record { line = []; sat = t.sat; unsat = t.unsat; unknown = t.unknown + 1; last = false; before = t.last }
    else record { line = []; sat = t.sat; unsat = t.unsat; unknown = t.unknown; last = t.last; before = t.before }))

abbrev pub behind : Tally → ℕ → Tally
behind t byte = if byte == 10 then closed t else record { line = t.line ++ byte ∷ []; sat = t.sat; unsat = t.unsat; unknown = t.unknown; last = t.last; before = t.before }

-- what is counted behind more bytes
abbrev pub counted : Tally → List ℕ → Tally
counted t [] = t
counted t (b ∷ bs) = counted (behind t b) bs

abbrev pub tally_of : List ℕ → Tally
tally_of responses = counted none_yet responses

-- the last word, or that its first check was not `sat`
abbrev pub last_text : Bool → ℕ → List ℕ
last_text true word = codes "last #x" ++ hexadecimal 8 word ++ codes "\n"
last_text false word = codes "last none\n"

-- how many checks were counted
abbrev pub checks_in : Tally → ℕ
checks_in t = t.sat + t.unsat + t.unknown

abbrev pub counts_text : Tally → List ℕ
counts_text t =
    around (codes "checks ") (checks_in t) (codes "\n")
    ++ around (codes "sat ") t.sat (codes "\n")
    ++ around (codes "unsat ") t.unsat (codes "\n")
    ++ around (codes "unknown ") t.unknown (codes "\n")

-- How many checks there were and how each ended, and the last word. Each word has two checks, so its first is the last but one. In
-- every model of that check it is the word that was drawn last.
abbrev pub summary_of : ℕ → ℕ → List ℕ → List ℕ
summary_of seed size responses = let t = tally_of responses in counts_text t ++ last_text t.before (drawn (state_after seed size))

-- The chunks of a whole script.
use Rattle.std.specs.Prelude.{◌≡◌, ℕ, List, [], ◌∷◌, ◌++◌, Some, None, option_to_list}
use Rattle.smt_text.specs.Framing.{Held, first_chunk, last_chunk}
use Rattle.smt_text.specs.declared.chunk.Chunk.{Chunk}

-- h begins with these whole chunks, and rest is behind them
abbrev pub Begins : Held → List Chunk → Held → Type 0
Begins h [] rest = rest ≡ h
Begins h (c ∷ cs) rest = (mid : Held) × (first_chunk h ≡ Some (c, mid)) × Begins mid cs rest

-- what is held is cut into these chunks
pub record AreCut (held : Held) (chunks : List Chunk) : Type 0 where
  pub whole : List Chunk
  pub rest : Held
  pub begins : Begins held whole rest
  pub ends : first_chunk rest ≡ None
  pub all : chunks ≡ whole ++ option_to_list (last_chunk rest)

-- the text is cut into these chunks
abbrev pub AreChunks : List ℕ → List Chunk → Type 0
AreChunks text chunks = AreCut (record { line = 1; bytes = text }) chunks

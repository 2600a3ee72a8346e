-- What a framer holds: bytes that were fed and not yet given as chunks.
use Rattle.std.specs.Prelude.{◌≡◌, ◌≢◌, ℕ, ◌+◌, ◌-◌, ◌<◌, ◌≤◌, false, List, ◌++◌, take, drop, count_by, slice_index, Option, Some, if◌then◌else◌, ◌==◌}
use Rattle.std.specs.Option.{option_map}
use Rattle.smt_text.specs.Search.{Passes}
use Rattle.smt_text.specs.Chunks.{begins, comment_after, beginning, closes, inside_after, ends_stray, first_cut}
use Rattle.smt_text.specs.declared.place.Place.TheVariants.{Plain}
use Rattle.smt_text.specs.declared.chunk.ChunkKind.TheVariants.{Stray, Unfinished}
use Rattle.smt_text.specs.declared.chunk.Cut.{Cut}
use Rattle.smt_text.specs.declared.chunk.Chunk.{Chunk}
use Rattle.smt_text.specs.declared.find.Progress.{Progress}
use Rattle.smt_text.specs.declared.find.Progress.TheVariants as progress

-- the bytes, and the line of the first of them
pub record Held : Type 0 where
  pub line : ℕ
  pub bytes : List ℕ

-- more bytes behind what is held
abbrev pub and_more : Held → List ℕ → Held
and_more h more = record { line = h.line; bytes = h.bytes ++ more }

abbrev pub lines_in : List ℕ → ℕ
lines_in bytes = count_by (λ b. b == 10) bytes

-- the first whole chunk, and what is behind it
abbrev pub cut_off : Held → Cut → Chunk × Held
cut_off h c = (
  record { line = h.line + lines_in (take c.before h.bytes); kind = c.kind; text = take c.size (drop c.before h.bytes) },
  record { line = h.line + lines_in (take (c.before + c.size) h.bytes); bytes = drop (c.before + c.size) h.bytes },
)

unfoldable pub first_chunk : Held → Option (Chunk × Held)
first_chunk h = option_map (cut_off h) (first_cut h.bytes)

-- the chunk that the end of input closes, where no whole chunk is held
unfoldable pub last_chunk : Held → Option Chunk
last_chunk h = option_map (λ n. record { line = h.line + lines_in (take n h.bytes); kind = if slice_index h.bytes n == 40 then Unfinished else Stray; text = drop n h.bytes }) (beginning false h.bytes)

-- how far the search for the first chunk has come, behind n bytes
abbrev pub Searched : List ℕ → ℕ → Progress → Type 0
Searched bytes n (progress.Blank comment) = Passes begins comment_after false (take n bytes) comment
Searched bytes n (progress.Command start place depth) = (start < n) × (depth ≤ n) × (beginning false bytes ≡ Some start) × (slice_index bytes start ≡ 40)
    × Passes closes inside_after (Plain, 0) (take (n - (start + 1)) (drop (start + 1) bytes)) (place, depth)
Searched bytes n (progress.Text start) = (start < n) × (beginning false bytes ≡ Some start) × (slice_index bytes start ≢ 40) × (slice_index bytes start ≢ 41)
    × Passes ends_stray (λ s _. s) false (take (n - (start + 1)) (drop (start + 1) bytes)) false

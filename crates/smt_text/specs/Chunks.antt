-- How a script is cut into chunks: commands in balanced parentheses, and what stands between them (SMT-LIB 2.6, section 3.1).
use Rattle.std.specs.Prelude.{ℕ, ◌+◌, ◌-◌, Bool, true, false, not, ◌&&◌, ◌||◌, List, [], ◌∷◌, drop, Option, Some, None, if◌then◌else◌, ◌==◌}
use Rattle.std.specs.Option.{option_map, option_and_then}
use Rattle.smt_text.specs.Search.{stop_at}
use Rattle.smt_text.specs.declared.place.Place.{Place}
use Rattle.smt_text.specs.declared.place.Place.TheVariants.{Plain, Comment, Literal, Quoted}
use Rattle.smt_text.specs.declared.chunk.Cut.{Cut}
use Rattle.smt_text.specs.declared.chunk.ChunkKind.TheVariants.{Balanced, Stray}

-- space, tab, line feed, carriage return
abbrev pub is_space : ℕ → Bool
is_space b = b == 32 || b == 9 || b == 10 || b == 13

-- where the byte after b stands, when b stands at the place; a comment ends with its line
abbrev pub place_after : Place → ℕ → Place
place_after Plain b = if b == 59 then Comment else (if b == 34 then Literal else (if b == 124 then Quoted else Plain))
place_after Comment b = if b == 10 then Plain else Comment
place_after Literal b = if b == 34 then Plain else Literal
place_after Quoted b = if b == 124 then Plain else Quoted

abbrev pub is_plain : Place → Bool
is_plain Plain = true
is_plain Comment = false
is_plain Literal = false
is_plain Quoted = false

-- within a command: the place, and how many parentheses are open within the first
abbrev pub Inside : Type 0
Inside = Place × ℕ

abbrev pub closes : Inside → ℕ → Bool
closes s b = is_plain s.0 && (b == 41) && (s.1 == 0)

abbrev pub depth_after : Inside → ℕ → ℕ
depth_after s b = if is_plain s.0 then (if b == 40 then s.1 + 1 else (if b == 41 then s.1 - 1 else s.1)) else s.1

abbrev pub inside_after : Inside → ℕ → Inside
inside_after s b = (place_after s.0 b, depth_after s b)

-- how many bytes stand before the parenthesis that closes a command, behind the one that opens it
abbrev pub closing : Inside → List ℕ → Option ℕ
closing = stop_at closes inside_after

-- outside a command: is it within a comment
abbrev pub begins : Bool → ℕ → Bool
begins comment b = not comment && not (is_space b) && not (b == 59)

abbrev pub comment_after : Bool → ℕ → Bool
comment_after comment b = if comment then not (b == 10) else b == 59

-- how many bytes of white space and comments stand before the first chunk
abbrev pub beginning : Bool → List ℕ → Option ℕ
beginning = stop_at begins comment_after

abbrev pub ends_stray : Bool → ℕ → Bool
ends_stray _ b = is_space b || b == 40 || b == 41 || b == 59

-- how many bytes of stray text stand before the next white space, parenthesis or comment
abbrev pub stray_end : List ℕ → Option ℕ
stray_end = stop_at ends_stray (λ s _. s) false

-- the chunk that begins with the first byte, if it is whole
abbrev pub whole_chunk : ℕ → List ℕ → Option Cut
whole_chunk before [] = None
whole_chunk before (b ∷ bs) =
    if b == 40 then option_map (λ n. record { kind = Balanced; before = before; size = n + 2 }) (closing (Plain, 0) bs)
    else (if b == 41 then Some (record { kind = Stray; before = before; size = 1 })
    else option_map (λ n. record { kind = Stray; before = before; size = n + 1 }) (stray_end bs))

-- the first chunk, if it is whole
unfoldable pub first_cut : List ℕ → Option Cut
first_cut bytes = option_and_then (λ n. whole_chunk n (drop n bytes)) (beginning false bytes)

-- The script that a seed and a size give.
use Rattle.std.specs.Prelude.{ℕ, zero, suc, ◌+◌, ◌*◌, ◌/◌, ◌%◌, ltb, if◌then◌else◌, List, [], ◌∷◌, ◌++◌, codes}
use Rattle.std.specs.Fmt.{decimal}

-- ---- draws

-- the state after a draw: the generator of Knuth's MMIX, modulo 2^64
abbrev pub next_state : ℕ → ℕ
next_state state = (state * 6364136223846793005 + 1442695040888963407) % 18446744073709551616

-- the state after so many draws
abbrev pub state_after : ℕ → ℕ → ℕ
state_after seed zero = seed
state_after seed (suc n) = next_state (state_after seed n)

-- a draw gives the high 32 bits of the state after it
abbrev pub drawn : ℕ → ℕ
drawn state = state / 4294967296

-- ---- text

abbrev pub digit : ℕ → ℕ
digit d = if ltb d 10 then 48 + d else 87 + d

-- the lowest digits of a number to base 16, so many of them, the highest first
abbrev pub hexadecimal : ℕ → ℕ → List ℕ
hexadecimal zero number = []
hexadecimal (suc count) number = hexadecimal count (number / 16) ++ digit (number % 16) ∷ []

abbrev pub opening : List ℕ
opening = codes "(set-logic QF_AUFBV)\n(declare-const a (Array (_ BitVec 16) (_ BitVec 32)))\n"

-- a number in decimal between two texts
abbrev pub around : List ℕ → ℕ → List ℕ → List ℕ
around before number after = before ++ decimal number ++ after

-- the word of number k is the word that is drawn, and the array's element at k
abbrev pub word_lines : ℕ → ℕ → List ℕ
word_lines k word =
    around (codes "(declare-const x") k (codes " (_ BitVec 32))\n")
    ++ around (codes "(assert (= (bvxor x") k (codes " #x")
    ++ hexadecimal 8 word
    ++ codes ") #x00000000))\n(assert (= (select a #x"
    ++ hexadecimal 4 k
    ++ around (codes ") x") k (codes "))\n(check-sat)\n")

-- its successor is no such word
abbrev pub successor_lines : ℕ → ℕ → List ℕ
successor_lines k word =
    around (codes "(push 1)\n(assert (= (bvadd x") k (codes " #x00000001) #x")
    ++ hexadecimal 8 word
    ++ codes "))\n(check-sat)\n(pop 1)\n"

abbrev pub block : ℕ → ℕ → List ℕ
block k word = word_lines k word ++ successor_lines k word

-- the blocks of the words below a number
abbrev pub blocks : ℕ → ℕ → List ℕ
blocks seed zero = []
blocks seed (suc k) = blocks seed k ++ block k (drawn (state_after seed (suc k)))

abbrev pub drill_script : ℕ → ℕ → List ℕ
drill_script seed size = opening ++ blocks seed size

-- The lines of a proof file and their text: words with one space between, and a line feed. Numbers are in decimal.
use Rattle.std.specs.Prelude.{ℕ, ◌<◌, ◌^◌, Bool, if◌then◌else◌, List, [], ◌∷◌, ◌++◌, map, codes, length}
use Rattle.std.specs.List.{flat_map, AllByRecursion}
use Rattle.std.specs.Fmt.{decimal}
use Rattle.proof_text.specs.Operators.{name_of}
use Rattle.proof_text.specs.declared.list.WrittenLiteral.{WrittenLiteral}
use Rattle.proof_text.specs.declared.list.WrittenHint.{WrittenHint}
use Rattle.proof_text.specs.declared.list.WrittenStart.{WrittenStart}
use Rattle.proof_text.specs.declared.list.WrittenStart.TheVariants as access
use Rattle.proof_text.specs.declared.list.Letter.{Letter}
use Rattle.proof_text.specs.declared.list.Letter.TheVariants.{Store, Then, Else, Sides}
use Rattle.proof_text.specs.declared.list.WrittenMove.{WrittenMove}
use Rattle.proof_text.specs.declared.list.WrittenAccess.{WrittenAccess}
use Rattle.proof_text.specs.declared.list.WrittenScalar.{WrittenScalar}
use Rattle.proof_text.specs.declared.list.WrittenScalar.TheVariants as scalar
use Rattle.proof_text.specs.declared.list.WrittenEntry.{WrittenEntry}
use Rattle.proof_text.specs.declared.line.Head.{Head}
use Rattle.proof_text.specs.declared.line.Head.TheVariants.{Plain, Word, Extract, ZeroExtend, SignExtend, RotateLeft, RotateRight, Repeat, Apply, ConstantArray}
use Rattle.proof_text.specs.declared.line.WrittenValue.{WrittenValue}
use Rattle.proof_text.specs.declared.line.WrittenValue.TheVariants as value
use Rattle.proof_text.specs.declared.line.Format.{Format}
use Rattle.proof_text.specs.declared.line.Format.TheVariants.{One, Two}
use Rattle.proof_text.specs.declared.line.Line.{Line}
use Rattle.proof_text.specs.declared.line.Line.TheVariants.{Header, Term, Leaf, Encode, Rewrite, Selector, Chain, Equal, Congruence, Witness, Accesses, Delete, Sat, Value, Unsat, Unknown, Take, Put, Drop}

-- each behind a space
abbrev pub spaced : List (List ℕ) → List ℕ
spaced words = flat_map (λ w. 32 ∷ w) words

-- one space between two words
abbrev pub joined : List (List ℕ) → List ℕ
joined [] = []
joined (w ∷ ws) = w ++ spaced ws

-- a word, and a number behind it
abbrev pub with_number : List ℕ → ℕ → List (List ℕ)
with_number word n = word ∷ decimal n ∷ []

abbrev pub head_words : Head → List (List ℕ)
head_words (Plain op) = name_of op ∷ []
head_words (Word width x) = codes "word" ∷ decimal width ∷ decimal x ∷ []
head_words (Extract high low) = codes "extract" ∷ decimal high ∷ decimal low ∷ []
head_words (ZeroExtend i) = with_number (codes "zero_extend") i
head_words (SignExtend i) = with_number (codes "sign_extend") i
head_words (RotateLeft i) = with_number (codes "rotate_left") i
head_words (RotateRight i) = with_number (codes "rotate_right") i
head_words (Repeat i) = with_number (codes "repeat") i
head_words (Apply d) = with_number (codes "apply") d
head_words (ConstantArray n) = with_number (codes "const") n

-- a variable, with a minus before it where it is negated
abbrev pub literal_text : WrittenLiteral → List ℕ
literal_text l = (if l.positive then [] else (45 ∷ [])) ++ decimal l.variable

-- the place of a clause and its part, with a point between
abbrev pub hint_text : WrittenHint → List ℕ
hint_text h = decimal h.pos ++ 46 ∷ decimal h.part

-- a term, or a constant array and an index with an `@` between
abbrev pub start_text : WrittenStart → List ℕ
start_text (access.Term t) = decimal t
start_text (access.Const k j) = decimal k ++ 64 ∷ decimal j

abbrev pub letter_text : Letter → List ℕ
letter_text Store = codes "w"
letter_text Then = codes "t"
letter_text Else = codes "e"
letter_text Sides = codes "q"

abbrev pub move_words : WrittenMove → List (List ℕ)
move_words m = with_number (letter_text m.letter) m.term

abbrev pub access_words : WrittenAccess → List (List ℕ)
access_words a = start_text a.start ∷ flat_map move_words a.moves

abbrev pub digit_of : Bool → ℕ
digit_of b = if b then 49 else 48

abbrev pub digits_text : List Bool → List ℕ
digits_text digits = codes "#b" ++ map digit_of digits

abbrev pub scalar_text : WrittenScalar → List ℕ
scalar_text (scalar.Bool b) = if b then codes "true" else codes "false"
scalar_text (scalar.Word digits) = digits_text digits

-- an index and its element
abbrev pub entry_words : WrittenEntry → List (List ℕ)
entry_words e = digits_text e.index ∷ digits_text e.element ∷ []

abbrev pub value_words : WrittenValue → List (List ℕ)
value_words (value.Bool b) = scalar_text (scalar.Bool b) ∷ []
value_words (value.Word digits) = digits_text digits ∷ []
value_words (value.Array default entries) = codes "a" ∷ digits_text default ∷ flat_map entry_words entries
value_words (value.Fun default values) = codes "f" ∷ scalar_text default ∷ map scalar_text values

abbrev pub value_text : WrittenValue → List ℕ
value_text v = joined (value_words v)

abbrev pub format_text : Format → List ℕ
format_text One = codes "1"
format_text Two = codes "2"

-- the words of a line
abbrev pub words_of : Line → List (List ℕ)
words_of (Header format cubes budget) = codes "smt_proof" ∷ format_text format ∷ codes "cubes" ∷ decimal cubes ∷ codes "budget" ∷ decimal budget ∷ []
words_of (Term head args) = codes "t" ∷ (head_words head ++ map decimal args)
words_of (Leaf t) = with_number (codes "f") t
words_of (Encode t) = with_number (codes "e") t
words_of (Rewrite rule t u) = codes "r" ∷ decimal rule ∷ decimal t ∷ decimal u ∷ []
words_of (Selector a) = with_number (codes "s") a
words_of (Chain clause hints) = codes "c" ∷ (map literal_text clause ++ codes "0" ∷ map hint_text hints)
words_of (Equal t u) = codes "q" ∷ decimal t ∷ decimal u ∷ []
words_of (Congruence t u) = codes "l" ∷ codes "c" ∷ decimal t ∷ decimal u ∷ []
words_of (Witness t) = codes "l" ∷ codes "w" ∷ decimal t ∷ []
words_of (Accesses a b) = codes "l" ∷ codes "a" ∷ (access_words a ++ codes "/" ∷ access_words b)
words_of (Delete places) = codes "d" ∷ map decimal places
words_of (Sat count) = with_number (codes "sat") count
words_of (Value d v) = codes "v" ∷ decimal d ∷ value_words v
words_of (Unsat p) = with_number (codes "unsat") p
words_of (Unknown cube start count) = codes "unknown" ∷ decimal cube ∷ decimal start ∷ decimal count ∷ []
words_of (Take p) = with_number (codes "=") p
words_of (Put p) = with_number (codes "+") p
words_of (Drop p) = with_number (codes "-") p

-- a line as it is written
abbrev pub line_text : Line → List ℕ
line_text l = joined (words_of l) ++ 10 ∷ []

-- ---- what can be written

-- numbers are below 2 ^ 64
abbrev pub IsNumber : ℕ → Type 0
IsNumber n = n < 2 ^ 64

-- the value of a word is below 2 ^ 128
abbrev pub IsHead : Head → Type 0
IsHead (Plain op) = Unit {0}
IsHead (Word width x) = IsNumber width × (x < 2 ^ 128)
IsHead (Extract high low) = IsNumber high × IsNumber low
IsHead (ZeroExtend i) = IsNumber i
IsHead (SignExtend i) = IsNumber i
IsHead (RotateLeft i) = IsNumber i
IsHead (RotateRight i) = IsNumber i
IsHead (Repeat i) = IsNumber i
IsHead (Apply d) = IsNumber d
IsHead (ConstantArray n) = IsNumber n

-- variables are counted from 1
pub record IsLiteral (l : WrittenLiteral) : Type 0 where
  pub from_one : 0 < l.variable
  pub bound : IsNumber l.variable

pub record IsHint (h : WrittenHint) : Type 0 where
  pub pos : IsNumber h.pos
  pub part : IsNumber h.part

abbrev pub IsStart : WrittenStart → Type 0
IsStart (access.Term t) = IsNumber t
IsStart (access.Const k j) = IsNumber k × IsNumber j

abbrev pub IsMove : WrittenMove → Type 0
IsMove m = IsNumber m.term

pub record IsAccess (a : WrittenAccess) : Type 0 where
  pub start : IsStart a.start
  pub moves : AllByRecursion IsMove a.moves

-- a word has a digit
abbrev pub IsDigits : List Bool → Type 0
IsDigits digits = 0 < length digits

abbrev pub IsScalar : WrittenScalar → Type 0
IsScalar (scalar.Bool b) = Unit {0}
IsScalar (scalar.Word digits) = IsDigits digits

pub record IsEntry (e : WrittenEntry) : Type 0 where
  pub index : IsDigits e.index
  pub element : IsDigits e.element

abbrev pub IsValue : WrittenValue → Type 0
IsValue (value.Bool b) = Unit {0}
IsValue (value.Word digits) = IsDigits digits
IsValue (value.Array default entries) = IsDigits default × AllByRecursion IsEntry entries
IsValue (value.Fun default values) = IsScalar default × AllByRecursion IsScalar values

-- at least one place is deleted
abbrev pub IsLine : Line → Type 0
IsLine (Header format cubes budget) = IsNumber cubes × IsNumber budget
IsLine (Term head args) = IsHead head × AllByRecursion IsNumber args
IsLine (Leaf t) = IsNumber t
IsLine (Encode t) = IsNumber t
IsLine (Rewrite rule t u) = IsNumber rule × IsNumber t × IsNumber u
IsLine (Selector a) = IsNumber a
IsLine (Chain clause hints) = AllByRecursion IsLiteral clause × AllByRecursion IsHint hints
IsLine (Equal t u) = IsNumber t × IsNumber u
IsLine (Congruence t u) = IsNumber t × IsNumber u
IsLine (Witness t) = IsNumber t
IsLine (Accesses a b) = IsAccess a × IsAccess b
IsLine (Delete places) = (0 < length places) × AllByRecursion IsNumber places
IsLine (Sat count) = IsNumber count
IsLine (Value d v) = IsNumber d × IsValue v
IsLine (Unsat p) = IsNumber p
IsLine (Unknown cube start count) = IsNumber cube × IsNumber start × IsNumber count
IsLine (Take p) = IsNumber p
IsLine (Put p) = IsNumber p
IsLine (Drop p) = IsNumber p

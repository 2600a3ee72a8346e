-- How a line is read: its words between spaces, and what each of them says. None where no line prints so.
use Rattle.std.specs.Prelude.{ℕ, ◌+◌, ◌-◌, ◌*◌, ◌^◌, Bool, true, false, ◌&&◌, ◌==◌, nat_lt, if◌then◌else◌, List, [], ◌∷◌, codes, Option, Some, None}
use Rattle.std.specs.Str.{bytes_eq}
use Rattle.smt_text.specs.Lexicon.{is_digit}
use Rattle.smt_terms.specs.declared.operator.Operator.{Operator}
use Rattle.proof_text.specs.Operators.{operator_names}
use Rattle.proof_text.specs.declared.list.WrittenLiteral.{WrittenLiteral}
use Rattle.proof_text.specs.declared.list.WrittenHint.{WrittenHint}
use Rattle.proof_text.specs.declared.list.WrittenStart.{WrittenStart}
use Rattle.proof_text.specs.declared.list.WrittenStart.TheVariants as access
use Rattle.proof_text.specs.declared.list.Letter.{Letter}
use Rattle.proof_text.specs.declared.list.Letter.TheVariants.{Store, Then, Else, Sides}
use Rattle.proof_text.specs.declared.list.WrittenMove.{WrittenMove}
use Rattle.proof_text.specs.declared.list.WrittenAccess.{WrittenAccess}
use Rattle.proof_text.specs.declared.list.WrittenScalar.{WrittenScalar}
use Rattle.proof_text.specs.declared.list.WrittenScalar.TheVariants as scalar
use Rattle.proof_text.specs.declared.list.WrittenEntry.{WrittenEntry}
use Rattle.proof_text.specs.declared.keyword.Keyword.{Keyword}
use Rattle.proof_text.specs.declared.keyword.Keyword.TheVariants as key
use Rattle.proof_text.specs.declared.keyword.LemmaKind.{LemmaKind}
use Rattle.proof_text.specs.declared.keyword.LemmaKind.TheVariants as kind
use Rattle.proof_text.specs.declared.keyword.Indexed.{Indexed}
use Rattle.proof_text.specs.declared.keyword.Indexed.TheVariants as indexed
use Rattle.proof_text.specs.declared.line.Head.{Head}
use Rattle.proof_text.specs.declared.line.Head.TheVariants.{Plain, Word, Extract, ZeroExtend, SignExtend, RotateLeft, RotateRight, Repeat, Apply, ConstantArray}
use Rattle.proof_text.specs.declared.line.WrittenValue.{WrittenValue}
use Rattle.proof_text.specs.declared.line.WrittenValue.TheVariants as value
use Rattle.proof_text.specs.declared.line.Format.{Format}
use Rattle.proof_text.specs.declared.line.Format.TheVariants.{One, Two}
use Rattle.proof_text.specs.declared.line.Line.{Line}
use Rattle.proof_text.specs.declared.line.Line.TheVariants as line

infixl 10 ◌>>=◌
abbrev pub ◌>>=◌ : {A B : Type 0} → Option A → (A → Option B) → Option B
None >>= f = None
(Some x) >>= f = f x

-- what each says, where each says something
unfoldable pub each_of : {X A : Type 0} → (X → Option A) → List X → Option (List A)
each_of f [] = Some []
each_of f (x ∷ xs) = f x >>= λ a. each_of f xs >>= λ more. Some (a ∷ more)

-- ---- words

-- one more byte in front of the first word
abbrev pub longer : ℕ → List (List ℕ) → List (List ℕ)
longer b [] = (b ∷ []) ∷ []
longer b (w ∷ ws) = (b ∷ w) ∷ ws

-- the words between the marks
unfoldable pub fields : ℕ → List ℕ → List (List ℕ)
fields mark [] = [] ∷ []
fields mark (b ∷ bs) = if b == mark then [] ∷ fields mark bs else longer b (fields mark bs)

-- the words behind a mark; none at the end
abbrev pub behind : ℕ → List ℕ → List (List ℕ)
behind mark [] = []
behind mark (b ∷ bs) = fields mark bs

-- what a table has at a word
abbrev pub look_up : {A : Type 0} → List (List ℕ × A) → List ℕ → Option A
look_up [] word = None
look_up (entry ∷ entries) word = if bytes_eq word entry.0 then Some entry.1 else look_up entries word

-- ---- numbers

-- the digits go on from a number
unfoldable pub more_digits : ℕ → ℕ → List ℕ → Option ℕ
more_digits limit n [] = Some n
more_digits limit n (b ∷ bs) = if is_digit b then (if nat_lt (10 * n + (b - 48)) limit then more_digits limit (10 * n + (b - 48)) bs else None) else None

abbrev pub is_end : List ℕ → Bool
is_end [] = true
is_end (b ∷ bs) = false

-- the number below the limit that is written so, without a needless zero
unfoldable pub number_of : ℕ → List ℕ → Option ℕ
number_of limit [] = None
number_of limit (b ∷ bs) = if is_digit b then (if b == 48 then (if is_end bs then Some 0 else None) else more_digits limit (b - 48) bs) else None

abbrev pub number_in : List ℕ → Option ℕ
number_in w = number_of (2 ^ 64) w

abbrev pub number_at : List (List ℕ) → Option (ℕ × List (List ℕ))
number_at [] = None
number_at (w ∷ ws) = number_in w >>= λ n. Some (n, ws)

abbrev pub wide_at : List (List ℕ) → Option (ℕ × List (List ℕ))
wide_at [] = None
wide_at (w ∷ ws) = number_of (2 ^ 128) w >>= λ n. Some (n, ws)

-- a value, where no word is left
abbrev pub ended : {A : Type 0} → A → List (List ℕ) → Option A
ended x [] = Some x
ended x (w ∷ ws) = None

abbrev pub only_number : List (List ℕ) → Option ℕ
only_number ws = number_at ws >>= λ r. ended r.0 r.1

abbrev pub numbers_of : List (List ℕ) → Option (List ℕ)
numbers_of ws = each_of number_in ws

-- ---- clauses and hints

abbrev pub signed : Bool → ℕ → Option WrittenLiteral
signed positive n = if n == 0 then None else Some (record { variable = n; positive = positive })

abbrev pub literal_of : List ℕ → Option WrittenLiteral
literal_of [] = None
literal_of (b ∷ bs) = if b == 45 then (number_in bs >>= λ n. signed false n) else (number_in (b ∷ bs) >>= λ n. signed true n)

-- the literals before the word 0
unfoldable pub literals_at : List (List ℕ) → Option (List WrittenLiteral × List (List ℕ))
literals_at [] = None
literals_at (w ∷ ws) = if bytes_eq w (48 ∷ []) then Some ([], ws) else (literal_of w >>= λ l. literals_at ws >>= λ r. Some (l ∷ r.0, r.1))

abbrev pub hint_in : List (List ℕ) → Option WrittenHint
hint_in ws = number_at ws >>= λ p. only_number p.1 >>= λ part. Some (record { pos = p.0; part = part })

abbrev pub hint_of : List ℕ → Option WrittenHint
hint_of w = hint_in (fields 46 w)

abbrev pub hints_of : List (List ℕ) → Option (List WrittenHint)
hints_of ws = each_of hint_of ws

abbrev pub chain_of : List (List ℕ) → Option Line
chain_of ws = literals_at ws >>= λ r. hints_of r.1 >>= λ hs. Some (line.Chain r.0 hs)

-- ---- terms

abbrev pub indexed_names : List (List ℕ × Indexed)
indexed_names =
    (codes "word", indexed.Word)
    ∷ (codes "extract", indexed.Extract)
    ∷ (codes "zero_extend", indexed.ZeroExtend)
    ∷ (codes "sign_extend", indexed.SignExtend)
    ∷ (codes "rotate_left", indexed.RotateLeft)
    ∷ (codes "rotate_right", indexed.RotateRight)
    ∷ (codes "repeat", indexed.Repeat)
    ∷ (codes "apply", indexed.Apply)
    ∷ (codes "const", indexed.ConstantArray)
    ∷ []

abbrev pub with_index : (ℕ → Head) → List (List ℕ) → Option (Head × List (List ℕ))
with_index head ws = number_at ws >>= λ r. Some (head r.0, r.1)

abbrev pub indexed_at : Indexed → List (List ℕ) → Option (Head × List (List ℕ))
indexed_at indexed.Word ws = number_at ws >>= λ r. wide_at r.1 >>= λ s. Some (Word r.0 s.0, s.1)
indexed_at indexed.Extract ws = number_at ws >>= λ r. number_at r.1 >>= λ s. Some (Extract r.0 s.0, s.1)
indexed_at indexed.ZeroExtend ws = with_index ZeroExtend ws
indexed_at indexed.SignExtend ws = with_index SignExtend ws
indexed_at indexed.RotateLeft ws = with_index RotateLeft ws
indexed_at indexed.RotateRight ws = with_index RotateRight ws
indexed_at indexed.Repeat ws = with_index Repeat ws
indexed_at indexed.Apply ws = with_index Apply ws
indexed_at indexed.ConstantArray ws = with_index ConstantArray ws

abbrev pub indexed_head_at : List ℕ → List (List ℕ) → Option (Head × List (List ℕ))
indexed_head_at w ws = look_up indexed_names w >>= λ name. indexed_at name ws

abbrev pub named_at : Option Operator → List ℕ → List (List ℕ) → Option (Head × List (List ℕ))
named_at (Some op) w ws = Some (Plain op, ws)
named_at None w ws = indexed_head_at w ws

abbrev pub head_at : List (List ℕ) → Option (Head × List (List ℕ))
head_at [] = None
head_at (w ∷ ws) = named_at (look_up operator_names w) w ws

abbrev pub term_of : List (List ℕ) → Option Line
term_of ws = head_at ws >>= λ r. numbers_of r.1 >>= λ args. Some (line.Term r.0 args)

-- ---- values

abbrev pub digit_in : ℕ → Option Bool
digit_in b = if b == 48 then Some false else (if b == 49 then Some true else None)

abbrev pub digits_of : List ℕ → Option (List Bool)
digits_of bs = each_of digit_in bs

abbrev pub binary_of : List ℕ → Option (List Bool)
binary_of (a ∷ b ∷ c ∷ bs) = if a == 35 && b == 98 then digits_of (c ∷ bs) else None
binary_of _ = None

abbrev pub word_of : List ℕ → Option WrittenScalar
word_of w = binary_of w >>= λ ds. Some (scalar.Word ds)

abbrev pub scalar_of : List ℕ → Option WrittenScalar
scalar_of w = if bytes_eq w (codes "true") then Some (scalar.Bool true) else (if bytes_eq w (codes "false") then Some (scalar.Bool false) else word_of w)

abbrev pub scalars_of : List (List ℕ) → Option (List WrittenScalar)
scalars_of ws = each_of scalar_of ws

abbrev pub entry_of : List ℕ → List ℕ → Option WrittenEntry
entry_of w x = binary_of w >>= λ i. binary_of x >>= λ e. Some (record { index = i; element = e })

-- indexes and elements, two and two
unfoldable pub entries_of : List (List ℕ) → Option (List WrittenEntry)
entries_of [] = Some []
entries_of (w ∷ []) = None
entries_of (w ∷ x ∷ ws) = entry_of w x >>= λ e. entries_of ws >>= λ es. Some (e ∷ es)

abbrev pub array_of : List (List ℕ) → Option WrittenValue
array_of [] = None
array_of (w ∷ ws) = binary_of w >>= λ d. entries_of ws >>= λ es. Some (value.Array d es)

abbrev pub function_of : List (List ℕ) → Option WrittenValue
function_of [] = None
function_of (w ∷ ws) = scalar_of w >>= λ d. scalars_of ws >>= λ vs. Some (value.Fun d vs)

abbrev pub plain_value : WrittenScalar → WrittenValue
plain_value (scalar.Bool b) = value.Bool b
plain_value (scalar.Word ds) = value.Word ds

-- a truth value or a word, where no word is left
abbrev pub plain_of : List ℕ → List (List ℕ) → Option WrittenValue
plain_of w ws = scalar_of w >>= λ s. ended (plain_value s) ws

abbrev pub value_of : List (List ℕ) → Option WrittenValue
value_of [] = None
value_of (w ∷ ws) = if bytes_eq w (codes "a") then array_of ws else (if bytes_eq w (codes "f") then function_of ws else plain_of w ws)

abbrev pub declared_of : List (List ℕ) → Option Line
declared_of ws = number_at ws >>= λ r. value_of r.1 >>= λ v. Some (line.Value r.0 v)

-- ---- lemmas

-- this word, and what is behind it
abbrev pub exactly : List ℕ → List (List ℕ) → Option (List (List ℕ))
exactly word [] = None
exactly word (w ∷ ws) = if bytes_eq w word then Some ws else None

-- a constant array, where an index stands behind it
abbrev pub index_at : ℕ → List (List ℕ) → Option WrittenStart
index_at k [] = Some (access.Term k)
index_at k (w ∷ ws) = number_in w >>= λ j. ended (access.Const k j) ws

abbrev pub start_in : List (List ℕ) → Option WrittenStart
start_in ws = number_at ws >>= λ r. index_at r.0 r.1

abbrev pub start_of : List ℕ → Option WrittenStart
start_of w = start_in (fields 64 w)

abbrev pub letters : List (List ℕ × Letter)
letters =
    (codes "w", Store)
    ∷ (codes "t", Then)
    ∷ (codes "e", Else)
    ∷ (codes "q", Sides)
    ∷ []

abbrev pub move_of : List ℕ → List ℕ → Option WrittenMove
move_of w x = look_up letters w >>= λ l. number_in x >>= λ n. Some (record { letter = l; term = n })

-- the moves before the word `/` or before the end, and the words from there on
unfoldable pub moves_at : List (List ℕ) → Option (List WrittenMove × List (List ℕ))
moves_at [] = Some ([], [])
moves_at (w ∷ []) = if bytes_eq w (47 ∷ []) then Some ([], w ∷ []) else None
moves_at (w ∷ x ∷ ws) = if bytes_eq w (47 ∷ []) then Some ([], w ∷ x ∷ ws) else (move_of w x >>= λ m. moves_at ws >>= λ r. Some (m ∷ r.0, r.1))

abbrev pub access_at : List (List ℕ) → Option (WrittenAccess × List (List ℕ))
access_at [] = None
access_at (w ∷ ws) = start_of w >>= λ s. moves_at ws >>= λ r. Some (record { start = s; moves = r.0 }, r.1)

abbrev pub accesses_of : List (List ℕ) → Option Line
accesses_of ws = access_at ws >>= λ a. exactly (codes "/") a.1 >>= λ b. access_at b >>= λ c. ended (line.Accesses a.0 c.0) c.1

abbrev pub two_numbers : (ℕ → ℕ → Line) → List (List ℕ) → Option Line
two_numbers make ws = number_at ws >>= λ r. only_number r.1 >>= λ u. Some (make r.0 u)

abbrev pub one_number : (ℕ → Line) → List (List ℕ) → Option Line
one_number make ws = only_number ws >>= λ n. Some (make n)

abbrev pub lemma_names : List (List ℕ × LemmaKind)
lemma_names =
    (codes "c", kind.Congruence)
    ∷ (codes "w", kind.Witness)
    ∷ (codes "a", kind.Accesses)
    ∷ []

abbrev pub lemma_by : LemmaKind → List (List ℕ) → Option Line
lemma_by kind.Congruence ws = two_numbers line.Congruence ws
lemma_by kind.Witness ws = one_number line.Witness ws
lemma_by kind.Accesses ws = accesses_of ws

abbrev pub lemma_of : List (List ℕ) → Option Line
lemma_of [] = None
lemma_of (w ∷ ws) = look_up lemma_names w >>= λ k. lemma_by k ws

-- ---- lines

abbrev pub formats : List (List ℕ × Format)
formats =
    (codes "1", One)
    ∷ (codes "2", Two)
    ∷ []

-- the limits of a header of this format
abbrev pub limits_of : Format → List (List ℕ) → Option Line
limits_of format ws =
    exactly (codes "cubes") ws >>= λ b. number_at b >>= λ c.
    exactly (codes "budget") c.1 >>= λ d. only_number d >>= λ n. Some (line.Header format c.0 n)

abbrev pub header_of : List (List ℕ) → Option Line
header_of [] = None
header_of (w ∷ ws) = look_up formats w >>= λ format. limits_of format ws

-- these places, at least one
abbrev pub deletion : List ℕ → Option Line
deletion [] = None
deletion (p ∷ ps) = Some (line.Delete (p ∷ ps))

abbrev pub delete_of : List (List ℕ) → Option Line
delete_of ws = numbers_of ws >>= λ ps. deletion ps

abbrev pub unknown_of : List (List ℕ) → Option Line
unknown_of ws = number_at ws >>= λ a. number_at a.1 >>= λ b. only_number b.1 >>= λ n. Some (line.Unknown a.0 b.0 n)

abbrev pub rewrite_of : List (List ℕ) → Option Line
rewrite_of ws = number_at ws >>= λ a. number_at a.1 >>= λ b. only_number b.1 >>= λ u. Some (line.Rewrite a.0 b.0 u)

abbrev pub keywords : List (List ℕ × Keyword)
keywords =
    (codes "smt_proof", key.Header)
    ∷ (codes "t", key.Term)
    ∷ (codes "f", key.Leaf)
    ∷ (codes "e", key.Encode)
    ∷ (codes "r", key.Rewrite)
    ∷ (codes "s", key.Selector)
    ∷ (codes "c", key.Chain)
    ∷ (codes "q", key.Equal)
    ∷ (codes "l", key.Lemma)
    ∷ (codes "d", key.Delete)
    ∷ (codes "sat", key.Sat)
    ∷ (codes "v", key.Value)
    ∷ (codes "unsat", key.Unsat)
    ∷ (codes "unknown", key.Unknown)
    ∷ (codes "=", key.Take)
    ∷ (codes "+", key.Put)
    ∷ (codes "-", key.Drop)
    ∷ []

abbrev pub line_by : Keyword → List (List ℕ) → Option Line
line_by key.Header ws = header_of ws
line_by key.Term ws = term_of ws
line_by key.Leaf ws = one_number line.Leaf ws
line_by key.Encode ws = one_number line.Encode ws
line_by key.Rewrite ws = rewrite_of ws
line_by key.Selector ws = one_number line.Selector ws
line_by key.Chain ws = chain_of ws
line_by key.Equal ws = two_numbers line.Equal ws
line_by key.Lemma ws = lemma_of ws
line_by key.Delete ws = delete_of ws
line_by key.Sat ws = one_number line.Sat ws
line_by key.Value ws = declared_of ws
line_by key.Unsat ws = one_number line.Unsat ws
line_by key.Unknown ws = unknown_of ws
line_by key.Take ws = one_number line.Take ws
line_by key.Put ws = one_number line.Put ws
line_by key.Drop ws = one_number line.Drop ws

abbrev pub line_of : List (List ℕ) → Option Line
line_of [] = None
line_of (w ∷ ws) = look_up keywords w >>= λ k. line_by k ws

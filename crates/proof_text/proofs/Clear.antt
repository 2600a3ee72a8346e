-- No word of a line has a space or a line feed.
use Rattle.std.proofs.Common.{◌≡◌, ℕ, ◌^◌, ◌<◌, ◌≤◌, Bool, true, false, not, cond, List, [], ◌∷◌, ◌++◌, map, refl, arith, eqb, lt-ltb}
use Rattle.std.proofs.lemmas.Bool.{and_parts, ne_eqb}
use Rattle.std.proofs.lemmas.List.Folds.{list_all-append}
use Rattle.std.specs.Prelude.{nat_lt}
use Rattle.std.specs.Fmt.{decimal}
use Rattle.std.specs.List.{list_all, flat_map, AllByRecursion}
use Rattle.cnf_base.proofs.Lists.{each_append}
use Rattle.smt_terms.specs.declared.operator.Operator.{Operator}
use Rattle.smt_terms.specs.declared.operator.Operator.TheVariants as plain
use Rattle.proof_text.specs.Operators.{name_of}
use Rattle.proof_text.specs.declared.list.WrittenLiteral.{WrittenLiteral}
use Rattle.proof_text.specs.declared.list.WrittenHint.{WrittenHint}
use Rattle.proof_text.specs.declared.list.WrittenStart.{WrittenStart}
use Rattle.proof_text.specs.declared.list.WrittenStart.TheVariants as access
use Rattle.proof_text.specs.declared.list.Letter.{Letter}
use Rattle.proof_text.specs.declared.list.Letter.TheVariants.{Store, Then, Else, Sides}
use Rattle.proof_text.specs.declared.list.WrittenMove.{WrittenMove}
use Rattle.proof_text.specs.declared.list.WrittenAccess.{WrittenAccess}
use Rattle.proof_text.specs.declared.list.WrittenScalar.{WrittenScalar}
use Rattle.proof_text.specs.declared.list.WrittenScalar.TheVariants as scalar
use Rattle.proof_text.specs.declared.list.WrittenEntry.{WrittenEntry}
use Rattle.proof_text.specs.declared.line.Head.{Head}
use Rattle.proof_text.specs.declared.line.Head.TheVariants.{Plain, Word, Extract, ZeroExtend, SignExtend, RotateLeft, RotateRight, Repeat, Apply, ConstantArray}
use Rattle.proof_text.specs.declared.line.WrittenValue.{WrittenValue}
use Rattle.proof_text.specs.declared.line.WrittenValue.TheVariants as value
use Rattle.proof_text.specs.declared.line.Format.{Format}
use Rattle.proof_text.specs.declared.line.Format.TheVariants.{One, Two}
use Rattle.proof_text.specs.declared.line.Line.{Line}
use Rattle.proof_text.specs.declared.line.Line.TheVariants as line
use Rattle.proof_text.specs.Lines.{spaced, joined, head_words, literal_text, hint_text, start_text, letter_text, move_words, access_words, digit_of, digits_text, scalar_text, entry_words, value_words, format_text, words_of, IsNumber, IsHead, IsLiteral, IsHint, IsStart, IsMove, IsAccess, IsLine}
use Rattle.smt_text.specs.Lexicon.{is_digit}
use Rattle.proof_text.proofs.Numerals.{decimal_digits, digit_range, low_enough}
use Rattle.proof_text.proofs.Fields.{is_free}

-- ---- no word has a space or a line feed

abbrev is_clear : List ℕ → Bool
is_clear w = list_all (λ b. nat_lt 32 b) w

abbrev pub AreClear : List (List ℕ) → Type 0
AreClear ws = AllByRecursion (λ w. is_clear w ≡ true) ws

all_map : {X Y : Type 0} (P : X → Type 0) (Q : Y → Type 0) (f : X → Y) → ((x : X) → P x → Q (f x)) → (xs : List X) → AllByRecursion P xs → AllByRecursion Q (map f xs)
all_map P Q f h [] all = tt
all_map P Q f h (x ∷ xs) all = (h x all.0, all_map P Q f h xs all.1)

digits_clear : (w : List ℕ) → list_all is_digit w ≡ true → is_clear w ≡ true
digits_clear [] h = refl
digits_clear (b ∷ w) h =
    let p = and_parts (is_digit b) (list_all is_digit w) h in
    let r = digit_range b p.0 in
    let high : nat_lt 32 b ≡ true = lt-ltb 32 b (omega arith) in
    rw (high, digits_clear w p.1) refl

wide_clear : (n : ℕ) → n < 2 ^ 128 → is_clear (decimal n) ≡ true
wide_clear n h = digits_clear (decimal n) (decimal_digits n (omega arith))

number_clear : (n : ℕ) → IsNumber n → is_clear (decimal n) ≡ true
number_clear n h = wide_clear n (omega arith)

literal_clear : (l : WrittenLiteral) → IsLiteral l → is_clear (literal_text l) ≡ true
literal_clear l h = signed_clear l.positive
  where
    signed_clear : (p : Bool) → is_clear (cond p [] (45 ∷ []) ++ decimal l.variable) ≡ true
    signed_clear true = number_clear l.variable h.bound
    signed_clear false = rw (number_clear l.variable h.bound) refl

hint_clear : (h : WrittenHint) → IsHint h → is_clear (hint_text h) ≡ true
hint_clear h k = rw (list_all-append (λ b. nat_lt 32 b) (decimal h.pos) (46 ∷ decimal h.part), number_clear h.pos k.pos, number_clear h.part k.part) refl

binary_clear : (ds : List Bool) → is_clear (map digit_of ds) ≡ true
binary_clear [] = refl
binary_clear (true ∷ ds) = rw (binary_clear ds) refl
binary_clear (false ∷ ds) = rw (binary_clear ds) refl

digits_text_clear : (ds : List Bool) → is_clear (digits_text ds) ≡ true
digits_text_clear ds = rw (binary_clear ds) refl

scalar_clear : (v : WrittenScalar) → is_clear (scalar_text v) ≡ true
scalar_clear (scalar.Bool true) = refl
scalar_clear (scalar.Bool false) = refl
scalar_clear (scalar.Word ds) = digits_text_clear ds

scalars_clear : (vs : List WrittenScalar) → AreClear (map scalar_text vs)
scalars_clear [] = tt
scalars_clear (v ∷ vs) = (scalar_clear v, scalars_clear vs)

entries_clear : (es : List WrittenEntry) → AreClear (flat_map entry_words es)
entries_clear [] = tt
entries_clear (e ∷ es) = (digits_text_clear e.index, (digits_text_clear e.element, entries_clear es))

value_clear : (v : WrittenValue) → AreClear (value_words v)
value_clear (value.Bool b) = (scalar_clear (scalar.Bool b), tt)
value_clear (value.Word ds) = (digits_text_clear ds, tt)
value_clear (value.Array d es) = (refl, (digits_text_clear d, entries_clear es))
value_clear (value.Fun d vs) = (refl, (scalar_clear d, scalars_clear vs))

start_clear : (s : WrittenStart) → IsStart s → is_clear (start_text s) ≡ true
start_clear (access.Term t) h = number_clear t h
start_clear (access.Const k j) h = rw (list_all-append (λ b. nat_lt 32 b) (decimal k) (64 ∷ decimal j), number_clear k h.0, number_clear j h.1) refl

letter_clear : (l : Letter) → is_clear (letter_text l) ≡ true
letter_clear Store = refl
letter_clear Then = refl
letter_clear Else = refl
letter_clear Sides = refl

moves_clear : (ms : List WrittenMove) → AllByRecursion IsMove ms → AreClear (flat_map move_words ms)
moves_clear [] all = tt
moves_clear (m ∷ ms) all = (letter_clear m.letter, (number_clear m.term all.0, moves_clear ms all.1))

access_clear : (a : WrittenAccess) → IsAccess a → AreClear (access_words a)
access_clear a h = (start_clear a.start h.start, moves_clear a.moves h.moves)

name_clear : (op : Operator) → is_clear (name_of op) ≡ true
name_clear plain.True = refl
name_clear plain.False = refl
name_clear plain.Not = refl
name_clear plain.And = refl
name_clear plain.Or = refl
name_clear plain.Xor = refl
name_clear plain.Implies = refl
name_clear plain.Ite = refl
name_clear plain.Equal = refl
name_clear plain.Bvnot = refl
name_clear plain.Bvneg = refl
name_clear plain.Bvadd = refl
name_clear plain.Bvsub = refl
name_clear plain.Bvmul = refl
name_clear plain.Bvand = refl
name_clear plain.Bvor = refl
name_clear plain.Bvxor = refl
name_clear plain.Bvnand = refl
name_clear plain.Bvnor = refl
name_clear plain.Bvxnor = refl
name_clear plain.Bvudiv = refl
name_clear plain.Bvurem = refl
name_clear plain.Bvsdiv = refl
name_clear plain.Bvsrem = refl
name_clear plain.Bvsmod = refl
name_clear plain.Bvshl = refl
name_clear plain.Bvlshr = refl
name_clear plain.Bvashr = refl
name_clear plain.Bvult = refl
name_clear plain.Bvule = refl
name_clear plain.Bvugt = refl
name_clear plain.Bvuge = refl
name_clear plain.Bvslt = refl
name_clear plain.Bvsle = refl
name_clear plain.Bvsgt = refl
name_clear plain.Bvsge = refl
name_clear plain.Bvcomp = refl
name_clear plain.Concat = refl
name_clear plain.Select = refl
name_clear plain.Store = refl
name_clear plain.Witness = refl

head_clear : (h : Head) → IsHead h → AreClear (head_words h)
head_clear (Plain op) k = (name_clear op, tt)
head_clear (Word n x) k = (refl, (number_clear n k.0, (wide_clear x k.1, tt)))
head_clear (Extract i j) k = (refl, (number_clear i k.0, (number_clear j k.1, tt)))
head_clear (ZeroExtend i) k = (refl, (number_clear i k, tt))
head_clear (SignExtend i) k = (refl, (number_clear i k, tt))
head_clear (RotateLeft i) k = (refl, (number_clear i k, tt))
head_clear (RotateRight i) k = (refl, (number_clear i k, tt))
head_clear (Repeat i) k = (refl, (number_clear i k, tt))
head_clear (Apply i) k = (refl, (number_clear i k, tt))
head_clear (ConstantArray i) k = (refl, (number_clear i k, tt))

format_clear : (f : Format) → is_clear (format_text f) ≡ true
format_clear One = refl
format_clear Two = refl

pub words_clear : (l : Line) → IsLine l → AreClear (words_of l)
words_clear (line.Header f c b) h = (refl, (format_clear f, (refl, (number_clear c h.0, (refl, (number_clear b h.1, tt))))))
words_clear (line.Term head args) h = (refl, each_append (λ w. is_clear w ≡ true) (head_words head) (map decimal args) (head_clear head h.0) (all_map IsNumber (λ w. is_clear w ≡ true) decimal number_clear args h.1))
words_clear (line.Leaf n) h = (refl, (number_clear n h, tt))
words_clear (line.Encode n) h = (refl, (number_clear n h, tt))
words_clear (line.Rewrite r t u) h = (refl, (number_clear r h.0, (number_clear t h.1, (number_clear u h.2, tt))))
words_clear (line.Selector n) h = (refl, (number_clear n h, tt))
words_clear (line.Chain clause hints) h = (
  refl,
  each_append (λ w. is_clear w ≡ true) (map literal_text clause) ((48 ∷ []) ∷ map hint_text hints) (all_map IsLiteral (λ w. is_clear w ≡ true) literal_text literal_clear clause h.0)
      (refl, all_map IsHint (λ w. is_clear w ≡ true) hint_text hint_clear hints h.1),
)
words_clear (line.Equal t u) h = (refl, (number_clear t h.0, (number_clear u h.1, tt)))
words_clear (line.Congruence t u) h = (refl, (refl, (number_clear t h.0, (number_clear u h.1, tt))))
words_clear (line.Witness t) h = (refl, (refl, (number_clear t h, tt)))
words_clear (line.Accesses a b) h =
    (refl, (refl, each_append (λ w. is_clear w ≡ true) (access_words a) ((47 ∷ []) ∷ access_words b) (access_clear a h.0) (refl, access_clear b h.1)))
words_clear (line.Delete ps) h = (refl, all_map IsNumber (λ w. is_clear w ≡ true) decimal number_clear ps h.1)
words_clear (line.Sat n) h = (refl, (number_clear n h, tt))
words_clear (line.Value d v) h = (refl, (number_clear d h.0, value_clear v))
words_clear (line.Unsat n) h = (refl, (number_clear n h, tt))
words_clear (line.Unknown n g c) h = (refl, (number_clear n h.0, (number_clear g h.1, (number_clear c h.2, tt))))
words_clear (line.Take n) h = (refl, (number_clear n h, tt))
words_clear (line.Put n) h = (refl, (number_clear n h, tt))
words_clear (line.Drop n) h = (refl, (number_clear n h, tt))

clear_free : (mark : ℕ) (w : List ℕ) → mark ≤ 32 → is_clear w ≡ true → is_free mark w ≡ true
clear_free mark [] low h = refl
clear_free mark (b ∷ w) low h =
    let p = and_parts (nat_lt 32 b) (is_clear w) h in
    let r = low_enough 32 b p.0 in
    let other : eqb b mark ≡ false = ne_eqb b mark (λ e. absurd (omega arith)) in
    rw (other, clear_free mark w low p.1) refl

pub all_free : (mark : ℕ) (ws : List (List ℕ)) → mark ≤ 32 → AreClear ws → AllByRecursion (λ w. is_free mark w ≡ true) ws
all_free mark [] low h = tt
all_free mark (w ∷ ws) low h = (clear_free mark w low h.0, all_free mark ws low h.1)

spaced_free : (ws : List (List ℕ)) → AreClear ws → is_free 10 (spaced ws) ≡ true
spaced_free [] h = refl
spaced_free (w ∷ ws) h = rw (list_all-append (λ b. not (eqb b 10)) w (spaced ws), clear_free 10 w (omega arith) h.0, spaced_free ws h.1) refl

pub joined_free : (ws : List (List ℕ)) → AreClear ws → is_free 10 (joined ws) ≡ true
joined_free [] h = refl
joined_free (w ∷ ws) h = rw (list_all-append (λ b. not (eqb b 10)) w (spaced ws), clear_free 10 w (omega arith) h.0, spaced_free ws h.1) refl

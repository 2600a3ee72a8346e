-- The tokens of a text (SMT-LIB 2.6, section 3.1).
use Rattle.std.specs.Prelude.{ℕ, ◌+◌, Bool, true, false, not, ◌&&◌, ◌||◌, List, [], ◌∷◌, length, take, drop, map, nat_le, nat_lt, slice_index, unwrap_or, position, Option, Some, None, Result, Ok, Err, if◌then◌else◌, ◌==◌, codes}
use Rattle.std.specs.List.{prefix_len, list_all}
use Rattle.std.specs.Option.{option_map}
use Rattle.std.specs.Str.{bytes_eq}
use Rattle.smt_text.specs.Chunks.{beginning}
use Rattle.smt_text.specs.declared.token.CommandName.TheVariants as command
use Rattle.smt_text.specs.declared.token.TokenKind.{TokenKind}
use Rattle.smt_text.specs.declared.token.TokenKind.TheVariants.{Open, Close, Numeral, Decimal, Hexadecimal, Binary, String, Keyword, Symbol, Underscore, Bang, As, Exists, Forall, Let, Match, Command, Reserved}
use Rattle.smt_text.specs.declared.token.Token.{Token}

-- ---- words

abbrev pub is_digit : ℕ → Bool
is_digit b = nat_le 48 b && nat_le b 57

abbrev pub is_letter : ℕ → Bool
is_letter b = (nat_le 97 b && nat_le b 122) || (nat_le 65 b && nat_le b 90)

-- ~ ! @ $ % ^ & * _ - + = < > . ? /
abbrev pub is_symbol_mark : ℕ → Bool
is_symbol_mark b = b == 126 || b == 33 || b == 64 || b == 36 || b == 37 || b == 94 || b == 38 || b == 42 || b == 95 || b == 45 || b == 43 || b == 61 || b == 60 || b == 62 || b == 46 || b == 63 || b == 47

abbrev pub is_symbol_byte : ℕ → Bool
is_symbol_byte b = is_letter b || is_digit b || is_symbol_mark b

abbrev pub is_bit : ℕ → Bool
is_bit b = b == 48 || b == 49

abbrev pub is_hexadecimal_digit : ℕ → Bool
is_hexadecimal_digit b = is_digit b || (nat_le 97 b && nat_le b 102) || (nat_le 65 b && nat_le b 70)

-- a word ends before white space, a parenthesis, a comment, a string or a quoted symbol
abbrev pub is_word_byte : ℕ → Bool
is_word_byte b = not (b == 32 || b == 9 || b == 10 || b == 13 || b == 40 || b == 41 || b == 59 || b == 34 || b == 124)

abbrev pub are_digits : List ℕ → Bool
are_digits [] = false
are_digits (b ∷ bs) = list_all is_digit (b ∷ bs)

-- 0, or digits that do not begin with 0
abbrev pub is_numeral : List ℕ → Bool
is_numeral [] = false
is_numeral (b ∷ []) = list_all is_digit (b ∷ [])
is_numeral (b ∷ c ∷ bs) = not (b == 48) && list_all is_digit (b ∷ c ∷ bs)

-- a numeral before the point, which stands behind n bytes, and digits behind it
abbrev pub is_decimal_at : List ℕ → Option ℕ → Bool
is_decimal_at w None = false
is_decimal_at w (Some n) = is_numeral (take n w) && are_digits (drop (n + 1) w)

abbrev pub first_point : List ℕ → Option ℕ
first_point w = position (λ b. b == 46) w

abbrev pub is_decimal : List ℕ → Bool
is_decimal w = is_decimal_at w (first_point w)

-- #x and at least one hexadecimal digit
abbrev pub is_hexadecimal : List ℕ → Bool
is_hexadecimal (h ∷ l ∷ b ∷ bs) = (h == 35) && (l == 120) && list_all is_hexadecimal_digit (b ∷ bs)
is_hexadecimal _ = false

-- #b and at least one binary digit
abbrev pub is_binary : List ℕ → Bool
is_binary (h ∷ l ∷ b ∷ bs) = (h == 35) && (l == 98) && list_all is_bit (b ∷ bs)
is_binary _ = false

-- a colon and characters of a simple symbol
abbrev pub is_keyword : List ℕ → Bool
is_keyword (c ∷ b ∷ bs) = (c == 58) && list_all is_symbol_byte (b ∷ bs)
is_keyword _ = false

-- the shape of a simple symbol, which reserved words have too
abbrev pub is_symbol : List ℕ → Bool
is_symbol [] = false
is_symbol (b ∷ bs) = not (is_digit b) && list_all is_symbol_byte (b ∷ bs)

-- the names of commands
abbrev pub command_words : List (List ℕ × TokenKind)
command_words =
    (codes "assert", Command command.Assert)
    ∷ (codes "check-sat", Command command.CheckSat)
    ∷ (codes "check-sat-assuming", Command command.CheckSatAssuming)
    ∷ (codes "declare-const", Command command.DeclareConst)
    ∷ (codes "declare-datatype", Command command.DeclareDatatype)
    ∷ (codes "declare-datatypes", Command command.DeclareDatatypes)
    ∷ (codes "declare-fun", Command command.DeclareFun)
    ∷ (codes "declare-sort", Command command.DeclareSort)
    ∷ (codes "define-fun", Command command.DefineFun)
    ∷ (codes "define-fun-rec", Command command.DefineFunRec)
    ∷ (codes "define-funs-rec", Command command.DefineFunsRec)
    ∷ (codes "define-sort", Command command.DefineSort)
    ∷ (codes "echo", Command command.Echo)
    ∷ (codes "exit", Command command.Exit)
    ∷ (codes "get-assertions", Command command.GetAssertions)
    ∷ (codes "get-assignment", Command command.GetAssignment)
    ∷ (codes "get-info", Command command.GetInfo)
    ∷ (codes "get-model", Command command.GetModel)
    ∷ (codes "get-option", Command command.GetOption)
    ∷ (codes "get-proof", Command command.GetProof)
    ∷ (codes "get-unsat-assumptions", Command command.GetUnsatAssumptions)
    ∷ (codes "get-unsat-core", Command command.GetUnsatCore)
    ∷ (codes "get-value", Command command.GetValue)
    ∷ (codes "pop", Command command.Pop)
    ∷ (codes "push", Command command.Push)
    ∷ (codes "reset", Command command.Reset)
    ∷ (codes "reset-assertions", Command command.ResetAssertions)
    ∷ (codes "set-info", Command command.SetInfo)
    ∷ (codes "set-logic", Command command.SetLogic)
    ∷ (codes "set-option", Command command.SetOption)
    ∷ []

-- the reserved words
abbrev pub reserved_words : List (List ℕ × TokenKind)
reserved_words =
    (codes "_", Underscore)
    ∷ (codes "!", Bang)
    ∷ (codes "as", As)
    ∷ (codes "exists", Exists)
    ∷ (codes "forall", Forall)
    ∷ (codes "let", Let)
    ∷ (codes "match", Match)
    ∷ (codes "par", Reserved)
    ∷ (codes "BINARY", Reserved)
    ∷ (codes "DECIMAL", Reserved)
    ∷ (codes "HEXADECIMAL", Reserved)
    ∷ (codes "NUMERAL", Reserved)
    ∷ (codes "STRING", Reserved)
    ∷ command_words

abbrev pub look_up : List (List ℕ × TokenKind) → List ℕ → Option TokenKind
look_up [] word = None
look_up (entry ∷ entries) word = if bytes_eq word entry.0 then Some entry.1 else look_up entries word

-- the kind of a reserved word; none for any other word
unfoldable pub reserved_kind : List ℕ → Option TokenKind
reserved_kind = look_up reserved_words

abbrev pub kind_of_number : List ℕ → Option TokenKind
kind_of_number w =
    if is_numeral w then Some Numeral
    else (if is_decimal w then Some Decimal
    else (if is_hexadecimal w then Some Hexadecimal
    else (if is_binary w then Some Binary
    else None)))

-- what a word is, if it is anything; no word is of two of these shapes
abbrev pub kind_of_word : List ℕ → Option TokenKind
kind_of_word w =
    if is_keyword w then Some Keyword
    else (if is_symbol w then Some (unwrap_or (reserved_kind w) Symbol)
    else kind_of_number w)

-- ---- tokens

-- how many bytes stand before the quote that ends a string, two quotes standing for one
unfoldable pub string_end : List ℕ → Option ℕ
string_end [] = None
string_end (b ∷ []) = if b == 34 then Some 0 else None
string_end (b ∷ c ∷ bs) = if b == 34 then (if c == 34 then option_map (λ n. n + 2) (string_end bs) else Some 0) else option_map (λ n. n + 1) (string_end (c ∷ bs))

-- within bars stands neither a bar nor a backslash
abbrev pub is_quoted_byte : ℕ → Bool
is_quoted_byte b = not (b == 124 || b == 92)

-- a token without where it lies in memory
pub record Lexeme : Type 0 where
  pub kind : TokenKind
  pub text : List ℕ
  pub quoted : Bool

abbrev pub lexeme_of : Token → Lexeme
lexeme_of t = record { kind = t.kind; text = t.text.now; quoted = t.quoted }

abbrev pub lexemes_of : List Token → List Lexeme
lexemes_of ts = map lexeme_of ts

-- a word, with its length
abbrev pub word_lexeme : List ℕ → Option TokenKind → Option (Lexeme × ℕ)
word_lexeme w None = None
word_lexeme w (Some k) = Some (record { kind = k; text = w; quoted = false }, length w)

abbrev pub string_lexeme : List ℕ → Option ℕ → Option (Lexeme × ℕ)
string_lexeme bs None = None
string_lexeme bs (Some n) = Some (record { kind = String; text = take n bs; quoted = false }, n + 2)

abbrev pub quoted_lexeme : List ℕ → ℕ → Option (Lexeme × ℕ)
quoted_lexeme bs n = if nat_lt n (length bs) && (slice_index bs n == 124) then Some (record { kind = Symbol; text = take n bs; quoted = true }, n + 2) else None

-- the word at the front
abbrev pub first_word : List ℕ → List ℕ
first_word bs = take (prefix_len is_word_byte bs) bs

-- the token that begins with the first byte, and how many bytes it has
unfoldable pub lexeme_at : List ℕ → Option (Lexeme × ℕ)
lexeme_at [] = None
lexeme_at (b ∷ bs) =
    if b == 40 then Some (record { kind = Open; text = []; quoted = false }, 1)
    else (if b == 41 then Some (record { kind = Close; text = []; quoted = false }, 1)
    else (if b == 34 then string_lexeme bs (string_end bs)
    else (if b == 124 then quoted_lexeme bs (prefix_len is_quoted_byte bs)
    else word_lexeme (first_word (b ∷ bs)) (kind_of_word (first_word (b ∷ bs))))))

-- the first token with how many bytes it ends behind, or where the first byte of a bad token stands; Ok None: there is none
abbrev pub First : Type 0
First = Result (Option (Lexeme × ℕ)) ℕ

abbrev pub behind : ℕ → Option (Lexeme × ℕ) → First
behind n None = Err n
behind n (Some t) = Ok (Some (t.0, n + t.1))

abbrev pub found_from : List ℕ → Option ℕ → First
found_from bytes None = Ok None
found_from bytes (Some n) = behind n (lexeme_at (drop n bytes))

unfoldable pub first_token : List ℕ → First
first_token bytes = found_from bytes (beginning false bytes)

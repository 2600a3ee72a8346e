-- How symbols, strings and tokens are spelled (SMT-LIB 2.6, section 3.1).
use Rattle.std.specs.Prelude.{ℕ, Bool, false, not, ◌&&◌, ◌||◌, List, [], ◌∷◌, ◌++◌, is_none, if◌then◌else◌, ◌==◌, IsTrue}
use Rattle.std.specs.List.{flat_map}
use Rattle.smt_text.specs.Chunks.{is_space}
use Rattle.smt_text.specs.Lexicon.{Lexeme, is_symbol, reserved_kind}
use Rattle.smt_text.specs.declared.token.TokenKind.{TokenKind}
use Rattle.smt_text.specs.declared.token.TokenKind.TheVariants.{Open, Close, String, Symbol}

-- a simple symbol is no reserved word
abbrev pub is_simple : List ℕ → Bool
is_simple name = is_symbol name && is_none (reserved_kind name)

-- between two bytes of a kind
abbrev pub between : ℕ → List ℕ → List ℕ
between mark bytes = mark ∷ (bytes ++ mark ∷ [])

abbrev pub symbol_text : List ℕ → List ℕ
symbol_text name = if is_simple name then name else between 124 name

abbrev pub symbol_lexeme : List ℕ → Lexeme
symbol_lexeme name = record { kind = Symbol; text = name; quoted = not (is_simple name) }

abbrev pub doubled_byte : ℕ → List ℕ
doubled_byte b = if b == 34 then 34 ∷ 34 ∷ [] else (b ∷ [])

-- each quote is written twice
abbrev pub doubled : List ℕ → List ℕ
doubled bytes = flat_map doubled_byte bytes

abbrev pub string_text : List ℕ → List ℕ
string_text value = between 34 (doubled value)

abbrev pub string_lexeme_of : List ℕ → Lexeme
string_lexeme_of value = record { kind = String; text = doubled value; quoted = false }

-- the value of a string literal: of two quotes, one
abbrev pub string_value : List ℕ → List ℕ
string_value [] = []
string_value (b ∷ []) = b ∷ []
string_value (b ∷ c ∷ bs) = if b == 34 then b ∷ string_value bs else b ∷ string_value (c ∷ bs)

-- in bars where it stood in bars
abbrev pub barred : Bool → List ℕ → List ℕ
barred quoted text = if quoted then between 124 text else text

-- a token as it is written
abbrev pub token_text : Lexeme → List ℕ
token_text t = text_of t.kind t.quoted t.text
  where
    text_of : TokenKind → Bool → List ℕ → List ℕ
    text_of Open _ _ = 40 ∷ []
    text_of Close _ _ = 41 ∷ []
    text_of String _ text = between 34 text
    text_of _ quoted text = barred quoted text

-- white space, a parenthesis, a comment or the end
abbrev pub IsApart : List ℕ → Type 0
IsApart [] = Unit {0}
IsApart (b ∷ bs) = IsTrue (is_space b || b == 40 || b == 41 || b == 59)

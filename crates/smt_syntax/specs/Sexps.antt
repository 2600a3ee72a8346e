-- S-expressions: words, and lists in parentheses (SMT-LIB 2.6, section 3.2).
use Rattle.std.specs.Prelude.{ℕ, List, [], ◌∷◌, ◌++◌, map}
use Rattle.smt_text.specs.Lexicon.{Lexeme}
use Rattle.smt_text.specs.declared.token.Token.{Token}
use Rattle.smt_text.specs.declared.token.TokenKind.{TokenKind}
use Rattle.smt_text.specs.declared.token.TokenKind.TheVariants.{Open, Close}

-- a token as S-expressions are made of: a parenthesis, or a word; whether a symbol stood in bars does not count
pub data Sign : Type 0 where
  open_paren close_paren : Sign
  word : TokenKind → List ℕ → Sign

abbrev pub sign_by : TokenKind → List ℕ → Sign
sign_by Open text = open_paren
sign_by Close text = close_paren
sign_by kind text = word kind text

abbrev pub sign_of : Lexeme → Sign
sign_of l = sign_by l.kind l.text

abbrev pub signs_of : List Lexeme → List Sign
signs_of ls = map sign_of ls

abbrev pub sign_in : Token → Sign
sign_in t = sign_by t.kind t.text.now

abbrev pub signs_in : List Token → List Sign
signs_in ts = map sign_in ts

mutual
  pub data Sexp : Type 0 where
    atom : TokenKind → List ℕ → Sexp
    group : Sexps → Sexp

  pub data Sexps : Type 0 where
    none : Sexps
    more : Sexp → Sexps → Sexps

-- the one way to write it in tokens
abbrev mutual
  pub spelling : Sexp → List Sign
  spelling (atom k text) = word k text ∷ []
  spelling (group es) = open_paren ∷ spellings es ++ close_paren ∷ []

  pub spellings : Sexps → List Sign
  spellings none = []
  spellings (more e es) = spelling e ++ spellings es

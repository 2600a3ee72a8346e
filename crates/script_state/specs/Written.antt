-- Terms as a script has them: their tokens, with one space between parts (SMT-LIB 2.6, section 4.2.7, which prints terms as
-- they were given).
use Rattle.std.specs.Prelude.{ℕ, List, [], ◌∷◌, ◌++◌, length, take, drop}
use Rattle.smt_text.specs.Lexicon.{Lexeme}
use Rattle.smt_text.specs.Printing.{token_text}
use Rattle.smt_text.specs.declared.token.TokenKind.{TokenKind}
use Rattle.smt_text.specs.declared.token.TokenKind.TheVariants.{Open, Close}
use Rattle.smt_syntax.specs.Sexps.{Sexp, spelling}

-- a space stands between two tokens, but behind one that opens a list, and before one that closes it
abbrev pub space_between : TokenKind → TokenKind → List ℕ
space_between Open kind = []
space_between before Close = []
space_between before kind = 32 ∷ []

-- the text of tokens behind one of this kind
abbrev pub text_behind : TokenKind → List Lexeme → List ℕ
text_behind before [] = []
text_behind before (t ∷ ts) = space_between before t.kind ++ token_text t ++ text_behind t.kind ts

-- nothing stands before the first
abbrev pub tokens_text : List Lexeme → List ℕ
tokens_text tokens = text_behind Open tokens

-- how many tokens an S-expression is written in
abbrev pub token_count : Sexp → ℕ
token_count e = length (spelling e)

-- the text of the S-expression with which the tokens begin
abbrev pub written : List Lexeme → Sexp → List ℕ
written tokens e = tokens_text (take (token_count e) tokens)

-- the tokens behind it
abbrev pub behind : List Lexeme → Sexp → List Lexeme
behind tokens e = drop (token_count e) tokens

-- the tokens of what stands in the list that is a command's argument: behind its parenthesis, its name, and that of the list
abbrev pub listed : List Lexeme → List Lexeme
listed tokens = drop 3 tokens

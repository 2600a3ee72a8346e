-- The tokens of a whole text, and its first bad token.
use Rattle.std.specs.Prelude.{◌≡◌, ℕ, ◌+◌, List, [], ◌∷◌, drop, Option, Some, None, Result, Ok, Err}
use Rattle.smt_text.specs.Lexicon.{Lexeme, First, first_token, lexeme_of}
use Rattle.smt_text.specs.declared.token.Token.{Token}
use Rattle.smt_text.specs.declared.tokens.TokensError.{TokensError}
use Rattle.smt_text.specs.declared.tokens.TokensError.TheVariants.{NoMemory, Bad}

-- from its front the text has these tokens, behind which rest stands at the place
abbrev pub Spells : ℕ → List ℕ → List Lexeme → ℕ → List ℕ → Type 0
Spells at text [] place rest = (place ≡ at) × (rest ≡ text)
Spells at text (t ∷ ts) place rest = (n : ℕ) × (first_token text ≡ Ok (Some (t, n))) × Spells (at + n) (drop n text) ts place rest

-- the tokens of the text
pub record AreTokens (text : List ℕ) (ts : List Lexeme) : Type 0 where
  pub place : ℕ
  pub rest : List ℕ
  pub spells : Spells 0 text ts place rest
  pub ends : first_token rest ≡ Ok None

-- the first bad token of the text stands there
pub record IsBadAt (text : List ℕ) (bad : ℕ) : Type 0 where
  pub ts : List Lexeme
  pub place : ℕ
  pub rest : List ℕ
  pub spells : Spells 0 text ts place rest
  pub within : ℕ
  pub faulty : first_token rest ≡ Err within
  pub bad_is : bad ≡ place + within

abbrev pub SeesFirst : Result (Option (Token × ℕ)) ℕ → First → Type 0
SeesFirst (Ok None) first = first ≡ Ok None
SeesFirst (Ok (Some t)) first = first ≡ Ok (Some (lexeme_of t.0, t.1))
SeesFirst (Err n) first = first ≡ Err n

-- The answer is the tokens of the text, or where its first bad token stands.
abbrev pub Tokenizes : List ℕ → Result (List Lexeme) TokensError → Type 0
Tokenizes text (Ok ts) = AreTokens text ts
Tokenizes text (Err (Bad fault)) = IsBadAt text fault.place
Tokenizes text (Err NoMemory) = Unit {0}

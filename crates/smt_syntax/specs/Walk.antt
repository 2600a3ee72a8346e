-- A walk over an S-expression: each part is read in a context, and handed to the list that it stands in.
use Rattle.std.specs.Prelude.{ℕ, List, [], ◌∷◌, Result, Ok, Err}
use Rattle.smt_text.specs.declared.token.TokenKind.{TokenKind}
use Rattle.smt_syntax.specs.Sexps.{Sign, open_paren, close_paren, word, Sexp, Sexps, atom, group, none, more}

-- the first fault ends a reading
infixl 10 ◌>>=◌
abbrev pub ◌>>=◌ : {E A B : Type 0} → Result A E → (A → Result B E) → Result B E
(Ok x) >>= f = f x
(Err e) >>= f = Err e

-- what a reader does: with a word in a context, with a list that opens there, with a part of a list, and when the list closes
pub record Reader (C F V S E : Type 0) : Type 0 where
  pub at_word : C → S → TokenKind → List ℕ → Result (V × S) E
  pub opens : C → S → Result (F × S) E
  pub context : F → C
  pub takes : F → V → S → Result (F × S) E
  pub closes : F → S → Result (V × S) E
  pub stuck : E

module _ {C F V S E : Type 0} (reader : Reader C F V S E) where
  unfoldable mutual
    pub walk : C → S → Sexp → Result (V × S) E
    walk c s (atom k text) = reader.at_word c s k text
    walk c s (group es) = reader.opens c s >>= λ f. walks f.0 f.1 es >>= λ r. reader.closes r.0 r.1

    pub walks : F → S → Sexps → Result (F × S) E
    walks f s none = Ok (f, s)
    walks f s (more e es) = walk (reader.context f) s e >>= λ v. reader.takes f v.0 v.1 >>= λ r. walks r.0 r.1 es

  -- the context of the next token, with these lists open, the innermost first
  abbrev pub context_in : C → List F → C
  context_in c [] = c
  context_in c (f ∷ fs) = reader.context f

  -- what the rest of the tokens gives, with these lists open
  unfoldable pub run : C → List F → S → List Sign → Result (V × S) E
  run c st s [] = Err reader.stuck
  run c st s (open_paren ∷ rest) = reader.opens (context_in c st) s >>= λ f. run c (f.0 ∷ st) f.1 rest
  run c st s (word k text ∷ rest) = reader.at_word (context_in c st) s k text >>= λ v. elim st [
    | [] ↦ Ok v
    | f ∷ fs ↦ reader.takes f v.0 v.1 >>= λ r. run c (r.0 ∷ fs) r.1 rest
  ]
  run c [] s (close_paren ∷ rest) = Err reader.stuck
  run c (f ∷ fs) s (close_paren ∷ rest) = reader.closes f s >>= λ v. elim fs [
    | [] ↦ Ok v
    | g ∷ gs ↦ reader.takes g v.0 v.1 >>= λ r. run c (r.0 ∷ gs) r.1 rest
  ]

  -- a part that a token ends, with the lists that are open then
  unfoldable pub ended : C → List F → S → Sign → Result ((V × S) × List F) E
  ended c st s open_paren = Err reader.stuck
  ended c [] s close_paren = Err reader.stuck
  ended c (f ∷ fs) s close_paren = reader.closes f s >>= λ v. Ok (v, fs)
  ended c st s (word k text) = reader.at_word (context_in c st) s k text >>= λ v. Ok (v, st)

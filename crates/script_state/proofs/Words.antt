-- Which token stands at the front of a span.
use Rattle.std.proofs.Common.{◌≡◌, ℕ, zero, suc, ◌<◌, Bool, false, List, [], ◌∷◌, ◌++◌, length, get_or, drop, take, refl, ap, ◌∙◌, arith}
use Rattle.smt_text.specs.Lexicon.{lexemes_of}
use Rattle.smt_text.specs.declared.token.Token.{Token}
use Rattle.smt_text.specs.declared.token.TokenKind.{TokenKind}
use Rattle.smt_text.specs.declared.token.TokenKind.TheVariants as kind
use Rattle.smt_syntax.specs.declared.span.Span.{Span}
use Rattle.smt_syntax.specs.Sexps.{Sign, open_paren, close_paren, word, Sexp, atom, group, spellings, sign_by, sign_in, signs_in, signs_of}
use Rattle.smt_syntax.specs.Spans.{Stands}
use Rattle.smt_syntax.proofs.CommandReadings.{signs_same}
use Rattle.script_state.specs.Steps.{is_logic, names_logic}

front : (ts : List Token) (n i : ℕ) (s : Sign) (rest : List Sign) (d : Token) → ◌≡◌ {A = List Sign} (take n (drop i (signs_in ts))) (s ∷ rest) → (i < length ts) × (sign_in (get_or ts i d) ≡ s)
front [] zero zero s rest d e = absurd (let z : ⊥ = cc in z)
front [] zero (suc i) s rest d e = absurd (let z : ⊥ = cc in z)
front [] (suc n) zero s rest d e = absurd (let z : ⊥ = cc in z)
front [] (suc n) (suc i) s rest d e = absurd (let z : ⊥ = cc in z)
front (u ∷ us) zero zero s rest d e = absurd (let z : ⊥ = cc in z)
front (u ∷ us) (suc n) zero s rest d e = (omega arith, cc)
front (u ∷ us) n (suc i) s rest d e = let h = front us n i s rest d e in (omega (arith, h.0), h.1)

abbrev names_by : TokenKind → List ℕ → Bool
names_by kind.Symbol x = is_logic x
names_by _ x = false

symbol_names : (k : TokenKind) (x : List ℕ) → k ≡ kind.Symbol → is_logic x ≡ names_by k x
symbol_names k x e = rw e refl

other_names : (k : TokenKind) (x : List ℕ) → (k ≡ kind.Symbol → ⊥) → false ≡ names_by k x
other_names kind.Symbol x other = absurd (other refl)
other_names _ x other = refl

by_word : (k j : TokenKind) (x y : List ℕ) → sign_by k x ≡ word j y → names_by k x ≡ names_logic (atom j y)
by_word kind.Open j x y e = absurd (let z : ⊥ = cc in z)
by_word kind.Close j x y e = absurd (let z : ⊥ = cc in z)
by_word k j x y e = ap names_logic (let p : atom k x ≡ atom j y = cc in p)

by_list : (k : TokenKind) (x : List ℕ) → sign_by k x ≡ open_paren → names_by k x ≡ false
by_list kind.Symbol x e = absurd (let z : ⊥ = cc in z)
by_list _ x e = refl

module _ (ts : List Token) (span : Span) (d : Token) where
  -- something stands only before the end
  pub stands_within : (e : Sexp) → Stands (signs_of (lexemes_of ts)) span e → span.start < length ts
  stands_within (atom k x) stands = (front ts _ span.start (word k x) [] d (rw signs_same at stands.spelled)).0
  stands_within (group es) stands = (front ts _ span.start open_paren (spellings es ++ close_paren ∷ []) d (rw signs_same at stands.spelled)).0

  names_first : (e : Sexp) → Stands (signs_of (lexemes_of ts)) span e → names_by (get_or ts span.start d).kind (get_or ts span.start d).text.now ≡ names_logic e
  names_first (atom k x) stands = by_word _ k _ x (front ts _ span.start (word k x) [] d (rw signs_same at stands.spelled)).1
  names_first (group es) stands = by_list _ _ (front ts _ span.start open_paren (spellings es ++ close_paren ∷ []) d (rw signs_same at stands.spelled)).1

  -- whether a logic is named is seen from the first token
  pub first_is_symbol : (e : Sexp) → Stands (signs_of (lexemes_of ts)) span e → (get_or ts span.start d).kind ≡ kind.Symbol → is_logic (get_or ts span.start d).text.now ≡ names_logic e
  first_is_symbol e stands is = symbol_names _ _ is ∙ names_first e stands

  pub first_is_other : (e : Sexp) → Stands (signs_of (lexemes_of ts)) span e → ((get_or ts span.start d).kind ≡ kind.Symbol → ⊥) → false ≡ names_logic e
  first_is_other e stands other = other_names _ _ other ∙ names_first e stands

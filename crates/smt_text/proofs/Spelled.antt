-- The loop over the tokens of a text.
use Rattle.std.proofs.Common.{◌≡◌, ℕ, ◌+◌, ◌-◌, ◌≤◌, List, [], ◌∷◌, ◌++◌, length, take, drop, refl, ap, sym, ◌∙◌, subst, arith, Some, None, Ok, Err}
use Rattle.std.proofs.lemmas.List.{drop-drop, map-append, length-drop, take_rest}
use Rattle.smt_text.specs.Lexicon.{Lexeme, First, first_token, lexeme_of, lexemes_of}
use Rattle.smt_text.specs.Tokens.{Spells, AreTokens, IsBadAt}
use Rattle.smt_text.specs.declared.token.Token.{Token}

Spells-push : (at : ℕ) (text : List ℕ) (ts : List Lexeme) (place : ℕ) (rest : List ℕ) (t : Lexeme) (n : ℕ) → Spells at text ts place rest → first_token rest ≡ Ok (Some (t, n)) → Spells at text (ts ++ t ∷ []) (place + n) (drop n rest)
Spells-push at text [] place rest t n s e = (n, rw s.1 at e, (rw s.0 refl, rw s.1 refl))
Spells-push at text (u ∷ ts) place rest t n s e = (s.0, s.1, Spells-push (at + s.0) (drop s.0 text) ts place rest t n s.2 e)

-- behind these tokens the loop stands at a place of the text
pub record Spelled (text : List ℕ) (ts : List Token) (at : ℕ) : Type 0 where
  pub within : at ≤ length text
  pub spells : Spells 0 text (lexemes_of ts) at (drop at text)

pub spelled_none : (text : List ℕ) (ts : List Token) → ts ≡ [] → Spelled text ts 0
spelled_none text ts e = record { within = omega arith; spells = rw e (refl, refl) }

pub spelled_push : (text : List ℕ) (ts more : List Token) (at : ℕ) (t : Token) (n : ℕ) → Spelled text ts at → first_token (take (length text - at) (drop at text)) ≡ Ok (Some (lexeme_of t, n)) → n ≤ length (take (length text - at) (drop at text)) → more ≡ ts ++ t ∷ [] → Spelled text more (at + n)
spelled_push text ts more at t n s e l m =
    let k = rw (take_rest text at, length-drop) at l in
    record {
      within = omega (arith, k, s.within);
      spells = rw (m, map-append lexeme_of ts (t ∷ [])) (subst (λ (rest : List ℕ). Spells 0 text (lexemes_of ts ++ lexeme_of t ∷ []) (at + n) rest) (drop-drop n at text) (Spells-push 0 text (lexemes_of ts) at (drop at text) (lexeme_of t) n s.spells (rw take_rest at e)));
    }

pub spelled_all : (text : List ℕ) (ts : List Token) (at : ℕ) → Spelled text ts at → first_token (take (length text - at) (drop at text)) ≡ Ok None → AreTokens text (lexemes_of ts)
spelled_all text ts at s e = record { place = at; rest = drop at text; spells = s.spells; ends = rw take_rest at e }

pub spelled_bad : (text : List ℕ) (ts : List Token) (at n : ℕ) → Spelled text ts at → first_token (take (length text - at) (drop at text)) ≡ Err n → IsBadAt text (at + n)
spelled_bad text ts at n s e = record { ts = lexemes_of ts; place = at; rest = drop at text; spells = s.spells; within = n; faulty = rw take_rest at e; bad_is = refl }

-- no whole token is at the front
abbrev Stops : List ℕ → Type 0
Stops rest = (t : Lexeme) (n : ℕ) → first_token rest ≡ Ok (Some (t, n)) → ⊥

pub record Same (a b : List Lexeme) (p q : ℕ) (r s : List ℕ) : Type 0 where
  pub tokens : a ≡ b
  pub place : p ≡ q
  pub rest : r ≡ s

one_spelling : (at : ℕ) (text : List ℕ) (a b : List Lexeme) (p q : ℕ) (r s : List ℕ) → Spells at text a p r → Stops r → Spells at text b q s → Stops s → Same a b p q r s
one_spelling at text [] [] p q r s x e y f = record { tokens = refl; place = x.0 ∙ sym y.0; rest = x.1 ∙ sym y.1 }
one_spelling at text [] (t ∷ b) p q r s x e y f = absurd (e t y.0 (rw x.1 y.1))
one_spelling at text (t ∷ a) [] p q r s x e y f = absurd (f t x.0 (rw y.1 x.1))
one_spelling at text (t ∷ a) (u ∷ b) p q r s x e y f =
    let same : ◌≡◌ {A = First} (Ok (Some (t, x.0))) (Ok (Some (u, y.0))) = sym x.1 ∙ y.1 in
    let pair : ◌≡◌ {A = Lexeme × ℕ} (t, x.0) (u, y.0) = cc in
    let size : x.0 ≡ y.0 = ap (λ z. z.1) pair in
    let k = one_spelling (at + y.0) (drop y.0 text) a b p q r s (subst (λ (n : ℕ). Spells (at + n) (drop n text) a p r) size x.2) e y.2 f in
    let front : t ≡ u = ap (λ z. z.0) pair in
    record { tokens = (λ i. front i ∷ k.tokens i); place = k.place; rest = k.rest }

ends_stop : (rest : List ℕ) → first_token rest ≡ Ok None → Stops rest
ends_stop rest e t n f = let k : ◌≡◌ {A = First} (Ok None) (Ok (Some (t, n))) = sym e ∙ f in cc

bad_stop : (rest : List ℕ) (w : ℕ) → first_token rest ≡ Err w → Stops rest
bad_stop rest w e t n f = let k : ◌≡◌ {A = First} (Err w) (Ok (Some (t, n))) = sym e ∙ f in cc

pub AreTokens-one : (text : List ℕ) (a b : List Lexeme) → AreTokens text a → AreTokens text b → a ≡ b
AreTokens-one text a b x y = (one_spelling 0 text a b _ _ _ _ x.spells (ends_stop x.rest x.ends) y.spells (ends_stop y.rest y.ends)).tokens

pub IsBadAt-one : (text : List ℕ) (m n : ℕ) → IsBadAt text m → IsBadAt text n → m ≡ n
IsBadAt-one text m n x y =
    let k = one_spelling 0 text x.ts y.ts x.place y.place x.rest y.rest x.spells (bad_stop x.rest x.within x.faulty) y.spells (bad_stop y.rest y.within y.faulty) in
    let w : ◌≡◌ {A = First} (Err x.within) (Err y.within) = sym x.faulty ∙ rw k.rest y.faulty in
    let within : x.within ≡ y.within = cc in
    x.bad_is ∙ rw (k.place, within) (sym y.bad_is)

pub AreTokens-bad : (text : List ℕ) (a : List Lexeme) (n : ℕ) → AreTokens text a → IsBadAt text n → ⊥
AreTokens-bad text a n x y =
    let k = one_spelling 0 text a y.ts x.place y.place x.rest y.rest x.spells (ends_stop x.rest x.ends) y.spells (bad_stop y.rest y.within y.faulty) in
    let w : ◌≡◌ {A = First} (Ok None) (Err y.within) = sym x.ends ∙ rw k.rest y.faulty in
    cc

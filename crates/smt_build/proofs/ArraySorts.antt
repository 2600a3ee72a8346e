-- The sorts of arrays that tokens spell.
use Rattle.std.proofs.Common.{◌≡◌, ℕ, ◌≤◌, ◌<◌, Bool, false, List, [], ◌∷◌, ◌++◌, length, get_or, refl, ap, ◌∙◌, arith, Result, Err}
use Rattle.std.specs.Prelude.{codes}
use Rattle.std.specs.Str.{bytes_eq}
use Rattle.smt_text.specs.declared.token.Token.{Token}
use Rattle.smt_text.specs.declared.token.TokenKind.{TokenKind}
use Rattle.smt_text.specs.declared.token.TokenKind.TheVariants as kind
use Rattle.smt_syntax.specs.declared.span.Span.{Span}
use Rattle.smt_syntax.specs.Sexps.{Sign, open_paren, close_paren, word, Sexp, Sexps, atom, group, none, more, spelling, spellings, sign_by, sign_in, signs_in}
use Rattle.smt_syntax.specs.Spans.{AllStand, Stands}
use Rattle.smt_terms.specs.declared.sort.Sort.{Sort}
use Rattle.smt_build.specs.declared.fault.BuildFault.{BuildFault}
use Rattle.smt_build.specs.declared.fault.BuildFault.TheVariants.{NotSupported}
use Rattle.smt_build.specs.Names.{Meanings}
use Rattle.smt_build.specs.Naming.{parts_of}
use Rattle.smt_build.specs.Sorts.{part_sort, array_by, array_sort, begins_array, behind_head}
use Rattle.smt_build.proofs.Spellings.{not_end}

-- ---- the first word of a list

-- fewer than three tokens have no word behind a parenthesis
pub short_list : (ts : List Token) (s : Sexp) → signs_in ts ≡ spelling s → length ts < 3 → false ≡ begins_array s
short_list [] (atom k x) e lt = absurd (let z : ⊥ = cc in z)
short_list (t ∷ ts) (atom k x) e lt = refl
short_list ts (group none) e lt = refl
short_list ts (group (more (group fs) es)) e lt = refl
short_list [] (group (more (atom k x) es)) e lt = absurd (let z : ⊥ = cc in z)
short_list (t ∷ []) (group (more (atom k x) es)) e lt = absurd (let z : ⊥ = cc in z)
short_list (t ∷ u ∷ []) (group (more (atom k x) es)) e lt = absurd (not_end (spellings es) (word k x) close_paren (sign_in u) [] (let p : ◌≡◌ {A = List Sign} (word k x ∷ (spellings es ++ close_paren ∷ [])) (sign_in u ∷ []) = cc in p))
short_list (t ∷ u ∷ v ∷ ts) s e lt = absurd (omega (arith, lt))

abbrev names_array : TokenKind → List ℕ → Bool
names_array kind.Symbol x = bytes_eq x (codes "Array")
names_array _ x = false

symbol_names : (k : TokenKind) (x : List ℕ) → k ≡ kind.Symbol → bytes_eq x (codes "Array") ≡ names_array k x
symbol_names k x e = rw e refl

other_names : (k : TokenKind) (x : List ℕ) → (k ≡ kind.Symbol → ⊥) → false ≡ names_array k x
other_names kind.Symbol x other = absurd (other refl)
other_names _ x other = refl

by_word : (k j : TokenKind) (x y : List ℕ) (es : Sexps) → sign_by k x ≡ word j y → names_array k x ≡ begins_array (group (more (atom j y) es))
by_word kind.Open j x y es e = absurd (let z : ⊥ = cc in z)
by_word kind.Close j x y es e = absurd (let z : ⊥ = cc in z)
by_word k j x y es e = ap (λ a. begins_array (group (more a es))) (let p : atom k x ≡ atom j y = cc in p)

by_list : (k : TokenKind) (x : List ℕ) → sign_by k x ≡ open_paren → names_array k x ≡ false
by_list kind.Symbol x e = absurd (let z : ⊥ = cc in z)
by_list _ x e = refl

second_is : (ts : List Token) (d : Token) (s : Sexp) → signs_in ts ≡ spelling s → 3 ≤ length ts → names_array (get_or ts 1 d).kind (get_or ts 1 d).text.now ≡ begins_array s
second_is [] d s e h = absurd (omega (arith, h))
second_is (t ∷ []) d s e h = absurd (omega (arith, h))
second_is (t ∷ u ∷ []) d s e h = absurd (omega (arith, h))
second_is (t ∷ u ∷ v ∷ ts) d (atom k x) e h = absurd (let z : ⊥ = cc in z)
second_is (t ∷ u ∷ v ∷ ts) d (group none) e h = absurd (let z : ⊥ = cc in z)
second_is (t ∷ u ∷ v ∷ ts) d (group (more (atom j y) es)) e h = by_word u.kind j u.text.now y es (let p : sign_in u ≡ word j y = cc in p)
second_is (t ∷ u ∷ v ∷ ts) d (group (more (group fs) es)) e h = by_list u.kind u.text.now (let p : sign_in u ≡ open_paren = cc in p)

module _ (ts : List Token) (d : Token) (s : Sexp) (e : signs_in ts ≡ spelling s) (h : 3 ≤ length ts) where
  pub array_if : (get_or ts 1 d).kind ≡ kind.Symbol → bytes_eq (get_or ts 1 d).text.now (codes "Array") ≡ begins_array s
  array_if is = symbol_names _ _ is ∙ second_is ts d s e h

  pub array_not : ((get_or ts 1 d).kind ≡ kind.Symbol → ⊥) → false ≡ begins_array s
  array_not other = other_names _ _ other ∙ second_is ts d s e h

-- ---- the parts of a list

-- three parts of a list
pub three_parts : (tokens : List Sign) (a b c : Span) (sorts : Meanings Sort) (s : Sexp) (r q : Result Sort BuildFault) → AllStand tokens (a ∷ b ∷ c ∷ []) (parts_of s)
    → ((e : Sexp) → Stands tokens b e → r ≡ part_sort sorts e) → ((f : Sexp) → Stands tokens c f → q ≡ part_sort sorts f) → array_by r q ≡ array_sort sorts (behind_head s)
three_parts tokens a b c sorts (atom k x) r q h f g = absurd h
three_parts tokens a b c sorts (group none) r q h f g = absurd h
three_parts tokens a b c sorts (group (more x none)) r q h f g = absurd h.1
three_parts tokens a b c sorts (group (more x (more y none))) r q h f g = absurd h.1.1
three_parts tokens a b c sorts (group (more x (more y (more z none)))) r q h f g = rw (f y h.1.0, g z h.1.1.0) refl
three_parts tokens a b c sorts (group (more x (more y (more z (more u es))))) r q h f g = absurd h.1.1.1

pub first_three : (ss : List Span) (c d e : Span) → length ss ≡ 3 → ss ≡ get_or ss 0 c ∷ get_or ss 1 d ∷ get_or ss 2 e ∷ []
first_three [] c d e l = absurd (let z : ⊥ = cc in z)
first_three (s ∷ []) c d e l = absurd (let z : ⊥ = cc in z)
first_three (s ∷ t ∷ []) c d e l = absurd (let z : ⊥ = cc in z)
first_three (s ∷ t ∷ u ∷ []) c d e l = refl
first_three (s ∷ t ∷ u ∷ v ∷ ss) c d e l = absurd (omega (arith, l))

-- another number of parts
pub other_count : (tokens : List Sign) (ss : List Span) (sorts : Meanings Sort) (s : Sexp) → AllStand tokens ss (parts_of s) → (length ss ≡ 3 → ⊥) → Err NotSupported ≡ array_sort sorts (behind_head s)
other_count tokens ss sorts (atom k x) h n = refl
other_count tokens ss sorts (group none) h n = refl
other_count tokens ss sorts (group (more x none)) h n = refl
other_count tokens ss sorts (group (more x (more y none))) h n = refl
other_count tokens [] sorts (group (more x (more y (more z none)))) h n = absurd h
other_count tokens (a ∷ []) sorts (group (more x (more y (more z none)))) h n = absurd h.1
other_count tokens (a ∷ b ∷ []) sorts (group (more x (more y (more z none)))) h n = absurd h.1.1
other_count tokens (a ∷ b ∷ c ∷ []) sorts (group (more x (more y (more z none)))) h n = absurd (n refl)
other_count tokens (a ∷ b ∷ c ∷ d ∷ ss) sorts (group (more x (more y (more z none)))) h n = absurd h.1.1.1
other_count tokens ss sorts (group (more x (more y (more z (more u es))))) h n = refl

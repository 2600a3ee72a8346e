-- What tokens that spell an S-expression say of it.
use Rattle.std.proofs.Common.{◌≡◌, ℕ, Bool, true, false, List, [], ◌∷◌, ◌++◌, length, get_or, ◌≤◌, ◌<◌, refl, ap, sym, ◌∙◌, subst, arith, Result, Err}
use Rattle.std.specs.Prelude.{codes, if◌then◌else◌}
use Rattle.std.specs.Str.{bytes_eq}
use Rattle.smt_text.specs.Lexicon.{Lexeme, lexemes_of}
use Rattle.smt_text.specs.declared.token.Token.{Token}
use Rattle.smt_text.specs.declared.token.TokenKind.{TokenKind}
use Rattle.smt_text.specs.declared.token.TokenKind.TheVariants as kind
use Rattle.smt_syntax.specs.Sexps.{Sign, open_paren, close_paren, word, Sexp, atom, group, none, more, spelling, spellings, sign_by, sign_in, signs_in, signs_of}
use Rattle.smt_syntax.specs.declared.span.Span.{Span}
use Rattle.smt_syntax.specs.Spans.{IsWithin, tokens_at, Stands}
use Rattle.smt_syntax.proofs.CommandReadings.{signs_same}
use Rattle.smt_terms.specs.declared.sort.Sort.{Sort}
use Rattle.smt_build.specs.declared.fault.BuildFault.{BuildFault}
use Rattle.smt_build.specs.declared.fault.BuildFault.TheVariants.{NotSupported}
use Rattle.smt_build.specs.Names.{Meanings}
use Rattle.smt_build.specs.Sorts.{sort_named, width_sort, named_sort, indexed_sort, part_sort}

-- behind anything stands something more
pub not_end : {A : Type 0} (xs : List A) (x y z : A) (ys : List A) → ◌≡◌ {A = List A} (x ∷ (xs ++ y ∷ ys)) (z ∷ []) → ⊥
not_end [] x y z ys e = cc
not_end (w ∷ xs) x y z ys e = cc

-- one token is a word
pub one_word : (k : TokenKind) (x : List ℕ) (e : Sexp) → ◌≡◌ {A = List Sign} (sign_by k x ∷ []) (spelling e) → e ≡ atom k x
one_word k x (group es) h = absurd (not_end (spellings es) open_paren close_paren (sign_by k x) [] (sym h))
one_word kind.Open x (atom j y) h = cc
one_word kind.Close x (atom j y) h = cc
one_word k x (atom j y) h = by_signs k (let p : sign_by k x ≡ word j y = cc in p)
  where
    by_signs : (i : TokenKind) → sign_by i x ≡ word j y → atom j y ≡ atom i x
    by_signs kind.Open p = cc
    by_signs kind.Close p = cc
    by_signs _ p = cc

-- another number of tokens is a list
pub not_one : (ts : List Sign) (k : TokenKind) (x : List ℕ) → ts ≡ spelling (atom k x) → (length ts ≡ 1 → ⊥) → ⊥
not_one ts k x h n = n (ap length h)

-- ---- sorts

-- a word is none of the signs of a list
not_word : (i : TokenKind) (x : List ℕ) → open_paren ≡ sign_by i x → (j : TokenKind) (b : List ℕ) (k : TokenKind) (n : List ℕ) → indexed_sort i j b k n ≡ Err NotSupported
not_word kind.Underscore x e j b k n = absurd (let z : ⊥ = cc in z)
not_word _ x e j b k n = refl

not_name : (j : TokenKind) (b : List ℕ) → open_paren ≡ sign_by j b → (i k : TokenKind) (n : List ℕ) → indexed_sort i j b k n ≡ Err NotSupported
not_name kind.Symbol b e i k n = absurd (let z : ⊥ = cc in z)
not_name j b e kind.Underscore k n = by_name j e
  where
    by_name : (i : TokenKind) → open_paren ≡ sign_by i b → named_sort i b k n ≡ Err NotSupported
    by_name kind.Symbol p = absurd (let z : ⊥ = cc in z)
    by_name _ p = refl
not_name j b e _ k n = refl

no_width : (k : TokenKind) (n : List ℕ) → open_paren ≡ sign_by k n → width_sort k n ≡ Err NotSupported
no_width kind.Numeral n e = absurd (let z : ⊥ = cc in z)
no_width _ n e = refl

either : {A : Type 0} (b : Bool) (x y : A) → x ≡ y → (if b then x else y) ≡ y
either true x y e = e
either false x y e = refl

not_width : (k : TokenKind) (n : List ℕ) → open_paren ≡ sign_by k n → (i j : TokenKind) (b : List ℕ) → indexed_sort i j b k n ≡ Err NotSupported
not_width k n e kind.Underscore kind.Symbol b = either (bytes_eq b (codes "BitVec")) (width_sort k n) (Err NotSupported) (no_width k n e)
not_width k n e kind.Underscore _ b = refl
not_width k n e _ j b = refl

same_words : (i j k a b c : TokenKind) (l x n m y p : List ℕ) → sign_by i l ≡ word a m → sign_by j x ≡ word b y → sign_by k n ≡ word c p → indexed_sort i j x k n ≡ indexed_sort a b y c p
same_words i j k a b c l x n m y p e f g =
    let q = word_is i l a m e in
    let r = word_is j x b y f in
    let s = word_is k n c p g in
    rw (q.0, r.0, r.1, s.0, s.1) refl
  where
    word_is : (i : TokenKind) (l : List ℕ) (a : TokenKind) (m : List ℕ) → sign_by i l ≡ word a m → (i ≡ a) × (l ≡ m)
    word_is kind.Open l a m e = absurd (let z : ⊥ = cc in z)
    word_is kind.Close l a m e = absurd (let z : ⊥ = cc in z)
    word_is k l a m e = by_kind k e
      where
        by_kind : (i : TokenKind) → sign_by i l ≡ word a m → (i ≡ a) × (l ≡ m)
        by_kind kind.Open e = absurd (let z : ⊥ = cc in z)
        by_kind kind.Close e = absurd (let z : ⊥ = cc in z)
        by_kind _ e = (cc, cc)

-- five tokens in a list
pub five : (sorts : Meanings Sort) (a : Sign) (i : TokenKind) (l : List ℕ) (j : TokenKind) (x : List ℕ) (k : TokenKind) (n : List ℕ) (z : Sign) (e : Sexp) → ◌≡◌ {A = List Sign} (a ∷ sign_by i l ∷ sign_by j x ∷ sign_by k n ∷ z ∷ []) (spelling e) → indexed_sort i j x k n ≡ part_sort sorts e
five sorts a i l j x k n z (atom b y) h = absurd (let q : ⊥ = cc in q)
five sorts a i l j x k n z (group none) h = absurd (let q : ⊥ = cc in q)
five sorts a i l j x k n z (group (more (group fs) es)) h = not_word i l (let p : open_paren ≡ sign_by i l = cc in p) j x k n
five sorts a i l j x k n z (group (more (atom b y) none)) h = absurd (let q : ⊥ = cc in q)
five sorts a i l j x k n z (group (more (atom b y) (more (group fs) es))) h = not_name j x (let p : open_paren ≡ sign_by j x = cc in p) i k n
five sorts a i l j x k n z (group (more (atom b y) (more (atom c w) none))) h = absurd (let q : ⊥ = cc in q)
five sorts a i l j x k n z (group (more (atom b y) (more (atom c w) (more (group fs) es)))) h = not_width k n (let p : open_paren ≡ sign_by k n = cc in p) i j x
five sorts a i l j x k n z (group (more (atom b y) (more (atom c w) (more (atom d v) none)))) h = same_words i j k b c d l x n y w v (cc) (cc) (cc)
five sorts a i l j x k n z (group (more (atom b y) (more (atom c w) (more (atom d v) (more (atom f u) es))))) h = absurd (not_end (spellings es) (word f u) close_paren z [] (let p : ◌≡◌ {A = List Sign} (word f u ∷ (spellings es ++ close_paren ∷ [])) (z ∷ []) = cc in p))
five sorts a i l j x k n z (group (more (atom b y) (more (atom c w) (more (atom d v) (more (group fs) es))))) h = absurd (not_end ((spellings fs ++ close_paren ∷ []) ++ spellings es) open_paren close_paren z [] (let p : ◌≡◌ {A = List Sign} (open_paren ∷ (((spellings fs ++ close_paren ∷ []) ++ spellings es) ++ close_paren ∷ [])) (z ∷ []) = cc in p))

-- other numbers of tokens are no sort that is supported
pub other : (sorts : Meanings Sort) (ts : List Sign) (e : Sexp) → ts ≡ spelling e → (length ts ≡ 1 → ⊥) → (length ts ≡ 5 → ⊥) → Err NotSupported ≡ part_sort sorts e
other sorts ts (atom k x) h n m = absurd (n (ap length h))
other sorts ts (group none) h n m = refl
other sorts ts (group (more (group fs) es)) h n m = refl
other sorts ts (group (more (atom a x) none)) h n m = refl
other sorts ts (group (more (atom a x) (more (group fs) es))) h n m = refl
other sorts ts (group (more (atom a x) (more (atom b y) none))) h n m = refl
other sorts ts (group (more (atom a x) (more (atom b y) (more (group fs) es)))) h n m = refl
other sorts ts (group (more (atom a x) (more (atom b y) (more (atom c z) none)))) h n m = absurd (m (ap length h))
other sorts ts (group (more (atom a x) (more (atom b y) (more (atom c z) (more e es))))) h n m = refl

-- ---- spans

-- the tokens that are cut at a span spell what stands there
pub at_span : (tokens : List Lexeme) (ts xs : List Token) (s : Span) (e : Sexp) → lexemes_of ts ≡ tokens → (IsWithin (signs_in ts) s → signs_in xs ≡ tokens_at (signs_in ts) s) → Stands (signs_of tokens) s e → signs_in xs ≡ spelling e
at_span tokens ts xs s e l cut h =
    let same : signs_of tokens ≡ signs_in ts = ap signs_of (sym l) ∙ signs_same ts in
    let there : Stands (signs_in ts) s e = subst (λ signs. Stands signs s e) same h in
    cut there.within ∙ there.spelled

-- five tokens of a slice
pub sort_five : (sorts : Meanings Sort) (ts : List Token) (a b c : Token) → 5 ≤ length ts → length ts < 6 → (s : Sexp) → signs_in ts ≡ spelling s → (r : Result Sort BuildFault) → r ≡ indexed_sort (get_or ts 1 a).kind (get_or ts 2 b).kind (get_or ts 2 b).text.now (get_or ts 3 c).kind (get_or ts 3 c).text.now → r ≡ part_sort sorts s
sort_five sorts [] a b c h k s e r q = absurd (omega arith)
sort_five sorts (t ∷ []) a b c h k s e r q = absurd (omega arith)
sort_five sorts (t ∷ u ∷ []) a b c h k s e r q = absurd (omega arith)
sort_five sorts (t ∷ u ∷ v ∷ []) a b c h k s e r q = absurd (omega arith)
sort_five sorts (t ∷ u ∷ v ∷ w ∷ []) a b c h k s e r q = absurd (omega arith)
sort_five sorts (t ∷ u ∷ v ∷ w ∷ x ∷ []) a b c h k s e r q = q ∙ five sorts (sign_in t) u.kind u.text.now v.kind v.text.now w.kind w.text.now (sign_in x) s e
sort_five sorts (t ∷ u ∷ v ∷ w ∷ x ∷ y ∷ ts) a b c h k s e r q = absurd (omega arith)

-- one token of a slice
pub sort_one : (sorts : Meanings Sort) (ts : List Token) (a : Token) → 1 ≤ length ts → length ts < 2 → (s : Sexp) → signs_in ts ≡ spelling s → (r : Result Sort BuildFault) → r ≡ sort_named sorts (get_or ts 0 a).kind (get_or ts 0 a).text.now → r ≡ part_sort sorts s
sort_one sorts [] a h k s e r q = absurd (omega arith)
sort_one sorts (t ∷ []) a h k s e r q = q ∙ sym (ap (part_sort sorts) (one_word t.kind t.text.now s e))
sort_one sorts (t ∷ u ∷ ts) a h k s e r q = absurd (omega arith)

-- Reading the name of an assertion.
use Rattle.std.proofs.Common.{◌≡◌, ℕ, suc, ◌+◌, ◌-◌, ◌≤◌, ◌<◌, true, false, List, [], ◌∷◌, length, get_or, refl, ap, sym, ◌∙◌, subst, arith, length-append, Option, Some, None}
use Rattle.std.specs.Borrow.{Bor}
use Rattle.std.proofs.Math.Seq.{take-append_seam}
use Rattle.smt_text.specs.declared.token.Token.{Token}
use Rattle.smt_text.specs.declared.token.TokenKind.TheVariants as kind
use Rattle.smt_syntax.specs.declared.span.Span.{Span}
use Rattle.smt_syntax.specs.Sexps.{Sign, close_paren, Sexp, Sexps, atom, group, none, more, spelling, spellings, signs_in}
use Rattle.smt_syntax.specs.Spans.{IsWithin, tokens_at, span, Stands, AllStand}
use Rattle.smt_build.specs.Naming.{name_behind, first_name, annotated_name, is_label_word, IsGroup, IsWordOf, IsNameOf}

-- other than one token are no word
pub no_word : (xs : List Token) (e : Sexp) → signs_in xs ≡ spelling e → (length xs ≡ 1 → ⊥) → IsGroup e
no_word xs (group es) h n = tt
no_word [] (atom k x) h n = absurd (let z : ⊥ = cc in z)
no_word (t ∷ []) (atom k x) h n = absurd (n refl)
no_word (t ∷ u ∷ xs) (atom k x) h n = absurd (let z : ⊥ = cc in z)

-- the first of some parts
pub behind_none : (tokens : List Sign) (es : Sexps) → AllStand tokens [] es → name_behind es ≡ None
behind_none tokens none h = refl
behind_none tokens (more e es) h = absurd h

pub behind_word : (tokens : List Sign) (s : Span) (ss : List Span) (es : Sexps) (t : Token) → AllStand tokens (s ∷ ss) es → ((e : Sexp) → Stands tokens s e → IsWordOf e (Some t)) → name_behind es ≡ Some t.text.now
behind_word tokens s ss none t h w = absurd h
behind_word tokens s ss (more e es) t h w = rw (w e h.0) refl

pub behind_list : (tokens : List Sign) (s : Span) (ss : List Span) (es : Sexps) → AllStand tokens (s ∷ ss) es → ((e : Sexp) → Stands tokens s e → IsWordOf e None) → name_behind es ≡ None
behind_list tokens s ss none h w = absurd h
behind_list tokens s ss (more (atom k x) es) h w = absurd (w (atom k x) h.0)
behind_list tokens s ss (more (group xs) es) h w = refl

pub behind_some : (tokens : List Sign) (ss : List Span) (d : Span) → 1 ≤ length ss → (es : Sexps) → AllStand tokens ss es → (o : Option Token) (t : Token) → o ≡ Some t → ((e : Sexp) → Stands tokens (get_or ss 0 d) e → IsWordOf e o) → name_behind es ≡ Some t.text.now
behind_some tokens [] d k es h o t q w = absurd (omega (arith, k))
behind_some tokens (s ∷ ss) d k es h o t q w = behind_word tokens s ss es t h (λ e m. subst (λ r. IsWordOf e r) q (w e m))

pub behind_nothing : (tokens : List Sign) (ss : List Span) (d : Span) → 1 ≤ length ss → (es : Sexps) → AllStand tokens ss es → (o : Option Token) → o ≡ None → ((e : Sexp) → Stands tokens (get_or ss 0 d) e → IsWordOf e o) → name_behind es ≡ None
behind_nothing tokens [] d k es h o q w = absurd (omega (arith, k))
behind_nothing tokens (s ∷ ss) d k es h o q w = behind_list tokens s ss es h (λ e m. subst (λ r. IsWordOf e r) q (w e m))

-- fewer than two parts give no name
pub annotated_short : (tokens : List Sign) (ss : List Span) → length ss < 2 → (es : Sexps) → AllStand tokens ss es → annotated_name es ≡ None
annotated_short tokens ss h none a = refl
annotated_short tokens ss h (more (group x) es) a = refl
annotated_short tokens ss h (more (atom kind.Bang l) none) a = refl
annotated_short tokens [] h (more (atom kind.Bang l) (more t es)) a = absurd a
annotated_short tokens (s ∷ []) h (more (atom kind.Bang l) (more t es)) a = absurd a.1
annotated_short tokens (s ∷ u ∷ ss) h (more (atom kind.Bang l) (more t es)) a = absurd (omega (arith, h))
annotated_short tokens ss h (more (atom _ l) es) a = refl

-- ---- the loop

-- what these parts name, all parts name
pub record Names (tokens : List Sign) (all now : List Span) : Type 0 where
  pub rest : (es : Sexps) → AllStand tokens all es → (r : Sexps) × AllStand tokens now r × (first_name es ≡ first_name r)

pub names_all : (tokens : List Sign) (ss : List Span) → Names tokens ss ss
names_all tokens ss = record { rest = λ es h. (es, h, refl) }

module _ (tokens : List Sign) (all : List Span) (s : Span) (ss : List Span) (h : Names tokens all (s ∷ ss)) (o : Option Token) (w : (e : Sexp) → Stands tokens s e → IsWordOf e o) where
  one_on : (o : Option Token) (e : Sexp) (es : Sexps) → IsWordOf e o → is_label_word o ≡ false → first_name (more e es) ≡ first_name es
  one_on None (atom k x) es w f = absurd w
  one_on None (group xs) es w f = refl
  one_on (Some t) e es w f = rw (w, f) refl

  pub names_more : is_label_word o ≡ false → Names tokens all ss
  names_more f = record { rest = λ es a. go (h.rest es a) } where
    go : {x : Option (List ℕ)} → (r : Sexps) × AllStand tokens (s ∷ ss) r × (x ≡ first_name r) → (r : Sexps) × AllStand tokens ss r × (x ≡ first_name r)
    go (none, a, e) = absurd a
    go (more e es, a, q) = (es, a.1, q ∙ one_on o e es (w e a.0) f)

  one_here : (o : Option Token) (e : Sexp) (es : Sexps) → IsWordOf e o → is_label_word o ≡ true → first_name (more e es) ≡ name_behind es
  one_here None e es w f = absurd (let z : ⊥ = cc in z)
  one_here (Some t) e es w f = rw (w, f) refl

  pub names_here : is_label_word o ≡ true → (r : Option (Bor (List ℕ))) → ((es : Sexps) → AllStand tokens ss es → IsNameOf (name_behind es) r) → (es : Sexps) → AllStand tokens all es → IsNameOf (first_name es) r
  names_here f r n es a = go (h.rest es a) where
    go : (r' : Sexps) × AllStand tokens (s ∷ ss) r' × (first_name es ≡ first_name r') → IsNameOf (first_name es) r
    go (none, a, e) = absurd a
    go (more e es', a, q) = subst (λ x. IsNameOf x r) (sym (q ∙ one_here o e es' (w e a.0) f)) (n es' a.1)

pub names_none : (tokens : List Sign) (all : List Span) → Names tokens all [] → (es : Sexps) → AllStand tokens all es → first_name es ≡ None
names_none tokens all h es a = go (h.rest es a) where
  go : (r : Sexps) × AllStand tokens [] r × (first_name es ≡ first_name r) → first_name es ≡ None
  go (none, a, e) = e
  go (more e es, a, q) = absurd a

-- ---- the parts of a list

pub inside_list : (ts : List Token) (es : Sexps) → signs_in ts ≡ spelling (group es) → IsWithin (signs_in ts) (span 1 (length ts - 1)) × (tokens_at (signs_in ts) (span 1 (length ts - 1)) ≡ spellings es)
inside_list ts es s =
    let size : length (signs_in ts) ≡ length ts = length-signs ts in
    let long : length ts ≡ length (spellings es) + 2 = sym size ∙ rw s (omega (arith, length-append (spellings es) (close_paren ∷ []))) in
    let room : length ts - 1 - 1 ≡ length (spellings es) = omega (arith, long) in
    (record { ordered = omega (arith, long); ends = omega (arith, size) }, rw (room, s) (take-append_seam (spellings es) (close_paren ∷ [])))
  where
    length-signs : (ts : List Token) → length (signs_in ts) ≡ length ts
    length-signs [] = refl
    length-signs (t ∷ ts) = ap suc (length-signs ts)

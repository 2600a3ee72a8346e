-- The loops that judge a command's arguments.
use Rattle.std.proofs.Common.{◌≡◌, ℕ, suc, ◌+◌, ◌-◌, ◌<◌, ◌≤◌, Bool, true, false, ◌&&◌, ◌||◌, List, [], ◌∷◌, length, get_or, take, drop, map, refl, ap, sym, ◌∙◌, arith}
use Rattle.std.specs.Prelude.{is_ok}
use Rattle.std.specs.Borrow.{Bor}
use Rattle.std.specs.List.{list_any}
use Rattle.std.proofs.lemmas.List.{drop_more, drop_all}
use Rattle.smt_text.specs.declared.token.Token.{Token}
use Rattle.smt_syntax.specs.declared.span.Span.{Span}
use Rattle.smt_syntax.specs.declared.form.Form.{Form}
use Rattle.smt_syntax.specs.declared.shape.Want.{Want}
use Rattle.smt_syntax.specs.Sexps.{Sign, Sexp, Sexps, none, more, signs_in}
use Rattle.smt_syntax.specs.Walk.{run}
use Rattle.smt_syntax.specs.Spans.{Stands, AllStand}
use Rattle.smt_syntax.specs.ShapeReader.{shape_reader}
use Rattle.smt_syntax.specs.Forms.{fits, want_of}
use Rattle.smt_syntax.specs.Commands.{fits_all, fits_some, same_length}
use Rattle.smt_syntax.proofs.Walks.{run-all}
use Rattle.smt_syntax.proofs.Cuts.{signs_at}
use Rattle.smt_syntax.proofs.ShapeWalks.{fits-walk, and_false}

pub shape_fits : (tokens : List Token) (f : Form) (w : Want) (s : Span) (e : Sexp) (b : Bool) → Stands (signs_in tokens) s e → w ≡ want_of f → b ≡ is_ok (run shape_reader w [] tt (signs_in (take (s.end - s.start) (drop s.start tokens)))) → b ≡ fits f e
shape_fits tokens f w s e b h q j = j ∙ rw (q, signs_at tokens s.start s.end, h.spelled, run-all shape_reader (want_of f) tt e) (fits-walk f e)

pub fits_never : (tokens : List Sign) (fs : List Form) (ss : List Span) (es : Sexps) → (length fs ≡ length ss → ⊥) → AllStand tokens ss es → false ≡ fits_all fs es
fits_never tokens [] [] none n a = absurd (n refl)
fits_never tokens [] [] (more e es) n a = absurd a
fits_never tokens [] (s ∷ ss) none n a = absurd a
fits_never tokens [] (s ∷ ss) (more e es) n a = refl
fits_never tokens (f ∷ fs) [] none n a = refl
fits_never tokens (f ∷ fs) [] (more e es) n a = absurd a
fits_never tokens (f ∷ fs) (s ∷ ss) none n a = absurd a
fits_never tokens (f ∷ fs) (s ∷ ss) (more e es) n a = rw (← fits_never tokens fs ss es (λ q. n (ap suc q)) a.1) (sym (and_false (fits f e)))

-- ---- one row of forms

-- behind i arguments, the rest decides
pub record Fitting (tokens : List Sign) (fs : List Form) (ss : List Span) (i : ℕ) : Type 0 where
  pub rest : (es : Sexps) → AllStand tokens ss es → (r : Sexps) × AllStand tokens (drop i ss) r × (fits_all fs es ≡ fits_all (drop i fs) r)

pub fitting_none : (tokens : List Sign) (fs : List Form) (ss : List Span) → Fitting tokens fs ss 0
fitting_none tokens fs ss = record { rest = λ es a. (es, a, refl) }

next_fits : (tokens : List Sign) (f : Form) (fs : List Form) (s : Span) (ss : List Span) (r : Sexps) (b : Bool) → AllStand tokens (s ∷ ss) r → ((e : Sexp) → Stands tokens s e → b ≡ fits f e) → b ≡ true → (q : Sexps) × AllStand tokens ss q × (fits_all (f ∷ fs) r ≡ fits_all fs q)
next_fits tokens f fs s ss none b a g t = absurd a
next_fits tokens f fs s ss (more e es) b a g t = (es, a.1, rw (← g e a.0, t) refl)

next_fails : (tokens : List Sign) (f : Form) (fs : List Form) (s : Span) (ss : List Span) (r : Sexps) (b : Bool) → AllStand tokens (s ∷ ss) r → ((e : Sexp) → Stands tokens s e → b ≡ fits f e) → b ≡ false → fits_all (f ∷ fs) r ≡ false
next_fails tokens f fs s ss none b a g t = absurd a
next_fails tokens f fs s ss (more e es) b a g t = rw (← g e a.0, t) refl

module _ (tokens : List Sign) (fs : List Form) (ss : List Span) (i : ℕ) (d : Form) (c : Span) (b : Bool) (k : Fitting tokens fs ss i) (h : i < length fs) (same : length fs ≡ length ss) (g : (e : Sexp) → Stands tokens (get_or ss i c) e → b ≡ fits (get_or fs i d) e) where
  stands_next : (r : Sexps) → AllStand tokens (drop i ss) r → AllStand tokens (get_or ss i c ∷ drop (i + 1) ss) r
  stands_next r a = rw (drop_more ss i c (omega arith)) at a

  pub fitting_more : b ≡ true → Fitting tokens fs ss (i + 1)
  fitting_more t = record {
    rest = λ es a.
        let r = k.rest es a in
        let n = next_fits tokens (get_or fs i d) (drop (i + 1) fs) (get_or ss i c) (drop (i + 1) ss) r.0 b (stands_next r.0 r.1) g t in
        (n.0, n.1, r.2 ∙ rw (drop_more fs i d h) n.2);
  }

  pub fitting_fails : b ≡ false → (es : Sexps) → AllStand tokens ss es → false ≡ fits_all fs es
  fitting_fails t es a =
      let r = k.rest es a in
      sym (r.2 ∙ rw (drop_more fs i d h) (next_fails tokens (get_or fs i d) (drop (i + 1) fs) (get_or ss i c) (drop (i + 1) ss) r.0 b (stands_next r.0 r.1) g t))

none_left : (tokens : List Sign) (r : Sexps) → AllStand tokens [] r → fits_all [] r ≡ true
none_left tokens none a = refl
none_left tokens (more e es) a = absurd a

pub fitting_all : (tokens : List Sign) (fs : List Form) (ss : List Span) (i : ℕ) → length fs ≤ i → length fs ≡ length ss → Fitting tokens fs ss i → (es : Sexps) → AllStand tokens ss es → true ≡ fits_all fs es
fitting_all tokens fs ss i h e k es a =
    let r = k.rest es a in
    let stand = rw (drop_all i ss (omega arith)) at r.1 in
    sym (r.2 ∙ rw (drop_all i fs h) (none_left tokens r.0 stand))

-- ---- rows of forms

abbrev pub rows_in : List (Bor (List Form)) → List (List Form)
rows_in rows = map (λ row. row.now) rows

pub record Trying (tokens : List Sign) (rows : List (Bor (List Form))) (ss : List Span) (i : ℕ) : Type 0 where
  pub rest : (es : Sexps) → AllStand tokens ss es → fits_some (rows_in rows) es ≡ fits_some (rows_in (drop i rows)) es

pub trying_none : (tokens : List Sign) (rows : List (Bor (List Form))) (ss : List Span) → Trying tokens rows ss 0
trying_none tokens rows ss = record { rest = λ es a. refl }

module _ (tokens : List Sign) (rows : List (Bor (List Form))) (ss : List Span) (i : ℕ) (d : Bor (List Form)) (b : Bool) (k : Trying tokens rows ss i) (h : i < length rows) (g : (es : Sexps) → AllStand tokens ss es → b ≡ fits_all (get_or rows i d).now es) where
  pub trying_more : b ≡ false → Trying tokens rows ss (i + 1)
  trying_more t = record { rest = λ es a. k.rest es a ∙ rw (drop_more rows i d h, ← g es a, t) refl }

  pub trying_found : b ≡ true → (es : Sexps) → AllStand tokens ss es → true ≡ fits_some (rows_in rows) es
  trying_found t es a = sym (k.rest es a ∙ rw (drop_more rows i d h, ← g es a, t) refl)

pub trying_all : (tokens : List Sign) (rows : List (Bor (List Form))) (ss : List Span) (i : ℕ) → length rows ≤ i → Trying tokens rows ss i → (es : Sexps) → AllStand tokens ss es → false ≡ fits_some (rows_in rows) es
trying_all tokens rows ss i h k es a = sym (k.rest es a ∙ rw (drop_all i rows h) refl)

-- ---- what fits has as many arguments

pub fits-length : (tokens : List Sign) (fs : List Form) (ss : List Span) (es : Sexps) → AllStand tokens ss es → fits_all fs es ≡ true → same_length fs ss ≡ true
fits-length tokens [] [] none a e = refl
fits-length tokens [] [] (more x es) a e = absurd a
fits-length tokens [] (s ∷ ss) none a e = absurd a
fits-length tokens [] (s ∷ ss) (more x es) a e = cc
fits-length tokens (f ∷ fs) [] none a e = cc
fits-length tokens (f ∷ fs) [] (more x es) a e = absurd a
fits-length tokens (f ∷ fs) (s ∷ ss) none a e = absurd a
fits-length tokens (f ∷ fs) (s ∷ ss) (more x es) a e = fits-length tokens fs ss es a.1 (and_right (fits f x) (fits_all fs es) e)
  where
    and_right : (b c : Bool) → b && c ≡ true → c ≡ true
    and_right true c h = h
    and_right false c h = cc

either : (b c x y : Bool) → (b ≡ true → x ≡ true) → (c ≡ true → y ≡ true) → b || c ≡ true → x || y ≡ true
either true c x y f g e = rw (f refl) refl
either false c true y f g e = refl
either false c false y f g e = g e

pub rows-length : (tokens : List Sign) (rows : List (List Form)) (ss : List Span) (es : Sexps) → AllStand tokens ss es → fits_some rows es ≡ true → list_any (λ fs. same_length fs ss) rows ≡ true
rows-length tokens [] ss es a e = cc
rows-length tokens (fs ∷ rows) ss es a e = either (fits_all fs es) (fits_some rows es) (same_length fs ss) _ (fits-length tokens fs ss es a) (rows-length tokens rows ss es a) e

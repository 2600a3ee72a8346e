-- What is read of the parts of a list, up to a part.
use Rattle.std.proofs.Common.{◌≡◌, ℕ, ◌+◌, ◌<◌, ◌≤◌, List, [], ◌∷◌, length, get_or, drop, refl, ap, sym, ◌∙◌, subst, Result, Ok, Err}
use Rattle.std.proofs.lemmas.List.{drop_more, drop_all}
use Rattle.smt_syntax.specs.declared.span.Span.{Span}
use Rattle.smt_syntax.specs.Sexps.{Sign, Sexp, Sexps, none, more}
use Rattle.smt_syntax.specs.Spans.{AllStand, Stands}
use Rattle.smt_syntax.specs.Walk.{◌>>=◌}
use Rattle.smt_build.specs.Parts.{over_parts}

-- behind so many spans, the others give what all of them give
pub record Behind {S E : Type 0} (step : S → Sexp → Result S E) (tokens : List Sign) (spans : List Span) (first : S) (i : ℕ) (now : S) : Type 0 where
  pub rest : (es : Sexps) → AllStand tokens spans es → (r : Sexps) × AllStand tokens (drop i spans) r × (over_parts step first es ≡ over_parts step now r)

pub behind_none : {S E : Type 0} → (step : S → Sexp → Result S E) (tokens : List Sign) (spans : List Span) (first now : S) → now ≡ first → Behind step tokens spans first 0 now
behind_none step tokens spans first now e = record { rest = λ es h. (es, h, ap (λ s. over_parts step s es) (sym e)) }

module _ {S E : Type 0} (step : S → Sexp → Result S E) (tokens : List Sign) (spans : List Span) (first : S) (i : ℕ) (d : Span) (now : S) (lt : i < length spans) (b : Behind step tokens spans first i now) where
  -- the next part
  split : (es : Sexps) → AllStand tokens spans es → (e : Sexp) × (r : Sexps) × Stands tokens (get_or spans i d) e × AllStand tokens (drop (i + 1) spans) r × (over_parts step first es ≡ step now e >>= λ s. over_parts step s r)
  unfolding over_parts
  split es h =
      let p = b.rest es h in
      let q : AllStand tokens (get_or spans i d ∷ drop (i + 1) spans) p.0 = subst (λ ss. AllStand tokens ss p.0) (drop_more spans i d lt) p.1 in
      parts p.0 q p.2 where
        parts : (r : Sexps) → AllStand tokens (get_or spans i d ∷ drop (i + 1) spans) r → over_parts step first es ≡ over_parts step now r → (e : Sexp) × (q : Sexps) × Stands tokens (get_or spans i d) e × AllStand tokens (drop (i + 1) spans) q × (over_parts step first es ≡ step now e >>= λ s. over_parts step s q)
        parts none q f = absurd q
        parts (more e r) q f = (e, r, q.0, q.1, f)

  pub behind_more : (new : S) → ((e : Sexp) → Stands tokens (get_or spans i d) e → step now e ≡ Ok new) → Behind step tokens spans first (i + 1) new
  behind_more new f = record { rest = λ es h. (let p = split es h in (p.1, p.3, p.4 ∙ rw (f p.0 p.2) refl)) }

  pub behind_fault : (y : E) (es : Sexps) → AllStand tokens spans es → ((e : Sexp) → Stands tokens (get_or spans i d) e → step now e ≡ Err y) → over_parts step first es ≡ Err y
  behind_fault y es h f = let p = split es h in p.4 ∙ rw (f p.0 p.2) refl

pub behind_all : {S E : Type 0} → (step : S → Sexp → Result S E) (tokens : List Sign) (spans : List Span) (first : S) (i : ℕ) (now : S) → length spans ≤ i → Behind step tokens spans first i now → (es : Sexps) → AllStand tokens spans es → over_parts step first es ≡ Ok now
unfolding over_parts
behind_all step tokens spans first i now le b es h =
    let p = b.rest es h in
    ends p.0 (subst (λ ss. AllStand tokens ss p.0) (drop_all i spans le) p.1) p.2 where
      ends : (r : Sexps) → AllStand tokens [] r → over_parts step first es ≡ over_parts step now r → over_parts step first es ≡ Ok now
      ends none q f = f
      ends (more e r) q f = absurd q

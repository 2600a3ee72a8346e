-- A spelling has one S-expression.
use Rattle.std.proofs.Common.{◌≡◌, List, [], ◌∷◌, ◌++◌, refl, ap, sym, ◌∙◌, append_assoc}
use Rattle.smt_syntax.specs.Sexps.{Sign, open_paren, close_paren, word, Sexp, Sexps, atom, group, none, more, spelling, spellings}

tail : (l m : Sign) (ls ms : List Sign) → ◌≡◌ {A = List Sign} (l ∷ ls) (m ∷ ms) → ls ≡ ms
tail l m ls ms e = cc

no_close : (e : Sexp) (r s : List Sign) → ◌≡◌ {A = List Sign} (close_paren ∷ r) (spelling e ++ s) → ⊥
no_close (atom k x) r s h = cc
no_close (group es) r s h = cc

mutual
  one : (e f : Sexp) (r s : List Sign) → spelling e ++ r ≡ spelling f ++ s → (e ≡ f) × (r ≡ s)
  one (atom k x) (atom j y) r s h =
      let w : word k x ≡ word j y = cc in
      let a : k ≡ j = cc in
      let b : x ≡ y = cc in
      ((λ i. atom (a i) (b i)), tail (word k x) (word j y) r s h)
  one (atom k x) (group fs) r s h = absurd (let z : ⊥ = cc in z)
  one (group es) (atom j y) r s h = absurd (let z : ⊥ = cc in z)
  one (group es) (group fs) r s h =
      let t = tail open_paren open_paren ((spellings es ++ close_paren ∷ []) ++ r) ((spellings fs ++ close_paren ∷ []) ++ s) h in
      let o = ones es fs r s (sym (append_assoc (spellings es) (close_paren ∷ []) r) ∙ t ∙ append_assoc (spellings fs) (close_paren ∷ []) s) in
      (ap group o.0, o.1)

  ones : (es fs : Sexps) (r s : List Sign) → spellings es ++ close_paren ∷ r ≡ spellings fs ++ close_paren ∷ s → (es ≡ fs) × (r ≡ s)
  ones none none r s h = (refl, tail close_paren close_paren r s h)
  ones none (more f fs) r s h = absurd (no_close f r (spellings fs ++ close_paren ∷ s) (h ∙ append_assoc (spelling f) (spellings fs) (close_paren ∷ s)))
  ones (more e es) none r s h = absurd (no_close e s (spellings es ++ close_paren ∷ r) (sym h ∙ append_assoc (spelling e) (spellings es) (close_paren ∷ r)))
  ones (more e es) (more f fs) r s h =
      let here = sym (append_assoc (spelling e) (spellings es) (close_paren ∷ r)) ∙ h ∙ append_assoc (spelling f) (spellings fs) (close_paren ∷ s) in
      let first = one e f (spellings es ++ close_paren ∷ r) (spellings fs ++ close_paren ∷ s) here in
      let rest = ones es fs r s first.1 in
      let a : e ≡ f = first.0 in
      let b : es ≡ fs = rest.0 in
      ((λ i. more (a i) (b i)), rest.1)

pub spelling-one : (e f : Sexp) → spelling e ≡ spelling f → e ≡ f
spelling-one e f h = (one e f [] [] (ap (λ l. l ++ []) h)).0

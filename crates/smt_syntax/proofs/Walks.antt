-- Reading tokens with a stack of open lists gives what the walk over the S-expression gives.
use Rattle.std.proofs.Common.{◌≡◌, List, [], ◌∷◌, ◌++◌, refl, sym, ◌∙◌, subst, append_assoc, append-nil, Result, Ok, Err}
use Rattle.smt_syntax.specs.Sexps.{Sign, close_paren, Sexp, Sexps, atom, group, none, more, spelling, spellings}
use Rattle.smt_syntax.specs.Walk.{◌>>=◌, Reader, walk, walks, context_in, run}

pub bind_assoc : {E A B C : Type 0} (x : Result A E) (f : A → Result B E) (g : B → Result C E) → (x >>= f) >>= g ≡ x >>= λ a. f a >>= g
bind_assoc (Ok a) f g = refl
bind_assoc (Err e) f g = refl

pub bind_same : {E A B : Type 0} (x : Result A E) (f g : A → Result B E) → ((a : A) → f a ≡ g a) → x >>= f ≡ x >>= g
bind_same (Ok a) f g h = h a
bind_same (Err e) f g h = refl

pub bind_ok : {E A : Type 0} (x : Result A E) → x >>= (λ r. Ok r) ≡ x
bind_ok (Ok a) = refl
bind_ok (Err e) = refl

module _ {C F V S E : Type 0} (reader : Reader C F V S E) where
  -- what the rest gives, when a part is done
  abbrev pub given : C → List F → V × S → List Sign → Result (V × S) E
  given c st v rest = elim st [ [] ↦ Ok v | f ∷ fs ↦ reader.takes f v.0 v.1 >>= λ r. run reader c (r.0 ∷ fs) r.1 rest ]

  mutual
    unfolding run walk walks

    pub run-spelling : (c : C) (st : List F) (s : S) (e : Sexp) (rest : List Sign) → run reader c st s (spelling e ++ rest) ≡ walk reader (context_in reader c st) s e >>= λ v. given c st v rest
    run-spelling c st s (atom k text) rest = refl
    run-spelling c st s (group es) rest =
        rw (append_assoc (spellings es) (close_paren ∷ []) rest)
        (bind_same (reader.opens (context_in reader c st) s) _ _ (λ f. run-spellings c f.0 st f.1 es rest)
        ∙ bind_same (reader.opens (context_in reader c st) s) _ _ (λ f. sym (bind_assoc (walks reader f.0 f.1 es) (λ r. reader.closes r.0 r.1) (λ v. given c st v rest)))
        ∙ sym (bind_assoc (reader.opens (context_in reader c st) s) (λ f. walks reader f.0 f.1 es >>= λ r. reader.closes r.0 r.1) (λ v. given c st v rest)))

    pub run-spellings : (c : C) (f : F) (st : List F) (s : S) (es : Sexps) (rest : List Sign) → run reader c (f ∷ st) s (spellings es ++ close_paren ∷ rest) ≡ walks reader f s es >>= λ r. reader.closes r.0 r.1 >>= λ v. given c st v rest
    run-spellings c f st s none rest = refl
    run-spellings c f st s (more e es) rest =
        rw (append_assoc (spelling e) (spellings es) (close_paren ∷ rest))
        (run-spelling c (f ∷ st) s e (spellings es ++ close_paren ∷ rest)
        ∙ bind_same (walk reader (reader.context f) s e) _ _ (λ v.
        bind_same (reader.takes f v.0 v.1) _ _ (λ r. run-spellings c r.0 st r.1 es rest)
        ∙ sym (bind_assoc (reader.takes f v.0 v.1) (λ r. walks reader r.0 r.1 es) (λ r. reader.closes r.0 r.1 >>= λ w. given c st w rest)))
        ∙ sym (bind_assoc (walk reader (reader.context f) s e) (λ v. reader.takes f v.0 v.1 >>= λ r. walks reader r.0 r.1 es) (λ r. reader.closes r.0 r.1 >>= λ w. given c st w rest)))

  -- reading all of the tokens of an S-expression is the walk over it
  pub run-all : (c : C) (s : S) (e : Sexp) → run reader c [] s (spelling e) ≡ walk reader c s e
  run-all c s e = subst (λ (ls : List Sign). run reader c [] s ls ≡ walk reader c s e) (append-nil (spelling e)) (run-spelling c [] s e [] ∙ bind_ok (walk reader c s e))

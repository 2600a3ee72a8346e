-- An input that is read in pieces, and what is judged of it.
use Rattle.std.proofs.Common.{◌≡◌, ℕ, ◌+◌, ◌-◌, ◌≤◌, List, [], ◌++◌, length, Option, Some, None, Result, Err, refl, sym, ap, ◌∙◌, subst, arith, append_assoc, length-append}
use Rattle.std.specs.Prelude.{IfSome}
use Rattle.std.specs.Io.KnownBytes.{Consumes, IsAtEnd}
use Rattle.std.proofs.KnownBytes.{Consumes-nil, Consumes-trans}
use Rattle.std.proofs.lemmas.List.{nil_from_length}
use Rattle.dimacs_front.specs.Cnf.{StopsAt}
use Rattle.dimacs_front.specs.declared.stop.Stop.{Stop}
use Rattle.dimacs_front.specs.declared.stop.Stop.TheVariants as stop
use Rattle.dimacs_run.specs.declared.failure.Unread.{Unread}
use Rattle.dimacs_run.specs.declared.failure.Unread.TheVariants.{Failed, TooLong}
use Rattle.dimacs_run.specs.declared.failure.Halt.{Halt}
use Rattle.dimacs_run.specs.Reads.{ReadsBytes, ReadsWithin, ReadsPiece, ReadsUntil, ReadsToHalt, HaltsAt, IsFailed, halt_of, input_limit}

-- so much was read, and what is judged from here is judged of the whole
pub record UnderWay {A E : Type 0} (whole here : List ℕ → Result A E) (s s' : Option (List ℕ)) (left : ℕ) : Type 0 where
  pub text : List ℕ
  pub consumed : Consumes s s' text
  pub size : length text + left ≡ input_limit
  pub judged : (more : List ℕ) → whole (text ++ more) ≡ here more

pub reads_more : (n m k : ℕ) (a b c : Option (List ℕ)) → ReadsBytes n a b → ReadsBytes m b c → n + m ≡ k → ReadsBytes k a c
reads_more n m k a b c p q e = (p.0 ++ q.0, Consumes-trans a b c p.0 q.0 p.1 q.1, length-append p.0 q.0 ∙ ap (λ x. x + length q.0) p.2 ∙ ap (λ x. n + x) q.2 ∙ e)

pub within_none : (s : Option (List ℕ)) → ReadsWithin s s
within_none s = (0, omega arith, ([], Consumes-nil s, refl))

module _ {A E : Type 0} (whole here : List ℕ → Result A E) where
  pub way_none : (s : Option (List ℕ)) → ((more : List ℕ) → whole more ≡ here more) → UnderWay whole here s s input_limit
  way_none s h = record { text = []; consumed = Consumes-nil s; size = refl; judged = h }

  module _ (s s' : Option (List ℕ)) (left : ℕ) (w : UnderWay whole here s s' left) where
    pub way_more : (next : List ℕ → Result A E) (s'' : Option (List ℕ)) (n rest : ℕ) (piece : List ℕ) → n ≤ left → left - n ≡ rest → Consumes s' s'' piece → length piece ≡ n → ((more : List ℕ) → here (piece ++ more) ≡ next more) → UnderWay whole next s s'' rest
    way_more next s'' n rest piece le f c e h = record {
      text = w.text ++ piece;
      consumed = Consumes-trans s s' s'' w.text piece w.consumed c;
      size = omega (arith, length-append w.text piece, w.size, e, f);
      judged = λ more. ap whole (append_assoc w.text piece more) ∙ w.judged (piece ++ more) ∙ h more;
    }

    pub way_within : ReadsWithin s s'
    way_within = (length w.text, let e = w.size in omega arith, (w.text, w.consumed, refl))

    pub way_read : (s'' : Option (List ℕ)) (n : ℕ) → n ≤ left → ReadsBytes n s' s'' → ReadsWithin s s''
    way_read s'' n le h = (length w.text + n, let e = w.size in omega arith, reads_more (length w.text) n (length w.text + n) s s' s'' (w.text, w.consumed, refl) h refl)

    pub way_stopped : (s'' : Option (List ℕ)) (why : Unread) → ReadsPiece left s' s'' (Err why) → ReadsUntil s s'' why
    way_stopped s'' Failed h = way_read s'' 0 (omega arith) h
    way_stopped s'' TooLong h = let e = w.size in reads_more (length w.text) 1 (input_limit + 1) s s' s'' (w.text, w.consumed, refl) h.1 (omega (arith, h.0))

    -- whatever holds of what is judged at the end holds of the whole
    pub way_ends : (s'' : Option (List ℕ)) (n : ℕ) (P : Result A E → Type 0) → n ≡ 0 → ReadsBytes n s' s'' → (n ≡ 0 → IsAtEnd s'') → P (here []) → IfSome s (λ text. P (whole text))
    way_ends s'' n P z r end h = go s s' s'' w.consumed (subst (Consumes s' s'') (nil_from_length r.0 (r.2 ∙ z)) r.1) (end z)
      where
        go : (a b c : Option (List ℕ)) → Consumes a b w.text → Consumes b c [] → IsAtEnd c → IfSome a (λ text. P (whole text))
        go None b c p q e = tt
        go (Some x) None c p q e = absurd p
        go (Some x) (Some y) None p q e = absurd q
        go (Some x) (Some y) (Some z) p q e =
            let same : x ≡ w.text ++ [] = p ∙ ap (λ l. w.text ++ l) (q ∙ e) in
            subst (λ t. P (whole t)) (sym same) (subst P (sym (w.judged [])) h)

    -- whatever holds of what is judged behind a piece holds of the whole
    pub way_fails : (s'' : Option (List ℕ)) (piece : List ℕ) (P : Result A E → Type 0) → Consumes s' s'' piece → ((more : List ℕ) → P (here (piece ++ more))) → IfSome s (λ text. P (whole text))
    way_fails s'' piece P c h = go s s' s'' w.consumed c
      where
        go : (a b d : Option (List ℕ)) → Consumes a b w.text → Consumes b d piece → IfSome a (λ text. P (whole text))
        go None b d p q = tt
        go (Some x) None d p q = absurd p
        go (Some x) (Some y) None p q = absurd q
        go (Some x) (Some y) (Some z) p q =
            let same : x ≡ w.text ++ (piece ++ z) = p ∙ ap (λ l. w.text ++ l) q in
            subst (λ t. P (whole t)) (sym same) (subst P (sym (w.judged (piece ++ z))) (h z))

-- where nothing is judged
pub nothing_judged : {A E : Type 0} (F : List ℕ → Result A E) (s : Option (List ℕ)) (h : Halt E) → ((r : Result A E) → HaltsAt r h) → IfSome s (λ text. HaltsAt (F text) h)
nothing_judged F None h k = tt
nothing_judged F (Some x) h k = k (F x)

-- a text that stops
pub stop_halts : {A E : Type 0} (r : Result A E) (s : Stop E) → StopsAt r s → HaltsAt r (halt_of s)
stop_halts r (stop.Fault e) h = h
stop_halts r stop.NoMemory h = tt

pub stop_reads : {E : Type 0} (a b : Option (List ℕ)) (s : Stop E) → ReadsWithin a b → ReadsToHalt a b (halt_of s)
stop_reads a b (stop.Fault e) h = h
stop_reads a b stop.NoMemory h = h

pub stop_unfailed : {E : Type 0} (P : Type 0) (s : Stop E) → IsFailed (halt_of s) → P
stop_unfailed P (stop.Fault e) h = absurd h
stop_unfailed P stop.NoMemory h = absurd h

-- The bits of terms, by their spans.
use Rattle.std.proofs.Common.{◌≡◌, ◌≢◌, ℕ, suc, ◌+◌, ◌-◌, ◌<◌, ◌≤◌, Bool, true, false, List, [], ◌∷◌, ◌++◌, map, length, refl, ap, sym, ◌∙◌, subst, arith, Option, Some, None, length-append, get_or, slice_get, slice_set}
use Rattle.std.specs.Prelude.{◌==◌, if◌then◌else◌, take, drop, find, option_map, IsSome}
use Rattle.std.specs.Option.{option_and_then}
use Rattle.std.proofs.lemmas.Bool.{eq-eqb, eqb-true, eqb-false}
use Rattle.std.proofs.lemmas.List.{take-append-le, drop-append-le, map-append, length-drop, take_all, get_or-set_same, get_or-set_other}
use Rattle.std.proofs.lemmas.Option.{slice_get-get_or, same_Some}
use Rattle.std.proofs.Math.Seq.{drop-append_seam}
use Rattle.cnf_base.specs.Literals.{Literal}
use Rattle.smt_terms.specs.declared.bits.Span.{Span}
use Rattle.smt_terms.specs.Bits.{TermBits, bits_in, image_in, with_bits, with_image}
use Rattle.smt_terms.specs.BitTables.{shown, is_of, place_in, place_from, IsTable, AreWithin}

-- ---- look-ups

pub bits_found : (ls : List Literal) (spans : List Span) (t : ℕ) → option_map (λ s. (shown ls s).bits) (find (is_of t) spans) ≡ bits_in (map (shown ls) spans) t
bits_found ls [] t = refl
bits_found ls (s ∷ spans) t = go (s.term == t) (bits_found ls spans t) where
  go : (b : Bool) → option_map (λ s. (shown ls s).bits) (find (is_of t) spans) ≡ bits_in (map (shown ls) spans) t → option_map (λ s. (shown ls s).bits) (if b then Some s else find (is_of t) spans) ≡ (if b then Some (shown ls s).bits else bits_in (map (shown ls) spans) t)
  go true ih = refl
  go false ih = ih

pub image_found : (ls : List Literal) (spans : List Span) (t : ℕ) → option_and_then (λ s. s.image) (find (is_of t) spans) ≡ image_in (map (shown ls) spans) t
image_found ls [] t = refl
image_found ls (s ∷ spans) t = go (s.term == t) (image_found ls spans t) where
  go : (b : Bool) → option_and_then (λ s. s.image) (find (is_of t) spans) ≡ image_in (map (shown ls) spans) t → option_and_then (λ s. s.image) (if b then Some s else find (is_of t) spans) ≡ (if b then s.image else image_in (map (shown ls) spans) t)
  go true ih = refl
  go false ih = ih

pub found_within : (ls : List Literal) (spans : List Span) (t : ℕ) (s : Span) → AreWithin ls spans → find (is_of t) spans ≡ Some s → s.start + s.len ≤ length ls
found_within ls [] t s h e = let f : ⊥ = cc in absurd f
found_within ls (r ∷ spans) t s h e = go (r.term == t) (λ q. found_within ls spans t s h.1 q) e where
  go : (b : Bool) → (find (is_of t) spans ≡ Some s → s.start + s.len ≤ length ls) → (if b then Some r else find (is_of t) spans) ≡ Some s → s.start + s.len ≤ length ls
  go true ih q = subst (λ k. k.start + k.len ≤ length ls) (same_Some r s q) h.0
  go false ih q = ih q

-- a span is where the table says
pub found_from : (k : ℕ) (spans : List Span) (t i : ℕ) (d : Span) → place_from k spans t ≡ Some i → (k ≤ i) × (i < k + length spans) × (find (is_of t) spans ≡ Some (get_or spans (i - k) d))
found_from k [] t i d e = let f : ⊥ = cc in absurd f
found_from k (s ∷ spans) t i d e = go (s.term == t) (λ q. found_from (suc k) spans t i d q) e where
  go : (b : Bool) → (place_from (suc k) spans t ≡ Some i → (suc k ≤ i) × (i < suc k + length spans) × (find (is_of t) spans ≡ Some (get_or spans (i - suc k) d))) → (if b then Some k else place_from (suc k) spans t) ≡ Some i → (k ≤ i) × (i < k + length (s ∷ spans)) × ((if b then Some s else find (is_of t) spans) ≡ Some (get_or (s ∷ spans) (i - k) d))
  go true ih q = let h : k ≡ i = same_Some k i q in let z : i - k ≡ 0 = omega arith in (omega arith, omega arith, rw z refl)
  go false ih q = let h = ih q in let le = h.0 in let lt = h.1 in let z : i - k ≡ suc (i - suc k) = omega arith in (omega arith, omega arith, rw z h.2)

pub none_from : (k : ℕ) (spans : List Span) (t : ℕ) → place_from k spans t ≡ None → find (is_of t) spans ≡ None
none_from k [] t e = refl
none_from k (s ∷ spans) t e = go (s.term == t) (λ q. none_from (suc k) spans t q) e where
  go : (b : Bool) → (place_from (suc k) spans t ≡ None → find (is_of t) spans ≡ None) → (if b then Some k else place_from (suc k) spans t) ≡ None → (if b then Some s else find (is_of t) spans) ≡ None
  go true ih q = let f : ⊥ = cc in absurd f
  go false ih q = ih q

-- a term without bits has no span, and one with bits has one
pub no_span : (ls : List Literal) (spans : List Span) (t : ℕ) (now : List TermBits) → map (shown ls) spans ≡ now → bits_in now t ≡ None → find (is_of t) spans ≡ None
no_span ls spans t now v e = go (find (is_of t) spans) (bits_found ls spans t ∙ ap (λ l. bits_in l t) v ∙ e) where
  go : (o : Option Span) → option_map (λ s. (shown ls s).bits) o ≡ None → o ≡ None
  go None q = refl
  go (Some s) q = let f : ⊥ = cc in absurd f

pub span_found : (spans : List Span) (places : List (Option ℕ)) (t k : ℕ) → IsTable spans places → Some k ≡ place_in places t → slice_get spans k ≡ find (is_of t) spans
span_found spans places t k h e =
    let d : Span = record { term = 0; start = 0; len = 0; image = None } in
    let f = found_from 0 spans t k d (sym (e ∙ h t)) in
    let lt : k < length spans = let g = f.1 in omega arith in
    let z : k - 0 ≡ k = omega arith in
    slice_get-get_or spans k d lt ∙ sym (f.2 ∙ ap (λ i. Some (get_or spans i d)) z)

pub span_none : (spans : List Span) (places : List (Option ℕ)) (t : ℕ) → IsTable spans places → None ≡ place_in places t → None ≡ find (is_of t) spans
span_none spans places t h e = sym (none_from 0 spans t (sym (e ∙ h t)))

-- what a look-up of bits gives
pub bits_some : (ls : List Literal) (spans : List Span) (t : ℕ) (s : Span) (now : List TermBits) → map (shown ls) spans ≡ now → Some s ≡ find (is_of t) spans → Some (take s.len (drop s.start ls)) ≡ bits_in now t
bits_some ls spans t s now v e = ap (option_map (λ s. (shown ls s).bits)) e ∙ bits_found ls spans t ∙ ap (λ l. bits_in l t) v

pub bits_none : (ls : List Literal) (spans : List Span) (t : ℕ) (now : List TermBits) → map (shown ls) spans ≡ now → None ≡ find (is_of t) spans → None ≡ bits_in now t
bits_none ls spans t now v e = ap (option_map (λ s. (shown ls s).bits)) e ∙ bits_found ls spans t ∙ ap (λ l. bits_in l t) v

pub image_some : (ls : List Literal) (spans : List Span) (t : ℕ) (s : Span) (now : List TermBits) → map (shown ls) spans ≡ now → Some s ≡ find (is_of t) spans → s.image ≡ image_in now t
image_some ls spans t s now v e = ap (option_and_then (λ s. s.image)) e ∙ image_found ls spans t ∙ ap (λ l. image_in l t) v

pub image_none : (ls : List Literal) (spans : List Span) (t : ℕ) (now : List TermBits) → map (shown ls) spans ≡ now → None ≡ find (is_of t) spans → None ≡ image_in now t
image_none ls spans t now v e = ap (option_and_then (λ s. s.image)) e ∙ image_found ls spans t ∙ ap (λ l. image_in l t) v

-- ---- one span more

push_other : (k : ℕ) (spans : List Span) (s : Span) (t : ℕ) → (s.term == t) ≡ false → place_from k (spans ++ s ∷ []) t ≡ place_from k spans t
push_other k [] s t e = rw e refl
push_other k (r ∷ spans) s t e = ap (λ o. if r.term == t then Some k else o) (push_other (suc k) spans s t e)

push_new : (k : ℕ) (spans : List Span) (s : Span) → find (is_of s.term) spans ≡ None → place_from k (spans ++ s ∷ []) s.term ≡ Some (k + length spans)
push_new k [] s e = rw (eq-eqb s.term s.term refl) (ap Some (omega arith))
push_new k (r ∷ spans) s e = go (r.term == s.term) (λ q. push_new (suc k) spans s q) e where
  go : (b : Bool) → (find (is_of s.term) spans ≡ None → place_from (suc k) (spans ++ s ∷ []) s.term ≡ Some (suc k + length spans)) → (if b then Some r else find (is_of s.term) spans) ≡ None → (if b then Some k else place_from (suc k) (spans ++ s ∷ []) s.term) ≡ Some (k + suc (length spans))
  go true ih q = let f : ⊥ = cc in absurd f
  go false ih q = ih q ∙ ap Some (omega arith)

-- the table with the place of the span that comes last
pub table_push : (spans : List Span) (places more new : List (Option ℕ)) (s : Span) (k : ℕ) → IsTable spans places → ((t : ℕ) → place_in more t ≡ place_in places t) → find (is_of s.term) spans ≡ None → s.term < length more → k ≡ length spans → new ≡ slice_set more s.term (Some k) → IsTable (spans ++ s ∷ []) new
table_push spans places more new s k h same none lt i e t = go (s.term == t) refl where
  go : (b : Bool) → (s.term == t) ≡ b → place_in new t ≡ place_from 0 (spans ++ s ∷ []) t
  go true q =
      let same_term : s.term ≡ t = eqb-true s.term t q in
      rw (e, ← same_term) (get_or-set_same more s.term (Some k) None lt ∙ ap Some (omega (arith, i)) ∙ sym (push_new 0 spans s none))
  go false q =
      let other : t ≢ s.term = λ f. eqb-false s.term t q (sym f) in
      rw e (get_or-set_other more s.term t (Some k) None other ∙ same t ∙ h t ∙ sym (push_other 0 spans s t q))

-- ---- more literals

pub shown_longer : (ls more : List Literal) (spans : List Span) → AreWithin ls spans → map (shown (ls ++ more)) spans ≡ map (shown ls) spans
shown_longer ls more [] h = refl
shown_longer ls more (s ∷ spans) h = rw (drop-append-le s.start ls more (omega (arith, h.0)), take-append-le s.len (drop s.start ls) more (omega (arith, h.0, length-drop s.start ls)), shown_longer ls more spans h.1) refl

pub within_longer : (ls more : List Literal) (spans : List Span) → AreWithin ls spans → AreWithin (ls ++ more) spans
within_longer ls more [] h = tt
within_longer ls more (s ∷ spans) h = (omega (arith, h.0, length-append ls more), within_longer ls more spans h.1)

within_push : (ls : List Literal) (spans : List Span) (s : Span) → AreWithin ls spans → s.start + s.len ≤ length ls → AreWithin ls (spans ++ s ∷ [])
within_push ls [] s h le = (le, tt)
within_push ls (r ∷ spans) s h le = (h.0, within_push ls spans s h.1 le)

-- what is seen of one span more over its own literals
pub shown_set : (ls more bits : List Literal) (spans new : List Span) (t start : ℕ) (now : List TermBits) → map (shown ls) spans ≡ now → AreWithin ls spans → start ≡ length ls → more ≡ ls ++ bits → new ≡ spans ++ record { term = t; start = start; len = length bits; image = None } ∷ [] → map (shown more) new ≡ with_bits now t bits
shown_set ls more bits spans new t start now v h i m e =
    rw (m, e, i, map-append (shown (ls ++ bits)) spans (record { term = t; start = length ls; len = length bits; image = None } ∷ []), shown_longer ls bits spans h, v, drop-append_seam ls bits, take_all (length bits) bits (omega arith)) refl

-- more literals alone are not seen
pub shown_kept : (ls more bits : List Literal) (spans new : List Span) (now : List TermBits) → map (shown ls) spans ≡ now → AreWithin ls spans → more ≡ ls ++ bits → new ≡ spans → map (shown more) new ≡ now
shown_kept ls more bits spans new now v h m e = rw (m, e, shown_longer ls bits spans h) v

pub within_kept : (ls more bits : List Literal) (spans new : List Span) → AreWithin ls spans → more ≡ ls ++ bits → new ≡ spans → AreWithin more new
within_kept ls more bits spans new h m e = rw (m, e) (within_longer ls bits spans h)

pub within_set : (ls more bits : List Literal) (spans new : List Span) (s : Span) → AreWithin ls spans → s.start ≡ length ls → s.len ≡ length bits → more ≡ ls ++ bits → new ≡ spans ++ s ∷ [] → AreWithin more new
within_set ls more bits spans new s h i j m e = rw e (within_push more spans s (rw m (within_longer ls bits spans h)) (rw m (omega (arith, i, j, length-append ls bits))))

-- what is seen of one span more over literals of another
pub shown_link : (ls : List Literal) (spans new : List Span) (t u : ℕ) (held : Span) (now : List TermBits) → map (shown ls) spans ≡ now → Some held ≡ find (is_of u) spans → new ≡ spans ++ record { term = t; start = held.start; len = held.len; image = Some u } ∷ [] → map (shown ls) new ≡ with_image now t u
shown_link ls spans new t u held now v f e =
    rw (e, map-append (shown ls) spans (record { term = t; start = held.start; len = held.len; image = Some u } ∷ []), v, ← bits_some ls spans u held now v f) refl

pub within_link : (ls : List Literal) (spans new : List Span) (t u : ℕ) (held : Span) → AreWithin ls spans → Some held ≡ find (is_of u) spans → new ≡ spans ++ record { term = t; start = held.start; len = held.len; image = Some u } ∷ [] → AreWithin ls new
within_link ls spans new t u held h f e = rw e (within_push ls spans _ h (found_within ls spans u held h (sym f)))

pub some_span : (ls : List Literal) (spans : List Span) (t : ℕ) (now : List TermBits) → map (shown ls) spans ≡ now → IsSome (bits_in now t) → IsSome (find (is_of t) spans)
some_span ls spans t now v h = go (find (is_of t) spans) (subst IsSome (sym (bits_found ls spans t ∙ ap (λ l. bits_in l t) v)) h) where
  go : (o : Option Span) → IsSome (option_map (λ s. (shown ls s).bits) o) → IsSome o
  go None q = q
  go (Some s) q = refl

-- The chunks of what is held.
use Rattle.std.proofs.Common.{◌≡◌, ℕ, zero, suc, ◌<◌, ◌≤◌, List, [], ◌∷◌, ◌++◌, length, Option, Some, None, refl, sym, ap, ◌∙◌, subst, arith, append-nil}
use Rattle.std.specs.Prelude.{option_to_list}
use Rattle.smt_text.specs.declared.chunk.Chunk.{Chunk}
use Rattle.smt_text.specs.Search.{stop_at}
use Rattle.smt_text.specs.Chunks.{first_cut}
use Rattle.smt_text.specs.Framing.{Held, first_chunk, last_chunk, and_more}
use Rattle.smt_text.specs.Script.{Begins, AreCut}
use Rattle.smt_text.proofs.Cuts.{first_chunk-append, first_chunk_shrinks}

pub more_none : (h : Held) (more : List ℕ) → more ≡ [] → and_more h more ≡ h
more_none h more e = (λ i. record { line = h.line; bytes = (ap (λ x. h.bytes ++ x) e ∙ append-nil h.bytes) i })

-- ---- one chunk more

pub cut_next : (old new : Held) (c : Chunk) → first_chunk old ≡ Some (c, new) → (more : List ℕ) (cs : List Chunk) → AreCut (and_more new more) cs → AreCut (and_more old more) (c ∷ cs)
cut_next old new c e more cs k = record {
  whole = c ∷ k.whole;
  rest = k.rest;
  begins = (and_more new more, first_chunk-append old more c new e, k.begins);
  ends = k.ends;
  all = ap (λ x. c ∷ x) k.all;
}

nothing_first : (n : ℕ) → first_chunk (record { line = n; bytes = [] }) ≡ None
unfolding first_chunk first_cut stop_at
nothing_first n = refl

nothing_last : (n : ℕ) → last_chunk (record { line = n; bytes = [] }) ≡ None
unfolding last_chunk stop_at
nothing_last n = refl

nothing_begins : (n : ℕ) (whole : List Chunk) (rest : Held) → Begins (record { line = n; bytes = [] }) whole rest → (whole ≡ []) × (rest ≡ record { line = n; bytes = [] })
nothing_begins n [] rest b = (refl, b)
nothing_begins n (c ∷ cs) rest b = absurd (let e = b.1 in let f = nothing_first n in let z : ⊥ = cc in z)

cut_nothing : (n : ℕ) (cs : List Chunk) → AreCut (record { line = n; bytes = [] }) cs → cs ≡ []
cut_nothing n cs k =
    let b = nothing_begins n k.whole k.rest k.begins in
    k.all ∙ ap (λ w. w ++ option_to_list (last_chunk k.rest)) b.0 ∙ ap (λ r. option_to_list (last_chunk r)) b.1 ∙ ap option_to_list (nothing_last n)

pub cut_empty : (h : Held) (cs : List Chunk) → h.bytes ≡ [] → AreCut h cs → cs ≡ []
cut_empty h cs e k = cut_nothing h.line cs (subst (λ (b : List ℕ). AreCut (record { line = h.line; bytes = b }) cs) e k)

pub cut_last : (h : Held) (last : Option Chunk) → first_chunk h ≡ None → last_chunk h ≡ last → AreCut h (option_to_list last)
cut_last h last e f = record { whole = []; rest = h; begins = refl; ends = e; all = ap option_to_list (sym f) }

-- ---- each text has chunks

no_more_room : (h : Held) (c : Chunk) (rest : Held) → length h.bytes ≤ 0 → first_chunk h ≡ Some (c, rest) → ⊥
no_more_room h c rest le e = let s = first_chunk_shrinks h c rest e in omega (arith, s.less)

mutual
  cut_by : (n : ℕ) (h : Held) (o : Option (Chunk × Held)) → length h.bytes ≤ n → first_chunk h ≡ o → (cs : List Chunk) × AreCut h cs
  cut_by n h None le e = (option_to_list (last_chunk h), cut_last h (last_chunk h) e refl)
  cut_by zero h (Some x) le e = absurd (no_more_room h x.0 x.1 le e)
  cut_by (suc n) h (Some x) le e =
      let s = first_chunk_shrinks h x.0 x.1 e in
      let m = cut_by n x.1 (first_chunk x.1) (let l = s.less in omega arith) refl in
      (x.0 ∷ m.0, record { whole = x.0 ∷ m.1.whole; rest = m.1.rest; begins = (x.1, e, m.1.begins); ends = m.1.ends; all = ap (λ y. x.0 ∷ y) m.1.all })

pub cut_there : (h : Held) → (cs : List Chunk) × AreCut h cs
cut_there h = cut_by (length h.bytes) h (first_chunk h) (omega arith) refl

-- ---- chunks, and those behind them
pub cut_behind : (h : Held) (cs behind : List Chunk) (rest : Held) → Begins h cs rest → AreCut rest behind → AreCut h (cs ++ behind)
cut_behind h [] behind rest b k = subst (λ (x : Held). AreCut x behind) b k
cut_behind h (c ∷ cs) behind rest b k =
    let m = cut_behind b.0 cs behind rest b.2 k in
    record { whole = c ∷ m.whole; rest = m.rest; begins = (b.0, b.1, m.begins); ends = m.ends; all = ap (λ x. c ∷ x) m.all }

-- ---- the end of a script

-- behind the last chunk
abbrev pub emptied : Held → ℕ → Held
emptied h n = record { line = n; bytes = [] }

some_left : (h : Held) (c : Chunk) → last_chunk h ≡ Some c → 0 < length h.bytes
some_left h c e = some_bytes h.line h.bytes e
  where
    some_bytes : (n : ℕ) (b : List ℕ) → last_chunk (record { line = n; bytes = b }) ≡ Some c → 0 < length b
    some_bytes n [] e = absurd (let f = nothing_last n in let z : ⊥ = cc in z)
    some_bytes n (x ∷ b) e = omega arith

-- the chunk that the end of a script closes
pub chunk_ended : (h new : Held) (c : Chunk) → first_chunk h ≡ None → last_chunk h ≡ Some c → new.bytes ≡ [] → (more : List ℕ) (cs : List Chunk) → more ≡ [] → AreCut (and_more new more) cs → AreCut (and_more h more) (c ∷ cs)
chunk_ended h new c e f b more cs m k =
    let none : cs ≡ [] = cut_empty new cs b (subst (λ (x : Held). AreCut x cs) (more_none new more m) k) in
    subst (λ (x : Held). AreCut x (c ∷ cs)) (sym (more_none h more m)) (subst (λ (x : List Chunk). AreCut h (c ∷ x)) (sym none) (cut_last h (Some c) e f))

pub ended_less : (h new : Held) (c : Chunk) → last_chunk h ≡ Some c → new.bytes ≡ [] → length new.bytes < length h.bytes
ended_less h new c e b = let s = some_left h c e in let z : length new.bytes ≡ 0 = ap length b in omega arith

pub cut_empty_there : (h : Held) → h.bytes ≡ [] → AreCut h []
cut_empty_there h e = subst (λ (b : List ℕ). AreCut (record { line = h.line; bytes = b }) []) (sym e) (cut_last (record { line = h.line; bytes = [] }) None (nothing_first h.line) (nothing_last h.line))

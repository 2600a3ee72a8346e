-- A whole chunk stays what it is, whatever follows.
use Rattle.std.proofs.Common.{◌≡◌, ℕ, ◌+◌, ◌-◌, ◌<◌, ◌≤◌, Bool, true, false, cond, List, [], ◌∷◌, ◌++◌, length, take, drop, refl, ap, sym, ◌∙◌, subst, arith, Option, Some, None, eqb}
use Rattle.std.specs.Option.{option_map, option_and_then}
use Rattle.std.proofs.lemmas.List.{length-drop, take-append-le, drop-append-le, length-take-le}
use Rattle.std.proofs.lemmas.List.Sums.{count_by-le-length}
use Rattle.smt_text.specs.Chunks.{begins, comment_after, beginning, closes, inside_after, ends_stray, first_cut, whole_chunk}
use Rattle.smt_text.specs.Framing.{Held, and_more, cut_off, first_chunk, lines_in}
use Rattle.smt_text.specs.Script.{Begins, AreCut}
use Rattle.smt_text.specs.declared.place.Place.TheVariants.{Plain}
use Rattle.smt_text.specs.declared.chunk.ChunkKind.TheVariants.{Stray}
use Rattle.smt_text.specs.declared.chunk.Cut.{Cut}
use Rattle.smt_text.specs.declared.chunk.Chunk.{Chunk}
use Rattle.smt_text.proofs.Searches.{stop_at-append, stop_at-within}

-- where a search gives a chunk, and the search of more gives the same
mapped_more : (f : ℕ → Cut) (o p : Option ℕ) (cut : Cut) → ((n : ℕ) → o ≡ Some n → p ≡ Some n) → option_map f o ≡ Some cut → option_map f p ≡ Some cut
mapped_more f None p cut h e = cc
mapped_more f (Some n) p cut h e = rw (h n refl) e

chosen_more : (b : Bool) (x y z w : Option Cut) (cut : Cut) → (x ≡ Some cut → z ≡ Some cut) → (y ≡ Some cut → w ≡ Some cut) → cond b x y ≡ Some cut → cond b z w ≡ Some cut
chosen_more true x y z w cut h k e = h e
chosen_more false x y z w cut h k e = k e

whole_more : (before : ℕ) (bs more : List ℕ) (cut : Cut) → whole_chunk before bs ≡ Some cut → whole_chunk before (bs ++ more) ≡ Some cut
whole_more before [] more cut e = cc
whole_more before (b ∷ bs) more cut e =
    chosen_more (eqb b 40) _ _ _ _ cut (mapped_more _ _ _ cut (stop_at-append closes inside_after (Plain, 0) bs more))
    (chosen_more (eqb b 41) _ _ _ _ cut (λ k. k) (mapped_more _ _ _ cut (stop_at-append ends_stray (λ s _. s) false bs more))) e

first_cut_by : (bs : List ℕ) (n : ℕ) → beginning false bs ≡ Some n → first_cut bs ≡ whole_chunk n (drop n bs)
unfolding first_cut
first_cut_by bs n e = rw e refl

began : (o : Option ℕ) (f : ℕ → Option Cut) (cut : Cut) → option_and_then f o ≡ Some cut → (n : ℕ) × (o ≡ Some n) × (f n ≡ Some cut)
began None f cut e = cc
began (Some n) f cut e = (n, refl, e)

pub first_cut-append : (bs more : List ℕ) (cut : Cut) → first_cut bs ≡ Some cut → first_cut (bs ++ more) ≡ Some cut
unfolding first_cut
first_cut-append bs more cut e =
    let b = began (beginning false bs) (λ n. whole_chunk n (drop n bs)) cut e in
    let within : b.0 < length bs = stop_at-within begins comment_after false bs b.0 b.1 in
    first_cut_by (bs ++ more) b.0 (stop_at-append begins comment_after false bs more b.0 b.1)
    ∙ rw (drop-append-le b.0 bs more (omega arith)) (whole_more b.0 (drop b.0 bs) more cut b.2)

-- a chunk has at least one byte, and lies within what is held
pub record Lies (cut : Cut) (before room : ℕ) : Type 0 where
  pub before_is : cut.before ≡ before
  pub some : 1 ≤ cut.size
  pub within : cut.size ≤ room

mapped_lies : (f : ℕ → Cut) (o : Option ℕ) (cut : Cut) (before room : ℕ) → ((n : ℕ) → o ≡ Some n → Lies (f n) before room) → option_map f o ≡ Some cut → Lies cut before room
mapped_lies f None cut before room h e = absurd (let c : ⊥ = cc in c)
mapped_lies f (Some n) cut before room h e = let k : f n ≡ cut = cc in subst (λ (x : Cut). Lies x before room) k (h n refl)

chosen_lies : (b : Bool) (x y : Option Cut) (cut : Cut) (before room : ℕ) → (x ≡ Some cut → Lies cut before room) → (y ≡ Some cut → Lies cut before room) → cond b x y ≡ Some cut → Lies cut before room
chosen_lies true x y cut before room h k e = h e
chosen_lies false x y cut before room h k e = k e

whole_lies : (before : ℕ) (bs : List ℕ) (cut : Cut) → whole_chunk before bs ≡ Some cut → Lies cut before (length bs)
whole_lies before [] cut e = absurd (let c : ⊥ = cc in c)
whole_lies before (b ∷ bs) cut e =
    chosen_lies (eqb b 40) _ _ cut before (length (b ∷ bs))
    (mapped_lies _ _ cut before _ (λ n h. let w : n < length bs = stop_at-within closes inside_after (Plain, 0) bs n h in record { before_is = refl; some = omega arith; within = omega arith }))
    (chosen_lies (eqb b 41) _ _ cut before (length (b ∷ bs))
    (λ k. let q : record { kind = Stray; before = before; size = 1 } ≡ cut = cc in subst (λ (x : Cut). Lies x before (length (b ∷ bs))) q (record { before_is = refl; some = omega arith; within = omega arith }))
    (mapped_lies _ _ cut before _ (λ n h. let w : n < length bs = stop_at-within ends_stray (λ s _. s) false bs n h in record { before_is = refl; some = omega arith; within = omega arith })))
    e

pub first_cut_lies : (bs : List ℕ) (cut : Cut) → first_cut bs ≡ Some cut → (1 ≤ cut.size) × (cut.before + cut.size ≤ length bs)
unfolding first_cut
first_cut_lies bs cut e =
    let b = began (beginning false bs) (λ n. whole_chunk n (drop n bs)) cut e in
    let within : b.0 < length bs = stop_at-within begins comment_after false bs b.0 b.1 in
    let l = whole_lies b.0 (drop b.0 bs) cut b.2 in
    (l.some, let w : cut.size ≤ length bs - b.0 = rw length-drop at l.within in omega (arith, l.before_is))

mapped : {A B : Type 0} (f : A → B) (o : Option A) (y : B) → option_map f o ≡ Some y → (x : A) × (o ≡ Some x) × (f x ≡ y)
mapped f None y e = absurd (let c : ⊥ = cc in c)
mapped f (Some x) y e = (x, refl, let k : f x ≡ y = cc in k)

cut_off-more : (h : Held) (more : List ℕ) (cut : Cut) → cut.before + cut.size ≤ length h.bytes → cut_off (and_more h more) cut ≡ ((cut_off h cut).0, and_more (cut_off h cut).1 more)
cut_off-more h more cut w =
    let tail : cut.size ≤ length (drop cut.before h.bytes) = rw length-drop (omega arith) in
    rw (take-append-le cut.before h.bytes more (omega arith), take-append-le (cut.before + cut.size) h.bytes more w, drop-append-le cut.before h.bytes more (omega arith), drop-append-le (cut.before + cut.size) h.bytes more w, take-append-le cut.size (drop cut.before h.bytes) more tail) refl

pub first_chunk-append : (h : Held) (more : List ℕ) (c : Chunk) (rest : Held) → first_chunk h ≡ Some (c, rest) → first_chunk (and_more h more) ≡ Some (c, and_more rest more)
unfolding first_chunk
first_chunk-append h more c rest e =
    let m = mapped (cut_off h) (first_cut h.bytes) (c, rest) e in
    let w = first_cut_lies h.bytes m.0 m.1 in
    rw (first_cut-append h.bytes more m.0 m.1, cut_off-more h more m.0 w.1) (ap (λ (q : Chunk × Held). Some (q.0, and_more q.1 more)) m.2)

-- what a text begins with, it begins with however it goes on
pub Begins-append : (h : Held) (cs : List Chunk) (rest : Held) (more : List ℕ) → Begins h cs rest → Begins (and_more h more) cs (and_more rest more)
Begins-append h [] rest more b = ap (λ (x : Held). and_more x more) b
Begins-append h (c ∷ cs) rest more b = (and_more b.0 more, first_chunk-append h more c b.0 b.1, Begins-append b.0 cs rest more b.2)

-- one more chunk
pub Begins-push : (h : Held) (cs : List Chunk) (mid : Held) (c : Chunk) (rest : Held) → Begins h cs mid → first_chunk mid ≡ Some (c, rest) → Begins h (cs ++ c ∷ []) rest
Begins-push h [] mid c rest b e = (rest, rw b at e, refl)
Begins-push h (d ∷ cs) mid c rest b e = (b.0, b.1, Begins-push b.0 cs mid c rest b.2 e)

-- a text is cut in one way
pub one_cut : (h : Held) (a b : List Chunk) (x y : Held) → Begins h a x → first_chunk x ≡ None → Begins h b y → first_chunk y ≡ None → (a ≡ b) × (x ≡ y)
one_cut h [] [] x y p e q f = (refl, p ∙ sym q)
one_cut h [] (c ∷ b) x y p e q f = absurd (let k : None ≡ Some (c, q.0) = sym (rw p at e) ∙ q.1 in let z : ⊥ = cc in z)
one_cut h (c ∷ a) [] x y p e q f = absurd (let k : None ≡ Some (c, p.0) = sym (rw q at f) ∙ p.1 in let z : ⊥ = cc in z)
one_cut h (c ∷ a) (d ∷ b) x y p e q f =
    let same : ◌≡◌ {A = Option (Chunk × Held)} (Some (c, p.0)) (Some (d, q.0)) = sym p.1 ∙ q.1 in
    let pair : ◌≡◌ {A = Chunk × Held} (c, p.0) (d, q.0) = cc in
    let mid : p.0 ≡ q.0 = ap (λ z. z.1) pair in
    let rest = one_cut q.0 a b x y (subst (λ (m : Held). Begins m a x) mid p.2) e q.2 f in
    let front : c ≡ d = ap (λ z. z.0) pair in
    let back : a ≡ b = rest.0 in
    ((λ i. front i ∷ back i), rest.1)

pub AreCut-one : (h : Held) (a b : List Chunk) → AreCut h a → AreCut h b → a ≡ b
AreCut-one h a b p q =
    let o = one_cut h p.whole q.whole p.rest q.rest p.begins p.ends q.begins q.ends in
    p.all ∙ rw (o.0, o.1) (sym q.all)

-- a chunk takes at least one byte away, and counts no more lines than bytes
pub record Shrinks (h rest : Held) : Type 0 where
  pub less : length rest.bytes < length h.bytes
  pub lines : rest.line + length rest.bytes ≤ h.line + length h.bytes

pub first_chunk_shrinks : (h : Held) (c : Chunk) (rest : Held) → first_chunk h ≡ Some (c, rest) → Shrinks h rest
unfolding first_chunk
first_chunk_shrinks h c rest e =
    let m = mapped (cut_off h) (first_cut h.bytes) (c, rest) e in
    let w = first_cut_lies h.bytes m.0 m.1 in
    let k : (cut_off h m.0).1 ≡ rest = ap (λ (q : Chunk × Held). q.1) m.2 in
    let n = m.0.before + m.0.size in
    let lines : lines_in (take n h.bytes) ≤ length (take n h.bytes) = count_by-le-length (λ b. eqb b 10) (take n h.bytes) in
    let taken : length (take n h.bytes) ≡ n = length-take-le n h.bytes w.1 in
    subst (Shrinks h) k (record { less = rw length-drop (omega arith); lines = rw length-drop (omega arith) })

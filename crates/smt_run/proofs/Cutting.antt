-- A script that is cut behind its first chunks has these chunks alone.
use Rattle.std.proofs.Common.{◌≡◌, ℕ, zero, suc, ◌+◌, ◌-◌, ◌<◌, ◌≤◌, Bool, true, false, cond, List, [], ◌∷◌, ◌++◌, length, take, drop, refl, ap, sym, ◌∙◌, subst, arith, Option, Some, None, eqb, inl, inr, append_assoc, append-nil, length-append, take-append-drop, get_or, ap₂}
use Rattle.std.proofs.lemmas.List.{drop_more, drop-take, get_or-take, take-take, append_cancel_right, length-take-le}
use Rattle.std.proofs.Math.Seq.{take-append_seam}
use Rattle.std.specs.Prelude.{◌⊎◌, option_to_list, if◌then◌else◌, ◌==◌, IsSome}
use Rattle.std.specs.Option.{option_map, option_and_then}
use Rattle.smt_text.specs.Search.{stop_at}
use Rattle.smt_text.specs.Chunks.{begins, comment_after, beginning, closes, inside_after, closing, ends_stray, stray_end, first_cut, whole_chunk}
use Rattle.smt_text.specs.Framing.{Held, and_more, cut_off, first_chunk, last_chunk, lines_in}
use Rattle.smt_text.specs.Script.{Begins, AreCut, AreChunks}
use Rattle.smt_text.specs.declared.place.Place.TheVariants.{Plain}
use Rattle.smt_text.specs.declared.chunk.ChunkKind.TheVariants.{Balanced, Stray, Unfinished}
use Rattle.smt_text.specs.declared.chunk.Cut.{Cut}
use Rattle.smt_text.specs.declared.chunk.Chunk.{Chunk}
use Rattle.accepted_proof.specs.Accepted.{IsFront}
use Rattle.smt_text.proofs.Searches.{stop_at-within}
use Rattle.smt_text.proofs.Cuts.{first_chunk-append, first_cut_lies, AreCut-one}

-- ---- searches

module _ {S : Type 0} (stops : S → ℕ → Bool) (after : S → ℕ → S) where
  here_or_on : (c : Bool) (o p : Option ℕ) (n k : ℕ) → ((m : ℕ) → o ≡ Some m → m < k → p ≡ Some m) → cond c (Some 0) (option_map suc o) ≡ Some n → n < suc k → cond c (Some 0) (option_map suc p) ≡ Some n
  here_or_on true o p n k h e lt = e
  here_or_on false None p n k h e lt = cc
  here_or_on false (Some m) p n k h e lt = let q : suc m ≡ n = cc in rw (h m refl (omega (arith, q, lt))) (ap Some q)

  -- what was found is found in any front that holds it
  found_within : (s : S) (bs : List ℕ) (n k : ℕ) → stop_at stops after s bs ≡ Some n → n < k → stop_at stops after s (take k bs) ≡ Some n
  unfolding stop_at
  found_within s [] n k e lt = cc
  found_within s (b ∷ bs) n zero e lt = absurd (omega (arith, lt))
  found_within s (b ∷ bs) n (suc k) e lt = here_or_on (stops s b) (stop_at stops after (after s b) bs) (stop_at stops after (after s b) (take k bs)) n k (λ m f l. found_within (after s b) bs m k f l) e lt

  not_before : (c : Bool) (o p : Option ℕ) (n : ℕ) → ((m : ℕ) → o ≡ Some m → m ≡ n → p ≡ None) → cond c (Some 0) (option_map suc o) ≡ Some (suc n) → cond c (Some 0) (option_map suc p) ≡ None
  not_before true o p n h e = let z : ⊥ = cc in absurd z
  not_before false None p n h e = let z : ⊥ = cc in absurd z
  not_before false (Some m) p n h e = let q : suc m ≡ suc n = cc in rw (h m refl (omega (arith, q))) refl

  -- before it nothing is found
  none_before : (s : S) (bs : List ℕ) (n : ℕ) → stop_at stops after s bs ≡ Some n → stop_at stops after s (take n bs) ≡ None
  unfolding stop_at
  none_before s [] n e = cc
  none_before s (b ∷ bs) zero e = refl
  none_before s (b ∷ bs) (suc n) e = not_before (stops s b) (stop_at stops after (after s b) bs) (stop_at stops after (after s b) (take n bs)) n (λ m f q. none_before (after s b) bs n (f ∙ ap Some q)) e

-- ---- the first chunk

mapped : {A B : Type 0} (f : A → B) (o : Option A) (y : B) → option_map f o ≡ Some y → (x : A) × (o ≡ Some x) × (f x ≡ y)
mapped f None y e = absurd (let c : ⊥ = cc in c)
mapped f (Some x) y e = (x, refl, let k : f x ≡ y = cc in k)

began : (o : Option ℕ) (f : ℕ → Option Cut) (cut : Cut) → option_and_then f o ≡ Some cut → (n : ℕ) × (o ≡ Some n) × (f n ≡ Some cut)
began None f cut e = cc
began (Some n) f cut e = (n, refl, e)

-- what stands from the first byte of a chunk to its end is that chunk, or is text that has no end yet; with one byte more it is
abbrev IsText : ℕ → ℕ → List ℕ → Type 0
IsText before b bs = (whole_chunk before (b ∷ bs) ≡ None) × (eqb b 40 ≡ false)

record Ends (before b : ℕ) (bs : List ℕ) (cut : Cut) : Type 0 where
  pub rest : ℕ
  pub size : cut.size ≡ suc rest
  pub before_is : cut.before ≡ before
  pub here : IsSome (whole_chunk before (b ∷ take rest bs)) ⊎ ((cut.kind ≡ Stray) × IsText before b (take rest bs))
  pub further : (k : ℕ) → rest < k → whole_chunk before (b ∷ take k bs) ≡ Some cut

command_ends : (before b : ℕ) (bs : List ℕ) (cut : Cut) → eqb b 40 ≡ true → option_map (λ n. record { kind = Balanced; before = before; size = n + 2 }) (closing (Plain, 0) bs) ≡ Some cut → Ends before b bs cut
command_ends before b bs cut is e =
    let m = mapped (λ n. record { kind = Balanced; before = before; size = n + 2 }) (closing (Plain, 0) bs) cut e in
    let go : (k : ℕ) → m.0 < k → whole_chunk before (b ∷ take k bs) ≡ Some cut = λ k lt. rw (is, found_within closes inside_after (Plain, 0) bs m.0 k m.1 lt) (ap Some m.2) in
    record {
      rest = suc m.0;
      size = sym (ap (λ (x : Cut). x.size) m.2) ∙ omega arith;
      before_is = sym (ap (λ (x : Cut). x.before) m.2);
      here = inl (subst IsSome (sym (go (suc m.0) (omega arith))) refl);
      further = λ k lt. go k (omega (arith, lt));
    }

close_ends : (before b : ℕ) (bs : List ℕ) (cut : Cut) → eqb b 40 ≡ false → eqb b 41 ≡ true → Some (record { kind = Stray; before = before; size = 1 }) ≡ Some cut → Ends before b bs cut
close_ends before b bs cut other is e =
    let m : record { kind = Stray; before = before; size = 1 } ≡ cut = cc in
    record {
      rest = 0;
      size = sym (ap (λ (x : Cut). x.size) m);
      before_is = sym (ap (λ (x : Cut). x.before) m);
      here = inl (rw (other, is) refl);
      further = λ k lt. rw (other, is) e;
    }

text_ends : (before b : ℕ) (bs : List ℕ) (cut : Cut) → eqb b 40 ≡ false → eqb b 41 ≡ false → option_map (λ n. record { kind = Stray; before = before; size = n + 1 }) (stray_end bs) ≡ Some cut → Ends before b bs cut
text_ends before b bs cut other none e =
    let m = mapped (λ n. record { kind = Stray; before = before; size = n + 1 }) (stray_end bs) cut e in
    record {
      rest = m.0;
      size = sym (ap (λ (x : Cut). x.size) m.2) ∙ omega arith;
      before_is = sym (ap (λ (x : Cut). x.before) m.2);
      here = inr (sym (ap (λ (x : Cut). x.kind) m.2), (rw (other, none, none_before ends_stray (λ s _. s) false bs m.0 m.1) refl, other));
      further = λ k lt. rw (other, none, found_within ends_stray (λ s _. s) false bs m.0 k m.1 lt) (ap Some m.2);
    }

by_second : (before b : ℕ) (bs : List ℕ) (cut : Cut) (d : Bool) → eqb b 40 ≡ false → eqb b 41 ≡ d
    → cond d (Some (record { kind = Stray; before = before; size = 1 })) (option_map (λ n. record { kind = Stray; before = before; size = n + 1 }) (stray_end bs)) ≡ Some cut → Ends before b bs cut
by_second before b bs cut true other is e = close_ends before b bs cut other is e
by_second before b bs cut false other is e = text_ends before b bs cut other is e

by_first : (before b : ℕ) (bs : List ℕ) (cut : Cut) (c : Bool) → eqb b 40 ≡ c
    → cond c (option_map (λ n. record { kind = Balanced; before = before; size = n + 2 }) (closing (Plain, 0) bs)) (cond (eqb b 41) (Some (record { kind = Stray; before = before; size = 1 })) (option_map (λ n. record { kind = Stray; before = before; size = n + 1 }) (stray_end bs))) ≡ Some cut → Ends before b bs cut
by_first before b bs cut true is e = command_ends before b bs cut is e
by_first before b bs cut false is e = by_second before b bs cut (eqb b 41) is refl e

chunk_ends : (before b : ℕ) (bs : List ℕ) (cut : Cut) → whole_chunk before (b ∷ bs) ≡ Some cut → Ends before b bs cut
chunk_ends before b bs cut e = by_first before b bs cut (eqb b 40) refl e

-- ---- a text cut behind its first chunk

first_cut_by : (bs : List ℕ) (n : ℕ) → beginning false bs ≡ Some n → first_cut bs ≡ whole_chunk n (drop n bs)
unfolding first_cut
first_cut_by bs n e = rw e refl

-- where the first chunk begins, and how it ends
record Begun (bytes : List ℕ) (cut : Cut) : Type 0 where
  pub at : ℕ
  pub begins : beginning false bytes ≡ Some at
  pub ends : Ends at (get_or bytes at 0) (drop (at + 1) bytes) cut

begun : (bytes : List ℕ) (cut : Cut) → first_cut bytes ≡ Some cut → Begun bytes cut
unfolding first_cut
begun bytes cut e =
    let b = began (beginning false bytes) (λ n. whole_chunk n (drop n bytes)) cut e in
    let within : b.0 < length bytes = stop_at-within begins comment_after false bytes b.0 b.1 in
    record {
      at = b.0;
      begins = b.1;
      ends = chunk_ends b.0 (get_or bytes b.0 0) (drop (b.0 + 1) bytes) cut (subst (λ l. whole_chunk b.0 l ≡ Some cut) (drop_more bytes b.0 0 within) b.2);
    }

module _ (bytes : List ℕ) (cut : Cut) (g : Begun bytes cut) where
  inside : g.at < length bytes
  inside = stop_at-within begins comment_after false bytes g.at g.begins

  -- a front that holds the first byte of the chunk
  abbrev front : ℕ → List ℕ
  front k = take (g.at + suc k) bytes

  front_begins : (k : ℕ) → beginning false (front k) ≡ Some g.at
  front_begins k = found_within begins comment_after false bytes g.at (g.at + suc k) g.begins (omega arith)

  front_behind : (k : ℕ) → drop g.at (front k) ≡ get_or bytes g.at 0 ∷ take k (drop (g.at + 1) bytes)
  front_behind k = drop-take g.at (suc k) bytes ∙ ap (take (suc k)) (drop_more bytes g.at 0 inside)

  front_cut : (k : ℕ) → first_cut (front k) ≡ whole_chunk g.at (get_or bytes g.at 0 ∷ take k (drop (g.at + 1) bytes))
  front_cut k = first_cut_by (front k) g.at (front_begins k) ∙ ap (whole_chunk g.at) (front_behind k)

none_cut : (line : ℕ) → AreCut (record { line = line; bytes = [] }) []
unfolding first_chunk first_cut last_chunk stop_at
none_cut line = record { whole = []; rest = record { line = line; bytes = [] }; begins = refl; ends = refl; all = refl }

-- where a text and its front begin with a chunk, it is the same
whole_front : (h : Held) (c : Chunk) (mid : Held) (cs : List Chunk) (total cut behind : List ℕ) (q : Chunk × Held) → first_chunk h ≡ Some (c, mid) → h.bytes ≡ total ++ behind → mid.bytes ≡ cut ++ behind
    → first_chunk (record { line = h.line; bytes = total }) ≡ Some q → AreCut (record { line = mid.line; bytes = cut }) cs → AreCut (record { line = h.line; bytes = total }) (c ∷ cs)
whole_front h c mid cs total cut behind q e split rest k a =
    let more : first_chunk (record { line = h.line; bytes = total ++ behind }) ≡ Some (q.0, and_more q.1 behind) = first_chunk-append (record { line = h.line; bytes = total }) behind q.0 q.1 k in
    let whole : ◌≡◌ {A = Held} h (record { line = h.line; bytes = total ++ behind }) = (λ i. record { line = h.line; bytes = split i }) in
    let both : ◌≡◌ {A = Option (Chunk × Held)} (Some (c, mid)) (Some (q.0, and_more q.1 behind)) = sym e ∙ ap first_chunk whole ∙ more in
    let pair : ◌≡◌ {A = Chunk × Held} (c, mid) (q.0, and_more q.1 behind) = cc in
    let held : mid ≡ and_more q.1 behind = ap (λ z. z.1) pair in
    let front : c ≡ q.0 = ap (λ z. z.0) pair in
    let bytes : q.1.bytes ≡ cut = append_cancel_right q.1.bytes cut behind (sym (ap (λ (x : Held). x.bytes) held) ∙ rest) in
    let here : ◌≡◌ {A = Held} (record { line = mid.line; bytes = cut }) q.1 = (λ i. record { line = ap (λ (x : Held). x.line) held i; bytes = sym bytes i }) in
    let b : AreCut q.1 cs = subst (λ (x : Held). AreCut x cs) here a in
    record {
      whole = c ∷ b.whole;
      rest = b.rest;
      begins = (q.1, k ∙ ap (λ x. Some (x, q.1)) (sym front), b.begins);
      ends = b.ends;
      all = ap (λ l. c ∷ l) b.all;
    }

some_of : (o : Option Cut) → IsSome o → (x : Cut) × (o ≡ Some x)
some_of None h = let z : ⊥ = cc in absurd z
some_of (Some x) h = (x, refl)

chunk_of : (h : Held) (cut : Cut) → first_cut h.bytes ≡ Some cut → first_chunk h ≡ Some (cut_off h cut)
unfolding first_chunk
chunk_of h cut e = rw e refl

no_chunk_of : (h : Held) → first_cut h.bytes ≡ None → first_chunk h ≡ None
unfolding first_chunk
no_chunk_of h e = rw e refl

module _ (h : Held) (c : Chunk) (mid : Held) (e : first_chunk h ≡ Some (c, mid)) where
  cut_of : (cut : Cut) × (first_cut h.bytes ≡ Some cut) × (cut_off h cut ≡ (c, mid))
  unfolding first_chunk
  cut_of = mapped (cut_off h) (first_cut h.bytes) (c, mid) e

  first : Begun h.bytes cut_of.0
  first = begun h.bytes cut_of.0 cut_of.1

  -- what is taken from the text
  abbrev used : ℕ
  used = first.at + suc first.ends.rest

  used_is : cut_of.0.before + cut_of.0.size ≡ used
  used_is = ap₂ (λ a b. a + b) first.ends.before_is first.ends.size

  used_within : used ≤ length h.bytes
  used_within = subst (λ n. n ≤ length h.bytes) used_is (first_cut_lies h.bytes cut_of.0 cut_of.1).1

  mid_bytes : mid.bytes ≡ drop used h.bytes
  mid_bytes = sym (ap (λ (q : Chunk × Held). q.1.bytes) cut_of.2) ∙ ap (λ n. drop n h.bytes) used_is

  abbrev own : Chunk
  own = record { line = h.line + lines_in (take first.at h.bytes); kind = cut_of.0.kind; text = take (suc first.ends.rest) (drop first.at h.bytes) }

  chunk_is : own ≡ c
  chunk_is = sym (λ i. record { line = h.line + lines_in (take (first.ends.before_is i) h.bytes); kind = cut_of.0.kind; text = take (first.ends.size i) (drop (first.ends.before_is i) h.bytes) }) ∙ ap (λ (q : Chunk × Held). q.0) cut_of.2

  -- text that ends where the front does is the last chunk of the front
  last_text : cut_of.0.kind ≡ Stray → eqb (get_or h.bytes first.at 0) 40 ≡ false → last_chunk (record { line = h.line; bytes = take used h.bytes }) ≡ Some c
  unfolding last_chunk
  last_text stray other =
      let line : take first.at (take used h.bytes) ≡ take first.at h.bytes = take-take first.at used h.bytes (omega arith) in
      let byte : eqb (get_or (take used h.bytes) first.at 0) 40 ≡ false = ap (λ x. eqb x 40) (get_or-take used h.bytes first.at 0 (omega arith)) ∙ other in
      let kind : (if get_or (take used h.bytes) first.at 0 == 40 then Unfinished else Stray) ≡ cut_of.0.kind = ap (λ b. if b then Unfinished else Stray) byte ∙ sym stray in
      let text : drop first.at (take used h.bytes) ≡ take (suc first.ends.rest) (drop first.at h.bytes) = drop-take first.at (suc first.ends.rest) h.bytes in
      let same : record { line = h.line + lines_in (take first.at (take used h.bytes)); kind = if get_or (take used h.bytes) first.at 0 == 40 then Unfinished else Stray; text = drop first.at (take used h.bytes) } ≡ own = (λ i. record { line = h.line + lines_in (line i); kind = kind i; text = text i }) in
      rw (front_begins h.bytes cut_of.0 first first.ends.rest) (ap Some (same ∙ chunk_is))

  -- cut at the end of the chunk
  cut_here : (cs : List Chunk) (behind : List ℕ) → mid.bytes ≡ behind → AreCut (record { line = mid.line; bytes = [] }) cs → AreCut (record { line = h.line; bytes = take used h.bytes }) (c ∷ cs)
  cut_here cs behind rest a = go first.ends.here
    where
      split : h.bytes ≡ take used h.bytes ++ behind
      split = sym (take-append-drop used h.bytes) ∙ ap (λ l. take used h.bytes ++ l) (sym mid_bytes ∙ rest)

      front_of : first_cut (take used h.bytes) ≡ whole_chunk first.at (get_or h.bytes first.at 0 ∷ take first.ends.rest (drop (first.at + 1) h.bytes))
      front_of = front_cut h.bytes cut_of.0 first first.ends.rest

      go : IsSome (whole_chunk first.at (get_or h.bytes first.at 0 ∷ take first.ends.rest (drop (first.at + 1) h.bytes))) ⊎ ((cut_of.0.kind ≡ Stray) × IsText first.at (get_or h.bytes first.at 0) (take first.ends.rest (drop (first.at + 1) h.bytes))) → AreCut (record { line = h.line; bytes = take used h.bytes }) (c ∷ cs)
      go (inl some) =
          let x = some_of _ some in
          whole_front h c mid cs (take used h.bytes) [] behind _ e split rest (chunk_of (record { line = h.line; bytes = take used h.bytes }) x.0 (front_of ∙ x.1)) a
      go (inr t) =
          let none : cs ≡ [] = AreCut-one (record { line = mid.line; bytes = [] }) cs [] a (none_cut mid.line) in
          record {
            whole = [];
            rest = record { line = h.line; bytes = take used h.bytes };
            begins = refl;
            ends = no_chunk_of (record { line = h.line; bytes = take used h.bytes }) (front_of ∙ t.1.0);
            all = ap (λ l. c ∷ l) none ∙ sym (ap option_to_list (last_text t.0 t.1.1));
          }

  -- cut further on
  cut_further : (cs : List Chunk) (x : ℕ) (xs behind : List ℕ) → mid.bytes ≡ (x ∷ xs) ++ behind → AreCut (record { line = mid.line; bytes = x ∷ xs }) cs → AreCut (record { line = h.line; bytes = take used h.bytes ++ (x ∷ xs) }) (c ∷ cs)
  cut_further cs x xs behind rest a =
      let total : List ℕ = take used h.bytes ++ (x ∷ xs) in
      let split : h.bytes ≡ total ++ behind = sym (take-append-drop used h.bytes) ∙ ap (λ l. take used h.bytes ++ l) (sym mid_bytes ∙ rest) ∙ sym (append_assoc (take used h.bytes) (x ∷ xs) behind) in
      let k : ℕ = first.ends.rest + length (x ∷ xs) in
      let long : first.at + suc k ≡ length total = omega (arith, length-append (take used h.bytes) (x ∷ xs), length-take-le used h.bytes used_within) in
      let front_is : take (first.at + suc k) h.bytes ≡ total = ap₂ (λ n l. take n l) long split ∙ take-append_seam total behind in
      let found : first_cut total ≡ Some cut_of.0 = sym (ap first_cut front_is) ∙ front_cut h.bytes cut_of.0 first k ∙ first.ends.further k (omega arith) in
      whole_front h c mid cs total (x ∷ xs) behind _ e split rest (chunk_of (record { line = h.line; bytes = total }) cut_of.0 found) a

  abbrev IsCutAt : List Chunk → List ℕ → Type 0
  IsCutAt cs behind = (cut : List ℕ) × (h.bytes ≡ cut ++ behind) × AreCut (record { line = h.line; bytes = cut }) (c ∷ cs)

  one_more : (cs : List Chunk) (cut behind : List ℕ) → mid.bytes ≡ cut ++ behind → AreCut (record { line = mid.line; bytes = cut }) cs → IsCutAt cs behind
  one_more cs [] behind rest a = (take used h.bytes, sym (take-append-drop used h.bytes) ∙ ap (λ l. take used h.bytes ++ l) (sym mid_bytes ∙ rest), cut_here cs behind rest a)
  one_more cs (x ∷ xs) behind rest a =
      (take used h.bytes ++ (x ∷ xs), sym (take-append-drop used h.bytes) ∙ ap (λ l. take used h.bytes ++ l) (sym mid_bytes ∙ rest) ∙ sym (append_assoc (take used h.bytes) (x ∷ xs) behind), cut_further cs x xs behind rest a)

-- what a text begins with are the chunks of a front of it
pub begins_cut : (h : Held) (cs : List Chunk) (rest : Held) → Begins h cs rest → (cut : List ℕ) × (h.bytes ≡ cut ++ rest.bytes) × AreCut (record { line = h.line; bytes = cut }) cs
begins_cut h [] rest b = ([], sym (ap (λ (x : Held). x.bytes) b), none_cut h.line)
begins_cut h (c ∷ cs) rest b = let m = begins_cut b.0 cs rest b.2 in one_more h c b.0 b.1 cs m.0 rest.bytes m.1 m.2

-- so are the first chunks of a script
pub front_parts : (text : List ℕ) (chunks : List Chunk) → IsFront text chunks → (cut : List ℕ) × (rest : List ℕ) × (text ≡ cut ++ rest) × AreChunks cut chunks
front_parts text chunks (inl b) = let m = begins_cut (record { line = 1; bytes = text }) chunks b.0 b.1 in (m.0, b.0.bytes, m.1, m.2)
front_parts text chunks (inr a) = (text, [], sym (append-nil text), a)

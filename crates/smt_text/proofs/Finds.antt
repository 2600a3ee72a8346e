-- The search for the first chunk goes on where it was left.
use Rattle.std.proofs.Common.{◌≡◌, ◌≢◌, ℕ, ◌+◌, ◌-◌, ◌<◌, ◌≤◌, Bool, false, List, [], ◌∷◌, length, get_or, take, drop, refl, ap, ◌∙◌, arith, Some, None}
use Rattle.std.specs.Option.{option_map}
use Rattle.std.proofs.lemmas.Bool.{ne_eqb}
use Rattle.std.proofs.lemmas.List.{drop_more, drop-drop, length-drop, take_all}
use Rattle.smt_text.specs.Search.{state_after, Passes}
use Rattle.smt_text.specs.Chunks.{begins, comment_after, beginning, closes, inside_after, closing, ends_stray, stray_end, Inside, first_cut, whole_chunk}
use Rattle.smt_text.specs.Framing.{Searched}
use Rattle.smt_text.specs.declared.place.Place.{Place}
use Rattle.smt_text.specs.declared.place.Place.TheVariants.{Plain}
use Rattle.smt_text.specs.declared.chunk.ChunkKind.TheVariants.{Balanced, Stray}
use Rattle.smt_text.specs.declared.find.Progress.TheVariants as progress
use Rattle.smt_text.proofs.Searches.{nothing_passed, stops_further, passes_further, stop_at-within}

first_cut-at : (bytes : List ℕ) (start : ℕ) → beginning false bytes ≡ Some start → first_cut bytes ≡ whole_chunk start (get_or bytes start 0 ∷ drop (start + 1) bytes)
unfolding first_cut
first_cut-at bytes start e =
    let within : start < length bytes = stop_at-within begins comment_after false bytes start e in
    rw (e, drop_more bytes start 0 within) refl

first_cut-none : (bytes : List ℕ) → beginning false bytes ≡ None → first_cut bytes ≡ None
unfolding first_cut
first_cut-none bytes e = rw e refl

command_chunk : (start b : ℕ) (bs : List ℕ) → b ≡ 40 → whole_chunk start (b ∷ bs) ≡ option_map (λ n. record { kind = Balanced; before = start; size = n + 2 }) (closing (Plain, 0) bs)
command_chunk start b bs e = rw e refl

rest_at : (bytes : List ℕ) (start n : ℕ) → start < n → drop (n - (start + 1)) (drop (start + 1) bytes) ≡ drop n bytes
rest_at bytes start n h = drop-drop (n - (start + 1)) (start + 1) bytes ∙ ap (λ k. drop k bytes) (omega arith)

whole_tail : (bytes : List ℕ) (start : ℕ) {t : Inside} → Passes closes inside_after (Plain, 0) (drop (start + 1) bytes) t → Passes closes inside_after (Plain, 0) (take (length bytes - (start + 1)) (drop (start + 1) bytes)) t
whole_tail bytes start p = rw (take_all (length bytes - (start + 1)) (drop (start + 1) bytes) (rw length-drop (omega arith))) p

stays : (bs : List ℕ) → state_after ends_stray (λ s _. s) false bs ≡ false
unfolding state_after
stays [] = refl
stays (b ∷ bs) = stays bs

nothing_yet : (start : ℕ) (bytes : List ℕ) → take (start + 1 - (start + 1)) (drop (start + 1) bytes) ≡ []
nothing_yet start bytes = ap (λ k. take k (drop (start + 1) bytes)) (let z : start + 1 - (start + 1) ≡ 0 = omega arith in z)

pub command_found : (bytes : List ℕ) (start searched n : ℕ) (place : Place) (depth : ℕ) → searched ≤ length bytes → Searched bytes searched (progress.Command start place depth) → closing (place, depth) (drop searched bytes) ≡ Some n → first_cut bytes ≡ Some (record { kind = Balanced; before = start; size = searched + n + 1 - start })
command_found bytes start searched n place depth h s e =
    let tail = drop (start + 1) bytes in
    let within : searched - (start + 1) ≤ length tail = rw (length-drop (start + 1) bytes) (omega arith) in
    let found : closing (Plain, 0) tail ≡ Some (searched - (start + 1) + n) =
    stops_further closes inside_after (Plain, 0) tail (searched - (start + 1)) n (place, depth) within s.4 (rw (rest_at bytes start searched s.0) e) in
    first_cut-at bytes start s.2 ∙ command_chunk start _ tail s.3 ∙ rw found (ap (λ (k : ℕ). Some (record { kind = Balanced; before = start; size = k })) (let k : searched - (start + 1) + n + 2 ≡ searched + n + 1 - start = omega arith in k))

pub command_passed : (bytes : List ℕ) (start searched : ℕ) (place : Place) (depth : ℕ) (t : Inside) → searched ≤ length bytes → Searched bytes searched (progress.Command start place depth) → Passes closes inside_after (place, depth) (drop searched bytes) t → t.1 ≤ depth + length (drop searched bytes) → (first_cut bytes ≡ None) × Searched bytes (length bytes) (progress.Command start t.0 t.1)
command_passed bytes start searched place depth t h s p k =
    let tail = drop (start + 1) bytes in
    let passed : Passes closes inside_after (Plain, 0) tail t =
    passes_further closes inside_after (Plain, 0) tail (searched - (start + 1)) (place, depth) t s.4 (rw (rest_at bytes start searched s.0) p) in (
      first_cut-at bytes start s.2 ∙ command_chunk start _ tail s.3 ∙ rw passed.stop refl,
      (omega arith, omega (arith, rw length-drop at k), s.2, s.3, whole_tail bytes start passed),
    )

stray_chunk : (start b : ℕ) (bs : List ℕ) → b ≢ 40 → b ≢ 41 → whole_chunk start (b ∷ bs) ≡ option_map (λ n. record { kind = Stray; before = start; size = n + 1 }) (stray_end bs)
stray_chunk start b bs e f = rw (ne_eqb b 40 e, ne_eqb b 41 f) refl

pub stray_found : (bytes : List ℕ) (start searched n : ℕ) → searched ≤ length bytes → Searched bytes searched (progress.Text start) → stray_end (drop searched bytes) ≡ Some n → first_cut bytes ≡ Some (record { kind = Stray; before = start; size = searched + n - start })
stray_found bytes start searched n h s e =
    let tail = drop (start + 1) bytes in
    let within : searched - (start + 1) ≤ length tail = rw (length-drop (start + 1) bytes) (omega arith) in
    let found : stray_end tail ≡ Some (searched - (start + 1) + n) =
    stops_further ends_stray (λ s _. s) false tail (searched - (start + 1)) n false within s.4 (rw (rest_at bytes start searched s.0) e) in
    first_cut-at bytes start s.1 ∙ stray_chunk start _ tail s.2 s.3 ∙ rw found (ap (λ (k : ℕ). Some (record { kind = Stray; before = start; size = k })) (let k : searched - (start + 1) + n + 1 ≡ searched + n - start = omega arith in k))

pub stray_passed : (bytes : List ℕ) (start searched : ℕ) → searched ≤ length bytes → Searched bytes searched (progress.Text start) → stray_end (drop searched bytes) ≡ None → (first_cut bytes ≡ None) × Searched bytes (length bytes) (progress.Text start)
stray_passed bytes start searched h s e =
    let tail = drop (start + 1) bytes in
    let passed : Passes ends_stray (λ s _. s) false tail false =
    passes_further ends_stray (λ s _. s) false tail (searched - (start + 1)) false false s.4 (rw (rest_at bytes start searched s.0) (record { stop = e; state = stays (drop searched bytes) })) in (
      first_cut-at bytes start s.1 ∙ stray_chunk start _ tail s.2 s.3 ∙ rw passed.stop refl,
      (omega arith, s.1, s.2, s.3, rw (take_all (length bytes - (start + 1)) tail (rw length-drop (omega arith))) passed),
    )

pub close_chunk : (bytes : List ℕ) (start : ℕ) → beginning false bytes ≡ Some start → get_or bytes start 0 ≡ 41 → first_cut bytes ≡ Some (record { kind = Stray; before = start; size = 1 })
close_chunk bytes start e b = first_cut-at bytes start e ∙ rw b refl

pub command_begins : (bytes : List ℕ) (start : ℕ) → beginning false bytes ≡ Some start → get_or bytes start 0 ≡ 40 → Searched bytes (start + 1) (progress.Command start Plain 0)
command_begins bytes start e b = (omega arith, omega arith, e, b, rw (nothing_yet start bytes) (nothing_passed closes inside_after (Plain, 0)))

pub stray_begins : (bytes : List ℕ) (start : ℕ) → beginning false bytes ≡ Some start → get_or bytes start 0 ≢ 40 → get_or bytes start 0 ≢ 41 → Searched bytes (start + 1) (progress.Text start)
stray_begins bytes start e b d = (omega arith, e, b, d, rw (nothing_yet start bytes) (nothing_passed ends_stray (λ s _. s) false))

pub blank_found : (bytes : List ℕ) (searched n : ℕ) (comment : Bool) → searched ≤ length bytes → Passes begins comment_after false (take searched bytes) comment → beginning comment (drop searched bytes) ≡ Some n → beginning false bytes ≡ Some (searched + n)
blank_found bytes searched n comment h p e = stops_further begins comment_after false bytes searched n comment h p e

pub blank_passed : (bytes : List ℕ) (searched : ℕ) (comment t : Bool) → Passes begins comment_after false (take searched bytes) comment → Passes begins comment_after comment (drop searched bytes) t → (first_cut bytes ≡ None) × Searched bytes (length bytes) (progress.Blank t)
blank_passed bytes searched comment t p q =
    let passed = passes_further begins comment_after false bytes searched comment t p q in
    (first_cut-none bytes passed.stop, rw (take_all (length bytes) bytes (omega arith)) passed)

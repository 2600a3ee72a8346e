-- What a framer holds, and what it gives.
use Rattle.std.proofs.Common.{◌≡◌, ℕ, ◌+◌, ◌-◌, ◌<◌, ◌≤◌, false, List, [], ◌++◌, length, take, drop, refl, arith, length-append, Some, None, Result, Ok, Err, OnOk, OnErr}
use Rattle.std.proofs.lemmas.List.{length-drop, take-append-le, drop-append-le, get_or_append_left}
use Rattle.smt_text.specs.Search.{Passes}
use Rattle.smt_text.specs.Chunks.{begins, comment_after, first_cut}
use Rattle.smt_text.specs.Framing.{Held, Searched, cut_off, first_chunk}
use Rattle.smt_text.specs.declared.chunk.Cut.{Cut}
use Rattle.smt_text.specs.declared.chunk.Chunk.{Chunk}
use Rattle.smt_text.specs.declared.find.Progress.{Progress}
use Rattle.smt_text.specs.declared.find.Progress.TheVariants as progress
use Rattle.smt_text.proofs.Searches.{nothing_passed, stop_at-append}

pub nothing_searched : Passes begins comment_after false [] false
nothing_searched = nothing_passed begins comment_after false

tail_more : (bytes more : List ℕ) (start n : ℕ) → start < n → n ≤ length bytes → take (n - (start + 1)) (drop (start + 1) (bytes ++ more)) ≡ take (n - (start + 1)) (drop (start + 1) bytes)
tail_more bytes more start n h k =
    rw (drop-append-le (start + 1) bytes more (omega arith)) (take-append-le (n - (start + 1)) (drop (start + 1) bytes) more (rw length-drop (omega arith)))

pub searched-append : (bytes more : List ℕ) (n : ℕ) (p : Progress) → n ≤ length bytes → Searched bytes n p → Searched (bytes ++ more) n p
searched-append bytes more n (progress.Blank comment) h s = rw (take-append-le n bytes more h) s
searched-append bytes more n (progress.Command start place depth) h s =
    (s.0, s.1, stop_at-append begins comment_after false bytes more start s.2, rw (get_or_append_left bytes more 0 start (omega arith)) s.3, rw (tail_more bytes more start n s.0 h) s.4)
searched-append bytes more n (progress.Text start) h s =
    (s.0, stop_at-append begins comment_after false bytes more start s.1, rw (get_or_append_left bytes more 0 start (omega arith)) s.2, rw (get_or_append_left bytes more 0 start (omega arith)) s.3, rw (tail_more bytes more start n s.0 h) s.4)

pub no_chunk : (h : Held) → first_cut h.bytes ≡ None → first_chunk h ≡ None
unfolding first_chunk
no_chunk h e = rw e refl

pub gives_chunk : (h : Held) (cut : Cut) (piece : Chunk) (line : ℕ) (bytes : List ℕ) → first_cut h.bytes ≡ Some cut → piece ≡ (cut_off h cut).0 → line ≡ (cut_off h cut).1.line → bytes ≡ drop (cut.before + cut.size) h.bytes → first_chunk h ≡ Some (piece, record { line = line; bytes = bytes })
unfolding first_chunk
gives_chunk h cut piece line bytes e p l b = rw (e, p, l, b) refl

pub gives_next : (h : Held) (rest : List ℕ) (first : ℕ) (cut : Cut) (piece : Chunk) (line : ℕ) → rest ≡ h.bytes → first ≡ h.line → first_cut rest ≡ Some cut → piece ≡ (cut_off (record { line = first; bytes = rest }) cut).0 → line ≡ (cut_off (record { line = first; bytes = rest }) cut).1.line → first_chunk h ≡ Some (piece, record { line = line; bytes = drop (cut.before + cut.size) h.bytes })
gives_next h rest first cut piece line r f e p l = gives_chunk h cut piece line (drop (cut.before + cut.size) h.bytes) (rw r at e) (rw (r, f) at p) (rw (r, f) at l) refl

-- what was searched stays searched, whether more is fed or not
pub fed : {A E : Type 0} (r : Result A E) (old new : Held) (piece : List ℕ) (n : ℕ) (p : Progress) → OnOk r (new.bytes ≡ old.bytes ++ piece) → OnErr r (new ≡ old) → n ≤ length old.bytes → Searched old.bytes n p → (n ≤ length new.bytes) × Searched new.bytes n p
fed (Ok x) old new piece n p ok err h s = (rw (ok, length-append old.bytes piece) (omega arith), rw ok (searched-append old.bytes piece n p h s))
fed (Err x) old new piece n p ok err h s = rw err (h, s)

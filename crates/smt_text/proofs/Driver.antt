-- The loop over the pieces of a script.
use Rattle.std.proofs.Common.{◌≡◌, ℕ, ◌+◌, ◌<◌, ◌≤◌, List, [], ◌∷◌, ◌++◌, length, get_or, take, refl, ap, Option, Some, None}
use Rattle.std.specs.List.{flat_map}
use Rattle.std.specs.Prelude.{option_to_list}
use Rattle.std.proofs.lemmas.List.{take_all, take_more, append-nil}
use Rattle.std.proofs.lemmas.List.Concat.{flat_map-append}
use Rattle.smt_text.specs.Search.{stop_at}
use Rattle.smt_text.specs.Chunks.{first_cut}
use Rattle.smt_text.specs.Framing.{Held, first_chunk, last_chunk}
use Rattle.smt_text.specs.Script.{Begins, AreChunks}
use Rattle.smt_text.specs.declared.chunk.Chunk.{Chunk}
use Rattle.smt_text.proofs.Cuts.{Begins-append, Begins-push}

-- the text so far begins with the chunks so far, and the framer holds what is behind them
abbrev pub Framed : List ℕ → Held → List Chunk → Type 0
Framed text framer out = Begins (record { line = 1; bytes = text }) out framer

pub framed_none : (framer : Held) (out : List Chunk) → framer ≡ record { line = 1; bytes = [] } → out ≡ [] → Framed [] framer out × (first_chunk framer ≡ None)
unfolding first_chunk first_cut stop_at
framed_none framer out f o = (rw (f, o) refl, rw f refl)

pub framed_fed : (text piece : List ℕ) (old new : Held) (out : List Chunk) → Framed text old out → new.line ≡ old.line → new.bytes ≡ old.bytes ++ piece → Framed (text ++ piece) new out
framed_fed text piece old new out k l b =
    let same : new ≡ record { line = old.line; bytes = old.bytes ++ piece } = (λ i. record { line = l i; bytes = b i }) in
    rw same (Begins-append (record { line = 1; bytes = text }) out old piece k)

pub framed_given : (text : List ℕ) (old new : Held) (c : Chunk) (out more : List Chunk) → Framed text old out → first_chunk old ≡ Some (c, new) → more ≡ out ++ c ∷ [] → Framed text new more
framed_given text old new c out more k e m = rw m (Begins-push (record { line = 1; bytes = text }) out old c new k e)

pub framed_all : (text : List ℕ) (framer : Held) (out all : List Chunk) (last : Option Chunk) → Framed text framer out → first_chunk framer ≡ None → last ≡ last_chunk framer → all ≡ out ++ option_to_list last → AreChunks text all
framed_all text framer out all last k n l a = record { whole = out; rest = framer; begins = k; ends = n; all = rw (a, ← l) refl }

abbrev pub bytes_of : List ℕ → List ℕ
bytes_of piece = piece

pub next_piece : (pieces : List (List ℕ)) (i : ℕ) (p : List ℕ) → i < length pieces → p ≡ get_or pieces i p → flat_map bytes_of (take (i + 1) pieces) ≡ flat_map bytes_of (take i pieces) ++ p
next_piece pieces i p h e = rw (take_more pieces i p h, ← e, flat_map-append bytes_of (take i pieces) (p ∷ [])) (ap (λ l. flat_map bytes_of (take i pieces) ++ l) (append-nil p))

-- at the end of the pieces
pub framed_end : (pieces : List (List ℕ)) (i : ℕ) (framer : Held) (out all : List Chunk) (last : Option Chunk) → length pieces ≤ i → Framed (flat_map bytes_of (take i pieces)) framer out × (first_chunk framer ≡ None) → last ≡ last_chunk framer → all ≡ out ++ option_to_list last → AreChunks (flat_map bytes_of pieces) all
framed_end pieces i framer out all last h k l a = framed_all (flat_map bytes_of pieces) framer out all last (rw (take_all i pieces h) at k.0) k.1 l a

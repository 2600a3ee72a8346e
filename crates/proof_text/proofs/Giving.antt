-- The first whole line of what is held, and what is behind it.
use Rattle.std.proofs.Common.{◌≡◌, ℕ, ◌+◌, ◌<◌, true, List, ◌∷◌, ◌++◌, length, take, drop, get_or, refl, sym, ap, ◌∙◌, Result}
use Rattle.std.proofs.lemmas.List.{take-append-drop}
use Rattle.smt_text.specs.Framing.{Held}
use Rattle.proof_text.specs.Held.{without_feed, IsNext, Answers}
use Rattle.proof_text.specs.declared.line.Line.{Line}
use Rattle.proof_text.specs.declared.reader.LineFault.{LineFault}
use Rattle.proof_text.proofs.Splitting.{next_byte}

cut_at : (held : List ℕ) (size : ℕ) → size < length held → get_or held size 0 ≡ 10 → held ≡ take size held ++ 10 ∷ drop (size + 1) held
cut_at held size h e = sym (take-append-drop size held) ∙ ap (λ t. take size held ++ t) (next_byte held size h ∙ ap (λ b. b ∷ drop (size + 1) held) e)

pub next_line : (h : Held) (rest : List ℕ) (size : ℕ) (a : Result Line LineFault) → rest ≡ h.bytes
    → size < length rest → get_or rest size 0 ≡ 10 → without_feed (take size rest) ≡ true → Answers a h.line (take size rest)
    → (text : List ℕ) × IsNext h text (record { line = h.line + 1; bytes = drop (size + 1) h.bytes }) × Answers a h.line text
next_line h rest size a r within feed first told =
    (take size h.bytes, record { bytes = cut_at h.bytes size (rw r at within) (rw r at feed); first = rw r at first; line = refl }, rw r at told)

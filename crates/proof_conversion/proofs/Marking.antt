-- Hints, one after the other.
use Rattle.std.proofs.Common.{◌≡◌, ℕ, ◌+◌, ◌<◌, ◌≤◌, List, length, drop, get_or, sym, ap, ◌∙◌}
use Rattle.std.proofs.lemmas.List.{at_drop_more, at_drop_all}
use Rattle.proof_text.specs.declared.list.WrittenHint.{WrittenHint}
use Rattle.proof_conversion.specs.Needs.{mark, mark_all, places_of}

pub marks_more : (part : ℕ) (hints : List WrittenHint) (i : ℕ) (d : WrittenHint) (last new all : List ℕ) → i < length hints → new ≡ mark part (get_or hints i d).pos last → mark_all part (places_of (drop i hints)) last ≡ all → mark_all part (places_of (drop (i + 1) hints)) new ≡ all
marks_more part hints i d last new all lt e h =
    ap (λ (x : List ℕ). mark_all part (places_of (drop (i + 1) hints)) x) e ∙ sym (at_drop_more (λ (hs : List WrittenHint). mark_all part (places_of hs) last) hints i d lt) ∙ h

pub marks_done : (part : ℕ) (hints : List WrittenHint) (i : ℕ) (last all : List ℕ) → length hints ≤ i → mark_all part (places_of (drop i hints)) last ≡ all → last ≡ all
marks_done part hints i last all le h = sym (at_drop_all (λ (hs : List WrittenHint). mark_all part (places_of hs) last) hints i le) ∙ h

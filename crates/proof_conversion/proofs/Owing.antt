-- One less, and one before.
use Rattle.std.proofs.Common.{◌≡◌, ◌≢◌, ℕ, zero, suc, ◌-◌, ◌≤◌, List, length, set, slice_get, refl, sym, ap, ◌∙◌, arith}
use Rattle.std.proofs.lemmas.List.{set_past}
use Rattle.proof_text.specs.declared.line.Line.{Line}
use Rattle.proof_conversion.specs.declared.kind.Owed.{Owed}
use Rattle.proof_conversion.specs.Parts.{owed_in}
use Rattle.proof_conversion.specs.Needs.{mark, step_at}

pub owed_less : (more : ℕ → Owed) (n : ℕ) → n ≢ 0 → more (n - 1) ≡ owed_in more n
owed_less more zero h = absurd (h refl)
owed_less more (suc n) h = ap more (let z : suc n - 1 ≡ n = omega arith in z)

pub mark_row : (part place : ℕ) (last : List ℕ) → place ≢ 0 → set last (place - 1) part ≡ mark part place last
mark_row part zero last h = absurd (h refl)
mark_row part (suc i) last h = ap (λ (n : ℕ). set last n part) (let z : suc i - 1 ≡ i = omega arith in z)

pub mark_past : (part place : ℕ) (last : List ℕ) → place ≢ 0 → length last ≤ place - 1 → last ≡ mark part place last
mark_past part place last h le = sym (set_past last (place - 1) part le) ∙ mark_row part place last h

pub step_row : (steps : List Line) (place : ℕ) → place ≢ 0 → slice_get steps (place - 1) ≡ step_at steps place
step_row steps zero h = absurd (h refl)
step_row steps (suc i) h = ap (λ (n : ℕ). slice_get steps n) (let z : suc i - 1 ≡ i = omega arith in z)

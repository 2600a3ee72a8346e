-- The first line of a proof.
use Rattle.std.proofs.Common.{◌≡◌, ℕ, Option, Some, None, Result, Ok, MatchOption, sym, ap, ap₂, ◌∙◌, subst}
use Rattle.proof_text.specs.declared.line.Format.{Format}
use Rattle.proof_text.specs.declared.line.Line.{Line}
use Rattle.proof_text.specs.declared.line.Line.TheVariants as line
use Rattle.proof_text.specs.declared.reader.LineFault.{LineFault}
use Rattle.accepted_proof.specs.Searching.{Limits, AreLimits}
use Rattle.accepted_proof.specs.Judged.{IsHeader}
use Rattle.check_cubes.specs.declared.limits.Limits.{Limits as Kept}
use Rattle.check_cubes.specs.Searches.{limits_of}
use Rattle.proof_checker.specs.Checkers.{line_in}

-- a header has the format and the limits that are written there, where these are in range
pub header_in : (first : Result Line LineFault) (f : Format) (cubes budget : ℕ) (o : Option Kept) → first ≡ Ok (line.Header f cubes budget)
    → MatchOption o (AreLimits (record { cubes = cubes; budget = budget }) → ⊥) (λ l. AreLimits (limits_of l) × (limits_of l ≡ record { cubes = cubes; budget = budget }))
    → MatchOption o ((format : Format) (limits : Limits) → IsHeader (line_in first) format limits → ⊥) (λ l. IsHeader (line_in first) f (limits_of l))
header_in first f cubes budget None e h = λ format limits is.
    let same : Some (line.Header f cubes budget) ≡ Some (line.Header format limits.cubes limits.budget) = sym (ap line_in e) ∙ is.written in
    let c : cubes ≡ limits.cubes = cc in
    let b : budget ≡ limits.budget = cc in
    let back : limits ≡ record { cubes = cubes; budget = budget } = ap₂ (λ x y. let l : Limits = record { cubes = x; budget = y } in l) (sym c) (sym b) in
    h (subst AreLimits back is.allowed)
header_in first f cubes budget (Some l) e h = record {
  written = ap line_in e ∙ ap (λ (x : Limits). Some (line.Header f x.cubes x.budget)) (sym h.1);
  allowed = h.0;
}

pub header_none : (first : Result Line LineFault) (f : Format) (cubes budget : ℕ) → first ≡ Ok (line.Header f cubes budget) → (AreLimits (record { cubes = cubes; budget = budget }) → ⊥) → (format : Format) (limits : Limits) → IsHeader (line_in first) format limits → ⊥
header_none first f cubes budget e h = header_in first f cubes budget None e h

pub header_some : (first : Result Line LineFault) (f : Format) (cubes budget : ℕ) (l : Kept) → first ≡ Ok (line.Header f cubes budget) → AreLimits (limits_of l) × (limits_of l ≡ record { cubes = cubes; budget = budget }) → IsHeader (line_in first) f (limits_of l)
header_some first f cubes budget l e h = header_in first f cubes budget (Some l) e h

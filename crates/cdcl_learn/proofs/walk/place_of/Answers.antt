use Rattle.std.proofs.Common.{◌≡◌, ◌+◌, ◌<◌, length, ◌∙◌, inl, inr, arith}
use Rattle.std.proofs.lemmas.Bool.{cases_lt}
use Rattle.cdcl_core.specs.Search.{literals_of}
use Rattle.cdcl_core.proofs.Clauses.{none_weaker}
use Rattle.cdcl_core.proofs.Placing.{one_place}
use Rattle.cdcl_learn.specs.Rows.{literal_at}
use Rattle.cdcl_learn.proofs.Fronts.{front_stands, stands_row}
use Rattle.cdcl_learn.proofs.walk.place_of.Goals as goal

pub returns-in_default : goal.returns-in_default
returns-in_default c = none_weaker _ c.last_place.result (λ none k h e. elim (cases_lt (k + 1) (length c.args.rows.now)) [
  | inl u ↦ c.in_default.ensures k (front_stands (literals_of c.args.trail.now) c.args.rows.now k c.args.l c.requires.front u e)
  | inr u ↦ none k (omega (arith, u, h)) e
]) c.last_place.ensures

pub returns-then-place-last : goal.returns-then-place-last
returns-then-place-last c =
    let there : (c.in-Some.place < length (literals_of c.args.trail.now)) × (literal_at (literals_of c.args.trail.now) c.in-Some.place ≡ c.args.l) = stands_row (literals_of c.args.trail.now) c.in-Some.place c.args.l c.in-Some.ensures in
    let next : c.in-Some.place + 1 < length c.args.rows.now = omega (arith, c.if-place-last.true, c.saturating_sub-last.ensures) in
    (omega (arith, next), (c.requires.front c.in-Some.place next).1 ∙ there.1)

pub returns : goal.returns
returns c = none_weaker _ c.last_place-2.result (λ none k h e. elim (cases_lt (k + 1) (length c.args.rows.now)) [
  | inl u ↦
      let same : c.in-Some.place ≡ k = one_place c.args.trail.now c.args.l c.in-Some.place k c.requires.trail c.requires.places c.in-Some.ensures (front_stands (literals_of c.args.trail.now) c.args.rows.now k c.args.l c.requires.front u e) in
      absurd (omega (arith, same, u, c.if-place-last.false, c.saturating_sub-last.ensures))
  | inr u ↦ none k (omega (arith, u, h)) e
]) c.last_place-2.ensures

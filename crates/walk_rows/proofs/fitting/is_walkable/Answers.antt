use Rattle.std.proofs.Common.{ℕ, ◌<◌, length}
use Rattle.std.proofs.lemmas.Bool.{MatchBool-at_true, MatchBool-at_false}
use Rattle.std.proofs.lemmas.Result.{IfOk-weaker}
use Rattle.access_walk.specs.Walked.{IsWalkable}
use Rattle.walk_rows.specs.Fitting.{IsFit, AreFit}
use Rattle.walk_rows.proofs.Fitted.{walkable, matched, matched_both}
use Rattle.walk_rows.proofs.fitting.is_walkable.Goals as goal

pub returns-then-not-are_held-clause-exactly : goal.returns-then-not-are_held-clause-exactly
returns-then-not-are_held-clause-exactly c = λ h. MatchBool-at_false _ _ c.if-not-are_held.true c.are_held.ensures h.held

pub returns-clause-walkable : goal.returns-clause-walkable
returns-clause-walkable c = IfOk-weaker c.are_fit.result _ _
    (λ b h. matched
    ((t : ℕ) → t < length c.args.terms.now.nodes → IsFit c.args.terms.now.nodes c.args.bits.now t)
    (((t : ℕ) → t < length c.args.terms.now.nodes → IsFit c.args.terms.now.nodes c.args.bits.now t) → ⊥)
    (IsWalkable c.args.terms.now.nodes c.args.bits.now c.args.live.now)
    b
    (λ fit. walkable c.args.terms.now.nodes c.len-count.ensures.terms.list c.args.bits.now c.requires.unlinked c.args.live.now (MatchBool-at_true _ _ c.if-not-are_held.false c.are_held.ensures) fit)
    h)
    c.are_fit.ensures

pub returns-clause-exactly : goal.returns-clause-exactly
returns-clause-exactly c = IfOk-weaker c.are_fit.result _ _
    (λ b h. matched_both
    ((t : ℕ) → t < length c.args.terms.now.nodes → IsFit c.args.terms.now.nodes c.args.bits.now t)
    (AreFit c.args.terms.now.nodes c.args.bits.now c.args.live.now)
    b
    (λ fit. record { held = MatchBool-at_true _ _ c.if-not-are_held.false c.are_held.ensures; fit = fit })
    (λ all. all.fit)
    h)
    c.are_fit.ensures

use Rattle.std.proofs.Common.{◌≡◌, length, take, arith, ap, ◌∙◌}
use Rattle.std.proofs.lemmas.Bool.{MatchBool-at_true, MatchBool-at_false}
use Rattle.proof_checker.proofs.Deleting.{before_all, more_deletable, more_deleted, none_more}
use Rattle.proof_checker.proofs.deletions.delete.Goals as goal

pub returns-then-not-can_be_deleted : goal.returns-then-not-can_be_deleted
returns-then-not-can_be_deleted c =
    let k = c.loop-place.place-index in
    let places = c.args.places.now in
    let before = c.args.deleted.now in
    let size : c.len-before.result ≡ length c.deleted.inside.places.items = omega arith in (
      none_more c.args.log.now.entries before c.loop-place.deleted places k _ c.loop-place-test.true c.loop-place.invariant.deleted (MatchBool-at_false _ _ c.if-not-can_be_deleted.true c.can_be_deleted.ensures),
      c.drop.view_is ∙ c.in_ok-deleted-inside.ensures ∙ before_all before c.loop-place.deleted (take k places) c.len-before.result (size ∙ ap length c.deleted.view_is) c.loop-place.invariant.deleted,
    )

pub loop-place-preserved : goal.loop-place-preserved
loop-place-preserved c =
    let k = c.loop-place.place-index in
    let places = c.args.places.now in
    let before = c.args.deleted.now in
    let can = MatchBool-at_true _ _ c.if-not-can_be_deleted.false c.can_be_deleted.ensures in
    record {
      can = more_deletable c.args.log.now.entries before c.loop-place.deleted places k _ c.loop-place-test.true c.loop-place.invariant.deleted c.loop-place.invariant.can can;
      deleted = more_deleted c.args.log.now.entries before c.loop-place.deleted places k _ c.loop-place-test.true c.loop-place.invariant.deleted c.push.new.self c.in_ok-push.ensures.ok;
    }

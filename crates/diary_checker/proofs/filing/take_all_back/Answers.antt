use Rattle.std.proofs.Common.{get_or}
use Rattle.std.proofs.lemmas.List.{get_or_default}
use Rattle.diary_checker.specs.Tables.{bit_in}
use Rattle.diary_checker.proofs.Starting.{back_less}
use Rattle.diary_checker.proofs.filing.take_all_back.Goals as goal

pub loop-at-preserved : goal.loop-at-preserved
loop-at-preserved c =
    let k = c.loop-at.at-index in
    let brought = c.args.brought.now in
    let lt = c.loop-at-test.true in
    record {
      back = λ start h.
          back_less start (bit_in c.loop-at.held) (bit_in c.take_back.new.held) brought k (get_or brought k 0) lt (get_or_default brought k 0 (get_or brought k 0) lt) c.in_ok-take_back.ensures.held (c.loop-at.invariant.back start h);
      filed = λ h. c.in_ok-take_back.ensures.filed (c.loop-at.invariant.filed h);
    }

use Rattle.std.proofs.Common.{◌≡◌, get_or, sym, ◌∙◌}
use Rattle.cdcl_core.specs.Stamps.{neg as neg_of}
use Rattle.cdcl_core.proofs.Ranks.{rank_open, rank_set}
use Rattle.cdcl_core.proofs.add.rank_of.Goals as goal

pub returns-then-stamp-eq0 : goal.returns-then-stamp-eq0
returns-then-stamp-eq0 c =
    let read : c.stamp_of-stamp.result ≡ get_or c.args.stamps.now (neg_of c.args.code) 0 = rw (← c.neg.ensures) c.stamp_of-stamp.ensures in
    sym (rank_open c.args.stamps.now c.args.code (sym read ∙ c.if-stamp-eq0.true))

pub returns-else-stamp-eq0 : goal.returns-else-stamp-eq0
returns-else-stamp-eq0 c =
    let read : c.stamp_of-stamp.result ≡ get_or c.args.stamps.now (neg_of c.args.code) 0 = rw (← c.neg.ensures) c.stamp_of-stamp.ensures in
    read ∙ sym (rank_set c.args.stamps.now c.args.code (λ z. c.if-stamp-eq0.false (read ∙ z)))

use Rattle.std.proofs.Common.{◌≡◌, arith}
use Rattle.cdcl_core.proofs.Public.{settled_rest, cut_rows, all_rows}
use Rattle.cdcl_core.proofs.watches.Watches.backjump.Goals as goal

pub returns-then-level-trail-clause-literals : goal.returns-then-level-trail-clause-literals
returns-then-level-trail-clause-literals c = cut_rows c.args.trail.now c.cut_back.new.t.len c.args.level c.cut_back.new.t.rows.items c.requires.settled.trail c.requires.settled.shown c.cut_back.ensures.fewer c.cut_back.ensures.rows c.cut_back.ensures.kept c.cut_back.ensures.gone

pub returns-then-level-trail-clause-rest : goal.returns-then-level-trail-clause-rest
returns-then-level-trail-clause-rest c = λ h. settled_rest c.args.self.now c.cut_back.new.t c.cut_back.ensures.settled (c.cut_back.ensures.head, c.requires.settled.calm (omega arith))

pub returns-else-level-trail-clause-literals : goal.returns-else-level-trail-clause-literals
returns-else-level-trail-clause-literals c =
    let e : c.args.level ≡ c.args.trail.now.level = omega (arith, c.requires.lower, c.if-level-trail.false) in
    rw e (all_rows c.args.trail.now c.requires.settled.trail c.requires.settled.shown)

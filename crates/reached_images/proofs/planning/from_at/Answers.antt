use Rattle.std.proofs.Common.{sym, ap, ◌∙◌}
use Rattle.reached_images.specs.Plans.{start_at}
use Rattle.reached_images.proofs.Stepping.{start_before, start_first}
use Rattle.reached_images.proofs.planning.from_at.Goals as goal

pub returns-then-place-eq0 : goal.returns-then-place-eq0
returns-then-place-eq0 c = sym (ap (start_at c.args.term c.args.uses.now) c.if-place-eq0.true ∙ start_first c.args.term c.args.uses.now)

pub returns-else-place-eq0 : goal.returns-else-place-eq0
returns-else-place-eq0 c = start_before c.args.term c.args.uses.now c.args.place _ c.if-place-eq0.false c.requires

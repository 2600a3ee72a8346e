use Rattle.std.proofs.Common.{refl, sym}
use Rattle.std.specs.Prelude.{Contains}
use Rattle.access_walk.proofs.Applied.{is_applied}
use Rattle.access_walk.proofs.congruence.application_at.Goals as goal

pub returns-in-Applying : goal.returns-in-Applying
returns-in-Applying c = (
  is_applied c.args.terms.now.nodes c.len-count.ensures.terms.list c.args.bits.now (Contains c.args.reached.now) c.requires.bits c.requires.closed c.args.term c.requires.here (sym c.in-None.ensures) c.in-Applying.declaration (sym c.in-Applying.ensures),
  refl,
)

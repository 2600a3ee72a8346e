use Rattle.std.proofs.Common.{sym, ◌∙◌}
use Rattle.watch_roots.proofs.Found.{scalars_push, watch_scalars}
use Rattle.watch_roots.proofs.finding.push_selects.Goals as goal

pub returns-clause-scalars : goal.returns-clause-scalars
returns-clause-scalars c = λ h.
    let nodes = c.args.terms.now.nodes in
    let both = watch_scalars nodes c.len-count.ensures.terms.list c.in-Equating.left c.in-Equating.right c.in-Some.selects (sym c.in_ok-selects.ensures ∙ c.in-Some.is) in
    scalars_push nodes c.push.new.self.items c.push-2.new.self.items c.in-Some.selects.right c.in_ok-push-2.ensures.items both.1
    (scalars_push nodes c.args.found.now.items c.push.new.self.items c.in-Some.selects.left c.in_ok-push.ensures.items both.0 h)

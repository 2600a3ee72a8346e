use Rattle.std.proofs.Common.{◌-◌, Some, refl, sym, ap, ◌∙◌}
use Rattle.reached_images.proofs.Leading.{used_at, used_past}
use Rattle.reached_images.proofs.Tables.{read_at}
use Rattle.reached_images.proofs.needed.Needed.used.Goals as goal

pub returns-in-Some : goal.returns-in-Some
returns-in-Some c =
    let h = c.in-Some.ensures.lookup in
    let at = read_at c.args.args.now c.args.args.now (c.args.place - 1) c.in-Some.argument.now refl h.3.0 h.1 in
    ap Some c.looked_through.ensures ∙ sym (used_at c.args.self.now.plan.now c.args.args.now c.args.used c.args.place c.in-Some.argument.now c.if-place-eq0.false (sym c.is_inner.ensures ∙ c.if-not-is_inner.false) at)

pub returns-in-None : goal.returns-in-None
returns-in-None c =
    sym (used_past c.args.self.now.plan.now c.args.args.now c.args.used c.args.place c.if-place-eq0.false (sym c.is_inner.ensures ∙ c.if-not-is_inner.false) c.in-None.ensures.lookup.3)

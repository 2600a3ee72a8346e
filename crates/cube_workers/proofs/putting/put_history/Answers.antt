use Rattle.std.proofs.Common.{◌≡◌, length, take, sym, ap, ◌∙◌, subst, arith}
use Rattle.std.specs.Option.{option_copied}
use Rattle.std.proofs.Math.Seq.{take-length}
use Rattle.cube_workers.specs.Histories.{IsMadeBy}
use Rattle.cube_workers.proofs.PutBack.{may_put_at, made_more}
use Rattle.cube_workers.proofs.putting.put_history.Goals as goal

pub put_step-requires-clause-valid : goal.put_step-requires-clause-valid
put_step-requires-clause-valid c =
    let m = c.requires.made in
    may_put_at m.0 c.args.terms.now.nodes c.args.log.now.entries c.events.log.entries c.args.events.now c.events.at c.in-Some.event.now m.1 m.2 m.3 (sym c.get.ensures ∙ ap option_copied c.in-Some.is) c.events.invariant.1

pub events-preserved : goal.events-preserved
events-preserved c = (
  c.in_ok-put_step.ensures.stands,
  made_more c.args.log.now.entries c.events.log.entries c.put_step.new.log.entries c.args.events.now c.events.at c.in-Some.event.now (sym c.get.ensures ∙ ap option_copied c.in-Some.is) c.events.invariant.1 c.in_ok-put_step.ensures.ok,
)

pub returns-clause-all : goal.returns-clause-all
returns-clause-all c =
    let count = c.len-at-end.ensures in
    let last = c.events-test.false in
    let within = c.events.auto.at-end in
    let same : c.events.at ≡ length c.args.events.now = omega (arith, count, last, within) in
    subst (λ l. IsMadeBy l c.args.log.now.entries c.events.log.entries) (ap (λ n. take n c.args.events.now) same ∙ take-length c.args.events.now) c.events.invariant.1

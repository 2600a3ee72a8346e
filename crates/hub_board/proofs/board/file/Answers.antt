use Rattle.std.proofs.Common.{◌≡◌, ◌-◌, sym, ap, ◌∙◌, arith, length}
use Rattle.std.specs.Prelude.{slice_get}
use Rattle.std.specs.Option.{option_copied}
use Rattle.std.proofs.lemmas.List.{length-drop}
use Rattle.hub_core.specs.declared.events.Event.{Event}
use Rattle.cnf_base.proofs.Lists.{each_slice_get}
use Rattle.hub_board.specs.Chains.{AddsChains}
use Rattle.hub_board.proofs.Filing.{left_element}
use Rattle.hub_board.proofs.board.file.Goals as goal

pub add-requires : goal.add-requires
add-requires c =
    each_slice_get (λ (e : Event). AddsChains e.call) c.args.events.now c.events.at c.in-Some.event.now c.requires (sym c.get.ensures ∙ ap option_copied c.in-Some.is)

pub events-init : goal.events-init
events-init c = (λ seen e h. h, λ i k. k, omega arith)

pub returns-in_err-add-clause-filed : goal.returns-in_err-add-clause-filed
returns-in_err-add-clause-filed c = λ seen e h.
    c.add.ensures.filed seen
    (ap (slice_get seen) c.events.invariant.2 ∙ left_element seen c.args.table.now.filed c.events.at c.in-Some.event.now (ap (λ l. slice_get l c.events.at) (sym e) ∙ sym c.get.ensures ∙ ap option_copied c.in-Some.is))
    (c.events.invariant.0 seen e h)

pub returns-in_err-add-clause-kept : goal.returns-in_err-add-clause-kept
returns-in_err-add-clause-kept c = λ i k. c.add.ensures.kept i (c.events.invariant.1 i k)

pub events-preserved : goal.events-preserved
events-preserved c = (
  λ seen e h.
      c.add.ensures.filed seen
      (ap (slice_get seen) c.events.invariant.2 ∙ left_element seen c.args.table.now.filed c.events.at c.in-Some.event.now (ap (λ l. slice_get l c.events.at) (sym e) ∙ sym c.get.ensures ∙ ap option_copied c.in-Some.is))
      (c.events.invariant.0 seen e h),
  λ i k. c.add.ensures.kept i (c.events.invariant.1 i k),
  let ok = c.in_ok-add.ensures.ok in let was = c.events.invariant.2 in omega (arith, ok, was),
)

pub returns-clause-filed : goal.returns-clause-filed
returns-clause-filed c = c.events.invariant.0

pub returns-clause-kept : goal.returns-clause-kept
returns-clause-kept c = c.events.invariant.1

pub returns-clause-all : goal.returns-clause-all
returns-clause-all c = λ seen e h.
    let left : length c.args.events.now ≡ length seen - c.args.table.now.filed = ap length e ∙ length-drop c.args.table.now.filed seen in
    let within = h.within in
    let was = c.events.invariant.2 in
    let over = c.events-test.false in
    let end = c.events.auto.at-end in
    let len = c.len-at-end.ensures in
    omega (arith, left, within, was, over, end, len)

use Rattle.std.proofs.Common.{arith, sym, ◌∙◌}
use Rattle.proof_log.proofs.Standing.{next_above, stands_over}
use Rattle.proof_log.proofs.Tried.{select_past, select_held, select_done, select_other, select_none}
use Rattle.proof_log.proofs.log.Log.select.Goals as goal

pub returns-in-Some-clause-ok : goal.returns-in-Some-clause-ok
returns-in-Some-clause-ok c =
    select_held c.args.terms.now c.args.self.now c.args.assertion c.args.term c.variable.result c.in-Some.selector c.requires.stands
    (sym c.selector.ensures ∙ c.in-Some.is) c.variable.ensures.value

pub returns-then-term-len-clause-ok : goal.returns-then-term-len-clause-ok
returns-then-term-len-clause-ok c = select_past c.args.terms.now c.args.self.now c.args.assertion c.args.term (omega arith)

pub put_selector-requires : goal.put_selector-requires
put_selector-requires c = record { next = next_above _ c.args.self.now c.len.ensures.terms.list (stands_over _ _ c.requires.stands) }

pub returns-then-not-is_bool-clause-ok : goal.returns-then-not-is_bool-clause-ok
returns-then-not-is_bool-clause-ok c =
    select_other c.args.terms.now c.args.self.now c.args.assertion c.args.term (λ e. c.if-not-is_bool.ensures (c.sort.ensures ∙ e))

pub returns-in-None-clause-ok : goal.returns-in-None-clause-ok
returns-in-None-clause-ok c = select_none c.args.terms.now c.args.self.now c.args.assertion c.args.term c.requires.stands c.in-None.ensures

pub returns-in_ok-put_selector-in-Some-lone_bit-clause-ok : goal.returns-in_ok-put_selector-in-Some-lone_bit-clause-ok
returns-in_ok-put_selector-in-Some-lone_bit-clause-ok c =
    select_done c.args.terms.now c.args.self.now _ c.args.assertion c.args.term c.in-Some-lone_bit.bit c.len.ensures.terms c.requires.stands (omega arith)
    (sym c.sort.ensures ∙ c.if-not-is_bool.ensures) (sym c.in_default.ensures) c.in-Some-lone_bit.ensures c.in_ok-put_selector-in-Some-lone_bit.ensures.ok

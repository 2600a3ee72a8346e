use Rattle.std.proofs.Common.{◌<◌, length, arith, sym, ◌∙◌}
use Rattle.proof_log.proofs.Standing.{next_above, stands_over, leaf_small}
use Rattle.proof_log.proofs.Tried.{leaf_past, leaf_held, leaf_done, leaf_other}
use Rattle.proof_log.proofs.log.Log.leaf.Goals as goal
use Rattle.cnf_base.proofs.Options.{none_from}

pub returns-then-term-len-clause-ok : goal.returns-then-term-len-clause-ok
returns-then-term-len-clause-ok c = leaf_past c.args.terms.now c.args.self.now c.args.term (omega arith)

pub returns-then-has_bits-clause-ok : goal.returns-then-has_bits-clause-ok
returns-then-has_bits-clause-ok c = leaf_held c.args.terms.now c.args.self.now c.args.term c.requires.stands (sym c.has_bits.ensures ∙ c.if-has_bits.true)

pub returns-in-None-clause-ok : goal.returns-in-None-clause-ok
returns-in-None-clause-ok c =
    leaf_other c.args.terms.now c.args.self.now c.args.term
    (sym c.width_of.ensures ∙ c.in-None.is)

pub put_leaf-requires-clause-next : goal.put_leaf-requires-clause-next
put_leaf-requires-clause-next c = next_above _ c.args.self.now c.len.ensures.terms.list (stands_over _ _ c.requires.stands)

pub put_leaf-requires-clause-width : goal.put_leaf-requires-clause-width
put_leaf-requires-clause-width c =
    let within : c.args.term < length c.args.terms.now.nodes = omega arith in
    leaf_small c.args.terms.now.nodes c.args.term c.in-Some.width c.len.ensures.terms.list within
    (sym c.width_of.ensures ∙ c.in-Some.is)

pub put_leaf-requires-clause-new : goal.put_leaf-requires-clause-new
put_leaf-requires-clause-new c = none_from _ (sym c.has_bits.ensures ∙ c.if-has_bits.false)

pub returns-in_ok-put_leaf-in-Some-clause-ok : goal.returns-in_ok-put_leaf-in-Some-clause-ok
returns-in_ok-put_leaf-in-Some-clause-ok c =
    leaf_done c.args.terms.now c.args.self.now _ c.args.term c.in-Some.width c.len.ensures.terms c.requires.stands (omega arith)
    (sym c.has_bits.ensures ∙ c.if-has_bits.false)
    (sym c.width_of.ensures ∙ c.in-Some.is)
    c.in_ok-put_leaf-in-Some.ensures.ok

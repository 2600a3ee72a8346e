use Rattle.std.proofs.Common.{sym, ◌∙◌, subst}
use Rattle.proof_log.specs.Stored.{IsPaired}
use Rattle.proof_log.proofs.Standing.{next_above, stands_over}
use Rattle.proof_log.proofs.Tried.{equal_without, equal_held, is_equal, equal_bits, equal_done}
use Rattle.proof_log.proofs.log.Log.equal.Goals as goal

pub returns-then-not-have_bits-clause-ok : goal.returns-then-not-have_bits-clause-ok
returns-then-not-have_bits-clause-ok c = equal_without c.args.terms.now c.args.self.now c.args.lower c.args.upper c.requires.stands (sym c.have_bits.ensures ∙ c.if-not-have_bits.true)

pub put_equal-requires-clause-next : goal.put_equal-requires-clause-next
put_equal-requires-clause-next c = next_above _ c.args.self.now c.len-over.ensures.terms.list (stands_over _ _ c.requires.stands)

pub put_equal-requires-clause-bits : goal.put_equal-requires-clause-bits
put_equal-requires-clause-bits c =
    equal_bits c.args.terms.now c.args.self.now c.args.lower c.args.upper c.len-over.ensures.terms c.requires.stands
    (is_equal c.args.terms.now c.args.self.now c.args.lower c.args.upper c.requires.stands c.if-not-is_pair.ensures (sym c.have_bits.ensures ∙ c.if-not-have_bits.false) (sym c.equal_row.ensures ∙ c.in-None.is))

pub returns-in-Some-clause-ok : goal.returns-in-Some-clause-ok
returns-in-Some-clause-ok c =
    equal_held c.args.terms.now c.args.self.now c.args.lower c.args.upper c.variable.result c.in-Some.row c.requires.stands (sym c.equal_row.ensures ∙ c.in-Some.is) c.variable.ensures.value

pub returns-in_ok-put_equal-in-None-clause-ok : goal.returns-in_ok-put_equal-in-None-clause-ok
returns-in_ok-put_equal-in-None-clause-ok c =
    equal_done c.args.terms.now c.args.self.now c.put_equal.new.self c.args.lower c.args.upper c.len-over.ensures.terms c.requires.stands
    (is_equal c.args.terms.now c.args.self.now c.args.lower c.args.upper c.requires.stands c.if-not-is_pair.ensures (sym c.have_bits.ensures ∙ c.if-not-have_bits.false) (sym c.equal_row.ensures ∙ c.in-None.is))
    (subst (λ n. IsPaired c.args.self.now c.put_equal.new.self n c.args.lower c.args.upper) c.len-over.ensures.length c.in_ok-put_equal-in-None.ensures.ok)

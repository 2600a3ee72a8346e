use Rattle.std.proofs.Common.{arith, sym, ◌∙◌}
use Rattle.proof_log.proofs.Standing.{next_above, stands_over}
use Rattle.proof_log.proofs.Tried.{encode_past, encode_held, encode_done, encode_none}
use Rattle.proof_log.proofs.log.Log.encode.Goals as goal
use Rattle.cnf_base.proofs.Options.{none_from}

pub returns-then-term-len-clause-ok : goal.returns-then-term-len-clause-ok
returns-then-term-len-clause-ok c = encode_past c.args.terms.now c.args.self.now c.args.term (omega arith)

pub returns-then-has_bits-clause-ok : goal.returns-then-has_bits-clause-ok
returns-then-has_bits-clause-ok c = encode_held c.args.terms.now c.args.self.now c.args.term c.requires.stands (sym c.has_bits.ensures ∙ c.if-has_bits.true)

pub put_encode-requires-clause-next : goal.put_encode-requires-clause-next
put_encode-requires-clause-next c = next_above _ c.args.self.now c.len.ensures.terms.list (stands_over _ _ c.requires.stands)

pub put_encode-requires-clause-short : goal.put_encode-requires-clause-short
put_encode-requires-clause-short c = (stands_over _ _ c.requires.stands).short

pub put_encode-requires-clause-new : goal.put_encode-requires-clause-new
put_encode-requires-clause-new c = none_from _ (sym c.has_bits.ensures ∙ c.if-has_bits.false)

pub returns-then-branch-clause-ok : goal.returns-then-branch-clause-ok
returns-then-branch-clause-ok c = encode_done c.args.terms.now c.args.self.now _ c.args.term c.in_ok-put_encode.field-0 c.len.ensures.terms c.requires.stands (omega arith) (sym c.has_bits.ensures ∙ c.if-has_bits.false) c.in_ok-put_encode.ensures.ok c.if-branch.true

pub returns-clause-ok : goal.returns-clause-ok
returns-clause-ok c = encode_none c.args.terms.now c.args.self.now _ c.args.term c.in_ok-put_encode.field-0 c.requires.stands c.in_ok-put_encode.ensures.ok c.if-branch.false

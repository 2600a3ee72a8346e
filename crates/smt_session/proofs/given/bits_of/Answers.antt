use Rattle.std.proofs.Common.{sym, subst}
use Rattle.script_state.specs.declared.answer.Asked.{Asked}
use Rattle.smt_session.specs.Growing.{HasBit}
use Rattle.smt_session.proofs.Giving.{bits_more}
use Rattle.smt_session.proofs.given.bits_of.Goals as goal

pub assumed-preserved : goal.assumed-preserved
assumed-preserved c =
    bits_more c.args.log.now c.args.assumptions.now c.assumed.bits.items c.push.new.self.items c.assumed.assumption-index c.assumption-item.result c.bit_of-bit.result
    c.assumed-test.true c.assumption-item.is c.assumed.invariant c.bit_of-bit.ensures c.in_ok-push.ensures.items

pub bit_of-bit-requires : goal.bit_of-bit-requires
bit_of-bit-requires c = subst (λ (a : Asked). HasBit c.args.log.now a.term) (sym c.assumption-item.is) (c.requires c.assumed.assumption-index c.assumption-item.result c.assumed-test.true)

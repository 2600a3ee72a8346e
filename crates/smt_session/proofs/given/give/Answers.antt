use Rattle.std.proofs.Common.{ap, ◌∙◌, sym, subst, ◌++◌, List}
use Rattle.std.specs.Prelude.{All}
use Rattle.scope_selectors.specs.declared.live.Live.{Live}
use Rattle.script_state.specs.declared.answer.Asked.{Asked}
use Rattle.smt_session.specs.Growing.{HasBit, HasBits, AreSelectors, AreBits}
use Rattle.smt_session.proofs.Giving.{assumed_bits}
use Rattle.smt_session.proofs.Roots.{roots_live}
use Rattle.smt_session.proofs.given.give.Goals as goal

pub select_all-requires-clause-bits : goal.select_all-requires-clause-bits
select_all-requires-clause-bits c =
    subst (All (λ (a : Live). HasBits c.args.log.now a.term)) (sym c.live.ensures.live) (roots_live (HasBits c.args.log.now) c.args.state.now c.requires.bits)

pub bits_of-requires : goal.bits_of-requires
bits_of-requires c =
    subst (All (λ (a : Asked). HasBit c.select_all.new.log a.term)) (sym c.assumptions.ensures.assumptions)
    (assumed_bits c.args.state.now c.args.log.now c.select_all.new.log c.live.ensures.state c.requires.stands c.in_ok-given.ensures.grows c.requires.bits)

pub returns-clause-given : goal.returns-clause-given
returns-clause-given c = record {
  selectors = c.in_ok-given.given.items;
  bits = c.in_ok-bits.bits.items;
  all = c.in_ok-extend_from_slice.ensures.items ∙ ap (λ x. c.in_ok-given.given.items ++ x) c.as_slice.ensures.value;
  chosen = subst (λ (ls : List Live). AreSelectors c.select_all.new.log ls c.in_ok-given.given.items) c.live.ensures.live c.in_ok-given.ensures.given;
  assumed = subst (λ (asked : List Asked). AreBits c.select_all.new.log asked c.in_ok-bits.bits.items) c.assumptions.ensures.assumptions c.in_ok-bits.ensures;
}

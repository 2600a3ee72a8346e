use Rattle.std.proofs.Common.{[], subst}
use Rattle.script_state.specs.Steps.{asking}
use Rattle.script_state.specs.Asking.{object_to, Asks}
use Rattle.script_state.proofs.Listing.{parts_stand, listed_is}
use Rattle.script_state.proofs.asked.ask.Goals as goal

pub ask_all-requires-clause-stand : goal.ask_all-requires-clause-stand
ask_all-requires-clause-stand c = (c.requires.stands.0, parts_stand _ _ _ _ _ _ c.as_slice-items.ensures c.as_slice.ensures.value c.in-Ok.ensures.stand c.requires.stands.1)

pub returns-clause-asks : goal.returns-clause-asks
returns-clause-asks c = λ es stands.
    subst (λ ls. Asks (asking (object_to c.args.purpose) c.args.symbols.now c.args.terms.now ls [] es) c.ask_all.result c.ask_all.new.terms) (listed_is _ _ _ c.as_slice-items.ensures c.min-first.ensures)
    (c.ask_all.ensures.asks es (parts_stand _ _ _ _ _ _ c.as_slice-items.ensures c.as_slice.ensures.value c.in-Ok.ensures.stand stands))

use Rattle.std.proofs.Common.{sym}
use Rattle.smt_terms.specs.Bits.{bits_in}
use Rattle.theory_search.proofs.Listed.{naming_row}
use Rattle.theory_search.proofs.Valued.{on_done}
use Rattle.theory_search.proofs.listing.list_term.Goals as goal

pub returns-in-Some : goal.returns-in-Some
returns-in-Some c = on_done c.list_literals.result _ _ (λ h. naming_row (bits_in c.args.bits.now) c.args.variables.now c.list_literals.new.variables c.args.term c.in-Some.row.now (sym c.in-Some.ensures) h) c.list_literals.ensures

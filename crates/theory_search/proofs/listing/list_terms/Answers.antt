use Rattle.std.proofs.Common.{ℕ, List, subst}
use Rattle.std.specs.Prelude.{slice_index}
use Rattle.std.proofs.lemmas.List.{get_or_default, take_all}
use Rattle.smt_terms.specs.Bits.{bits_in}
use Rattle.theory_search.specs.Theories.{IsNaming}
use Rattle.theory_search.proofs.Listed.{naming_none, naming_more}
use Rattle.theory_search.proofs.listing.list_terms.Goals as goal

pub terms-init : goal.terms-init
terms-init c = naming_none (bits_in c.args.bits.now) c.args.variables.now

pub terms-preserved : goal.terms-preserved
terms-preserved c =
    naming_more (bits_in c.args.bits.now) c.args.variables.now c.terms.variables c.list_term.new.variables c.args.terms.now c.terms.term-index (slice_index c.args.terms.now c.terms.term-index)
    c.terms-test.true (get_or_default c.args.terms.now c.terms.term-index 0 (slice_index c.args.terms.now c.terms.term-index) c.terms-test.true) c.in_ok-list_term.ensures c.terms.invariant

pub returns : goal.returns
returns c =
    subst (λ (ts : List ℕ). IsNaming (bits_in c.args.bits.now) c.args.variables.now c.terms.variables ts)
    (take_all c.terms.term-index c.args.terms.now c.terms-test.false) c.terms.invariant

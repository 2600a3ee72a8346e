use Rattle.std.proofs.Common.{ℕ, List, subst}
use Rattle.std.proofs.lemmas.List.{take_all}
use Rattle.cnf_base.specs.Literals.{Literal}
use Rattle.variable_list.specs.Variables.{IsListed}
use Rattle.cube_search.specs.Holding.{IsListing}
use Rattle.cube_search.proofs.Filling.{listing_none, listing_more}
use Rattle.theory_search.proofs.listing.list_literals.Goals as goal

pub literals-init : goal.literals-init
literals-init c = listing_none c.args.variables.now

pub literals-preserved : goal.literals-preserved
literals-preserved c = listing_more c.args.variables.now c.literals.variables c.add.new.self c.args.literals.now c.literals.literal-index c.literal-item.result c.literals-test.true c.literal-item.is
    (subst (λ (x : ℕ). IsListed c.literals.variables x c.add.new.self) c.variable.ensures.value c.in_ok-add.ensures.listed) c.literals.invariant

pub returns : goal.returns
returns c =
    subst (λ (ls : List Literal). IsListing c.args.variables.now ls c.literals.variables)
    (take_all c.literals.literal-index c.args.literals.now c.literals-test.false) c.literals.invariant

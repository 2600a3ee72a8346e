use Rattle.std.proofs.Common.{ℕ, List, refl, ap, ◌∙◌, subst}
use Rattle.std.proofs.lemmas.List.{take_all}
use Rattle.cnf_base.specs.Literals.{Literal}
use Rattle.variable_list.specs.Variables.{IsListed}
use Rattle.cdcl_loop.specs.declared.engine.Engine.{Engine}
use Rattle.cube_search.specs.Holding.{IsListing}
use Rattle.cube_search.proofs.Filling.{listing_none, listing_more}
use Rattle.cube_search.proofs.bring.list_all.Goals as goal

pub literals-init : goal.literals-init
literals-init c = record { same = refl; listed = listing_none c.args.engine.now.agenda.list }

pub literals-preserved : goal.literals-preserved
literals-preserved c = record {
  same = c.in_ok-list.ensures.same ∙ ap (λ (e : Engine). record e { choices = c.list.new.self.choices; agenda = c.list.new.self.agenda }) c.literals.invariant.same;
  listed = listing_more c.args.engine.now.agenda.list c.literals.engine.agenda.list c.list.new.self.agenda.list c.args.literals.now c.literals.literal-index c.literal-item.result c.literals-test.true c.literal-item.is
      (subst (λ (x : ℕ). IsListed c.literals.engine.agenda.list x c.list.new.self.agenda.list) c.variable.ensures.value c.in_ok-list.ensures.listed) c.literals.invariant.listed;
}

pub returns-clause-listed : goal.returns-clause-listed
returns-clause-listed c =
    subst (λ (ls : List Literal). IsListing c.args.engine.now.agenda.list ls c.literals.engine.agenda.list)
    (take_all c.literals.literal-index c.args.literals.now c.literals-test.false) c.literals.invariant.listed

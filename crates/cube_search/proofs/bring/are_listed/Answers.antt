use Rattle.std.proofs.Common.{List, subst}
use Rattle.std.proofs.lemmas.List.{take_all}
use Rattle.cnf_base.specs.Literals.{Literal}
use Rattle.cube_search.specs.Holding.{AreAmong}
use Rattle.cube_search.proofs.bring.are_listed.Goals as goal

pub returns : goal.returns
returns c =
    subst (λ (ls : List Literal). AreAmong c.args.engine.now.agenda.list ls)
    (take_all c.literals.literal-index c.args.literals.now c.literals-test.false) c.literals.invariant

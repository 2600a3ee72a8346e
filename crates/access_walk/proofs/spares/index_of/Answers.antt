use Rattle.std.proofs.Common.{refl, sym, ap}
use Rattle.theory_terms.specs.Lemmas.{start_of}
use Rattle.access_walk.proofs.spares.index_of.Goals as goal

pub returns-in-Selecting : goal.returns-in-Selecting
returns-in-Selecting c = (record { array = c.in-Selecting.array; index = c.in-Selecting.index; value = c.args.term }, sym c.in-None.ensures, ap (start_of c.args.term) (sym c.in-Selecting.ensures), refl)

pub returns-in-Storing : goal.returns-in-Storing
returns-in-Storing c = (record { array = c.args.term; index = c.in-Storing.index; value = c.in-Storing.value }, sym c.in-None.ensures, ap (start_of c.args.term) (sym c.in-Storing.ensures), refl)

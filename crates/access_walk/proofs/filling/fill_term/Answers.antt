use Rattle.std.proofs.Common.{subst}
use Rattle.std.specs.Prelude.{Contains}
use Rattle.std.proofs.lemmas.List.Elements.{Contains-append_left}
use Rattle.smt_terms.specs.Nodes.{node_at}
use Rattle.theory_terms.specs.Shapes.{shape_at}
use Rattle.access_tables.specs.Leading.{watched, leads_by}
use Rattle.access_walk.proofs.filling.fill_term.Goals as goal

pub fill-requires-clause-whole : goal.fill-requires-clause-whole
fill-requires-clause-whole c = (
  c.requires.here,
  λ u a.
      c.requires.closed c.args.term u c.requires.here
      (subst (λ o. Contains (leads_by c.args.terms.now.nodes c.args.term o) u) c.in-None.ensures
      (Contains-append_left (node_at c.args.terms.now.nodes c.args.term).args (watched c.args.terms.now.nodes (shape_at c.args.terms.now.nodes c.args.term)) u a)),
)

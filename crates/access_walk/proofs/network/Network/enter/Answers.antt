use Rattle.std.proofs.Common.{sym, ap, ◌∙◌}
use Rattle.std.specs.Prelude.{slice_get}
use Rattle.smt_terms.specs.Nodes.{node_at}
use Rattle.theory_terms.specs.declared.shape.Shape.TheVariants.{Storing, Choosing, Equating}
use Rattle.term_reach.proofs.Tables.{contains_at}
use Rattle.access_tables.proofs.Building.{args_at}
use Rattle.access_walk.proofs.Shaped.{choice_still, equality_still}
use Rattle.access_walk.proofs.network.Network.enter.Goals as goal

pub enter_store-requires-clause-there : goal.enter_store-requires-clause-there
enter_store-requires-clause-there c =
    c.requires.args c.in-Storing.array (contains_at (node_at c.args.terms.now.nodes c.args.term).args 0 c.in-Storing.array (ap (λ l. slice_get l 0) (args_at c.args.terms.now.nodes c.args.term (Storing c.in-Storing.array c.in-Storing.index c.in-Storing.value) (sym c.in-Storing.ensures))))

pub enter_choice-requires-clause-first : goal.enter_choice-requires-clause-first
enter_choice-requires-clause-first c =
    c.requires.args c.in-Choosing.yes (contains_at (node_at c.args.terms.now.nodes c.args.term).args 1 c.in-Choosing.yes (ap (λ l. slice_get l 1) (args_at c.args.terms.now.nodes c.args.term (Choosing c.in-Choosing.condition c.in-Choosing.yes c.in-Choosing.no) (sym c.in-Choosing.ensures))))

pub enter_choice-requires-clause-second : goal.enter_choice-requires-clause-second
enter_choice-requires-clause-second c =
    c.requires.args c.in-Choosing.no (contains_at (node_at c.args.terms.now.nodes c.args.term).args 2 c.in-Choosing.no (ap (λ l. slice_get l 2) (args_at c.args.terms.now.nodes c.args.term (Choosing c.in-Choosing.condition c.in-Choosing.yes c.in-Choosing.no) (sym c.in-Choosing.ensures))))

pub enter_equality-requires-clause-first : goal.enter_equality-requires-clause-first
enter_equality-requires-clause-first c =
    c.requires.args c.in-Equating.left (contains_at (node_at c.args.terms.now.nodes c.args.term).args 0 c.in-Equating.left (ap (λ l. slice_get l 0) (args_at c.args.terms.now.nodes c.args.term (Equating c.in-Equating.left c.in-Equating.right) (sym c.in-Equating.ensures))))

pub enter_equality-requires-clause-second : goal.enter_equality-requires-clause-second
enter_equality-requires-clause-second c =
    c.requires.args c.in-Equating.right (contains_at (node_at c.args.terms.now.nodes c.args.term).args 1 c.in-Equating.right (ap (λ l. slice_get l 1) (args_at c.args.terms.now.nodes c.args.term (Equating c.in-Equating.left c.in-Equating.right) (sym c.in-Equating.ensures))))

pub returns-else-is_array-clause-has : goal.returns-else-is_array-clause-has
returns-else-is_array-clause-has c =
    choice_still c.args.terms.now.nodes c.len-count.ensures.terms.list c.args.self.now c.args.term c.in-Choosing.condition c.in-Choosing.yes c.in-Choosing.no (sym c.in-Choosing.ensures) (sym c.is_array.ensures ∙ c.if-is_array.false)

pub returns-else-is_array-2-clause-has : goal.returns-else-is_array-2-clause-has
returns-else-is_array-2-clause-has c =
    equality_still c.args.terms.now.nodes c.len-count.ensures.terms.list c.args.self.now c.args.term c.in-Equating.left c.in-Equating.right (sym c.in-Equating.ensures) (sym c.is_array-in-Equating.ensures ∙ c.if-is_array-2.false)

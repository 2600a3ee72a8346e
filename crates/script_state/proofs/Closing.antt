-- What is live names live declarations alone, also as names, terms, definitions and assertions are added.
use Rattle.std.proofs.Common.{◌≡◌, ◌<◌, true, List, [], ◌++◌, length, ◌∙◌}
use Rattle.std.specs.Prelude.{All}
use Rattle.std.proofs.lemmas.List.Elements.{All-nil}
use Rattle.smt_terms.specs.declared.node.Node.{Node}
use Rattle.scope_selectors.specs.declared.live.Live.{Live}
use Rattle.smt_build.specs.declared.definition.Definition.{Definition}
use Rattle.smt_build.specs.declared.symbols.LiveName.{LiveName}
use Rattle.smt_build.specs.Names.{Meanings, AreBodies}
use Rattle.smt_build.specs.Scoped.{is_over}
use Rattle.smt_build.proofs.Scoped.{over_more, over_longer, bodies_over_longer, bodies_over_more}
use Rattle.script_state.specs.States.{IsClosed}

module _ (live : List LiveName) (nodes : List Node) (ds : Meanings Definition) (xs : List Live) where
  pub closed_longer : (more : List Node) → AreBodies (length nodes) ds → All (λ (a : Live). a.term < length nodes) xs → IsClosed nodes live ds xs → IsClosed (nodes ++ more) live ds xs
  closed_longer more bodies held is = record {
    bodies = bodies_over_longer live nodes more ds bodies is.bodies;
    terms = λ k d lt. over_longer live nodes more _ (held k d lt) ∙ is.terms k d lt;
  }

  pub closed_more : (more : List LiveName) → IsClosed nodes live ds xs → IsClosed nodes (live ++ more) ds xs
  closed_more more is = record {
    bodies = bodies_over_more live more nodes ds is.bodies;
    terms = λ k d lt. over_more live more nodes _ (is.terms k d lt);
  }

-- nothing is closed
pub closed_none : (nodes : List Node) → IsClosed nodes [] [] []
closed_none nodes = record { bodies = tt; terms = All-nil (λ (a : Live). is_over [] nodes a.term ≡ true) }

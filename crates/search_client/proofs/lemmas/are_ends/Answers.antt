use Rattle.std.proofs.Common.{◌∙◌}
use Rattle.cube_search.proofs.Later.{below_later}
use Rattle.search_client.proofs.lemmas.are_ends.Goals as goal

pub take_lemma-requires-clause-below : goal.take_lemma-requires-clause-below
take_lemma-requires-clause-below g c = below_later _ _ _ _ _ _ c.args.given.now c.is_run.ensures.later c.requires.below

pub is_run-requires-2-clause-below : goal.is_run-requires-2-clause-below
is_run-requires-2-clause-below g c = below_later _ _ _ _ _ _ c.args.given.now c.in_ok-is_end.ensures.later c.in_ok-take_lemma.ensures.below

pub goes_on-requires-clause-given : goal.goes_on-requires-clause-given
goes_on-requires-clause-given g c = c.in_ok-take_lemma.ensures.given ∙ c.in_ok-is_model.ensures.given

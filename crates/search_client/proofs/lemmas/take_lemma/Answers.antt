use Rattle.cube_search.proofs.Adding.{search_more, below_more}
use Rattle.cube_search.proofs.Later.{below_later}
use Rattle.search_client.proofs.lemmas.take_lemma.Goals as goal

pub take_all-requires : goal.take_all-requires
take_all-requires g c = search_more c.args.search.now _ _ _ _ _ _ c.in_ok-put_filling.ensures (search_more c.args.search.now _ _ _ _ _ _ c.in_ok-put_equality.ensures c.requires.search)

pub returns-clause-below : goal.returns-clause-below
returns-clause-below g c = below_later _ _ _ _ _ _ c.args.given.now c.in_ok-take_all.ensures.later (below_more _ _ _ _ _ _ c.args.given.now c.in_ok-put_filling.ensures (below_more _ _ _ _ _ _ c.args.given.now c.in_ok-put_equality.ensures c.requires.below))

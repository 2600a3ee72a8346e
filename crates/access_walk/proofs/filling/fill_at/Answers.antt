use Rattle.std.proofs.Common.{refl, sym}
use Rattle.access_walk.proofs.Constants.{filling_more, pushed_has}
use Rattle.access_walk.proofs.filling.fill_at.Goals as goal

pub returns-in_ok-push-2-clause-filling : goal.returns-in_ok-push-2-clause-filling
returns-in_ok-push-2-clause-filling c =
    filling_more c.args.terms.now.nodes c.len-count.ensures.terms.list c.args.bits.now c.args.reached.now c.requires.bits c.args.indexes.now c.args.network.now _ c.args.term c.args.index c.in-Some.landing c.requires.filling c.requires.whole c.requires.among c.requires.word (sym c.in-Some.ensures)
    refl refl refl c.in_ok-push.ensures.items c.in_ok-push-2.ensures.items

pub returns-in_ok-push-2-clause-has : goal.returns-in_ok-push-2-clause-has
returns-in_ok-push-2-clause-has c = λ r e. pushed_has c.args.terms.now.nodes c.args.term c.args.index c.in-Some.landing c.args.network.now.landings.items _ (sym c.in-Some.ensures) c.in_ok-push-2.ensures.items r e

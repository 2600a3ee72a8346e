use Rattle.std.proofs.Common.{refl}
use Rattle.access_walk.proofs.Pairs.{start_entered}
use Rattle.access_walk.proofs.network.Network.add_start.Goals as goal

pub returns-clause-sound : goal.returns-clause-sound
returns-clause-sound c =
    start_entered c.args.terms.now.nodes c.args.reached.now c.args.self.now _ c.args.origin c.args.landing c.requires.sound.sound c.requires.lands c.requires.index refl refl refl c.in_ok-push.ensures.items c.in_ok-push-2.ensures.items c.requires.sound.began c.requires.begun

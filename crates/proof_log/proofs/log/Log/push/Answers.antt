use Rattle.proof_log.proofs.Tried.{plain_added}
use Rattle.proof_log.proofs.log.Log.push.Goals as goal

pub returns-in_ok-put_plain-in-Chain-clause-pushed : goal.returns-in_ok-put_plain-in-Chain-clause-pushed
returns-in_ok-put_plain-in-Chain-clause-pushed c =
    plain_added c.args.terms.now c.args.entry c.in-Chain.clause c.in-Chain.hints c.args.self.now _ c.len-over.result c.len-at.result c.in-Chain.is c.len-over.ensures.terms c.requires.stands c.requires.valid
    c.len-over.ensures.length c.in_ok-put_plain-in-Chain.ensures.ok c.len-at.ensures

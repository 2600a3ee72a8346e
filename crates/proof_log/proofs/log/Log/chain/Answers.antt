use Rattle.proof_log.proofs.Standing.{stands_over, clauses_below}
use Rattle.proof_log.proofs.Tried.{chain_shown, chain_found}
use Rattle.proof_log.proofs.log.Log.chain.Goals as goal

pub unfounded-requires : goal.unfounded-requires
unfounded-requires c = λ id h e. clauses_below c.args.terms.now.nodes c.args.self.now id h c.len-over.ensures.terms.list (stands_over _ _ c.requires.stands) e

pub returns-in-Some-clause-ok : goal.returns-in-Some-clause-ok
returns-in-Some-clause-ok c =
    chain_shown c.args.terms.now c.args.self.now _ c.args.clause c.args.hints c.in_ok-kept.field-0 c.in-Some.kept c.requires.stands c.in_ok-kept.ensures.ok c.in-Some.is c.in_ok-kept.ensures.same

pub returns-in_ok-put_plain-in-None-clause-ok : goal.returns-in_ok-put_plain-in-None-clause-ok
returns-in_ok-put_plain-in-None-clause-ok c =
    chain_found c.args.terms.now c.args.self.now c.unfounded.new.self _ c.args.clause c.args.hints c.in_ok-kept.field-0 c.len-over.result c.len-over.ensures.terms c.requires.stands
    c.in_ok-kept.ensures.ok c.in-None.is c.in_ok-kept.ensures.same c.len-over.ensures.length c.in_ok-put_plain-in-None.ensures.ok

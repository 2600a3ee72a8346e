use Rattle.proof_log.proofs.Tried.{rewrite_refused, rewrite_done, from_is_new, to_is_held}
use Rattle.proof_log.proofs.log.Log.rewrite.Goals as goal

pub returns-in-Some-clause-ok : goal.returns-in-Some-clause-ok
returns-in-Some-clause-ok c = rewrite_refused c.args.terms.now c.args.self.now c.args.used c.in-Some.kept c.in-Some.ensures

pub put_rewrite-requires-clause-new : goal.put_rewrite-requires-clause-new
put_rewrite-requires-clause-new c = from_is_new c.args.terms.now.nodes c.args.self.now c.args.used c.requires.stands c.in_default.ensures

pub put_rewrite-requires-clause-held : goal.put_rewrite-requires-clause-held
put_rewrite-requires-clause-held c = to_is_held c.args.terms.now.nodes c.args.self.now c.args.used c.requires.stands c.in_default.ensures

pub returns-clause-ok : goal.returns-clause-ok
returns-clause-ok c =
    rewrite_done c.args.terms.now c.args.self.now c.put_rewrite.new.self c.args.used c.len-over.result c.len-over.ensures.terms c.requires.stands c.in_default.ensures c.len-over.ensures.length c.in_ok-put_rewrite.ensures.ok

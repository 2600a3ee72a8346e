use Rattle.std.proofs.Common.{◌≡◌, Some, sym, subst}
use Rattle.proof_log.specs.Logs.{clause_at}
use Rattle.proof_log.proofs.Standing.{clause_is_sound}
use Rattle.proof_log.proofs.log.Log.clause.Goals as goal

pub returns-in-Some-clause-sound : goal.returns-in-Some-clause-sound
returns-in-Some-clause-sound c = λ nodes terms stands.
    clause_is_sound nodes c.args.self.now c.args.id c.in-Some.clause.now terms stands
    (subst (λ l. clause_at l.clauses c.args.id ≡ Some c.in-Some.clause.now) c.self.view_is (sym c.in-Some.ensures))

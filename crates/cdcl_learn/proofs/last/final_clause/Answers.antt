use Rattle.std.proofs.lemmas.Result.{IfOk-weaker}
use Rattle.cdcl_core.specs.Search.{clause_of, literals_of, IsConflict}
use Rattle.cdcl_learn.specs.Rows.{IsRefutedIn}
use Rattle.cdcl_learn.specs.Puts.{DecidesOnly}
use Rattle.cdcl_learn.proofs.Facts.{history_of, refuted_of}
use Rattle.cdcl_learn.proofs.last.final_clause.Goals as goal

pub explain_all-requires-clause-history : goal.explain_all-requires-clause-history
explain_all-requires-clause-history c = rw c.literals.ensures (history_of c.args.watches.now c.args.trail.now c.requires.settled)

pub explain_all-requires-clause-conflict : goal.explain_all-requires-clause-conflict
explain_all-requires-clause-conflict c =
    let clash : IsConflict c.args.watches.now c.args.trail.now c.in-Held.id = rw c.in-Held.is at c.requires.clash in
    let refuted : IsRefutedIn (clause_of c.args.watches.now) (literals_of c.args.trail.now) c.in-Held.id = refuted_of c.args.watches.now c.args.trail.now c.requires.settled c.in-Held.id clash in
    rw c.literals.ensures refuted

pub returns-in-Held-clause-against : goal.returns-in-Held-clause-against
returns-in-Held-clause-against c = IfOk-weaker c.explain_all.result _ _ (λ r f given only.
    let only2 : DecidesOnly given (literals_of c.args.trail.now) = rw c.in-Held.is at only in
    f given (rw c.literals.ensures only2)) c.explain_all.ensures.against

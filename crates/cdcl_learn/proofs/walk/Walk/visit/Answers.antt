use Rattle.std.proofs.Common.{rules, ◌≡◌, ◌∙◌, true, sym}
use Rattle.std.proofs.lemmas.Result.{on_ok_weaker}
use Rattle.cdcl_learn.specs.Walks.{IsSet, IsResolved}
use Rattle.cdcl_learn.proofs.Marking.{resolved_explained}
use Rattle.cdcl_learn.proofs.walk.Walk.visit.Goals as goal

pub returns-then-branch-clause-explained : goal.returns-then-branch-clause-explained
returns-then-branch-clause-explained c =
    let on : c.has.result ≡ true = search rules in
    let set : IsSet c.args.self.now.marks c.args.i = sym c.has.ensures ∙ on in
    on_ok_weaker c.resolve.result (λ (r : IsResolved c.args.i c.goes.new.self.marks c.resolve.new.self.marks). resolved_explained c.args.i c.args.self.now.marks c.resolve.new.self.marks set (rw c.goes.ensures.marks at r)) c.resolve.ensures.resolved

pub returns-then-branch-clause-met : goal.returns-then-branch-clause-met
returns-then-branch-clause-met c = rw c.goes.ensures.hints at c.resolve.ensures.met

use Rattle.std.proofs.Common.{◌∙◌, sym, subst}
use Rattle.std.proofs.lemmas.Bool.{MatchBool-at_true, MatchBool-at_false}
use Rattle.proof_log.specs.declared.entry.Entry.TheVariants as step
use Rattle.faded_log.specs.Faded.{FadedValue, IsLonger}
use Rattle.faded_log.proofs.Holding.{tried_chain, refused_chain}
use Rattle.faded_log.proofs.log.FadedLog.try_chain.Goals as goal

pub returns-then-not-branch-clause-ok : goal.returns-then-not-branch-clause-ok
returns-then-not-branch-clause-ok c =
    refused_chain c.args.terms.now c.args.self.now c.is_founded.new.self c.args.clause c.args.hints c.requires (MatchBool-at_false _ _ c.if-not-branch.true c.in_ok-is_founded.ensures.ok) c.in_ok-is_founded.ensures.same

pub returns-clause-ok : goal.returns-clause-ok
returns-clause-ok c =
    tried_chain c.args.terms.now c.args.self.now c.push_chain.new.self c.args.clause c.args.hints c.requires (MatchBool-at_true _ _ c.if-not-branch.false c.in_ok-is_founded.ensures.ok)
    (subst (λ (l : FadedValue). IsLonger l c.push_chain.new.self (step.Chain c.args.clause c.args.hints)) (c.self.view_is ∙ c.in_ok-is_founded.ensures.same) c.in_ok-push_chain.ensures.ok)

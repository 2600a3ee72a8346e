use Rattle.std.proofs.Common.{◌≡◌, OnErr, IfOk, sym, subst}
use Rattle.faded_log.specs.Faded.{FadedValue}
use Rattle.faded_log.specs.Slots.{IsTriedPlain}
use Rattle.faded_log.proofs.Holding.{no_chain, tried_plain_in}
use Rattle.faded_log.proofs.log.FadedLog.try_push.Goals as goal

pub returns-in_default : goal.returns-in_default
returns-in_default c = record {
  ok = tried_plain_in c.args.terms.now c.try_plain.new.terms c.args.self.now c.try_plain.new.self c.args.entry (no_chain c.args.entry (λ a b e. c.in_default.not-Chain a b e)) c.requires.held c.try_plain.result
      (subst (λ (l : FadedValue). IfOk c.try_plain.result (IsTriedPlain c.args.terms.now c.try_plain.new.terms l c.try_plain.new.self c.args.entry)) c.self.view_is c.try_plain.ensures.ok);
  err = subst (λ (l : FadedValue). OnErr c.try_plain.result ((c.try_plain.new.terms ≡ c.args.terms.now) × (c.try_plain.new.self ≡ l))) c.self.view_is c.try_plain.ensures.err;
}

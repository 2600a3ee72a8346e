use Rattle.std.proofs.Common.{rules, [], sym, subst, ap, append-nil}
use Rattle.shared_history.specs.Seated.{IsPass}
use Rattle.shared_history.proofs.Passes.{has_turn, read_pass, left_same, left_pass}
use Rattle.shared_history.proofs.hist.Hist+L.read.Goals as goal

pub give-requires-clause-turn : goal.give-requires-clause-turn
give-requires-clause-turn g c = has_turn g.L.Law.by g.L.Law.stands _ _ _ c.args.self.now.law c.pass.inside.seat c.take-locked.new.seat c.take-locked.result c.take-locked.result [] c.pass.invariant c.take-locked.ensures.took (sym (append-nil _)) tt c.take-locked.ensures.took.good

pub invariant_of-pass : goal.invariant_of-pass
invariant_of-pass g c = subst (λ n. IsPass g.L.Law.by c.pass.inside.number n c.pass.inside.made c.give.new.seat) (search rules)
    (read_pass g.L.Law.by g.L.Law.stands _ _ _ c.args.self.now.law c.pass.inside.seat c.take-locked.new.seat c.give.new.seat c.take-locked.result c.pass.invariant c.take-locked.ensures.took c.give.ensures.rest)

pub invariant_of-pass-in-Err : goal.invariant_of-pass-in-Err
invariant_of-pass-in-Err g c = left_pass g.L.Law.by g.L.Law.stands _ _ _ c.pass.inside.seat c.leave.new.seat c.pass.invariant (left_same g.L.Law.by g.L.Law.stands _ _ _ c.args.self.now.law c.pass.inside.seat c.take-locked.new.seat c.leave.new.seat c.take-locked.result c.pass.invariant c.take-locked.ensures.took c.leave.ensures.rest)

pub returns-in-Ok-clause-stands : goal.returns-in-Ok-clause-stands
returns-in-Ok-clause-stands g c =
    let x = c.take-locked.result in
    (x.state, subst (λ l. g.L.Law.stands c.args.self.now.law x.state l) (sym (ap (λ m. m.0.seen) c.give.ensures.rest)) c.take-locked.ensures.took.good)

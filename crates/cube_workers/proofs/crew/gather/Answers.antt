use Rattle.std.proofs.Common.{◌≡◌, [], ◌∷◌, ◌++◌, length, ap, sym, subst, rules, arith, length-append}
use Rattle.shared_history.specs.Events.{StartsWith}
use Rattle.shared_history.specs.Known.{IsPassOf}
use Rattle.cube_workers.specs.Hired.{HasEnded}
use Rattle.cube_workers.proofs.Adding.{each_fewer, each_last}
use Rattle.cube_workers.proofs.Gathering.{own_pass, gathered_more}
use Rattle.cube_workers.proofs.crew.gather.Goals as goal

pub merge-requires : goal.merge-requires
merge-requires g c =
    let left = c.pop.new.self.items in let w = c.in-Some.worker in
    let ended = each_last (HasEnded c.args.hist.now c.args.check.now) c.workers.workers.items left w c.in-Some.ensures.items c.workers.invariant.workers in
    record { own = (c.workers.invariant.own, subst (IsPassOf c.args.hist.now) (sym c.into_pass.ensures) (own_pass c.args.hist.now c.args.check.now (length left) w c.facts.ensures ended)) }

pub workers-preserved : goal.workers-preserved
workers-preserved g c =
    let left = c.pop.new.self.items in let w = c.in-Some.worker in
    let h = c.args.hist.now in let k = c.args.check.now in
    let ended = each_last (HasEnded h k) c.workers.workers.items left w c.in-Some.ensures.items c.workers.invariant.workers in
    let q = c.workers.invariant.gathered in
    let old = c.workers.first in let new = c.merge.new.pass in
    let long = length-append left (w ∷ []) in
    let is = ap length c.in-Some.ensures.items in
    let place = q.1 in
    record {
      own = search rules;
      number = search rules;
      made = search rules;
      mine = search rules;
      workers = each_fewer (HasEnded h k) c.workers.workers.items left w c.in-Some.ensures.items c.workers.invariant.workers;
      gathered =
          gathered_more h k (length c.args.workers.items) (length left) w old new
          c.workers.sum.searches.items c.add.new.self.searches.items c.workers.sum.model c.add.new.self.model c.workers.sum.wanting c.add.new.self.wanting c.workers.sum.spent c.add.new.self.spent q.0
          c.facts.ensures ended (omega (arith, long, is, place)) c.merge.ensures.seen.0 (subst (λ p. StartsWith new.seen p.seen) c.into_pass.ensures c.merge.ensures.seen.1)
          (subst (λ p. new.ended ≡ old.ended ++ (p.number, p.mine) ∷ p.ended) c.into_pass.ensures c.merge.ensures.ended)
          c.in_ok-add.ensures.kept c.in_ok-add.ensures.spent q.2 q.3 q.4;
    }

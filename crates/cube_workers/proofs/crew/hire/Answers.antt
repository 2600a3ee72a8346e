use Rattle.std.proofs.Common.{rules}
use Rattle.cube_workers.specs.Searched.{RestsBeside}
use Rattle.cube_workers.specs.Hired.{IsHired}
use Rattle.cube_workers.proofs.Adding.{each_pushed, each_fewer, each_last}
use Rattle.cube_workers.proofs.crew.hire.Goals as goal

pub searches-init : goal.searches-init
searches-init g c = record {
  own = search rules;
  number = search rules;
  mine = search rules;
  seen = search rules;
  made = search rules;
  count = search rules;
  room = search rules;
  resting = c.requires.resting;
  workers = search rules;
}

pub searches-preserved : goal.searches-preserved
searches-preserved g c =
    let left = c.pop.new.self.items in let x = c.in-Some.kept in
    let log = c.args.hist.now.law.log in
    record {
      own = search rules;
      number = search rules;
      mine = search rules;
      seen = search rules;
      made = search rules;
      count = search rules;
      room = search rules;
      resting = each_fewer (λ i s. RestsBeside log s.search) c.searches.searches.items left x c.in-Some.ensures.items c.searches.invariant.resting;
      workers =
          each_pushed (IsHired c.args.hist.now c.args.check.now) c.searches.workers.items c.push_reserved.new.self.items _ c.push_reserved.ensures.items c.searches.invariant.workers
          (record {
            hist_is = search rules;
            check_is = search rules;
            number = search rules;
            fresh = search rules;
            resting = each_last (λ i s. RestsBeside log s.search) c.searches.searches.items left x c.in-Some.ensures.items c.searches.invariant.resting;
          });
    }

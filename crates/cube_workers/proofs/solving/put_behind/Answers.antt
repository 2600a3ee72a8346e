use Rattle.std.proofs.Common.{◌∷◌, [], ◌∙◌, ap, rules}
use Rattle.std.specs.Prelude.{slice_get}
use Rattle.cnf_base.proofs.Lists.{slice_get-longer}
use Rattle.cube_workers.specs.Searched.{RestsBeside}
use Rattle.cube_workers.proofs.Adding.{each_fewer, each_last}
use Rattle.cube_workers.proofs.Settling.{rest_pushed}
use Rattle.cube_workers.proofs.solving.put_behind.Goals as goal

pub others-preserved : goal.others-preserved
others-preserved c =
    let old = c.others.searches.items in let new = c.push_reserved.new.self.items in
    let left = c.pop.new.self.items in let x = c.in-Some.kept in
    record {
      count = search rules;
      room = search rules;
      front = λ i k e. ap (λ l. slice_get l i) c.push_reserved.ensures.items ∙ slice_get-longer old (x ∷ []) i k (c.others.invariant.front i k e);
      resting = λ log own behind.
          let both = c.others.invariant.resting log own behind in (
            rest_pushed log old new x c.push_reserved.ensures.items (each_last (λ i s. RestsBeside log s.search) c.others.others.items left x c.in-Some.ensures.items both.1) both.0,
            each_fewer (λ i s. RestsBeside log s.search) c.others.others.items left x c.in-Some.ensures.items both.1,
          );
    }

pub returns-clause-resting : goal.returns-clause-resting
returns-clause-resting c = λ log own behind. (c.others.invariant.resting log own behind).0

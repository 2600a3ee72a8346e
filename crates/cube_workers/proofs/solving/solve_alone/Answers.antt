use Rattle.std.proofs.Common.{◌≡◌, [], ◌∷◌, ◌++◌, rules}
use Rattle.cube_workers.specs.Searched.{RestsBeside}
use Rattle.cube_workers.proofs.Adding.{each_last}
use Rattle.cube_workers.proofs.Settling.{only_one, rest_one}
use Rattle.cube_workers.proofs.solving.solve_alone.Goals as goal

pub search_alone-requires-clause-resting : goal.search_alone-requires-clause-resting
search_alone-requires-clause-resting c = each_last (λ i s. RestsBeside c.args.log s.search) c.args.searches.items c.pop.new.self.items c.in-Some.kept c.in-Some.ensures.items c.requires.resting

pub returns-else-is_err-clause-resting : goal.returns-else-is_err-clause-resting
returns-else-is_err-clause-resting c =
    let y = c.search_alone.new.kept in
    let new = c.push.new.self.items in let left = c.pop.new.self.items in
    let is : new ≡ left ++ y ∷ [] = search rules in
    rest_one c.in-Ok.log new y (only_one c.args.searches.items left new c.in-Some.kept y c.requires.one c.in-Some.ensures.items is) c.in-Ok.ensures.resting

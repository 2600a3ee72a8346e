use Rattle.std.proofs.Common.{◌∙◌, ◌++◌, ap, drop}
use Rattle.smt_build.proofs.Places.{from_place}
use Rattle.smt_build.proofs.scope.Variables.take_from.Goals as goal

pub returns-clause-more : goal.returns-clause-more
returns-clause-more c = c.in_ok-push_all.ensures ∙ ap (λ l. c.args.self.now ++ l) (from_place _ _ c.args.place _ c.other.view_is (c.names_from.ensures ∙ ap (drop c.args.place) c.as_slice.ensures.value))

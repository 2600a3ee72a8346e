use Rattle.std.proofs.Common.{refl, ◌∙◌}
use Rattle.proof_log.proofs.Growth.{grows_same}
use Rattle.cube_workers.specs.Workers.{problem_in}
use Rattle.cube_workers.specs.Crews.{values_in}
use Rattle.cube_workers.proofs.Settling.{rest_longer, all_rest, model_found, model_within, tried_all}
use Rattle.cube_workers.proofs.solving.conclude.Goals as goal

pub returns-in-Some-clause-resting : goal.returns-in-Some-clause-resting
returns-in-Some-clause-resting c =
    let e = c.requires.ended in let s = c.args.sum in
    all_rest e.0 c.args.check.now c.args.terms.now.nodes c.args.log c.args.all.now s.searches.items s.model s.wanting s.spent e.1 e.2 e.3 e.4 c.requires.stands

pub returns-in-Some-clause-by : goal.returns-in-Some-clause-by
returns-in-Some-clause-by c =
    let e = c.requires.ended in let s = c.args.sum in
    model_within e.0 c.args.check.now c.args.terms.now.nodes c.args.log c.args.all.now s.searches.items s.model s.wanting s.spent e.1 e.2 e.3 e.4 c.in-Some.by c.in-Some.is

pub returns-in-Some-clause-found : goal.returns-in-Some-clause-found
returns-in-Some-clause-found c = λ law count xs hub all.
    let s = c.args.sum in
    model_found law c.args.check.now c.args.terms.now.nodes c.args.log c.args.all.now s.searches.items s.model s.wanting s.spent count xs hub all c.in-Some.by c.in-Some.is

pub returns-then-wanting-clause-lost : goal.returns-then-wanting-clause-lost
returns-then-wanting-clause-lost c =
    let e = c.requires.ended in let s = c.args.sum in (
      c.requires.stands,
      grows_same c.args.log.entries,
      all_rest e.0 c.args.check.now c.args.terms.now.nodes c.args.log c.args.all.now s.searches.items s.model s.wanting s.spent e.1 e.2 e.3 e.4 c.requires.stands,
    )

pub returns-in_default-positions_in-clause-lost : goal.returns-in_default-positions_in-clause-lost
returns-in_default-positions_in-clause-lost c =
    let e = c.requires.ended in let s = c.args.sum in (
      c.requires.stands,
      grows_same c.args.log.entries,
      all_rest e.0 c.args.check.now c.args.terms.now.nodes c.args.log c.args.all.now s.searches.items s.model s.wanting s.spent e.1 e.2 e.3 e.4 c.requires.stands,
    )

pub conclude-requires-clause-tried : goal.conclude-requires-clause-tried
conclude-requires-clause-tried c =
    let e = c.requires.ended in let s = c.args.sum in (
      problem_in e.0 c.args.check.now,
      e.3.nodes_are,
      refl,
      tried_all e.0 c.args.check.now c.args.terms.now.nodes c.args.log c.args.all.now s.searches.items s.model s.wanting s.spent e.1 e.2 e.3 e.4 c.in_default.is c.if-wanting.false c.in-Ok.closed.items (c.in-Ok.ensures.places e.0) (c.in-Ok.ensures.len ∙ c.leaves.ensures.count),
    )

pub returns-in-Ok-conclude-clause-resting : goal.returns-in-Ok-conclude-clause-resting
returns-in-Ok-conclude-clause-resting c =
    let e = c.requires.ended in let s = c.args.sum in
    rest_longer c.args.terms.now.nodes c.args.log c.conclude.new.log s.searches.items c.requires.stands c.conclude.ensures.stands c.conclude.ensures.grows
    (all_rest e.0 c.args.check.now c.args.terms.now.nodes c.args.log c.args.all.now s.searches.items s.model s.wanting s.spent e.1 e.2 e.3 e.4 c.requires.stands)

pub returns-in-Ok-conclude-clause-found : goal.returns-in-Ok-conclude-clause-found
returns-in-Ok-conclude-clause-found c = λ law count xs hub all.
    let s = c.args.sum in
    c.in-Ok-conclude.ensures.found (problem_in law c.args.check.now) (values_in s.searches.items 0) hub.nodes_are refl
    (tried_all law c.args.check.now c.args.terms.now.nodes c.args.log c.args.all.now s.searches.items s.model s.wanting s.spent count xs hub all c.in_default.is c.if-wanting.false c.in-Ok.closed.items (c.in-Ok.ensures.places law) (c.in-Ok.ensures.len ∙ c.leaves.ensures.count))

pub returns-in-Err-clause-lost : goal.returns-in-Err-clause-lost
returns-in-Err-clause-lost c =
    let e = c.requires.ended in let s = c.args.sum in (
      c.conclude.ensures.stands,
      c.conclude.ensures.grows,
      rest_longer c.args.terms.now.nodes c.args.log c.conclude.new.log s.searches.items c.requires.stands c.conclude.ensures.stands c.conclude.ensures.grows
          (all_rest e.0 c.args.check.now c.args.terms.now.nodes c.args.log c.args.all.now s.searches.items s.model s.wanting s.spent e.1 e.2 e.3 e.4 c.requires.stands),
    )

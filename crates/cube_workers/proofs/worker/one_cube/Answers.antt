use Rattle.std.proofs.Common.{sym, subst}
use Rattle.std.specs.Prelude.{MatchOption, IfOk, OnOk, ◌≡◌, false, ◌<◌, length}
use Rattle.hub_core.specs.Hubs.{has_next}
use Rattle.hub_board.specs.Boards.{view_in}
use Rattle.hub_board.specs.Cubes.{IsIdle, IsBusy}
use Rattle.cube_search.specs.Running.{valuation_of}
use Rattle.cube_workers.specs.declared.worker.Reached.TheVariants.{Done}
use Rattle.cube_workers.specs.Workers.{problem_in, IsAbout, IsCubeEnd}
use Rattle.cube_workers.proofs.OnHub.{about_on}
use Rattle.cube_workers.proofs.Telling.{on_grows, claim_quiet, claim_spent, rests_after, cube_told, busy_on, cube_closed}
use Rattle.cube_workers.proofs.worker.one_cube.Goals as goal

pub returns-in_default-claimed-clause-reached : goal.returns-in_default-claimed-clause-reached
returns-in_default-claimed-clause-reached g c =
    let b = c.args.board in let b' = c.claim.new.self in
    let p = problem_in b.hist.law c.args.check.now in
    let said = subst (λ o. MatchOption o (IsIdle b' × (has_next b'.hist.law (view_in b') ≡ false)) (λ n. (n < length b'.hist.law.cubes) × IsBusy b' n)) c.in_default-claimed.is c.in-Ok.ensures.claimed in (
      (
        said.0,
        claim_quiet b b' c.in-Ok.ensures.told c.requires.rest.1,
        claim_spent p b b' c.args.spent c.facts.ensures c.in-Ok.ensures.on c.in-Ok.ensures.told c.requires.rest.2,
        said.1,
      ),
      rests_after c.args.search.now b' p Done (about_on c.args.search.now b b' p (on_grows b b' c.facts.ensures c.in-Ok.ensures.on) c.facts.ensures c.in-Ok.ensures.on c.requires.about),
    )

pub search_cube-back-requires-clause-about : goal.search_cube-back-requires-clause-about
search_cube-back-requires-clause-about g c =
    let b = c.args.board in let b' = c.claim.new.self in
    let p = problem_in b.hist.law c.args.check.now in
    subst (λ s. IsAbout c.args.search.now b' (problem_in s.law c.args.check.now)) (sym c.in-Ok.ensures.on.hist)
    (about_on c.args.search.now b b' p (on_grows b b' c.facts.ensures c.in-Ok.ensures.on) c.facts.ensures c.in-Ok.ensures.on c.requires.about)

pub tell-spent-requires-clause-busy : goal.tell-spent-requires-clause-busy
tell-spent-requires-clause-busy g c =
    let b1 = c.claim.new.self in
    let said = subst (λ o. MatchOption o (IsIdle b1 × (has_next b1.hist.law (view_in b1) ≡ false)) (λ n. (n < length b1.hist.law.cubes) × IsBusy b1 n)) c.in-Some.is c.in-Ok.ensures.claimed in
    busy_on b1 c.search_cube-back.result.0 c.in-Some.cube c.search_cube-back.ensures.moved said.1

pub tell-spent-requires-clause-closed : goal.tell-spent-requires-clause-closed
tell-spent-requires-clause-closed g c = λ at is.
    let b1 = c.claim.new.self in
    let b2 = c.search_cube-back.result.0 in
    let v = valuation_of c.search_cube-back.new.search in
    let said = subst (λ o. MatchOption o (IsIdle b1 × (has_next b1.hist.law (view_in b1) ≡ false)) (λ n. (n < length b1.hist.law.cubes) × IsBusy b1 n)) c.in-Some.is c.in-Ok.ensures.claimed in
    cube_closed c.args.board b1 b2 c.args.check.now v c.in-Some.cube at c.in-Ok-end.end c.requires.open c.in-Ok.ensures.on c.search_cube-back.ensures.moved said.0
    (subst (λ r. IfOk r (IsCubeEnd (problem_in b1.hist.law c.args.check.now) b2 v c.in-Some.cube)) c.in-Ok-end.is c.search_cube-back.ensures.end) is

pub returns-clause-reached : goal.returns-clause-reached
returns-clause-reached g c =
    let b1 = c.claim.new.self in
    let b2 = c.search_cube-back.result.0 in
    let s = c.search_cube-back.new.search in
    let p1 = problem_in b1.hist.law c.args.check.now in
    cube_told c.args.board b1 b2 c.tell-spent.new.board c.args.check.now c.in-Some.cube s c.args.spent c.tell-spent.result.0 c.in-Ok-end.end c.tell-spent.result.1
    c.facts.ensures c.facts-2.ensures c.facts-3.ensures c.requires.open c.in-Ok.ensures.on c.in-Ok.ensures.told c.search_cube-back.ensures.moved c.tell-spent.ensures.on c.requires.rest.1 c.requires.rest.2
    (subst (λ r. OnOk r (IsAbout s b2 p1)) c.in-Ok-end.is c.search_cube-back.ensures.about)
    (subst (λ r. IfOk r (IsCubeEnd p1 b2 (valuation_of s) c.in-Some.cube)) c.in-Ok-end.is c.search_cube-back.ensures.end)
    c.tell-spent.ensures.told

use Rattle.std.proofs.Common.{ap}
use Rattle.std.proofs.lemmas.Bool.{MatchBool-at_false}
use Rattle.std.proofs.lemmas.Option.{MatchOption-at_some}
use Rattle.proof_log.proofs.Growth.{later_then}
use Rattle.cdcl_loop.proofs.Assuming.{none_of}
use Rattle.cube_search.specs.Running.{valuation_of}
use Rattle.cube_search.proofs.Steps.{same_given, looked_now, looked_before, run_end, run_then}
use Rattle.cube_search.proofs.search.Search.go_to_end.Goals as goal

pub steps-init : goal.steps-init
steps-init g c = record {
  run = c.in_ok-take_news.ensures.run;
  later = c.in_ok-take_news.ensures.later;
  running = c.in_ok-take_news.ensures.running;
  told = c.in_ok-take_news.ensures.told;
  upto = λ w. MatchBool-at_false _ _ c.if-branch.false c.in_ok-take_news.ensures.news w;
}

pub steps-preserved : goal.steps-preserved
steps-preserved g c = record {
  run = run_then c.args.self.now c.steps.self c.step.new.self c.steps.invariant.run c.in_ok-end.ensures.run;
  later = later_then (g.B.Board.nodes c.args.board.now) (g.B.Board.nodes c.steps.board) (g.B.Board.nodes c.step.new.board) (g.B.Board.log c.args.board.now) (g.B.Board.log c.steps.board) (g.B.Board.log c.step.new.board) (g.B.Board.knows c.args.board.now) (g.B.Board.knows c.steps.board) (g.B.Board.knows c.step.new.board) c.steps.invariant.later c.step.ensures.later;
  running = c.in_ok-end.ensures.running;
  told = none_of _ c.in_ok-end.field-0 c.in_default.not-Some c.in_ok-end.ensures.told;
  upto = λ w. none_of _ c.in_ok-end.field-0 c.in_default.not-Some c.in_ok-end.ensures.end (c.steps.invariant.upto w);
}

pub returns-in_err-end-clause-later : goal.returns-in_err-end-clause-later
returns-in_err-end-clause-later g c = later_then (g.B.Board.nodes c.args.board.now) (g.B.Board.nodes c.steps.board) (g.B.Board.nodes c.step.new.board) (g.B.Board.log c.args.board.now) (g.B.Board.log c.steps.board) (g.B.Board.log c.step.new.board) (g.B.Board.knows c.args.board.now) (g.B.Board.knows c.steps.board) (g.B.Board.knows c.step.new.board) c.steps.invariant.later c.step.ensures.later

pub returns-in-Some-clause-later : goal.returns-in-Some-clause-later
returns-in-Some-clause-later g c = later_then (g.B.Board.nodes c.args.board.now) (g.B.Board.nodes c.steps.board) (g.B.Board.nodes c.step.new.board) (g.B.Board.log c.args.board.now) (g.B.Board.log c.steps.board) (g.B.Board.log c.step.new.board) (g.B.Board.knows c.args.board.now) (g.B.Board.knows c.steps.board) (g.B.Board.knows c.step.new.board) c.steps.invariant.later c.step.ensures.later

pub returns-in_err-end-clause-run : goal.returns-in_err-end-clause-run
returns-in_err-end-clause-run g c = run_then c.args.self.now c.steps.self c.step.new.self c.steps.invariant.run c.step.ensures.run

pub returns-in-Some-clause-run : goal.returns-in-Some-clause-run
returns-in-Some-clause-run g c = run_then c.args.self.now c.steps.self c.step.new.self c.steps.invariant.run c.step.ensures.run

pub returns-then-branch-clause-looked : goal.returns-then-branch-clause-looked
returns-then-branch-clause-looked g c =
    looked_before c.take_news.new.self (g.B.Board.log c.args.board.now) (g.B.Board.log c.take_news.new.board) (g.B.Board.told c.take_news.new.board) c.in_ok-take_news.ensures.later.grows
    (looked_now c.take_news.new.self (g.B.Board.nodes c.take_news.new.board) (g.B.Board.log c.take_news.new.board) (g.B.Board.told c.take_news.new.board) c.in_ok-take_news.ensures.told c.in_ok-take_news.ensures.running)

pub returns-in-Some-clause-looked : goal.returns-in-Some-clause-looked
returns-in-Some-clause-looked g c =
    looked_before c.step.new.self (g.B.Board.log c.args.board.now) (g.B.Board.log c.steps.board) (g.B.Board.told c.step.new.board) c.steps.invariant.later.grows c.in_ok-end.ensures.looked

pub returns-in-Some-clause-end : goal.returns-in-Some-clause-end
returns-in-Some-clause-end g c =
    let run = c.steps.invariant.run in
    run_end _ _ c.steps.self (g.B.Board.nodes c.step.new.board) (g.B.Board.log c.step.new.board) (g.B.Board.knows c.step.new.board) (g.B.Board.found c.step.new.board) (g.B.Board.told c.step.new.board) (valuation_of c.step.new.self) c.args.self.now.engine.given.items c.args.self.now.from c.args.self.now.opening.items c.args.cube c.args.budget c.in-Some.end
    c.steps.invariant.upto (same_given c.args.self.now c.steps.self run) run.from (ap (λ v. v.items) run.opening)
    (MatchOption-at_some _ _ c.in-Some.end c.in-Some.is c.in_ok-end.ensures.end)

pub returns-in-Some-clause-model : goal.returns-in-Some-clause-model
returns-in-Some-clause-model g c = λ is w. (MatchOption-at_some _ _ c.in-Some.end c.in-Some.is c.in_ok-end.ensures.model is (c.steps.invariant.upto w)).0.0

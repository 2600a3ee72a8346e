use Rattle.std.proofs.Common.{◌∙◌}
use Rattle.std.proofs.lemmas.Option.{MatchOption-at_some}
use Rattle.cdcl_loop.proofs.Assuming.{none_of}
use Rattle.cube_search.specs.Running.{IsReadyToPut}
use Rattle.cube_search.proofs.Adding.{below_more}
use Rattle.theory_search.specs.Theories.{IsTheoryApart}
use Rattle.theory_search.proofs.Going.{goes_then, run_ended, looked_first}
use Rattle.theory_search.proofs.Grown.{more_then}
use Rattle.theory_search.proofs.theory.Theory.run.Goals as goal

pub go_on-requires-clause-below : goal.go_on-requires-clause-below
go_on-requires-clause-below g c = below_more (g.B.Board.nodes c.args.board.now) (g.B.Board.nodes c.rounds.board) (g.B.Board.log c.args.board.now) (g.B.Board.log c.rounds.board) (g.B.Board.knows c.args.board.now) (g.B.Board.knows c.rounds.board) c.args.given.now c.rounds.invariant.later c.requires.below

pub returns-in_err-end-clause-later : goal.returns-in_err-end-clause-later
returns-in_err-end-clause-later g c = more_then (g.B.Board.nodes c.args.board.now) (g.B.Board.nodes c.rounds.board) (g.B.Board.nodes c.go_on.new.board) (g.B.Board.log c.args.board.now) (g.B.Board.log c.rounds.board) (g.B.Board.log c.go_on.new.board) (g.B.Board.knows c.args.board.now) (g.B.Board.knows c.rounds.board) (g.B.Board.knows c.go_on.new.board) c.rounds.invariant.later c.go_on.ensures.later

pub returns-in-Some-2-clause-later : goal.returns-in-Some-2-clause-later
returns-in-Some-2-clause-later g c = more_then (g.B.Board.nodes c.args.board.now) (g.B.Board.nodes c.rounds.board) (g.B.Board.nodes c.go_on.new.board) (g.B.Board.log c.args.board.now) (g.B.Board.log c.rounds.board) (g.B.Board.log c.go_on.new.board) (g.B.Board.knows c.args.board.now) (g.B.Board.knows c.rounds.board) (g.B.Board.knows c.go_on.new.board) c.rounds.invariant.later c.go_on.ensures.later

pub returns-in-Some-2-clause-kept : goal.returns-in-Some-2-clause-kept
returns-in-Some-2-clause-kept g c = goes_then (g.B.Board.nodes c.args.board.now) (g.B.Board.nodes c.rounds.board) (g.B.Board.nodes c.go_on.new.board) (g.B.Board.log c.args.board.now) (g.B.Board.log c.rounds.board) (g.B.Board.log c.go_on.new.board) c.args.self.now c.rounds.self c.go_on.new.self c.args.search.now c.rounds.search c.go_on.new.search c.rounds.invariant.kept c.in_ok-end.ensures.kept

pub returns-in-Some-2-clause-looked : goal.returns-in-Some-2-clause-looked
returns-in-Some-2-clause-looked g c = looked_first c.go_on.new.search (g.B.Board.nodes c.args.board.now) (g.B.Board.nodes c.rounds.board) (g.B.Board.log c.args.board.now) (g.B.Board.log c.rounds.board) (g.B.Board.knows c.args.board.now) (g.B.Board.knows c.rounds.board) (g.B.Board.told c.go_on.new.board) c.rounds.invariant.later (MatchOption-at_some _ _ c.in-Some-2.end c.in-Some-2.is c.in_ok-end.ensures.looked)

pub returns-in-Some-2-clause-end : goal.returns-in-Some-2-clause-end
returns-in-Some-2-clause-end g c =
    run_ended (IsReadyToPut c.rounds.search (g.B.Board.nodes c.rounds.board) (g.B.Board.log c.rounds.board)) (IsTheoryApart (g.B.Board.nodes c.args.board.now) (g.B.Board.log c.args.board.now) c.args.self.now c.args.search.now) c.args.search.now c.go_on.new.search (g.B.Board.nodes c.go_on.new.board) (g.B.Board.log c.go_on.new.board) (g.B.Board.knows c.go_on.new.board) (g.B.Board.found c.go_on.new.board) (g.B.Board.told c.go_on.new.board) c.rounds.self.live c.args.self.now.live c.args.given.now c.args.cube c.args.budget c.in-Some-2.end
    (λ h. (c.rounds.invariant.writing h, (c.rounds.invariant.kept.apart h).own)) c.rounds.invariant.live c.in_ok-end.ensures.given (c.in_ok-end.ensures.kept.from ∙ c.rounds.invariant.kept.from)
    (MatchOption-at_some _ _ c.in-Some-2.end c.in-Some-2.is c.in_ok-end.ensures.end)

pub rounds-preserved : goal.rounds-preserved
rounds-preserved g c = record {
  live = c.go_on.ensures.live ∙ c.rounds.invariant.live;
  later = more_then (g.B.Board.nodes c.args.board.now) (g.B.Board.nodes c.rounds.board) (g.B.Board.nodes c.go_on.new.board) (g.B.Board.log c.args.board.now) (g.B.Board.log c.rounds.board) (g.B.Board.log c.go_on.new.board) (g.B.Board.knows c.args.board.now) (g.B.Board.knows c.rounds.board) (g.B.Board.knows c.go_on.new.board) c.rounds.invariant.later c.go_on.ensures.later;
  given = c.in_ok-end.ensures.given;
  kept = goes_then (g.B.Board.nodes c.args.board.now) (g.B.Board.nodes c.rounds.board) (g.B.Board.nodes c.go_on.new.board) (g.B.Board.log c.args.board.now) (g.B.Board.log c.rounds.board) (g.B.Board.log c.go_on.new.board) c.args.self.now c.rounds.self c.go_on.new.self c.args.search.now c.rounds.search c.go_on.new.search c.rounds.invariant.kept c.in_ok-end.ensures.kept;
  writing = λ h. none_of _ c.in_ok-end.field-0 c.in_default-2.not-Some c.in_ok-end.ensures.writing (c.rounds.invariant.kept.apart h) (c.rounds.invariant.writing h);
}

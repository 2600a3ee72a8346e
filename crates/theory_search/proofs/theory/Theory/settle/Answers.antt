use Rattle.std.proofs.Common.{ap}
use Rattle.theory_search.specs.declared.theory.Theory.{Theory}
use Rattle.theory_search.proofs.Going.{goes_same, goes_then, goes_like}
use Rattle.theory_search.proofs.Grown.{more_same, theory_like}
use Rattle.theory_search.proofs.theory.Theory.settle.Goals as goal

pub returns-in_err-model-in-Model-clause-later : goal.returns-in_err-model-in-Model-clause-later
returns-in_err-model-in-Model-clause-later g c = more_same (g.B.Board.nodes c.args.board.now) (g.B.Board.log c.args.board.now) (g.B.Board.knows c.args.board.now) c.requires.search.1.stands

pub refute-requires-clause-theory : goal.refute-requires-clause-theory
refute-requires-clause-theory g c = theory_like c.args.self.now c.look.new.self (g.B.Board.nodes c.args.board.now) (g.B.Board.log c.args.board.now) c.args.search.now.opening.items (ap (λ (t : Theory). t.live) c.look.ensures.same) (ap (λ (t : Theory). t.reached) c.look.ensures.same) (ap (λ (t : Theory). t.prepared) c.look.ensures.same) (ap (λ (t : Theory). t.variables) c.look.ensures.same) c.requires.theory

pub returns-in-Closed-clause-kept : goal.returns-in-Closed-clause-kept
returns-in-Closed-clause-kept g c = goes_same (g.B.Board.nodes c.args.board.now) (g.B.Board.log c.args.board.now) c.args.self.now c.args.search.now c.requires.search c.requires.theory

pub returns-in-Spent-clause-kept : goal.returns-in-Spent-clause-kept
returns-in-Spent-clause-kept g c = goes_same (g.B.Board.nodes c.args.board.now) (g.B.Board.log c.args.board.now) c.args.self.now c.args.search.now c.requires.search c.requires.theory

pub returns-in-Stopped-clause-kept : goal.returns-in-Stopped-clause-kept
returns-in-Stopped-clause-kept g c = goes_same (g.B.Board.nodes c.args.board.now) (g.B.Board.log c.args.board.now) c.args.self.now c.args.search.now c.requires.search c.requires.theory

pub returns-in-Model-2-clause-later : goal.returns-in-Model-2-clause-later
returns-in-Model-2-clause-later g c = more_same (g.B.Board.nodes c.args.board.now) (g.B.Board.log c.args.board.now) (g.B.Board.knows c.args.board.now) c.requires.search.1.stands

pub returns-in-Model-2-clause-kept : goal.returns-in-Model-2-clause-kept
returns-in-Model-2-clause-kept g c = (goes_like (g.B.Board.nodes c.args.board.now) (g.B.Board.log c.args.board.now) c.args.self.now c.look.new.self c.args.search.now (ap (λ (t : Theory). t.live) c.look.ensures.same) (ap (λ (t : Theory). t.reached) c.look.ensures.same) (ap (λ (t : Theory). t.prepared) c.look.ensures.same) (ap (λ (t : Theory). t.variables) c.look.ensures.same) (ap (λ (t : Theory). t.next) c.look.ensures.same) c.requires.search c.requires.theory)

pub returns-in_ok-refute-in-Lemmas-clause-kept : goal.returns-in_ok-refute-in-Lemmas-clause-kept
returns-in_ok-refute-in-Lemmas-clause-kept g c =
    goes_then (g.B.Board.nodes c.args.board.now) (g.B.Board.nodes c.args.board.now) (g.B.Board.nodes c.refute.new.board) (g.B.Board.log c.args.board.now) (g.B.Board.log c.args.board.now) (g.B.Board.log c.refute.new.board) c.args.self.now c.look.new.self c.refute.new.self c.args.search.now c.args.search.now c.refute.new.search (goes_like (g.B.Board.nodes c.args.board.now) (g.B.Board.log c.args.board.now) c.args.self.now c.look.new.self c.args.search.now (ap (λ (t : Theory). t.live) c.look.ensures.same) (ap (λ (t : Theory). t.reached) c.look.ensures.same) (ap (λ (t : Theory). t.prepared) c.look.ensures.same) (ap (λ (t : Theory). t.variables) c.look.ensures.same) (ap (λ (t : Theory). t.next) c.look.ensures.same) c.requires.search c.requires.theory) c.in_ok-refute-in-Lemmas.ensures.kept

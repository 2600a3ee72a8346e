use Rattle.std.proofs.Common.{◌∙◌, ap}
use Rattle.cube_search.specs.Running.{subject_of, valuation_of}
use Rattle.cube_search.proofs.Steps.{own_same, same_given, told_still, on_end, on_any, ended, model_where}
use Rattle.cube_search.proofs.search.Search.run.Goals as goal

pub go_to_end-requires : goal.go_to_end-requires
go_to_end-requires g c = record { running = c.in_ok-begin.ensures.running (g.B.Board.nodes c.args.board.now) (g.B.Board.log c.args.board.now) c.requires.search c.requires.below }

pub returns-clause-search : goal.returns-clause-search
returns-clause-search g c =
    on_end c.go_to_end.result _ _
    (λ running. (
      running.0,
      running.1,
      told_still c.args.self.now c.go_to_end.new.self (g.B.Board.nodes c.args.board.now) (g.B.Board.nodes c.go_to_end.new.board) (g.B.Board.log c.args.board.now) (g.B.Board.log c.go_to_end.new.board) (g.B.Board.knows c.args.board.now) (g.B.Board.knows c.go_to_end.new.board) c.go_to_end.ensures.later
          (c.go_to_end.ensures.run.opening ∙ c.begin.ensures.opening) (c.go_to_end.ensures.run.ends ∙ c.begin.ensures.ends) (c.go_to_end.ensures.run.listed ∙ c.begin.ensures.listed) c.requires.search,
    )) c.go_to_end.ensures.running

pub returns-clause-opening : goal.returns-clause-opening
returns-clause-opening g c = c.go_to_end.ensures.run.opening ∙ c.begin.ensures.opening

pub returns-clause-from : goal.returns-clause-from
returns-clause-from g c = c.go_to_end.ensures.run.from ∙ c.begin.ensures.from

pub returns-clause-given : goal.returns-clause-given
returns-clause-given g c = on_any c.go_to_end.result _ (same_given c.begin.new.self c.go_to_end.new.self c.go_to_end.ensures.run ∙ c.in_ok-begin.ensures.given)

pub returns-clause-end : goal.returns-clause-end
returns-clause-end g c =
    ended c.go_to_end.result _ _ (subject_of c.begin.new.self (g.B.Board.nodes c.go_to_end.new.board) (g.B.Board.log c.go_to_end.new.board)) c.args.given.now c.args.self.now.from (g.B.Board.knows c.go_to_end.new.board) (g.B.Board.found c.go_to_end.new.board) (g.B.Board.told c.go_to_end.new.board) c.begin.new.self.opening.items c.args.self.now.opening.items (valuation_of c.go_to_end.new.self) c.args.cube c.args.budget
    (λ h. (c.in_ok-begin.ensures.writing (g.B.Board.nodes c.args.board.now) (g.B.Board.log c.args.board.now) c.requires.search h.0, own_same c.args.self.now c.begin.new.self (g.B.Board.log c.args.board.now) c.begin.ensures.opening c.begin.ensures.from h.1)) c.in_ok-begin.ensures.given c.begin.ensures.from (ap (λ v. v.items) c.begin.ensures.opening) c.go_to_end.ensures.end

pub returns-clause-model : goal.returns-clause-model
returns-clause-model g c = model_where c.go_to_end.result _ _ _ (λ h. (c.in_ok-begin.ensures.writing (g.B.Board.nodes c.args.board.now) (g.B.Board.log c.args.board.now) c.requires.search h.0, own_same c.args.self.now c.begin.new.self (g.B.Board.log c.args.board.now) c.begin.ensures.opening c.begin.ensures.from h.1)) c.go_to_end.ensures.model

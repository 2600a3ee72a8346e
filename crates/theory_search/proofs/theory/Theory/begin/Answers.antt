use Rattle.std.proofs.Common.{sym, subst}
use Rattle.cube_search.specs.declared.search.Search.{Search}
use Rattle.theory_search.specs.Ends.{IsEnd}
use Rattle.theory_search.proofs.Apart.{apart_alone}
use Rattle.cube_search.specs.Running.{subject_of, valuation_of, HasLooked}
use Rattle.theory_search.specs.Theories.{IsTheoryApart}
use Rattle.theory_search.proofs.Going.{goes_by_chains, goes_then, model_of, end_here, became, on_none, on_some, on_both}
use Rattle.theory_search.proofs.Grown.{longer_by_chains, more_then}
use Rattle.theory_search.proofs.theory.Theory.begin.Goals as goal

pub returns-in_err-end-clause-later : goal.returns-in_err-end-clause-later
returns-in_err-end-clause-later g c = longer_by_chains (g.B.Board.nodes c.args.board.now) (g.B.Board.nodes c.run.new.board) (g.B.Board.log c.args.board.now) (g.B.Board.log c.run.new.board) (g.B.Board.knows c.args.board.now) (g.B.Board.knows c.run.new.board) c.run.ensures.later

pub settle-requires-clause-theory : goal.settle-requires-clause-theory
settle-requires-clause-theory g c = (goes_by_chains (g.B.Board.nodes c.args.board.now) (g.B.Board.nodes c.run.new.board) (g.B.Board.log c.args.board.now) (g.B.Board.log c.run.new.board) (g.B.Board.knows c.args.board.now) (g.B.Board.knows c.run.new.board) c.run.ensures.later c.args.self.now c.args.search.now c.run.new.self c.requires.search c.in_ok-end.ensures.search c.run.ensures.opening c.run.ensures.from c.requires.theory).theory

pub settle-requires-clause-model : goal.settle-requires-clause-model
settle-requires-clause-model g c = λ is.
    model_of (IsTheoryApart (g.B.Board.nodes c.args.board.now) (g.B.Board.log c.args.board.now) c.args.self.now c.args.search.now) (subject_of c.run.new.self (g.B.Board.nodes c.run.new.board) (g.B.Board.log c.run.new.board)) (g.B.Board.knows c.run.new.board) (g.B.Board.found c.run.new.board) (g.B.Board.told c.run.new.board) c.run.new.self.opening.items (valuation_of c.run.new.self) c.args.cube c.args.budget c.in_ok-end.end is
    (end_here _ (IsTheoryApart (g.B.Board.nodes c.args.board.now) (g.B.Board.log c.args.board.now) c.args.self.now c.args.search.now) c.args.search.now c.run.new.self (g.B.Board.nodes c.run.new.board) (g.B.Board.log c.run.new.board) (g.B.Board.knows c.run.new.board) (g.B.Board.found c.run.new.board) (g.B.Board.told c.run.new.board) (valuation_of c.run.new.self) c.args.given.now c.args.cube c.args.budget c.in_ok-end.end (λ h. apart_alone (g.B.Board.nodes c.args.board.now) (g.B.Board.log c.args.board.now) c.args.self.now.variables c.args.self.now.next c.args.search.now.opening.items c.args.search.now.from h) c.in_ok-end.ensures.given c.run.ensures.from c.run.ensures.opening c.in_ok-end.ensures.end)

pub returns-in_err-ended-clause-later : goal.returns-in_err-ended-clause-later
returns-in_err-ended-clause-later g c = (more_then (g.B.Board.nodes c.args.board.now) (g.B.Board.nodes c.run.new.board) (g.B.Board.nodes c.settle.new.board) (g.B.Board.log c.args.board.now) (g.B.Board.log c.run.new.board) (g.B.Board.log c.settle.new.board) (g.B.Board.knows c.args.board.now) (g.B.Board.knows c.run.new.board) (g.B.Board.knows c.settle.new.board) (longer_by_chains (g.B.Board.nodes c.args.board.now) (g.B.Board.nodes c.run.new.board) (g.B.Board.log c.args.board.now) (g.B.Board.log c.run.new.board) (g.B.Board.knows c.args.board.now) (g.B.Board.knows c.run.new.board) c.run.ensures.later) c.settle.ensures.later)

pub returns-clause-later : goal.returns-clause-later
returns-clause-later g c = (more_then (g.B.Board.nodes c.args.board.now) (g.B.Board.nodes c.run.new.board) (g.B.Board.nodes c.settle.new.board) (g.B.Board.log c.args.board.now) (g.B.Board.log c.run.new.board) (g.B.Board.log c.settle.new.board) (g.B.Board.knows c.args.board.now) (g.B.Board.knows c.run.new.board) (g.B.Board.knows c.settle.new.board) (longer_by_chains (g.B.Board.nodes c.args.board.now) (g.B.Board.nodes c.run.new.board) (g.B.Board.log c.args.board.now) (g.B.Board.log c.run.new.board) (g.B.Board.knows c.args.board.now) (g.B.Board.knows c.run.new.board) c.run.ensures.later) c.settle.ensures.later)

pub returns-clause-kept : goal.returns-clause-kept
returns-clause-kept g c =
    goes_then (g.B.Board.nodes c.args.board.now) (g.B.Board.nodes c.run.new.board) (g.B.Board.nodes c.settle.new.board) (g.B.Board.log c.args.board.now) (g.B.Board.log c.run.new.board) (g.B.Board.log c.settle.new.board) c.args.self.now c.args.self.now c.settle.new.self c.args.search.now c.run.new.self c.settle.new.search (goes_by_chains (g.B.Board.nodes c.args.board.now) (g.B.Board.nodes c.run.new.board) (g.B.Board.log c.args.board.now) (g.B.Board.log c.run.new.board) (g.B.Board.knows c.args.board.now) (g.B.Board.knows c.run.new.board) c.run.ensures.later c.args.self.now c.args.search.now c.run.new.self c.requires.search c.in_ok-end.ensures.search c.run.ensures.opening c.run.ensures.from c.requires.theory) c.in_ok-ended.ensures.kept

pub returns-clause-writing : goal.returns-clause-writing
returns-clause-writing g c = on_none c.in_ok-ended.ended _ _ (λ f h. f.1 ((goes_by_chains (g.B.Board.nodes c.args.board.now) (g.B.Board.nodes c.run.new.board) (g.B.Board.log c.args.board.now) (g.B.Board.log c.run.new.board) (g.B.Board.knows c.args.board.now) (g.B.Board.knows c.run.new.board) c.run.ensures.later c.args.self.now c.args.search.now c.run.new.self c.requires.search c.in_ok-end.ensures.search c.run.ensures.opening c.run.ensures.from c.requires.theory).apart h) (c.in_ok-end.ensures.model f.0 (apart_alone (g.B.Board.nodes c.args.board.now) (g.B.Board.log c.args.board.now) c.args.self.now.variables c.args.self.now.next c.args.search.now.opening.items c.args.search.now.from h))) c.in_ok-ended.ensures.none

pub returns-clause-looked : goal.returns-clause-looked
returns-clause-looked g c = on_some c.in_ok-ended.ended _ _
    (λ e f. subst (λ b. HasLooked c.settle.new.search (g.B.Board.log c.args.board.now) (g.B.Board.told b)) (sym f.0) (subst (λ (s : Search). HasLooked s (g.B.Board.log c.args.board.now) (g.B.Board.told c.run.new.board)) (sym f.1) c.in_ok-end.ensures.looked))
    c.in_ok-ended.ensures.still

pub returns-clause-end : goal.returns-clause-end
returns-clause-end g c = on_both c.in_ok-ended.ended _ _ _
    (λ e f k.
    subst (λ b. IsEnd (IsTheoryApart (g.B.Board.nodes c.args.board.now) (g.B.Board.log c.args.board.now) c.args.self.now c.args.search.now) (subject_of c.settle.new.search (g.B.Board.nodes b) (g.B.Board.log b)) (g.B.Board.knows b) (g.B.Board.found b) (g.B.Board.told b) c.args.self.now.live.items c.settle.new.search.opening.items (valuation_of c.settle.new.search) c.args.cube c.args.budget e) (sym f.0)
    (subst (λ (s : Search). IsEnd (IsTheoryApart (g.B.Board.nodes c.args.board.now) (g.B.Board.log c.args.board.now) c.args.self.now c.args.search.now) (subject_of s (g.B.Board.nodes c.run.new.board) (g.B.Board.log c.run.new.board)) (g.B.Board.knows c.run.new.board) (g.B.Board.found c.run.new.board) (g.B.Board.told c.run.new.board) c.args.self.now.live.items s.opening.items (valuation_of s) c.args.cube c.args.budget e) (sym f.1)
    (became (IsTheoryApart (g.B.Board.nodes c.args.board.now) (g.B.Board.log c.args.board.now) c.args.self.now c.args.search.now) (subject_of c.run.new.self (g.B.Board.nodes c.run.new.board) (g.B.Board.log c.run.new.board)) (g.B.Board.knows c.run.new.board) (g.B.Board.found c.run.new.board) (g.B.Board.told c.run.new.board) c.args.self.now.live.items c.run.new.self.opening.items (valuation_of c.run.new.self) c.args.cube c.args.budget c.in_ok-end.end e k (end_here _ (IsTheoryApart (g.B.Board.nodes c.args.board.now) (g.B.Board.log c.args.board.now) c.args.self.now c.args.search.now) c.args.search.now c.run.new.self (g.B.Board.nodes c.run.new.board) (g.B.Board.log c.run.new.board) (g.B.Board.knows c.run.new.board) (g.B.Board.found c.run.new.board) (g.B.Board.told c.run.new.board) (valuation_of c.run.new.self) c.args.given.now c.args.cube c.args.budget c.in_ok-end.end (λ h. apart_alone (g.B.Board.nodes c.args.board.now) (g.B.Board.log c.args.board.now) c.args.self.now.variables c.args.self.now.next c.args.search.now.opening.items c.args.search.now.from h) c.in_ok-end.ensures.given c.run.ensures.from c.run.ensures.opening c.in_ok-end.ensures.end))))
    c.in_ok-ended.ensures.still c.in_ok-ended.ensures.end

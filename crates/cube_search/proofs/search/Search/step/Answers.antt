use Rattle.std.proofs.Common.{List, ◌∙◌, refl, sym, ap, subst}
use Rattle.cnf_base.specs.Literals.{Literal}
use Rattle.proof_log.specs.Logs.{state_of}
use Rattle.cdcl_core.specs.declared.trail.Trail.{Trail}
use Rattle.cdcl_loop.specs.Engines.{IsAssumed}
use Rattle.cdcl_loop.specs.Values.{valuation}
use Rattle.cdcl_loop.proofs.Assuming.{none_of}
use Rattle.cube_search.specs.declared.search.Search.{Search}
use Rattle.cube_search.specs.Ends.{IsClosing, IsModel}
use Rattle.cube_search.specs.Running.{given_in, valuation_of}
use Rattle.cube_search.proofs.Models.{model_holds}
use Rattle.cube_search.proofs.Steps.{running_board, running_later, looked_now, looked_still, moved_running, moved_upto, end_from, models}
use Rattle.cube_search.proofs.search.Search.step.Goals as goal

pub settle-requires-clause-running : goal.settle-requires-clause-running
settle-requires-clause-running g c = moved_running c.args.self.now c.propagate.new.self c.propagate.ensures.task c.propagate.ensures.store (g.B.Board.nodes c.args.board.now) (g.B.Board.log c.args.board.now) c.propagate.ensures.engine (c.propagate.ensures.course c.requires.running.2) c.requires.running

pub returns-in-Some-clause-end : goal.returns-in-Some-clause-end
returns-in-Some-clause-end g c =
    end_from c.args.self.now c.propagate.new.self c.settle.new.self c.propagate.ensures.task (g.B.Board.nodes c.args.board.now) (g.B.Board.nodes c.settle.new.board) (g.B.Board.log c.args.board.now) (g.B.Board.log c.settle.new.board) (g.B.Board.knows c.args.board.now) (g.B.Board.knows c.settle.new.board) (g.B.Board.found c.settle.new.board) (g.B.Board.told c.settle.new.board) (valuation_of c.settle.new.self) c.args.cube c.args.budget c.settle.result
    (moved_upto c.args.self.now c.propagate.new.self c.propagate.ensures.task c.propagate.ensures.store (g.B.Board.nodes c.args.board.now) (g.B.Board.log c.args.board.now) (g.B.Board.knows c.args.board.now)) c.settle.ensures.end

pub close-requires-clause-running : goal.close-requires-clause-running
close-requires-clause-running g c = moved_running (record c.args.self.now { engine = c.propagate.new.self }) c.assume.new.self c.assume.ensures.task c.assume.ensures.store (g.B.Board.nodes c.args.board.now) (g.B.Board.log c.args.board.now) c.in_ok-clash.ensures.engine c.in_ok-clash.ensures.course (moved_running c.args.self.now c.propagate.new.self c.propagate.ensures.task c.propagate.ensures.store (g.B.Board.nodes c.args.board.now) (g.B.Board.log c.args.board.now) c.propagate.ensures.engine (c.propagate.ensures.course c.requires.running.2) c.requires.running)

pub returns-in-Some-2-clause-running : goal.returns-in-Some-2-clause-running
returns-in-Some-2-clause-running g c = running_later (record c.args.self.now { engine = c.assume.new.self }) (g.B.Board.nodes c.args.board.now) (g.B.Board.nodes c.close.new.board) (g.B.Board.log c.args.board.now) (g.B.Board.log c.close.new.board) (g.B.Board.knows c.args.board.now) (g.B.Board.knows c.close.new.board) c.in_ok-close.ensures.later (moved_running (record c.args.self.now { engine = c.propagate.new.self }) c.assume.new.self c.assume.ensures.task c.assume.ensures.store (g.B.Board.nodes c.args.board.now) (g.B.Board.log c.args.board.now) c.in_ok-clash.ensures.engine c.in_ok-clash.ensures.course (moved_running c.args.self.now c.propagate.new.self c.propagate.ensures.task c.propagate.ensures.store (g.B.Board.nodes c.args.board.now) (g.B.Board.log c.args.board.now) c.propagate.ensures.engine (c.propagate.ensures.course c.requires.running.2) c.requires.running))

pub returns-in-Some-2-clause-looked : goal.returns-in-Some-2-clause-looked
returns-in-Some-2-clause-looked g c =
    looked_still c.args.self.now (record c.args.self.now { engine = c.assume.new.self }) (g.B.Board.log c.args.board.now) (g.B.Board.told c.args.board.now) (g.B.Board.told c.close.new.board) c.in_ok-close.ensures.told refl
    (looked_now c.args.self.now (g.B.Board.nodes c.args.board.now) (g.B.Board.log c.args.board.now) (g.B.Board.told c.args.board.now) c.requires.told c.requires.running)

pub returns-in-Some-2-clause-end : goal.returns-in-Some-2-clause-end
returns-in-Some-2-clause-end g c =
    subst (λ (l : List Literal). IsClosing (state_of (g.B.Board.nodes c.close.new.board) (g.B.Board.log c.close.new.board)).clauses l c.in_ok-close.field-0)
    (ap (λ v. v.items) (c.assume.ensures.task.given ∙ c.propagate.ensures.task.given)) c.in_ok-close.ensures.closing

pub returns-in_err-clash-clause-later : goal.returns-in_err-clash-clause-later
returns-in_err-clash-clause-later g c = running_board c.args.self.now (g.B.Board.nodes c.args.board.now) (g.B.Board.log c.args.board.now) (g.B.Board.knows c.args.board.now) c.requires.running

pub returns-in_err-decide-clause-later : goal.returns-in_err-decide-clause-later
returns-in_err-decide-clause-later g c = running_board c.args.self.now (g.B.Board.nodes c.args.board.now) (g.B.Board.log c.args.board.now) (g.B.Board.knows c.args.board.now) c.requires.running

pub returns-then-branch-clause-later : goal.returns-then-branch-clause-later
returns-then-branch-clause-later g c = running_board c.args.self.now (g.B.Board.nodes c.args.board.now) (g.B.Board.log c.args.board.now) (g.B.Board.knows c.args.board.now) c.requires.running

pub returns-then-branch-clause-running : goal.returns-then-branch-clause-running
returns-then-branch-clause-running g c = moved_running (record c.args.self.now { engine = c.assume.new.self }) c.decide.new.self c.decide.ensures.task c.decide.ensures.store (g.B.Board.nodes c.args.board.now) (g.B.Board.log c.args.board.now) c.in_ok-decide.ensures.engine c.in_ok-decide.ensures.course (moved_running (record c.args.self.now { engine = c.propagate.new.self }) c.assume.new.self c.assume.ensures.task c.assume.ensures.store (g.B.Board.nodes c.args.board.now) (g.B.Board.log c.args.board.now) c.in_ok-clash.ensures.engine c.in_ok-clash.ensures.course (moved_running c.args.self.now c.propagate.new.self c.propagate.ensures.task c.propagate.ensures.store (g.B.Board.nodes c.args.board.now) (g.B.Board.log c.args.board.now) c.propagate.ensures.engine (c.propagate.ensures.course c.requires.running.2) c.requires.running))

pub returns-then-branch-clause-end : goal.returns-then-branch-clause-end
returns-then-branch-clause-end g c = λ h. moved_upto (record c.args.self.now { engine = c.assume.new.self }) c.decide.new.self c.decide.ensures.task c.decide.ensures.store (g.B.Board.nodes c.args.board.now) (g.B.Board.log c.args.board.now) (g.B.Board.knows c.args.board.now) (moved_upto (record c.args.self.now { engine = c.propagate.new.self }) c.assume.new.self c.assume.ensures.task c.assume.ensures.store (g.B.Board.nodes c.args.board.now) (g.B.Board.log c.args.board.now) (g.B.Board.knows c.args.board.now) (moved_upto c.args.self.now c.propagate.new.self c.propagate.ensures.task c.propagate.ensures.store (g.B.Board.nodes c.args.board.now) (g.B.Board.log c.args.board.now) (g.B.Board.knows c.args.board.now) h))

pub returns-clause-later : goal.returns-clause-later
returns-clause-later g c = running_board c.args.self.now (g.B.Board.nodes c.args.board.now) (g.B.Board.log c.args.board.now) (g.B.Board.knows c.args.board.now) c.requires.running

pub returns-clause-running : goal.returns-clause-running
returns-clause-running g c = moved_running (record c.args.self.now { engine = c.assume.new.self }) c.decide.new.self c.decide.ensures.task c.decide.ensures.store (g.B.Board.nodes c.args.board.now) (g.B.Board.log c.args.board.now) c.in_ok-decide.ensures.engine c.in_ok-decide.ensures.course (moved_running (record c.args.self.now { engine = c.propagate.new.self }) c.assume.new.self c.assume.ensures.task c.assume.ensures.store (g.B.Board.nodes c.args.board.now) (g.B.Board.log c.args.board.now) c.in_ok-clash.ensures.engine c.in_ok-clash.ensures.course (moved_running c.args.self.now c.propagate.new.self c.propagate.ensures.task c.propagate.ensures.store (g.B.Board.nodes c.args.board.now) (g.B.Board.log c.args.board.now) c.propagate.ensures.engine (c.propagate.ensures.course c.requires.running.2) c.requires.running))

pub returns-clause-end : goal.returns-clause-end
returns-clause-end g c =
    let s = c.args.self.now in
    let b : Search = record s { engine = c.assume.new.self } in
    let nodes = g.B.Board.nodes c.args.board.now in
    let log = g.B.Board.log c.args.board.now in
    let rows = (state_of nodes log).clauses in
    let none = c.in_ok-decide.ensures.none c.if-branch.false in
    let assumed = none_of _ c.in_ok-clash.field-0 c.in_default-2.not-Some c.in_ok-clash.ensures.clash in
    let run = moved_running (record s { engine = c.propagate.new.self }) c.assume.new.self c.assume.ensures.task c.assume.ensures.store nodes log c.in_ok-clash.ensures.engine c.in_ok-clash.ensures.course (moved_running s c.propagate.new.self c.propagate.ensures.task c.propagate.ensures.store nodes log c.propagate.ensures.engine (c.propagate.ensures.course c.requires.running.2) c.requires.running) in
    let given = ap (λ v. v.items) c.assume.ensures.task.given in
    subst (λ (t : Trail). IsModel rows s.opening.items (given_in s) (valuation t)) (sym none.1)
    (subst (λ (ls : List Literal). IsModel rows s.opening.items ls (valuation b.engine.trail)) (given ∙ ap (λ v. v.items) c.propagate.ensures.task.given)
    (model_holds b.engine.watches b.engine.trail rows b.engine.agenda.list s.opening.items s.taken.items b.engine.given.items run.0.settled run.1.holding
    (subst (IsAssumed b.engine.watches b.engine.trail) (sym given) assumed) none.2))

pub returns-then-branch-clause-looked : goal.returns-then-branch-clause-looked
returns-then-branch-clause-looked g c =
    looked_still c.args.self.now (record c.args.self.now { engine = c.decide.new.self }) (g.B.Board.log c.args.board.now) (g.B.Board.told c.args.board.now) (g.B.Board.told c.args.board.now) refl refl
    (looked_now c.args.self.now (g.B.Board.nodes c.args.board.now) (g.B.Board.log c.args.board.now) (g.B.Board.told c.args.board.now) c.requires.told c.requires.running)

pub returns-clause-looked : goal.returns-clause-looked
returns-clause-looked g c =
    looked_still c.args.self.now (record c.args.self.now { engine = c.decide.new.self }) (g.B.Board.log c.args.board.now) (g.B.Board.told c.args.board.now) (g.B.Board.told c.args.board.now) refl refl
    (looked_now c.args.self.now (g.B.Board.nodes c.args.board.now) (g.B.Board.log c.args.board.now) (g.B.Board.told c.args.board.now) c.requires.told c.requires.running)

pub returns-clause-model : goal.returns-clause-model
returns-clause-model g c = λ is h. moved_upto (record c.args.self.now { engine = c.assume.new.self }) c.decide.new.self c.decide.ensures.task c.decide.ensures.store (g.B.Board.nodes c.args.board.now) (g.B.Board.log c.args.board.now) (g.B.Board.knows c.args.board.now) (moved_upto (record c.args.self.now { engine = c.propagate.new.self }) c.assume.new.self c.assume.ensures.task c.assume.ensures.store (g.B.Board.nodes c.args.board.now) (g.B.Board.log c.args.board.now) (g.B.Board.knows c.args.board.now) (moved_upto c.args.self.now c.propagate.new.self c.propagate.ensures.task c.propagate.ensures.store (g.B.Board.nodes c.args.board.now) (g.B.Board.log c.args.board.now) (g.B.Board.knows c.args.board.now) h))

pub returns-in-Some-2-clause-model : goal.returns-in-Some-2-clause-model
returns-in-Some-2-clause-model g c = λ is. absurd is

pub returns-in-Some-clause-model : goal.returns-in-Some-clause-model
returns-in-Some-clause-model g c =
    models c.settle.result _ _ _
    (moved_upto c.args.self.now c.propagate.new.self c.propagate.ensures.task c.propagate.ensures.store (g.B.Board.nodes c.args.board.now) (g.B.Board.log c.args.board.now) (g.B.Board.knows c.args.board.now)) c.settle.ensures.model

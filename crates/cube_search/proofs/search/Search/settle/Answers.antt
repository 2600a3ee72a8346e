use Rattle.std.proofs.Common.{◌≡◌, ◌++◌, ◌∷◌, [], None, refl, sym, ap, ◌∙◌, subst, arith}
use Rattle.proof_log.specs.declared.board.Sync.{Sync}
use Rattle.proof_log.specs.declared.diary.DiaryLine.TheVariants.{Put}
use Rattle.std.proofs.lemmas.Bool.{MatchBool-at_false}
use Rattle.proof_log.proofs.Growth.{grows_same, later_then}
use Rattle.proof_log.specs.declared.entry.Entry.TheVariants as step
use Rattle.cdcl_core.specs.Search.{literals_of, level_of, clause_of}
use Rattle.cdcl_loop.specs.declared.engine.Engine.{Engine}
use Rattle.cube_search.specs.declared.search.Search.{Search}
use Rattle.cube_search.specs.Running.{variables_in}
use Rattle.cdcl_loop.proofs.Courses.{decides_given}
use Rattle.cdcl_loop.proofs.Trails.{levels_below}
use Rattle.cube_search.proofs.Later.{put_is_fresh}
use Rattle.cube_search.proofs.Steps.{running_later, looked_now, looked_still, looked_before, spent_diary, learnt_running, conflict_course, conflict_running, conflict_writing, own_later}
use Rattle.cube_search.proofs.search.Search.settle.Goals as goal

pub close-requires-clause-given : goal.close-requires-clause-given
close-requires-clause-given g c =
    let s = c.args.self.now in
    decides_given (literals_of s.engine.trail) (level_of s.engine.trail) s.engine.base s.engine.given.items (omega (arith, c.if-level-base.true, c.level.ensures, c.base.ensures)) (levels_below s.engine.watches s.engine.trail c.requires.running.0.settled) c.requires.running.2.0

pub returns-then-level-base-clause-running : goal.returns-then-level-base-clause-running
returns-then-level-base-clause-running g c = running_later c.args.self.now (g.B.Board.nodes c.args.board.now) (g.B.Board.nodes c.close.new.board) (g.B.Board.log c.args.board.now) (g.B.Board.log c.close.new.board) (g.B.Board.knows c.args.board.now) (g.B.Board.knows c.close.new.board) c.in_ok-close.ensures.later c.requires.running

pub returns-then-self-budget-clause-running : goal.returns-then-self-budget-clause-running
returns-then-self-budget-clause-running g c =
    learnt_running c.args.self.now c.learn.new.self c.learn.new.self c.in_ok-clause.ensures.same (g.B.Board.nodes c.learn.new.board) (g.B.Board.log c.learn.new.board)
    (running_later c.args.self.now (g.B.Board.nodes c.args.board.now) (g.B.Board.nodes c.learn.new.board) (g.B.Board.log c.args.board.now) (g.B.Board.log c.learn.new.board) (g.B.Board.knows c.args.board.now) (g.B.Board.knows c.learn.new.board) c.in_ok-clause.ensures.later c.requires.running)

pub returns-then-level-base-clause-looked : goal.returns-then-level-base-clause-looked
returns-then-level-base-clause-looked g c =
    looked_still c.args.self.now c.args.self.now (g.B.Board.log c.args.board.now) (g.B.Board.told c.args.board.now) (g.B.Board.told c.close.new.board) c.in_ok-close.ensures.told refl
    (looked_now c.args.self.now (g.B.Board.nodes c.args.board.now) (g.B.Board.log c.args.board.now) (g.B.Board.told c.args.board.now) c.requires.told c.requires.running)

pub returns-then-self-budget-clause-looked : goal.returns-then-self-budget-clause-looked
returns-then-self-budget-clause-looked g c =
    looked_still c.args.self.now c.learn.new.self (g.B.Board.log c.args.board.now) (g.B.Board.told c.args.board.now) (g.B.Board.told c.learn.new.board) c.in_ok-clause.ensures.told (ap (λ (x : Search). x.taken) c.in_ok-clause.ensures.same)
    (looked_now c.args.self.now (g.B.Board.nodes c.args.board.now) (g.B.Board.log c.args.board.now) (g.B.Board.told c.args.board.now) c.requires.told c.requires.running)

pub returns-then-branch-clause-looked : goal.returns-then-branch-clause-looked
returns-then-branch-clause-looked g c =
    looked_before c.take_news.new.self (g.B.Board.log c.args.board.now) (g.B.Board.log c.take_news.new.board) (g.B.Board.told c.take_news.new.board)
    (later_then (g.B.Board.nodes c.args.board.now) (g.B.Board.nodes c.learn.new.board) (g.B.Board.nodes c.take_news.new.board) (g.B.Board.log c.args.board.now) (g.B.Board.log c.learn.new.board) (g.B.Board.log c.take_news.new.board) (g.B.Board.knows c.args.board.now) (g.B.Board.knows c.learn.new.board) (g.B.Board.knows c.take_news.new.board) c.in_ok-clause.ensures.later c.take_news.ensures.later).grows
    (looked_now c.take_news.new.self (g.B.Board.nodes c.take_news.new.board) (g.B.Board.log c.take_news.new.board) (g.B.Board.told c.take_news.new.board) c.in_ok-take_news.ensures.told c.in_ok-take_news.ensures.running)

pub returns-clause-looked : goal.returns-clause-looked
returns-clause-looked g c =
    looked_before c.take_news.new.self (g.B.Board.log c.args.board.now) (g.B.Board.log c.take_news.new.board) (g.B.Board.told c.take_news.new.board)
    (later_then (g.B.Board.nodes c.args.board.now) (g.B.Board.nodes c.learn.new.board) (g.B.Board.nodes c.take_news.new.board) (g.B.Board.log c.args.board.now) (g.B.Board.log c.learn.new.board) (g.B.Board.log c.take_news.new.board) (g.B.Board.knows c.args.board.now) (g.B.Board.knows c.learn.new.board) (g.B.Board.knows c.take_news.new.board) c.in_ok-clause.ensures.later c.take_news.ensures.later).grows
    (looked_now c.take_news.new.self (g.B.Board.nodes c.take_news.new.board) (g.B.Board.log c.take_news.new.board) (g.B.Board.told c.take_news.new.board) c.in_ok-take_news.ensures.told c.in_ok-take_news.ensures.running)

pub returns-then-self-budget-clause-end : goal.returns-then-self-budget-clause-end
returns-then-self-budget-clause-end g c = (
  c.in_ok-finish.ensures.cube,
  (λ h.
      spent_diary c.args.self.now c.args.self.now (g.B.Board.nodes c.args.board.now) (g.B.Board.nodes c.learn.new.board) (g.B.Board.log c.args.board.now) (g.B.Board.log c.learn.new.board) (g.B.Board.knows c.args.board.now) (g.B.Board.knows c.learn.new.board) c.in_ok-clause.ensures.later c.in_ok-clause.clause c.in_ok-clause.level c.in_ok-clause.at c.requires.running (omega (arith, c.requires.running.2.0.lower)) c.in_ok-clause.ensures.learnt
      c.in_ok-finish.field-0 c.args.budget (g.B.Board.told c.learn.new.board) (ap (λ (t : Sync). t.upto) c.in_ok-clause.ensures.told ∙ c.requires.told) c.in_ok-clause.ensures.known
      (subst (λ (x : Search). x.diary.puts ≡ c.args.budget) c.in_ok-clause.ensures.same c.if-self-budget.true)
      (subst (λ (x : Search). c.in_ok-finish.field-0.start ≡ x.diary.start) c.in_ok-clause.ensures.same c.in_ok-finish.ensures.start)
      (subst (λ (x : Search). c.in_ok-finish.field-0.lines ≡ x.diary.lines.items ++ Put c.in_ok-clause.at ∷ []) c.in_ok-clause.ensures.same c.in_ok-finish.ensures.lines)
      h),
)

pub keep-requires-clause-fresh : goal.keep-requires-clause-fresh
keep-requires-clause-fresh g c =
    let s = c.args.self.now in
    subst (λ (x : Search). clause_of x.engine.watches (record { pos = c.in_ok-clause.at; part = 0 }) ≡ None) (sym c.in_ok-clause.ensures.same)
    (put_is_fresh s.engine.watches (variables_in s) s.opening.items s.taken.items s.from s.seen (g.B.Board.nodes c.args.board.now) (g.B.Board.log c.args.board.now) c.requires.running.1 (g.B.Board.log c.learn.new.board) (step.Chain c.in_ok-clause.clause c.in_ok-clause.ensures.learnt.hints) c.in_ok-clause.at c.in_ok-clause.ensures.learnt.put)

pub restart-requires-clause-course : goal.restart-requires-clause-course
restart-requires-clause-course g c = conflict_course c.args.self.now c.learn.new.self c.keep.new.self c.keep.new.self.engine (g.B.Board.nodes c.args.board.now) (g.B.Board.nodes c.learn.new.board) (g.B.Board.log c.args.board.now) (g.B.Board.log c.learn.new.board) (g.B.Board.knows c.args.board.now) (g.B.Board.knows c.learn.new.board) c.in_ok-clause.ensures.later c.in_ok-clause.clause c.in_ok-clause.level c.in_ok-clause.at c.requires.running (omega (arith, c.requires.running.2.0.lower)) c.in_ok-clause.ensures.learnt c.in_ok-clause.ensures.same c.in_ok-keep.ensures.run c.in_ok-keep.ensures.kept c.in_ok-keep.ensures.engine c.in_ok-keep.ensures.course

pub clean-requires : goal.clean-requires
clean-requires g c = record { running = conflict_running c.args.self.now c.learn.new.self c.keep.new.self c.restart.new.self (g.B.Board.nodes c.args.board.now) (g.B.Board.nodes c.learn.new.board) (g.B.Board.log c.args.board.now) (g.B.Board.log c.learn.new.board) (g.B.Board.knows c.args.board.now) (g.B.Board.knows c.learn.new.board) c.in_ok-clause.ensures.later c.in_ok-clause.clause c.in_ok-clause.level c.in_ok-clause.at c.requires.running (omega (arith, c.requires.running.2.0.lower)) c.in_ok-clause.ensures.learnt c.in_ok-clause.ensures.same c.in_ok-keep.ensures.run c.in_ok-keep.ensures.kept c.in_ok-keep.ensures.engine c.in_ok-keep.ensures.course (ap (λ (x : Engine). x.watches) c.restart.ensures.same) c.restart.ensures.task c.restart.ensures.engine c.restart.ensures.course }

pub returns-in_err-take_news-clause-later : goal.returns-in_err-take_news-clause-later
returns-in_err-take_news-clause-later g c = later_then (g.B.Board.nodes c.args.board.now) (g.B.Board.nodes c.learn.new.board) (g.B.Board.nodes c.take_news.new.board) (g.B.Board.log c.args.board.now) (g.B.Board.log c.learn.new.board) (g.B.Board.log c.take_news.new.board) (g.B.Board.knows c.args.board.now) (g.B.Board.knows c.learn.new.board) (g.B.Board.knows c.take_news.new.board) c.in_ok-clause.ensures.later c.take_news.ensures.later

pub returns-then-branch-clause-later : goal.returns-then-branch-clause-later
returns-then-branch-clause-later g c = later_then (g.B.Board.nodes c.args.board.now) (g.B.Board.nodes c.learn.new.board) (g.B.Board.nodes c.take_news.new.board) (g.B.Board.log c.args.board.now) (g.B.Board.log c.learn.new.board) (g.B.Board.log c.take_news.new.board) (g.B.Board.knows c.args.board.now) (g.B.Board.knows c.learn.new.board) (g.B.Board.knows c.take_news.new.board) c.in_ok-clause.ensures.later c.take_news.ensures.later

pub returns-clause-later : goal.returns-clause-later
returns-clause-later g c = later_then (g.B.Board.nodes c.args.board.now) (g.B.Board.nodes c.learn.new.board) (g.B.Board.nodes c.take_news.new.board) (g.B.Board.log c.args.board.now) (g.B.Board.log c.learn.new.board) (g.B.Board.log c.take_news.new.board) (g.B.Board.knows c.args.board.now) (g.B.Board.knows c.learn.new.board) (g.B.Board.knows c.take_news.new.board) c.in_ok-clause.ensures.later c.take_news.ensures.later

pub returns-clause-end : goal.returns-clause-end
returns-clause-end g c = λ h.
    let ready = conflict_writing c.args.self.now c.learn.new.self c.keep.new.self c.restart.new.self (g.B.Board.nodes c.args.board.now) (g.B.Board.nodes c.learn.new.board) (g.B.Board.log c.args.board.now) (g.B.Board.log c.learn.new.board) (g.B.Board.knows c.args.board.now) (g.B.Board.knows c.learn.new.board) c.in_ok-clause.ensures.later c.in_ok-clause.clause c.in_ok-clause.level c.in_ok-clause.at c.requires.running (omega (arith, c.requires.running.2.0.lower)) c.in_ok-clause.ensures.learnt c.in_ok-clause.ensures.same c.in_ok-keep.ensures.run c.in_ok-keep.ensures.kept c.in_ok-keep.ensures.engine c.in_ok-keep.ensures.course (ap (λ (x : Engine). x.watches) c.restart.ensures.same) c.restart.ensures.task h.0 in
    MatchBool-at_false _ _ c.if-branch.false c.in_ok-take_news.ensures.news
    (c.in_ok-clean.ensures.writing ready.0, own_later (record c.keep.new.self { engine = c.restart.new.self }) c.clean.new.self (g.B.Board.log c.learn.new.board) (g.B.Board.log c.learn.new.board) c.in_ok-clean.ensures.run (grows_same (g.B.Board.log c.learn.new.board)) ready.1)

pub returns-then-level-base-clause-model : goal.returns-then-level-base-clause-model
returns-then-level-base-clause-model g c = λ is. absurd is

pub returns-then-self-budget-clause-model : goal.returns-then-self-budget-clause-model
returns-then-self-budget-clause-model g c = λ is. absurd is

pub returns-then-branch-clause-model : goal.returns-then-branch-clause-model
returns-then-branch-clause-model g c = λ is. absurd is

use Rattle.std.proofs.Common.{◌+◌, true, false, sym, ap, ◌∙◌, subst, arith}
use Rattle.cdcl_core.specs.Search.{clause_of, held_of}
use Rattle.cdcl_loop.specs.declared.engine.Engine.{Engine}
use Rattle.cdcl_loop.proofs.Assuming.{none_of}
use Rattle.dimacs_search.specs.Solving.{HasCause}
use Rattle.dimacs_search.specs.Searching.{at_number}
use Rattle.dimacs_search.proofs.Telling.{read_first, read_fresh, telling_first, telling_put, telling_written, telling_more, telling_same, telling_adds, telling_refuted, adds_then, cause_later, err_more}
use Rattle.dimacs_search.proofs.Holding.{searching_on, searching_kept}
use Rattle.dimacs_search.proofs.Models.{model_holds}
use Rattle.dimacs_search.proofs.solving.solve_counting.Goals as goal

pub conflicts-init : goal.conflicts-init
conflicts-init g c =
    let cnf = c.args.cnf in
    let w = c.in_ok-engine.engine.watches in
    record {
      low = omega (arith, c.in_ok-first.ensures, c.len.ensures);
      searching = c.in_ok-engine.ensures.searching;
      telling = telling_first cnf (clause_of w) c.in_ok-first.first (g.W.Sink.written c.args.refutation.now) _ c.new-lines.ensures
          (read_first cnf w c.in_ok-first.first (omega (arith, c.in_ok-first.ensures, c.len.ensures)) c.requires (omega (arith, c.variables-variables.ensures)) c.in_ok-engine.ensures.only);
      rare = omega (arith, c.new-rare.ensures, c.in_ok-first.ensures, c.len.ensures);
      later = omega arith;
    }

pub returns-in_default-clause-end : goal.returns-in_default-clause-end
returns-in_default-clause-end g c =
    let e = c.next_conflict.new.engine in
    let p = c.put_unit.new.engine in
    let put = c.in_ok-put_unit.ensures in
    let s0 = searching_on c.args.cnf c.conflicts.engine p c.conflicts.invariant.searching put.engine (put.course c.conflicts.invariant.searching.course) put.task (λ i d lt x. put.held (at_number (i + 1)) d x) in
    let s = searching_on c.args.cnf p e s0 c.in_ok-conflict.ensures.engine c.in_ok-conflict.ensures.course c.next_conflict.ensures.task (λ i d lt h. c.next_conflict.ensures.store.held (at_number (i + 1)) ∙ h) in
    let k = none_of _ c.in_ok-conflict.field-0 c.in_default.not-Some c.in_ok-conflict.ensures.end in
    model_holds e.watches e.trail c.args.cnf e.agenda.list c.in_ok-values.values.items s.engine.settled k.0 s.held s.listed k.1 c.requires
    (c.in_ok-values.ensures.count ∙ c.variables-variables.ensures) (λ x low le. c.in_ok-values.ensures.values x low (omega (arith, le, c.variables-variables.ensures)))

pub learn-requires-clause-fresh : goal.learn-requires-clause-fresh
learn-requires-clause-fresh g c =
    let p = c.put_unit.new.engine in
    let t0 = telling_put c.args.cnf (clause_of c.conflicts.engine.watches) (clause_of p.watches) c.conflicts.number _ _ c.conflicts.lines c.put_unit.new.lines c.in_ok-put_unit.field-0 false c.if-branch.false c.conflicts.invariant.telling (λ told r. c.in_ok-put_unit.ensures.read c.args.cnf told r) in
    λ id le. c.next_conflict.ensures.store.kept id ∙ read_fresh c.args.cnf p.watches c.conflicts.number _ t0.read id le

pub learn-requires-clause-above : goal.learn-requires-clause-above
learn-requires-clause-above g c = omega (arith, c.if-level-base.false, c.level.ensures, c.base.ensures, c.in_ok-conflict.ensures.course.0.lower)

pub restart-requires-clause-course : goal.restart-requires-clause-course
restart-requires-clause-course g c = c.in_ok-learn.ensures.course c.in_ok-conflict.ensures.course

pub returns-then-level-base-clause-end : goal.returns-then-level-base-clause-end
returns-then-level-base-clause-end g c =
    let e = c.next_conflict.new.engine in
    let p = c.put_unit.new.engine in
    let t0 = telling_put c.args.cnf (clause_of c.conflicts.engine.watches) (clause_of p.watches) c.conflicts.number _ _ c.conflicts.lines c.put_unit.new.lines c.in_ok-put_unit.field-0 false c.if-branch.false c.conflicts.invariant.telling (λ told r. c.in_ok-put_unit.ensures.read c.args.cnf told r) in
    let t = telling_same c.args.cnf (clause_of p.watches) (clause_of e.watches) c.conflicts.number _ _ c.put_unit.new.lines c.next_conflict.ensures.store.kept t0 in
    telling_refuted c.args.cnf (clause_of e.watches) c.conflicts.number _ _ _ c.put_unit.new.lines c.close.new.lines t (c.in_ok-close.ensures c.args.cnf t.told t.read) c.in_ok-write_lines.ensures.told.0

pub put_unit-requires-clause-fresh : goal.put_unit-requires-clause-fresh
put_unit-requires-clause-fresh g c = λ id le. read_fresh c.args.cnf c.conflicts.engine.watches c.conflicts.number _ c.conflicts.invariant.telling.read id le

pub conflicts-preserved-then-branch : goal.conflicts-preserved-then-branch
conflicts-preserved-then-branch g c =
    let p = c.put_unit.new.engine in
    let put = c.in_ok-put_unit.ensures in
    let s0 = searching_on c.args.cnf c.conflicts.engine p c.conflicts.invariant.searching put.engine (put.course c.conflicts.invariant.searching.course) put.task (λ i d lt x. put.held (at_number (i + 1)) d x) in
    let t1 = telling_put c.args.cnf (clause_of c.conflicts.engine.watches) (clause_of p.watches) c.conflicts.number _ _ c.conflicts.lines c.put_unit.new.lines c.in_ok-put_unit.field-0 true c.if-branch.true c.conflicts.invariant.telling (λ told r. c.in_ok-put_unit.ensures.read c.args.cnf told r) in
    let wrote = c.in_ok-write_piece.ensures.told in
    record {
      low = omega (arith, c.conflicts.invariant.low);
      searching = s0;
      telling = telling_written c.args.cnf (clause_of p.watches) (c.conflicts.number + 1) _ _ _ c.put_unit.new.lines wrote.0 _ t1 wrote.1 wrote.2;
      rare = c.conflicts.invariant.rare;
      later = omega (arith, c.conflicts.invariant.later, c.write_piece.ensures.later);
    }

pub conflicts-preserved : goal.conflicts-preserved
conflicts-preserved g c =
    let cnf = c.args.cnf in
    let e = c.next_conflict.new.engine in
    let f = c.learn.new.engine in
    let h = c.restart.new.self in
    let k = c.look.new.engine in
    let inv = c.conflicts.invariant in
    let p = c.put_unit.new.engine in
    let put = c.in_ok-put_unit.ensures in
    let s0 = searching_on c.args.cnf c.conflicts.engine p c.conflicts.invariant.searching put.engine (put.course c.conflicts.invariant.searching.course) put.task (λ i d lt x. put.held (at_number (i + 1)) d x) in
    let t0 = telling_put c.args.cnf (clause_of c.conflicts.engine.watches) (clause_of p.watches) c.conflicts.number _ _ c.conflicts.lines c.put_unit.new.lines c.in_ok-put_unit.field-0 false c.if-branch.false c.conflicts.invariant.telling (λ told r. c.in_ok-put_unit.ensures.read c.args.cnf told r) in
    let s = searching_on cnf p e s0 c.in_ok-conflict.ensures.engine c.in_ok-conflict.ensures.course c.next_conflict.ensures.task (λ i d lt x. c.next_conflict.ensures.store.held (at_number (i + 1)) ∙ x) in
    let s2 = searching_on cnf e f s c.in_ok-learn.ensures.engine (c.in_ok-learn.ensures.course s.course) c.in_ok-learn.ensures.task (λ i d lt x. c.in_ok-learn.ensures.held (at_number (i + 1)) d x) in
    let s3 = searching_on cnf f h s2 c.restart.ensures.engine c.restart.ensures.course c.restart.ensures.task (λ i d lt x. ap (λ (y : Engine). held_of y.watches (at_number (i + 1))) c.restart.ensures.same ∙ x) in
    let t = telling_same cnf (clause_of p.watches) (clause_of e.watches) c.conflicts.number _ _ c.put_unit.new.lines c.next_conflict.ensures.store.kept t0 in
    let t2 = telling_more cnf (clause_of e.watches) (clause_of f.watches) c.conflicts.number (c.conflicts.number + 1) _ _ c.put_unit.new.lines c.learn.new.lines t (λ told r. c.in_ok-learn.ensures.read cnf told r) in
    let t3 = telling_same cnf (clause_of f.watches) (clause_of k.watches) (c.conflicts.number + 1) _ _ c.learn.new.lines (λ id. c.in_ok-look.ensures.keeping.kept id ∙ ap (λ (y : Engine). clause_of y.watches id) c.restart.ensures.same) t2 in
    let wrote = c.in_ok-write_piece-2.ensures.told in
    record {
      low = omega (arith, inv.low);
      searching = searching_kept cnf c.conflicts.rare.first h k inv.rare s3 c.in_ok-look.ensures.engine (c.in_ok-look.ensures.course s3.course) c.look.ensures.task c.in_ok-look.ensures.keeping;
      telling = telling_written cnf (clause_of k.watches) (c.conflicts.number + 1) _ _ _ c.learn.new.lines wrote.0 _ t3 wrote.1 wrote.2;
      rare = c.look.ensures.first ∙ inv.rare;
      later = omega (arith, inv.later, c.write_piece-in-conflicts.ensures.later);
    }

pub returns-in_err-write_lines-clause-added : goal.returns-in_err-write_lines-clause-added
returns-in_err-write_lines-clause-added g c = adds_then _ _ _ (telling_adds c.args.cnf _ _ _ _ _ c.conflicts.invariant.telling) c.in_err-write_lines.ensures.told

pub returns-in_err-write_lines-clause-cause : goal.returns-in_err-write_lines-clause-cause
returns-in_err-write_lines-clause-cause g c = err_more c.from_residual-in_err-write_lines.result _ _ (λ f same. subst (HasCause (g.W.Sink.faults c.args.refutation.now) (g.W.Sink.faults c.write_lines.new.sink)) (sym same) (cause_later _ _ _ c.in_err-write_lines.field-0.0 c.conflicts.invariant.later c.in_err-write_lines.ensures.cause)) c.from_residual-in_err-write_lines.ensures.1

pub returns-then-level-base-clause-added : goal.returns-then-level-base-clause-added
returns-then-level-base-clause-added g c = adds_then _ _ _ (telling_adds c.args.cnf _ _ _ _ _ c.conflicts.invariant.telling) (c.close.new.lines, c.in_ok-write_lines.ensures.told.0)

pub returns-in_err-write_piece-clause-added : goal.returns-in_err-write_piece-clause-added
returns-in_err-write_piece-clause-added g c = adds_then _ _ _ (telling_adds c.args.cnf _ _ _ _ _ c.conflicts.invariant.telling) c.in_err-write_piece.ensures.told

pub returns-in_err-write_piece-clause-cause : goal.returns-in_err-write_piece-clause-cause
returns-in_err-write_piece-clause-cause g c = err_more c.from_residual-in_err-write_piece.result _ _ (λ f same. subst (HasCause (g.W.Sink.faults c.args.refutation.now) (g.W.Sink.faults c.write_piece.new.sink)) (sym same) (cause_later _ _ _ c.in_err-write_piece.field-0.0 c.conflicts.invariant.later c.in_err-write_piece.ensures.cause)) c.from_residual-in_err-write_piece.ensures.1

pub returns-in_default-clause-effort : goal.returns-in_default-clause-effort
returns-in_default-clause-effort g c =
    let e = c.next_conflict.new.engine in
    let p = c.put_unit.new.engine in
    let put = c.in_ok-put_unit.ensures in
    let s0 = searching_on c.args.cnf c.conflicts.engine p c.conflicts.invariant.searching put.engine (put.course c.conflicts.invariant.searching.course) put.task (λ i d lt x. put.held (at_number (i + 1)) d x) in
    (e, searching_on c.args.cnf p e s0 c.in_ok-conflict.ensures.engine c.in_ok-conflict.ensures.course c.next_conflict.ensures.task (λ i d lt h. c.next_conflict.ensures.store.held (at_number (i + 1)) ∙ h), sym c.effort.ensures)

pub returns-then-level-base-clause-effort : goal.returns-then-level-base-clause-effort
returns-then-level-base-clause-effort g c =
    let e = c.next_conflict.new.engine in
    let p = c.put_unit.new.engine in
    let put = c.in_ok-put_unit.ensures in
    let s0 = searching_on c.args.cnf c.conflicts.engine p c.conflicts.invariant.searching put.engine (put.course c.conflicts.invariant.searching.course) put.task (λ i d lt x. put.held (at_number (i + 1)) d x) in
    (e, searching_on c.args.cnf p e s0 c.in_ok-conflict.ensures.engine c.in_ok-conflict.ensures.course c.next_conflict.ensures.task (λ i d lt h. c.next_conflict.ensures.store.held (at_number (i + 1)) ∙ h), sym c.effort-then-level-base.ensures)

pub returns-in_err-write_piece-2-clause-added : goal.returns-in_err-write_piece-2-clause-added
returns-in_err-write_piece-2-clause-added g c = adds_then _ _ _ (telling_adds c.args.cnf _ _ _ _ _ c.conflicts.invariant.telling) c.in_err-write_piece-2.ensures.told

pub returns-in_err-write_piece-2-clause-cause : goal.returns-in_err-write_piece-2-clause-cause
returns-in_err-write_piece-2-clause-cause g c = err_more c.from_residual-in_err-write_piece-2.result _ _ (λ f same. subst (HasCause (g.W.Sink.faults c.args.refutation.now) (g.W.Sink.faults c.write_piece-in-conflicts.new.sink)) (sym same) (cause_later _ _ _ c.in_err-write_piece-2.field-0.0 c.conflicts.invariant.later c.in_err-write_piece-2.ensures.cause)) c.from_residual-in_err-write_piece-2.ensures.1

use Rattle.std.proofs.Common.{◌≡◌, ◌+◌, ◌++◌, refl, ap, ◌∙◌, sym, subst, arith, append_assoc}
use Rattle.cdcl_core.specs.declared.watches.Watches.{Watches}
use Rattle.cdcl_core.specs.Search.{clause_of}
use Rattle.cdcl_loop.specs.declared.engine.Engine.{Engine}
use Rattle.cdcl_loop.specs.Engines.{IsOnCourse, IsSameBut}
use Rattle.dimacs_search.specs.Writing.{added_text}
use Rattle.dimacs_search.specs.Searching.{at_number, IsRead}
use Rattle.dimacs_search.proofs.Pushing.{ok_more, ok_always}
use Rattle.dimacs_search.proofs.Telling.{read_more, learnt_of}
use Rattle.dimacs_search.proofs.Holding.{more_by, held_still, task_choices}
use Rattle.dimacs_search.proofs.learning.learn.Goals as goal

pub keep-requires-clause-fresh : goal.keep-requires-clause-fresh
keep-requires-clause-fresh c =
    ap (λ (e : Engine). clause_of e.watches (at_number c.args.number)) c.in_ok-clause.ensures.same ∙ c.requires.fresh (at_number c.args.number) (omega arith)

pub returns-clause-task : goal.returns-clause-task
returns-clause-task c = ok_always c.keep.result _ (task_choices _ _ _ c.in_ok-clause.ensures.same c.keep.ensures.task)

pub returns-clause-course : goal.returns-clause-course
returns-clause-course c = ok_more c.keep.result _ _ (λ f h. f (subst IsOnCourse (sym c.in_ok-clause.ensures.same) h)) c.keep.ensures.course

pub returns-clause-held : goal.returns-clause-held
returns-clause-held c =
    let w : Watches = c.args.engine.now.watches in
    let same : c.learn.new.self.watches ≡ w = ap (λ (e : Engine). e.watches) c.in_ok-clause.ensures.same in
    let others : IsSameBut (at_number c.args.number) w c.keep.new.self.watches = subst (λ v. IsSameBut (at_number c.args.number) v c.keep.new.self.watches) same c.keep.ensures.others in
    ok_always c.keep.result _ (held_still w c.keep.new.self.watches c.args.number (c.requires.fresh (at_number c.args.number) (omega arith)) others)

pub returns-clause-read : goal.returns-clause-read
returns-clause-read c =
    let w : Watches = c.args.engine.now.watches in
    let n = c.args.number in
    let clause = c.in_ok-clause.clause in
    let hints = c.in_ok-clause.hints.items in
    let same : c.learn.new.self.watches ≡ w = ap (λ (e : Engine). e.watches) c.in_ok-clause.ensures.same in
    let others : IsSameBut (at_number n) w c.keep.new.self.watches = subst (λ v. IsSameBut (at_number n) v c.keep.new.self.watches) same c.keep.ensures.others in
    ok_more c.keep.result _ _
    (λ kept cnf told r.
    let among = learnt_of cnf (clause_of w) n (told ++ c.args.lines.now) clause hints r c.in_ok-clause.ensures.good.stands in
    let read = read_more cnf (clause_of w) (clause_of c.keep.new.self.watches) n (told ++ c.args.lines.now) clause hints r c.in_ok-clause.ensures.chain among c.requires.number (more_by w c.keep.new.self.watches n clause kept others) in
    let pushed : c.push_added.new.out ≡ c.args.lines.now ++ added_text n clause hints = c.in_ok-push_added.ensures ∙ rw (c.literals.ensures, c.as_slice.ensures.value) refl in
    subst (IsRead cnf (clause_of c.keep.new.self.watches) (n + 1))
    (append_assoc told c.args.lines.now (added_text n clause hints) ∙ ap (λ x. told ++ x) (sym pushed)) read)
    c.keep.ensures.kept

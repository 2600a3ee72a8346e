use Rattle.std.proofs.Common.{List, refl, sym, ap, ◌∙◌, subst}
use Rattle.cnf_base.specs.Literals.{Literal}
use Rattle.cnf_base.specs.Assignments.{AreBelow}
use Rattle.proof_log.specs.Logs.{state_of}
use Rattle.cube_search.proofs.Moving.{search_moved, kept_moved}
use Rattle.cube_search.proofs.search.Search.begin_again.Goals as goal

pub returns-clause-given : goal.returns-clause-given
returns-clause-given c = ap (λ v. v.items) c.begin.ensures.given ∙ c.in_ok-given.ensures.items

pub returns-clause-running : goal.returns-clause-running
returns-clause-running c = λ nodes log search below.
    let s = c.args.self.now in
    let n = c.begin.new.self in (
      c.begin.ensures.engine,
      search_moved s.engine.watches n.watches s.engine.agenda.list n.agenda.list s.opening.items s.opening.items s.taken.items s.taken.items s.from s.from s.seen s.seen nodes log c.begin.ensures.watches c.begin.ensures.listed refl refl refl refl search.1,
      c.begin.ensures.course,
      subst (λ (l : List Literal). AreBelow (state_of nodes log).next l) (sym (ap (λ v. v.items) c.begin.ensures.given ∙ c.in_ok-given.ensures.items)) below,
    )

pub returns-clause-writing : goal.returns-clause-writing
returns-clause-writing c = λ nodes log same w.
    let s = c.args.self.now in
    let n = c.begin.new.self in
    kept_moved nodes log s.engine.given.items n.given.items s.from s.from s.engine.watches n.watches s.engine.agenda.list n.agenda.list s.diary s.seen s.seen (ap (λ v. v.items) c.begin.ensures.given ∙ c.in_ok-given.ensures.items ∙ sym same) refl c.begin.ensures.watches c.begin.ensures.listed refl w

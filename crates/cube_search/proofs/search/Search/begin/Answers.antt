use Rattle.std.proofs.Common.{ℕ, List, refl, sym, ap, ◌∙◌, subst}
use Rattle.cnf_base.specs.Literals.{Literal}
use Rattle.cnf_base.specs.Assignments.{AreBelow}
use Rattle.proof_log.specs.Logs.{state_of}
use Rattle.proof_log.specs.Diaries.{Subject}
use Rattle.cdcl_core.specs.Search.{clause_of}
use Rattle.cube_search.specs.Holding.{AreLeft}
use Rattle.cube_search.specs.Keeping.{NotesTaken, NotesAdded}
use Rattle.cube_search.specs.Running.{IsSearchOf}
use Rattle.cube_search.proofs.Moving.{search_moved, search_left}
use Rattle.cube_search.proofs.Beginning.{noting_start, begun}
use Rattle.cube_search.proofs.search.Search.begin.Goals as goal

pub returns-clause-given : goal.returns-clause-given
returns-clause-given c = ap (λ v. v.items) c.begin.ensures.given ∙ c.in_ok-given.ensures.items

pub returns-clause-running : goal.returns-clause-running
returns-clause-running c = λ nodes log search below.
    let s = c.args.self.now in
    let n = c.begin.new.self in
    let left : AreLeft (clause_of n.watches) s.taken.items c.in_ok-self.field-0.items =
    subst (λ (ps : List ℕ). AreLeft (clause_of n.watches) ps c.in_ok-self.field-0.items) c.as_slice-2.ensures.value c.in_ok-self.ensures.left in
    let given = ap (λ v. v.items) c.begin.ensures.given ∙ c.in_ok-given.ensures.items in (
      c.begin.ensures.engine,
      search_left n.watches n.agenda.list s.opening.items s.taken.items c.in_ok-self.field-0.items s.from s.seen nodes log left
          (search_moved s.engine.watches n.watches s.engine.agenda.list n.agenda.list s.opening.items s.opening.items s.taken.items s.taken.items s.from s.from s.seen s.seen nodes log c.begin.ensures.watches c.begin.ensures.listed refl refl refl refl search.1),
      c.begin.ensures.course,
      subst (λ (l : List Literal). AreBelow (state_of nodes log).next l) (sym given) below,
    )

pub returns-clause-writing : goal.returns-clause-writing
returns-clause-writing c = λ nodes log search separate.
    let s = c.args.self.now in
    let n = c.begin.new.self in
    let moved : IsSearchOf n.watches n.agenda.list s.opening.items s.taken.items s.from s.seen nodes log =
    search_moved s.engine.watches n.watches s.engine.agenda.list n.agenda.list s.opening.items s.opening.items s.taken.items s.taken.items s.from s.from s.seen s.seen nodes log c.begin.ensures.watches c.begin.ensures.listed refl refl refl refl search.1 in
    let g : Subject = record { nodes = nodes; log = log; given = n.given.items; from = s.from } in
    let start = noting_start g n.watches n.agenda.list c.new-diary.result c.new-diary.ensures.lines c.new-diary.ensures.puts c.new-diary.ensures.chains c.new-diary.ensures.left in
    let added = subst (λ (ps : List ℕ). NotesAdded n.watches ps c.new-diary.result c.note_added.new.diary s.from) c.as_slice.ensures.value (c.in_ok-note_added.ensures n.watches) nodes log n.given.items n.agenda.list s.opening.items s.taken.items s.seen (λ p k. k) moved.holding moved.placed start in
    let noted = subst (λ (ps : List ℕ). NotesTaken n.watches ps ps c.note_added.new.diary c.note_taken.new.diary) c.as_slice-2.ensures.value c.in_ok-self.ensures.noted nodes log n.given.items s.from n.agenda.list s.opening.items s.seen moved.holding moved.placed added.0.noting in
    begun g n.watches n.agenda.list s.opening.items s.taken.items c.note_taken.new.diary s.seen moved.holding moved.placed noted.0.noting
    (noted.0.start ∙ added.0.start ∙ c.new-diary.ensures.start) noted.1 (λ p k ge. noted.0.kept p (added.1 p k ge)) separate

use Rattle.std.proofs.Common.{◌≡◌, ◌++◌, [], refl, ap, ◌∙◌, sym, append_assoc}
use Rattle.cdcl_core.specs.Search.{literals_of, level_of, clause_of}
use Rattle.cdcl_loop.proofs.Courses.{decides_given}
use Rattle.cdcl_loop.proofs.Trails.{levels_below}
use Rattle.dimacs_front.specs.Lrat.{lrat_of}
use Rattle.dimacs_search.specs.Writing.{added_text}
use Rattle.dimacs_search.proofs.Pushing.{ok_more}
use Rattle.dimacs_search.proofs.Telling.{read_refutes, against_none}
use Rattle.dimacs_search.proofs.learning.close.Goals as goal

pub returns : goal.returns
returns c =
    let e = c.args.engine.now in
    let n = c.args.number in
    let clause = c.in_ok-clause.clause in
    let hints = c.in_ok-clause.hints.items in
    let only = decides_given (literals_of e.trail) (level_of e.trail) e.base e.given.items (sym c.requires.base) (levels_below e.watches e.trail c.requires.engine.settled) c.requires.course.0 in
    let none : clause ≡ [] = against_none e.given.items clause c.requires.free (c.in_ok-clause.ensures.against e.given.items only) in
    ok_more c.push_added.result _ _
    (λ pushed cnf told r.
    ap (λ x. lrat_of cnf (told ++ x)) (pushed ∙ rw (c.literals.ensures, c.as_slice.ensures.value) refl)
    ∙ ap (lrat_of cnf) (sym (append_assoc told c.args.lines.now (added_text n clause hints)))
    ∙ read_refutes cnf (clause_of e.watches) n (told ++ c.args.lines.now) clause hints r c.in_ok-clause.ensures.chain none c.requires.number)
    c.push_added.ensures

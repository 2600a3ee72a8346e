use Rattle.theory_cubes.proofs.Cubes.{closing_over, have_clauses, joined, lowest_found}
use Rattle.theory_cubes.proofs.tried.Tried.conclude.Goals as goal

pub join-requires-clause-clauses : goal.join-requires-clause-clauses
join-requires-clause-clauses c =
    let t = c.requires.tried in
    have_clauses _ t.0.assumed c.args.tree.now c.as_slice.result.now
    (closing_over t.0 c.args.terms.now.nodes c.args.log.now _ c.args.tree.now c.args.self.closed.items c.as_slice.result.now c.args.self.spent t.1 t.2 c.as_slice.ensures.value c.requires.stands c.in_default.is t.3)

pub returns-clause-found : goal.returns-clause-found
returns-clause-found c = λ p nodes variables tried.
    joined p c.args.terms.now.nodes c.join.new.log c.in_ok-at.at nodes c.in_ok-at.ensures.stands
    (c.in_ok-at.ensures.closes p.assumed
    (closing_over p c.args.terms.now.nodes c.args.log.now _ c.args.tree.now c.args.self.closed.items c.as_slice.result.now c.args.self.spent nodes variables c.as_slice.ensures.value c.requires.stands c.in_default.is tried))

pub returns-in-Some-clause-found : goal.returns-in-Some-clause-found
returns-in-Some-clause-found c = λ p nodes variables tried. lowest_found p c.args.log.now.entries c.args.tree.now c.args.self.closed.items c.args.self.spent c.in-Some.diary variables c.in-Some.is tried

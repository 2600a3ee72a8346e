use Rattle.std.proofs.Common.{refl}
use Rattle.theory_client.proofs.Cubed.{problem_posed, enough_posed, posed_apart}
use Rattle.theory_client.proofs.cubes.solved.Goals as goal

pub solve-requires-clause-problem : goal.solve-requires-clause-problem
solve-requires-clause-problem c =
    problem_posed _ c.args.log c.args.roots.now c.args.variables.now _ _ c.requires.stands c.requires.posed refl c.as_slice.ensures.value c.as_slice-2.ensures.value c.in_ok-tree.ensures c.requires.lower

pub solve-requires-clause-enough : goal.solve-requires-clause-enough
solve-requires-clause-enough c = enough_posed c.args.terms.now.nodes c.args.log.entries c.args.roots.now _ _ _ c.as_slice.ensures.value c.requires.posed

pub solve-requires-clause-apart : goal.solve-requires-clause-apart
solve-requires-clause-apart c = posed_apart c.args.terms.now.nodes c.args.log.entries c.args.roots.now _ _ _ c.as_slice.ensures.value c.requires.posed

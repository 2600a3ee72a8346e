use Rattle.std.proofs.Common.{sym, subst}
use Rattle.proof_log.specs.Stored.{LogValue}
use Rattle.proof_log.specs.LemmaBoards.{Adds}
use Rattle.theory_cubes.specs.Searched.{AreApart}
use Rattle.smt_session.proofs.Resting.{all_added}
use Rattle.smt_session.proofs.searching.search_theories.Goals as goal

pub solve-requires-clause-apart : goal.solve-requires-clause-apart
solve-requires-clause-apart c = subst (λ (l : LogValue). AreApart c.args.terms.now.nodes l.entries c.args.check.now.live.now c.args.check.now.positions.now) (sym c.replace-log.ensures.value) c.requires.apart

pub returns-in-Ok-clause-resting : goal.returns-in-Ok-clause-resting
returns-in-Ok-clause-resting c =
    all_added c.args.terms.now.nodes c.args.workspace.now.log c.in-Ok.log c.args.workspace.now.searches.items c.args.by (record { search = c.solve.new.search; made = c.index_mut.result.now.made }) c.requires.stands c.in-Ok.ensures.stands
    (subst (λ (l : LogValue). Adds l.entries c.in-Ok.log.entries) c.replace-log.ensures.value c.in-Ok.ensures.adds) c.requires.resting c.in-Ok.ensures.resting

use Rattle.std.proofs.Common.{ap, subst, Ok, Err}
use Rattle.smt_build.specs.Parameters.{Parameters}
use Rattle.smt_build.specs.Building.{Builds}
use Rattle.smt_build.specs.Terms.{term_over}
use Rattle.smt_build.proofs.Growth.{cut_back, grows_same}
use Rattle.smt_build.proofs.Spellings.{at_span}
use Rattle.smt_build.proofs.Stepping.{reads_ok, builds_error}
use Rattle.smt_build.proofs.elaborate.term_over.Goals as goal

pub returns-in-Ok-clause-term : goal.returns-in-Ok-clause-term
unfolding term_over
returns-in-Ok-clause-term c = λ e h.
    subst (λ (ps : Parameters). Builds (term_over c.args.symbols.now c.args.terms.now ps e) (Ok c.in-Ok.term) c.args.terms.now c.read_term.new.terms) (ap (λ s. s.parameters) c.scope_over-scope.ensures)
    (reads_ok _ _ _ (c.in-Ok.ensures.reads e (at_span _ _ _ _ e c.as_slice.ensures c.tokens_at-items.ensures h)))

pub returns-clause-term : goal.returns-clause-term
unfolding term_over
returns-clause-term c = λ e h.
    subst (λ (ps : Parameters). Builds (term_over c.args.symbols.now c.args.terms.now ps e) (Err c.in-Err.error) c.args.terms.now c.cut.new.self) (ap (λ s. s.parameters) c.scope_over-scope.ensures)
    (builds_error _ _ _ _ _ (c.in-Err.ensures.reads e (at_span _ _ _ _ e c.as_slice.ensures c.tokens_at-items.ensures h)) (cut_back _ _ _ _ _ c.in-Err.ensures.grows c.len-len.ensures.length c.cut.ensures))

pub returns-clause-err : goal.returns-clause-err
returns-clause-err c = cut_back _ _ _ _ _ c.in-Err.ensures.grows c.len-len.ensures.length c.cut.ensures

pub returns-clause-grows : goal.returns-clause-grows
returns-clause-grows c = grows_same _ _ _ (cut_back _ _ _ _ _ c.in-Err.ensures.grows c.len-len.ensures.length c.cut.ensures)

use Rattle.std.proofs.Common.{map, ap, ◌∙◌}
use Rattle.smt_build.specs.Pairs.{pair_of}
use Rattle.smt_build.proofs.Growth.{cut_back, grows_same}
use Rattle.smt_build.proofs.Spellings.{at_span}
use Rattle.smt_build.proofs.GivenNames.{asserts_ok, asserts_fault, given_signatures}
use Rattle.smt_build.proofs.symbols.Symbols.assert_term.Goals as goal

pub returns-in-Err-clause-asserts : goal.returns-in-Err-clause-asserts
returns-in-Err-clause-asserts c = λ e h. asserts_fault _ _ _ _ (ap (λ s. s.parameters) c.scope_over-scope.ensures ∙ c.none.ensures) _ _ _ (c.in-Err.ensures.reads e (at_span _ _ _ _ e c.as_slice.ensures c.tokens_at-items.ensures h)) (cut_back _ _ _ _ _ c.in-Err.ensures.grows c.len-len.ensures.length c.cut.ensures)

pub returns-in-Err-clause-grows : goal.returns-in-Err-clause-grows
returns-in-Err-clause-grows c = grows_same _ _ _ (cut_back _ _ _ _ _ c.in-Err.ensures.grows c.len-len.ensures.length c.cut.ensures)

pub returns-in-Ok-add_names-clause-asserts : goal.returns-in-Ok-add_names-clause-asserts
returns-in-Ok-add_names-clause-asserts c = λ e h. asserts_ok _ _ _ _ (ap (λ s. s.parameters) c.scope_over-scope.ensures ∙ c.none.ensures) _ _ _ _ (c.in-Ok.ensures.reads e (at_span _ _ _ _ e c.as_slice.ensures c.tokens_at-items.ensures h)) c.as_slice-2.ensures c.in-Ok-add_names.ensures.ok

pub returns-in-Ok-add_names-clause-signatures : goal.returns-in-Ok-add_names-clause-signatures
returns-in-Ok-add_names-clause-signatures c = given_signatures c.args.self.now c.add_names.new.symbols (map pair_of c.as_slice-2.result.now) c.in-Ok-add_names.ensures.ok

pub returns-clause-asserts : goal.returns-clause-asserts
returns-clause-asserts c = λ e h. (c.in-Err-add_names.ensures.err, cut_back _ _ _ _ _ c.in-Ok.ensures.grows c.len-len.ensures.length c.cut-in-Err-add_names.ensures)

pub returns-clause-grows : goal.returns-clause-grows
returns-clause-grows c = grows_same _ _ _ (cut_back _ _ _ _ _ c.in-Ok.ensures.grows c.len-len.ensures.length c.cut-in-Err-add_names.ensures)

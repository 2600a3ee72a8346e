use Rattle.std.proofs.Common.{◌≡◌, ◌∙◌, ap, map, true}
use Rattle.std.specs.List.{list_any}
use Rattle.std.proofs.lemmas.Bool.{MatchBool-at_true, MatchBool-at_false}
use Rattle.smt_terms.specs.declared.node.Op.TheVariants.{Apply}
use Rattle.smt_values.specs.Held.{value_of, interpretation_of}
use Rattle.smt_eval.specs.Evaluated.{holds_array, given}
use Rattle.smt_eval.proofs.Calling.{call_sort, call_given, none_given}
use Rattle.smt_eval.proofs.evaluate.called.Goals as goal

pub call-scalar-requires-clause-sort : goal.call-scalar-requires-clause-sort
call-scalar-requires-clause-sort c = (call_sort c.args.declaration c.args.signature.now _ c.requires.taken).0

pub call-scalar-requires-clause-plain : goal.call-scalar-requires-clause-plain
call-scalar-requires-clause-plain c = (call_sort c.args.declaration c.args.signature.now _ c.requires.taken).1

pub returns-then-branch : goal.returns-then-branch
returns-then-branch c =
    let same : map value_of c.gather.new.scalars.items ≡ given c.args.values.now c.args.args.now = MatchBool-at_true _ _ c.if-branch.true c.in_ok-gather.ensures in
    call_given (interpretation_of c.args.interp.now) c.args.declaration c.args.signature.now _ c.as_slice.result.now c.call-scalar.result c.from.result c.requires.taken (ap (map value_of) c.as_slice.ensures.value ∙ same) c.from.ensures c.call-scalar.ensures

pub returns-else-branch : goal.returns-else-branch
returns-else-branch c =
    let any : list_any holds_array (given c.args.values.now c.args.args.now) ≡ true = MatchBool-at_false _ _ c.if-branch.false c.in_ok-gather.ensures in
    absurd (none_given (Apply c.args.declaration c.args.signature.now) _ (λ o e. let q : ⊥ = cc in q) c.requires.taken any)

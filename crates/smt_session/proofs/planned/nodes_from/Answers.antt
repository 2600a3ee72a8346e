use Rattle.std.proofs.Common.{◌≡◌, ◌∷◌, [], ◌++◌, take, arith, sym, ap, ◌∙◌, append_assoc}
use Rattle.std.proofs.lemmas.List.{take_more}
use Rattle.smt_terms.specs.declared.node.Node.{Node}
use Rattle.smt_session.proofs.planned.nodes_from.Goals as goal

pub terms-preserved : goal.terms-preserved
terms-preserved c =
    let same : c.in_ok-node.node ≡ c.node.result.now = c.in_ok-node.ensures in
    ap (λ l. take c.args.from c.args.terms.now.nodes ++ l) c.in_ok-push.ensures.items
    ∙ sym (append_assoc (take c.args.from c.args.terms.now.nodes) c.terms.made.items (c.in_ok-node.node ∷ []))
    ∙ ap (λ l. l ++ c.in_ok-node.node ∷ []) c.terms.invariant
    ∙ ap (λ (n : Node). take c.terms.term c.args.terms.now.nodes ++ n ∷ []) (same ∙ c.node.ensures.node)
    ∙ sym (take_more c.args.terms.now.nodes c.terms.term _ (let lt = c.terms-test.true in let n = c.len-term-end.ensures.length in omega (arith, lt, n)))

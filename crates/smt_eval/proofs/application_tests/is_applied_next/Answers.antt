use Rattle.std.proofs.Common.{◌≡◌, sym, ap, ◌∙◌, subst}
use Rattle.smt_terms.specs.declared.node.Op.{Op}
use Rattle.smt_terms.specs.declared.node.Node.{Node}
use Rattle.smt_terms.specs.Nodes.{node_at}
use Rattle.smt_terms.specs.Terms.{TermsValue, AreTerms, Agrees}
use Rattle.smt_eval.proofs.application_tests.is_applied_next.Goals as goal

-- the operator of a term agrees with all terms
agrees_with : (v : TermsValue) (n : Node) (op : Op) → AreTerms v → n ≡ node_at v.nodes 1 → op ≡ n.op → Agrees v.nodes op
agrees_with v n op h e f = subst (Agrees v.nodes) (sym (f ∙ ap (λ (x : Node). x.op) e)) (h.declared 1)

pub make-requires : goal.make-requires
make-requires c = record { declared = agrees_with _ _ _ c.node.ensures.terms c.node.ensures.node c.in_ok-op.ensures }

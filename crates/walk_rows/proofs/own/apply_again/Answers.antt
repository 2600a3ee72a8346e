use Rattle.std.proofs.Common.{◌≡◌, ◌∙◌, ap}
use Rattle.smt_terms.specs.Nodes.{node_at}
use Rattle.smt_terms.specs.Terms.{declaration_of, signature_of}
use Rattle.walk_rows.proofs.own.apply_again.Goals as goal

pub make-requires : goal.make-requires
make-requires c =
    let nodes = c.args.terms.now.nodes in
    let same : (node_at nodes c.args.like).op ≡ c.args.op = c.if-not-has_op.ensures in
    record { declared = λ t d p q. c.len.ensures.terms.declared c.args.like t d p (ap declaration_of same ∙ q) ∙ ap signature_of same }

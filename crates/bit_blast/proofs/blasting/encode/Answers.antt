use Rattle.smt_terms.specs.Nodes.{node_at}
use Rattle.bit_blast.proofs.Fixing.{result_fixes}
use Rattle.bit_blast.proofs.Sizes.{result_small}
use Rattle.bit_blast.proofs.blasting.encode.Goals as goal

pub returns-clause-means : goal.returns-clause-means
returns-clause-means c =
    result_fixes c.block.result (λ row. row.items) c.args.circuit.now c.block.new.circuit c.args.bits.now (node_at c.args.terms.now.nodes c.args.t) c.block.ensures.ok

pub returns-clause-size : goal.returns-clause-size
returns-clause-size c =
    result_small c.block.result (λ row. row.items) c.args.circuit.now c.block.new.circuit c.args.bits.now (node_at c.args.terms.now.nodes c.args.t) c.requires.short c.block.ensures.ok c.block.ensures.err

use Rattle.std.proofs.Common.{refl}
use Rattle.smt_terms.specs.Nodes.{node_at}
use Rattle.smt_terms.specs.Bits.{bits_in}
use Rattle.bit_blast.proofs.Counting.{short_of, block_many}
use Rattle.bit_blast.proofs.blasting.block.Goals as goal

pub unary-requires-clause-short : goal.unary-requires-clause-short
unary-requires-clause-short c = short_of _ _ _ c.requires.short c.in-Some.ensures

pub binary-requires-clause-short : goal.binary-requires-clause-short
binary-requires-clause-short c = short_of _ _ _ c.requires.short c.in-Some-of.ensures

pub ternary-requires-clause-short : goal.ternary-requires-clause-short
ternary-requires-clause-short c = short_of _ _ _ c.requires.short c.in-Some-of-4.ensures

pub returns-in_default-clause-ok : goal.returns-in_default-clause-ok
returns-in_default-clause-ok c =
    (block_many c.args.circuit.now.next (bits_in c.args.bits.now) (node_at c.args.terms.now.nodes c.args.t) (rw (c.as_slice.ensures, c.node-node.ensures.node) at c.in_default.len_at_least), refl)

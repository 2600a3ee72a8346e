use Rattle.std.proofs.Common.{List, sym, ap, ◌∙◌}
use Rattle.smt_terms.specs.Bits.{TermBits, bits_in}
use Rattle.opening_positions.proofs.Afters.{after_gates, after_none, no_leaf_bits, after_leaf}
use Rattle.opening_positions.proofs.next.next_after.Goals as goal

pub returns-then-has_gates : goal.returns-then-has_gates
returns-then-has_gates c =
    after_gates c.args.terms.now.nodes c.args.log.now c.args.entry.now c.args.at c.args.next c.requires.listed c.requires.stands c.requires.entry c.behind_clauses.result
    (sym c.has_gates.ensures ∙ c.if-has_gates.true) c.behind_clauses.ensures

pub returns-in_default : goal.returns-in_default
returns-in_default c =
    after_none c.args.terms.now.nodes c.args.log.now c.args.entry.now c.args.at c.args.next c.requires.listed c.requires.stands c.requires.entry
    (sym c.in_default.ensures) (sym c.has_gates.ensures ∙ c.if-has_gates.false)

pub returns-in_default-of : goal.returns-in_default-of
returns-in_default-of c =
    no_leaf_bits c.args.terms.now.nodes c.args.log.now c.args.entry.now c.args.at c.args.next c.requires.listed c.requires.stands c.requires.entry
    c.in-Some.term (sym c.in-Some.ensures) (ap (λ (b : List TermBits). bits_in b c.in-Some.term) (sym c.bits.ensures) ∙ sym c.in_default-of.ensures)

pub returns : goal.returns
returns c =
    after_leaf c.args.terms.now.nodes c.args.log.now c.args.entry.now c.args.at c.args.next c.requires.listed c.requires.stands c.requires.entry
    c.in-Some.term c.behind.result c.in-Some-of.bits.now (sym c.in-Some.ensures) (ap (λ (b : List TermBits). bits_in b c.in-Some.term) (sym c.bits.ensures) ∙ sym c.in-Some-of.ensures) c.behind.ensures

use Rattle.std.proofs.Common.{rules, ◌≡◌, Some, sym}
use Rattle.opening_positions.specs.Holding.{pair_of}
use Rattle.opening_positions.proofs.Holds.{both_told}
use Rattle.opening_positions.proofs.holding.has_pair.Goals as goal

pub returns-else-not-has_term : goal.returns-else-not-has_term
returns-else-not-has_term c =
    let q : pair_of c.in-Some.entry.now ≡ Some (c.in-Some-pair.lower, c.in-Some-pair.upper) = search rules in
    both_told c.args.log.now.entries c.args.held.now c.args.at c.in-Some-pair.lower c.in-Some-pair.upper c.in-Some.entry.now (sym c.in-Some.ensures) q c.has_term-in-Some-pair.result c.if-not-has_term.ensures c.has_term-in-Some-pair.ensures

use Rattle.std.proofs.Common.{List, ℕ, sym, subst}
use Rattle.std.specs.Prelude.{Contains}
use Rattle.std.specs.List.Sorted.{IsNonDecreasing}
use Rattle.std.proofs.lemmas.List.Sorted.{IsNonDecreasingBy-from_sort}
use Rattle.bit_blast.specs.Assigned.{assigned}
use Rattle.access_tables.specs.Held.{assigned_value}
use Rattle.access_walk.specs.Spared.{AreTaken}
use Rattle.access_walk.proofs.Taken.{taken_moved, spare_is}
use Rattle.access_walk.proofs.spares.spare_of.Goals as goal

pub gap_of-requires : goal.gap_of-requires
gap_of-requires c = subst IsNonDecreasing (sym c.as_slice.ensures.value) (IsNonDecreasingBy-from_sort (λ x. x) c.sort_unstable.new.self.items c.sort_unstable.ensures.sorted)

pub returns : goal.returns
returns c =
    let taken = subst (λ (xs : List ℕ). AreTaken c.args.terms.now.nodes c.args.bits.now (Contains c.args.reached.now) (assigned_value c.args.terms.now.nodes c.args.bits.now (assigned c.args.assignment.now)) c.args.width xs) (sym c.as_slice.ensures.value)
    (taken_moved c.args.terms.now.nodes c.args.bits.now (Contains c.args.reached.now) (assigned_value c.args.terms.now.nodes c.args.bits.now (assigned c.args.assignment.now)) c.args.width c.in_ok-numbers.numbers.items c.sort_unstable.new.self.items c.sort_unstable.ensures.permutation c.in_ok-numbers.ensures) in
    spare_is c.args.terms.now.nodes c.args.bits.now (Contains c.args.reached.now) (assigned_value c.args.terms.now.nodes c.args.bits.now (assigned c.args.assignment.now)) c.args.width
    c.as_slice.result.now c.gap_of.result c.requires.wide taken c.gap_of.ensures.gap c.new.result c.new.ensures.found c.new.ensures.value

use Rattle.std.proofs.Common.{◌≡◌, ℕ}
use Rattle.std.proofs.lemmas.Result.{IfOk-weaker}
use Rattle.bit_blast.specs.Assigned.{assigned}
use Rattle.smt_values.specs.Held.{set_for, interpretation_of}
use Rattle.access_tables.specs.Modeled.{IsModel}
use Rattle.access_tables.proofs.Modeled.{from_closed}
use Rattle.model_build.specs.Sorted.{IsWellSorted}
use Rattle.model_build.proofs.Made.{made}
use Rattle.model_build.proofs.WellSorted.{well_sorted}
use Rattle.model_build.proofs.building.build.Goals as goal

pub returns-clause-model : goal.returns-clause-model
returns-clause-model c =
    IfOk-weaker c.finish.result (λ m. (d : ℕ) → set_for m d ≡ set_for c.give_elements.new.draft d)
    (λ m. IsModel c.args.terms.now.nodes c.args.bits.now (assigned c.args.assignment.now) c.args.table.now (interpretation_of m))
    (λ m same. from_closed c.args.terms.now.nodes c.args.bits.now (assigned c.args.assignment.now) c.args.table.now (interpretation_of m) c.len-count.ensures.terms.list c.requires.bits c.requires.satisfied c.requires.closed
    (made c.args.terms.now.nodes c.len-count.ensures.terms.list c.args.bits.now (assigned c.args.assignment.now) c.args.table.now c.requires.bits c.give_elements.new.draft m same c.in_ok-give_elements.ensures.given))
    c.finish.ensures

pub returns-clause-sorted : goal.returns-clause-sorted
returns-clause-sorted c =
    IfOk-weaker c.finish.result (λ m. (d : ℕ) → set_for m d ≡ set_for c.give_elements.new.draft d)
    (λ m. IsWellSorted c.args.terms.now.nodes c.args.bits.now c.args.table.now.terms m)
    (λ m same. well_sorted c.args.terms.now c.len-count.ensures.terms c.args.bits.now (assigned c.args.assignment.now) c.args.table.now c.give_elements.new.draft m same c.in_ok-give_elements.ensures.given c.in_ok-give_elements.ensures.sorted)
    c.finish.ensures

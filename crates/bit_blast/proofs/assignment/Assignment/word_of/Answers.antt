use Rattle.std.proofs.Common.{◌≡◌, ◌-◌, drop, sym, ap, ◌∙◌, arith}
use Rattle.std.specs.Option.{option_copied}
use Rattle.cnf_base.specs.Clauses.{number}
use Rattle.cnf_base.proofs.Numbers.{number_lt}
use Rattle.bit_blast.specs.Assigned.{assigned}
use Rattle.bit_blast.proofs.Reading.{row_long, number_next, number_fits, number_doubles}
use Rattle.bit_blast.proofs.assignment.Assignment.word_of.Goals as goal

pub overflow_mul-value : goal.overflow_mul-value
overflow_mul-value c =
    let long = row_long _ _ (sym c.of.ensures ∙ ap option_copied c.unwrap-row.ensures) c.requires in
    omega (arith, c.loop-i.invariant, number_doubles (assigned c.args.self.now) c.unwrap-row.result.now c.loop-i.i c.loop-i-test.true long.1)

pub overflow_add-value : goal.overflow_add-value
overflow_add-value c =
    let long = row_long _ _ (sym c.of.ensures ∙ ap option_copied c.unwrap-row.ensures) c.requires in
    let next = number_next (assigned c.args.self.now) c.unwrap-row.result.now c.loop-i.i c.loop-i.value c.from.result c.value.result c.index-row-i.result c.loop-i-test.true c.loop-i.auto.i c.loop-i.invariant c.index-row-i.is c.value.ensures c.from.ensures in
    let fits = number_fits (assigned c.args.self.now) c.unwrap-row.result.now (c.loop-i.i - 1) long.1 in
    omega (arith, next, fits)

pub unwrap-requires : goal.unwrap-requires
unwrap-requires c =
    let long = row_long _ _ (sym c.of.ensures ∙ ap option_copied c.unwrap-row.ensures) c.requires in
    let whole : c.loop-i.i ≡ 0 = omega arith in
    let value : c.loop-i.value ≡ number (assigned c.args.self.now) c.unwrap-row.result.now = c.loop-i.invariant ∙ ap (λ k. number (assigned c.args.self.now) (drop k c.unwrap-row.result.now)) whole in
    c.new.ensures.found.1 (long.0, long.1, omega (arith, value, number_lt (assigned c.args.self.now) c.unwrap-row.result.now))

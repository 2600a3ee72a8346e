use Rattle.std.proofs.Common.{◌≡◌, ◌-◌, drop, ap, ◌∙◌, arith}
use Rattle.cnf_base.specs.Clauses.{number}
use Rattle.cnf_base.proofs.Numbers.{number_lt}
use Rattle.cube_search.specs.Running.{valuation_of}
use Rattle.bit_blast.proofs.Reading.{number_next, number_fits, number_doubles}
use Rattle.word_models.proofs.values.word_value.Goals as goal

pub overflow_mul-value : goal.overflow_mul-value
overflow_mul-value c =
    omega (arith, c.loop-i.invariant, number_doubles (valuation_of c.args.search.now) c.args.row.now c.loop-i.i c.loop-i-test.true c.requires.1)

pub overflow_add-value : goal.overflow_add-value
overflow_add-value c =
    let next = number_next (valuation_of c.args.search.now) c.args.row.now c.loop-i.i c.loop-i.value c.from.result c.is_true.result c.index-row-i.result c.loop-i-test.true c.loop-i.auto.i c.loop-i.invariant c.index-row-i.is c.is_true.ensures c.from.ensures in
    let fits = number_fits (valuation_of c.args.search.now) c.args.row.now (c.loop-i.i - 1) c.requires.1 in
    omega (arith, next, fits)

pub unwrap-requires : goal.unwrap-requires
unwrap-requires c =
    let whole : c.loop-i.i ≡ 0 = omega arith in
    let value : c.loop-i.value ≡ number (valuation_of c.args.search.now) c.args.row.now = c.loop-i.invariant ∙ ap (λ k. number (valuation_of c.args.search.now) (drop k c.args.row.now)) whole in
    c.new.ensures.found.1 (c.requires.0, c.requires.1, omega (arith, value, number_lt (valuation_of c.args.search.now) c.args.row.now))

pub loop-i-preserved : goal.loop-i-preserved
loop-i-preserved c =
    number_next (valuation_of c.args.search.now) c.args.row.now c.loop-i.i c.loop-i.value c.from.result c.is_true.result c.index-row-i.result c.loop-i-test.true c.loop-i.auto.i c.loop-i.invariant c.index-row-i.is c.is_true.ensures c.from.ensures

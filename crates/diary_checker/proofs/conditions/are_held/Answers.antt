use Rattle.std.proofs.Common.{◌≡◌, ◌≤◌, length, true, false, ◌∙◌, sym, arith}
use Rattle.std.proofs.lemmas.List.{take_all}
use Rattle.std.proofs.lemmas.Option.{slice_get_within, get_or_from_slice_get}
use Rattle.cnf_base.specs.declared.clause.ClauseId.{ClauseId}
use Rattle.diary_checker.specs.Tables.{bit_in}
use Rattle.diary_checker.proofs.Sets.{each_more, here_in}
use Rattle.diary_checker.proofs.conditions.are_held.Goals as goal

pub returns-then-not-has : goal.returns-then-not-has
returns-then-not-has c =
    let hints = c.args.hints.now in
    let id = c.hint.result in
    let within = slice_get_within hints c.loop-k.k id c.hint.ensures in
    let same = sym (get_or_from_slice_get hints c.loop-k.k id id c.hint.ensures) in
    let out : bit_in c.args.held.now id.pos ≡ false = sym c.has.ensures ∙ c.if-not-has.true in
    (id, here_in hints c.loop-k.k id within same, λ e. let q : true ≡ false = sym e ∙ out in cc)

pub loop-k-preserved : goal.loop-k-preserved
loop-k-preserved c =
    let hints = c.args.hints.now in
    let id = c.hint.result in
    let within = slice_get_within hints c.loop-k.k id c.hint.ensures in
    let same = sym (get_or_from_slice_get hints c.loop-k.k id id c.hint.ensures) in
    each_more (λ (i : ClauseId). bit_in c.args.held.now i.pos ≡ true) hints c.loop-k.k id within same c.loop-k.invariant (sym c.has.ensures ∙ c.if-not-has.false)

pub returns : goal.returns
returns c =
    let past : length c.args.hints.now ≤ c.loop-k.k = omega arith in
    rw (take_all c.loop-k.k c.args.hints.now past) at c.loop-k.invariant

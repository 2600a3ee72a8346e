use Rattle.std.proofs.Common.{◌≡◌, true, false, sym, ap, ◌∙◌}
use Rattle.std.specs.Prelude.{is_some}
use Rattle.smt_text.specs.Lexicon.{reserved_kind}
use Rattle.smt_build.specs.Operators.{is_reserved}
use Rattle.smt_build.proofs.ReservedWords.{is_some-reserved_kind}
use Rattle.smt_build.proofs.operators.is_reserved.Goals as goal

pub returns-then-is_among : goal.returns-then-is_among
unfolding is_reserved
returns-then-is_among c =
    let p : is_some (reserved_kind c.args.name.now) ≡ true = is_some-reserved_kind c.args.name.now ∙ sym c.is_among.ensures ∙ c.if-is_among.true in
    rw p c.if-is_among.true

pub returns-else-is_among : goal.returns-else-is_among
unfolding is_reserved
returns-else-is_among c =
    let p : is_some (reserved_kind c.args.name.now) ≡ false = is_some-reserved_kind c.args.name.now ∙ sym c.is_among.ensures ∙ c.if-is_among.false in
    rw p (c.is_some.ensures ∙ ap is_some c.operator_named.ensures)

use Rattle.std.proofs.Common.{◌≡◌, sym, ap, ◌∙◌}
use Rattle.std.specs.Prelude.{is_some}
use Rattle.std.specs.Option.{option_copied}
use Rattle.smt_terms.specs.Bits.{bits_in}
use Rattle.proof_log.proofs.Standing.{stands_over}
use Rattle.hub_core.proofs.lemma_tests.has_bits.Goals as goal

pub returns-in-Some : goal.returns-in-Some
returns-in-Some c = λ shown.
    let k = stands_over c.args.law.now.nodes c.args.law.now.log c.log.ensures.opening.stands in
    ap is_some (sym (k.bits c.args.term))
    ∙ ap (λ b. is_some (bits_in b c.args.term)) (sym (c.bits.ensures ∙ ap (λ l. l.bits) c.log.ensures.log))
    ∙ ap is_some (sym c.of.ensures)
    ∙ ap (λ o. is_some (option_copied o)) c.in-Some.is

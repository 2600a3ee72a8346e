use Rattle.std.proofs.Common.{Some, None, false, refl, ap, ◌∙◌}
use Rattle.smt_terms.specs.Bits.{bits_in}
use Rattle.smt_session.proofs.Coring.{assumption_told}
use Rattle.smt_session.proofs.cores.is_blamed_assumption.Goals as goal

pub returns-in-Some : goal.returns-in-Some
returns-in-Some c = λ nodes clause h codes.
    assumption_told nodes c.args.log.now h clause c.args.assumption.now (Some c.in-Some.bits.now) c.has_negation.result
    (c.in-Some.ensures ∙ ap (λ b. bits_in b c.args.assumption.now.term) c.bits.ensures) (c.has_negation.ensures clause codes)

pub returns-in-None : goal.returns-in-None
returns-in-None c = λ nodes clause h codes.
    assumption_told nodes c.args.log.now h clause c.args.assumption.now None false
    (c.in-None.ensures ∙ ap (λ b. bits_in b c.args.assumption.now.term) c.bits.ensures) refl

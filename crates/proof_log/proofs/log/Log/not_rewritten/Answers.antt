use Rattle.std.proofs.Common.{◌≡◌, true, false, sym, ◌∙◌, subst}
use Rattle.smt_terms.specs.Bits.{image_in}
use Rattle.bv_rules.specs.Matches.{matches}
use Rattle.proof_log.specs.Stored.{LogValue}
use Rattle.proof_log.proofs.Tried.{no_match, held_from, held_to, is_rewrite}
use Rattle.proof_log.proofs.log.Log.not_rewritten.Goals as goal

pub returns-then-not-matches : goal.returns-then-not-matches
returns-then-not-matches c =
    no_match c.args.terms.now.nodes c.args.self.now c.args.used c.in-Some.rule c.requires.stands c.in-Some.ensures
    (subst (λ (l : LogValue). matches c.args.terms.now.nodes (image_in l.bits) c.in-Some.rule c.args.used.from c.args.used.to ≡ false) c.self.view_is (sym c.matches.ensures ∙ c.if-not-matches.true))

pub returns-then-has_bits : goal.returns-then-has_bits
returns-then-has_bits c = held_from c.args.terms.now.nodes c.args.self.now c.args.used c.requires.stands (sym c.has_bits.ensures ∙ c.if-has_bits.true)

pub returns-then-not-has_bits : goal.returns-then-not-has_bits
returns-then-not-has_bits c = held_to c.args.terms.now.nodes c.args.self.now c.args.used c.requires.stands (sym c.has_bits-2.ensures ∙ c.if-not-has_bits.true)

pub returns : goal.returns
returns c =
    is_rewrite c.args.terms.now.nodes c.args.self.now c.args.used c.in-Some.rule c.requires.stands c.in-Some.ensures
    (subst (λ (l : LogValue). matches c.args.terms.now.nodes (image_in l.bits) c.in-Some.rule c.args.used.from c.args.used.to ≡ true) c.self.view_is (sym c.matches.ensures ∙ c.if-not-matches.false))
    (sym c.has_bits.ensures ∙ c.if-has_bits.false) (sym c.has_bits-2.ensures ∙ c.if-not-has_bits.false)

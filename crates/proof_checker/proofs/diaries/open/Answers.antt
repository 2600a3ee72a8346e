use Rattle.std.proofs.Common.{ℕ, Bool, [], refl, sym, subst}
use Rattle.accepted_proof.specs.Searching.{subject_of}
use Rattle.proof_text.specs.Deletions.{is_deleted}
use Rattle.diary_checker.specs.Readers.{HasRead}
use Rattle.diary_checker.specs.Tables.{bit_in}
use Rattle.proof_checker.specs.Checkers.{AreLeft}
use Rattle.proof_checker.proofs.Deleting.{same_bits}
use Rattle.proof_checker.proofs.Noting.{is_about}
use Rattle.proof_checker.proofs.diaries.open.Goals as goal

pub returns-clause-noted : goal.returns-clause-noted
returns-clause-noted c = λ limits s stands given.
    let g = subject_of limits s s.terms.nodes c.args.log.now.entries c.args.cube c.args.start in
    let deleted = c.args.deleted.now in
    let same = same_bits (bit_in c.bits.result.now) (is_deleted deleted) c.bits.ensures in
    let read = c.in_ok-reader.ensures g (is_about limits s c.args.log.now c.args.cube c.args.start stands) (sym given) refl in (
      subst (λ ls. HasRead (is_deleted deleted) g ls c.in_ok-reader.reader) (sym c.none-lines.ensures)
          (subst (λ (f : ℕ → Bool). HasRead f g [] c.in_ok-reader.reader) same read),
      subst (AreLeft deleted) (sym c.none-lines.ensures) tt,
    )

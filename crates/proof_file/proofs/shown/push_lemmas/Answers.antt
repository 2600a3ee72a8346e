use Rattle.std.proofs.Common.{◌≡◌, ◌++◌, ◌∷◌, [], List, get_or, ap, ◌∙◌, refl}
use Rattle.std.specs.Prelude.{ℕ, Bool, ltb, ◌&&◌, if◌then◌else◌}
use Rattle.proof_log.specs.declared.diary.DiaryLine.{DiaryLine}
use Rattle.proof_log.specs.declared.diary.DiaryLine.TheVariants.{Take}
use Rattle.proof_log.specs.Logs.{entry_at}
use Rattle.proof_file.specs.Trimmed.{is_lemma}
use Rattle.proof_file.specs.Held.{file_in}
use Rattle.proof_file.proofs.Earlier.{lemmas_next}
use Rattle.proof_file.proofs.shown.push_lemmas.Goals as goal

pub loop-at-preserved : goal.loop-at-preserved
loop-at-preserved c =
    let log = c.args.log.now.entries in
    let places = (file_in c.args.places.now).places in
    lemmas_next (λ p. ltb p c.args.start && is_lemma (entry_at log p)) (λ p. Take (places p)) c.args.needed.now c.loop-at.at-index (get_or c.args.needed.now c.loop-at.at-index 0) 0
    c.args.lines.now c.loop-at.lines c.push_take.new.lines c.loop-at-test.true refl c.loop-at.invariant
    (c.in_ok-push_take.ensures
    ∙ ap (λ (b : Bool). if b then c.loop-at.lines ++ Take c.place_of.result ∷ [] else c.loop-at.lines) c.is_held.ensures
    ∙ ap (λ (q : ℕ). if ltb (get_or c.args.needed.now c.loop-at.at-index 0) c.args.start && is_lemma (entry_at log (get_or c.args.needed.now c.loop-at.at-index 0)) then c.loop-at.lines ++ Take q ∷ [] else c.loop-at.lines) c.place_of.ensures)

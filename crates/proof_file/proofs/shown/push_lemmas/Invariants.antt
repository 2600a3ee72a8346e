use Rattle.std.proofs.Common.{◌≡◌, ◌++◌, take, map}
use Rattle.proof_log.specs.declared.diary.DiaryLine.TheVariants.{Take}
use Rattle.proof_file.specs.Trimmed.{lemmas_before}
use Rattle.proof_file.specs.Held.{file_in}
use Rattle.proof_file.proofs.shown.push_lemmas.Given as goal

abbrev pub invariant-loop-at : goal.invariant-loop-at
invariant-loop-at l = l.lines ≡ l.fn.lines ++ map (λ p. Take ((file_in l.places).places p)) (lemmas_before l.log.entries l.start (take l.at-index l.needed))

use Rattle.std.proofs.Common.{List, ℕ, ◌∷◌, [], map, subst}
use Rattle.std.proofs.lemmas.List.{take_all}
use Rattle.proof_log.specs.declared.diary.DiaryLine.{DiaryLine}
use Rattle.proof_text.specs.Deletions.{place_of}
use Rattle.proof_file.specs.Finding.{AreFound}
use Rattle.proof_file.specs.Held.{file_in}
use Rattle.proof_file.proofs.Finding.{found_nothing, found_next_read}
use Rattle.proof_file.proofs.needed.find_lines.Goals as goal

pub loop-line-init : goal.loop-line-init
loop-line-init c = found_nothing c.args.log.now.entries (file_in c.args.places.now).places c.args.found.now

pub loop-line-preserved : goal.loop-line-preserved
loop-line-preserved c =
    found_next_read c.args.log.now.entries (file_in c.args.places.now).places place_of c.args.lines.now c.loop-line.line-index _
    c.args.found.now c.loop-line.found c.find_one.new.found c.loop-line-test.true c.loop-line.invariant
    (subst (λ (p : ℕ). AreFound c.args.log.now.entries (file_in c.args.places.now).places (p ∷ []) c.loop-line.found c.find_one.new.found) c.position_of.ensures c.in_ok-find_one.ensures)

pub returns : goal.returns
returns c =
    subst (λ (ls : List DiaryLine). AreFound c.args.log.now.entries (file_in c.args.places.now).places (map place_of ls) c.args.found.now c.loop-line.found)
    (take_all c.loop-line.line-index c.args.lines.now c.loop-line-test.false) c.loop-line.invariant

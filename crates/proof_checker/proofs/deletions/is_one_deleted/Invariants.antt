use Rattle.std.proofs.Common.{◌≡◌, false, take}
use Rattle.std.specs.List.{list_any}
use Rattle.proof_text.specs.declared.list.WrittenHint.{WrittenHint}
use Rattle.proof_text.specs.Deletions.{is_deleted}
use Rattle.proof_checker.proofs.deletions.is_one_deleted.Given as goal

abbrev pub invariant-loop-hint : goal.invariant-loop-hint
invariant-loop-hint l = list_any (λ (h : WrittenHint). is_deleted l.deleted h.pos) (take l.hint-index l.hints) ≡ false

use Rattle.std.proofs.Common.{◌≡◌, ◌++◌, take}
use Rattle.proof_text.specs.Lines.{spaced}
use Rattle.smt_session.proofs.lists.push_spaced.Given as goal

abbrev pub invariant-items : goal.invariant-items
invariant-items l = l.out ≡ l.fn.out ++ spaced (take l.item-index l.items)

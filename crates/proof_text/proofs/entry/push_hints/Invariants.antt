use Rattle.std.proofs.Common.{◌≡◌, ◌++◌, take, map}
use Rattle.std.specs.List.{AllByRecursion}
use Rattle.cnf_base.specs.declared.clause.ClauseId.{ClauseId}
use Rattle.proof_text.specs.Lines.{spaced, hint_text, IsHint}
use Rattle.proof_text.specs.Entries.{written_hint}
use Rattle.proof_text.proofs.entry.push_hints.Given as goal

abbrev pub invariant-loop-k : goal.invariant-loop-k
invariant-loop-k l = record {
  text : l.out ≡ l.fn.out ++ spaced (map hint_text (map written_hint (take l.k l.hints)));
  hints : AllByRecursion (λ (x : ClauseId). IsHint (written_hint x)) (take l.k l.hints);
}

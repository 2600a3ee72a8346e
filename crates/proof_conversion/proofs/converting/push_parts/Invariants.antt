use Rattle.std.proofs.Common.{◌≡◌, ℕ, ◌<◌, [], ◌++◌, drop, get_or}
use Rattle.std.specs.List.{AllByRecursion}
use Rattle.proof_text.specs.Lines.{IsLine}
use Rattle.proof_conversion.specs.Needs.{deletion}
use Rattle.proof_conversion.specs.Writing.{texts_behind}
use Rattle.proof_conversion.proofs.converting.push_parts.Given as goal

abbrev pub invariant-loop-part : goal.invariant-loop-part
invariant-loop-part l = record {
  text : l.out ++ texts_behind (λ p. get_or l.due p []) l.part (drop l.part l.texts) ≡ l.fn.out ++ texts_behind (λ p. get_or l.due p []) 0 l.texts;
  lines : (p : ℕ) → p < l.part → AllByRecursion IsLine (deletion (get_or l.due p []));
}

use Rattle.std.proofs.Common.{◌≡◌, ◌++◌, ℕ, take}
use Rattle.std.specs.List.{flat_map, AllByRecursion}
use Rattle.smt_values.specs.declared.value.Value.{Value}
use Rattle.proof_text.specs.Lines.{line_text, IsLine}
use Rattle.proof_text.specs.Records.{value_lines, HasDigit}
use Rattle.proof_text.proofs.record.push_values.Given as goal

abbrev pub invariant-loop-pair : goal.invariant-loop-pair
invariant-loop-pair l = record {
  text : l.out ≡ l.fn.out ++ flat_map line_text (flat_map value_lines (take l.pair-index l.values));
  lines : AllByRecursion (λ (p : ℕ × Value). HasDigit p.1) l.values → AllByRecursion (λ (p : ℕ × Value). AllByRecursion IsLine (value_lines p)) (take l.pair-index l.values);
}

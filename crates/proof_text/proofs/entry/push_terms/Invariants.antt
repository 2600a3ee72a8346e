use Rattle.std.proofs.Common.{◌≡◌, ◌++◌, take, map}
use Rattle.std.specs.List.{AllByRecursion}
use Rattle.std.specs.Fmt.{decimal}
use Rattle.proof_text.specs.Lines.{spaced, IsNumber}
use Rattle.proof_text.proofs.entry.push_terms.Given as goal

abbrev pub invariant-loop-term : goal.invariant-loop-term
invariant-loop-term l = record {
  text : l.out ≡ l.fn.out ++ spaced (map decimal (take l.term-index l.terms));
  numbers : AllByRecursion IsNumber (take l.term-index l.terms);
}

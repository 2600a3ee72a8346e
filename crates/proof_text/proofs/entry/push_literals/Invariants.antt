use Rattle.std.proofs.Common.{◌≡◌, ◌++◌, take, map}
use Rattle.std.specs.List.{AllByRecursion}
use Rattle.cnf_base.specs.Literals.{Literal}
use Rattle.proof_text.specs.Lines.{spaced, literal_text, IsLiteral}
use Rattle.proof_text.specs.Entries.{written_literal}
use Rattle.proof_text.proofs.entry.push_literals.Given as goal

abbrev pub invariant-loop-literal : goal.invariant-loop-literal
invariant-loop-literal l = record {
  text : l.out ≡ l.fn.out ++ spaced (map literal_text (map written_literal (take l.literal-index l.literals)));
  literals : AllByRecursion (λ (x : Literal). IsLiteral (written_literal x)) (take l.literal-index l.literals);
}

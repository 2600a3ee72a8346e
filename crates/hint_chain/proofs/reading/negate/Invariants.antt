use Rattle.std.proofs.Common.{◌≡◌, length, take}
use Rattle.std.specs.Prelude.{map}
use Rattle.cnf_base.specs.Literals.{negated}
use Rattle.hint_chain.specs.Chains.{HasPair}
use Rattle.hint_chain.specs.Marks.{Agrees}
use Rattle.hint_chain.proofs.reading.negate.Given as goal

abbrev pub invariant-loop-l : goal.invariant-loop-l
invariant-loop-l l = record {
  room : length l.trues.stamps ≡ length l.fn.trues.stamps;
  alone : ¬ (HasPair (take l.l-index l.clause));
  agrees : Agrees l.trues (map negated (take l.l-index l.clause));
}

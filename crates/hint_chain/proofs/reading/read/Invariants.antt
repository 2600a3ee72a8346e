use Rattle.std.proofs.Common.{◌≡◌, ◌<◌, List, length, drop}
use Rattle.std.specs.Prelude.{◌⊎◌}
use Rattle.cnf_base.specs.Literals.{Literal}
use Rattle.hint_chain.specs.declared.fault.ChainFault.{ChainFault}
use Rattle.hint_chain.specs.Chains.{ChainFrom}
use Rattle.hint_chain.specs.Faults.{FaultFrom}
use Rattle.hint_chain.specs.Marks.{Agrees}
use Rattle.hint_chain.proofs.reading.read.Given as goal

-- what the rest of the hints is, all of them are
abbrev pub invariant-loop-k : goal.invariant-loop-k
invariant-loop-k g l =
    let look = g.C.Clauses.look l.clauses in
    record {
      room : length l.trues.stamps ≡ length l.fn.trues.stamps;
      more : (l.k ≡ 0) ⊎ (l.k < length l.hints);
      rest : (known : List Literal) → Agrees l.fn.trues known → record {
        now : List Literal;
        agrees : Agrees l.trues now;
        chain : ChainFrom look now (drop l.k l.hints) → ChainFrom look known l.hints;
        fault : (f : ChainFault) → FaultFrom look now l.k (drop l.k l.hints) f → FaultFrom look known 0 l.hints f;
      };
    }

use Rattle.std.proofs.Common.{◌≡◌, ◌<◌, List, length, drop}
use Rattle.std.specs.Prelude.{◌⊎◌}
use Rattle.cnf_base.specs.Literals.{Literal}
use Rattle.proof_log.specs.Logs.{clause_at}
use Rattle.proof_log.specs.Diaries.{EachIsUsed}
use Rattle.diary_checker.specs.Tables.{IsSetOf}
use Rattle.diary_checker.proofs.uses.are_used.Given as goal

-- all hints are used where the rest is, and only there
abbrev pub invariant-loop-k : goal.invariant-loop-k
invariant-loop-k l =
    let look = clause_at l.log.clauses in
    record {
      more : (l.k ≡ 0) ⊎ (l.k < length l.hints);
      rest : (known : List Literal) → IsSetOf l.fn.trues known → record {
        now : List Literal;
        set : IsSetOf l.trues now;
        forth : EachIsUsed look now (drop l.k l.hints) → EachIsUsed look known l.hints;
        back : EachIsUsed look known l.hints → EachIsUsed look now (drop l.k l.hints);
      };
    }

-- What the user of a check is told.
use Rattle.std.specs.Prelude.{ℕ, List, [], ◌∷◌, ◌++◌, codes, length, Option, Some, None}
use Rattle.std.specs.List.{flat_map}
use Rattle.std.specs.Fmt.{decimal}
use Rattle.script_state.specs.declared.answer.Verdict.{Verdict}
use Rattle.accepted_proof.specs.Answers.{verdict_text}
use Rattle.accepted_proof.specs.declared.refusal.RuleName.{RuleName}
use Rattle.accepted_proof.specs.declared.refusal.RuleName.TheVariants as rule
use Rattle.accepted_proof.specs.declared.refusal.Refusal.{Refusal}

-- the name of a rule
abbrev pub rule_text : RuleName → List ℕ
rule_text rule.Header = codes "header"
rule_text rule.Line = codes "line"
rule_text rule.Node = codes "node"
rule_text rule.Leaf = codes "leaf"
rule_text rule.Encode = codes "encode"
rule_text rule.Rewrite = codes "rewrite"
rule_text rule.Selector = codes "selector"
rule_text rule.Equal = codes "equal"
rule_text rule.Lemma = codes "lemma"
rule_text rule.Chain = codes "chain"
rule_text rule.Delete = codes "delete"
rule_text rule.Sat = codes "sat"
rule_text rule.Unsat = codes "unsat"
rule_text rule.Diary = codes "diary"
rule_text rule.End = codes "end"

-- how many records are accepted, or the first bad line and its rule
abbrev pub ending_text : ℕ → Option Refusal → List ℕ
ending_text n None = codes "accepted " ++ decimal n ++ 10 ∷ []
ending_text n (Some r) = codes "refused line " ++ decimal r.line ++ codes " rule " ++ rule_text r.rule ++ 10 ∷ []

-- each accepted record's verdict on a line, then how the check ended
abbrev pub report_text : List Verdict → Option Refusal → List ℕ
report_text verdicts refusal = flat_map verdict_text verdicts ++ ending_text (length verdicts) refusal

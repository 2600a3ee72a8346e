use Rattle.std.proofs.Common.{◌≡◌, ◌<◌, None}
use Rattle.bv_rules.specs.declared.rule.Rule.{Rule}
use Rattle.bv_rules.specs.Numbers.{number_of}
use Rattle.bv_rewrite.specs.Becoming.{becomes}
use Rattle.bv_rewrite.proofs.finding.find.Given as goal

abbrev pub invariant-loop-number : goal.invariant-loop-number
invariant-loop-number l = (rule : Rule) → number_of rule < l.number → becomes l.terms.nodes rule l.t ≡ None

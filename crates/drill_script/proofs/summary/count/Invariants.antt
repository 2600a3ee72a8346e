use Rattle.std.proofs.Common.{◌≡◌, ◌≤◌, drop}
use Rattle.drill_script.specs.Summaries.{counted, checks_in, tally_of}
use Rattle.drill_script.proofs.summary.count.Given as goal

abbrev pub invariant-bytes : goal.invariant-bytes
invariant-bytes l = record {
  counted : counted l.counts (drop l.byte-index l.responses) ≡ tally_of l.responses;
  few : checks_in l.counts ≤ l.byte-index;
}

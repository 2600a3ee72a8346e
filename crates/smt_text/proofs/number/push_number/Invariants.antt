use Rattle.std.proofs.Common.{◌-◌, ◌^◌, ◌≡◌, ◌++◌, length, drop, ◌<◌, ◌≤◌}
use Rattle.std.specs.Fmt.{decimal}
use Rattle.smt_text.proofs.number.push_number.Given as goal

abbrev pub invariant-digits : goal.invariant-digits
invariant-digits l = record {
  size : length l.digits ≡ 20;
  above : 0 < l.at;
  at : l.at ≤ 20;
  room : l.rest < 10 ^ l.at;
  text : decimal l.n ≡ decimal l.rest ++ drop l.at l.digits;
}

abbrev pub decreases-digits : goal.decreases-digits
decreases-digits l = l.rest

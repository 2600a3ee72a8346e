use Rattle.std.proofs.Common.{◌++◌, [], take}
use Rattle.std.specs.Prelude.{map}
use Rattle.dimacs_search.specs.Writing.{number_in, hint_in, number_text, ended}
use Rattle.dimacs_search.proofs.Pushing.{AreWritten}
use Rattle.dimacs_search.proofs.writing.push_added.Given as goal

abbrev pub invariant-literals : goal.invariant-literals
invariant-literals l = AreWritten l.fn.out l.number ([] ++ map number_text (map number_in (take l.literal-index l.clause))) l.out

abbrev pub invariant-names : goal.invariant-names
invariant-names l = AreWritten l.fn.out l.number (ended (map number_in l.clause) ++ map number_text (map hint_in (take l.id-index l.hints))) l.out

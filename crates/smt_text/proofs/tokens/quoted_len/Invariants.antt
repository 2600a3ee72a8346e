use Rattle.std.proofs.Common.{◌≡◌, ◌+◌, drop}
use Rattle.std.specs.List.{prefix_len}
use Rattle.smt_text.specs.Lexicon.{is_quoted_byte}
use Rattle.smt_text.proofs.tokens.quoted_len.Given as goal

abbrev pub invariant-loop-i : goal.invariant-loop-i
invariant-loop-i l = prefix_len is_quoted_byte l.bytes ≡ l.i + prefix_len is_quoted_byte (drop l.i l.bytes)

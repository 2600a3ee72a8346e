use Rattle.std.proofs.Common.{rules}
use Rattle.access_walk.proofs.Calling.{sorted_by_key}
use Rattle.access_walk.proofs.congruence.sort_calls.Goals as goal

pub returns : goal.returns
returns c = record {
  permutation = c.sort_unstable_by.ensures.permutation;
  sorted = sorted_by_key c.args.keys.now _ c.sort_unstable_by.ensures.sorted (λ a r q k. search rules);
}

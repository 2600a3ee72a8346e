use Rattle.std.proofs.Common.{◌≡◌, map, drop}
use Rattle.std.specs.List.{list_any}
use Rattle.std.specs.Str.{bytes_eq}
use Rattle.smt_build.proofs.operators.is_among.Given as goal

abbrev pub invariant-loop-n : goal.invariant-loop-n
invariant-loop-n l = list_any (bytes_eq l.name) (map (λ n. n.now) l.names) ≡ list_any (bytes_eq l.name) (map (λ n. n.now) (drop l.n-index l.names))

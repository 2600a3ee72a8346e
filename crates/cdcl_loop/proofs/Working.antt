-- Work that is counted.
use Rattle.std.proofs.Common.{◌≡◌, ℕ, ◌+◌, refl, ◌∙◌, arith}
use Rattle.std.proofs.lemmas.Int.{clamps}
use Rattle.cdcl_loop.specs.declared.engine.Engine.{Engine}
use Rattle.cdcl_loop.specs.Counts.{counted}
use Rattle.cdcl_loop.specs.Efforts.{HasWorked}

counted_none : (n a : ℕ) → a ≡ 0 → n ≡ counted n a
counted_none n a e = omega (arith, clamps, e)

counted_then : (n m a b c : ℕ) → m ≡ counted n a → a + b ≡ c → counted m b ≡ counted n c
counted_then n m a b c e f = omega (arith, clamps, e, f)

-- nothing was done
pub worked_none : (s : Engine) → HasWorked s s
worked_none s = record {
  levels = omega arith;
  literals = omega arith;
  conflicts = refl;
  decisions = counted_none _ _ (omega arith);
  propagations = counted_none _ _ (omega arith);
}

-- and then more
pub worked_then : (s t u : Engine) → HasWorked s t → HasWorked t u → HasWorked s u
worked_then s t u h k = record {
  levels = omega (arith, h.levels, k.levels);
  literals = omega (arith, h.levels, k.levels, h.literals, k.literals);
  conflicts = k.conflicts ∙ h.conflicts;
  decisions = k.decisions ∙ counted_then _ _ _ _ _ h.decisions (omega (arith, h.levels, k.levels));
  propagations = k.propagations ∙ counted_then _ _ _ _ _ h.propagations (omega (arith, h.levels, k.levels, h.literals, k.literals));
}

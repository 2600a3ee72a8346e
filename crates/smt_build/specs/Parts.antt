-- What is read of the parts of a list, one after the other.
use Rattle.std.specs.Prelude.{Result, Ok}
use Rattle.smt_syntax.specs.Sexps.{Sexp, Sexps, none, more}
use Rattle.smt_syntax.specs.Walk.{◌>>=◌}

-- one step for each part, from the first on; the first fault ends them
unfoldable pub over_parts : {S E : Type 0} → (S → Sexp → Result S E) → S → Sexps → Result S E
over_parts step s none = Ok s
over_parts step s (more e es) = step s e >>= λ r. over_parts step r es

-- What stands in the place of a function's name: a name with indices, or `(as const S)` (the theory ArraysEx).
use Rattle.std.specs.Prelude.{Result, Ok, Err, if◌then◌else◌}
use Rattle.smt_text.specs.declared.token.TokenKind.TheVariants as kind
use Rattle.smt_syntax.specs.Sexps.{Sexps, atom, none, more}
use Rattle.smt_syntax.specs.Shapes.{is_const}
use Rattle.smt_syntax.specs.Walk.{◌>>=◌}
use Rattle.smt_build.specs.declared.fault.BuildFault.{BuildFault}
use Rattle.smt_build.specs.declared.fault.BuildFault.TheVariants.{NotSupported}
use Rattle.smt_build.specs.Names.{SymbolsValue}
use Rattle.smt_build.specs.Sorts.{sort_in}
use Rattle.smt_build.specs.Indices.{Head, everywhere, indexed_in}

-- the sort behind `as` and `const`
abbrev pub constant_in : SymbolsValue → Sexps → Result Head BuildFault
constant_in symbols (more (atom k c) (more s none)) = if is_const k c then sort_in symbols s >>= (λ r. Ok (everywhere r)) else Err NotSupported
constant_in symbols _ = Err NotSupported

-- a list in the place of a function's name
abbrev pub head_in : SymbolsValue → Sexps → Result Head BuildFault
head_in symbols (more (atom kind.Underscore l) es) = indexed_in es
head_in symbols (more (atom kind.As l) es) = constant_in symbols es
head_in symbols _ = Err NotSupported

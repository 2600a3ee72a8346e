-- The assertion of a term (SMT-LIB 2.6, sections 3.6 and 4.2.5): names that are given within it are definitions from then on.
use Rattle.std.specs.Prelude.{◌≡◌, ℕ, true, List, [], ◌∷◌, is_some, Result, Ok, Err, if◌then◌else◌}
use Rattle.smt_syntax.specs.Sexps.{Sexp}
use Rattle.smt_syntax.specs.Walk.{◌>>=◌}
use Rattle.smt_terms.specs.Terms.{TermsValue}
use Rattle.smt_build.specs.declared.fault.BuildFault.{BuildFault}
use Rattle.smt_build.specs.declared.fault.BuildError.{BuildError}
use Rattle.smt_build.specs.declared.fault.BuildError.TheVariants.{NoMemory, Fault}
use Rattle.smt_build.specs.Names.{SymbolsValue, meaning_in, with_definition}
use Rattle.smt_build.specs.Binding.{Bound, Read}
use Rattle.smt_build.specs.Terms.{term_in}

-- a name becomes a definition of its term; one that is defined stays as it is, which `naming` lets none be
abbrev pub with_name : SymbolsValue → List ℕ × ℕ → SymbolsValue
with_name v b = if is_some (meaning_in v.definitions b.0) then v else with_definition v b.0 (record { parameters = []; body = b.1 })

abbrev pub with_names : SymbolsValue → Bound → SymbolsValue
with_names v [] = v
with_names v (b ∷ bs) = with_names (with_name v b) bs

-- the number of the asserted term, with the symbols and the terms then, or a fault
abbrev pub Assertion : Type 0
Assertion = Result (ℕ × SymbolsValue × TermsValue) BuildFault

abbrev pub as_assertion : SymbolsValue → Read → Assertion
as_assertion v r = r >>= λ q. Ok (q.0, with_names v q.1.names, q.1.terms)

unfoldable pub assertion : SymbolsValue → TermsValue → Sexp → Assertion
assertion v terms e = as_assertion v (term_in v true [] (record { terms = terms; names = []; parameters = [] }) e)

-- The answer is the asserted term, with the symbols and the terms then. After a fault, or for want of memory, all is as before.
abbrev pub Asserts : Assertion → Result ℕ BuildError → SymbolsValue × TermsValue → SymbolsValue × TermsValue → Type 0
Asserts to (Ok t) old new = to ≡ Ok (t, new.0, new.1)
Asserts to (Err (Fault f)) old new = (to ≡ Err f) × (new.0 ≡ old.0) × (new.1 ≡ old.1)
Asserts to (Err NoMemory) old new = (new.0 ≡ old.0) × (new.1 ≡ old.1)

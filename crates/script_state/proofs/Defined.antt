-- A definition of a sort names one more that is taken.
use Rattle.std.proofs.Common.{◌≡◌, ℕ, Bool, true, false, List, [], ◌∷◌, ◌++◌, refl, subst, Result, Ok, Err}
use Rattle.std.specs.Prelude.{is_some, if◌then◌else◌}
use Rattle.smt_text.specs.declared.token.CommandName.{CommandName}
use Rattle.smt_text.specs.declared.token.CommandName.TheVariants as name
use Rattle.smt_syntax.specs.Sexps.{Sexp, Sexps, atom, group, none, more}
use Rattle.smt_syntax.specs.Walk.{◌>>=◌}
use Rattle.smt_terms.specs.declared.sort.Sort.{Sort}
use Rattle.smt_terms.specs.Terms.{IsSort}
use Rattle.smt_build.specs.declared.fault.BuildFault.{BuildFault}
use Rattle.smt_build.specs.declared.fault.BuildFault.TheVariants.{Declared, Reserved}
use Rattle.smt_build.specs.Names.{SymbolsValue, Meanings, meaning_in, with_sort}
use Rattle.smt_build.specs.Defining.{SortDefinition, is_sort_reserved, next_sort, name_sort, sort_parts, define_sort}
use Rattle.script_state.proofs.Declared.{IsTakenIf, AreTakenNames, taken_value}

-- ---- names of sorts

pub names_push : (ms : Meanings Sort) (x : List ℕ) (s : Sort) → AreTakenNames ms → IsSort s → AreTakenNames (ms ++ (x, s) ∷ [])
names_push [] x s h taken = (taken, tt)
names_push (m ∷ ms) x s h taken = (h.0, names_push ms x s h.1 taken)

-- one name more of a sort that is taken, if it is defined
abbrev OneSort : SymbolsValue → SortDefinition → Type 0
OneSort v (Ok w) = (x : List ℕ) × (s : Sort) × IsSort s × (w ≡ with_sort v x s)
OneSort v (Err f) = Unit {0}

sort_unless : (v : SymbolsValue) (b : Bool) (f : BuildFault) (d : SortDefinition) → OneSort v d → OneSort v (if b then Err f else d)
sort_unless v true f d h = tt
sort_unless v false f d h = h

sort_next : (v : SymbolsValue) (x : List ℕ) (s : Result Sort BuildFault) → IsTakenIf s → OneSort v (s >>= next_sort v x)
sort_next v x (Ok s) h = (x, s, h, refl)
sort_next v x (Err f) h = tt

sort_by_name : (v : SymbolsValue) (x : Sexp) (s : Result Sort BuildFault) → IsTakenIf s → OneSort v (name_sort v x s)
sort_by_name v (atom k x) s h = sort_unless v (is_sort_reserved x) Reserved _ (sort_unless v (is_some (meaning_in v.sorts x)) Declared _ (sort_next v x s h))
sort_by_name v (group es) s h = tt

sort_by_parts : (v : SymbolsValue) (es : Sexps) → AreTakenNames v.sorts → OneSort v (sort_parts v es)
sort_by_parts v none h = tt
sort_by_parts v (more x none) h = tt
sort_by_parts v (more x (more ps none)) h = tt
sort_by_parts v (more x (more ps (more s none))) h = sort_by_name v x _ (taken_value v ps s h)
sort_by_parts v (more x (more ps (more s (more t es)))) h = tt

one_sort : (v : SymbolsValue) (n : CommandName) (es : Sexps) → AreTakenNames v.sorts → OneSort v (define_sort v n es)
unfolding define_sort
one_sort v name.DefineSort es h = sort_by_parts v es h
one_sort v _ es h = tt

pub sort_defined : (v w : SymbolsValue) (n : CommandName) (es : Sexps) → AreTakenNames v.sorts → define_sort v n es ≡ Ok w → OneSort v (Ok w)
sort_defined v w n es h e = let P : SortDefinition → Type 0 = OneSort v in subst P e (one_sort v n es h)

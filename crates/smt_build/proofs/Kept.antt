-- What each call keeps of the definitions: their bodies are terms that are held.
use Rattle.std.proofs.Common.{◌≡◌, ℕ, ◌<◌, ◌-◌, Bool, true, false, List, length, refl, subst, Option, Some, None, Result, Ok, Err}
use Rattle.std.specs.Prelude.{slice_get, if◌then◌else◌}
use Rattle.smt_text.specs.declared.token.CommandName.{CommandName}
use Rattle.smt_text.specs.declared.token.CommandName.TheVariants as name
use Rattle.smt_syntax.specs.Sexps.{Sexp, Sexps, atom, group, none, more}
use Rattle.smt_syntax.specs.Walk.{◌>>=◌}
use Rattle.smt_terms.specs.declared.sort.Sort.{Sort}
use Rattle.smt_terms.specs.Terms.{TermsValue, held_sort}
use Rattle.smt_build.specs.declared.fault.BuildFault.{BuildFault}
use Rattle.smt_build.specs.declared.fault.BuildFault.TheVariants.{Declared, Reserved, WrongSort}
use Rattle.smt_build.specs.declared.symbols.Level.{Level}
use Rattle.smt_build.specs.Operators.{is_reserved}
use Rattle.smt_build.specs.Names.{SymbolsValue, AreBodies, is_taken, with_definition, popped_to, popped}
use Rattle.smt_build.specs.Building.{Built}
use Rattle.smt_build.specs.Grouping.{has_sort}
use Rattle.smt_build.specs.Parameters.{Parameters, sorts_of}
use Rattle.smt_build.specs.Terms.{term_over}
use Rattle.smt_build.specs.Defining.{FunctionDefinition, of_sort, next_function, head_of, function_over, define_function, definition_parts, define}
use Rattle.smt_build.proofs.Growth.{longer}
use Rattle.smt_build.proofs.Uses.{bodies_longer, bodies_push, bodies_take}
use Rattle.smt_build.proofs.Longer.{GoOn, Keeps, keeps_term}

-- one definition more, over terms that go on; its body is one of them, which was read
pub record IsNext (v w : SymbolsValue) (old new : TermsValue) : Type 0 where
  pub name : List ℕ
  pub parameters : List Sort
  pub body : ℕ
  pub symbols : w ≡ with_definition v name (record { parameters = parameters; body = body })
  pub terms : GoOn v.signatures old new
  pub held : body < length new.nodes
  pub read : (ps : Parameters) × (e : Sexp) × (term_over v old ps e ≡ Ok (body, new))

module _ (v : SymbolsValue) (terms : TermsValue) (bodies : AreBodies (length terms.nodes) v.definitions) where
  abbrev IsMore : FunctionDefinition → Type 0
  IsMore (Ok d) = IsNext v d.0 terms d.1
  IsMore (Err f) = Unit {0}

  more_unless : (b : Bool) (f : BuildFault) (d : FunctionDefinition) → IsMore d → IsMore (if b then Err f else d)
  more_unless true f d h = tt
  more_unless false f d h = h

  more_of_sort : (x : List ℕ) (ps : Parameters) (s : Sort) (e : Sexp) (r : ℕ × TermsValue) → term_over v terms ps e ≡ Ok r → Keeps v terms (Ok r) → IsMore (of_sort s r >>= next_function v x ps)
  more_of_sort x ps s e r is h = go (has_sort s (held_sort r.1.nodes r.0)) where
    go : (b : Bool) → IsMore ((if b then Ok r else Err WrongSort) >>= next_function v x ps)
    go true = record { name = x; parameters = sorts_of ps; body = r.0; symbols = refl; terms = h.0; held = h.1; read = (ps, e, is) }
    go false = tt

  more_body : (x : List ℕ) (ps : Parameters) (s : Sort) (e : Sexp) (r : Built) → term_over v terms ps e ≡ r → Keeps v terms r → IsMore ((r >>= of_sort s) >>= next_function v x ps)
  more_body x ps s e (Ok r) is h = more_of_sort x ps s e r is h
  more_body x ps s e (Err f) is h = tt

  more_value : (x : List ℕ) (h : Result (Parameters × Sort) BuildFault) (t : Sexp) → IsMore (h >>= λ h. function_over v terms x h.0 h.1 t)
  more_value x (Ok h) t = more_body x h.0 h.1 t (term_over v terms h.0 t) refl (keeps_term v terms h.0 t bodies)
  more_value x (Err f) t = tt

  more_function : (n : Sexp) (h : Result (Parameters × Sort) BuildFault) (t : Sexp) → IsMore (define_function v terms n h t)
  more_function (atom k x) h t = more_unless (is_reserved x) Reserved _ (more_unless (is_taken v x) Declared _ (more_value x h t))
  more_function (group es) h t = tt

  more_parts : (es : Sexps) → IsMore (definition_parts v terms es)
  more_parts none = tt
  more_parts (more x none) = tt
  more_parts (more x (more ps none)) = tt
  more_parts (more x (more ps (more s none))) = tt
  more_parts (more x (more ps (more s (more t none)))) = more_function x (head_of v ps s) t
  more_parts (more x (more ps (more s (more t (more u es))))) = tt

  more_defined : (n : CommandName) (es : Sexps) → IsMore (define v terms n es)
  unfolding define
  more_defined name.DefineFun es = more_parts es
  more_defined _ es = tt

  pub define_adds : (w : SymbolsValue) (new : TermsValue) (n : CommandName) (es : Sexps) → define v terms n es ≡ Ok (w, new) → IsNext v w terms new
  define_adds w new n es e = let P : FunctionDefinition → Type 0 = IsMore in subst P e (more_defined n es)

-- ---- what is kept

pub next_bodies : (v w : SymbolsValue) (old new : TermsValue) → IsNext v w old new → AreBodies (length old.nodes) v.definitions → AreBodies (length new.nodes) w.definitions
next_bodies v w old new next are = rw next.symbols (bodies_push (length new.nodes) v.definitions next.name _ (bodies_longer (length old.nodes) (length new.nodes) v.definitions (longer v.signatures old new next.terms.grows) are) next.held)

pub define_keeps : (v w : SymbolsValue) (old new : TermsValue) (n : CommandName) (es : Sexps) → define v old n es ≡ Ok (w, new) → AreBodies (length old.nodes) v.definitions → AreBodies (length new.nodes) w.definitions
define_keeps v w old new n es e are = next_bodies v w old new (define_adds v old are w new n es e) are

pub pop_keeps : (v : SymbolsValue) (k n : ℕ) → AreBodies n v.definitions → AreBodies n (popped v k).definitions
pop_keeps v k n are = go (slice_get v.levels (length v.levels - k)) where
  go : (l : Option Level) → AreBodies n (popped_to v (length v.levels - k) l).definitions
  go None = are
  go (Some l) = bodies_take n l.definitions v.definitions are

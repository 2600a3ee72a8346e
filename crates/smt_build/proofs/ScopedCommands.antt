-- What declarations, definitions and assertions make is over the live declarations, where the bodies of definitions are.
use Rattle.std.proofs.Common.{◌≡◌, ℕ, Bool, true, false, List, [], ◌∷◌, ◌++◌, length, refl, subst, Result, Ok, Err}
use Rattle.std.specs.Prelude.{is_some, if◌then◌else◌}
use Rattle.smt_text.specs.declared.token.CommandName.{CommandName}
use Rattle.smt_text.specs.declared.token.CommandName.TheVariants as name
use Rattle.smt_syntax.specs.Sexps.{Sexp, Sexps, atom, group, none, more}
use Rattle.smt_syntax.specs.Walk.{◌>>=◌}
use Rattle.smt_terms.specs.declared.sort.Sort.{Sort}
use Rattle.smt_terms.specs.declared.sort.Signature.{Signature}
use Rattle.smt_terms.specs.declared.node.Node.{Node}
use Rattle.smt_terms.specs.Terms.{TermsValue, IsTermList}
use Rattle.smt_build.specs.declared.fault.BuildFault.{BuildFault}
use Rattle.smt_build.specs.declared.fault.BuildFault.TheVariants.{Declared, Reserved}
use Rattle.smt_build.specs.declared.symbols.LiveName.{LiveName}
use Rattle.smt_build.specs.declared.definition.Definition.{Definition}
use Rattle.smt_build.specs.Names.{Meanings, SymbolsValue, AreBodies, meaning_in, is_taken, with_declaration, with_sort}
use Rattle.smt_build.specs.Operators.{is_reserved}
use Rattle.smt_build.specs.Sorts.{sort_in}
use Rattle.smt_build.specs.Scoped.{is_over, AreOver}
use Rattle.smt_build.specs.Declaring.{Declaration, next, declare_name, of_constant, signature_in, value_sort, constant_parts, function_parts, declare}
use Rattle.smt_build.specs.Defining.{SortDefinition, is_sort_reserved, next_sort, name_sort, sort_parts, define_sort, define}
use Rattle.smt_build.specs.Asserting.{Assertion, assertion}
use Rattle.smt_build.proofs.KeptTerms.{Follows}
use Rattle.smt_build.proofs.Kept.{define_adds}
use Rattle.smt_build.proofs.Assertions.{AllKept, assertion_has}
use Rattle.smt_build.proofs.Scoped.{IsOver, over_kept, bodies_are_over, bodies_over, bodies_over_grows, bodies_over_more, read_is_over}

-- ---- declarations

-- one declaration more
abbrev pub Declares : SymbolsValue → Declaration → Type 0
Declares v r = Follows (λ r. (x : List ℕ) × (g : Signature) × (r.1 ≡ with_declaration v x g)) r

module _ (v : SymbolsValue) where
  declares_unless : (b : Bool) (f : BuildFault) (d : Declaration) → Declares v d → Declares v (if b then Err f else d)
  declares_unless true f d h = tt
  declares_unless false f d h = h

  declares_next : (x : List ℕ) (r : Result Signature BuildFault) → Declares v (r >>= next v x)
  declares_next x (Ok g) = (x, g, refl)
  declares_next x (Err f) = tt

  declares_name : (n : Sexp) (r : Result Signature BuildFault) → Declares v (declare_name v n r)
  declares_name (atom k x) r = declares_unless (is_reserved x) Reserved _ (declares_unless (is_taken v x) Declared _ (declares_next x r))
  declares_name (group es) r = tt

  declares_constant_parts : (es : Sexps) → Declares v (constant_parts v es)
  declares_constant_parts (more x (more s none)) = declares_name x (of_constant (sort_in v s))
  declares_constant_parts _ = tt

  declares_function_parts : (es : Sexps) → Declares v (function_parts v es)
  declares_function_parts (more x (more args (more s none))) = declares_name x (signature_in v args s)
  declares_function_parts _ = tt

  declares : (n : CommandName) (es : Sexps) → Declares v (declare v n es)
  unfolding declare
  declares name.DeclareConst es = declares_constant_parts es
  declares name.DeclareFun es = declares_function_parts es
  declares _ es = tt

  pub declare_adds : (w : SymbolsValue) (d : ℕ) (n : CommandName) (es : Sexps) → declare v n es ≡ Ok (d, w) → (x : List ℕ) × (g : Signature) × (w ≡ with_declaration v x g)
  declare_adds w d n es is = let P : Declaration → Type 0 = Declares v in subst P is (declares n es)

  pub declare_is_over : (w : SymbolsValue) (nodes : List Node) (d : ℕ) (n : CommandName) (es : Sexps) → declare v n es ≡ Ok (d, w) → AreOver v.live nodes v.definitions → AreOver w.live nodes w.definitions
  declare_is_over w nodes d n es is over = let h = declare_adds w d n es is in rw h.2 (bodies_over_more v.live (record { name = h.0; declaration = length v.signatures } ∷ []) nodes v.definitions over)

-- ---- names of sorts

-- one sort's name more
abbrev NamesSort : SymbolsValue → SortDefinition → Type 0
NamesSort v r = Follows (λ w. (x : List ℕ) × (s : Sort) × (w ≡ with_sort v x s)) r

module _ (v : SymbolsValue) where
  names_unless : (b : Bool) (f : BuildFault) (d : SortDefinition) → NamesSort v d → NamesSort v (if b then Err f else d)
  names_unless true f d h = tt
  names_unless false f d h = h

  names_next : (x : List ℕ) (s : Result Sort BuildFault) → NamesSort v (s >>= next_sort v x)
  names_next x (Ok s) = (x, s, refl)
  names_next x (Err f) = tt

  names_sort : (n : Sexp) (s : Result Sort BuildFault) → NamesSort v (name_sort v n s)
  names_sort (atom k x) s = names_unless (is_sort_reserved x) Reserved _ (names_unless (is_some (meaning_in v.sorts x)) Declared _ (names_next x s))
  names_sort (group es) s = tt

  names_parts : (es : Sexps) → NamesSort v (sort_parts v es)
  names_parts (more x (more ps (more s none))) = names_sort x (value_sort v ps s)
  names_parts _ = tt

  names_defined : (n : CommandName) (es : Sexps) → NamesSort v (define_sort v n es)
  unfolding define_sort
  names_defined name.DefineSort es = names_parts es
  names_defined _ es = tt

  pub sort_adds : (w : SymbolsValue) (n : CommandName) (es : Sexps) → define_sort v n es ≡ Ok w → (x : List ℕ) × (s : Sort) × (w ≡ with_sort v x s)
  sort_adds w n es is = let P : SortDefinition → Type 0 = NamesSort v in subst P is (names_defined n es)

  pub sort_is_over : (w : SymbolsValue) (nodes : List Node) (n : CommandName) (es : Sexps) → define_sort v n es ≡ Ok w → AreOver v.live nodes v.definitions → AreOver w.live nodes w.definitions
  sort_is_over w nodes n es is over = let h = sort_adds w n es is in rw h.2 over

-- ---- definitions

over_push : (live : List LiveName) (nodes : List Node) (ds : Meanings Definition) (x : List ℕ) (f : Definition) → AreOver live nodes ds → is_over live nodes f.body ≡ true → AreOver live nodes (ds ++ (x, f) ∷ [])
over_push live nodes [] x f over here = (here, tt)
over_push live nodes (d ∷ ds) x f over here = (over.0, over_push live nodes ds x f over.1 here)

pub define_is_over : (v w : SymbolsValue) (old new : TermsValue) (n : CommandName) (es : Sexps) → IsTermList old.nodes → AreBodies (length old.nodes) v.definitions → AreOver v.live old.nodes v.definitions → define v old n es ≡ Ok (w, new) → AreOver w.live new.nodes w.definitions
define_is_over v w old new n es list bodies over is =
    let h = define_adds v old bodies w new n es is in
    let here = read_is_over v old new h.read.0 h.read.1 h.body list bodies over h.read.2 in
    rw h.symbols (over_push v.live new.nodes v.definitions h.name _ (bodies_over_grows v.signatures v.live old new v.definitions h.terms.grows bodies over) here)

-- ---- assertions

-- the term is over the live declarations, and so are the definitions then
pub record AssertsOver (v w : SymbolsValue) (new : TermsValue) (t : ℕ) : Type 0 where
  pub live : w.live ≡ v.live
  pub term : is_over w.live new.nodes t ≡ true
  pub definitions : AreOver w.live new.nodes w.definitions

pub assertion_is_over : (v w : SymbolsValue) (old new : TermsValue) (e : Sexp) (t : ℕ) → IsTermList old.nodes → AreBodies (length old.nodes) v.definitions → AreOver v.live old.nodes v.definitions → assertion v old e ≡ Ok (t, w, new) → AssertsOver v w new t
assertion_is_over v w old new e t list bodies over is =
    let P : Assertion → Type 0 = AllKept v (IsOver v.live) old in
    let h = subst P is (assertion_has v (IsOver v.live) (over_kept v) old e (bodies_are_over v old v.definitions bodies over)) in
    let sorted : IsTermList new.nodes = h.0.list list in
    record {
      live = h.3;
      term = rw h.3 (h.1.1 sorted);
      definitions = rw h.3 (bodies_over v new w.definitions sorted h.2);
    }

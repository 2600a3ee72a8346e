-- The reader of terms, a token at a time.
use Rattle.std.specs.Prelude.{ℕ, Bool, true, false, List, [], ◌∷◌, ◌++◌, length, take, drop, Result, Ok, Err, if◌then◌else◌}
use Rattle.smt_text.specs.declared.token.TokenKind.{TokenKind}
use Rattle.smt_text.specs.declared.token.TokenKind.TheVariants as kind
use Rattle.smt_syntax.specs.Shapes.{is_const}
use Rattle.smt_syntax.specs.Walk.{Reader, ◌>>=◌}
use Rattle.smt_terms.specs.Terms.{TermsValue}
use Rattle.smt_build.specs.declared.fault.BuildFault.{BuildFault}
use Rattle.smt_build.specs.declared.fault.BuildFault.TheVariants.{NotSupported}
use Rattle.smt_build.specs.declared.reader.Want.{Want}
use Rattle.smt_build.specs.declared.reader.Want.TheVariants as want
use Rattle.smt_build.specs.declared.scope.Scope.{Scope}
use Rattle.smt_build.specs.Names.{SymbolsValue}
use Rattle.smt_build.specs.Indices.{Indices, one, with_index, Head, plain, indexed, everywhere}
use Rattle.smt_build.specs.SortParts.{SortPart, word, listed, SortParts, no_part, with_part, sort_of_part, sort_of_parts}
use Rattle.smt_build.specs.Binding.{Bound, new_variable, Progress, Read, word_in, application_in, indexed_in_scope, naming, is_label}

-- what a part of a list was read as
pub data Part : Type 0 where
  term : ℕ → Part
  head : Head → Part
  mark : Part
  name : List ℕ → Part
  index : List ℕ → Part
  let_word : Part
  binding : List ℕ → ℕ → Part
  bindings : ℕ → Part
  bang_word : Part
  label : Part
  passed : Part
  as_word : Part
  const_word : Part
  sort_part : SortPart → Part

-- whether a name with indices stands as a term, or as the head of a list
pub data Role : Type 0 where
  a_term a_head : Role

-- an open list, with what was read of it
pub data Open : Type 0 where
  started : Open
  head_started : Open
  marked : Role → Open
  named : Role → List ℕ → Open
  with_indices : Role → List ℕ → Indices → Open
  application : Head → List ℕ → Open
  let_started : Open
  let_bound : ℕ → Open
  let_done : ℕ → ℕ → Open
  in_bindings : ℕ → Open
  binding_started : ℕ → Open
  binding_named : List ℕ → Open
  binding_done : List ℕ → ℕ → Open
  bang_started : Open
  annotated : ℕ → Open
  labelled : ℕ → Open
  unread : Open
  as_started : Open
  const_read : Open
  const_sorted : SortPart → Open
  sort_list : Bool → SortParts → Open

-- the terms, and what names mean within the term
pub record State : Type 0 where
  pub terms : TermsValue
  pub scope : Scope

abbrev pub progress : State → Progress
progress s = record { terms = s.terms; names = s.scope.names; parameters = s.scope.parameters }

-- more was made under the same variables
abbrev pub state : Progress → Bound → Bound → State
state p bound coming = record { terms = p.terms; scope = record { bound = bound; coming = coming; names = p.names; parameters = p.parameters } }

abbrev pub after : State → Progress → State
after s p = state p s.scope.bound s.scope.coming

abbrev pub as_part : State → Read → Result (Part × State) BuildFault
as_part s r = r >>= λ q. Ok (term q.0, after s q.1)

-- a list of bindings begins behind the bindings that are read already
unfoldable pub opens : Want → State → Result (Open × State) BuildFault
opens want.Term s = Ok (started, s)
opens want.Head s = Ok (head_started, s)
opens want.Bindings s = Ok (in_bindings (length s.scope.coming), s)
opens (want.Binding n) s = Ok (binding_started n, s)
opens want.Attribute s = Ok (unread, s)
opens want.Anything s = Ok (unread, s)
opens (want.Sort whole) s = Ok (sort_list whole no_part, s)
opens _ s = Err NotSupported

unfoldable pub context : Open → Want
context started = want.Head
context head_started = want.Mark
context (marked r) = want.Name
context (named r f) = want.Index
context (with_indices r f is) = want.Index
context (application f args) = want.Term
context let_started = want.Bindings
context (let_bound n) = want.Term
context (let_done n t) = want.Nothing
context (in_bindings n) = want.Binding n
context (binding_started n) = want.Variable n
context (binding_named x) = want.Term
context (binding_done x t) = want.Nothing
context bang_started = want.Term
context (annotated t) = want.Attribute
context (labelled t) = want.Label t
context unread = want.Anything
context as_started = want.Const
context const_read = want.Sort true
context (const_sorted p) = want.Nothing
context (sort_list whole ps) = want.Sort false

abbrev pub with_binding : State → List ℕ → ℕ → State
with_binding s x t = record { terms = s.terms; scope = record { bound = s.scope.bound; coming = s.scope.coming ++ (x, t) ∷ []; names = s.scope.names; parameters = s.scope.parameters } }

unfoldable pub takes : Open → Part → State → Result (Open × State) BuildFault
takes started (head f) s = Ok (application f [], s)
takes started mark s = Ok (marked a_term, s)
takes started let_word s = Ok (let_started, s)
takes started bang_word s = Ok (bang_started, s)
takes head_started mark s = Ok (marked a_head, s)
takes head_started as_word s = Ok (as_started, s)
takes (marked r) (name f) s = Ok (named r f, s)
takes (named r f) (index i) s = Ok (with_indices r f (one i), s)
takes (with_indices r f is) (index i) s = Ok (with_indices r f (with_index is i), s)
takes (application f args) (term t) s = Ok (application f (args ++ t ∷ []), s)
takes let_started (bindings n) s = Ok (let_bound n, s)
takes (let_bound n) (term t) s = Ok (let_done n t, s)
takes (in_bindings n) (binding x t) s = Ok (in_bindings n, with_binding s x t)
takes (binding_started n) (name x) s = Ok (binding_named x, s)
takes (binding_named x) (term t) s = Ok (binding_done x t, s)
takes bang_started (term t) s = Ok (annotated t, s)
takes (annotated t) label s = Ok (labelled t, s)
takes (annotated t) passed s = Ok (annotated t, s)
takes (labelled t) passed s = Ok (annotated t, s)
takes unread passed s = Ok (unread, s)
takes as_started const_word s = Ok (const_read, s)
takes const_read (sort_part p) s = Ok (const_sorted p, s)
takes (sort_list whole ps) (sort_part p) s = Ok (sort_list whole (with_part ps p), s)
takes _ _ s = Err NotSupported

-- the variables of the list of bindings from this place on are bound from now on
abbrev pub with_bindings : State → ℕ → State
with_bindings s n = record { terms = s.terms; scope = record { bound = s.scope.bound ++ drop n s.scope.coming; coming = take n s.scope.coming; names = s.scope.names; parameters = s.scope.parameters } }

-- the variables from this place on are bound no more
abbrev pub without_bindings : State → ℕ → State
without_bindings s n = record { terms = s.terms; scope = record { bound = take n s.scope.bound; coming = s.scope.coming; names = s.scope.names; parameters = s.scope.parameters } }

module _ (symbols : SymbolsValue) where
  unfoldable pub closes : Open → State → Result (Part × State) BuildFault
  closes (with_indices a_term f is) s = as_part s (indexed_in_scope symbols s.scope.bound (progress s) (indexed f is))
  closes (with_indices a_head f is) s = Ok (head (indexed f is), s)
  closes (application f args) s = as_part s (application_in symbols s.scope.bound (progress s) f args)
  closes (let_done n t) s = Ok (term t, without_bindings s n)
  closes (in_bindings n) s = Ok (bindings (length s.scope.bound), with_bindings s n)
  closes (binding_done x t) s = Ok (binding x t, s)
  closes (annotated t) s = Ok (term t, s)
  closes unread s = Ok (passed, s)
  closes (const_sorted p) s = sort_of_part symbols.sorts p >>= λ r. Ok (head (everywhere r), s)
  closes (sort_list whole ps) s = Ok (sort_part (listed (sort_of_parts symbols whole ps)), s)
  closes _ s = Err NotSupported

module _ (symbols : SymbolsValue) (may_name : Bool) where
  unfoldable pub at_word : Want → State → TokenKind → List ℕ → Result (Part × State) BuildFault
  at_word want.Term s k x = as_part s (word_in symbols s.scope.bound (progress s) k x)
  at_word want.Head s kind.Symbol x = Ok (head (plain x), s)
  at_word want.Head s kind.Underscore x = Ok (mark, s)
  at_word want.Head s kind.Let x = Ok (let_word, s)
  at_word want.Head s kind.Bang x = Ok (bang_word, s)
  at_word want.Mark s kind.Underscore x = Ok (mark, s)
  at_word want.Mark s kind.As x = Ok (as_word, s)
  at_word want.Name s kind.Symbol x = Ok (name x, s)
  at_word want.Index s kind.Numeral x = Ok (index x, s)
  at_word (want.Variable n) s k x = new_variable (drop n s.scope.coming) x >>= λ y. Ok (name y, s)
  at_word want.Attribute s k x = Ok (if is_label k x then label else passed, s)
  at_word (want.Label t) s k x = naming symbols may_name t (progress s) x >>= λ p. Ok (passed, after s p)
  at_word want.Anything s k x = Ok (passed, s)
  at_word want.Const s k x = if is_const k x then Ok (const_word, s) else Err NotSupported
  at_word (want.Sort whole) s k x = Ok (sort_part (word k x), s)
  at_word _ s _ x = Err NotSupported

  abbrev pub term_reader : Reader Want Open Part State BuildFault
  term_reader = record { at_word = at_word; opens = opens; context = context; takes = takes; closes = closes symbols; stuck = NotSupported }

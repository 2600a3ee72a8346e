-- The definition that tokens ask for.
use Rattle.std.proofs.Common.{◌≡◌, ℕ, ◌≤◌, ◌<◌, true, false, List, [], ◌∷◌, length, get_or, refl, ap, sym, ◌∙◌, subst, Result, Ok, Err}
use Rattle.std.specs.Prelude.{is_some}
use Rattle.smt_text.specs.declared.token.Token.{Token}
use Rattle.smt_text.specs.declared.token.CommandName.{CommandName}
use Rattle.smt_text.specs.declared.token.CommandName.TheVariants as name
use Rattle.smt_syntax.specs.declared.span.Span.{Span}
use Rattle.smt_syntax.specs.declared.command.Command.{Command}
use Rattle.smt_syntax.specs.declared.command.Command.TheVariants as command
use Rattle.smt_syntax.specs.Sexps.{Sign, Sexp, Sexps, atom, group, none, more, spelling, signs_in}
use Rattle.smt_syntax.specs.Walk.{◌>>=◌}
use Rattle.smt_syntax.specs.Spans.{AllStand, Stands}
use Rattle.smt_syntax.specs.Commands.{name_of, spans_of}
use Rattle.smt_terms.specs.declared.sort.Sort.{Sort}
use Rattle.smt_terms.specs.Terms.{TermsValue, held_sort}
use Rattle.smt_build.specs.declared.fault.BuildFault.{BuildFault}
use Rattle.smt_build.specs.declared.fault.BuildFault.TheVariants.{Declared, Reserved, WrongSort, NotSupported}
use Rattle.smt_build.specs.declared.fault.BuildError.{BuildError}
use Rattle.smt_build.specs.declared.fault.BuildError.TheVariants.{NoMemory, Fault}
use Rattle.smt_build.specs.Names.{SymbolsValue, meaning_in, is_taken, with_definition}
use Rattle.smt_build.specs.Building.{Builds}
use Rattle.smt_build.specs.Grouping.{has_sort}
use Rattle.smt_build.specs.Terms.{term_over}
use Rattle.smt_build.specs.Operators.{is_reserved}
use Rattle.smt_build.specs.Declaring.{value_sort}
use Rattle.smt_build.specs.Sorts.{sort_in}
use Rattle.smt_build.specs.Parameters.{Parameters, sorts_of, parameters_in, Lists}
use Rattle.smt_build.specs.Defining.{is_sort_reserved, next_sort, sort_named, name_sort, define_sort, DefinesSort, body_of, function_over, value_over, head_of, function, define_function, define, Heads, Defines}
use Rattle.smt_build.proofs.Declarations.{name_is}

-- ---- names of sorts

pub no_sort_name : (v : SymbolsValue) (ts : List Token) (n : Sexp) (s : Result Sort BuildFault) → signs_in ts ≡ spelling n → (length ts ≡ 1 → ⊥) → name_sort v n s ≡ Err NotSupported
no_sort_name v [] (atom k x) s e m = absurd (let z : ⊥ = cc in z)
no_sort_name v (t ∷ []) (atom k x) s e m = absurd (m refl)
no_sort_name v (t ∷ u ∷ ts) (atom k x) s e m = absurd (let z : ⊥ = cc in z)
no_sort_name v ts (group es) s e m = refl

module _ (v : SymbolsValue) (ts : List Token) (d : Token) (a : 1 ≤ length ts) (b : length ts < 2) (n : Sexp) (s : Result Sort BuildFault) (e : signs_in ts ≡ spelling n) where
  abbrev sort_text : List ℕ
  sort_text = (get_or ts 0 d).text.now

  as_sort : name_sort v n s ≡ sort_named v sort_text s
  as_sort = ap (λ m. name_sort v m s) (name_is ts d a b n e)

  pub reserved_sort : is_sort_reserved sort_text ≡ true → name_sort v n s ≡ Err Reserved
  reserved_sort f = as_sort ∙ rw f refl

  pub known_sort : is_sort_reserved sort_text ≡ false → is_some (meaning_in v.sorts sort_text) ≡ true → name_sort v n s ≡ Err Declared
  known_sort f g = as_sort ∙ rw (f, g) refl

  pub faulty_sort : is_sort_reserved sort_text ≡ false → is_some (meaning_in v.sorts sort_text) ≡ false → (y : BuildFault) → s ≡ Err y → name_sort v n s ≡ Err y
  faulty_sort f g y h = as_sort ∙ rw (f, g, h) refl

  pub new_sort : is_sort_reserved sort_text ≡ false → is_some (meaning_in v.sorts sort_text) ≡ false → (r : Sort) → s ≡ Ok r → name_sort v n s ≡ next_sort v sort_text r
  new_sort f g r h = as_sort ∙ rw (f, g, h) refl

pub defines_sort : (tokens : List Sign) (a b c : Span) (es : Sexps) → AllStand tokens (a ∷ b ∷ c ∷ []) es → (r : Result (Unit {0}) BuildError) (old new : SymbolsValue) (value : Result Sort BuildFault)
    → ((n : Sexp) → Stands tokens a n → DefinesSort (name_sort old n value) r old new) → ((p s : Sexp) → Stands tokens b p → Stands tokens c s → value ≡ value_sort old p s) → DefinesSort (define_sort old name.DefineSort es) r old new
unfolding define_sort
defines_sort tokens a b c none h r old new value k v = absurd h
defines_sort tokens a b c (more n none) h r old new value k v = absurd h.1
defines_sort tokens a b c (more n (more p none)) h r old new value k v = absurd h.1.1
defines_sort tokens a b c (more n (more p (more s none))) h r old new value k v = subst (λ q. DefinesSort (name_sort old n q) r old new) (v p s h.1.0 h.1.1.0) (k n h.0)
defines_sort tokens a b c (more n (more p (more s (more t es)))) h r old new value k v = absurd h.1.1.1

no_sort_parts : (v : SymbolsValue) (n : CommandName) → define_sort v n none ≡ Err NotSupported
unfolding define_sort
no_sort_parts v name.DefineSort = refl
no_sort_parts v _ = refl

pub no_sort_command : (tokens : List Sign) (v : SymbolsValue) (c : Command) → ((a b d : Span) → c ≡ command.DefineSort a b d → ⊥) → (es : Sexps) → AllStand tokens (spans_of c) es → define_sort v (name_of c) es ≡ Err NotSupported
unfolding define_sort
no_sort_command tokens v (command.DefineSort a b d) k es h = absurd (k a b d refl)
no_sort_command tokens v (command.NotSupported n) k none h = no_sort_parts v n
no_sort_command tokens v (command.NotSupported n) k (more e es) h = absurd h
no_sort_command tokens v _ k es h = refl

-- ---- names of functions

pub no_function_name : (v : SymbolsValue) (terms : TermsValue) (ts : List Token) (n : Sexp) (s : Result (Parameters × Sort) BuildFault) (t : Sexp) → signs_in ts ≡ spelling n → (length ts ≡ 1 → ⊥) → define_function v terms n s t ≡ Err NotSupported
no_function_name v terms [] (atom k x) s t e m = absurd (let z : ⊥ = cc in z)
no_function_name v terms (u ∷ []) (atom k x) s t e m = absurd (m refl)
no_function_name v terms (u ∷ w ∷ ts) (atom k x) s t e m = absurd (let z : ⊥ = cc in z)
no_function_name v terms ts (group es) s t e m = refl

module _ (v : SymbolsValue) (terms : TermsValue) (ts : List Token) (d : Token) (a : 1 ≤ length ts) (b : length ts < 2) (n : Sexp) (s : Result (Parameters × Sort) BuildFault) (t : Sexp) (e : signs_in ts ≡ spelling n) where
  abbrev text : List ℕ
  text = (get_or ts 0 d).text.now

  as_function : define_function v terms n s t ≡ function v terms text s t
  as_function = ap (λ m. define_function v terms m s t) (name_is ts d a b n e)

  pub reserved_function : is_reserved text ≡ true → define_function v terms n s t ≡ Err Reserved
  reserved_function f = as_function ∙ rw f refl

  pub known_function : is_reserved text ≡ false → is_taken v text ≡ true → define_function v terms n s t ≡ Err Declared
  known_function f g = as_function ∙ rw (f, g) refl

  pub head_unread : is_reserved text ≡ false → is_taken v text ≡ false → (x : BuildError) (ps : Parameters) (w : SymbolsValue) (new : TermsValue) → Heads s (Err x) ps → w ≡ v → new ≡ terms → Defines (define_function v terms n s t) (Err x) (v, terms) (w, new)
  head_unread f g NoMemory ps w new h p q = (p, q)
  head_unread f g (Fault y) ps w new h p q = (as_function ∙ rw (f, g, h) refl, p, q)

  pub head_read : is_reserved text ≡ false → is_taken v text ≡ false → (ps : Parameters) (r : Sort) → s ≡ Ok (ps, r) → (result : Result (Unit {0}) BuildError) (new : SymbolsValue × TermsValue) → Defines (function_over v terms text ps r t) result (v, terms) new → Defines (define_function v terms n s t) result (v, terms) new
  head_read f g ps r h result new d = subst (λ q. Defines q result (v, terms) new) (sym (as_function ∙ rw (f, g, h) refl)) d

module _ (v : SymbolsValue) (terms : TermsValue) (x : List ℕ) (ps : Parameters) (s : Sort) (t : Sexp) (w : SymbolsValue) (new : TermsValue) where
  pub function_fails : (y : BuildError) → Builds (body_of v terms ps s t) (Err y) terms new → w ≡ v → Defines (function_over v terms x ps s t) (Err y) (v, terms) (w, new)
  function_fails NoMemory m same = (same, m)
  function_fails (Fault y) m same = (rw m.0 refl, same, m.1)

  pub function_defined : (q : ℕ) (sorts : List Sort) → Builds (body_of v terms ps s t) (Ok q) terms new → sorts ≡ sorts_of ps → w ≡ with_definition v x (record { parameters = sorts; body = q }) → function_over v terms x ps s t ≡ Ok (w, new)
  function_defined q sorts m are same = rw (m, same, are) refl

module _ (v : SymbolsValue) (terms : TermsValue) (ps : Parameters) (s : Sort) (t : Sexp) where
  pub body_fails : (x : BuildError) (new : TermsValue) → Builds (term_over v terms ps t) (Err x) terms new → Builds (body_of v terms ps s t) (Err x) terms new
  body_fails NoMemory new m = m
  body_fails (Fault f) new m = (rw m.0 refl, m.1)

  pub body_wrong : (r : ℕ) (mid : TermsValue) → Builds (term_over v terms ps t) (Ok r) terms mid → has_sort s (held_sort mid.nodes r) ≡ false → body_of v terms ps s t ≡ Err WrongSort
  body_wrong r mid m h = rw (m, h) refl

  pub body_right : (r : ℕ) (mid : TermsValue) → Builds (term_over v terms ps t) (Ok r) terms mid → has_sort s (held_sort mid.nodes r) ≡ true → body_of v terms ps s t ≡ Ok (r, mid)
  body_right r mid m h = rw (m, h) refl

-- ---- parameters and sorts

module _ (v : SymbolsValue) (p s : Sexp) (ps : Parameters) where
  pub head_list_fails : (x : BuildError) → Lists (parameters_in v p) (Err x) ps → Heads (head_of v p s) (Err x) ps
  head_list_fails NoMemory h = tt
  head_list_fails (Fault f) h = rw h refl

  pub head_sort_fails : (f : BuildFault) (r o : Result Sort BuildFault) → parameters_in v p ≡ Ok ps → o ≡ sort_in v s → r ≡ value_over ps o → r ≡ Err f → head_of v p s ≡ Err f
  head_sort_fails f r o h k m e = let q : value_over ps (sort_in v s) ≡ Err f = ap (value_over ps) (sym k) ∙ sym m ∙ e in rw h (ap (λ z. z >>= λ s. Ok (ps, s)) q)

  pub head_is : (t : Sort) (r o : Result Sort BuildFault) → parameters_in v p ≡ Ok ps → o ≡ sort_in v s → r ≡ value_over ps o → r ≡ Ok t → head_of v p s ≡ Ok (ps, t)
  head_is t r o h k m e = let q : value_over ps (sort_in v s) ≡ Ok t = ap (value_over ps) (sym k) ∙ sym m ∙ e in rw h (ap (λ z. z >>= λ s. Ok (ps, s)) q)

-- ---- commands

pub defines_function : (tokens : List Sign) (a b c d : Span) (es : Sexps) → AllStand tokens (a ∷ b ∷ c ∷ d ∷ []) es → (r : Result (Unit {0}) BuildError) (old new : SymbolsValue × TermsValue)
    → ((n p s t : Sexp) → Stands tokens a n → Stands tokens b p → Stands tokens c s → Stands tokens d t → Defines (define_function old.0 old.1 n (head_of old.0 p s) t) r old new) → Defines (define old.0 old.1 name.DefineFun es) r old new
unfolding define
defines_function tokens a b c d none h r old new k = absurd h
defines_function tokens a b c d (more n none) h r old new k = absurd h.1
defines_function tokens a b c d (more n (more p none)) h r old new k = absurd h.1.1
defines_function tokens a b c d (more n (more p (more s none))) h r old new k = absurd h.1.1.1
defines_function tokens a b c d (more n (more p (more s (more t none)))) h r old new k = k n p s t h.0 h.1.0 h.1.1.0 h.1.1.1.0
defines_function tokens a b c d (more n (more p (more s (more t (more u es))))) h r old new k = absurd h.1.1.1.1

no_parts : (v : SymbolsValue) (terms : TermsValue) (n : CommandName) → define v terms n none ≡ Err NotSupported
unfolding define
no_parts v terms name.DefineFun = refl
no_parts v terms _ = refl

pub no_definition : (tokens : List Sign) (v : SymbolsValue) (terms : TermsValue) (c : Command) → ((a b d e : Span) → c ≡ command.DefineFun a b d e → ⊥) → (es : Sexps) → AllStand tokens (spans_of c) es → define v terms (name_of c) es ≡ Err NotSupported
unfolding define
no_definition tokens v terms (command.DefineFun a b d e) k es h = absurd (k a b d e refl)
no_definition tokens v terms (command.NotSupported n) k none h = no_parts v terms n
no_definition tokens v terms (command.NotSupported n) k (more e es) h = absurd h
no_definition tokens v terms _ k es h = refl

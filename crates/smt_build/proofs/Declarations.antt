-- The declaration that tokens ask for.
use Rattle.std.proofs.Common.{◌≡◌, ℕ, ◌≤◌, ◌<◌, suc, Bool, true, false, List, [], ◌∷◌, ◌++◌, length, length-append, get_or, refl, ap, sym, subst, ◌∙◌, arith, Option, Some, None, Result, Ok, Err}
use Rattle.std.specs.Prelude.{is_some, ◌||◌}
use Rattle.smt_text.specs.declared.token.Token.{Token}
use Rattle.smt_text.specs.declared.token.CommandName.{CommandName}
use Rattle.smt_text.specs.declared.token.CommandName.TheVariants as name
use Rattle.smt_syntax.specs.declared.span.Span.{Span}
use Rattle.smt_syntax.specs.declared.command.Command.{Command}
use Rattle.smt_syntax.specs.declared.command.Command.TheVariants as command
use Rattle.smt_syntax.specs.Sexps.{Sign, open_paren, close_paren, Sexp, Sexps, atom, group, none, more, spelling, spellings, sign_in, signs_in}
use Rattle.smt_syntax.specs.Spans.{AllStand, Stands}
use Rattle.smt_syntax.specs.Commands.{name_of, spans_of}
use Rattle.smt_syntax.proofs.CommandReadings.{length-signs, some_signs}
use Rattle.smt_terms.specs.declared.sort.Sort.{Sort}
use Rattle.smt_terms.specs.declared.sort.Signature.{Signature}
use Rattle.smt_build.specs.declared.fault.BuildFault.{BuildFault}
use Rattle.smt_build.specs.declared.fault.BuildFault.TheVariants.{Declared, Reserved, NotSupported}
use Rattle.smt_build.specs.declared.fault.BuildError.{BuildError}
use Rattle.smt_build.specs.declared.definition.Definition.{Definition}
use Rattle.smt_build.specs.Names.{SymbolsValue, declaration_of, meaning_in, is_taken}
use Rattle.smt_build.specs.Operators.{is_reserved}
use Rattle.smt_build.specs.Sorts.{sort_in}
use Rattle.smt_build.specs.Naming.{parts_of}
use Rattle.smt_build.specs.Declaring.{next, named, declare_name, value_sort, of_constant, plain_in, next_argument, of_function, signature_in, declare, Declares}
use Rattle.smt_build.proofs.Spellings.{one_word, not_end}

-- one token of a slice is a word
pub name_is : (ts : List Token) (d : Token) → 1 ≤ length ts → length ts < 2 → (n : Sexp) → signs_in ts ≡ spelling n → n ≡ atom (get_or ts 0 d).kind (get_or ts 0 d).text.now
name_is [] d h k n e = absurd (omega arith)
name_is (t ∷ []) d h k n e = one_word t.kind t.text.now n e
name_is (t ∷ u ∷ ts) d h k n e = absurd (omega arith)

-- other tokens are no name
pub no_name : (v : SymbolsValue) (ts : List Token) (n : Sexp) (r : Result Signature BuildFault) → signs_in ts ≡ spelling n → (length ts ≡ 1 → ⊥) → declare_name v n r ≡ Err NotSupported
no_name v [] (atom k x) r e m = absurd (let z : ⊥ = cc in z)
no_name v (t ∷ []) (atom k x) r e m = absurd (m refl)
no_name v (t ∷ u ∷ ts) (atom k x) r e m = absurd (let z : ⊥ = cc in z)
no_name v ts (group es) r e m = refl

module _ (v : SymbolsValue) (ts : List Token) (d : Token) (a : 1 ≤ length ts) (b : length ts < 2) (n : Sexp) (r : Result Signature BuildFault) (e : signs_in ts ≡ spelling n) where
  abbrev text : List ℕ
  text = (get_or ts 0 d).text.now

  as_named : declare_name v n r ≡ named v text r
  as_named = ap (λ m. declare_name v m r) (name_is ts d a b n e)

  pub reserved_name : is_reserved text ≡ true → declare_name v n r ≡ Err Reserved
  reserved_name f = as_named ∙ rw f refl

  pub declared_name : is_reserved text ≡ false → is_taken v text ≡ true → declare_name v n r ≡ Err Declared
  declared_name f g = as_named ∙ rw (f, g) refl

  pub no_signature : is_reserved text ≡ false → is_taken v text ≡ false → (y : BuildFault) → r ≡ Err y → declare_name v n r ≡ Err y
  no_signature f g y h = as_named ∙ rw (f, g, h) refl

  pub new_name : is_reserved text ≡ false → is_taken v text ≡ false → (q : Signature) → r ≡ Ok q → declare_name v n r ≡ next v text q
  new_name f g q h = as_named ∙ rw (f, g, h) refl

-- a name that is not taken is not declared
pub not_declared : (v : SymbolsValue) (x : List ℕ) → is_taken v x ≡ false → declaration_of v.live x ≡ None
unfolding is_taken
not_declared v x e = go (declaration_of v.live x) e where
  go : (d : Option ℕ) → (is_some d || is_some (meaning_in v.definitions x)) ≡ false → d ≡ None
  go None h = refl
  go (Some d) h = absurd (let z : ⊥ = cc in z)

-- nor is it defined
pub not_defined : (v : SymbolsValue) (x : List ℕ) → is_taken v x ≡ false → meaning_in v.definitions x ≡ None
unfolding is_taken
not_defined v x e = go (is_some (declaration_of v.live x)) (meaning_in v.definitions x) e where
  go : (b : Bool) (d : Option Definition) → (b || is_some d) ≡ false → d ≡ None
  go b None h = refl
  go true (Some d) h = absurd (let z : ⊥ = cc in z)
  go false (Some d) h = absurd (let z : ⊥ = cc in z)

-- ---- signatures

-- two tokens are an empty list, and no other number is
pub no_arguments : (ts : List Token) (a : Sexp) → length ts ≡ 2 → signs_in ts ≡ spelling a → a ≡ group none
no_arguments ts (atom k x) l e = absurd (let p : 2 ≡ 1 = sym l ∙ sym (length-signs ts) ∙ ap length e in let z : ⊥ = omega arith in z)
no_arguments ts (group none) l e = refl
no_arguments ts (group (more x es)) l e = absurd (
    let p : 2 ≡ suc (length ((spelling x ++ spellings es) ++ close_paren ∷ [])) = sym l ∙ sym (length-signs ts) ∙ ap length e in
    let q : 1 ≤ length (spelling x) = some_signs x in
    let z : ⊥ = omega (arith, length-append (spelling x ++ spellings es) (close_paren ∷ []), length-append (spelling x) (spellings es)) in z)

pub some_arguments : (v : SymbolsValue) (ts : List Token) (a s : Sexp) → (length ts ≡ 2 → ⊥) → signs_in ts ≡ spelling a → value_sort v a s ≡ Err NotSupported
some_arguments v ts (atom k x) s l e = refl
some_arguments v ts (group none) s l e = absurd (l (sym (length-signs ts) ∙ ap length e))
some_arguments v ts (group (more x es)) s l e = refl

-- a word in place of the list of arguments
pub word_arguments : (v : SymbolsValue) (ts : List Token) (a s : Sexp) → length ts < 2 → signs_in ts ≡ spelling a → signature_in v a s ≡ Err NotSupported
word_arguments v ts (atom k x) s l e = refl
word_arguments v [] (group es) s l e = absurd (let z : ⊥ = cc in z)
word_arguments v (t ∷ []) (group es) s l e = absurd (not_end (spellings es) open_paren close_paren (sign_in t) [] (sym e))
word_arguments v (t ∷ u ∷ ts) (group es) s l e = absurd (omega (arith, l))

-- a list of arguments
pub read_arguments : (v : SymbolsValue) (ts : List Token) (a s : Sexp) → (length ts ≡ 2 → ⊥) → 2 ≤ length ts → signs_in ts ≡ spelling a → signature_in v a s ≡ of_function v (parts_of a) s
read_arguments v [] (atom k x) s l h e = absurd (omega (arith, h))
read_arguments v (t ∷ []) (atom k x) s l h e = absurd (omega (arith, h))
read_arguments v (t ∷ u ∷ ts) (atom k x) s l h e = absurd (let z : ⊥ = cc in z)
read_arguments v ts (group none) s l h e = absurd (l (sym (length-signs ts) ∙ ap length e))
read_arguments v ts (group (more x es)) s l h e = refl

-- one argument more
pub argument_more : (v : SymbolsValue) (args new : List Sort) (s : Sort) (e : Sexp) → Ok s ≡ plain_in v e → new ≡ args ++ s ∷ [] → next_argument v args e ≡ Ok new
argument_more v args new s e p n = rw (← p, n) refl

pub argument_fails : (v : SymbolsValue) (args : List Sort) (f : BuildFault) (e : Sexp) → Err f ≡ plain_in v e → next_argument v args e ≡ Err f
argument_fails v args f e p = rw (← p) refl

-- ---- commands

pub declares_constant : (tokens : List Sign) (a b : Span) (es : Sexps) → AllStand tokens (a ∷ b ∷ []) es → (r : Result ℕ BuildError) (old new : SymbolsValue) (value : Result Signature BuildFault)
    → ((n : Sexp) → Stands tokens a n → Declares (declare_name old n value) r old new) → ((s : Sexp) → Stands tokens b s → value ≡ of_constant (sort_in old s)) → Declares (declare old name.DeclareConst es) r old new
unfolding declare
declares_constant tokens a b none h r old new value k v = absurd h
declares_constant tokens a b (more n none) h r old new value k v = absurd h.1
declares_constant tokens a b (more n (more s none)) h r old new value k v = subst (λ q. Declares (declare_name old n q) r old new) (v s h.1.0) (k n h.0)
declares_constant tokens a b (more n (more s (more t es))) h r old new value k v = absurd h.1.1

pub declares_function : (tokens : List Sign) (a b c : Span) (es : Sexps) → AllStand tokens (a ∷ b ∷ c ∷ []) es → (r : Result ℕ BuildError) (old new : SymbolsValue) (value : Result Signature BuildFault)
    → ((n : Sexp) → Stands tokens a n → Declares (declare_name old n value) r old new) → ((p s : Sexp) → Stands tokens b p → Stands tokens c s → value ≡ signature_in old p s) → Declares (declare old name.DeclareFun es) r old new
unfolding declare
declares_function tokens a b c none h r old new value k v = absurd h
declares_function tokens a b c (more n none) h r old new value k v = absurd h.1
declares_function tokens a b c (more n (more p none)) h r old new value k v = absurd h.1.1
declares_function tokens a b c (more n (more p (more s none))) h r old new value k v = subst (λ q. Declares (declare_name old n q) r old new) (v p s h.1.0 h.1.1.0) (k n h.0)
declares_function tokens a b c (more n (more p (more s (more t es)))) h r old new value k v = absurd h.1.1.1

nothing : (v : SymbolsValue) (n : CommandName) → declare v n none ≡ Err NotSupported
unfolding declare
nothing v name.DeclareConst = refl
nothing v name.DeclareFun = refl
nothing v _ = refl

pub another : (tokens : List Sign) (v : SymbolsValue) (c : Command) → ((a b : Span) → c ≡ command.DeclareConst a b → ⊥) → ((a b d : Span) → c ≡ command.DeclareFun a b d → ⊥) → (es : Sexps) → AllStand tokens (spans_of c) es → declare v (name_of c) es ≡ Err NotSupported
unfolding declare
another tokens v (command.DeclareConst a b) k l es h = absurd (k a b refl)
another tokens v (command.DeclareFun a b d) k l es h = absurd (l a b d refl)
another tokens v (command.NotSupported n) k l none h = nothing v n
another tokens v (command.NotSupported n) k l (more e es) h = absurd h
another tokens v _ k l es h = refl

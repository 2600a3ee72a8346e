-- The variables that `let` binds, and the names that `:named` gives to terms (SMT-LIB 2.6, section 3.6), and the parameters
-- of a definition (section 4.2.3).
use Rattle.std.specs.Prelude.{ℕ, Bool, true, false, ◌||◌, ◌&&◌, List, [], ◌∷◌, ◌++◌, is_some, Option, Some, None, Result, Ok, Err, if◌then◌else◌}
use Rattle.smt_text.specs.declared.token.TokenKind.{TokenKind}
use Rattle.smt_text.specs.declared.token.TokenKind.TheVariants as kind
use Rattle.smt_syntax.specs.Sexps.{Sexps, none, more}
use Rattle.smt_syntax.specs.Shapes.{is_keyword, is_named}
use Rattle.smt_syntax.specs.Walk.{◌>>=◌}
use Rattle.smt_terms.specs.declared.node.Op.TheVariants.{Param}
use Rattle.smt_terms.specs.Nodes.{leaf}
use Rattle.smt_terms.specs.Terms.{TermsValue}
use Rattle.smt_build.specs.declared.fault.BuildFault.{BuildFault}
use Rattle.smt_build.specs.declared.fault.BuildFault.TheVariants.{UnknownSymbol, Declared, Reserved, WrongSort, NotSupported}
use Rattle.smt_build.specs.declared.parameters.Parameter.{Parameter}
use Rattle.smt_build.specs.Operators.{is_reserved}
use Rattle.smt_build.specs.Names.{SymbolsValue, meaning_in, is_taken}
use Rattle.smt_build.specs.Parameters.{Parameters}
use Rattle.smt_build.specs.Building.{Built, made}
pub use Rattle.smt_build.specs.Pairs.{Bound, innermost, bound_at}
use Rattle.smt_build.specs.Indices.{Head, plain, indexed, everywhere}
use Rattle.smt_build.specs.Applying.{word_term, application, indexed_term}

abbrev pub is_bound : Bound → List ℕ → Bool
is_bound bound x = is_some (bound_at bound x)

-- a variable that is bound beside these: the faults of its name
unfoldable pub new_variable : Bound → List ℕ → Result (List ℕ) BuildFault
new_variable found x = if is_reserved x then Err Reserved else (if is_bound found x then Err Declared else Ok x)

-- ---- what a reading has made

-- the terms, the names that were given within the term that is read, and the parameters that it may use
pub record Progress : Type 0 where
  pub terms : TermsValue
  pub names : Bound
  pub parameters : Parameters

-- a term's number with what was made then, or a fault
abbrev pub Read : Type 0
Read = Result (ℕ × Progress) BuildFault

-- the names given stay as they were
abbrev pub as_read : Progress → Built → Read
as_read p b = b >>= λ r. Ok (r.0, record { terms = r.1; names = p.names; parameters = p.parameters })

-- ---- words and applications under bound variables

abbrev pub first_of : Option ℕ → Option ℕ → Option ℕ
first_of (Some t) o = Some t
first_of None o = o

-- the term of a name within the term that is read: a bound variable hides a name that was given
abbrev pub local_at : Bound → Bound → List ℕ → Option ℕ
local_at bound names x = first_of (bound_at bound x) (bound_at names x)

abbrev pub local_or : Progress → Option ℕ → Read → Read
local_or p (Some t) r = Ok (t, p)
local_or p None r = r

-- a parameter is made where it is used
abbrev pub parameter_or : Progress → Option Parameter → Read → Read
parameter_or p (Some q) r = as_read p (made p.terms (leaf (Param q.place q.sort)))
parameter_or p None r = r

-- a variable, a name that was given, or a parameter
abbrev pub is_local : Bound → Progress → List ℕ → Bool
is_local bound p x = is_some (local_at bound p.names x) || is_some (meaning_in p.parameters x)

-- a name that is known here is used with indices that it does not take
abbrev pub misused : Bool → Built → Built
misused true (Err UnknownSymbol) = Err WrongSort
misused _ b = b

module _ (symbols : SymbolsValue) where
  -- such a name hides those that are live
  unfoldable pub word_in : Bound → Progress → TokenKind → List ℕ → Read
  word_in bound p kind.Symbol x = local_or p (local_at bound p.names x) (parameter_or p (meaning_in p.parameters x) (as_read p (word_term symbols p.terms kind.Symbol x)))
  word_in bound p k x = as_read p (word_term symbols p.terms k x)

  -- what stands for a term takes no arguments and no indices
  unfoldable pub application_in : Bound → Progress → Head → List ℕ → Read
  application_in bound p (plain f) args = if is_local bound p f then Err WrongSort else as_read p (application symbols p.terms (plain f) args)
  application_in bound p (indexed f is) args = as_read p (misused (is_local bound p f) (application symbols p.terms (indexed f is) args))
  application_in bound p (everywhere s) args = as_read p (application symbols p.terms (everywhere s) args)

  unfoldable pub indexed_in_scope : Bound → Progress → Head → Read
  indexed_in_scope bound p (indexed f is) = as_read p (misused (is_local bound p f) (indexed_term symbols p.terms (indexed f is)))
  indexed_in_scope bound p h = as_read p (indexed_term symbols p.terms h)

  -- ---- annotations

  -- a name is taken, or was given within this term
  abbrev pub is_given : Progress → List ℕ → Bool
  is_given p x = is_taken symbols x || is_bound p.names x

  -- a term is given a name, where names may be given: the faults of the name
  unfoldable pub naming : Bool → ℕ → Progress → List ℕ → Result Progress BuildFault
  naming false t p x = Err NotSupported
  naming true t p x =
      if is_reserved x then Err Reserved
      else (if is_given p x then Err Declared
      else Ok (record { terms = p.terms; names = p.names ++ (x, t) ∷ []; parameters = p.parameters }))

-- `:named`
abbrev pub is_label : TokenKind → List ℕ → Bool
is_label k x = is_keyword k && is_named x

-- nothing stands behind it
abbrev pub alone : {A : Type 0} → A → Sexps → Result A BuildFault
alone r none = Ok r
alone r (more e es) = Err NotSupported

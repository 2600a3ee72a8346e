-- The term that an S-expression means over the live names (SMT-LIB 2.6, sections 3.6 and 5.2.2). Terms are made when their
-- parts close, arguments first, from left to right, and so are faults told.
use Rattle.std.specs.Prelude.{ℕ, Bool, false, List, [], ◌∷◌, ◌++◌, Result, Ok, Err, if◌then◌else◌}
use Rattle.smt_text.specs.declared.token.TokenKind.TheVariants as kind
use Rattle.smt_syntax.specs.Sexps.{Sexp, Sexps, atom, group, none, more}
use Rattle.smt_syntax.specs.Walk.{◌>>=◌}
use Rattle.smt_terms.specs.Terms.{TermsValue}
use Rattle.smt_build.specs.declared.fault.BuildFault.{BuildFault}
use Rattle.smt_build.specs.declared.fault.BuildFault.TheVariants.{NotSupported}
use Rattle.smt_build.specs.Names.{SymbolsValue}
use Rattle.smt_build.specs.Parameters.{Parameters}
use Rattle.smt_build.specs.Building.{Built}
use Rattle.smt_build.specs.Indices.{plain, indexed_in}
use Rattle.smt_build.specs.Heads.{head_in}
use Rattle.smt_build.specs.Binding.{Bound, new_variable, Progress, Read, word_in, application_in, indexed_in_scope, naming, is_label, alone}

-- `may_name` says whether terms may be given names here
module _ (symbols : SymbolsValue) (may_name : Bool) where
  -- of the attributes of a term `:named` alone counts
  unfoldable mutual
    pub attributes_of : ℕ → Progress → Sexps → Result Progress BuildFault
    attributes_of t p none = Ok p
    attributes_of t p (more (atom k x) es) = if is_label k x then name_of t p es else attributes_of t p es
    attributes_of t p (more (group xs) es) = attributes_of t p es

    pub name_of : ℕ → Progress → Sexps → Result Progress BuildFault
    name_of t p (more (atom k x) es) = naming symbols may_name t p x >>= λ q. attributes_of t q es
    name_of t p _ = Err NotSupported

  unfoldable mutual
    pub term_in : Bound → Progress → Sexp → Read
    term_in bound p (atom k x) = word_in symbols bound p k x
    term_in bound p (group (more (atom kind.Symbol f) es)) = args_of bound p [] es >>= λ r. application_in symbols bound r.1 (plain f) r.0
    term_in bound p (group (more (atom kind.Underscore l) es)) = indexed_in es >>= λ h. indexed_in_scope symbols bound p h
    term_in bound p (group (more (atom kind.Let l) es)) = let_of bound p es
    term_in bound p (group (more (atom kind.Bang l) es)) = annotated_of bound p es
    term_in bound p (group (more (group h) es)) = head_in symbols h >>= λ f. args_of bound p [] es >>= λ r. application_in symbols bound r.1 f r.0
    term_in bound p (group _) = Err NotSupported

    -- these terms, behind the ones that were read before
    pub args_of : Bound → Progress → List ℕ → Sexps → Result (List ℕ × Progress) BuildFault
    args_of bound p args none = Ok (args, p)
    args_of bound p args (more e es) = term_in bound p e >>= λ r. args_of bound r.1 (args ++ r.0 ∷ []) es

    -- all variables of a `let` are bound at once: none of them in the terms of the others
    pub let_of : Bound → Progress → Sexps → Read
    let_of bound p (more (group bs) es) = bindings_of bound p [] bs >>= λ r. body_of (bound ++ r.0) r.1 es
    let_of bound p _ = Err NotSupported

    pub bindings_of : Bound → Progress → Bound → Sexps → Result (Bound × Progress) BuildFault
    bindings_of bound p found none = Ok (found, p)
    bindings_of bound p found (more b bs) = binding_of bound p found b >>= λ r. bindings_of bound r.1 (found ++ r.0 ∷ []) bs

    -- the faults of a variable's name come before those of its term
    pub binding_of : Bound → Progress → Bound → Sexp → Result ((List ℕ × ℕ) × Progress) BuildFault
    binding_of bound p found (group (more (atom k x) es)) = new_variable found x >>= λ y. body_of bound p es >>= λ r. Ok ((y, r.0), r.1)
    binding_of bound p found _ = Err NotSupported

    -- one term
    pub body_of : Bound → Progress → Sexps → Read
    body_of bound p none = Err NotSupported
    body_of bound p (more e es) = term_in bound p e >>= λ r. alone r es

    pub annotated_of : Bound → Progress → Sexps → Read
    annotated_of bound p none = Err NotSupported
    annotated_of bound p (more e es) = term_in bound p e >>= λ r. attributes_of r.0 r.1 es >>= λ q. Ok (r.0, q)

abbrev pub term_alone : Read → Built
term_alone r = r >>= λ q. Ok (q.0, q.1.terms)

-- the term over these parameters, where no variable is bound and no name may be given
unfoldable pub term_over : SymbolsValue → TermsValue → Parameters → Sexp → Built
term_over symbols terms ps e = term_alone (term_in symbols false [] (record { terms = terms; names = []; parameters = ps }) e)

-- the term without parameters
abbrev pub term_of : SymbolsValue → TermsValue → Sexp → Built
term_of symbols terms e = term_over symbols terms [] e

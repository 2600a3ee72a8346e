-- The term that is read has a property that terms keep, where the bodies of definitions have it; and so have the terms of
-- variables and of names that are given.
use Rattle.std.proofs.Common.{ℕ, Bool, true, false, List, [], ◌∷◌, ◌++◌, refl, Option, Some, None, Result, Ok, Err}
use Rattle.std.specs.Prelude.{if◌then◌else◌}
use Rattle.std.specs.Str.{bytes_eq}
use Rattle.std.specs.List.{AllByRecursion}
use Rattle.smt_text.specs.declared.token.TokenKind.{TokenKind}
use Rattle.smt_text.specs.declared.token.TokenKind.TheVariants as kind
use Rattle.smt_syntax.specs.Sexps.{Sexp, Sexps, atom, group, none, more}
use Rattle.smt_syntax.specs.Walk.{◌>>=◌}
use Rattle.smt_terms.specs.declared.node.Op.TheVariants.{Param}
use Rattle.smt_terms.specs.Nodes.{leaf}
use Rattle.smt_terms.specs.Terms.{TermsValue}
use Rattle.smt_build.specs.declared.fault.BuildFault.{BuildFault}
use Rattle.smt_build.specs.declared.fault.BuildFault.TheVariants.{Declared, Reserved, WrongSort}
use Rattle.smt_build.specs.Operators.{is_reserved}
use Rattle.smt_build.specs.Names.{SymbolsValue, meaning_in}
use Rattle.smt_build.specs.declared.parameters.Parameter.{Parameter}
use Rattle.smt_build.specs.Parameters.{Parameters}
use Rattle.smt_build.specs.Building.{Built}
use Rattle.smt_build.specs.Applying.{word_term, application, indexed_term}
use Rattle.smt_build.specs.Indices.{Head, plain, indexed, everywhere, indexed_in}
use Rattle.smt_build.specs.Heads.{head_in}
use Rattle.smt_build.specs.Binding.{Bound, innermost, bound_at, new_variable, Progress, Read, as_read, first_of, local_at, local_or, parameter_or, is_local, misused, word_in, application_in, indexed_in_scope, is_given, naming, is_label, alone}
use Rattle.smt_build.specs.Terms.{attributes_of, name_of, term_in, args_of, let_of, bindings_of, binding_of, body_of, annotated_of, term_alone, term_over}
use Rattle.smt_build.proofs.KeptTerms as kept_terms
use Rattle.smt_build.proofs.KeptTerms.{Follows, IsKept, none_stands, go_none, go_both}
use Rattle.smt_build.proofs.KeptWords as kept_words

module _ (symbols : SymbolsValue) (Has : TermsValue → ℕ → Type 0) where
  abbrev Longer : TermsValue → TermsValue → Type 0
  Longer v w = kept_terms.Longer symbols Has v w

  abbrev AllHave : TermsValue → List ℕ → Type 0
  AllHave v ts = kept_terms.AllHave symbols Has v ts

  abbrev Keeps : TermsValue → Built → Type 0
  Keeps v r = kept_terms.Keeps symbols Has v r

  -- the terms of these names have it
  abbrev pub NamesHave : TermsValue → Bound → Type 0
  NamesHave v bs = AllByRecursion (λ (b : List ℕ × ℕ). Has v b.1) bs

  names_both : (v : TermsValue) (xs ys : Bound) → NamesHave v xs → NamesHave v ys → NamesHave v (xs ++ ys)
  names_both v [] ys h k = k
  names_both v (x ∷ xs) ys h k = (h.0, names_both v xs ys h.1 k)

  -- ---- what a look-up finds

  abbrev FoundHas : TermsValue → Option ℕ → Type 0
  FoundHas v None = Unit {0}
  FoundHas v (Some t) = Has v t

  innermost_has : (v : TermsValue) (found : Option ℕ) (here : Bool) (t : ℕ) → FoundHas v found → Has v t → FoundHas v (innermost found here t)
  innermost_has v (Some u) here t h k = h
  innermost_has v None true t h k = k
  innermost_has v None false t h k = tt

  bound_has : (v : TermsValue) (bs : Bound) (x : List ℕ) → NamesHave v bs → FoundHas v (bound_at bs x)
  bound_has v [] x h = tt
  bound_has v (b ∷ bs) x h = innermost_has v (bound_at bs x) (bytes_eq x b.0) b.1 (bound_has v bs x h.1) h.0

  first_has : (v : TermsValue) (a b : Option ℕ) → FoundHas v a → FoundHas v b → FoundHas v (first_of a b)
  first_has v (Some t) b h k = h
  first_has v None b h k = k

  local_has : (v : TermsValue) (bound names : Bound) (x : List ℕ) → NamesHave v bound → NamesHave v names → FoundHas v (local_at bound names x)
  local_has v bound names x h k = first_has v (bound_at bound x) (bound_at names x) (bound_has v bound x h) (bound_has v names x k)

  -- ---- what a reading makes

  -- the terms before stand, and the terms of the names that are given have it
  pub record Advances (p q : Progress) : Type 0 where
    pub longer : Longer p.terms q.terms
    pub names : NamesHave p.terms p.names → NamesHave q.terms q.names

  advances_none : (p : Progress) → Advances p p
  advances_none p = record { longer = go_none symbols.signatures p.terms; names = λ h. h }

  advances_more : (p q r : Progress) → Advances p q → Advances q r → Advances p r
  advances_more p q r a b = record { longer = go_both symbols.signatures p.terms q.terms r.terms a.longer b.longer; names = λ h. b.names (a.names h) }

  -- this is so of what is read, beside the terms then, and what stands before stands
  abbrev pub Gives : {A : Type 0} → (TermsValue → A → Type 0) → Progress → Result (A × Progress) BuildFault → Type 0
  Gives P p r = Follows (λ r. Advances p r.1 × P r.1.terms r.0) r

  abbrev pub ReadsOn : Progress → Read → Type 0
  ReadsOn p r = Gives Has p r

  gives_bind : {A B : Type 0} (P : TermsValue → A → Type 0) (Q : TermsValue → B → Type 0) (p : Progress) (r : Result (A × Progress) BuildFault) (f : A × Progress → Result (B × Progress) BuildFault) → Gives P p r → ((a : A × Progress) → Advances p a.1 → P a.1.terms a.0 → Gives Q a.1 (f a)) → Gives Q p (r >>= f)
  gives_bind P Q p (Err e) f h k = tt
  gives_bind P Q p (Ok a) f h k = further (f a) (k a h.0 h.1) where
    further : (b : Result (_ × Progress) BuildFault) → Gives Q a.1 b → Gives Q p b
    further (Ok b) g = (advances_more p a.1 b.1 h.0 g.0, g.1)
    further (Err e) g = tt

  reads_then : {A B : Type 0} (Q : TermsValue → B → Type 0) (p : Progress) (r : Result A BuildFault) (f : A → Result (B × Progress) BuildFault) → ((a : A) → Gives Q p (f a)) → Gives Q p (r >>= f)
  reads_then Q p (Ok a) f h = h a
  reads_then Q p (Err e) f h = tt

  reads_if : (p : Progress) (b : Bool) (f : BuildFault) (r : Read) → ReadsOn p r → ReadsOn p (if b then Err f else r)
  reads_if p true f r h = tt
  reads_if p false f r h = h

  reads_local : (p : Progress) (o : Option ℕ) (r : Read) → FoundHas p.terms o → ReadsOn p r → ReadsOn p (local_or p o r)
  reads_local p (Some t) r h k = (advances_none p, h)
  reads_local p None r h k = k

  reads_alone : (p : Progress) (t : ℕ) (es : Sexps) → Has p.terms t → ReadsOn p (alone {A = ℕ × Progress} (t, p) es)
  reads_alone p t none h = (advances_none p, h)
  reads_alone p t (more e es) h = tt

  -- ---- names that are given

  abbrev Renames : Progress → Result Progress BuildFault → Type 0
  Renames p r = Follows (λ q. Advances p q) r

  names_if : (p : Progress) (b : Bool) (f : BuildFault) (r : Result Progress BuildFault) → Renames p r → Renames p (if b then Err f else r)
  names_if p true f r h = tt
  names_if p false f r h = h

  names_given : (may_name : Bool) (t : ℕ) (p : Progress) (x : List ℕ) → Has p.terms t → Renames p (naming symbols may_name t p x)
  unfolding naming
  names_given false t p x h = tt
  names_given true t p x h = names_if p (is_reserved x) Reserved _ (names_if p (is_given symbols p x) Declared _ (record { longer = go_none symbols.signatures p.terms; names = λ k. names_both p.terms p.names ((x, t) ∷ []) k (h, tt) }))

  names_then : (p : Progress) (r : Result Progress BuildFault) (f : Progress → Result Progress BuildFault) → Renames p r → ((q : Progress) → Advances p q → Renames q (f q)) → Renames p (r >>= f)
  names_then p (Err e) f h k = tt
  names_then p (Ok q) f h k = further (f q) (k q h) where
    further : (r : Result Progress BuildFault) → Renames q r → Renames p r
    further (Ok r) b = advances_more p q r h b
    further (Err e) b = tt

  module _ (kept : IsKept symbols Has) where
    on : (p q : Progress) (t : ℕ) → Advances p q → Has p.terms t → Has q.terms t
    on p q t a h = kept.on p.terms q.terms t a.longer h

    names_on : (v w : TermsValue) (bs : Bound) → Longer v w → NamesHave v bs → NamesHave w bs
    names_on v w [] p h = tt
    names_on v w (b ∷ bs) p h = (kept.on v w b.1 p h.0, names_on v w bs p h.1)

    -- terms are made, and no name is given
    reads_kept : (p : Progress) (b : Built) → Keeps p.terms b → ReadsOn p (as_read p b)
    reads_kept p (Ok r) h = (record { longer = h.0; names = λ k. names_on p.terms r.1 p.names h.0 k }, h.1)
    reads_kept p (Err e) h = tt

    -- variables, names and definitions have terms with the property
    abbrev AreReady : Bound → Progress → Type 0
    AreReady bound p = NamesHave p.terms bound × NamesHave p.terms p.names × kept_terms.BodiesHave symbols Has p.terms symbols.definitions

    ready_on : (bound : Bound) (p q : Progress) → Advances p q → AreReady bound p → AreReady bound q
    ready_on bound p q a h = (names_on p.terms q.terms bound a.longer h.0, a.names h.1, kept_terms.bodies_on symbols Has kept p.terms q.terms symbols.definitions a.longer h.2)

    keeps_misused : (v : TermsValue) (b : Bool) (r : Built) → Keeps v r → Keeps v (misused b r)
    keeps_misused v b r h = kept_words.keeps_misused symbols Has kept v b r h

    -- a parameter names no declaration
    reads_parameter : (p : Progress) (o : Option Parameter) (r : Read) → ReadsOn p r → ReadsOn p (parameter_or p o r)
    reads_parameter p (Some q) r h = reads_kept p _ (kept_terms.keeps_made symbols Has kept p.terms (leaf (Param q.place q.sort)) (none_stands symbols (Param q.place q.sort) refl refl) tt)
    reads_parameter p None r h = h

    reads_word : (bound : Bound) (p : Progress) (k : TokenKind) (x : List ℕ) → AreReady bound p → ReadsOn p (word_in symbols bound p k x)
    unfolding word_in
    reads_word bound p kind.Symbol x h = reads_local p (local_at bound p.names x) _ (local_has p.terms bound p.names x h.0 h.1) (reads_parameter p (meaning_in p.parameters x) _ (reads_kept p (word_term symbols p.terms kind.Symbol x) (kept_words.keeps_word symbols Has kept p.terms kind.Symbol x h.2)))
    reads_word bound p k x h = reads_kept p (word_term symbols p.terms k x) (kept_words.keeps_word symbols Has kept p.terms k x h.2)

    reads_application : (bound : Bound) (p : Progress) (f : Head) (args : List ℕ) → AreReady bound p → AllHave p.terms args → ReadsOn p (application_in symbols bound p f args)
    unfolding application_in
    reads_application bound p (plain f) args h k = reads_if p (is_local bound p f) WrongSort _ (reads_kept p (application symbols p.terms (plain f) args) (kept_words.keeps_application symbols Has kept p.terms (plain f) args h.2 k))
    reads_application bound p (indexed f is) args h k = reads_kept p _ (keeps_misused p.terms (is_local bound p f) (application symbols p.terms (indexed f is) args) (kept_words.keeps_application symbols Has kept p.terms (indexed f is) args h.2 k))
    reads_application bound p (everywhere s) args h k = reads_kept p (application symbols p.terms (everywhere s) args) (kept_words.keeps_application symbols Has kept p.terms (everywhere s) args h.2 k)

    reads_indexed : (bound : Bound) (p : Progress) (h : Head) → ReadsOn p (indexed_in_scope symbols bound p h)
    unfolding indexed_in_scope
    reads_indexed bound p (plain f) = reads_kept p (indexed_term symbols p.terms (plain f)) (kept_words.keeps_indexed_term symbols Has kept p.terms (plain f))
    reads_indexed bound p (indexed f is) = reads_kept p _ (keeps_misused p.terms (is_local bound p f) (indexed_term symbols p.terms (indexed f is)) (kept_words.keeps_indexed_term symbols Has kept p.terms (indexed f is)))
    reads_indexed bound p (everywhere s) = reads_kept p (indexed_term symbols p.terms (everywhere s)) (kept_words.keeps_indexed_term symbols Has kept p.terms (everywhere s))

    module _ (may_name : Bool) where
      names_label : (t : ℕ) (p : Progress) (es : Sexps) (b : Bool) → Renames p (name_of symbols may_name t p es) → Renames p (attributes_of symbols may_name t p es) → Renames p (if b then name_of symbols may_name t p es else attributes_of symbols may_name t p es)
      names_label t p es true h k = h
      names_label t p es false h k = k

      mutual
        unfolding attributes_of name_of

        names_attributes : (t : ℕ) (p : Progress) (es : Sexps) → Has p.terms t → Renames p (attributes_of symbols may_name t p es)
        names_attributes t p none h = advances_none p
        names_attributes t p (more (group xs) es) h = names_attributes t p es h
        names_attributes t p (more (atom k x) es) h = names_label t p es (is_label k x) (names_name t p es h) (names_attributes t p es h)

        names_name : (t : ℕ) (p : Progress) (es : Sexps) → Has p.terms t → Renames p (name_of symbols may_name t p es)
        names_name t p none h = tt
        names_name t p (more (group xs) es) h = tt
        names_name t p (more (atom k x) es) h = names_then p (naming symbols may_name t p x) _ (names_given may_name t p x h) (λ q a. names_attributes t q es (on p q t a h))

      reads_annotated : (p : Progress) (t : ℕ) (es : Sexps) → Has p.terms t → ReadsOn p (attributes_of symbols may_name t p es >>= λ q. Ok (t, q))
      reads_annotated p t es h = go (attributes_of symbols may_name t p es) (names_attributes t p es h) where
        go : (r : Result Progress BuildFault) → Renames p r → ReadsOn p (r >>= λ q. Ok (t, q))
        go (Ok q) a = (a, on p q t a h)
        go (Err e) a = tt

      -- ---- terms

      -- a variable's term has it
      abbrev NameHas : TermsValue → List ℕ × ℕ → Type 0
      NameHas v b = Has v b.1

      mutual
        unfolding term_in args_of let_of bindings_of binding_of body_of annotated_of

        pub reads_term : (bound : Bound) (p : Progress) (e : Sexp) → AreReady bound p → ReadsOn p (term_in symbols may_name bound p e)
        reads_term bound p (atom k x) h = reads_word bound p k x h
        reads_term bound p (group (more (atom kind.Symbol f) es)) h = gives_bind AllHave Has p (args_of symbols may_name bound p [] es) _ (reads_args bound p [] es h tt) (λ r a k. reads_application bound r.1 (plain f) r.0 (ready_on bound p r.1 a h) k)
        reads_term bound p (group (more (atom kind.Underscore l) es)) h = reads_then Has p (indexed_in es) _ (λ f. reads_indexed bound p f)
        reads_term bound p (group (more (atom kind.Let l) es)) h = reads_let bound p es h
        reads_term bound p (group (more (atom kind.Bang l) es)) h = reads_bang bound p es h
        reads_term bound p (group (more (group x) es)) h = reads_then Has p (head_in symbols x) _ (λ f. gives_bind AllHave Has p (args_of symbols may_name bound p [] es) _ (reads_args bound p [] es h tt) (λ r a k. reads_application bound r.1 f r.0 (ready_on bound p r.1 a h) k))
        reads_term bound p (group _) h = tt

        reads_args : (bound : Bound) (p : Progress) (args : List ℕ) (es : Sexps) → AreReady bound p → AllHave p.terms args → Gives AllHave p (args_of symbols may_name bound p args es)
        reads_args bound p args none h k = (advances_none p, k)
        reads_args bound p args (more e es) h k = gives_bind Has AllHave p (term_in symbols may_name bound p e) _ (reads_term bound p e h)
            (λ r a m. reads_args bound r.1 (args ++ r.0 ∷ []) es (ready_on bound p r.1 a h) (kept_terms.all_push symbols Has r.1.terms args r.0 (kept_terms.all_on symbols Has kept p.terms r.1.terms args a.longer k) m))

        reads_let : (bound : Bound) (p : Progress) (es : Sexps) → AreReady bound p → ReadsOn p (let_of symbols may_name bound p es)
        reads_let bound p none h = tt
        reads_let bound p (more (atom k x) es) h = tt
        reads_let bound p (more (group bs) es) h = gives_bind NamesHave Has p (bindings_of symbols may_name bound p [] bs) _ (reads_bindings bound p [] bs h tt)
            (λ r a k. let on = ready_on bound p r.1 a h in reads_body (bound ++ r.0) r.1 es (names_both r.1.terms bound r.0 on.0 k, on.1, on.2))

        reads_bindings : (bound : Bound) (p : Progress) (found : Bound) (bs : Sexps) → AreReady bound p → NamesHave p.terms found → Gives NamesHave p (bindings_of symbols may_name bound p found bs)
        reads_bindings bound p found none h k = (advances_none p, k)
        reads_bindings bound p found (more b bs) h k = gives_bind NameHas NamesHave p (binding_of symbols may_name bound p found b) _ (reads_binding bound p found b h)
            (λ r a m. reads_bindings bound r.1 (found ++ r.0 ∷ []) bs (ready_on bound p r.1 a h) (names_both r.1.terms found (r.0 ∷ []) (names_on p.terms r.1.terms found a.longer k) (m, tt)))

        reads_binding : (bound : Bound) (p : Progress) (found : Bound) (b : Sexp) → AreReady bound p → Gives NameHas p (binding_of symbols may_name bound p found b)
        reads_binding bound p found (atom k x) h = tt
        reads_binding bound p found (group none) h = tt
        reads_binding bound p found (group (more (group xs) es)) h = tt
        reads_binding bound p found (group (more (atom k x) es)) h = reads_then NameHas p (new_variable found x) _ (λ y. gives_bind Has NameHas p (body_of symbols may_name bound p es) _ (reads_body bound p es h) (λ r a k. (advances_none r.1, k)))

        reads_body : (bound : Bound) (p : Progress) (es : Sexps) → AreReady bound p → ReadsOn p (body_of symbols may_name bound p es)
        reads_body bound p none h = tt
        reads_body bound p (more e es) h = gives_bind Has Has p (term_in symbols may_name bound p e) _ (reads_term bound p e h) (λ r a k. reads_alone r.1 r.0 es k)

        reads_bang : (bound : Bound) (p : Progress) (es : Sexps) → AreReady bound p → ReadsOn p (annotated_of symbols may_name bound p es)
        reads_bang bound p none h = tt
        reads_bang bound p (more e es) h = gives_bind Has Has p (term_in symbols may_name bound p e) _ (reads_term bound p e h) (λ r a k. reads_annotated r.1 r.0 es k)

    -- ---- the term where no variable is bound

    abbrev opening : TermsValue → Parameters → Progress
    opening terms ps = record { terms = terms; names = []; parameters = ps }

    pub reads_first : (may_name : Bool) (terms : TermsValue) (ps : Parameters) (e : Sexp) → kept_terms.BodiesHave symbols Has terms symbols.definitions → ReadsOn (opening terms ps) (term_in symbols may_name [] (opening terms ps) e)
    reads_first may_name terms ps e bodies = reads_term may_name [] (opening terms ps) e (tt, tt, bodies)

    pub keeps_term : (terms : TermsValue) (ps : Parameters) (e : Sexp) → kept_terms.BodiesHave symbols Has terms symbols.definitions → Keeps terms (term_over symbols terms ps e)
    unfolding term_over
    keeps_term terms ps e bodies = go (term_in symbols false [] (opening terms ps) e) (reads_first false terms ps e bodies) where
      go : (r : Read) → ReadsOn (opening terms ps) r → Keeps terms (term_alone r)
      go (Ok q) h = (h.0.longer, h.1)
      go (Err e) h = tt

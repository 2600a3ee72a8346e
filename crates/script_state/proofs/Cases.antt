-- What holds of each kind of step holds of every step.
use Rattle.std.proofs.Common.{◌≡◌, ℕ, Bool, true, false, List, [], refl, Option, Some, None, Result, Ok, Err}
use Rattle.std.specs.Prelude.{if◌then◌else◌, codes}
use Rattle.std.specs.Str.{bytes_eq}
use Rattle.smt_text.specs.declared.token.CommandName.{CommandName}
use Rattle.smt_text.specs.declared.token.CommandName.TheVariants as name
use Rattle.smt_syntax.specs.declared.command.SyntaxFault.{SyntaxFault}
use Rattle.smt_text.specs.Lexicon.{Lexeme}
use Rattle.smt_text.specs.Printing.{between}
use Rattle.smt_syntax.specs.Sexps.{Sexp, Sexps, atom, group, none, more}
use Rattle.smt_syntax.specs.Commands.{read}
use Rattle.smt_terms.specs.Terms.{TermsValue}
use Rattle.scope_selectors.specs.declared.fault.OutOfRange.{OutOfRange}
use Rattle.scope_selectors.specs.Scopes.{ScopesValue, pushed as scopes_pushed, popped as scopes_popped}
use Rattle.smt_build.specs.Asserting.{Assertion, assertion}
use Rattle.smt_build.specs.Naming.{name_of_assertion}
use Rattle.smt_build.specs.Names.{SymbolsValue}
use Rattle.smt_build.specs.Declaring.{Declaration, declare}
use Rattle.smt_build.specs.Defining.{SortDefinition, FunctionDefinition, define_sort, define}
use Rattle.script_state.specs.declared.answer.Answer.TheVariants.{Done, Check, Model, Core, Assumptions, Exit}
use Rattle.script_state.specs.declared.answer.Asked.{Asked}
use Rattle.script_state.specs.declared.answer.Verdict.{Verdict}
use Rattle.script_state.specs.declared.answer.Verdict.TheVariants.{Sat, Unsat, Unknown}
use Rattle.script_state.specs.declared.options.Options.{Options}
use Rattle.script_state.specs.declared.error_text.ErrorText.{ErrorText}
use Rattle.script_state.specs.declared.error_text.ErrorText.TheVariants.{NotSupported, TooManyTerms, UnknownLogic, LevelOutOfRange, NoModel, NoRefutation, OptionOff, NoUnknownAnswer}
use Rattle.script_state.specs.ErrorTexts.{syntax_error, build_error}
use Rattle.script_state.specs.Options.{first_options, option_value, with_option}
use Rattle.script_state.specs.Readings.{Reading}
use Rattle.script_state.specs.Written.{listed}
use Rattle.script_state.specs.States.{StateValue, roots_of, watches_fit}
use Rattle.script_state.specs.Steps.{Step, refuse, names_logic, choosing, declaring, naming_sort, defining, objection, asserting_unless, asserting, Asking, asking, watching, assuming_by, assuming, assuming_listed, to_check, checking, saying, unsupported, is_true_value, setting, setting_option, option_text, telling_option, telling_reason, telling, telling_info, echoing, levels_meant, pushing_by, pushing, popping_by, popping, resetting, modelling_by, modelling, no_objection, valuing_by, valuing_asked, valuing, valuing_listed, refuting_by, refuting, refuting_assumed_by, refuting_assumed, obey, obey_read, step, is_exit, ends_read, ends}

module _ (s : StateValue) (P : Step → Type 0) where
  -- it holds of a refusal, of a command that changes nothing, and of each change
  pub record Holds : Type 0 where
    pub refused : (e : ErrorText) → P (refuse s e)
    pub kept : P (Done, s)
    pub checked : watches_fit s.terms (roots_of s.scopes.live []) ≡ true → P (Check, to_check s)
    pub declared : (n : CommandName) (es : Sexps) (d : ℕ) (w : SymbolsValue) → declare s.symbols n es ≡ Ok (d, w) → P (declaring s (Ok (d, w)))
    pub named : (n : CommandName) (es : Sexps) (w : SymbolsValue) → define_sort s.symbols n es ≡ Ok w → P (naming_sort s (Ok w))
    pub defined : (n : CommandName) (es : Sexps) (w : SymbolsValue) (terms : TermsValue) → define s.symbols s.terms n es ≡ Ok (w, terms) → P (defining s (Ok (w, terms)))
    pub asserted : (name : Option (List ℕ)) (x : Sexp) (t : ℕ) (v : SymbolsValue) (w : TermsValue) → assertion s.symbols s.terms x ≡ Ok (t, v, w) → objection w.nodes t ≡ None → P (asserting_unless None s name t v w)
    pub assumed : (tokens : List Lexeme) (es : Sexps) (asked : List Asked) (w : TermsValue) → asking objection s.symbols s.terms tokens [] es ≡ Ok (asked, w) → watches_fit w (roots_of s.scopes.live asked) ≡ true → P (assuming_by s (Ok (asked, w)))
    pub said : (x : List ℕ) → P (saying s x)
    pub set : (o : Options) → P (setting s (Some o))
    pub begun : (n : ℕ) (v : ScopesValue) → scopes_pushed s.scopes n ≡ Ok v → P (pushing_by s n (Ok v))
    pub ended : (n : ℕ) (v : ScopesValue) → scopes_popped s.scopes n ≡ Ok v → P (popping_by s n (Ok v))
    pub emptied : (o : Options) → P (resetting s o)
    pub modelled : s.standing ≡ Some Sat → s.options.produce_models ≡ true → P (Model, s)
    pub valued : (tokens : List Lexeme) (es : Sexps) (asked : List Asked) (w : TermsValue) → asking no_objection s.symbols s.terms tokens [] es ≡ Ok (asked, w) → s.standing ≡ Some Sat → s.options.produce_models ≡ true → P (valuing_by s asked w (Some Sat))
    pub refuted : s.standing ≡ Some Unsat → s.options.produce_unsat_cores ≡ true → P (Core, s)
    pub refuted_assumed : (asked : List Asked) → s.standing ≡ Some Unsat → s.assumed ≡ Some asked → s.options.produce_unsat_assumptions ≡ true → P (Assumptions, s)

  module _ (h : Holds) where
    by_choice : (b : Bool) → P (if b then (Done, s) else refuse s UnknownLogic)
    by_choice true = h.kept
    by_choice false = h.refused UnknownLogic

    by_choosing : (x : Sexp) → P (choosing s x)
    by_choosing x = by_choice (names_logic x)

    by_declaring : (n : CommandName) (es : Sexps) → P (declaring s (declare s.symbols n es))
    by_declaring n es = go (declare s.symbols n es) refl where
      go : (d : Declaration) → declare s.symbols n es ≡ d → P (declaring s d)
      go (Ok d) e = h.declared n es d.0 d.1 e
      go (Err f) e = h.refused (build_error f)

    by_naming : (n : CommandName) (es : Sexps) → P (naming_sort s (define_sort s.symbols n es))
    by_naming n es = go (define_sort s.symbols n es) refl where
      go : (d : SortDefinition) → define_sort s.symbols n es ≡ d → P (naming_sort s d)
      go (Ok w) e = h.named n es w e
      go (Err f) e = h.refused (build_error f)

    by_defining : (n : CommandName) (es : Sexps) → P (defining s (define s.symbols s.terms n es))
    by_defining n es = go (define s.symbols s.terms n es) refl where
      go : (d : FunctionDefinition) → define s.symbols s.terms n es ≡ d → P (defining s d)
      go (Ok d) e = h.defined n es d.0 d.1 e
      go (Err f) e = h.refused (build_error f)

    by_objection : (name : Option (List ℕ)) (x : Sexp) (t : ℕ) (v : SymbolsValue) (w : TermsValue) → assertion s.symbols s.terms x ≡ Ok (t, v, w) → P (asserting_unless (objection w.nodes t) s name t v w)
    by_objection name x t v w e = go (objection w.nodes t) refl where
      go : (o : Option ErrorText) → objection w.nodes t ≡ o → P (asserting_unless o s name t v w)
      go None k = h.asserted name x t v w e k
      go (Some f) k = h.refused f

    by_asserting : (x : Sexp) → P (asserting s (name_of_assertion x) (assertion s.symbols s.terms x))
    by_asserting x = go (assertion s.symbols s.terms x) refl where
      go : (r : Assertion) → assertion s.symbols s.terms x ≡ r → P (asserting s (name_of_assertion x) r)
      go (Ok r) e = by_objection (name_of_assertion x) x r.0 r.1 r.2 e
      go (Err f) e = h.refused (build_error f)

    by_checking : P (checking s)
    by_checking = go (watches_fit s.terms (roots_of s.scopes.live [])) refl where
      go : (b : Bool) → watches_fit s.terms (roots_of s.scopes.live []) ≡ b → P (if b then (Check, to_check s) else refuse s TooManyTerms)
      go true e = h.checked e
      go false e = h.refused TooManyTerms

    by_watching : (tokens : List Lexeme) (es : Sexps) (r : List Asked × TermsValue) → asking objection s.symbols s.terms tokens [] es ≡ Ok r → P (assuming_by s (watching s.scopes.live (Ok r)))
    by_watching tokens es r e = go (watches_fit r.1 (roots_of s.scopes.live r.0)) refl where
      go : (b : Bool) → watches_fit r.1 (roots_of s.scopes.live r.0) ≡ b → P (assuming_by s (if b then Ok r else Err TooManyTerms))
      go true k = h.assumed tokens es r.0 r.1 e k
      go false k = h.refused TooManyTerms

    by_assuming : (tokens : List Lexeme) (es : Sexps) → P (assuming s tokens es)
    by_assuming tokens es = go (asking objection s.symbols s.terms tokens [] es) refl where
      go : (r : Asking) → asking objection s.symbols s.terms tokens [] es ≡ r → P (assuming_by s (watching s.scopes.live r))
      go (Ok r) e = by_watching tokens es r e
      go (Err f) e = h.refused f

    by_setting : (o : Option Options) → P (setting s o)
    by_setting None = h.said unsupported
    by_setting (Some o) = h.set o

    by_setting_option : (x : Sexp) (es : Sexps) → P (setting_option s x es)
    by_setting_option (atom k x) none = h.said unsupported
    by_setting_option (atom k x) (more v none) = by_setting (with_option s.options x (is_true_value v))
    by_setting_option (atom k x) (more v (more w es)) = h.said unsupported
    by_setting_option (group xs) es = h.said unsupported

    by_telling_option : (x : Sexp) → P (telling_option s x)
    by_telling_option (atom k x) = h.said (option_text (option_value s.options x))
    by_telling_option (group es) = h.said unsupported

    by_reason : (o : Option Verdict) → P (telling_reason s o)
    by_reason None = h.refused NoUnknownAnswer
    by_reason (Some Sat) = h.refused NoUnknownAnswer
    by_reason (Some Unsat) = h.refused NoUnknownAnswer
    by_reason (Some Unknown) = h.said _

    either : (b : Bool) (p q : Step) → P p → P q → P (if b then p else q)
    either true p q h k = h
    either false p q h k = k

    by_telling : (x : List ℕ) → P (telling s x)
    by_telling x =
        either (bytes_eq x (codes ":name")) _ _ (h.said _)
        (either (bytes_eq x (codes ":version")) _ _ (h.said _)
        (either (bytes_eq x (codes ":error-behavior")) _ _ (h.said _)
        (either (bytes_eq x (codes ":assertion-stack-levels")) _ _ (h.said _)
        (either (bytes_eq x (codes ":reason-unknown")) _ _ (by_reason s.standing) (h.said unsupported)))))

    by_telling_info : (x : Sexp) → P (telling_info s x)
    by_telling_info (atom k x) = by_telling x
    by_telling_info (group es) = h.said unsupported

    by_echoing : (x : Sexp) → P (echoing s x)
    by_echoing (atom k x) = h.said (between 34 x)
    by_echoing (group es) = h.said unsupported

    by_pushing : (n : ℕ) → P (pushing s n)
    by_pushing n = go (scopes_pushed s.scopes n) refl where
      go : (r : Result ScopesValue OutOfRange) → scopes_pushed s.scopes n ≡ r → P (pushing_by s n r)
      go (Ok v) e = h.begun n v e
      go (Err f) e = h.refused LevelOutOfRange

    by_popping : (n : ℕ) → P (popping s n)
    by_popping n = go (scopes_popped s.scopes n) refl where
      go : (r : Result ScopesValue OutOfRange) → scopes_popped s.scopes n ≡ r → P (popping_by s n r)
      go (Ok v) e = h.ended n v e
      go (Err f) e = h.refused LevelOutOfRange

    by_modelling : P (modelling s)
    by_modelling = go s.options.produce_models s.standing refl refl where
      go : (b : Bool) (o : Option Verdict) → s.options.produce_models ≡ b → s.standing ≡ o → P (if b then modelling_by s o else refuse s OptionOff)
      go true None p q = h.refused NoModel
      go true (Some Sat) p q = h.modelled q p
      go true (Some Unsat) p q = h.refused NoModel
      go true (Some Unknown) p q = h.refused NoModel
      go false o p q = h.refused OptionOff

    by_assuming_listed : (tokens : List Lexeme) (x : Sexp) → P (assuming_listed s tokens x)
    by_assuming_listed tokens (group es) = by_assuming tokens es
    by_assuming_listed tokens (atom k x) = h.refused NotSupported

    by_valuing : (tokens : List Lexeme) (es : Sexps) → P (valuing s tokens es)
    by_valuing tokens es = go (asking no_objection s.symbols s.terms tokens [] es) refl where
      by_option : (asked : List Asked) (w : TermsValue) → asking no_objection s.symbols s.terms tokens [] es ≡ Ok (asked, w) → (b : Bool) (o : Option Verdict) → s.options.produce_models ≡ b → s.standing ≡ o → P (if b then valuing_by s asked w o else refuse s OptionOff)
      by_option asked w e true None p q = h.refused NoModel
      by_option asked w e true (Some Sat) p q = h.valued tokens es asked w e q p
      by_option asked w e true (Some Unsat) p q = h.refused NoModel
      by_option asked w e true (Some Unknown) p q = h.refused NoModel
      by_option asked w e false o p q = h.refused OptionOff

      go : (r : Asking) → asking no_objection s.symbols s.terms tokens [] es ≡ r → P (valuing_asked s r)
      go (Ok r) e = by_option r.0 r.1 e s.options.produce_models s.standing refl refl
      go (Err f) e = h.refused f

    by_valuing_listed : (tokens : List Lexeme) (x : Sexp) → P (valuing_listed s tokens x)
    by_valuing_listed tokens (group es) = by_valuing tokens es
    by_valuing_listed tokens (atom k x) = h.refused NotSupported

    by_refuting : P (refuting s)
    by_refuting = go s.options.produce_unsat_cores s.standing refl refl where
      go : (b : Bool) (o : Option Verdict) → s.options.produce_unsat_cores ≡ b → s.standing ≡ o → P (if b then refuting_by s o else refuse s OptionOff)
      go true None p q = h.refused NoRefutation
      go true (Some Sat) p q = h.refused NoRefutation
      go true (Some Unsat) p q = h.refuted q p
      go true (Some Unknown) p q = h.refused NoRefutation
      go false o p q = h.refused OptionOff

    by_refuting_assumed : P (refuting_assumed s)
    by_refuting_assumed = go s.options.produce_unsat_assumptions s.standing s.assumed refl refl refl where
      go : (b : Bool) (o : Option Verdict) (a : Option (List Asked)) → s.options.produce_unsat_assumptions ≡ b → s.standing ≡ o → s.assumed ≡ a → P (if b then refuting_assumed_by s o a else refuse s OptionOff)
      go true None a p q r = h.refused NoRefutation
      go true (Some Sat) a p q r = h.refused NoRefutation
      go true (Some Unsat) None p q r = h.refused NoRefutation
      go true (Some Unsat) (Some asked) p q r = h.refuted_assumed asked q r p
      go true (Some Unknown) a p q r = h.refused NoRefutation
      go false o a p q r = h.refused OptionOff

    by_command : (tokens : List Lexeme) (n : CommandName) (es : Sexps) → (is_exit n ≡ true → P (Exit, s)) → P (obey s tokens n es)
    unfolding obey
    by_command tokens name.SetLogic none x = h.refused NotSupported
    by_command tokens name.SetLogic (more e none) x = by_choosing e
    by_command tokens name.SetLogic (more e (more f es)) x = h.refused NotSupported
    by_command tokens name.SetInfo none x = h.refused NotSupported
    by_command tokens name.SetInfo (more e es) x = h.kept
    by_command tokens name.SetOption none x = h.refused NotSupported
    by_command tokens name.SetOption (more e es) x = by_setting_option e es
    by_command tokens name.GetOption none x = h.refused NotSupported
    by_command tokens name.GetOption (more e none) x = by_telling_option e
    by_command tokens name.GetOption (more e (more f es)) x = h.refused NotSupported
    by_command tokens name.GetInfo none x = h.refused NotSupported
    by_command tokens name.GetInfo (more e none) x = by_telling_info e
    by_command tokens name.GetInfo (more e (more f es)) x = h.refused NotSupported
    by_command tokens name.Echo none x = h.refused NotSupported
    by_command tokens name.Echo (more e none) x = by_echoing e
    by_command tokens name.Echo (more e (more f es)) x = h.refused NotSupported
    by_command tokens name.DeclareConst es x = by_declaring name.DeclareConst es
    by_command tokens name.DeclareFun es x = by_declaring name.DeclareFun es
    by_command tokens name.DefineSort es x = by_naming name.DefineSort es
    by_command tokens name.DefineFun es x = by_defining name.DefineFun es
    by_command tokens name.Assert none x = h.refused NotSupported
    by_command tokens name.Assert (more e none) x = by_asserting e
    by_command tokens name.Assert (more e (more f es)) x = h.refused NotSupported
    by_command tokens name.Push es x = by_pushing (levels_meant es)
    by_command tokens name.Pop es x = by_popping (levels_meant es)
    by_command tokens name.Reset es x = h.emptied first_options
    by_command tokens name.ResetAssertions es x = h.emptied s.options
    by_command tokens name.CheckSat none x = by_checking
    by_command tokens name.CheckSat (more e es) x = h.refused NotSupported
    by_command tokens name.CheckSatAssuming none x = h.refused NotSupported
    by_command tokens name.CheckSatAssuming (more e none) x = by_assuming_listed (listed tokens) e
    by_command tokens name.CheckSatAssuming (more e (more f es)) x = h.refused NotSupported
    by_command tokens name.GetModel es x = by_modelling
    by_command tokens name.GetValue none x = h.refused NotSupported
    by_command tokens name.GetValue (more e none) x = by_valuing_listed (listed tokens) e
    by_command tokens name.GetValue (more e (more f es)) x = h.refused NotSupported
    by_command tokens name.GetUnsatCore es x = by_refuting
    by_command tokens name.GetUnsatAssumptions es x = by_refuting_assumed
    by_command tokens name.GetAssertions es x = h.said unsupported
    by_command tokens name.GetAssignment es x = h.said unsupported
    by_command tokens name.GetProof es x = h.said unsupported
    by_command tokens name.Exit es x = x refl
    by_command tokens _ es x = h.refused NotSupported

    by_reading : (tokens : List Lexeme) (r : Result (CommandName × Sexps) SyntaxFault) → (ends_read r ≡ true → P (Exit, s)) → P (obey_read s tokens r)
    by_reading tokens (Ok c) x = by_command tokens c.0 c.1 x
    by_reading tokens (Err f) x = h.refused (syntax_error f)

    -- where the step ends the run too
    pub of_step : (r : Reading) → (ends r ≡ true → P (Exit, s)) → P (step s r)
    of_step (Ok c) x = by_reading c.tokens (read (group c.list)) x
    of_step (Err e) x = h.refused e

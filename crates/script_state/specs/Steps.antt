-- What each command of a script does to the state of a session, and how it is answered (SMT-LIB 2.6, section 4.2).
use Rattle.std.specs.Prelude.{◌≡◌, ℕ, Bool, true, false, ◌||◌, List, [], ◌∷◌, ◌++◌, length, All, codes, if◌then◌else◌, Option, Some, None, Result, Ok, Err}
use Rattle.std.specs.Fmt.{decimal}
use Rattle.std.specs.Str.{bytes_eq}
use Rattle.smt_text.specs.declared.token.TokenKind.TheVariants as kind
use Rattle.smt_text.specs.declared.token.CommandName.{CommandName}
use Rattle.smt_text.specs.declared.token.CommandName.TheVariants as name
use Rattle.std.specs.declared.alloc.AllocError.{AllocError}
use Rattle.smt_text.specs.declared.chunk.Chunk.{Chunk}
use Rattle.smt_text.specs.Lexicon.{Lexeme}
use Rattle.smt_text.specs.Printing.{between}
use Rattle.smt_syntax.specs.declared.command.SyntaxFault.{SyntaxFault}
use Rattle.smt_syntax.specs.Sexps.{Sexp, Sexps, atom, group, none, more}
use Rattle.smt_syntax.specs.Commands.{read}
use Rattle.smt_syntax.specs.Walk.{◌>>=◌}
use Rattle.smt_terms.specs.declared.sort.Sort.TheVariants as sort
use Rattle.smt_terms.specs.declared.node.Node.{Node}
use Rattle.smt_terms.specs.Same.{same_sort}
use Rattle.smt_terms.specs.Terms.{TermsValue, sort_of, cut_at}
use Rattle.scope_selectors.specs.declared.fault.OutOfRange.{OutOfRange}
use Rattle.scope_selectors.specs.declared.live.Live.{Live}
use Rattle.scope_selectors.specs.Scopes.{ScopesValue, asserted, without_assertions, pushed as scopes_pushed, popped as scopes_popped}
use Rattle.smt_build.specs.Literals.{value_in, decimal_value}
use Rattle.smt_build.specs.Names.{SymbolsValue, emptied, pushed, popped}
use Rattle.smt_build.specs.Asserting.{Assertion, assertion}
use Rattle.smt_build.specs.Naming.{name_of_assertion}
use Rattle.smt_build.specs.Building.{Built}
use Rattle.smt_build.specs.Declaring.{Declaration, declare}
use Rattle.smt_build.specs.Defining.{SortDefinition, FunctionDefinition, define_sort, define}
use Rattle.smt_build.specs.Terms.{term_of}
use Rattle.script_state.specs.declared.answer.Answer.{Answer}
use Rattle.script_state.specs.declared.answer.Answer.TheVariants.{Done, Refused, Check, Says, Model, Values, Core, Assumptions, Exit}
use Rattle.script_state.specs.declared.answer.Asked.{Asked}
use Rattle.script_state.specs.declared.answer.Verdict.{Verdict}
use Rattle.script_state.specs.declared.answer.Verdict.TheVariants as verdict
use Rattle.script_state.specs.declared.options.Options.{Options}
use Rattle.script_state.specs.declared.error_text.ErrorText.{ErrorText}
use Rattle.script_state.specs.declared.error_text.ErrorText.TheVariants.{WrongArguments, NotSupported, TooManyTerms, UnknownLogic, LevelOutOfRange, NoModel, NoRefutation, OptionOff, NoUnknownAnswer}
use Rattle.script_state.specs.ErrorTexts.{syntax_error, build_error}
use Rattle.script_state.specs.Options.{first_options, option_value, with_option}
use Rattle.script_state.specs.States.{StateValue, IsAsked, roots_of, watches_fit}
use Rattle.script_state.specs.Readings.{Reading, ReadsAs}
use Rattle.script_state.specs.Written.{written, behind, listed}

-- an answer with the state then
abbrev pub Step : Type 0
Step = Answer × StateValue

-- a refused command leaves the state as it was
abbrev pub refuse : StateValue → ErrorText → Step
refuse s error = (Refused error, s)

-- the names of logics that are taken, all of which mean QF_AUFBV
abbrev pub is_logic : List ℕ → Bool
is_logic x = bytes_eq x (codes "QF_BV") || bytes_eq x (codes "QF_UFBV") || bytes_eq x (codes "QF_ABV") || bytes_eq x (codes "QF_AUFBV") || bytes_eq x (codes "ALL")

-- a symbol that is such a name
abbrev pub names_logic : Sexp → Bool
names_logic (atom kind.Symbol x) = is_logic x
names_logic _ = false

-- a logic is chosen, which changes nothing
abbrev pub choosing : StateValue → Sexp → Step
choosing s e = if names_logic e then (Done, s) else refuse s UnknownLogic

-- the declaration is made, and no check stands
abbrev pub declaring : StateValue → Declaration → Step
declaring s (Ok d) = (Done, record { symbols = d.1; terms = s.terms; scopes = s.scopes; options = s.options; standing = None; assumed = None })
declaring s (Err f) = refuse s (build_error f)

-- the name of a sort is defined, and no check stands
abbrev pub naming_sort : StateValue → SortDefinition → Step
naming_sort s (Ok v) = (Done, record { symbols = v; terms = s.terms; scopes = s.scopes; options = s.options; standing = None; assumed = None })
naming_sort s (Err f) = refuse s (build_error f)

-- a function is defined, and no check stands
abbrev pub defining : StateValue → FunctionDefinition → Step
defining s (Ok d) = (Done, record { symbols = d.0; terms = d.1; scopes = s.scopes; options = s.options; standing = None; assumed = None })
defining s (Err f) = refuse s (build_error f)

-- why a term cannot be asserted: it is no Bool
abbrev pub objection : List Node → ℕ → Option ErrorText
objection nodes t = if same_sort (sort_of nodes t) sort.Bool then None else Some WrongArguments

-- the term is asserted in the innermost level, under its name if it has one, and no check stands, unless it cannot be asserted
abbrev pub asserting_unless : Option ErrorText → StateValue → Option (List ℕ) → ℕ → SymbolsValue → TermsValue → Step
asserting_unless None s name t symbols terms = (Done, record { symbols = symbols; terms = terms; scopes = asserted s.scopes t name; options = s.options; standing = None; assumed = None })
asserting_unless (Some e) s name t symbols terms = refuse s e

abbrev pub asserting : StateValue → Option (List ℕ) → Assertion → Step
asserting s name (Ok a) = asserting_unless (objection a.2.nodes a.0) s name a.0 a.1 a.2
asserting s name (Err f) = refuse s (build_error f)

-- ---- terms that a command asks for

-- terms with their texts, and all terms then; or the error of the first that cannot be asked for
abbrev pub Asking : Type 0
Asking = Result (List Asked × TermsValue) ErrorText

abbrev pub asking_unless : Option ErrorText → List Asked → List ℕ → ℕ → TermsValue → Asking
asking_unless None found text t terms = Ok (found ++ record { term = t; text = text } ∷ [], terms)
asking_unless (Some e) found text t terms = Err e

-- `object` says why a term cannot be asked for
abbrev pub asking_built : (List Node → ℕ → Option ErrorText) → List Asked → List ℕ → Built → Asking
asking_built object found text (Ok b) = asking_unless (object b.1.nodes b.0) found text b.0 b.1
asking_built object found text (Err f) = Err (build_error f)

-- the terms, behind those that were found before, each after the other; the tokens begin with theirs
unfoldable pub asking : (List Node → ℕ → Option ErrorText) → SymbolsValue → TermsValue → List Lexeme → List Asked → Sexps → Asking
asking object symbols terms tokens found none = Ok (found, terms)
asking object symbols terms tokens found (more e es) = asking_built object found (written tokens e) (term_of symbols terms e) >>= λ r. asking object symbols r.1 (behind tokens e) r.0 es

-- These are assumed with the assertions, unless the terms that a check of both makes before all else are more than may be held.
abbrev pub watching : List Live → Asking → Asking
watching live (Ok r) = if watches_fit r.1 (roots_of live r.0) then Ok r else Err TooManyTerms
watching live (Err e) = Err e

-- the live assertions are to be checked with these assumptions, and no check stands
abbrev pub assuming_by : StateValue → Asking → Step
assuming_by s (Ok r) = (Check, record { symbols = s.symbols; terms = r.1; scopes = s.scopes; options = s.options; standing = None; assumed = Some r.0 })
assuming_by s (Err e) = refuse s e

abbrev pub assuming : StateValue → List Lexeme → Sexps → Step
assuming s tokens es = assuming_by s (watching s.scopes.live (asking objection s.symbols s.terms tokens [] es))

-- the form of the command lets lists alone be
abbrev pub assuming_listed : StateValue → List Lexeme → Sexp → Step
assuming_listed s tokens (group es) = assuming s tokens es
assuming_listed s tokens (atom k x) = refuse s NotSupported

-- the live assertions are to be checked, and no check stands
abbrev pub to_check : StateValue → StateValue
to_check s = record { symbols = s.symbols; terms = s.terms; scopes = s.scopes; options = s.options; standing = None; assumed = None }

-- The same, unless the terms that a check makes before all else are more than may be held.
abbrev pub checking : StateValue → Step
checking s = if watches_fit s.terms (roots_of s.scopes.live []) then (Check, to_check s) else refuse s TooManyTerms

-- ---- options and information (sections 4.1.7, 4.1.8)

abbrev pub unsupported : List ℕ
unsupported = codes "unsupported"

-- a line is said, and nothing else is done
abbrev pub saying : StateValue → List ℕ → Step
saying s x = (Says x, s)

-- whether a value is `true`; the form of the command lets `true` and `false` alone be
abbrev pub is_true_value : Sexp → Bool
is_true_value (atom k x) = bytes_eq x (codes "true")
is_true_value (group es) = false

-- a check goes on to stand
abbrev pub setting : StateValue → Option Options → Step
setting s None = saying s unsupported
setting s (Some o) = (Done, record { symbols = s.symbols; terms = s.terms; scopes = s.scopes; options = o; standing = s.standing; assumed = s.assumed })

abbrev pub setting_option : StateValue → Sexp → Sexps → Step
setting_option s (atom k x) (more v none) = setting s (with_option s.options x (is_true_value v))
setting_option s _ es = saying s unsupported

abbrev pub option_text : Option Bool → List ℕ
option_text None = unsupported
option_text (Some true) = codes "true"
option_text (Some false) = codes "false"

abbrev pub telling_option : StateValue → Sexp → Step
telling_option s (atom k x) = saying s (option_text (option_value s.options x))
telling_option s (group es) = saying s unsupported

-- why the answer of the check that stands is unknown
abbrev pub telling_reason : StateValue → Option Verdict → Step
telling_reason s (Some verdict.Unknown) = saying s (codes "(:reason-unknown incomplete)")
telling_reason s _ = refuse s NoUnknownAnswer

abbrev pub telling : StateValue → List ℕ → Step
telling s x =
    if bytes_eq x (codes ":name") then saying s (codes "(:name \"smt_tool\")")
    else (if bytes_eq x (codes ":version") then saying s (codes "(:version \"1\")")
    else (if bytes_eq x (codes ":error-behavior") then saying s (codes "(:error-behavior continued-execution)")
    else (if bytes_eq x (codes ":assertion-stack-levels") then saying s (codes "(:assertion-stack-levels " ++ decimal s.scopes.levels ++ codes ")")
    else (if bytes_eq x (codes ":reason-unknown") then telling_reason s s.standing
    else saying s unsupported))))

abbrev pub telling_info : StateValue → Sexp → Step
telling_info s (atom k x) = telling s x
telling_info s (group es) = saying s unsupported

-- a string is said as it is written
abbrev pub echoing : StateValue → Sexp → Step
echoing s (atom k x) = saying s (between 34 x)
echoing s (group es) = saying s unsupported

-- ---- levels (section 4.1.4)

-- how many levels are meant: one, where no number is written
abbrev pub levels_meant : Sexps → ℕ
levels_meant (more (atom k x) es) = value_in 10 decimal_value x
levels_meant _ = 1

abbrev pub pushing_by : StateValue → ℕ → Result ScopesValue OutOfRange → Step
pushing_by s n (Ok v) = (Done, record { symbols = pushed s.symbols n; terms = s.terms; scopes = v; options = s.options; standing = None; assumed = None })
pushing_by s n (Err f) = refuse s LevelOutOfRange

-- so many levels more, and no check stands
abbrev pub pushing : StateValue → ℕ → Step
pushing s n = pushing_by s n (scopes_pushed s.scopes n)

abbrev pub popping_by : StateValue → ℕ → Result ScopesValue OutOfRange → Step
popping_by s n (Ok v) = (Done, record { symbols = popped s.symbols n; terms = s.terms; scopes = v; options = s.options; standing = None; assumed = None })
popping_by s n (Err f) = refuse s LevelOutOfRange

-- so many levels less, with their assertions, declarations and definitions, and no check stands
abbrev pub popping : StateValue → ℕ → Step
popping s n = popping_by s n (scopes_popped s.scopes n)

-- the first level alone, and nothing in it; the numbers of declarations, assertions and terms go on
abbrev pub resetting : StateValue → Options → Step
resetting s o = (Done, record { symbols = emptied s.symbols; terms = s.terms; scopes = without_assertions s.scopes; options = o; standing = None; assumed = None })

-- ---- the check that stands (section 4.2.6)

abbrev pub modelling_by : StateValue → Option Verdict → Step
modelling_by s (Some verdict.Sat) = (Model, s)
modelling_by s _ = refuse s NoModel

-- the model is to be printed: the fault of the option comes first
abbrev pub modelling : StateValue → Step
modelling s = if s.options.produce_models then modelling_by s s.standing else refuse s OptionOff

-- each term has a value that can be told
abbrev pub no_objection : List Node → ℕ → Option ErrorText
no_objection nodes t = None

abbrev pub valuing_by : StateValue → List Asked → TermsValue → Option Verdict → Step
valuing_by s asked terms (Some verdict.Sat) = (Values asked, record { symbols = s.symbols; terms = terms; scopes = s.scopes; options = s.options; standing = s.standing; assumed = s.assumed })
valuing_by s asked terms _ = refuse s NoModel

-- the values of these terms are to be printed: faults of the terms come first, then that of the option
abbrev pub valuing_asked : StateValue → Asking → Step
valuing_asked s (Ok r) = if s.options.produce_models then valuing_by s r.0 r.1 s.standing else refuse s OptionOff
valuing_asked s (Err e) = refuse s e

abbrev pub valuing : StateValue → List Lexeme → Sexps → Step
valuing s tokens es = valuing_asked s (asking no_objection s.symbols s.terms tokens [] es)

abbrev pub valuing_listed : StateValue → List Lexeme → Sexp → Step
valuing_listed s tokens (group es) = valuing s tokens es
valuing_listed s tokens (atom k x) = refuse s NotSupported

abbrev pub refuting_by : StateValue → Option Verdict → Step
refuting_by s (Some verdict.Unsat) = (Core, s)
refuting_by s _ = refuse s NoRefutation

-- the names of a core are to be printed
abbrev pub refuting : StateValue → Step
refuting s = if s.options.produce_unsat_cores then refuting_by s s.standing else refuse s OptionOff

abbrev pub refuting_assumed_by : StateValue → Option Verdict → Option (List Asked) → Step
refuting_assumed_by s (Some verdict.Unsat) (Some asked) = (Assumptions, s)
refuting_assumed_by s _ _ = refuse s NoRefutation

-- assumptions that cannot hold are to be printed; the check has to have been asked with assumptions
abbrev pub refuting_assumed : StateValue → Step
refuting_assumed s = if s.options.produce_unsat_assumptions then refuting_assumed_by s s.standing s.assumed else refuse s OptionOff

-- ---- commands

-- what a command of this name with these arguments does, which these tokens spell
unfoldable pub obey : StateValue → List Lexeme → CommandName → Sexps → Step
obey s tokens name.SetLogic (more logic none) = choosing s logic
obey s tokens name.SetInfo (more keyword es) = (Done, s)
obey s tokens name.SetOption (more keyword es) = setting_option s keyword es
obey s tokens name.GetOption (more keyword none) = telling_option s keyword
obey s tokens name.GetInfo (more keyword none) = telling_info s keyword
obey s tokens name.Echo (more text none) = echoing s text
obey s tokens name.DeclareConst es = declaring s (declare s.symbols name.DeclareConst es)
obey s tokens name.DeclareFun es = declaring s (declare s.symbols name.DeclareFun es)
obey s tokens name.DefineSort es = naming_sort s (define_sort s.symbols name.DefineSort es)
obey s tokens name.DefineFun es = defining s (define s.symbols s.terms name.DefineFun es)
obey s tokens name.Assert (more e none) = asserting s (name_of_assertion e) (assertion s.symbols s.terms e)
obey s tokens name.Push es = pushing s (levels_meant es)
obey s tokens name.Pop es = popping s (levels_meant es)
obey s tokens name.Reset es = resetting s first_options
obey s tokens name.ResetAssertions es = resetting s s.options
obey s tokens name.CheckSat none = checking s
obey s tokens name.CheckSatAssuming (more e none) = assuming_listed s (listed tokens) e
obey s tokens name.GetModel es = modelling s
obey s tokens name.GetValue (more e none) = valuing_listed s (listed tokens) e
obey s tokens name.GetUnsatCore es = refuting s
obey s tokens name.GetUnsatAssumptions es = refuting_assumed s
obey s tokens name.GetAssertions es = saying s unsupported
obey s tokens name.GetAssignment es = saying s unsupported
obey s tokens name.GetProof es = saying s unsupported
obey s tokens name.Exit es = (Exit, s)
obey s tokens _ es = refuse s NotSupported

abbrev pub obey_read : StateValue → List Lexeme → Result (CommandName × Sexps) SyntaxFault → Step
obey_read s tokens (Ok c) = obey s tokens c.0 c.1
obey_read s tokens (Err f) = refuse s (syntax_error f)

-- what a chunk does that reads so
abbrev pub step : StateValue → Reading → Step
step s (Ok c) = obey_read s c.tokens (read (group c.list))
step s (Err e) = refuse s e

-- ---- after an answer

-- the state once a command is answered: the terms of `get-value` are forgotten
abbrev pub settled : StateValue → Answer → StateValue → StateValue
settled old (Values asked) new = old
settled old _ new = new

-- the terms from a number on are forgotten
abbrev pub forgotten : StateValue → ℕ → StateValue
forgotten s n = record { symbols = s.symbols; terms = cut_at s.terms n; scopes = s.scopes; options = s.options; standing = s.standing; assumed = s.assumed }

-- Where the terms are forgotten that the values are asked of, the state is as before. The check that stands found a model,
-- and the terms are over the live declarations.
pub record IsAskedValues (old new : StateValue) (asked : List Asked) : Type 0 where
  pub back : forgotten new (length old.terms.nodes) ≡ old
  pub limit : new.terms.limit ≡ old.terms.limit
  pub standing : old.standing ≡ Some verdict.Sat
  pub option : old.options.produce_models ≡ true
  pub each : All (IsAsked new.terms.nodes old.symbols.live) asked

-- ---- the end of a run

abbrev pub is_exit : CommandName → Bool
is_exit name.Exit = true
is_exit _ = false

abbrev pub ends_read : Result (CommandName × Sexps) SyntaxFault → Bool
ends_read (Ok c) = is_exit c.0
ends_read (Err f) = false

-- `exit` ends the run: what stands behind it is not read
abbrev pub ends : Reading → Bool
ends (Ok c) = ends_read (read (group c.list))
ends (Err e) = false

-- ---- what the code answers

-- The answer with the new state are those of the step. For want of memory the state is as before.
abbrev pub Answers : Step → Result Answer AllocError → StateValue → StateValue → Type 0
Answers to (Ok a) old new = ◌≡◌ {A = Step} to (a, new)
Answers to (Err e) old new = new ≡ old

-- The answer with the new state are those of the step that what the chunk reads as does.
abbrev pub Applies : Chunk → Result Answer AllocError → StateValue → StateValue → Type 0
Applies chunk (Ok a) old new = (r : Reading) × ReadsAs chunk r × Answers (step old r) (Ok a) old new
Applies chunk (Err e) old new = new ≡ old

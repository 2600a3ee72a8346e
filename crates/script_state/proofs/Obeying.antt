-- What each command does, by its name and its arguments.
use Rattle.std.proofs.Common.{◌≡◌, true, false, List, [], ◌∷◌, refl, sym, subst, ◌⊎◌, inl, inr, Option, Result}
use Rattle.std.specs.Prelude.{option_to_list}
use Rattle.std.specs.declared.alloc.AllocError.{AllocError}
use Rattle.smt_text.specs.Lexicon.{Lexeme}
use Rattle.smt_text.specs.declared.token.CommandName.{CommandName}
use Rattle.smt_text.specs.declared.token.CommandName.TheVariants as name
use Rattle.smt_syntax.specs.declared.span.Span.{Span}
use Rattle.smt_syntax.specs.declared.command.Command.{Command}
use Rattle.smt_syntax.specs.declared.command.Command.TheVariants as command
use Rattle.smt_syntax.specs.Sexps.{Sign, Sexp, Sexps, none, more}
use Rattle.smt_syntax.specs.Spans.{Stands, AllStand}
use Rattle.smt_syntax.specs.Commands.{name_of, spans_of, is_left_out, is_not_supported}
use Rattle.smt_build.specs.Declaring.{declare}
use Rattle.smt_build.specs.Defining.{define, define_sort}
use Rattle.smt_build.specs.Asserting.{assertion}
use Rattle.smt_build.specs.Naming.{name_of_assertion}
use Rattle.script_state.specs.declared.answer.Answer.{Answer}
use Rattle.script_state.specs.declared.answer.Answer.TheVariants.{Done, Exit}
use Rattle.script_state.specs.Written.{listed}
use Rattle.script_state.specs.States.{StateValue}
use Rattle.script_state.specs.declared.error_text.ErrorText.TheVariants.{NotSupported}
use Rattle.script_state.specs.Options.{first_options}
use Rattle.script_state.specs.Steps.{Step, choosing, declaring, naming_sort, defining, asserting, checking, assuming_listed, valuing_listed, saying, unsupported, setting_option, telling_option, telling_info, echoing, levels_meant, pushing, popping, resetting, modelling, refuting, refuting_assumed, refuse, obey, Answers}

module _ (s : StateValue) (tokens : List Lexeme) (signs : List Sign) (result : Result Answer AllocError) (new : StateValue) where
  -- the arguments stand at the spans of a command that is not left out
  abbrev pub HasArguments : Command → Sexps → Type 0
  HasArguments k es = is_left_out (name_of k) ≡ false → AllStand signs (spans_of k) es

  abbrev pub Obeys : Command → Type 0
  Obeys k = (es : Sexps) → HasArguments k es → Answers (obey s tokens (name_of k) es) result s new

  pub obeys_declaration : (k : Command) (n t : Span) → k ≡ command.DeclareConst n t
      → ((es : Sexps) → AllStand signs (spans_of k) es → Answers (declaring s (declare s.symbols (name_of k) es)) result s new)
      → Obeys k
  unfolding obey
  obeys_declaration k n t e =
      let P : Command → Type 0 = λ k. ((es : Sexps) → AllStand signs (spans_of k) es → Answers (declaring s (declare s.symbols (name_of k) es)) result s new) → Obeys k in
      subst P (sym e) (λ ensures es stand. ensures es (stand refl))

  pub obeys_function : (k : Command) (n args t : Span) → k ≡ command.DeclareFun n args t
      → ((es : Sexps) → AllStand signs (spans_of k) es → Answers (declaring s (declare s.symbols (name_of k) es)) result s new)
      → Obeys k
  unfolding obey
  obeys_function k n args t e =
      let P : Command → Type 0 = λ k. ((es : Sexps) → AllStand signs (spans_of k) es → Answers (declaring s (declare s.symbols (name_of k) es)) result s new) → Obeys k in
      subst P (sym e) (λ ensures es stand. ensures es (stand refl))

  pub obeys_sort : (k : Command) (n ps t : Span) → k ≡ command.DefineSort n ps t
      → ((es : Sexps) → AllStand signs (spans_of k) es → Answers (naming_sort s (define_sort s.symbols (name_of k) es)) result s new)
      → Obeys k
  unfolding obey
  obeys_sort k n ps t e =
      let P : Command → Type 0 = λ k. ((es : Sexps) → AllStand signs (spans_of k) es → Answers (naming_sort s (define_sort s.symbols (name_of k) es)) result s new) → Obeys k in
      subst P (sym e) (λ ensures es stand. ensures es (stand refl))

  pub obeys_definition : (k : Command) (n ps t b : Span) → k ≡ command.DefineFun n ps t b
      → ((es : Sexps) → AllStand signs (spans_of k) es → Answers (defining s (define s.symbols s.terms (name_of k) es)) result s new)
      → Obeys k
  unfolding obey
  obeys_definition k n ps t b e =
      let P : Command → Type 0 = λ k. ((es : Sexps) → AllStand signs (spans_of k) es → Answers (defining s (define s.symbols s.terms (name_of k) es)) result s new) → Obeys k in
      subst P (sym e) (λ ensures es stand. ensures es (stand refl))

  one_argument : (span : Span) (es : Sexps) → AllStand signs (span ∷ []) es
      → ((e : Sexp) → Stands signs span e → Answers (asserting s (name_of_assertion e) (assertion s.symbols s.terms e)) result s new)
      → Answers (obey s tokens name.Assert es) result s new
  unfolding obey
  one_argument span none stand ensures = absurd stand
  one_argument span (more e none) stand ensures = ensures e stand.0
  one_argument span (more e (more f es)) stand ensures = absurd stand.1

  pub obeys_assertion : (k : Command) (span : Span) → k ≡ command.Assert span
      → ((e : Sexp) → Stands signs span e → Answers (asserting s (name_of_assertion e) (assertion s.symbols s.terms e)) result s new)
      → Obeys k
  obeys_assertion k span e ensures = subst Obeys (sym e) (λ es stand. one_argument span es (stand refl) ensures)

  logic_argument : (span : Span) (es : Sexps) → AllStand signs (span ∷ []) es
      → ((e : Sexp) → Stands signs span e → Answers (choosing s e) result s new)
      → Answers (obey s tokens name.SetLogic es) result s new
  unfolding obey
  logic_argument span none stand ensures = absurd stand
  logic_argument span (more e none) stand ensures = ensures e stand.0
  logic_argument span (more e (more f es)) stand ensures = absurd stand.1

  pub obeys_logic : (k : Command) (span : Span) → k ≡ command.SetLogic span
      → ((e : Sexp) → Stands signs span e → Answers (choosing s e) result s new)
      → Obeys k
  obeys_logic k span e ensures = subst Obeys (sym e) (λ es stand. logic_argument span es (stand refl) ensures)

  -- one argument, that is a list of terms
  assuming_argument : (span : Span) (es : Sexps) → AllStand signs (span ∷ []) es
      → ((e : Sexp) → Stands signs span e → Answers (assuming_listed s (listed tokens) e) result s new)
      → Answers (obey s tokens name.CheckSatAssuming es) result s new
  unfolding obey
  assuming_argument span none stand ensures = absurd stand
  assuming_argument span (more e none) stand ensures = ensures e stand.0
  assuming_argument span (more e (more f es)) stand ensures = absurd stand.1

  pub obeys_check_assuming : (k : Command) (span : Span) → k ≡ command.CheckSatAssuming span
      → ((e : Sexp) → Stands signs span e → Answers (assuming_listed s (listed tokens) e) result s new)
      → Obeys k
  obeys_check_assuming k span e ensures = subst Obeys (sym e) (λ es stand. assuming_argument span es (stand refl) ensures)

  valuing_argument : (span : Span) (es : Sexps) → AllStand signs (span ∷ []) es
      → ((e : Sexp) → Stands signs span e → Answers (valuing_listed s (listed tokens) e) result s new)
      → Answers (obey s tokens name.GetValue es) result s new
  unfolding obey
  valuing_argument span none stand ensures = absurd stand
  valuing_argument span (more e none) stand ensures = ensures e stand.0
  valuing_argument span (more e (more f es)) stand ensures = absurd stand.1

  pub obeys_get_value : (k : Command) (span : Span) → k ≡ command.GetValue span
      → ((e : Sexp) → Stands signs span e → Answers (valuing_listed s (listed tokens) e) result s new)
      → Obeys k
  obeys_get_value k span e ensures = subst Obeys (sym e) (λ es stand. valuing_argument span es (stand refl) ensures)

  -- one argument, that of an option, of information or of `echo`
  option_argument : (span : Span) (es : Sexps) → AllStand signs (span ∷ []) es
      → ((e : Sexp) → Stands signs span e → Answers (telling_option s e) result s new)
      → Answers (obey s tokens name.GetOption es) result s new
  unfolding obey
  option_argument span none stand ensures = absurd stand
  option_argument span (more e none) stand ensures = ensures e stand.0
  option_argument span (more e (more f es)) stand ensures = absurd stand.1

  pub obeys_get_option : (k : Command) (span : Span) → k ≡ command.GetOption span
      → ((e : Sexp) → Stands signs span e → Answers (telling_option s e) result s new)
      → Obeys k
  obeys_get_option k span e ensures = subst Obeys (sym e) (λ es stand. option_argument span es (stand refl) ensures)

  information_argument : (span : Span) (es : Sexps) → AllStand signs (span ∷ []) es
      → ((e : Sexp) → Stands signs span e → Answers (telling_info s e) result s new)
      → Answers (obey s tokens name.GetInfo es) result s new
  unfolding obey
  information_argument span none stand ensures = absurd stand
  information_argument span (more e none) stand ensures = ensures e stand.0
  information_argument span (more e (more f es)) stand ensures = absurd stand.1

  pub obeys_get_info : (k : Command) (span : Span) → k ≡ command.GetInfo span
      → ((e : Sexp) → Stands signs span e → Answers (telling_info s e) result s new)
      → Obeys k
  obeys_get_info k span e ensures = subst Obeys (sym e) (λ es stand. information_argument span es (stand refl) ensures)

  echo_argument : (span : Span) (es : Sexps) → AllStand signs (span ∷ []) es
      → ((e : Sexp) → Stands signs span e → Answers (echoing s e) result s new)
      → Answers (obey s tokens name.Echo es) result s new
  unfolding obey
  echo_argument span none stand ensures = absurd stand
  echo_argument span (more e none) stand ensures = ensures e stand.0
  echo_argument span (more e (more f es)) stand ensures = absurd stand.1

  pub obeys_echo : (k : Command) (span : Span) → k ≡ command.Echo span
      → ((e : Sexp) → Stands signs span e → Answers (echoing s e) result s new)
      → Obeys k
  obeys_echo k span e ensures = subst Obeys (sym e) (λ es stand. echo_argument span es (stand refl) ensures)

  option_arguments : (span : Span) (spans : List Span) (es : Sexps) → AllStand signs (span ∷ spans) es
      → ((e : Sexp) (vs : Sexps) → Stands signs span e → AllStand signs spans vs → Answers (setting_option s e vs) result s new)
      → Answers (obey s tokens name.SetOption es) result s new
  unfolding obey
  option_arguments span spans none stand ensures = absurd stand
  option_arguments span spans (more e es) stand ensures = ensures e es stand.0 stand.1

  pub obeys_set_option : (k : Command) (keyword : Span) (value : Option Span) → k ≡ command.SetOption keyword value
      → ((e : Sexp) (vs : Sexps) → Stands signs keyword e → AllStand signs (option_to_list value) vs → Answers (setting_option s e vs) result s new)
      → Obeys k
  obeys_set_option k keyword value e ensures = subst Obeys (sym e) (λ es stand. option_arguments keyword (option_to_list value) es (stand refl) ensures)

  info_arguments : (span : Span) (spans : List Span) (es : Sexps) → AllStand signs (span ∷ spans) es → Answers (Done, s) result s new → Answers (obey s tokens name.SetInfo es) result s new
  unfolding obey
  info_arguments span spans none stand ensures = absurd stand
  info_arguments span spans (more e es) stand ensures = ensures

  pub obeys_info : (k : Command) (keyword : Span) (value : Option Span) → k ≡ command.SetInfo keyword value → Answers (Done, s) result s new → Obeys k
  obeys_info k keyword value e ensures = subst Obeys (sym e) (λ es stand. info_arguments keyword (option_to_list value) es (stand refl) ensures)

  no_argument : (es : Sexps) → AllStand signs [] es → Answers (checking s) result s new → Answers (obey s tokens name.CheckSat es) result s new
  unfolding obey
  no_argument none stand ensures = ensures
  no_argument (more e es) stand ensures = absurd stand

  pub obeys_check : (k : Command) → k ≡ command.CheckSat → Answers (checking s) result s new → Obeys k
  obeys_check k e ensures = subst Obeys (sym e) (λ es stand. no_argument es (stand refl) ensures)

  -- the number of levels, which may be left out
  pub obeys_push : (k : Command) (levels : Option Span) → k ≡ command.Push levels
      → ((es : Sexps) → AllStand signs (option_to_list levels) es → Answers (pushing s (levels_meant es)) result s new)
      → Obeys k
  unfolding obey
  obeys_push k levels e ensures = subst Obeys (sym e) (λ es stand. ensures es (stand refl))

  pub obeys_pop : (k : Command) (levels : Option Span) → k ≡ command.Pop levels
      → ((es : Sexps) → AllStand signs (option_to_list levels) es → Answers (popping s (levels_meant es)) result s new)
      → Obeys k
  unfolding obey
  obeys_pop k levels e ensures = subst Obeys (sym e) (λ es stand. ensures es (stand refl))

  -- commands that take no arguments
  pub obeys_reset : (k : Command) → k ≡ command.Reset → Answers (resetting s first_options) result s new → Obeys k
  unfolding obey
  obeys_reset k e ensures = subst Obeys (sym e) (λ es stand. ensures)

  pub obeys_reset_assertions : (k : Command) → k ≡ command.ResetAssertions → Answers (resetting s s.options) result s new → Obeys k
  unfolding obey
  obeys_reset_assertions k e ensures = subst Obeys (sym e) (λ es stand. ensures)

  pub obeys_get_model : (k : Command) → k ≡ command.GetModel → Answers (modelling s) result s new → Obeys k
  unfolding obey
  obeys_get_model k e ensures = subst Obeys (sym e) (λ es stand. ensures)

  pub obeys_get_core : (k : Command) → k ≡ command.GetUnsatCore → Answers (refuting s) result s new → Obeys k
  unfolding obey
  obeys_get_core k e ensures = subst Obeys (sym e) (λ es stand. ensures)

  pub obeys_get_assumptions : (k : Command) → k ≡ command.GetUnsatAssumptions → Answers (refuting_assumed s) result s new → Obeys k
  unfolding obey
  obeys_get_assumptions k e ensures = subst Obeys (sym e) (λ es stand. ensures)

  pub obeys_exit : (k : Command) → k ≡ command.Exit → Answers (Exit, s) result s new → Obeys k
  unfolding obey
  obeys_exit k e ensures = subst Obeys (sym e) (λ es stand. ensures)

  pub obeys_unsupported : Answers (saying s unsupported) result s new → (k : Command) → (k ≡ command.GetAssertions) ⊎ (k ≡ command.GetAssignment) ⊎ (k ≡ command.GetProof) → Obeys k
  unfolding obey
  obeys_unsupported ensures k (inl e) = subst Obeys (sym e) (λ es stand. ensures)
  obeys_unsupported ensures k (inr (inl e)) = subst Obeys (sym e) (λ es stand. ensures)
  obeys_unsupported ensures k (inr (inr e)) = subst Obeys (sym e) (λ es stand. ensures)

module _ (s : StateValue) (tokens : List Lexeme) where
  left_out : (n : CommandName) (es : Sexps) → true ≡ is_left_out n → ◌≡◌ {A = Step} (obey s tokens n es) (refuse s NotSupported)
  unfolding obey
  left_out name.DeclareSort es e = refl
  left_out name.DefineFunRec es e = refl
  left_out name.DefineFunsRec es e = refl
  left_out name.DeclareDatatype es e = refl
  left_out name.DeclareDatatypes es e = refl
  left_out _ es e = absurd (let z : ⊥ = cc in z)

  -- a command that is not supported
  abbrev IsRefused : Command → Type 0
  IsRefused k = is_not_supported k ≡ is_left_out (name_of k) → (es : Sexps) → ◌≡◌ {A = Step} (obey s tokens (name_of k) es) (refuse s NotSupported)

  pub obeys_other : (k : Command) (n : CommandName) → k ≡ command.NotSupported n → IsRefused k
  obeys_other k n e = subst IsRefused (sym e) (λ known es. left_out n es known)

-- The grammar of commands (SMT-LIB 2.6, section 3.9), and the command that an S-expression is.
use Rattle.std.specs.Prelude.{◌≡◌, Bool, true, false, ◌&&◌, ◌||◌, List, [], ◌∷◌, nat_lt, Option, Some, None, Result, Ok, Err, if◌then◌else◌, option_to_list}
use Rattle.std.specs.List.{list_any}
use Rattle.smt_text.specs.declared.token.CommandName.{CommandName}
use Rattle.smt_text.specs.declared.token.CommandName.TheVariants as name
use Rattle.smt_text.specs.declared.token.TokenKind.{TokenKind}
use Rattle.smt_text.specs.declared.token.TokenKind.TheVariants as kind
use Rattle.smt_syntax.specs.declared.form.Form.{Form}
use Rattle.smt_syntax.specs.declared.form.Form.TheVariants.{Term, Sort, Name, Symbol, Numeral, String, Keyword, Option as OptionName, OtherOption, Boolean, Value, Empty, Sorts, Parameters, Terms, SomeTerms}
use Rattle.smt_syntax.specs.declared.span.Span.{Span}
use Rattle.smt_syntax.specs.declared.command.Command.{Command}
use Rattle.smt_syntax.specs.declared.command.Command.TheVariants as command
use Rattle.smt_syntax.specs.declared.command.SyntaxFault.{SyntaxFault}
use Rattle.smt_syntax.specs.declared.command.SyntaxFault.TheVariants.{TooDeep, UnknownCommand, Malformed}
use Rattle.smt_syntax.specs.declared.command.SyntaxError.{SyntaxError}
use Rattle.smt_syntax.specs.declared.command.SyntaxError.TheVariants.{NoMemory, Fault}
use Rattle.smt_syntax.specs.Sexps.{Sign, Sexp, Sexps, atom, group, none, more}
use Rattle.smt_syntax.specs.Depth.{depth, most_depth}
use Rattle.smt_syntax.specs.Spans.{AllStand}
use Rattle.smt_syntax.specs.Forms.{fits}

-- commands that are known and not supported, whatever follows their names
abbrev pub is_left_out : CommandName → Bool
is_left_out name.DeclareSort = true
is_left_out name.DefineFunRec = true
is_left_out name.DefineFunsRec = true
is_left_out name.DeclareDatatype = true
is_left_out name.DeclareDatatypes = true
is_left_out _ = false

-- the forms of a command's arguments: one of these rows
abbrev pub forms_of : CommandName → List (List Form)
forms_of name.Assert = (Term ∷ []) ∷ []
forms_of name.CheckSatAssuming = (Terms ∷ []) ∷ []
forms_of name.DeclareConst = (Name ∷ Sort ∷ []) ∷ []
forms_of name.DeclareFun = (Name ∷ Sorts ∷ Sort ∷ []) ∷ []
forms_of name.DefineFun = (Name ∷ Parameters ∷ Sort ∷ Term ∷ []) ∷ []
forms_of name.DefineSort = (Name ∷ Empty ∷ Sort ∷ []) ∷ []
forms_of name.Echo = (String ∷ []) ∷ []
forms_of name.GetInfo = (Keyword ∷ []) ∷ []
forms_of name.GetOption = (Keyword ∷ []) ∷ []
forms_of name.GetValue = (SomeTerms ∷ []) ∷ []
forms_of name.Pop = [] ∷ (Numeral ∷ []) ∷ []
forms_of name.Push = [] ∷ (Numeral ∷ []) ∷ []
forms_of name.SetInfo = (Keyword ∷ []) ∷ (Keyword ∷ Value ∷ []) ∷ []
forms_of name.SetLogic = (Symbol ∷ []) ∷ []
forms_of name.SetOption = (OptionName ∷ Boolean ∷ []) ∷ (OtherOption ∷ []) ∷ (OtherOption ∷ Value ∷ []) ∷ []
forms_of name.DeclareSort = []
forms_of name.DefineFunRec = []
forms_of name.DefineFunsRec = []
forms_of name.DeclareDatatype = []
forms_of name.DeclareDatatypes = []
forms_of _ = [] ∷ []

-- each argument is of its form, and there are as many
abbrev pub fits_all : List Form → Sexps → Bool
fits_all [] none = true
fits_all [] (more e es) = false
fits_all (f ∷ fs) none = false
fits_all (f ∷ fs) (more e es) = fits f e && fits_all fs es

abbrev pub fits_some : List (List Form) → Sexps → Bool
fits_some rows es = list_any (λ fs. fits_all fs es) rows

abbrev pub is_formed : CommandName → Sexps → Bool
is_formed n es = is_left_out n || fits_some (forms_of n) es

-- the name of a command
abbrev pub named : TokenKind → Option CommandName
named (kind.Command n) = Some n
named _ = None

abbrev pub formed : Option CommandName → Sexps → Result (CommandName × Sexps) SyntaxFault
formed None es = Err UnknownCommand
formed (Some n) es = if is_formed n es then Ok (n, es) else Err Malformed

-- the command with its arguments
abbrev pub command_in : Sexp → Result (CommandName × Sexps) SyntaxFault
command_in (atom k x) = Err UnknownCommand
command_in (group none) = Err UnknownCommand
command_in (group (more (atom k x) es)) = formed (named k) es
command_in (group (more (group xs) es)) = Err UnknownCommand

-- the first fault is that of depth
abbrev pub read : Sexp → Result (CommandName × Sexps) SyntaxFault
read e = if nat_lt most_depth (depth e) then Err TooDeep else command_in e

-- ---- what the code answers

abbrev pub name_of : Command → CommandName
name_of (command.Assert term) = name.Assert
name_of command.CheckSat = name.CheckSat
name_of (command.CheckSatAssuming terms) = name.CheckSatAssuming
name_of (command.DeclareConst n sort) = name.DeclareConst
name_of (command.DeclareFun n arguments sort) = name.DeclareFun
name_of (command.DefineFun n parameters sort term) = name.DefineFun
name_of (command.DefineSort n parameters sort) = name.DefineSort
name_of (command.Echo text) = name.Echo
name_of command.Exit = name.Exit
name_of command.GetAssertions = name.GetAssertions
name_of command.GetAssignment = name.GetAssignment
name_of (command.GetInfo keyword) = name.GetInfo
name_of command.GetModel = name.GetModel
name_of (command.GetOption keyword) = name.GetOption
name_of command.GetProof = name.GetProof
name_of command.GetUnsatAssumptions = name.GetUnsatAssumptions
name_of command.GetUnsatCore = name.GetUnsatCore
name_of (command.GetValue terms) = name.GetValue
name_of (command.Pop levels) = name.Pop
name_of (command.Push levels) = name.Push
name_of command.Reset = name.Reset
name_of command.ResetAssertions = name.ResetAssertions
name_of (command.SetInfo keyword value) = name.SetInfo
name_of (command.SetLogic logic) = name.SetLogic
name_of (command.SetOption keyword value) = name.SetOption
name_of (command.NotSupported n) = n

-- where its arguments stand
abbrev pub spans_of : Command → List Span
spans_of (command.Assert term) = term ∷ []
spans_of (command.CheckSatAssuming terms) = terms ∷ []
spans_of (command.DeclareConst n sort) = n ∷ sort ∷ []
spans_of (command.DeclareFun n arguments sort) = n ∷ arguments ∷ sort ∷ []
spans_of (command.DefineFun n parameters sort term) = n ∷ parameters ∷ sort ∷ term ∷ []
spans_of (command.DefineSort n parameters sort) = n ∷ parameters ∷ sort ∷ []
spans_of (command.Echo text) = text ∷ []
spans_of (command.GetInfo keyword) = keyword ∷ []
spans_of (command.GetOption keyword) = keyword ∷ []
spans_of (command.GetValue terms) = terms ∷ []
spans_of (command.Pop levels) = option_to_list levels
spans_of (command.Push levels) = option_to_list levels
spans_of (command.SetInfo keyword value) = keyword ∷ option_to_list value
spans_of (command.SetLogic logic) = logic ∷ []
spans_of (command.SetOption keyword value) = keyword ∷ option_to_list value
spans_of _ = []

abbrev pub is_not_supported : Command → Bool
is_not_supported (command.NotSupported n) = true
is_not_supported _ = false

-- The answer is the command, its arguments at their spans, or the fault. It is one that is not supported exactly for those left out.
abbrev pub Reads : List Sign → Result (CommandName × Sexps) SyntaxFault → Result Command SyntaxError → Type 0
Reads tokens to (Ok c) = (es : Sexps) × (to ≡ Ok (name_of c, es)) × (is_left_out (name_of c) ≡ false → AllStand tokens (spans_of c) es) × (is_not_supported c ≡ is_left_out (name_of c))
Reads tokens to (Err (Fault f)) = to ≡ Err f
Reads tokens to (Err NoMemory) = Unit {0}

-- as many forms as arguments
abbrev pub same_length : List Form → List Span → Bool
same_length [] [] = true
same_length [] (s ∷ ss) = false
same_length (f ∷ fs) [] = false
same_length (f ∷ fs) (s ∷ ss) = same_length fs ss

abbrev pub has_arity : CommandName → List Span → Bool
has_arity n spans = list_any (λ fs. same_length fs spans) (forms_of n)

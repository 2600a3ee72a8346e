-- The texts of errors, and the errors that faults of commands and terms are told as.
use Rattle.std.specs.Prelude.{ℕ, List, codes}
use Rattle.smt_syntax.specs.declared.command.SyntaxFault.{SyntaxFault}
use Rattle.smt_syntax.specs.declared.command.SyntaxFault.TheVariants as syntax
use Rattle.smt_build.specs.declared.fault.BuildFault.{BuildFault}
use Rattle.smt_build.specs.declared.fault.BuildFault.TheVariants as build
use Rattle.script_state.specs.declared.error_text.ErrorText.{ErrorText}
use Rattle.script_state.specs.declared.error_text.ErrorText.TheVariants.{UnfinishedCommand, TextOutsideCommand, BadToken, UnknownCommand, MalformedCommand, NestingTooDeep, UnknownSymbol, AlreadyDeclared, ReservedSymbol, WrongArguments, WidthOutOfRange, LiteralTooWide, NotSupported, TooManyTerms, UnknownLogic, LevelOutOfRange, NoModel, NoRefutation, OptionOff, NoUnknownAnswer}

abbrev pub text_of : ErrorText → List ℕ
text_of UnfinishedCommand = codes "unfinished command"
text_of TextOutsideCommand = codes "text outside a command"
text_of BadToken = codes "bad token"
text_of UnknownCommand = codes "unknown command"
text_of MalformedCommand = codes "malformed command"
text_of NestingTooDeep = codes "nesting too deep"
text_of UnknownSymbol = codes "unknown symbol"
text_of AlreadyDeclared = codes "symbol already declared"
text_of ReservedSymbol = codes "reserved symbol"
text_of WrongArguments = codes "wrong number or sorts of arguments"
text_of WidthOutOfRange = codes "width out of range"
text_of LiteralTooWide = codes "literal too wide"
text_of NotSupported = codes "not supported"
text_of TooManyTerms = codes "too many terms"
text_of UnknownLogic = codes "unknown logic"
text_of LevelOutOfRange = codes "level out of range"
text_of NoModel = codes "no model stands"
text_of NoRefutation = codes "no refutation stands"
text_of OptionOff = codes "option is off"
text_of NoUnknownAnswer = codes "no unknown answer stands"

-- a fault of a command's depth, name or form
abbrev pub syntax_error : SyntaxFault → ErrorText
syntax_error syntax.TooDeep = NestingTooDeep
syntax_error syntax.UnknownCommand = UnknownCommand
syntax_error syntax.Malformed = MalformedCommand

-- a fault of a name, a sort or a term
abbrev pub build_error : BuildFault → ErrorText
build_error build.UnknownSymbol = UnknownSymbol
build_error build.Declared = AlreadyDeclared
build_error build.Reserved = ReservedSymbol
build_error build.WrongSort = WrongArguments
build_error build.Width = WidthOutOfRange
build_error build.LiteralTooWide = LiteralTooWide
build_error build.NotSupported = NotSupported
build_error build.TermLimit = TooManyTerms

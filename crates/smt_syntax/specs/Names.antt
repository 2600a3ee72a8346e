-- The name of the command that tokens begin with.
use Rattle.std.specs.Prelude.{List, ◌∷◌, Option, None}
use Rattle.smt_text.specs.declared.token.CommandName.{CommandName}
use Rattle.smt_text.specs.declared.token.Token.{Token}
use Rattle.smt_text.specs.declared.token.TokenKind.{TokenKind}
use Rattle.smt_text.specs.declared.token.TokenKind.TheVariants as kind
use Rattle.smt_syntax.specs.Commands.{named}

abbrev pub name_behind : TokenKind → TokenKind → Option CommandName
name_behind kind.Open k = named k
name_behind _ k = None

abbrev pub first_name : List Token → Option CommandName
first_name (t ∷ u ∷ v ∷ ts) = name_behind t.kind u.kind
first_name _ = None

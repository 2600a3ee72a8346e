-- The reader that judges shapes, a token at a time.
use Rattle.std.specs.Prelude.{ℕ, Bool, not, ◌&&◌, ◌||◌, List, Option, Some, None, Result, Ok, Err, if◌then◌else◌, codes}
use Rattle.std.specs.Str.{bytes_eq}
use Rattle.smt_text.specs.declared.token.TokenKind.{TokenKind}
use Rattle.smt_text.specs.declared.token.TokenKind.TheVariants as kind
use Rattle.smt_syntax.specs.Walk.{Reader}
use Rattle.smt_syntax.specs.Shapes.{is_foreign, is_term_word, is_name, is_symbol, is_numeral, is_keyword, is_string, is_named, is_option, is_boolean, is_word_name, is_const}
use Rattle.smt_syntax.specs.declared.shape.Want.{Want}
use Rattle.smt_syntax.specs.declared.shape.Want.TheVariants as want
use Rattle.smt_syntax.specs.declared.shape.Place.{Place}
use Rattle.smt_syntax.specs.declared.shape.Place.TheVariants as place
use Rattle.smt_syntax.specs.declared.shape.Frame.{Frame}
use Rattle.smt_syntax.specs.declared.shape.Frame.TheVariants as frame
use Rattle.smt_syntax.specs.declared.shape.Part.{Part}
use Rattle.smt_syntax.specs.declared.shape.Part.TheVariants as part

abbrev pub part_if : Bool → Part → Option Part
part_if b p = if b then Some p else None

abbrev pub keyword_part : List ℕ → Part
keyword_part x = if is_named x then part.Named else part.Keyword

-- the first word of a term's list
abbrev pub head_part : TokenKind → Option Part
head_part kind.Symbol = Some part.Head
head_part kind.Let = Some part.Let
head_part kind.Bang = Some part.Bang
head_part kind.Underscore = Some part.Underscore
head_part k = part_if (is_foreign k) part.Foreign

-- the first word of the list of an indexed head
abbrev pub index_head_part : TokenKind → Option Part
index_head_part kind.Underscore = Some part.Underscore
index_head_part kind.As = Some part.As
index_head_part k = part_if (is_foreign k) part.Foreign

-- the first word of a sort's list
abbrev pub sort_head_part : TokenKind → List ℕ → Option Part
sort_head_part kind.Underscore x = Some part.Underscore
sort_head_part kind.Symbol x = part_if (bytes_eq x (codes "Array")) part.Array
sort_head_part k x = part_if (is_foreign k) part.Foreign

unfoldable pub word_part : Want → TokenKind → List ℕ → Option Part
word_part want.Term k x = part_if (is_term_word k) part.Term
word_part want.Head k x = head_part k
word_part want.IndexHead k x = index_head_part k
word_part want.Sort k x = part_if (is_symbol k || is_foreign k) part.Sort
word_part want.SortHead k x = sort_head_part k x
word_part want.BitVec k x = part_if (is_symbol k && bytes_eq x (codes "BitVec")) part.Symbol
word_part want.Name k x = part_if (is_name k) part.Name
word_part want.WordName k x = part_if (is_symbol k && is_word_name x) part.Symbol
word_part want.Const k x = Some (if is_const k x then part.Const else part.Value)
word_part want.Symbol k x = part_if (is_symbol k) part.Symbol
word_part want.Numeral k x = part_if (is_numeral k) part.Numeral
word_part want.String k x = part_if (is_string k) part.Value
word_part want.Keyword k x = part_if (is_keyword k) part.Keyword
word_part want.Attribute k x = part_if (is_keyword k) (keyword_part x)
word_part want.AttributeValue k x = Some (if is_keyword k then keyword_part x else part.Value)
word_part want.Value k x = part_if (not (is_keyword k)) part.Value
word_part want.Option k x = part_if (is_keyword k && is_option x) part.Keyword
word_part want.OtherOption k x = part_if (is_keyword k && not (is_option x)) part.Keyword
word_part want.Boolean k x = part_if (is_symbol k && is_boolean x) part.Value
word_part want.Anything k x = Some part.Value
word_part want.Bindings k x = None
word_part want.Binding k x = None
word_part want.Empty k x = None
word_part want.Sorts k x = None
word_part want.Parameters k x = None
word_part want.Parameter k x = None
word_part want.Terms k x = None
word_part want.SomeTerms k x = None
word_part want.Nothing k x = None

unfoldable pub opened : Want → Option Frame
opened want.Term = Some frame.TermStarted
opened want.Head = Some frame.HeadStarted
opened want.Sort = Some frame.SortStarted
opened want.Bindings = Some frame.NoBindings
opened want.Binding = Some frame.BindingStarted
opened want.AttributeValue = Some frame.Unread
opened want.Value = Some frame.Unread
opened want.Anything = Some frame.Unread
opened want.Const = Some frame.Unread
opened want.Empty = Some frame.EmptyList
opened want.Sorts = Some frame.SortList
opened want.Parameters = Some frame.ParameterList
opened want.Parameter = Some frame.ParameterStarted
opened want.Terms = Some frame.TermList
opened want.SomeTerms = Some frame.NoTerms
opened _ = None

unfoldable pub context : Frame → Want
context frame.TermStarted = want.Head
context frame.Headed = want.Term
context frame.Applied = want.Term
context frame.LetStarted = want.Bindings
context frame.LetBound = want.Term
context frame.NoBindings = want.Binding
context frame.SomeBindings = want.Binding
context frame.BindingStarted = want.Name
context frame.BindingNamed = want.Term
context frame.BangStarted = want.Term
context frame.BangTerm = want.Attribute
context frame.KeywordRead = want.AttributeValue
context frame.NamedRead = want.Name
context frame.ValueRead = want.Attribute
context frame.HeadStarted = want.IndexHead
context frame.IndexStarted = want.Symbol
context frame.IndexNamed = want.Numeral
context frame.Indexed = want.Numeral
context frame.WordStarted = want.WordName
context frame.WordNamed = want.Numeral
context frame.AsStarted = want.Const
context frame.ConstRead = want.Anything
context frame.ConstSorted = want.Anything
context frame.ForeignHead = want.Anything
context frame.SortStarted = want.SortHead
context frame.BitVecStarted = want.BitVec
context frame.BitVecNamed = want.Numeral
context frame.ArrayStarted = want.Sort
context frame.ArrayIndexed = want.Sort
context (frame.Foreign p) = want.Anything
context frame.Unread = want.Anything
context frame.SortList = want.Sort
context frame.ParameterList = want.Parameter
context frame.ParameterStarted = want.Name
context frame.ParameterNamed = want.Sort
context frame.NoTerms = want.Term
context frame.TermList = want.Term
context _ = want.Nothing

unfoldable pub taken : Frame → Part → Option Frame
taken frame.TermStarted part.Head = Some frame.Headed
taken frame.TermStarted part.Let = Some frame.LetStarted
taken frame.TermStarted part.Bang = Some frame.BangStarted
taken frame.TermStarted part.Underscore = Some frame.WordStarted
taken frame.TermStarted part.Foreign = Some (frame.Foreign place.Term)
taken frame.TermStarted part.ForeignHead = Some (frame.Foreign place.Term)
taken frame.TermStarted part.ConstantArray = Some frame.Applied
taken frame.Headed part.Term = Some frame.Applied
taken frame.Applied part.Term = Some frame.Applied
taken frame.LetStarted part.Bindings = Some frame.LetBound
taken frame.LetBound part.Term = Some frame.LetDone
taken frame.NoBindings part.Binding = Some frame.SomeBindings
taken frame.SomeBindings part.Binding = Some frame.SomeBindings
taken frame.BindingStarted part.Name = Some frame.BindingNamed
taken frame.BindingNamed part.Term = Some frame.BindingDone
taken frame.BangStarted part.Term = Some frame.BangTerm
taken frame.BangTerm part.Keyword = Some frame.KeywordRead
taken frame.BangTerm part.Named = Some frame.NamedRead
taken frame.KeywordRead part.Keyword = Some frame.KeywordRead
taken frame.KeywordRead part.Named = Some frame.NamedRead
taken frame.KeywordRead part.Value = Some frame.ValueRead
taken frame.NamedRead part.Name = Some frame.ValueRead
taken frame.ValueRead part.Keyword = Some frame.KeywordRead
taken frame.ValueRead part.Named = Some frame.NamedRead
taken frame.HeadStarted part.Underscore = Some frame.IndexStarted
taken frame.HeadStarted part.As = Some frame.AsStarted
taken frame.HeadStarted part.Foreign = Some frame.ForeignHead
taken frame.IndexStarted part.Symbol = Some frame.IndexNamed
taken frame.IndexNamed part.Numeral = Some frame.Indexed
taken frame.Indexed part.Numeral = Some frame.Indexed
taken frame.WordStarted part.Symbol = Some frame.WordNamed
taken frame.WordNamed part.Numeral = Some frame.WordDone
taken frame.AsStarted part.Const = Some frame.ConstRead
taken frame.AsStarted part.Value = Some frame.ForeignHead
taken frame.ConstRead part.Value = Some frame.ConstSorted
taken frame.ConstSorted part.Value = Some frame.ForeignHead
taken frame.ForeignHead part.Value = Some frame.ForeignHead
taken frame.SortStarted part.Underscore = Some frame.BitVecStarted
taken frame.SortStarted part.Foreign = Some (frame.Foreign place.Sort)
taken frame.SortStarted part.Array = Some frame.ArrayStarted
taken frame.BitVecStarted part.Symbol = Some frame.BitVecNamed
taken frame.BitVecNamed part.Numeral = Some frame.BitVecDone
taken frame.ArrayStarted part.Sort = Some frame.ArrayIndexed
taken frame.ArrayIndexed part.Sort = Some frame.ArrayDone
taken (frame.Foreign p) part.Value = Some (frame.Foreign p)
taken frame.Unread part.Value = Some frame.Unread
taken frame.SortList part.Sort = Some frame.SortList
taken frame.ParameterList part.Parameter = Some frame.ParameterList
taken frame.ParameterStarted part.Name = Some frame.ParameterNamed
taken frame.ParameterNamed part.Sort = Some frame.ParameterDone
taken frame.NoTerms part.Term = Some frame.TermList
taken frame.TermList part.Term = Some frame.TermList
taken _ _ = None

abbrev pub at_place : Place → Part
at_place place.Term = part.Term
at_place place.Sort = part.Sort

unfoldable pub closed : Frame → Option Part
closed frame.Applied = Some part.Term
closed frame.LetDone = Some part.Term
closed frame.SomeBindings = Some part.Bindings
closed frame.BindingDone = Some part.Binding
closed frame.KeywordRead = Some part.Term
closed frame.ValueRead = Some part.Term
closed frame.Indexed = Some part.Head
closed frame.WordDone = Some part.Term
closed frame.AsStarted = Some part.ForeignHead
closed frame.ConstRead = Some part.ForeignHead
closed frame.ConstSorted = Some part.ConstantArray
closed frame.ForeignHead = Some part.ForeignHead
closed frame.BitVecDone = Some part.Sort
closed frame.ArrayDone = Some part.Sort
closed (frame.Foreign p) = Some (at_place p)
closed frame.Unread = Some part.Value
closed frame.EmptyList = Some part.List
closed frame.SortList = Some part.List
closed frame.ParameterList = Some part.List
closed frame.ParameterDone = Some part.Parameter
closed frame.TermList = Some part.List
closed _ = None

-- there is one fault, and no state
abbrev pub Seen : Type 0 → Type 0
Seen A = Result (A × Unit {0}) (Unit {0})

abbrev pub seen : {A : Type 0} → Option A → Seen A
seen (Some a) = Ok (a, tt)
seen None = Err tt

abbrev pub shape_reader : Reader Want Frame Part (Unit {0}) (Unit {0})
shape_reader = record {
  at_word = λ c s k x. seen (word_part c k x);
  opens = λ c s. seen (opened c);
  context = context;
  takes = λ f v s. seen (taken f v);
  closes = λ f s. seen (closed f);
  stuck = tt;
}

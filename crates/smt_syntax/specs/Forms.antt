-- What may stand as an argument of a command.
use Rattle.std.specs.Prelude.{ℕ, Bool, true, false, not, ◌&&◌, List}
use Rattle.smt_text.specs.declared.token.TokenKind.{TokenKind}
use Rattle.smt_syntax.specs.declared.form.Form.{Form}
use Rattle.smt_syntax.specs.declared.form.Form.TheVariants as form
use Rattle.smt_syntax.specs.declared.shape.Want.{Want}
use Rattle.smt_syntax.specs.declared.shape.Want.TheVariants as want
use Rattle.smt_syntax.specs.Sexps.{Sexp, Sexps, atom, group, none, more}
use Rattle.smt_syntax.specs.Shapes.{is_name, is_symbol, is_numeral, is_string, is_keyword, is_option, is_boolean, is_term, are_terms, are_some_terms, is_sort, are_sorts, are_parameters}

abbrev pub is_word : (TokenKind → List ℕ → Bool) → Sexp → Bool
is_word test (atom k x) = test k x
is_word test (group es) = false

abbrev pub is_list : (Sexps → Bool) → Sexp → Bool
is_list test (atom k x) = false
is_list test (group es) = test es

abbrev pub is_none : Sexps → Bool
is_none none = true
is_none (more e es) = false

abbrev pub is_value : Sexp → Bool
is_value (atom k x) = not (is_keyword k)
is_value (group es) = true

-- the S-expression is of the form
abbrev pub fits : Form → Sexp → Bool
fits form.Term e = is_term e
fits form.Sort e = is_sort e
fits form.Name e = is_word (λ k x. is_name k) e
fits form.Symbol e = is_word (λ k x. is_symbol k) e
fits form.Numeral e = is_word (λ k x. is_numeral k) e
fits form.String e = is_word (λ k x. is_string k) e
fits form.Keyword e = is_word (λ k x. is_keyword k) e
fits form.Option e = is_word (λ k x. is_keyword k && is_option x) e
fits form.OtherOption e = is_word (λ k x. is_keyword k && not (is_option x)) e
fits form.Boolean e = is_word (λ k x. is_symbol k && is_boolean x) e
fits form.Value e = is_value e
fits form.Empty e = is_list is_none e
fits form.Sorts e = is_list are_sorts e
fits form.Parameters e = is_list are_parameters e
fits form.Terms e = is_list are_terms e
fits form.SomeTerms e = is_list are_some_terms e

abbrev pub want_of : Form → Want
want_of form.Term = want.Term
want_of form.Sort = want.Sort
want_of form.Name = want.Name
want_of form.Symbol = want.Symbol
want_of form.Numeral = want.Numeral
want_of form.String = want.String
want_of form.Keyword = want.Keyword
want_of form.Option = want.Option
want_of form.OtherOption = want.OtherOption
want_of form.Boolean = want.Boolean
want_of form.Value = want.Value
want_of form.Empty = want.Empty
want_of form.Sorts = want.Sorts
want_of form.Parameters = want.Parameters
want_of form.Terms = want.Terms
want_of form.SomeTerms = want.SomeTerms

-- Worked rows: commands that are read by the definitions, over the tokens of the script in smt_text.
use Rattle.std.proofs.Common.{◌≡◌, refl, Ok, Err, codes}
use Rattle.smt_text.specs.declared.token.CommandName.TheVariants as command
use Rattle.smt_text.specs.declared.token.TokenKind.TheVariants as kind
use Rattle.smt_text.proofs.Rows as rows
use Rattle.smt_syntax.specs.declared.command.SyntaxFault.TheVariants.{UnknownCommand, Malformed}
use Rattle.smt_syntax.specs.Sexps.{signs_of, Sexp, Sexps, atom, group, none, more, spelling}
use Rattle.smt_syntax.specs.Depth.{depth, depths}
use Rattle.smt_syntax.specs.Shapes.{is_term, are_terms, are_some_terms, is_let, are_some_bindings, is_sort, are_two_sorts}
use Rattle.smt_syntax.specs.Commands.{read}

abbrev pub declares_x_arguments : Sexps
declares_x_arguments = (more (atom kind.Symbol (codes "x")) (more (group (more (atom kind.Underscore (codes "_")) (more (atom kind.Symbol (codes "BitVec")) (more (atom kind.Numeral (codes "8")) none)))) none))

abbrev pub declares_x : Sexp
declares_x = group (more (atom (kind.Command command.DeclareConst) (codes "declare-const")) declares_x_arguments)

pub declares_x_spells : signs_of rows.declares_x ≡ spelling declares_x
declares_x_spells = refl

pub declares_x_reads : read declares_x ≡ Ok (command.DeclareConst, declares_x_arguments)
unfolding depth depths is_term are_terms are_some_terms is_sort are_two_sorts
declares_x_reads = refl

abbrev pub asserts_sum_arguments : Sexps
asserts_sum_arguments = (more (group (more (atom kind.Symbol (codes "=")) (more (group (more (atom kind.Symbol (codes "bvadd")) (more (atom kind.Symbol (codes "x")) (more (atom kind.Symbol (codes "y")) none)))) (more (atom kind.Hexadecimal (codes "#x0f")) none)))) none)

abbrev pub asserts_sum : Sexp
asserts_sum = group (more (atom (kind.Command command.Assert) (codes "assert")) asserts_sum_arguments)

pub asserts_sum_spells : signs_of rows.asserts_sum ≡ spelling asserts_sum
asserts_sum_spells = refl

pub asserts_sum_reads : read asserts_sum ≡ Ok (command.Assert, asserts_sum_arguments)
unfolding depth depths is_term are_terms are_some_terms is_sort are_two_sorts
asserts_sum_reads = refl

abbrev pub asserts_mask_arguments : Sexps
asserts_mask_arguments = (more (group (more (atom kind.Symbol (codes "=")) (more (group (more (atom kind.Symbol (codes "bvand")) (more (atom kind.Symbol (codes "x")) (more (atom kind.Hexadecimal (codes "#xf0")) none)))) (more (group (more (atom kind.Symbol (codes "bvnot")) (more (atom kind.Hexadecimal (codes "#x0f")) none))) none)))) none)

abbrev pub asserts_mask : Sexp
asserts_mask = group (more (atom (kind.Command command.Assert) (codes "assert")) asserts_mask_arguments)

pub asserts_mask_spells : signs_of rows.asserts_mask ≡ spelling asserts_mask
asserts_mask_spells = refl

pub asserts_mask_reads : read asserts_mask ≡ Ok (command.Assert, asserts_mask_arguments)
unfolding depth depths is_term are_terms are_some_terms is_sort are_two_sorts
asserts_mask_reads = refl

abbrev pub asserts_y_arguments : Sexps
asserts_y_arguments = (more (group (more (atom kind.Symbol (codes "=")) (more (atom kind.Symbol (codes "y")) (more (atom kind.Hexadecimal (codes "#x1f")) none)))) none)

abbrev pub asserts_y : Sexp
asserts_y = group (more (atom (kind.Command command.Assert) (codes "assert")) asserts_y_arguments)

pub asserts_y_spells : signs_of rows.asserts_y ≡ spelling asserts_y
asserts_y_spells = refl

pub asserts_y_reads : read asserts_y ≡ Ok (command.Assert, asserts_y_arguments)
unfolding depth depths is_term are_terms are_some_terms is_sort are_two_sorts
asserts_y_reads = refl

abbrev pub checks_arguments : Sexps
checks_arguments = none

abbrev pub checks : Sexp
checks = group (more (atom (kind.Command command.CheckSat) (codes "check-sat")) checks_arguments)

pub checks_spells : signs_of rows.checks ≡ spelling checks
checks_spells = refl

pub checks_reads : read checks ≡ Ok (command.CheckSat, checks_arguments)
unfolding depth depths is_term are_terms are_some_terms is_sort are_two_sorts
checks_reads = refl

-- the shape of the whole is judged before any name in it
let_first : read (group (more (atom (kind.Command command.Assert) (codes "assert")) (more (group (more (atom kind.Symbol (codes "and")) (more (atom kind.Symbol (codes "nope")) (more (group (more (atom kind.Let (codes "let")) (more (group none) (more (atom kind.Symbol (codes "p")) none)))) none)))) none))) ≡ Err Malformed
unfolding depth depths is_term are_terms are_some_terms is_let are_some_bindings
let_first = refl

-- a list without a command's name
no_name : read (group none) ≡ Err UnknownCommand
unfolding depth depths
no_name = refl

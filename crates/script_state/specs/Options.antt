-- The options of a session (SMT-LIB 2.6, section 4.1.7).
use Rattle.std.specs.Prelude.{ℕ, Bool, true, false, List, codes, if◌then◌else◌, Option, Some, None}
use Rattle.std.specs.Str.{bytes_eq}
use Rattle.script_state.specs.declared.options.Options.{Options}

-- before the first `set-option`
abbrev pub first_options : Options
first_options = record { print_success = false; produce_models = true; produce_unsat_cores = true; produce_unsat_assumptions = true }

-- the value of the option that a keyword names
abbrev pub option_value : Options → List ℕ → Option Bool
option_value o x =
    if bytes_eq x (codes ":print-success") then Some o.print_success
    else (if bytes_eq x (codes ":produce-models") then Some o.produce_models
    else (if bytes_eq x (codes ":produce-unsat-cores") then Some o.produce_unsat_cores
    else (if bytes_eq x (codes ":produce-unsat-assumptions") then Some o.produce_unsat_assumptions
    else None)))

-- the options with this value for the one that a keyword names
abbrev pub with_option : Options → List ℕ → Bool → Option Options
with_option o x b =
    if bytes_eq x (codes ":print-success") then Some (record { print_success = b; produce_models = o.produce_models; produce_unsat_cores = o.produce_unsat_cores; produce_unsat_assumptions = o.produce_unsat_assumptions })
    else (if bytes_eq x (codes ":produce-models") then Some (record { print_success = o.print_success; produce_models = b; produce_unsat_cores = o.produce_unsat_cores; produce_unsat_assumptions = o.produce_unsat_assumptions })
    else (if bytes_eq x (codes ":produce-unsat-cores") then Some (record { print_success = o.print_success; produce_models = o.produce_models; produce_unsat_cores = b; produce_unsat_assumptions = o.produce_unsat_assumptions })
    else (if bytes_eq x (codes ":produce-unsat-assumptions") then Some (record { print_success = o.print_success; produce_models = o.produce_models; produce_unsat_cores = o.produce_unsat_cores; produce_unsat_assumptions = b })
    else None)))

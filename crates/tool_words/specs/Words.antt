-- The words that the program takes, those after its own name: as `clap` takes them for a program of six commands, each with
-- the name of a proof file. Before it `drill` has the seed and the size of a script, behind it `convert` has the name of the file that
-- a proof is written into, and each other perhaps that of a script, or of clauses. Two commands have three options too: how many
-- workers search, and the limits of their search.
use Rattle.std.specs.Prelude.{◌≡◌, ◌≤◌, ℕ, true, false, List, [], ◌∷◌, codes, Option, Some, None, unwrap_or}
use Rattle.std.specs.Str.Parse.{without_leading_plus, digits_value}
use Rattle.clap.specs.Walk.{Text, Rule, Row, first_of, one_of}
use Rattle.clap.specs.Simple.{App, Shape, new_rule, new_shape, with_rule, subcommand_of}
use Rattle.clap.specs.Values.{IsUnsignedIn}
use Rattle.clap.specs.Faults.{fault_of}
use Rattle.clap.specs.declared.builder.value_parser.ValueParser.TheVariants.{Unsigned}
use Rattle.tool_words.specs.declared.words.Command.{Command}
use Rattle.tool_words.specs.declared.words.Draw.{Draw}
use Rattle.tool_words.specs.declared.words.Options.{Options}
use Rattle.tool_words.specs.declared.words.Command.TheVariants.{Solve, Check, Lrat, Cnf, Convert, Drill}

-- ---- the program's command line

-- the name of a proof file, which has to be there, and that of a script
abbrev pub proof_argument : Rule
proof_argument = record (new_rule (codes "PROOF")) { required = true }

abbrev pub script_argument : Rule
script_argument = new_rule (codes "SCRIPT")

-- the name of the file that a proof is written into, which has to be there too
abbrev pub out_argument : Rule
out_argument = record (new_rule (codes "OUT")) { required = true }

-- a number that has to be there, at least and at most so many
abbrev pub number_argument : Text → ℕ → ℕ → Rule
number_argument name least most = record (new_rule name) { required = true; parser = Some (Unsigned least most) }

abbrev pub seed_argument : Rule
seed_argument = number_argument (codes "SEED") 0 18446744073709551615

abbrev pub size_argument : Rule
size_argument = number_argument (codes "SIZE") 1 1000

-- `--NAME N`, where N is at least and at most so many
abbrev pub number_option : Text → ℕ → ℕ → Rule
number_option name least most = record (new_rule name) { long = Some name; parser = Some (Unsigned least most) }

abbrev pub workers_option : Rule
workers_option = number_option (codes "workers") 1 64

abbrev pub cubes_option : Rule
cubes_option = number_option (codes "cubes") 0 10

abbrev pub budget_option : Rule
budget_option = number_option (codes "budget") 0 1000000000

-- the arguments of each command
abbrev pub rules_of : Command → List Rule
rules_of Solve = proof_argument ∷ script_argument ∷ workers_option ∷ cubes_option ∷ budget_option ∷ []
rules_of Check = proof_argument ∷ script_argument ∷ []
rules_of Lrat = proof_argument ∷ script_argument ∷ []
rules_of Cnf = proof_argument ∷ script_argument ∷ []
rules_of Convert = proof_argument ∷ out_argument ∷ []
rules_of Drill = seed_argument ∷ size_argument ∷ proof_argument ∷ workers_option ∷ cubes_option ∷ budget_option ∷ []

abbrev pub name_of : Command → Text
name_of Solve = codes "solve"
name_of Check = codes "check"
name_of Lrat = codes "lrat"
name_of Cnf = codes "cnf"
name_of Convert = codes "convert"
name_of Drill = codes "drill"

-- a command with these arguments
abbrev pub shape_with : Text → List Rule → Shape
shape_with name rules = record (new_shape name) { rules = rules }

abbrev pub shape_for : Command → Shape
shape_for command = shape_with (name_of command) (rules_of command)

abbrev pub leaf_app : Text → List Rule → App
leaf_app name rules = record { top = shape_with name rules; subs = [] }

abbrev pub app_for : Command → App
app_for command = leaf_app (name_of command) (rules_of command)

-- the command with the number of workers and the limits of their search
abbrev pub with_options : App → App
with_options a = with_rule (with_rule (with_rule a workers_option) cubes_option) budget_option

-- a command is wanted, and none of them is help or a version
abbrev pub bare_program : App
bare_program = record {
  top = record (new_shape (codes "smt_tool")) {
    no_binary_name = true;
    disable_help_flag = true;
    disable_help_subcommand = true;
    disable_version_flag = true;
    subcommand_required = true;
  };
  subs = [];
}

-- the program with these commands
abbrev pub program_with : List Shape → App
program_with commands = record { top = record bare_program.top { is_leaf = false }; subs = commands }

abbrev pub program : App
program = program_with (shape_for Solve ∷ shape_for Check ∷ shape_for Lrat ∷ shape_for Cnf ∷ shape_for Convert ∷ shape_for Drill ∷ [])

-- ---- numbers

-- the number that is written after an option, and the usual one where the option is not there
abbrev pub number_or : ℕ → Option Text → ℕ
number_or usual None = usual
number_or usual (Some text) = digits_value 10 (without_leading_plus text)

-- Where nothing is said one worker searches, a check is not split, and a search may put 100000 chains on it.
abbrev pub options_in : List Row → Options
options_in rows = record {
  workers = number_or 1 (one_of (codes "workers") rows);
  cubes = number_or 0 (one_of (codes "cubes") rows);
  budget = number_or 100000 (one_of (codes "budget") rows);
}

-- where no script is drawn its seed and its size are 0
abbrev pub draw_in : List Row → Draw
draw_in rows = record {
  seed = number_or 0 (one_of (codes "SEED") rows);
  size = number_or 0 (one_of (codes "SIZE") rows);
}

-- the options are in range: 1 to 64 workers, at most 10 variables, and at most 1000000000 chains
pub record AreOptions (o : Options) : Type 0 where
  pub some : 1 ≤ o.workers
  pub few : o.workers ≤ 64
  pub cubes : o.cubes ≤ 10
  pub budget : o.budget ≤ 1000000000

-- what is written after an option is a whole number, at least and at most so many
abbrev pub IsWithin : ℕ → ℕ → Option Text → Type 0
IsWithin least most None = Unit {0}
IsWithin least most (Some text) = IsUnsignedIn least most text

pub record AreWithin (rows : List Row) : Type 0 where
  pub workers : IsWithin 1 64 (one_of (codes "workers") rows)
  pub cubes : IsWithin 0 10 (one_of (codes "cubes") rows)
  pub budget : IsWithin 0 1000000000 (one_of (codes "budget") rows)
  pub seed : IsWithin 0 18446744073709551615 (one_of (codes "SEED") rows)
  pub size : IsWithin 1 1000 (one_of (codes "SIZE") rows)

-- ---- words

-- What was found of a command: its name, the name of a proof file, that of the file that a proof is written into, which is the same
-- where no other is named, that of a script, if there is one, and its numbers.
pub record Names (found : Option (Text × List Row)) (name proof out : Text) (script : Option Text) (options : Options) (draw : Draw) : Type 0 where
  pub rows : List Row
  pub command : found ≡ Some (name, rows)
  pub proof_is : first_of (codes "PROOF") rows ≡ Some proof
  pub out_is : unwrap_or (first_of (codes "OUT") rows) proof ≡ out
  pub script_is : first_of (codes "SCRIPT") rows ≡ script
  pub options_are : options_in rows ≡ options
  pub draw_is : draw_in rows ≡ draw

-- the words are taken: there is no fault in them
abbrev pub AreTaken : List (List ℕ) → Type 0
AreTaken words = fault_of program words ≡ []

-- they are taken, and ask for this command with these files and numbers
pub record Asks (command : Command) (words : List (List ℕ)) (proof out : Text) (script : Option Text) (options : Options) (draw : Draw) : Type 0 where
  pub taken : AreTaken words
  pub names : Names (subcommand_of program words) (name_of command) proof out script options draw

-- to do this
pub record IsTo (command : Command) (words : List (List ℕ)) : Type 0 where
  pub proof : Text
  pub out : Text
  pub script : Option Text
  pub options : Options
  pub draw : Draw
  pub asks : Asks command words proof out script options draw

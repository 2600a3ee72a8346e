-- Words without a fault ask for a command with its files, and the numbers that they give are in range.
use Rattle.std.proofs.Common.{◌≡◌, Bool, true, false, List, [], ◌∷◌, Option, Some, None, refl, sym, ap, ◌∙◌, subst}
use Rattle.std.specs.Prelude.{codes, ◌||◌, find, is_some, not, if◌then◌else◌, option_map, unwrap_or}
use Rattle.std.specs.List.{AllByRecursion}
use Rattle.std.specs.Option.{option_map_or}
use Rattle.clap.specs.Kinds.{check_kinds}
use Rattle.clap.specs.Walk.{Text, Rule, Row}
use Rattle.clap.specs.Walk.{first_of, answers_to, walk, finished, nothing_held, rows_after, stop_after}
use Rattle.clap.specs.Simple.{Shape, rows_at, built, built_leaf, inherited, filled, with_index, entered, names_of, label_of, subcommand_of}
use Rattle.clap.specs.Takes.{is_given}
use Rattle.clap.specs.Faults.{fault_of, level_fault, check_fault, entered_fault}
use Rattle.clap.proofs.OnLiterals.{clap_on_literals}
use Rattle.tool_words.specs.declared.words.Command.{Command}
use Rattle.tool_words.specs.declared.words.Command.TheVariants.{Solve, Check, Lrat, Cnf, Convert, Drill}
use Rattle.tool_words.proofs.OneValue.{ArePlain, AreFine, TakesNumber, only_one, level_end, fine_after, value_given, number_of_rule, no_rule}
use Rattle.tool_words.specs.Words.{proof_argument, script_argument, out_argument, seed_argument, size_argument, workers_option, cubes_option, budget_option, shape_for, program, name_of, options_in, draw_in, AreWithin, IsTo}

-- ---- the command line as it is built

abbrev proof_file : Rule
proof_file = with_index 1 (filled proof_argument)

abbrev script_file : Rule
script_file = with_index 2 (filled script_argument)

abbrev out_file : Rule
out_file = with_index 2 (filled out_argument)

abbrev seed_number : Rule
seed_number = with_index 1 (filled seed_argument)

abbrev size_number : Rule
size_number = with_index 2 (filled size_argument)

abbrev drill_file : Rule
drill_file = with_index 3 (filled proof_argument)

abbrev numbers : List Rule
numbers = filled workers_option ∷ filled cubes_option ∷ filled budget_option ∷ []

abbrev two_files : List Rule
two_files = proof_file ∷ script_file ∷ []

-- the arguments of each command, once they are built
abbrev built_rules : Command → List Rule
built_rules Solve = proof_file ∷ script_file ∷ numbers
built_rules Check = two_files
built_rules Lrat = two_files
built_rules Cnf = two_files
built_rules Convert = proof_file ∷ out_file ∷ []
built_rules Drill = seed_number ∷ size_number ∷ drill_file ∷ numbers

abbrev above : Shape
above = (built program).top

abbrev leaf : Command → Shape
leaf command = built_leaf (inherited above (shape_for command))

solve_plain : ArePlain (built_rules Solve)
unfolding clap_on_literals
solve_plain = record { each = (record { known = refl; action = refl; takes = refl; one = only_one; defaults = refl }, (record { known = refl; action = refl; takes = refl; one = only_one; defaults = refl }, (record { known = refl; action = refl; takes = refl; one = only_one; defaults = refl }, (record { known = refl; action = refl; takes = refl; one = only_one; defaults = refl }, (record { known = refl; action = refl; takes = refl; one = only_one; defaults = refl }, tt))))); no_short = λ x. refl }

files_plain : ArePlain (built_rules Check)
unfolding clap_on_literals
files_plain = record { each = (record { known = refl; action = refl; takes = refl; one = only_one; defaults = refl }, (record { known = refl; action = refl; takes = refl; one = only_one; defaults = refl }, tt)); no_short = λ x. refl }

convert_plain : ArePlain (built_rules Convert)
unfolding clap_on_literals
convert_plain = record { each = (record { known = refl; action = refl; takes = refl; one = only_one; defaults = refl }, (record { known = refl; action = refl; takes = refl; one = only_one; defaults = refl }, tt)); no_short = λ x. refl }

drill_plain : ArePlain (built_rules Drill)
unfolding clap_on_literals
drill_plain = record { each = (record { known = refl; action = refl; takes = refl; one = only_one; defaults = refl }, (record { known = refl; action = refl; takes = refl; one = only_one; defaults = refl }, (record { known = refl; action = refl; takes = refl; one = only_one; defaults = refl }, (record { known = refl; action = refl; takes = refl; one = only_one; defaults = refl }, (record { known = refl; action = refl; takes = refl; one = only_one; defaults = refl }, (record { known = refl; action = refl; takes = refl; one = only_one; defaults = refl }, tt)))))); no_short = λ x. refl }

workers_taken : TakesNumber (filled workers_option) 1 64
workers_taken = record { values = λ values. refl; reading = refl }

cubes_taken : TakesNumber (filled cubes_option) 0 10
cubes_taken = record { values = λ values. refl; reading = refl }

budget_taken : TakesNumber (filled budget_option) 0 1000000000
budget_taken = record { values = λ values. refl; reading = refl }

seed_taken : TakesNumber (seed_number) 0 18446744073709551615
seed_taken = record { values = λ values. refl; reading = refl }

size_taken : TakesNumber (size_number) 1 1000
size_taken = record { values = λ values. refl; reading = refl }

numbers_of_solve : (rows : List Row) → AreFine (built_rules Solve) rows → AreWithin rows
unfolding clap_on_literals
numbers_of_solve rows h = record {
  workers = number_of_rule (built_rules Solve) (codes "workers") (filled workers_option) 1 64 workers_taken refl rows h;
  cubes = number_of_rule (built_rules Solve) (codes "cubes") (filled cubes_option) 0 10 cubes_taken refl rows h;
  budget = number_of_rule (built_rules Solve) (codes "budget") (filled budget_option) 0 1000000000 budget_taken refl rows h;
  seed = no_rule (built_rules Solve) (codes "SEED") 0 18446744073709551615 refl rows h;
  size = no_rule (built_rules Solve) (codes "SIZE") 1 1000 refl rows h;
}

numbers_of_files : (rows : List Row) → AreFine (built_rules Check) rows → AreWithin rows
unfolding clap_on_literals
numbers_of_files rows h = record {
  workers = no_rule (built_rules Check) (codes "workers") 1 64 refl rows h;
  cubes = no_rule (built_rules Check) (codes "cubes") 0 10 refl rows h;
  budget = no_rule (built_rules Check) (codes "budget") 0 1000000000 refl rows h;
  seed = no_rule (built_rules Check) (codes "SEED") 0 18446744073709551615 refl rows h;
  size = no_rule (built_rules Check) (codes "SIZE") 1 1000 refl rows h;
}

numbers_of_convert : (rows : List Row) → AreFine (built_rules Convert) rows → AreWithin rows
unfolding clap_on_literals
numbers_of_convert rows h = record {
  workers = no_rule (built_rules Convert) (codes "workers") 1 64 refl rows h;
  cubes = no_rule (built_rules Convert) (codes "cubes") 0 10 refl rows h;
  budget = no_rule (built_rules Convert) (codes "budget") 0 1000000000 refl rows h;
  seed = no_rule (built_rules Convert) (codes "SEED") 0 18446744073709551615 refl rows h;
  size = no_rule (built_rules Convert) (codes "SIZE") 1 1000 refl rows h;
}

numbers_of_drill : (rows : List Row) → AreFine (built_rules Drill) rows → AreWithin rows
unfolding clap_on_literals
numbers_of_drill rows h = record {
  workers = number_of_rule (built_rules Drill) (codes "workers") (filled workers_option) 1 64 workers_taken refl rows h;
  cubes = number_of_rule (built_rules Drill) (codes "cubes") (filled cubes_option) 0 10 cubes_taken refl rows h;
  budget = number_of_rule (built_rules Drill) (codes "budget") (filled budget_option) 0 1000000000 budget_taken refl rows h;
  seed = number_of_rule (built_rules Drill) (codes "SEED") (seed_number) 0 18446744073709551615 seed_taken refl rows h;
  size = number_of_rule (built_rules Drill) (codes "SIZE") (size_number) 1 1000 size_taken refl rows h;
}

-- ---- the program

pub record IsFound (found : Option (Text × List Row)) (name : Text) : Type 0 where
  pub rows : List Row
  pub command : found ≡ Some (name, rows)
  pub proof : Text
  pub proof_is : first_of (codes "PROOF") rows ≡ Some proof
  pub numbers : AreWithin rows

abbrev pub Found : Option (Text × List Row) → Type 0
Found found = (command : Command) × IsFound found (name_of command)

-- what has to be there is given
one_given : (b : Bool) → check_kinds false false (not b || false) ≡ [] → b ≡ true
one_given true e = refl
one_given false e = let q : ⊥ = cc in absurd q

first_given : (b c : Bool) → check_kinds false false (not b || (not c || false)) ≡ [] → b ≡ true
first_given true c e = refl
first_given false c e = let q : ⊥ = cc in absurd q

third_given : (a b c : Bool) → check_kinds false false (not a || (not b || (not c || false))) ≡ [] → c ≡ true
third_given true true true e = refl
third_given true true false e = let q : ⊥ = cc in absurd q
third_given true false c e = let q : ⊥ = cc in absurd q
third_given false b c e = let q : ⊥ = cc in absurd q

-- a command of plain arguments is found with its proof file, and its numbers are in range
record IsGood (s : Shape) (name : Text) : Type 0 where
  named : s.name ≡ name
  once : s.args_override_self ≡ false
  plain : ArePlain s.rules
  numbers : (rows : List Row) → AreFine s.rules rows → AreWithin rows
  proof : (rows : List Row) → check_fault s rows false ≡ [] → is_given (codes "PROOF") rows ≡ true

good_found : (s : Shape) (name : Text) → IsGood s name → (words : List Text) → level_fault s [] nothing_held words false [] ≡ [] → IsFound (Some (rows_at s words)) name
good_found s name g words e =
    let ends = level_end s [] words false [] e in
    let rows = rows_after s.rules [] words in
    let fine : AreFine s.rules rows = fine_after s g.once g.plain words ends in
    let v = value_given s.rules (codes "PROOF") rows fine (g.proof rows ends.check) in
    record { rows = rows; command = ap (λ n. Some (n, rows)) g.named; proof = v.0; proof_is = v.1; numbers = g.numbers rows fine }

solve_good : IsGood (leaf Solve) (name_of Solve)
unfolding clap_on_literals
solve_good = record { named = refl; once = refl; plain = solve_plain; numbers = numbers_of_solve; proof = λ rows e. one_given (is_given (codes "PROOF") rows) e }

check_good : IsGood (leaf Check) (name_of Check)
unfolding clap_on_literals
check_good = record { named = refl; once = refl; plain = files_plain; numbers = numbers_of_files; proof = λ rows e. one_given (is_given (codes "PROOF") rows) e }

lrat_good : IsGood (leaf Lrat) (name_of Lrat)
unfolding clap_on_literals
lrat_good = record { named = refl; once = refl; plain = files_plain; numbers = numbers_of_files; proof = λ rows e. one_given (is_given (codes "PROOF") rows) e }

cnf_good : IsGood (leaf Cnf) (name_of Cnf)
unfolding clap_on_literals
cnf_good = record { named = refl; once = refl; plain = files_plain; numbers = numbers_of_files; proof = λ rows e. one_given (is_given (codes "PROOF") rows) e }

convert_good : IsGood (leaf Convert) (name_of Convert)
unfolding clap_on_literals
convert_good = record { named = refl; once = refl; plain = convert_plain; numbers = numbers_of_convert; proof = λ rows e. first_given (is_given (codes "PROOF") rows) (is_given (codes "OUT") rows) e }

drill_good : IsGood (leaf Drill) (name_of Drill)
unfolding clap_on_literals
drill_good = record { named = refl; once = refl; plain = drill_plain; numbers = numbers_of_drill; proof = λ rows e. third_given (is_given (codes "SEED") rows) (is_given (codes "SIZE") rows) (is_given (codes "PROOF") rows) e }

-- where the command is found words are taken
abbrev IsTakenAt : Shape → Type 0
IsTakenAt s = (words : List Text) → level_fault s [] nothing_held words false [] ≡ [] → Found (Some (rows_at s words))

taken_at : (command : Command) → IsGood (leaf command) (name_of command) → IsTakenAt (leaf command)
taken_at command g words e = (command, good_found (leaf command) (name_of command) g words e)

all_taken : AllByRecursion IsTakenAt (leaf Solve ∷ leaf Check ∷ leaf Lrat ∷ leaf Cnf ∷ leaf Convert ∷ leaf Drill ∷ [])
all_taken = (taken_at Solve solve_good, (taken_at Check check_good, (taken_at Lrat lrat_good, (taken_at Cnf cnf_good, (taken_at Convert convert_good, (taken_at Drill drill_good, tt))))))

subs_are : (built program).subs ≡ leaf Solve ∷ leaf Check ∷ leaf Lrat ∷ leaf Cnf ∷ leaf Convert ∷ leaf Drill ∷ []
unfolding clap_on_literals
subs_are = refl

-- a command that is found is one of these
found_taken : (p : Shape → Bool) (subs : List Shape) → AllByRecursion IsTakenAt subs → (words : List Text) → is_some (option_map (λ s. rows_at s words) (find p subs)) ≡ true → option_map_or (λ s. level_fault s [] nothing_held words false []) (find p subs) [] ≡ [] → Found (option_map (λ s. rows_at s words) (find p subs))
found_taken p [] h words i e = let q : ⊥ = cc in absurd q
found_taken p (s ∷ subs) h words i e = go (p s) (found_taken p subs h.1 words) i e
  where
    go : (b : Bool)
        → (is_some (option_map (λ s. rows_at s words) (find p subs)) ≡ true → option_map_or (λ s. level_fault s [] nothing_held words false []) (find p subs) [] ≡ [] → Found (option_map (λ s. rows_at s words) (find p subs)))
        → is_some (option_map (λ s. rows_at s words) (if b then Some s else find p subs)) ≡ true → option_map_or (λ s. level_fault s [] nothing_held words false []) (if b then Some s else find p subs) [] ≡ []
        → Found (option_map (λ s. rows_at s words) (if b then Some s else find p subs))
    go true rest i e = h.0 words e
    go false rest i e = rest i e

stop_found : (o : Option (Text × List Text)) → is_some (entered (built program) o) ≡ true → entered_fault (built program) o ≡ [] → Found (entered (built program) o)
stop_found None h e = let q : ⊥ = cc in absurd q
stop_found (Some p) h e = found_taken (λ s. answers_to p.0 (label_of s)) (built program).subs (subst (AllByRecursion IsTakenAt) (sym subs_are) all_taken) p.1 h e

wanted : (b : Bool) (rows : List Row) → check_fault above rows b ≡ [] → b ≡ true
wanted true rows e = refl
wanted false rows e = let q : ⊥ = cc in absurd q

pub faultless_found : (words : List Text) → fault_of program words ≡ [] → Found (subcommand_of program words)
faultless_found words e =
    let stop = stop_after above.rules (names_of (built program)) words in
    let ends = level_end above (names_of (built program)) words (is_some (entered (built program) stop)) (entered_fault (built program) stop) e in
    stop_found stop (wanted (is_some (entered (built program) stop)) (finished above.rules (walk above.rules (names_of (built program)) nothing_held words).held) ends.check) ends.inner

abbrev rows_in : Option (Text × List Row) → List Row
rows_in None = []
rows_in (Some p) = p.1

-- the words of a command that is found give numbers in range
pub numbers_found : (words : List Text) (name : Text) (rows : List Row) → fault_of program words ≡ [] → subcommand_of program words ≡ Some (name, rows) → AreWithin rows
numbers_found words name rows e found =
    let f = faultless_found words e in
    let same : f.1.rows ≡ rows = ap rows_in (sym f.1.command ∙ found) in
    subst AreWithin same f.1.numbers

-- words without a fault ask for one of the commands
pub faultless_asks : (words : List Text) → fault_of program words ≡ [] → (command : Command) × IsTo command words
faultless_asks words e =
    let f = faultless_found words e in
    let rows = f.1.rows in (
      f.0,
      record {
        proof = f.1.proof;
        out = unwrap_or (first_of (codes "OUT") rows) f.1.proof;
        script = first_of (codes "SCRIPT") rows;
        options = options_in rows;
        draw = draw_in rows;
        asks = record { taken = e; names = record { rows = rows; command = f.1.command; proof_is = f.1.proof_is; out_is = refl; script_is = refl; options_are = refl; draw_is = refl } };
      },
    )

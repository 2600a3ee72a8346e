-- What a parse found of a command, and that the words ask for it.
use Rattle.std.proofs.Common.{◌≡◌, ◌≤◌, ◌<◌, ◌^◌, ℕ, ◌+◌, ◌*◌, ◌==◌, List, [], get_or, Option, Some, None, refl, sym, ap, ap₂, ◌∙◌, subst, ⊎_elim, arith}
use Rattle.std.specs.Prelude.{◌⊎◌, option_map, unwrap_or, codes, true, false, Result, Ok, Err}
use Rattle.std.specs.Str.Parse.{ParsesUnsigned, digits_value, without_leading_plus}
use Rattle.std.specs.Borrow.{Bor}
use Rattle.clap.specs.Walk.{Text, Row, first_of, one_of, rows_of}
use Rattle.clap.specs.Kinds.{IsAmong}
use Rattle.clap.specs.declared.error.kind.ErrorKind.{ErrorKind}
use Rattle.clap.specs.declared.error.kind.ErrorKind.TheVariants.{OutOfMemory}
use Rattle.clap.specs.Faults.{fault_of, is_simple_and_free}
use Rattle.clap.specs.Matches.{found_of, first_value, subcommand_name_of, ReadsOne}
use Rattle.clap.specs.Simple.{App, HasMatchesOf, is_simple, subcommand_of, subcommand_rows_of}
use Rattle.clap.proofs.OnLiterals.{clap_on_literals}
use Rattle.clap.proofs.WalkLemmas.{first_value-rows}
use Rattle.clap.specs.declared.parser.matches.ArgMatches.{ArgMatches}
use Rattle.clap.specs.declared.parser.matches.ArgMatches.TheViews.{out-ArgMatches}
use Rattle.tool_words.specs.declared.words.Command.{Command}
use Rattle.tool_words.specs.declared.words.Draw.{Draw}
use Rattle.std.proofs.lemmas.Bool.{eq-eqb}
use Rattle.tool_words.proofs.Faultless.{faultless_asks, numbers_found}
use Rattle.tool_words.specs.declared.words.Options.{Options}
use Rattle.tool_words.specs.Words.{program, Names, AreOptions, name_of, Asks, IsTo, AreTaken, options_in, draw_in, number_or, IsWithin, AreWithin}

-- a name and rows
abbrev Entry : Type 0
Entry = Text × List Row

abbrev entry : {X : Type 0} → (X → Text) → (X → List Row) → X → Entry
entry f g x = (f x, g x)

-- what is found is one entry
abbrev found : Text → List Row → Option Entry
found t rows = Some (t, rows)

both : {X : Type 0} (f : X → Text) (g : X → List Row) (o : Option X) (name : Text) (rows : List Row) → Some name ≡ option_map f o → Some rows ≡ option_map (λ (p : Entry). p.1) (option_map (entry f g) o) → option_map (entry f g) o ≡ Some (name, rows)
both f g None name rows e h = let q : ⊥ = cc in absurd q
both f g (Some x) name rows e h =
    let p : name ≡ f x = cc in
    let q : rows ≡ g x = cc in
    ap₂ found (sym p) (sym q)

abbrev rows_of_entry : Option Entry → List Row
rows_of_entry None = []
rows_of_entry (Some p) = p.1

rows_same : (o : Option Entry) (name t : Text) (rows others : List Row) → o ≡ Some (name, rows) → o ≡ Some (t, others) → rows ≡ others
rows_same o name t rows others e h = sym (ap rows_of_entry e) ∙ ap rows_of_entry h

pub found_rows : (m files : ArgMatches) (name : Text) → Some name ≡ subcommand_name_of m → Some (rows_of (found_of files)) ≡ option_map (λ (p : Text × List Row). p.1) (subcommand_rows_of m) → subcommand_rows_of m ≡ Some (name, rows_of (found_of files))
found_rows m files name e h = both _ _ (out-ArgMatches m).subcommand name (rows_of (found_of files)) e h

-- the text of what is borrowed where there is one, and else of another
or_else : (o : Option (Bor Text)) (b : Bor Text) (found : Option Text) → option_map (λ x. x.now) o ≡ found → unwrap_or found b.now ≡ (unwrap_or o b).now
or_else None b found e = ap (λ (x : Option Text). unwrap_or x b.now) (sym e)
or_else (Some a) b found e = ap (λ (x : Option Text). unwrap_or x b.now) (sym e)

pub names_in : (m files : ArgMatches) (name : Text) (proof out : Bor Text) (command : Command) (o s : Option (Bor Text)) (options : Options) (draw : Draw) → subcommand_rows_of m ≡ Some (name, rows_of (found_of files)) → name ≡ name_of command → Some proof.now ≡ first_value (found_of files) (codes "PROOF") → option_map (λ x. x.now) o ≡ first_value (found_of files) (codes "OUT") → out ≡ unwrap_or o proof → option_map (λ x. x.now) s ≡ first_value (found_of files) (codes "SCRIPT") → options ≡ options_in (rows_of (found_of files)) → draw ≡ draw_in (rows_of (found_of files))
    → Names (subcommand_rows_of m) (name_of command) proof.now out.now (option_map (λ x. x.now) s) options draw
names_in m files name proof out command o s options draw e n p r u q l d = record {
  rows = rows_of (found_of files);
  command = e ∙ ap (λ t. Some (t, rows_of (found_of files))) n;
  proof_is = sym (first_value-rows (found_of files) (codes "PROOF")) ∙ sym p;
  out_is = or_else o proof (first_of (codes "OUT") (rows_of (found_of files))) (r ∙ first_value-rows (found_of files) (codes "OUT")) ∙ ap (λ (x : Bor Text). x.now) (sym u);
  script_is = sym (first_value-rows (found_of files) (codes "SCRIPT")) ∙ sym q;
  options_are = sym l;
  draw_is = sym d;
}

-- where there is no proof file
pub no_names : (m files : ArgMatches) (name t proof out : Text) (script : Option Text) (options : Options) (draw : Draw) → subcommand_rows_of m ≡ Some (name, rows_of (found_of files)) → None ≡ first_value (found_of files) (codes "PROOF") → Names (subcommand_rows_of m) t proof out script options draw → ⊥
no_names m files name t proof out script options draw e p k =
    let same : rows_of (found_of files) ≡ k.rows = rows_same (subcommand_rows_of m) name t (rows_of (found_of files)) k.rows e k.command in
    let q : None ≡ Some proof = p ∙ first_value-rows (found_of files) (codes "PROOF") ∙ ap (first_of (codes "PROOF")) same ∙ k.proof_is in
    let z : ⊥ = cc in z

-- a number in range is read as it is
pub number_read : {E : Type 0} (G : List ℕ → Result ℕ E → Type 0) (bits most usual : ℕ) (t : Option Text) (o : Option ℕ) → most < 2 ^ bits → (t ≡ None → o ≡ None) → ((x : Text) → t ≡ Some x → ReadsOne G x o) → ((x : Text) (r : Result ℕ E) → G x r → ParsesUnsigned bits 10 x r) → IsWithin 0 most t → unwrap_or o usual ≡ number_or usual t
number_read G bits most usual None o lt none read only h = ap (λ (x : Option ℕ). unwrap_or x usual) (none refl)
number_read {E} G bits most usual (Some t) o lt none read only h = go o (read t refl)
  where
    go : (x : Option ℕ) → ReadsOne G t x → unwrap_or x usual ≡ digits_value 10 (without_leading_plus t)
    go (Some n) r = (only t (Ok n) r).1
    go None r = absurd (only t (Err r.0) r.1 (h.0, omega (arith, h.3, lt)))

-- a number between two others is one up to a greater one
pub up_to : (least n m : ℕ) (o : Option Text) → n ≤ m → IsWithin least n o → IsWithin 0 m o
up_to least n m None lt h = tt
up_to least n m (Some t) lt h = (h.0, h.1, omega arith, omega (arith, lt, h.3))

simple : is_simple program ≡ true
unfolding clap_on_literals
simple = refl

-- what was found of words that are taken
found_same : (app : App) (m : ArgMatches) (words : List Text) → app ≡ program → HasMatchesOf app words m → subcommand_rows_of m ≡ subcommand_of program words
found_same app m words e h = (h (ap is_simple e ∙ simple)).1 ∙ ap (λ a. subcommand_of a words) e

-- a parse of the program's command line finds what is asked for by words that are taken
pub nothing_asked : (app : App) (m : ArgMatches) (words : List Text) → app ≡ program → HasMatchesOf app words m → ((command : Command) (proof out : Text) (script : Option Text) (options : Options) (draw : Draw) → Names (subcommand_rows_of m) (name_of command) proof out script options draw → ⊥) → AreTaken words → ⊥
nothing_asked app m words e h none k =
    let found : subcommand_rows_of m ≡ subcommand_of program words = found_same app m words e h in
    let f = faultless_asks words k in
    let t = f.1 in
    none f.0 t.proof t.out t.script t.options t.draw (subst (λ o. Names o (name_of f.0) t.proof t.out t.script t.options t.draw) (sym found) t.asks.names)

free : is_simple_and_free program ≡ true
unfolding clap_on_literals
free = refl

-- and its numbers are in range
pub numbers_asked : (app : App) (m : ArgMatches) (words : List Text) → app ≡ program → HasMatchesOf app words m → (is_simple_and_free app ≡ true → fault_of app words ≡ []) → (name : Text) (rows : List Row) → subcommand_rows_of m ≡ Some (name, rows) → AreWithin rows
numbers_asked app m words e h k name rows found =
    numbers_found words name rows (subst (λ a. fault_of a words ≡ []) e (k (ap is_simple_and_free e ∙ free))) (sym (found_same app m words e h) ∙ found)

-- what a parse found is what the words ask for
pub asked_so : (app : App) (m : ArgMatches) (words : List Text) → app ≡ program → HasMatchesOf app words m → (is_simple_and_free app ≡ true → fault_of app words ≡ []) → (command : Command) (proof out : Text) (script : Option Text) (options : Options) (draw : Draw) → Names (subcommand_rows_of m) (name_of command) proof out script options draw → Asks command words proof out script options draw
asked_so app m words e h k command proof out script options draw n = record {
  taken = subst (λ a. fault_of a words ≡ []) e (k (ap is_simple_and_free e ∙ free));
  names = subst (λ o. Names o (name_of command) proof out script options draw) (found_same app m words e h) n;
}

-- where words are taken a parse fails for want of memory alone
pub fails_by_memory : (app : App) (words : List Text) (k : ErrorKind) → app ≡ program → (is_simple_and_free app ≡ true → (k ≡ OutOfMemory) ⊎ IsAmong k (fault_of app words)) → AreTaken words → k ≡ OutOfMemory
fails_by_memory app words k e h t =
    ⊎_elim (λ m. m)
    (λ (a : IsAmong k (fault_of app words)). absurd (subst (IsAmong k) t (subst (λ b. IsAmong k (fault_of b words)) e a)))
    (h (ap is_simple_and_free e ∙ free))

-- numbers in range are allowed
pub options_in_range : (rows : List Row) → AreWithin rows → AreOptions (options_in rows)
options_in_range rows h = record {
  cubes = (within 0 10 0 (omega arith) (omega arith) _ h.cubes).1;
  budget = (within 0 1000000000 100000 (omega arith) (omega arith) _ h.budget).1;
  some = (within 1 64 1 (omega arith) (omega arith) _ h.workers).0;
  few = (within 1 64 1 (omega arith) (omega arith) _ h.workers).1;
}
  where
    within : (least most usual : ℕ) → least ≤ usual → usual ≤ most → (o : Option Text) → IsWithin least most o → (least ≤ number_or usual o) × (number_or usual o ≤ most)
    within least most usual low high None h = (low, high)
    within least most usual low high (Some t) h = (h.2, h.3)

pub names_options : (found : Option (Text × List Row)) (name proof out : Text) (script : Option Text) (options : Options) (draw : Draw) → Names found name proof out script options draw → ((n : Text) (rows : List Row) → found ≡ Some (n, rows) → AreWithin rows) → AreOptions options
names_options found name proof out script options draw k h = subst AreOptions k.options_are (options_in_range k.rows (h name k.rows k.command))

-- a script that is drawn has few words
pub names_draw : (found : Option (Text × List Row)) (name proof out : Text) (script : Option Text) (options : Options) (draw : Draw) → Names found name proof out script options draw → ((n : Text) (rows : List Row) → found ≡ Some (n, rows) → AreWithin rows) → draw.size ≤ 1000
names_draw found name proof out script options draw k h = subst (λ (d : Draw). d.size ≤ 1000) k.draw_is (few (one_of (codes "SIZE") k.rows) (h name k.rows k.command).size)
  where
    few : (o : Option Text) → IsWithin 1 1000 o → number_or 0 o ≤ 1000
    few None h = omega arith
    few (Some t) h = h.3

-- ---- one command

abbrev name_in : Option Entry → Text
name_in None = []
name_in (Some p) = p.0

-- the two letters that a command begins with
abbrev letters : Text → ℕ
letters t = get_or t 0 0 * 256 + get_or t 1 0

-- the words ask for one command alone
pub other_command : (a b : Command) (words : List Text) → (letters (name_of a) == letters (name_of b)) ≡ false → IsTo a words → IsTo b words → ⊥
other_command a b words d h k =
    let e : name_of a ≡ name_of b = sym (ap name_in h.asks.names.command) ∙ ap name_in k.asks.names.command in
    let same : (letters (name_of a) == letters (name_of a)) ≡ false = subst (λ t. (letters (name_of a) == letters t) ≡ false) (sym e) d in
    let q : true ≡ false = sym (eq-eqb (letters (name_of a)) (letters (name_of a)) refl) ∙ same in
    let z : ⊥ = cc in z

pub asks_as : (a b : Command) (words : List Text) (proof out : Text) (script : Option Text) (options : Options) (draw : Draw) → a ≡ b → Asks a words proof out script options draw → IsTo b words
asks_as a b words proof out script options draw e h = subst (λ c. IsTo c words) e (record { proof = proof; out = out; script = script; options = options; draw = draw; asks = h })

-- with one row of numbers
pub same_options : (a b : Command) (words : List Text) (proof out : Text) (script : Option Text) (options : Options) (draw : Draw) → Asks a words proof out script options draw → (k : IsTo b words) → (options ≡ k.options) × (draw ≡ k.draw)
same_options a b words proof out script options draw h k =
    let same : h.names.rows ≡ k.asks.names.rows = ap rows_of_entry (sym h.names.command ∙ k.asks.names.command) in
    (sym h.names.options_are ∙ ap options_in same ∙ k.asks.names.options_are, sym h.names.draw_is ∙ ap draw_in same ∙ k.asks.names.draw_is)

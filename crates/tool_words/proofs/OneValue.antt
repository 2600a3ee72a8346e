-- Command lines whose arguments take one value, once: words without a fault give rows with values that pass.
use Rattle.std.proofs.Common.{◌≡◌, ℕ, zero, suc, ◌<◌, ◌==◌, Bool, true, false, List, [], ◌∷◌, ◌++◌, length, Option, Some, None, refl, sym, ap, ◌∙◌, subst, arith, eqb-true}
use Rattle.clap.specs.declared.builder.value_parser.ValueParser.TheVariants.{Unsigned}
use Rattle.clap.specs.declared.parser.matches.ValueSource.TheVariants.{CommandLine}
use Rattle.clap.specs.declared.builder.value_parser.Reading.{Reading}
use Rattle.clap.specs.declared.builder.value_parser.Reading.TheVariants.{AsWritten}
use Rattle.clap.specs.declared.error.kind.ErrorKind.TheVariants.{ArgumentConflict, InvalidValue, TooManyValues, ValueValidation, WrongNumberOfValues}
use Rattle.clap.specs.declared.builder.action.ArgAction.{ArgAction}
use Rattle.clap.specs.declared.builder.action.ArgAction.TheVariants.{Set}
use Rattle.std.specs.Prelude.{drop, encode_utf8, ◌&&◌, ◌||◌, find, fold, is_some, not, if◌then◌else◌, slice_get, option_map, option_and_then}
use Rattle.std.specs.List.{AllByRecursion}
use Rattle.std.specs.Option.{option_map_or}
use Rattle.std.specs.Str.{bytes_eq, chars}
use Rattle.std.proofs.lemmas.Slice.Eq.{bytes_eq-Decides}
use Rattle.clap.specs.Facts.{explicit_source, unwrap_or_range}
use Rattle.clap.specs.Lexer.{long_of, short_of}
use Rattle.clap.specs.Kinds.{Kinds, or_else, range_kinds, value_kinds, values_kinds}
use Rattle.clap.specs.Values.{IsUnsignedIn, read_as}
use Rattle.clap.specs.ValueTests.{accepts}
use Rattle.clap.proofs.ValueTestLemmas.{accepts-Accepts}
use Rattle.clap.specs.Walk.{Text, Rule, Row, Held, Names, Walk, Waiting, Step, Outcome, idle, option, positional, next, trailing, subcommand, value, done, waits, plain, refused}
use Rattle.clap.specs.Walk.{first_of, one_of, row_text, at_row, more_values, with_values, without, reading_by, action_of, with_default, settled, settled_rows, used, used_as, used_by_id, values_or_missing, has_row, plain_word, option_word, long_met, short_met, option_met, flag_met, has_long, default_rows, long_or_other, short_or_plain, after_flag, bundle, bundle_met, bundle_step, word_met, walked, walked_from, walk, walk_from, after_step, to_positional, arg_by_id, arg_by_index, arg_by_long, arg_by_short, is_pending, finished, nothing_held, rows_after, takes_several, takes_values, most_values}
use Rattle.clap.specs.Simple.{Shape}
use Rattle.clap.specs.Takes.{is_given}
use Rattle.clap.specs.Faults.{level_fault, check_fault, walk_fault, turn_fault, word_fault, flag_word_fault, long_fault, option_fault, positional_fault, stray_fault, step_fault, settle_fault, use_fault, set_fault, action_fault, repeat_fault, values_fault, react_fault, defaults_fault}
use Rattle.tool_words.specs.Words.{IsWithin}

-- ---- the first of several faults

or_both : (a b : Kinds) → or_else a b ≡ [] → (a ≡ []) × (b ≡ [])
or_both [] b e = (refl, e)
or_both (k ∷ ks) b e = let q : ⊥ = cc in absurd q

each_append : {A : Type 0} (P : A → Type 0) (xs ys : List A) → AllByRecursion P xs → AllByRecursion P ys → AllByRecursion P (xs ++ ys)
each_append P [] ys h k = k
each_append P (x ∷ xs) ys h k = (h.0, each_append P xs ys h.1 k)

-- ---- rules that take one value, once

pub record IsPlain (c : List Rule) (a : Rule) : Type 0 where
  pub known : arg_by_id c a.id ≡ Some a
  pub action : action_of a ≡ Set
  pub takes : takes_values a ≡ true
  pub one : (n : ℕ) → range_kinds (unwrap_or_range a.range).start_inclusive (most_values a) n ≡ [] → n ≡ 1
  pub defaults : a.defaults ≡ []

pub only_one : (n : ℕ) → range_kinds 1 1 n ≡ [] → n ≡ 1
only_one n e = sym (eqb-true 1 n (go (n == 0) (1 == n) e))
  where
    go : (a b : Bool) → (if a then InvalidValue ∷ [] else (if b then [] else WrongNumberOfValues ∷ [])) ≡ [] → b ≡ true
    go true b e = let q : ⊥ = cc in absurd q
    go false true e = refl
    go false false e = let q : ⊥ = cc in absurd q

-- a command line of such rules, without short names
pub record ArePlain (c : List Rule) : Type 0 where
  pub each : AllByRecursion (IsPlain c) c
  pub no_short : (x : ℕ) → arg_by_short c x ≡ None

-- a rule that is found is one of them
found_plain : (P : Rule → Type 0) (p : Rule → Bool) (c : List Rule) → AllByRecursion P c → (a : Rule) → find p c ≡ Some a → P a
found_plain P p [] h a e = let q : ⊥ = cc in absurd q
found_plain P p (x ∷ xs) h a e = go (p x) (found_plain P p xs h.1 a) e
  where
    go : (b : Bool) → (find p xs ≡ Some a → P a) → (if b then Some x else find p xs) ≡ Some a → P a
    go true k e = let same : x ≡ a = cc in subst P same h.0
    go false k e = k e

-- ---- rows

-- A row belongs to a rule, and has values that pass it.
pub record IsFine (c : List Rule) (r : Row) : Type 0 where
  pub rule : Rule
  pub known : arg_by_id c r.id ≡ Some rule
  pub full : 0 < length r.values
  pub good : values_fault rule r.values ≡ []
  pub reading : r.reading ≡ reading_by rule

abbrev pub AreFine : List Rule → List Row → Type 0
AreFine c = AllByRecursion (IsFine c)

-- with no row of the id, a change of its row adds what stands for a missing one
at_missing : (id : Text) (change : Row → List Row) (missing rows : List Row) → has_row id rows ≡ false → at_row id change missing rows ≡ rows ++ missing
at_missing id change missing [] e = refl
at_missing id change missing (r ∷ rs) e = go (bytes_eq r.id id) (at_missing id change missing rs) e
  where
    go : (b : Bool) → (has_row id rs ≡ false → at_row id change missing rs ≡ rs ++ missing) → (b || has_row id rs) ≡ false → (if b then change r ++ rs else r ∷ at_row id change missing rs) ≡ r ∷ (rs ++ missing)
    go true k e = let q : ⊥ = cc in absurd q
    go false k e = ap (λ l. r ∷ l) (k e)

-- and a removal changes nothing
without_missing : (id : Text) (rows : List Row) → has_row id rows ≡ false → without id rows ≡ rows
without_missing id [] e = refl
without_missing id (r ∷ rs) e = go (bytes_eq r.id id) (without_missing id rs) e
  where
    go : (b : Bool) → (has_row id rs ≡ false → without id rs ≡ rs) → (b || has_row id rs) ≡ false → (if b then rs else r ∷ without id rs) ≡ r ∷ rs
    go true k e = let q : ⊥ = cc in absurd q
    go false k e = ap (λ l. r ∷ l) (k e)

not_there : (again : Bool) (id : Text) (rows : List Row) → again ≡ false → repeat_fault again id rows ≡ [] → has_row id rows ≡ false
not_there again id rows f e = go (has_row id rows) again f e
  where
    go : (b c : Bool) → c ≡ false → (if b && not c then ArgumentConflict ∷ [] else []) ≡ [] → b ≡ false
    go true true f e = let q : ⊥ = cc in absurd q
    go true false f e = let q : ⊥ = cc in absurd q
    go false c f e = refl

-- a use without a fault adds a fine row
used_fine : (c : List Rule) (again : Bool) → again ≡ false → (a : Rule) → IsPlain c a → (values : List Text) (rows : List Row) → use_fault again a values rows ≡ [] → AreFine c rows → AreFine c (used a values rows)
used_fine c again f a p values rows e h =
    let faults = or_both (range_kinds (unwrap_or_range a.range).start_inclusive (most_values a) (length values)) (action_fault (action_of a) again a (values_or_missing a values) rows) e in
    go values (p.one (length values) faults.0) faults.1
  where
    add : (v : Text) (vs : List Text) → set_fault again a (v ∷ vs) rows ≡ [] → AreFine c (with_values a.id (reading_by a) CommandLine (v ∷ vs) (without a.id rows))
    add v vs k =
        let set = or_both (repeat_fault again a.id rows) (values_fault a (v ∷ vs)) k in
        let none = not_there again a.id rows f set.0 in
        let new : Row = record { id = a.id; values = v ∷ vs; count = None; source = Some CommandLine; reading = reading_by a } in
        let fine : IsFine c new = record { rule = a; known = p.known; full = omega arith; good = set.1; reading = refl } in
        let added : AreFine c (at_row a.id (more_values CommandLine (v ∷ vs)) (new ∷ []) rows) = subst (AreFine c) (sym (at_missing a.id (more_values CommandLine (v ∷ vs)) (new ∷ []) rows none)) (each_append (IsFine c) rows (new ∷ []) h (fine, tt)) in
        subst (λ l. AreFine c (at_row a.id (more_values CommandLine (v ∷ vs)) (new ∷ []) l)) (sym (without_missing a.id rows none)) added

    go : (vs : List Text) → length vs ≡ 1 → action_fault (action_of a) again a (values_or_missing a vs) rows ≡ [] → AreFine c (used a vs rows)
    go [] n k = absurd (omega (arith, n))
    go (v ∷ vs) n k =
        subst (λ (x : ArgAction). AreFine c (used_as x a.id (reading_by a) (v ∷ vs) rows)) (sym p.action)
        (add v vs (subst (λ (x : ArgAction). action_fault x again a (v ∷ vs) rows ≡ []) p.action k))

settled_fine : (c : List Rule) (again : Bool) → again ≡ false → ArePlain c → (h : Held) → settle_fault c again h ≡ [] → AreFine c h.rows → AreFine c (settled c h).rows
settled_fine c again f p h e k = go h.pending e
  where
    by_id : (id : Text) (values : List Text) (o : Option Rule) → arg_by_id c id ≡ o → option_map_or (λ a. use_fault again a values h.rows) o [] ≡ [] → AreFine c (used_by_id o values h.rows)
    by_id id values None i e = k
    by_id id values (Some a) i e = used_fine c again f a (found_plain (IsPlain c) (λ x. bytes_eq x.id id) c p.each a i) values h.rows e k

    go : (o : Option (Text × List Text)) → option_map_or (λ p. option_map_or (λ a. use_fault again a p.1 h.rows) (arg_by_id c p.0) []) o [] ≡ [] → AreFine c (settled_rows c o h.rows)
    go None e = k
    go (Some q) e = by_id q.0 q.1 (arg_by_id c q.0) refl e

-- ---- a word

option_fine : (c : List Rule) (o : Option Rule) (id word : Text) (h : Held) → AreFine c h.rows → AreFine c (option_word o id word h).0.rows
option_fine c None id word h k = k
option_fine c (Some a) id word h k = k

plain_fine : (c : List Rule) (waiting : Waiting) (word : Text) (h : Held) → AreFine c h.rows → AreFine c (plain_word c waiting word h).0.rows
plain_fine c idle word h k = k
plain_fine c positional word h k = k
plain_fine c (option id) word h k = option_fine c (arg_by_id c id) id word h k

flag_fine : (c : List Rule) (o : Outcome) (waiting : Waiting) (word : Text) (h : Held) → AreFine c h.rows → AreFine c (after_flag c waiting word h o).0.rows
flag_fine c done waiting word h k = k
flag_fine c (waits id) waiting word h k = k
flag_fine c plain waiting word h k = plain_fine c waiting word h k
flag_fine c refused waiting word h k = plain_fine c waiting word h k

bundle_fine : (c : List Rule) → ArePlain c → (n : ℕ) (flags : Text) (skip : ℕ) (so_far : Outcome) (h : Held) → AreFine c h.rows → AreFine c (bundle_met c n flags skip so_far h).0.rows
unfolding bundle_met
bundle_fine c p zero flags skip so_far h k = k
bundle_fine c p (suc n) flags skip so_far h k = go (slice_get (chars flags) 0) skip (λ rest s. bundle_fine c p n rest s so_far h k)
  where
    go : (o : Option ℕ) (s : ℕ) → ((rest : Text) (t : ℕ) → AreFine c (bundle_met c n rest t so_far h).0.rows) → AreFine c (bundle_step c o flags s so_far h (bundle_met c n)).0.rows
    go None s rest = k
    go (Some x) zero rest = subst (λ (o : Option Rule). AreFine c (short_met c o (drop (length (encode_utf8 x)) flags) h (bundle_met c n (drop (length (encode_utf8 x)) flags) 0 done)).0.rows) (sym (p.no_short x)) k
    go (Some x) (suc s) rest = rest (drop (length (encode_utf8 x)) flags) s

short_fine : (c : List Rule) → ArePlain c → (o : Option Text) (waiting : Waiting) (word : Text) (h : Held) → AreFine c h.rows → AreFine c (short_or_plain c waiting word o h).0.rows
short_fine c p None waiting word h k = plain_fine c waiting word h k
short_fine c p (Some flags) waiting word h k = flag_fine c (bundle c flags h).1 waiting word (bundle c flags h).0 (bundle_fine c p (length flags) flags h.skip plain (record h { skip = 0 }) k)

long_fine : (c : List Rule) (again : Bool) → again ≡ false → ArePlain c → (o : Option Rule) → ((a : Rule) → o ≡ Some a → IsPlain c a) → (v : Option Text) (h : Held) → long_fault c again o v h ≡ [] → AreFine c h.rows → AreFine c (long_met c o v h).0.rows
long_fine c again f p None found v h e k = k
long_fine c again f p (Some a) found v h e k = go (takes_values a) (found a refl).takes e
  where
    given : (w : Option Text) → option_fault c again a w h ≡ [] → AreFine c (option_met c a w h).0.rows
    given (Some w) e =
        let faults = or_both (settle_fault c again h) (use_fault again a (w ∷ []) (settled c h).rows) e in
        used_fine c again f a (found a refl) (w ∷ []) (settled c h).rows faults.1 (settled_fine c again f p h faults.0 k)
    given None e = settled_fine c again f p h e k

    go : (t : Bool) → t ≡ true → (if t then option_fault c again a v h else (if is_some v then TooManyValues ∷ [] else react_fault c again a [] h)) ≡ [] → AreFine c (if t then option_met c a v h else flag_met c a v h).0.rows
    go true t e = given v e
    go false t e = let q : ⊥ = cc in absurd q

flags_fine : (c : List Rule) (again : Bool) → again ≡ false → ArePlain c → (b : Bool) (o : Option (Text × Option Text)) (waiting : Waiting) (at : ℕ) (word : Text) (h : Held) → (if b then [] else flag_word_fault c again o word h) ≡ [] → AreFine c h.rows → AreFine c (if b then (h, trailing at) else long_or_other c waiting word o h).0.rows
flags_fine c again f p true o waiting at word h e k = k
flags_fine c again f p false None waiting at word h e k = short_fine c p (short_of word) waiting word h k
flags_fine c again f p false (Some n) waiting at word h e k =
    let met = long_met c (arg_by_long c n.0) n.1 h in
    flag_fine c met.1 waiting word met.0 (long_fine c again f p (arg_by_long c n.0) (λ a i. found_plain (IsPlain c) (λ x. not (is_some x.index) && has_long x n.0) c p.each a i) n.1 h e k)

word_fine : (s : Shape) → s.args_override_self ≡ false → ArePlain s.rules → (t : Bool) (waiting : Waiting) (at : ℕ) (word : Text) (h : Held) → word_fault s [] t waiting word h ≡ [] → AreFine s.rules h.rows → AreFine s.rules (word_met s.rules [] t waiting at word h).0.rows
word_fine s f p true waiting at word h e k = k
word_fine s f p false idle at word h e k = flags_fine s.rules s.args_override_self f p (bytes_eq word (45 ∷ 45 ∷ [])) (long_of word) idle at word h e k
word_fine s f p false positional at word h e k = flags_fine s.rules s.args_override_self f p (bytes_eq word (45 ∷ 45 ∷ [])) (long_of word) positional at word h e k
word_fine s f p false (option id) at word h e k = flags_fine s.rules s.args_override_self f p (bytes_eq word (45 ∷ 45 ∷ [])) (long_of word) (option id) at word h e k

-- ---- the walk

step_fine : (s : Shape) → s.args_override_self ≡ false → ArePlain s.rules → (t : Step) (word : Text) (w : Walk) (h : Held) → step_fault s w.position h t ≡ [] → AreFine s.rules h.rows → AreFine s.rules (after_step s.rules word w h t).held.rows
step_fine s f p (next waiting) word w h e k = k
step_fine s f p (trailing at) word w h e k = k
step_fine s f p (subcommand name) word w h e k = k
step_fine s f p value word w h e k = go (arg_by_index s.rules w.position) e
  where
    unless : (b : Bool) → (if b then [] else settle_fault s.rules s.args_override_self h) ≡ [] → AreFine s.rules (if b then h else settled s.rules h).rows
    unless true e = k
    unless false e = settled_fine s.rules s.args_override_self f p h e k

    go : (o : Option Rule) → option_map_or (λ a. positional_fault s.rules s.args_override_self a h) o (stray_fault s) ≡ [] → AreFine s.rules (to_positional s.rules o word w h).held.rows
    go None e = k
    go (Some a) e = unless (is_pending a h.pending && takes_several a) e

walked_fine : (s : Shape) → s.args_override_self ≡ false → ArePlain s.rules → (w : Walk) (word : Text) → turn_fault s [] w word ≡ [] → AreFine s.rules w.held.rows → AreFine s.rules (walked s.rules [] w word).held.rows
unfolding walked
walked_fine s f p w word e k = go w.stopped e
  where
    go : (o : Option (Text × List Text)) → (if is_some o then [] else or_else (word_fault s [] w.is_trailing w.waiting word w.held) (step_fault s w.position (word_met s.rules [] w.is_trailing w.waiting w.position word w.held).0 (word_met s.rules [] w.is_trailing w.waiting w.position word w.held).1)) ≡ [] → AreFine s.rules (walked_from s.rules [] o w word).held.rows
    go (Some q) e = k
    go None e =
        let met = word_met s.rules [] w.is_trailing w.waiting w.position word w.held in
        let faults = or_both (word_fault s [] w.is_trailing w.waiting word w.held) (step_fault s w.position met.0 met.1) e in
        step_fine s f p met.1 word w met.0 faults.1 (word_fine s f p w.is_trailing w.waiting w.position word w.held faults.0 k)

walk_fine : (s : Shape) → s.args_override_self ≡ false → ArePlain s.rules → (words : List Text) (w : Walk) → walk_fault s [] w words ≡ [] → AreFine s.rules w.held.rows → AreFine s.rules (fold (walked s.rules []) w words).held.rows
unfolding walk_fault
walk_fine s f p [] w e k = k
walk_fine s f p (word ∷ words) w e k =
    let faults = or_both (turn_fault s [] w word) (walk_fault s [] (walked s.rules [] w word) words) e in
    walk_fine s f p words (walked s.rules [] w word) faults.1 (walked_fine s f p w word faults.0 k)

-- ---- the end of a level

pub record HasNoFault (s : Shape) (names : Names) (words : List Text) (has : Bool) (below : Kinds) : Type 0 where
  pub turns : walk_fault s names (walk_from nothing_held) words ≡ []
  pub inner : below ≡ []
  pub settle : settle_fault s.rules s.args_override_self (walk s.rules names nothing_held words).held ≡ []
  pub check : check_fault s (finished s.rules (walk s.rules names nothing_held words).held) has ≡ []

pub level_end : (s : Shape) (names : Names) (words : List Text) (has : Bool) (below : Kinds) → level_fault s names nothing_held words has below ≡ [] → HasNoFault s names words has below
level_end s names words has below e =
    let end = (walk s.rules names nothing_held words).held in
    let settle = settle_fault s.rules s.args_override_self end in
    let defaults = defaults_fault (settled s.rules end).rows s.rules in
    let check = check_fault s (finished s.rules end) has in
    let a = or_both (walk_fault s names (walk_from nothing_held) words) (or_else below (or_else settle (or_else defaults check))) e in
    let b = or_both below (or_else settle (or_else defaults check)) a.1 in
    let c = or_both settle (or_else defaults check) b.1 in
    let d = or_both defaults check c.1 in
    record { turns = a.0; inner = b.0; settle = c.0; check = d.1 }

-- no rule has a default, so the end of a walk adds no row
no_defaults : (c cs : List Rule) → AllByRecursion (IsPlain c) cs → (rows : List Row) → fold with_default rows cs ≡ rows
no_defaults c [] h rows = refl
no_defaults c (a ∷ cs) h rows = ap (λ l. fold with_default l cs) (go (has_row a.id rows) a.defaults h.0.defaults) ∙ no_defaults c cs h.1 rows
  where
    go : (b : Bool) (texts : List Text) → texts ≡ [] → (if b then rows else default_rows a.id (reading_by a) texts rows) ≡ rows
    go true texts e = refl
    go false [] e = refl
    go false (t ∷ ts) e = let q : ⊥ = cc in absurd q

pub fine_after : (s : Shape) → s.args_override_self ≡ false → ArePlain s.rules → (words : List Text) → HasNoFault s [] words false [] → AreFine s.rules (rows_after s.rules [] words)
fine_after s f p words h =
    let end = (walk s.rules [] nothing_held words).held in
    let walked : AreFine s.rules end.rows = walk_fine s f p words (walk_from nothing_held) h.turns tt in
    subst (AreFine s.rules) (sym (no_defaults s.rules s.rules p.each (settled s.rules end).rows)) (settled_fine s.rules s.args_override_self f p end h.settle walked)

-- ---- what fine rows give

first_there : (values : List Text) → 0 < length values → (v : Text) × (slice_get values 0 ≡ Some v)
first_there [] lt = absurd (omega (arith, lt))
first_there (v ∷ vs) lt = (v, refl)

pub value_given : (c : List Rule) (id : Text) (rows : List Row) → AreFine c rows → is_given id rows ≡ true → (v : Text) × (first_of id rows ≡ Some v)
value_given c id [] h e = let q : ⊥ = cc in absurd q
value_given c id (r ∷ rows) h e = go (bytes_eq r.id id) (value_given c id rows h.1) e
  where
    go : (b : Bool) → (is_given id rows ≡ true → (v : Text) × (first_of id rows ≡ Some v)) → option_map_or (λ (x : Row). explicit_source x.source) (if b then Some r else find (λ (x : Row). bytes_eq x.id id) rows) false ≡ true
        → (v : Text) × (option_and_then (λ (x : Row). slice_get x.values 0) (if b then Some r else find (λ (x : Row). bytes_eq x.id id) rows) ≡ Some v)
    go true rest k = first_there r.values h.0.full
    go false rest k = rest k

-- a value that passes is a number in range
number_passes : (least most : ℕ) (v : Text) (vs : List Text) → values_kinds false (Unsigned least most) (v ∷ vs) ≡ [] → IsUnsignedIn least most v
number_passes least most v vs e = accepts-Accepts false (Unsigned least most) v (go (accepts false (Unsigned least most) v) (or_both (value_kinds false (Unsigned least most) v) (values_kinds false (Unsigned least most) vs) e).0)
  where
    go : (b : Bool) → (if b then [] else ValueValidation ∷ []) ≡ [] → b ≡ true
    go true e = refl
    go false e = let q : ⊥ = cc in absurd q

-- a rule of numbers, at least and at most so many
pub record TakesNumber (a : Rule) (least most : ℕ) : Type 0 where
  pub values : (values : List Text) → values_fault a values ≡ values_kinds false (Unsigned least most) values
  pub reading : reading_by a ≡ AsWritten

-- a row of such a rule
number_in_row : (c : List Rule) (a : Rule) (least most : ℕ) → TakesNumber a least most → (r : Row) → IsFine c r → arg_by_id c r.id ≡ Some a → IsWithin least most (row_text r)
number_in_row c a least most n r fine e =
    let same : fine.rule ≡ a = let i : Some fine.rule ≡ Some a = sym fine.known ∙ e in cc in
    go r.values r.reading fine.full (sym (n.values r.values) ∙ subst (λ (x : Rule). values_fault x r.values ≡ []) same fine.good) (fine.reading ∙ ap reading_by same ∙ n.reading)
  where
    go : (values : List Text) (how : Reading) → 0 < length values → values_kinds false (Unsigned least most) values ≡ [] → how ≡ AsWritten → IsWithin least most (option_map (read_as how) (slice_get values 0))
    go [] how lt e w = absurd (omega (arith, lt))
    go (v ∷ vs) how lt e w = subst (λ (x : Reading). IsWithin least most (Some (read_as x v))) (sym w) (number_passes least most v vs e)

pub number_of_rule : (c : List Rule) (id : Text) (a : Rule) (least most : ℕ) → TakesNumber a least most → arg_by_id c id ≡ Some a → (rows : List Row) → AreFine c rows → IsWithin least most (one_of id rows)
number_of_rule c id a least most n known [] h = tt
number_of_rule c id a least most n known (r ∷ rows) h = go (bytes_eq r.id id) refl (number_of_rule c id a least most n known rows h.1)
  where
    go : (b : Bool) → bytes_eq r.id id ≡ b → IsWithin least most (one_of id rows) → IsWithin least most (option_and_then row_text (if b then Some r else find (λ (x : Row). bytes_eq x.id id) rows))
    go true e rest = number_in_row c a least most n r h.0 (ap (arg_by_id c) ((bytes_eq-Decides r.id id).0 e) ∙ known)
    go false e rest = rest

-- a command without the rule has no row of it
pub no_rule : (c : List Rule) (id : Text) (least most : ℕ) → arg_by_id c id ≡ None → (rows : List Row) → AreFine c rows → IsWithin least most (one_of id rows)
no_rule c id least most none [] h = tt
no_rule c id least most none (r ∷ rows) h = go (bytes_eq r.id id) refl (no_rule c id least most none rows h.1)
  where
    go : (b : Bool) → bytes_eq r.id id ≡ b → IsWithin least most (one_of id rows) → IsWithin least most (option_and_then row_text (if b then Some r else find (λ (x : Row). bytes_eq x.id id) rows))
    go true e rest =
        let i : Some h.0.rule ≡ None = sym h.0.known ∙ ap (arg_by_id c) ((bytes_eq-Decides r.id id).0 e) ∙ none in
        let q : ⊥ = cc in absurd q
    go false e rest = rest

-- The text of steps that are written one after the other, and of what stands before and behind them.
use Rattle.std.proofs.Common.{◌≡◌, ℕ, zero, suc, ◌+◌, ◌-◌, ◌<◌, ◌≤◌, List, [], ◌∷◌, ◌++◌, length, map, take, drop, get_or, Option, Some, None, refl, sym, ap, ◌∙◌, subst, arith, append_assoc, append-nil}
use Rattle.std.specs.Prelude.{Bool, true, false, not, if◌then◌else◌, option_map, option_to_list, All, Contains, slice_get, IsSome, IfSome}
use Rattle.std.specs.List.{flat_map, AllByRecursion}
use Rattle.std.specs.Fmt.{decimal}
use Rattle.std.proofs.lemmas.Grind.{flat_map-append}
use Rattle.std.proofs.lemmas.List.{take_more, map-append}
use Rattle.std.proofs.lemmas.Option.{slice_get_within, get_or_from_slice_get}
use Rattle.cnf_base.specs.declared.clause.ClauseId.{ClauseId}
use Rattle.std.proofs.lemmas.List.Elements.{All-cons}
use Rattle.cnf_base.proofs.Lists.{each_append, each_slice_get}
use Rattle.proof_log.specs.declared.entry.Entry.{Entry}
use Rattle.proof_log.specs.declared.entry.Entry.TheVariants as step
use Rattle.proof_log.specs.Logs.{entry_at}
use Rattle.proof_text.specs.declared.line.Line.{Line}
use Rattle.proof_text.specs.Lines.{spaced, line_text, IsLine, IsNumber}
use Rattle.proof_text.specs.Entries.{entry_line}
use Rattle.proof_text.specs.Deletions.{is_deletable}
use Rattle.accepted_proof.specs.Turns.{Item, Step, Delete, item_lines}
use Rattle.proof_file.specs.Places.{FileValue, with_step, with_steps_of, placed, placed_steps}
use Rattle.proof_file.specs.Indexed.{StaleIndex, IsIndexOf, KnowsAll}
use Rattle.proof_text.specs.declared.record.Record.{Record}
use Rattle.proof_file.specs.Needed.{AreNeeded}
use Rattle.proof_file.specs.Trimmed.{made_from, deletion}
use Rattle.proof_file.proofs.Finding.{needed_derived}
use Rattle.proof_file.specs.Files.{AreLined, HasLine, AreStepsWritten, IsStepNoted, KeepsIndex, step_lines}

-- ---- files and steps, list by list

pub steps_of_append : (f : FileValue) (ps qs : List ℕ) → with_steps_of f (ps ++ qs) ≡ with_steps_of (with_steps_of f ps) qs
steps_of_append f [] qs = refl
steps_of_append f (p ∷ ps) qs = steps_of_append (with_step f p) ps qs

pub placed_append : (log : List Entry) (f : FileValue) (ps qs : List ℕ) → placed_steps log f (ps ++ qs) ≡ placed_steps log f ps ++ placed_steps log (with_steps_of f ps) qs
placed_append log f [] qs = refl
placed_append log f (p ∷ ps) qs =
    ap (λ (es : List Entry). option_to_list (option_map (placed f.places) (entry_at log p)) ++ es) (placed_append log (with_step f p) ps qs)
    ∙ sym (append_assoc (option_to_list (option_map (placed f.places) (entry_at log p))) (placed_steps log (with_step f p) ps) (placed_steps log (with_steps_of (with_step f p) ps) qs))

pub lines_append : (xs ys : List Entry) → step_lines (xs ++ ys) ≡ step_lines xs ++ step_lines ys
lines_append xs ys = flat_map-append (λ e. option_to_list (entry_line e)) xs ys

pub text_append : (xs ys : List Line) → flat_map line_text (xs ++ ys) ≡ flat_map line_text xs ++ flat_map line_text ys
text_append xs ys = flat_map-append line_text xs ys

-- text behind text
pub behind : (a b c : List ℕ) (xs ys : List Line) → b ≡ a ++ flat_map line_text xs → c ≡ b ++ flat_map line_text ys → c ≡ a ++ flat_map line_text (xs ++ ys)
behind a b c xs ys e h =
    h ∙ ap (λ (t : List ℕ). t ++ flat_map line_text ys) e
    ∙ append_assoc a (flat_map line_text xs) (flat_map line_text ys)
    ∙ ap (λ (t : List ℕ). a ++ t) (sym (text_append xs ys))

pub item_steps : (es : List Entry) → flat_map item_lines (map Step es) ≡ step_lines es
item_steps [] = refl
item_steps (e ∷ es) = ap (λ (ls : List Line). option_to_list (entry_line e) ++ ls) (item_steps es)

pub items_lines : (gone : List ℕ) (es : List Entry) → flat_map item_lines (deletion gone ++ map Step es) ≡ flat_map item_lines (deletion gone) ++ step_lines es
items_lines gone es = flat_map-append item_lines (deletion gone) (map Step es) ∙ ap (λ (ls : List Line). flat_map item_lines (deletion gone) ++ ls) (item_steps es)

-- ---- steps that are written

pub steps_none : (log : List Entry) (f : FileValue) (t : List ℕ) → AreStepsWritten log f f [] t t
steps_none log f t = record { file = refl; text = sym (append-nil t); readable = tt }

pub steps_one : (log : List Entry) (f f' : FileValue) (p : ℕ) (e : Entry) (a b : List ℕ) → entry_at log p ≡ Some e → f' ≡ with_step f p
    → b ≡ a ++ flat_map line_text (step_lines (placed f.places e ∷ [])) → AllByRecursion IsLine (step_lines (placed f.places e ∷ [])) → AreStepsWritten log f f' (p ∷ []) a b
steps_one log f f' p e a b stands is text readable =
    let own : placed_steps log f (p ∷ []) ≡ placed f.places e ∷ [] = ap (λ (o : Option Entry). option_to_list (option_map (placed f.places) o) ++ []) stands in
    record {
      file = is;
      text = text ∙ ap (λ (es : List Entry). a ++ flat_map line_text (step_lines es)) (sym own);
      readable = subst (λ (es : List Entry). AllByRecursion IsLine (step_lines es)) (sym own) readable;
    }

pub steps_more : (log : List Entry) (f g h : FileValue) (ps qs : List ℕ) (a b c : List ℕ) → AreStepsWritten log f g ps a b → AreStepsWritten log g h qs b c → AreStepsWritten log f h (ps ++ qs) a c
steps_more log f g h ps qs a b c u v =
    let next : placed_steps log f (ps ++ qs) ≡ placed_steps log f ps ++ placed_steps log g qs =
    placed_append log f ps qs ∙ ap (λ (k : FileValue). placed_steps log f ps ++ placed_steps log k qs) (sym u.file) in
    let lines : step_lines (placed_steps log f (ps ++ qs)) ≡ step_lines (placed_steps log f ps) ++ step_lines (placed_steps log g qs) =
    ap step_lines next ∙ lines_append (placed_steps log f ps) (placed_steps log g qs) in
    record {
      file = v.file ∙ ap (λ (k : FileValue). with_steps_of k qs) u.file ∙ sym (steps_of_append f ps qs);
      text = behind a b c (step_lines (placed_steps log f ps)) (step_lines (placed_steps log g qs)) u.text v.text ∙ ap (λ (ls : List Line). a ++ flat_map line_text ls) (sym lines);
      readable = subst (AllByRecursion IsLine) (sym lines) (each_append IsLine (step_lines (placed_steps log f ps)) (step_lines (placed_steps log g qs)) u.readable v.readable);
    }

pub steps_next : (log : List Entry) (f g h : FileValue) (ps : List ℕ) (k p d : ℕ) (a b c : List ℕ) → k < length ps → p ≡ get_or ps k d → AreStepsWritten log f g (take k ps) a b → AreStepsWritten log g h (p ∷ []) b c → AreStepsWritten log f h (take (k + 1) ps) a c
steps_next log f g h ps k p d a b c lt is u v =
    let front : take (k + 1) ps ≡ take k ps ++ p ∷ [] = take_more ps k d lt ∙ ap (λ (x : ℕ). take k ps ++ x ∷ []) (sym is) in
    subst (λ (xs : List ℕ). AreStepsWritten log f h xs a c) (sym front) (steps_more log f g h (take k ps) (p ∷ []) a b c u v)

-- ---- the index goes with them

pub keeps_none : (log : List Entry) (f : FileValue) (v : StaleIndex) → KeepsIndex log f f v v
keeps_none log f v nodes index knows = (index, knows)

pub keeps_more : (log : List Entry) (f g h : FileValue) (u v w : StaleIndex) → KeepsIndex log f g u v → KeepsIndex log g h v w → KeepsIndex log f h u w
keeps_more log f g h u v w k l nodes index knows = let m = k nodes index knows in l nodes m.0 m.1

-- ---- the steps that are made

rest_at : (es : List Entry) (k : ℕ) (e : Entry) → slice_get es k ≡ Some e → drop k es ≡ e ∷ drop (suc k) es
rest_at [] k e h = let q : ⊥ = cc in absurd q
rest_at (x ∷ es) zero e h = let q : x ≡ e = cc in ap (λ (y : Entry). y ∷ es) q
rest_at (x ∷ es) (suc k) e h = rest_at es k e h

made_one : (b : Bool) (at : ℕ) (made next rest : List ℕ) → next ≡ (if not b then made ++ at ∷ [] else made) → made ++ (if b then rest else at ∷ rest) ≡ next ++ rest
made_one true at made next rest e = ap (λ (xs : List ℕ). xs ++ rest) (sym e)
made_one false at made next rest e = sym (append_assoc made (at ∷ []) rest) ∙ ap (λ (xs : List ℕ). xs ++ rest) (sym e)

-- so many steps were looked at, and the next
pub made_next : (log : List Entry) (all : List ℕ) (at : ℕ) (made next : List ℕ) → 0 < at → at < suc (length log) → all ≡ made ++ made_from at (drop (at - 1) log)
    → next ≡ (if not (is_deletable (entry_at log at)) then made ++ at ∷ [] else made) → all ≡ next ++ made_from (at + 1) (drop (at + 1 - 1) log)
made_next log all zero made next lt within e h = absurd (omega (arith, lt))
made_next log all (suc k) made next lt within e h = made_here log all k (there log k (omega (arith, within))).0 made next (there log k (omega (arith, within))).1 e h
  where
    there : (es : List Entry) (k : ℕ) → k < length es → (x : Entry) × (slice_get es k ≡ Some x)
    there [] k lt = absurd (omega (arith, lt))
    there (x ∷ es) zero lt = (x, refl)
    there (x ∷ es) (suc k) lt = there es k (omega (arith, lt))

    made_here : (log : List Entry) (all : List ℕ) (k : ℕ) (x : Entry) (made next : List ℕ) → slice_get log k ≡ Some x → all ≡ made ++ made_from (suc k) (drop (suc k - 1) log)
        → next ≡ (if not (is_deletable (slice_get log k)) then made ++ suc k ∷ [] else made) → all ≡ next ++ made_from (suc k + 1) (drop (suc k + 1 - 1) log)
    made_here log all k x made next at e h =
        let zero_less : suc k - 1 ≡ k = omega arith in
        let next_less : suc k + 1 - 1 ≡ suc k = omega arith in
        let next_more : suc k + 1 ≡ suc (suc k) = omega arith in
        let opened : made_from (suc k) (drop (suc k - 1) log) ≡ (if is_deletable (Some x) then made_from (suc (suc k)) (drop (suc k) log) else suc k ∷ made_from (suc (suc k)) (drop (suc k) log)) =
        ap (λ (n : ℕ). made_from (suc k) (drop n log)) zero_less ∙ ap (made_from (suc k)) (rest_at log k x at) in
        let own : next ≡ (if not (is_deletable (Some x)) then made ++ suc k ∷ [] else made) = h ∙ ap (λ (o : Option Entry). if not (is_deletable o) then made ++ suc k ∷ [] else made) at in
        e ∙ ap (λ (xs : List ℕ). made ++ xs) opened
        ∙ made_one (is_deletable (Some x)) (suc k) made next (made_from (suc (suc k)) (drop (suc k) log)) own
        ∙ ap (λ (xs : List ℕ). next ++ xs)
        (ap (λ (n : ℕ). made_from n (drop (suc k) log)) (sym next_more) ∙ ap (λ (n : ℕ). made_from (suc k + 1) (drop n log)) (sym next_less))

nothing_behind : (log : List Entry) (n k : ℕ) → length log ≤ k → made_from n (drop k log) ≡ []
nothing_behind [] n zero le = refl
nothing_behind [] n (suc k) le = refl
nothing_behind (e ∷ es) n zero le = absurd (omega (arith, le))
nothing_behind (e ∷ es) n (suc k) le = nothing_behind es n k (omega (arith, le))

pub made_end : (log : List Entry) (all : List ℕ) (at : ℕ) (made : List ℕ) → suc (length log) ≤ at → all ≡ made ++ made_from at (drop (at - 1) log) → made ≡ all
made_end log all at made le e = sym (e ∙ ap (λ (xs : List ℕ). made ++ xs) (nothing_behind log at (at - 1) (omega (arith, le))) ∙ append-nil made)

-- ---- steps that have lines

lined_at : (es : List Entry) (k : ℕ) (e : Entry) → AreLined es → slice_get es k ≡ Some e → IsSome (entry_line e)
lined_at es k e h at = each_slice_get (λ (x : Entry). IsSome (entry_line x)) es k e h at

pub has_line : (log : List Entry) (p : ℕ) (e : Entry) → AreLined log → entry_at log p ≡ Some e → HasLine log p
has_line log zero e h at = let q : ⊥ = cc in absurd q
has_line log (suc k) e h at = record { entry = e; stands = at; line = lined_at log k e h at }

derived_entry : (o : Option Entry) → is_deletable o ≡ true → (e : Entry) × (o ≡ Some e)
derived_entry None d = let q : ⊥ = cc in absurd q
derived_entry (Some e) d = (e, refl)

pub derived_line : (log : List Entry) (p : ℕ) → AreLined log → is_deletable (entry_at log p) ≡ true → HasLine log p
derived_line log p h d = let e = derived_entry (entry_at log p) d in has_line log p e.0 h e.1

dropped : (es : List Entry) (k i : ℕ) (e : Entry) → slice_get (drop k es) i ≡ Some e → slice_get es (k + i) ≡ Some e
dropped es zero i e h = let q : zero + i ≡ i = omega arith in ap (slice_get es) q ∙ h
dropped [] (suc k) i e h = let q : ⊥ = cc in absurd q
dropped (x ∷ es) (suc k) i e h = let q : suc k + i ≡ suc (k + i) = omega arith in ap (slice_get (x ∷ es)) q ∙ dropped es k i e h

each_made : (P : ℕ → Type 0) (n : ℕ) (es : List Entry) → ((i : ℕ) (e : Entry) → slice_get es i ≡ Some e → P (n + i)) → All P (made_from n es)
each_made P n [] h = λ k d lt. absurd (omega (arith, lt))
each_made P n (e ∷ es) h =
    let rest : All P (made_from (suc n) es) = each_made P (suc n) es (λ i x at. (let q : n + suc i ≡ suc n + i = omega arith in subst P q (h (suc i) x at))) in
    elim (is_deletable (Some e)) as (λ b. All P (if b then made_from (suc n) es else n ∷ made_from (suc n) es))
    [ true ↦ rest | false ↦ All-cons P n (made_from (suc n) es) (let q : n + 0 ≡ n = omega arith in subst P q (h 0 e refl)) rest ]

pub made_lines : (log : List Entry) (from : ℕ) → 0 < from → AreLined log → All (HasLine log) (made_from from (drop (from - 1) log))
made_lines log zero lt h = absurd (omega (arith, lt))
made_lines log (suc k) lt h = each_made (HasLine log) (suc k) (drop (suc k - 1) log) (λ i e at.
    (let less : suc k - 1 ≡ k = omega arith in
    let here : slice_get log (k + i) ≡ Some e = dropped log k i e (subst (λ (n : ℕ). slice_get (drop n log) i ≡ Some e) less at) in
    let place : suc k + i ≡ suc (k + i) = omega arith in
    subst (HasLine log) (sym place) (has_line log (suc (k + i)) e h here)))

-- ---- one line

line_one : (o : Option Line) (a b : List ℕ) → IsSome o → IfSome o (λ l. b ≡ a ++ line_text l) → b ≡ a ++ flat_map line_text (option_to_list o ++ [])
line_one None a b h k = let q : ⊥ = cc in absurd q
line_one (Some l) a b h k = k ∙ ap (λ (t : List ℕ). a ++ t) (sym (append-nil (line_text l)))

pub entry_text : (e : Entry) (a b : List ℕ) → IsSome (entry_line e) → IfSome (entry_line e) (λ l. b ≡ a ++ line_text l) → b ≡ a ++ flat_map line_text (step_lines (e ∷ []))
entry_text e a b h k = line_one (entry_line e) a b h k

readable_one : (o : Option Line) → IfSome o IsLine → AllByRecursion IsLine (option_to_list o ++ [])
readable_one None h = tt
readable_one (Some l) h = (h, tt)

pub entry_readable : (e : Entry) → IfSome (entry_line e) IsLine → AllByRecursion IsLine (step_lines (e ∷ []))
entry_readable e h = readable_one (entry_line e) h

-- ---- what is needed has lines

pub needed_lines : (log : List Entry) (places : ℕ → ℕ) (r : Record) (ps : List ℕ) → AreLined log → AreNeeded log places r ps → All (HasLine log) ps
needed_lines log places r ps h needed = λ k d lt. derived_line log (get_or ps k d) h (needed_derived log places r (get_or ps k d) (needed.each k d lt).0)

-- ---- hints, one after the other

pub hints_next : (f : ClauseId → ClauseId) (xs : List ClauseId) (k : ℕ) (x : ClauseId) (old new : List ClauseId) → slice_get xs k ≡ Some x → old ≡ map f (take k xs) → new ≡ old ++ f x ∷ [] → new ≡ map f (take (k + 1) xs)
hints_next f xs k x old new at e n =
    let front : take (k + 1) xs ≡ take k xs ++ x ∷ [] = take_more xs k x (slice_get_within xs k x at) ∙ ap (λ (y : ClauseId). take k xs ++ y ∷ []) (get_or_from_slice_get xs k x x at) in
    n ∙ ap (λ (ys : List ClauseId). ys ++ f x ∷ []) e ∙ sym (map-append f (take k xs) (x ∷ [])) ∙ ap (map f) (sym front)

-- ---- numbers behind spaces

spaced_more : (words : List (List ℕ)) (word : List ℕ) → spaced (words ++ word ∷ []) ≡ spaced words ++ 32 ∷ word
spaced_more words word = flat_map-append (λ (w : List ℕ). 32 ∷ w) words (word ∷ []) ∙ ap (λ (t : List ℕ). spaced words ++ t) (append-nil (32 ∷ word))

-- so many numbers, and the next
module _ (xs : List ℕ) (k x d n : ℕ) (lt : k < length xs) (is : x ≡ get_or xs k d) (own : n ≡ x) where
  front : take (k + 1) xs ≡ take k xs ++ n ∷ []
  front = take_more xs k d lt ∙ ap (λ (y : ℕ). take k xs ++ y ∷ []) (sym (own ∙ is))

  pub numbers_next : (a old new : List ℕ) → old ≡ a ++ spaced (map decimal (take k xs)) → new ≡ old ++ 32 ∷ decimal n → new ≡ a ++ spaced (map decimal (take (k + 1) xs))
  numbers_next a old new o e =
      e ∙ ap (λ (t : List ℕ). t ++ 32 ∷ decimal n) o
      ∙ append_assoc a (spaced (map decimal (take k xs))) (32 ∷ decimal n)
      ∙ ap (λ (t : List ℕ). a ++ t) (sym (spaced_more (map decimal (take k xs)) (decimal n)) ∙ ap spaced (sym (map-append decimal (take k xs) (n ∷ []))))
      ∙ ap (λ (ys : List ℕ). a ++ spaced (map decimal ys)) (sym front)

  pub each_next : AllByRecursion IsNumber (take k xs) → IsNumber n → AllByRecursion IsNumber (take (k + 1) xs)
  each_next h m = subst (AllByRecursion IsNumber) (sym front) (each_append IsNumber (take k xs) (n ∷ []) h (m, tt))

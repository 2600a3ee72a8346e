-- What the file gets for a check.
use Rattle.std.proofs.Common.{◌≡◌, ℕ, suc, ◌+◌, ◌<◌, ◌≤◌, ◌==◌, Bool, true, false, List, [], ◌∷◌, ◌++◌, length, map, Option, Some, None, refl, sym, ap, subst, ◌∙◌, arith, inl, inr, ⊎_elim, append_assoc, append-nil, length-append}
use Rattle.std.specs.Prelude.{◌⊎◌, ◌||◌, not, if◌then◌else◌, Contains, slice_get, option_map, option_to_list}
use Rattle.std.specs.List.{AllByRecursion}
use Rattle.std.proofs.lemmas.Bool.{cases_lt, eqb-true, ne_eqb}
use Rattle.std.proofs.lemmas.List.Elements.{All-contains, recursion_from_All, Contains-append_cases}
use Rattle.std.proofs.lemmas.List.Folds.{list_any-append}
use Rattle.cnf_base.specs.Literals.{Literal}
use Rattle.cnf_base.specs.declared.clause.ClauseId.{ClauseId}
use Rattle.cnf_base.proofs.Lists.{Contains-first, Contains-later, Contains-nil}
use Rattle.smt_terms.specs.declared.node.Node.{Node}
use Rattle.scope_selectors.specs.declared.live.Live.{Live}
use Rattle.script_state.specs.States.{StateValue}
use Rattle.proof_log.specs.declared.entry.Entry.{Entry}
use Rattle.proof_log.specs.declared.entry.Entry.TheVariants as step
use Rattle.proof_log.specs.Logs.{clause_at, entry_at, state_of}
use Rattle.proof_log.proofs.Growth.{clause_place, entry_within}
use Rattle.proof_text.specs.Deletions.{AreDeletable, cites, is_deletable, is_deleted}
use Rattle.proof_text.specs.declared.line.Format.TheVariants.{Two}
use Rattle.proof_text.specs.declared.record.Record.{Record}
use Rattle.accepted_proof.specs.Turns.{Step, AreKept, AreStepsOf, deleted_behind, steps_in, with_step, with_steps}
use Rattle.proof_file.specs.Places.{FileValue, with_steps_of, without_places, placed, placed_steps}
use Rattle.proof_file.specs.Places.{with_step as step_placed}
use Rattle.proof_file.specs.Needed.{AreNeeded, AreRising, Cites, IsDerived, IsNeeded, IsWay, Names}
use Rattle.proof_file.specs.Stale.{AreStale, IsStale}
use Rattle.proof_file.specs.Trimmed.{deletion, made_from}
use Rattle.trimmed_proofs.proofs.States.{made_of, stands_at}
use Rattle.trimmed_proofs.proofs.Steps.{first_or_later, hint_finds}
use Rattle.trimmed_proofs.proofs.Filing.{HasPlace, out_cases, place_cases, without}
use Rattle.trimmed_proofs.proofs.Filed.{IsFiledCheck, file_of}
use Rattle.trimmed_proofs.proofs.Walking.{AreBeside, AreWalked, made_written, steps_walked}
use Rattle.trimmed_proofs.proofs.Writing.{AreWritten, CanBeWritten, all_written}

-- ---- what is stale

among_deleted : (P : ℕ → Type 0) (qs : List ℕ) (q : ℕ) → AllByRecursion P qs → is_deleted qs q ≡ true → P q
among_deleted P [] q h e = let z : ⊥ = cc in absurd z
among_deleted P (x ∷ xs) q h e = go (λ more. among_deleted P xs q h.1 more) (x == q) refl e
  where
    go : (is_deleted xs q ≡ true → P q) → (b : Bool) → (x == q) ≡ b → (b || is_deleted xs q) ≡ true → P q
    go again true same e = subst P (eqb-true x q same) h.0
    go again false other e = again e

still_not : (deleted : List ℕ) (x p : ℕ) (ys : List ℕ) → x < p → AreRising p ys → AllByRecursion (λ (y : ℕ). is_deleted deleted y ≡ false) ys → AllByRecursion (λ (y : ℕ). is_deleted (deleted ++ x ∷ []) y ≡ false) ys
still_not deleted x p [] lt r h = tt
still_not deleted x p (y ∷ ys) lt r h = (
  (let a = r.0 in
      list_any-append (λ (q : ℕ). q == y) deleted (x ∷ [])
      ∙ ap (λ (b : Bool). b || ((x == y) || false)) h.0
      ∙ ap (λ (b : Bool). b || false) (ne_eqb x y (λ same. omega (arith, lt, a, same)))),
  still_not deleted x (suc y) ys (let a = r.0 in omega (arith, lt, a)) r.1 h.1,
)

are_deletable : (log : List Entry) (deleted : List ℕ) (p : ℕ) (xs : List ℕ) → AreRising p xs → AllByRecursion (λ (x : ℕ). is_deletable (entry_at log x) ≡ true) xs → AllByRecursion (λ (x : ℕ). is_deleted deleted x ≡ false) xs → AreDeletable log deleted xs
are_deletable log deleted p [] r h k = tt
are_deletable log deleted p (x ∷ xs) r h k = (h.0, k.0, are_deletable log (deleted ++ x ∷ []) (suc x) xs r.1 h.1 (still_not deleted x (suc x) xs (omega arith) r.1 k.1))

each_more : (P Q : ℕ → Type 0) (xs : List ℕ) → ((x : ℕ) → P x → Q x) → AllByRecursion P xs → AllByRecursion Q xs
each_more P Q [] f h = tt
each_more P Q (x ∷ xs) f h = (f x h.0, each_more P Q xs f h.1)

module _ (s : StateValue) (log file : List Entry) (deleted : List ℕ) (f : FileValue) (h : AreBeside s log file deleted f) (nodes : List Node) (live : List Live) (stale : List ℕ) (gone : AreStale nodes log live f.places stale) where
  each_stale : AllByRecursion (IsStale nodes log live f.places) stale
  each_stale = recursion_from_All (IsStale nodes log live f.places) stale gone.each

  stale_within : (q : ℕ) → IsStale nodes log live f.places q → q ≤ length file
  stale_within q i = subst (λ (x : ℕ). x ≤ length file) i.place (h.placing.within i.position)

  stale_derived : (q : ℕ) → IsStale nodes log live f.places q → is_deletable (entry_at file q) ≡ true
  stale_derived q i =
      ap (λ (x : ℕ). is_deletable (entry_at file x)) (sym i.place)
      ∙ h.placing.kinds i.position (inr (subst (λ (x : ℕ). 0 < x) (sym i.place) i.written))
      ∙ ap is_deletable i.chain

  stale_left : (q : ℕ) → IsStale nodes log live f.places q → is_deleted deleted q ≡ false
  stale_left q i = subst (λ (x : ℕ). is_deleted deleted x ≡ false) i.place (h.placing.left i.position)

  -- what is stale can be deleted
  pub stale_deletable : AreDeletable file deleted stale
  stale_deletable =
      are_deletable file deleted 1 stale gone.rise
      (each_more (IsStale nodes log live f.places) (λ (x : ℕ). is_deletable (entry_at file x) ≡ true) stale stale_derived each_stale)
      (each_more (IsStale nodes log live f.places) (λ (x : ℕ). is_deleted deleted x ≡ false) stale stale_left each_stale)

  some_stale : (q : ℕ) → is_deleted stale q ≡ true → IsStale nodes log live f.places q
  some_stale q e = among_deleted (IsStale nodes log live f.places) stale q each_stale e

  pub beside_left : AreBeside s log file (deleted ++ stale) (without_places f stale)
  beside_left = record {
    log_reached = h.log_reached;
    file_reached = h.file_reached;
    made = h.made;
    keeps = λ p le n. kept p n (h.keeps p le n);
    placing = without s.terms.nodes log file deleted stale f h.placing (λ q e. let i = some_stale q e in (i.written, stale_within q i));
  }
    where
      kept : (p : ℕ) → is_deletable (entry_at log p) ≡ false → HasPlace f.places p → HasPlace (without_places f stale).places p
      kept p n has = ⊎_elim (λ z. inl z) (λ some. inr (out_cases f stale p (λ y. 0 < y) (λ e. wrong e) (λ e. some))) has
        where
          wrong : is_deleted stale (f.places p) ≡ true → 0 < 0
          wrong e =
              let q : true ≡ false = sym (stale_derived (f.places p) (some_stale (f.places p) e)) ∙ h.placing.kinds p has ∙ n in
              let z : ⊥ = cc in absurd z

-- ---- items

steps_mapped : (es : List Entry) → steps_in (map Step es) ≡ es
steps_mapped [] = refl
steps_mapped (e ∷ es) = ap (λ (xs : List Entry). e ∷ xs) (steps_mapped es)

pub steps_of_items : (stale : List ℕ) (es : List Entry) → steps_in (deletion stale ++ map Step es) ≡ es
steps_of_items [] es = steps_mapped es
steps_of_items (q ∷ qs) es = steps_mapped es

deleted_mapped : (es : List Entry) (deleted : List ℕ) → deleted_behind deleted (map Step es) ≡ deleted
deleted_mapped [] deleted = refl
deleted_mapped (e ∷ es) deleted = deleted_mapped es deleted

pub deleted_by_items : (stale deleted : List ℕ) (es : List Entry) → deleted_behind deleted (deletion stale ++ map Step es) ≡ deleted ++ stale
deleted_by_items [] deleted es = deleted_mapped es deleted ∙ sym (append-nil deleted)
deleted_by_items (q ∷ qs) deleted es = deleted_mapped es (deleted ++ q ∷ qs)

kept_mapped : (es : List Entry) (log : List Entry) (deleted : List ℕ) → ((e : Entry) → Contains es e → cites deleted e ≡ false) → AreKept Two deleted log (map Step es)
kept_mapped [] log deleted h = tt
kept_mapped (e ∷ es) log deleted h = (h e (Contains-first e es), kept_mapped es (log ++ e ∷ []) deleted (λ x m. h x (Contains-later e x es m)))

pub kept_items : (stale deleted : List ℕ) (file es : List Entry) → AreDeletable file deleted stale → ((e : Entry) → Contains es e → cites (deleted ++ stale) e ≡ false) → AreKept Two deleted file (deletion stale ++ map Step es)
kept_items [] deleted file es d h = subst (λ (x : List ℕ). AreKept Two x file (map Step es)) (append-nil deleted) (kept_mapped es file (deleted ++ []) h)
kept_items (q ∷ qs) deleted file es d h = (refl, d, kept_mapped es file (deleted ++ q ∷ qs) h)

-- ---- places of steps that are written

pub steps_append : (f : FileValue) (ps qs : List ℕ) → with_steps_of f (ps ++ qs) ≡ with_steps_of (with_steps_of f ps) qs
steps_append f [] qs = refl
steps_append f (p ∷ ps) qs = steps_append (step_placed f p) ps qs

pub placed_append : (log : List Entry) (f : FileValue) (ps qs : List ℕ) → placed_steps log f (ps ++ qs) ≡ placed_steps log f ps ++ placed_steps log (with_steps_of f ps) qs
placed_append log f [] qs = refl
placed_append log f (p ∷ ps) qs =
    let one = option_to_list (option_map (placed f.places) (entry_at log p)) in
    ap (λ (xs : List Entry). one ++ xs) (placed_append log (step_placed f p) ps qs)
    ∙ sym (append_assoc one (placed_steps log (step_placed f p) ps) (placed_steps log (with_steps_of (step_placed f p) ps) qs))

-- what has a place keeps one
still_placed : (ps : List ℕ) (f : FileValue) (q : ℕ) → 0 < f.places q → 0 < (with_steps_of f ps).places q
still_placed [] f q some = some
still_placed (p ∷ ps) f q some = still_placed ps (step_placed f p) q (place_cases f p q (λ y. 0 < y) (λ same. omega arith) (λ ne. some))

-- what has a place had one, or is one of these
only_placed : (ps : List ℕ) (f : FileValue) (q : ℕ) → 0 < (with_steps_of f ps).places q → (0 < f.places q) ⊎ Contains ps q
only_placed [] f q some = inl some
only_placed (p ∷ ps) f q some =
    ⊎_elim
    (λ had. place_cases f p q (λ y. 0 < y → (0 < f.places q) ⊎ Contains (p ∷ ps) q) (λ same old. inr (subst (Contains (p ∷ ps)) (sym same) (Contains-first p ps))) (λ ne old. inl old) had)
    (λ more. inr (Contains-later p q ps more)) (only_placed ps (step_placed f p) q some)

-- these positions are those of steps that make something
made_are : (es : List Entry) (n : ℕ) (q : ℕ) → Contains (made_from n es) q → (i : ℕ) × (q ≡ n + i) × (e : Entry) × (slice_get es i ≡ Some e) × (is_deletable (Some e) ≡ false)
made_are [] n q m = absurd (Contains-nil q m)
made_are (e ∷ es) n q m = go (λ more. made_are es (suc n) q more) (is_deletable (Some e)) refl m
  where
    later : (i : ℕ) × (q ≡ suc n + i) × (d : Entry) × (slice_get es i ≡ Some d) × (is_deletable (Some d) ≡ false) → (i : ℕ) × (q ≡ n + i) × (d : Entry) × (slice_get (e ∷ es) i ≡ Some d) × (is_deletable (Some d) ≡ false)
    later k = (suc k.0, (let a = k.1 in omega (arith, a)), k.2, k.3, k.4)

    go : (Contains (made_from (suc n) es) q → (i : ℕ) × (q ≡ suc n + i) × (d : Entry) × (slice_get es i ≡ Some d) × (is_deletable (Some d) ≡ false)) → (b : Bool) → is_deletable (Some e) ≡ b → Contains (if b then made_from (suc n) es else n ∷ made_from (suc n) es) q → (i : ℕ) × (q ≡ n + i) × (d : Entry) × (slice_get (e ∷ es) i ≡ Some d) × (is_deletable (Some d) ≡ false)
    go again true d m = later (again m)
    go again false d m = ⊎_elim (λ same. (0, (let z : q ≡ n + 0 = omega (arith, same) in z), e, refl, d)) (λ more. later (again more)) (first_or_later n q (made_from (suc n) es) m)

slice_behind : (log es : List Entry) (i : ℕ) → slice_get (log ++ es) (length log + i) ≡ slice_get es i
slice_behind [] es i = ap (slice_get es) (let z : 0 + i ≡ i = omega arith in z)
slice_behind (x ∷ log) es i = ap (slice_get (x ∷ (log ++ es))) (let z : suc (length log) + i ≡ suc (length log + i) = omega arith in z) ∙ slice_behind log es i

made_entry : (log es : List Entry) (q : ℕ) → Contains (made_from (suc (length log)) es) q → is_deletable (entry_at (log ++ es) q) ≡ false
made_entry log es q m =
    let k = made_are es (suc (length log)) q m in
    ap (λ (x : ℕ). is_deletable (entry_at (log ++ es) x)) (let a = k.1 in let z : q ≡ suc (length log + k.0) = omega (arith, a) in z)
    ∙ ap is_deletable (slice_behind log es k.0 ∙ k.3)
    ∙ k.4

-- ---- lists of steps

-- steps behind steps
steps_then : (es more : List Entry) (s : StateValue) (file : List Entry) → AreStepsOf s file es → AreStepsOf (with_steps s es) (file ++ es) more → AreStepsOf s file (es ++ more)
steps_then [] more s file h k = subst (λ (l : List Entry). AreStepsOf s l more) (append-nil file) k
steps_then (e ∷ es) more s file h k =
    (h.0, h.1, h.2, steps_then es more (with_step s e) (file ++ e ∷ []) h.3 (subst (λ (l : List Entry). AreStepsOf (with_steps (with_step s e) es) l more) (sym (append_assoc file (e ∷ []) es)) k))

states_then : (es more : List Entry) (s : StateValue) → with_steps s (es ++ more) ≡ with_steps (with_steps s es) more
states_then [] more s = refl
states_then (e ∷ es) more s = states_then es more (with_step s e)

-- a step that makes something cites nothing
cites_none : (deleted : List ℕ) (e : Entry) → is_deletable (Some e) ≡ false → cites deleted e ≡ false
cites_none deleted (step.Chain c hints) m = let z : ⊥ = cc in absurd z
cites_none deleted (step.Node n) m = refl
cites_none deleted (step.Leaf t) m = refl
cites_none deleted (step.Encode t) m = refl
cites_none deleted (step.Selector a t) m = refl
cites_none deleted (step.Rewrite r) m = refl
cites_none deleted (step.Equal t u) m = refl
cites_none deleted (step.Lemma l) m = refl

made_uncited : (deleted : List ℕ) (es : List Entry) (e : Entry) → Contains (made_of es) e → cites deleted e ≡ false
made_uncited deleted [] e m = absurd (Contains-nil e m)
made_uncited deleted (x ∷ es) e m = go (λ more. made_uncited deleted es e more) (is_deletable (Some x)) refl m
  where
    go : (Contains (made_of es) e → cites deleted e ≡ false) → (b : Bool) → is_deletable (Some x) ≡ b → Contains (if not b then x ∷ made_of es else made_of es) e → cites deleted e ≡ false
    go again true d m = again m
    go again false d m = ⊎_elim (λ same. subst (λ (y : Entry). cites deleted y ≡ false) same (cites_none deleted x d)) (λ more. again more) (first_or_later x e (made_of es) m)

-- ---- what is needed

way_more : (log : List Entry) (places : ℕ → ℕ) (q p x : ℕ) (way : List ℕ) → IsWay log places q way p → places p ≡ 0 → Cites log p x → IsWay log places q (way ++ x ∷ []) x
way_more log places q p x [] w none c = (subst (λ (y : ℕ). places y ≡ 0) (sym w) none, subst (λ (y : ℕ). Cites log y x) (sym w) c, refl)
way_more log places q p x (y ∷ way) w none c = (w.0, w.1, way_more log places y p x way w.2 none c)

way_derived : (log : List Entry) (places : ℕ → ℕ) (q p : ℕ) (way : List ℕ) → IsDerived log q → IsWay log places q way p → IsDerived log p
way_derived log places q p [] d w = subst (IsDerived log) w d
way_derived log places q p (x ∷ way) d w = way_derived log places x p way w.1.derived w.2

needed_derived : (log : List Entry) (places : ℕ → ℕ) (r : Record) (p : ℕ) → IsNeeded log places r p → IsDerived log p
needed_derived log places r p n = way_derived log places n.from p n.way n.start n.leads

derived_entry : (log : List Entry) (p : ℕ) → IsDerived log p → (e : Entry) × (entry_at log p ≡ Some e) × (is_deletable (Some e) ≡ true)
derived_entry log p d = go (entry_at log p) refl d
  where
    go : (o : Option Entry) → entry_at log p ≡ o → is_deletable o ≡ true → (e : Entry) × (entry_at log p ≡ Some e) × (is_deletable (Some e) ≡ true)
    go None h d = let z : ⊥ = cc in absurd z
    go (Some e) h d = (e, h, d)

derived_or_not : (log : List Entry) (p : ℕ) → (is_deletable (entry_at log p) ≡ true) ⊎ (is_deletable (entry_at log p) ≡ false)
derived_or_not log p = go (is_deletable (entry_at log p)) refl
  where
    go : (b : Bool) → is_deletable (entry_at log p) ≡ b → (is_deletable (entry_at log p) ≡ true) ⊎ (is_deletable (entry_at log p) ≡ false)
    go true e = inl e
    go false e = inr e

zero_or_more : (n : ℕ) → (n ≡ 0) ⊎ (0 < n)
zero_or_more n = ⊎_elim (λ some. inr some) (λ none. inl (let z : n ≡ 0 = omega (arith, none) in z)) (cases_lt 0 n)

-- a check: the steps that make something are filed, then what its record needs
module _ (s : StateValue) (log steps file : List Entry) (deleted : List ℕ) (base : FileValue) (h : AreBeside s log file deleted base) (v : AreStepsOf s log steps) (r : Record) (needed : List ℕ) (wanted : AreNeeded (log ++ steps) base.places r needed) where
  abbrev pub all : List Entry
  all = log ++ steps

  abbrev pub mades : List ℕ
  mades = made_from (suc (length log)) steps

  -- the file once all is made
  abbrev pub middle : FileValue
  middle = with_steps_of base (made_from (suc (length log)) steps)

  abbrev pub ends : FileValue
  ends = with_steps_of middle needed

  abbrev pub next : StateValue
  next = with_steps s steps

  abbrev pub written_steps : List Entry
  written_steps = placed_steps (log ++ steps) (with_steps_of base (made_from (suc (length log)) steps)) needed

  walked : AreWalked s log file deleted base steps (made_of steps) (made_from (suc (length log)) steps)
  walked = steps_walked steps s log file deleted base h v

  each_needed : (q : ℕ) → Contains needed q → IsNeeded (log ++ steps) base.places r q × (base.places q ≡ 0)
  each_needed q m = All-contains (λ p. IsNeeded (log ++ steps) base.places r p × (base.places p ≡ 0)) needed q wanted.each m

  not_made : (q : ℕ) → IsDerived (log ++ steps) q → Contains (made_from (suc (length log)) steps) q → ⊥
  not_made q d m = let e : true ≡ false = sym d ∙ made_entry log steps q m in let z : ⊥ = cc in z

  no_place_yet : (q : ℕ) → IsDerived (log ++ steps) q → base.places q ≡ 0 → middle.places q ≡ 0
  no_place_yet q d none =
      ⊎_elim (λ z. z) (λ some. ⊎_elim (λ had. absurd (omega (arith, none, had))) (λ m. absurd (not_made q d m)) (only_placed (made_from (suc (length log)) steps) base q some)) (zero_or_more (middle.places q))

  hint_before : (q : ℕ) (c : List Literal) (hints : List ClauseId) (i : ClauseId) → entry_at (log ++ steps) q ≡ Some (step.Chain c hints) → Contains hints i → i.pos < q
  hint_before q c hints i at m =
      let here = stands_at next.terms.nodes (log ++ steps) q (step.Chain c hints) walked.beside.log_reached.steps at in
      let found = hint_finds (clause_at (state_of next.terms.nodes here.front).clauses) c hints i here.valid.1 m in
      let a = clause_place next.terms.nodes here.front i found.0 found.1 in
      let b = here.place in
      omega (arith, a, b)

  had_or_needed : (q : ℕ) (x : ℕ) → IsNeeded (log ++ steps) base.places r q → base.places q ≡ 0 → Cites (log ++ steps) q x → HasPlace middle.places x ⊎ Contains needed x
  had_or_needed q x n none c =
      ⊎_elim
      (λ z. inr (wanted.every x (record { from = n.from; named = n.named; start = n.start; way = n.way ++ x ∷ []; leads = way_more (log ++ steps) base.places n.from q x n.way n.leads none c }) z))
      (λ some. inl (inr (still_placed (made_from (suc (length log)) steps) base x some))) (zero_or_more (base.places x))

  can : CanBeWritten (log ++ steps) middle needed
  can = record {
    entry = λ q m.
        let n = each_needed q m in
        let d = needed_derived (log ++ steps) base.places r q n.0 in
        let e = derived_entry (log ++ steps) q d in
        (e.0, e.1, e.2, no_place_yet q d n.1);
    hints = λ q c hints i m at among.
        let n = each_needed q m in
        let lt = hint_before q c hints i at among in (
          lt,
          ⊎_elim
              (λ d. had_or_needed q i.pos n.0 n.1 (record { clause = c; hints = hints; chain = at; hint = i; among = among; cited = refl; derived = d }))
              (λ made. inl (walked.beside.keeps i.pos (let a = entry_within (log ++ steps) q (step.Chain c hints) at in omega (arith, a, lt)) made)) (derived_or_not (log ++ steps) i.pos),
        );
  }

  written : AreWritten next (log ++ steps) (file ++ made_of steps) deleted middle needed written_steps
  written = all_written needed next (log ++ steps) (file ++ made_of steps) deleted middle 1 walked.beside wanted.rise can

  abbrev pub whole : List Entry
  whole = (file ++ made_of steps) ++ placed_steps (log ++ steps) (with_steps_of base (made_from (suc (length log)) steps)) needed

  pub beside : AreBeside next (log ++ steps) whole deleted ends
  beside = written.beside

  stands_named : (p : ℕ) → Names r p → p ≤ length (log ++ steps) → HasPlace ends.places p
  stands_named p named le =
      ⊎_elim
      (λ d. ⊎_elim
      (λ z. inr (let a = written.placed_at p (wanted.every p (record { from = p; named = named; start = d; way = []; leads = refl }) z) in omega (arith, a)))
      (λ some. inr (still_placed needed middle p (still_placed (made_from (suc (length log)) steps) base p some))) (zero_or_more (base.places p)))
      (λ made. written.beside.keeps p le made) (derived_or_not (log ++ steps) p)

  middle_count : middle.count ≡ length (file ++ made_of steps)
  middle_count = walked.beside.placing.count

  pub filed : IsFiledCheck next.terms.nodes log steps whole deleted base ends (suc middle.count) needed r
  filed = record {
    terms = written.beside.log_reached.state.terms;
    whole_log = written.beside.log_reached.steps;
    whole_file = written.beside.file_reached.steps;
    file_is = file_of next.terms.nodes (log ++ steps) whole deleted ends written.beside.made written.beside.keeps written.beside.placing;
    wanted = wanted;
    start_within = (omega arith, (let a = middle_count in let b = length-append (file ++ made_of steps) written_steps in omega (arith, a, b)));
    written = λ p m. (needed_derived (log ++ steps) base.places r p (each_needed p m).0, (let a = written.placed_at p m in let b = middle_count in omega (arith, a, b)), written.told p m);
    hinted = λ p c hints i m at among. ⊎_elim (λ has. kept i.pos has) (λ in_all. inr (let a = written.placed_at i.pos in_all in omega (arith, a))) (can.hints p c hints i m at among).1;
    named = stands_named;
    before = λ p lt m. let a = written.placed_at p m in let b = middle_count in omega (arith, a, b, lt);
    behind = λ p le. ⊎_elim (λ had. absurd (old p had le)) (λ m. m) (written.only p (let z : 0 < ends.places p = omega (arith, le) in z));
    own = λ p lt d some. ⊎_elim (λ had. absurd (not_old p lt d had)) (λ m. m) (written.only p some);
    fresh = λ q le. walked.beside.placing.gone q (let a = middle_count in omega (arith, a, le));
  }
    where
      kept : (q : ℕ) → HasPlace middle.places q → HasPlace ends.places q
      kept q has = ⊎_elim (λ z. inl z) (λ some. inr (still_placed needed middle q some)) has

      old : (p : ℕ) → 0 < middle.places p → suc middle.count ≤ ends.places p → ⊥
      old p had le =
          let a = written.stays p (inr had) in
          let b = walked.beside.placing.within p in
          let c = middle_count in
          omega (arith, a, b, c, le)

      not_old : (p : ℕ) → length log < p → IsDerived (log ++ steps) p → 0 < middle.places p → ⊥
      not_old p lt d had = ⊎_elim (λ first. let a = h.placing.known p first in omega (arith, a, lt)) (λ m. not_made p d m) (only_placed (made_from (suc (length log)) steps) base p had)

  -- ---- what is written

  items_steps : placed_steps (log ++ steps) base (made_from (suc (length log)) steps ++ needed) ≡ made_of steps ++ written_steps
  items_steps =
      placed_append (log ++ steps) base (made_from (suc (length log)) steps) needed
      ∙ ap (λ (xs : List Entry). xs ++ written_steps) (made_written steps (log ++ steps) log base refl)

  pub all_steps : AreStepsOf s file (placed_steps (log ++ steps) base (made_from (suc (length log)) steps ++ needed))
  all_steps =
      subst (AreStepsOf s file) (sym items_steps)
      (steps_then (made_of steps) written_steps s file walked.steps (subst (λ (x : StateValue). AreStepsOf x (file ++ made_of steps) written_steps) (sym walked.state) written.steps))

  pub all_state : with_steps s (placed_steps (log ++ steps) base (made_from (suc (length log)) steps ++ needed)) ≡ with_steps s steps
  all_state =
      ap (with_steps s) items_steps
      ∙ states_then (made_of steps) written_steps s
      ∙ ap (λ (x : StateValue). with_steps x written_steps) walked.state
      ∙ written.state

  pub all_file : file ++ placed_steps (log ++ steps) base (made_from (suc (length log)) steps ++ needed) ≡ whole
  all_file = ap (λ (xs : List Entry). file ++ xs) items_steps ∙ sym (append_assoc file (made_of steps) written_steps)

  pub all_uncited : (e : Entry) → Contains (placed_steps (log ++ steps) base (made_from (suc (length log)) steps ++ needed)) e → cites deleted e ≡ false
  all_uncited e m =
      ⊎_elim (λ made. made_uncited deleted steps e made) (λ more. written.none_cited e more)
      (Contains-append_cases (made_of steps) written_steps e (subst (λ (xs : List Entry). Contains xs e) items_steps m))

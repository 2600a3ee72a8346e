-- Slots where more steps stand, and where one is blank.
use Rattle.std.proofs.Common.{◌≡◌, ℕ, zero, suc, ◌+◌, ◌-◌, ◌<◌, ◌≤◌, Bool, true, false, List, [], ◌∷◌, ◌++◌, length, map, get_or, Option, Some, None, refl, sym, ap, ◌∙◌, subst, inl, inr, arith}
use Rattle.std.specs.Prelude.{◌≢◌, ◌⊎◌, ◌==◌, ◌&&◌, slice_get, slice_set, option_map}
use Rattle.std.specs.List.{AllByRecursion}
use Rattle.std.proofs.lemmas.Bool.{eq-eqb, ne_eqb, cases_eq}
use Rattle.std.proofs.lemmas.Option.{slice_get-map, slice_get_read}
use Rattle.cnf_base.specs.Literals.{Literal}
use Rattle.cnf_base.specs.declared.clause.ClauseId.{ClauseId}
use Rattle.cnf_base.proofs.Lists.{slice_get-append_left, slice_get-push}
use Rattle.proof_log.specs.declared.entry.Entry.{Entry}
use Rattle.proof_log.specs.Diaries.{is_chain}
use Rattle.proof_log.specs.Logs.{clause_in, clause_at, entry_at}
use Rattle.proof_log.specs.Stored.{LogValue, clauses_of}
use Rattle.std.proofs.lemmas.List.{map-append}
use Rattle.proof_log.proofs.Growth.{entry_left}
use Rattle.faded_log.specs.declared.rows.Slot.{Slot}
use Rattle.faded_log.specs.declared.rows.Slot.TheVariants.{Plain, Chain, Blank}
use Rattle.faded_log.specs.Faded.{FadedValue, blank, first_of, fade, faded, fade_row, faded_rows, faded_clauses, IsFaded}
use Rattle.faded_log.specs.Slots.{or_blank, or_none, slot_entry, slot_row, IsWithin}
use Rattle.faded_log.proofs.Fading.{fade_chain, fade_other, row_chain, row_other}

-- ---- more steps

entry_same : (steps more : List Entry) (s : Slot) → IsWithin (length steps) s → slot_entry (steps ++ more) s ≡ slot_entry steps s
entry_same steps more (Plain p) le = ap or_blank (entry_left steps more p le)
entry_same steps more (Chain e) le = refl
entry_same steps more Blank le = refl

pub entries_same : (steps more : List Entry) (slots : List Slot) → AllByRecursion (IsWithin (length steps)) slots → map (slot_entry (steps ++ more)) slots ≡ map (slot_entry steps) slots
entries_same steps more [] h = refl
entries_same steps more (s ∷ ss) h = ap (λ x. x ∷ map (slot_entry (steps ++ more)) ss) (entry_same steps more s h.0) ∙ ap (λ xs. slot_entry steps s ∷ xs) (entries_same steps more ss h.1)

row_same : (n : ℕ) (rows more : List (List (List Literal))) (s : Slot) → length rows ≡ suc n → IsWithin n s → slot_row (rows ++ more) s ≡ slot_row rows s
row_same n rows more (Plain p) e le = ap or_none (slice_get-append_left rows more p (omega (arith, e, le)))
row_same n rows more (Chain c) e le = refl
row_same n rows more Blank e le = refl

pub rows_same : (n : ℕ) (rows more : List (List (List Literal))) (slots : List Slot) → length rows ≡ suc n → AllByRecursion (IsWithin n) slots → map (slot_row (rows ++ more)) slots ≡ map (slot_row rows) slots
rows_same n rows more [] e h = refl
rows_same n rows more (s ∷ ss) e h = ap (λ x. x ∷ map (slot_row (rows ++ more)) ss) (row_same n rows more s e h.0) ∙ ap (λ xs. slot_row rows s ∷ xs) (rows_same n rows more ss e h.1)

pub first_same : (n : ℕ) (rows more : List (List (List Literal))) → length rows ≡ suc n → first_of (rows ++ more) ≡ first_of rows
first_same n [] more e = absurd (omega (arith, e))
first_same n (row ∷ rows) more e = refl

pub within_more : (n m : ℕ) (slots : List Slot) → n ≤ m → AllByRecursion (IsWithin n) slots → AllByRecursion (IsWithin m) slots
within_more n m [] le h = tt
within_more n m (Plain p ∷ ss) le h = (omega (arith, le, h.0), within_more n m ss le h.1)
within_more n m (Chain e ∷ ss) le h = (tt, within_more n m ss le h.1)
within_more n m (Blank ∷ ss) le h = (tt, within_more n m ss le h.1)

-- ---- one slot that is blank

pub within_set : (n : ℕ) (slots : List Slot) (k : ℕ) → AllByRecursion (IsWithin n) slots → AllByRecursion (IsWithin n) (slice_set slots k Blank)
within_set n [] k h = tt
within_set n (s ∷ ss) zero h = (tt, h.1)
within_set n (s ∷ ss) (suc k) h = (h.0, within_set n ss k h.1)

-- no step is at the position, or none that is a chain
pub stays_faded : (at p : ℕ) (es : List Entry) → ((k : ℕ) → p + k ≡ at → is_chain (slice_get es k) ≡ false) → faded (λ q. at == q) p es ≡ es
stays_faded at p [] free = refl
stays_faded at p (e ∷ es) free = ap (λ x. x ∷ faded (λ q. at == q) (suc p) es) (here (cases_eq at p)) ∙ ap (λ xs. e ∷ xs) (stays_faded at (suc p) es (λ k q. free (suc k) (omega (arith, q))))
  where
    here : (at ≡ p) ⊎ (at ≢ p) → fade (at == p) e ≡ e
    here (inl q) = fade_other (at == p) e (free zero (omega (arith, q)))
    here (inr ne) = ap (λ b. fade b e) (ne_eqb at p ne)

pub stays_rows : (at p : ℕ) (es : List Entry) (rows : List (List (List Literal))) → ((k : ℕ) → p + k ≡ at → is_chain (slice_get es k) ≡ false) → faded_rows (λ q. at == q) p es rows ≡ rows
stays_rows at p [] rows free = refl
stays_rows at p (e ∷ es) [] free = refl
stays_rows at p (e ∷ es) (row ∷ rows) free =
    ap (λ x. x ∷ faded_rows (λ q. at == q) (suc p) es rows) (here (cases_eq at p)) ∙ ap (λ xs. row ∷ xs) (stays_rows at (suc p) es rows (λ k q. free (suc k) (omega (arith, q))))
  where
    here : (at ≡ p) ⊎ (at ≢ p) → fade_row (at == p) e row ≡ row
    here (inl q) = row_other (at == p) e row (free zero (omega (arith, q)))
    here (inr ne) = ap (λ b. fade_row b e row) (ne_eqb at p ne)

-- the position is before these steps
past : (at p : ℕ) (es : List Entry) → at < p → (k : ℕ) → p + k ≡ at → is_chain (slice_get es k) ≡ false
past at p es lt k q = absurd (omega (arith, lt, q))

module _ (steps : List Entry) (rows : List (List (List Literal))) (at : ℕ) where
  pub entries_set : (slots : List Slot) (k p : ℕ) → p + k ≡ at → is_chain (slice_get (map (slot_entry steps) slots) k) ≡ true → map (slot_entry steps) (slice_set slots k Blank) ≡ faded (λ q. at == q) p (map (slot_entry steps) slots)
  entries_set [] k p e h = refl
  entries_set (s ∷ ss) zero p e h =
      let here : fade (at == p) (slot_entry steps s) ≡ blank = ap (λ b. fade b (slot_entry steps s)) (eq-eqb at p (omega (arith, e))) ∙ fade_chain (slot_entry steps s) h in
      ap (λ x. x ∷ map (slot_entry steps) ss) (sym here)
      ∙ ap (λ xs. fade (at == p) (slot_entry steps s) ∷ xs) (sym (stays_faded at (suc p) (map (slot_entry steps) ss) (past at (suc p) (map (slot_entry steps) ss) (omega (arith, e)))))
  entries_set (s ∷ ss) (suc k) p e h =
      let out : fade (at == p) (slot_entry steps s) ≡ slot_entry steps s = ap (λ b. fade b (slot_entry steps s)) (ne_eqb at p (omega (arith, e))) in
      ap (λ x. x ∷ map (slot_entry steps) (slice_set ss k Blank)) (sym out)
      ∙ ap (λ xs. fade (at == p) (slot_entry steps s) ∷ xs) (entries_set ss k (suc p) (omega (arith, e)) h)

  pub rows_set : (slots : List Slot) (k p : ℕ) → p + k ≡ at → is_chain (slice_get (map (slot_entry steps) slots) k) ≡ true → map (slot_row rows) (slice_set slots k Blank) ≡ faded_rows (λ q. at == q) p (map (slot_entry steps) slots) (map (slot_row rows) slots)
  rows_set [] k p e h = refl
  rows_set (s ∷ ss) zero p e h =
      let here : fade_row (at == p) (slot_entry steps s) (slot_row rows s) ≡ clauses_of blank [] =
      ap (λ b. fade_row b (slot_entry steps s) (slot_row rows s)) (eq-eqb at p (omega (arith, e))) ∙ row_chain (slot_entry steps s) (slot_row rows s) h in
      ap (λ x. x ∷ map (slot_row rows) ss) (sym here)
      ∙ ap (λ xs. fade_row (at == p) (slot_entry steps s) (slot_row rows s) ∷ xs)
      (sym (stays_rows at (suc p) (map (slot_entry steps) ss) (map (slot_row rows) ss) (past at (suc p) (map (slot_entry steps) ss) (omega (arith, e)))))
  rows_set (s ∷ ss) (suc k) p e h =
      let out : fade_row (at == p) (slot_entry steps s) (slot_row rows s) ≡ slot_row rows s = ap (λ b. fade_row b (slot_entry steps s) (slot_row rows s)) (ne_eqb at p (omega (arith, e))) in
      ap (λ x. x ∷ map (slot_row rows) (slice_set ss k Blank)) (sym out)
      ∙ ap (λ xs. fade_row (at == p) (slot_entry steps s) (slot_row rows s) ∷ xs) (rows_set ss k (suc p) (omega (arith, e)) h)

-- ---- what is looked up

-- the clauses of position 0
pub first_clause : (rows more : List (List (List Literal))) (id : ClauseId) → id.pos ≡ 0 → clause_at rows id ≡ clause_at (first_of rows ∷ more) id
first_clause rows more id e = ap (λ o. clause_in o id.part) (ap (slice_get rows) e) ∙ by_rows ∙ ap (λ o. clause_in o id.part) (ap (slice_get (first_of rows ∷ more)) (sym e))
  where
    by_rows : clause_in (slice_get rows 0) id.part ≡ slice_get (first_of rows) id.part
    by_rows = go rows
      where
        go : (rs : List (List (List Literal))) → clause_in (slice_get rs 0) id.part ≡ slice_get (first_of rs) id.part
        go [] = refl
        go (row ∷ more) = refl

-- a clause of a step that is no chain
pub plain_clause : (rows : List (List (List Literal))) (p part : ℕ) → clause_at rows (record { pos = p; part = part }) ≡ slice_get (or_none (slice_get rows p)) part
plain_clause rows p part = go (slice_get rows p)
  where
    go : (o : Option (List (List Literal))) → clause_in o part ≡ slice_get (or_none o) part
    go None = refl
    go (Some row) = refl

-- the step at a position
pub entry_found : {A : Type 0} (f : A → Entry) (items : List A) (log : List Entry) (p : ℕ) (x : A) → (p ≡ 0 → ⊥) → p - 1 < length items → x ≡ get_or items (p - 1) x → map f items ≡ log → entry_at log p ≡ Some (f x)
entry_found f items log zero x ne lt e m = absurd (ne refl)
entry_found f items log (suc p) x ne lt e m =
    let q : suc p - 1 ≡ p = omega arith in
    ap (λ l. slice_get l p) (sym m)
    ∙ slice_get-map f items p
    ∙ ap (option_map f) (subst (λ k. slice_get items k ≡ Some x) q (slice_get_read items (length items) (suc p - 1) x refl lt e))

-- ---- one chain that is forgotten

abbrev pub value_of : LogValue → List Slot → FadedValue
value_of b slots = record { base = b; entries = map (slot_entry b.entries) slots; clauses = first_of b.clauses ∷ map (slot_row b.clauses) slots }

pub set_faded : (b : LogValue) (slots : List Slot) (at : ℕ) (old : FadedValue) → value_of b slots ≡ old → is_chain (entry_at old.entries at) ≡ true → IsFaded (λ q. at == q) old (value_of b (slice_set slots (at - 1) Blank))
set_faded b slots at old e h = subst (λ (o : FadedValue). IsFaded (λ q. at == q) o (value_of b (slice_set slots (at - 1) Blank))) e (by at (ap (λ (o : FadedValue). is_chain (entry_at o.entries at)) e ∙ h))
  where
    by : (p : ℕ) → is_chain (entry_at (map (slot_entry b.entries) slots) p) ≡ true → IsFaded (λ q. p == q) (value_of b slots) (value_of b (slice_set slots (p - 1) Blank))
    by zero g = let z : ⊥ = cc in absurd z
    by (suc p) g =
        let k : suc p - 1 ≡ p = omega arith in
        let at : 1 + p ≡ suc p = omega arith in
        subst (λ n. IsFaded (λ q. suc p == q) (value_of b slots) (value_of b (slice_set slots n Blank))) (sym k)
        (record {
          base = refl;
          entries = entries_set b.entries b.clauses (suc p) slots p 1 at g;
          clauses = ap (λ rs. first_of b.clauses ∷ rs) (rows_set b.entries b.clauses (suc p) slots p 1 at g);
        })

pub kept_faded : (at : ℕ) (old : FadedValue) → is_chain (entry_at old.entries at) ≡ false → IsFaded (λ q. at == q) old old
kept_faded at old h = record { base = refl; entries = sym (stays_faded at 1 old.entries free); clauses = sym (by old.clauses) }
  where
    free : (k : ℕ) → 1 + k ≡ at → is_chain (slice_get old.entries k) ≡ false
    free k e = let s : at ≡ suc k = omega (arith, e) in ap (λ n. is_chain (entry_at old.entries n)) (sym s) ∙ h

    by : (rows : List (List (List Literal))) → faded_clauses (λ q. at == q) old.entries rows ≡ rows
    by [] = refl
    by (row ∷ rows) = ap (λ rs. row ∷ rs) (stays_rows at 1 old.entries rows free)

-- ---- one step more

pub plain_entries : (b new : LogValue) (slots : List Slot) (e : Entry) (p : ℕ) → AllByRecursion (IsWithin (length b.entries)) slots → new.entries ≡ b.entries ++ e ∷ [] → p ≡ suc (length b.entries) → map (slot_entry new.entries) (slots ++ Plain p ∷ []) ≡ map (slot_entry b.entries) slots ++ e ∷ []
plain_entries b new slots e p within more at =
    map-append (slot_entry new.entries) slots (Plain p ∷ [])
    ∙ ap (λ es. es ++ slot_entry new.entries (Plain p) ∷ []) (ap (λ ss. map (slot_entry ss) slots) more ∙ entries_same b.entries (e ∷ []) slots within)
    ∙ ap (λ x. map (slot_entry b.entries) slots ++ x ∷ []) (ap (λ ss. or_blank (entry_at ss p)) more ∙ ap (λ k. or_blank (entry_at (b.entries ++ e ∷ []) k)) at ∙ ap or_blank (slice_get-push b.entries e))

pub plain_clauses : (b new : LogValue) (slots : List Slot) (row : List (List Literal)) (p : ℕ) → AllByRecursion (IsWithin (length b.entries)) slots → new.clauses ≡ b.clauses ++ row ∷ [] → length b.clauses ≡ suc (length b.entries) →
    (first_of new.clauses ∷ map (slot_row new.clauses) (slots ++ Plain p ∷ [])) ≡ (first_of b.clauses ∷ map (slot_row b.clauses) slots) ++ or_none (slice_get new.clauses p) ∷ []
plain_clauses b new slots row p within more places =
    ap (λ x. x ∷ map (slot_row new.clauses) (slots ++ Plain p ∷ [])) (ap first_of more ∙ first_same (length b.entries) b.clauses (row ∷ []) places)
    ∙ ap (λ xs. first_of b.clauses ∷ xs) (map-append (slot_row new.clauses) slots (Plain p ∷ []))
    ∙ ap (λ xs. first_of b.clauses ∷ (xs ++ slot_row new.clauses (Plain p) ∷ [])) (ap (λ rs. map (slot_row rs) slots) more ∙ rows_same (length b.entries) b.clauses (row ∷ []) slots places within)

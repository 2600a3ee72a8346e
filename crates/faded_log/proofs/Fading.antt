-- What forgetting leaves.
use Rattle.std.proofs.Common.{◌≡◌, ℕ, zero, suc, ◌+◌, ◌<◌, Bool, true, false, List, [], ◌∷◌, ◌++◌, length, take, get_or, Option, Some, None, refl, sym, ap, ◌∙◌, subst, arith}
use Rattle.std.specs.Prelude.{◌&&◌, ◌||◌, ◌==◌, if◌then◌else◌, slice_get, option_map}
use Rattle.std.specs.List.{AllByRecursion, list_any}
use Rattle.std.proofs.lemmas.List.Folds.{list_any_more}
use Rattle.cnf_base.specs.Literals.{Literal, true_literal}
use Rattle.cnf_base.specs.Assignments.{AreBelow}
use Rattle.smt_terms.specs.declared.node.Node.{Node}
use Rattle.proof_log.specs.declared.entry.Entry.{Entry}
use Rattle.proof_log.specs.declared.entry.Entry.TheVariants as step
use Rattle.cnf_base.specs.declared.clause.ClauseId.{ClauseId}
use Rattle.proof_log.specs.Diaries.{is_chain}
use Rattle.proof_log.specs.Logs.{clause_in, clause_at, entry_at}
use Rattle.proof_log.specs.Stored.{LogValue, Stands, clauses_of}
use Rattle.proof_log.proofs.Standing.{next_above}
use Rattle.faded_log.specs.Faded.{FadedValue, blank, plain_steps, first_of, behind_first, woven, with_chains, IsHeld, fade, faded, fade_row, faded_rows, faded_clauses, IsFaded, is_among}
use Rattle.faded_log.proofs.Weaving.{plain_chain, plain_other, woven_chain, woven_other}

-- ---- one step

pub fade_chain : (e : Entry) → is_chain (Some e) ≡ true → fade true e ≡ blank
fade_chain e h = ap (λ (b : Bool). if b then blank else e) h

pub fade_other : (gone : Bool) (e : Entry) → is_chain (Some e) ≡ false → fade gone e ≡ e
fade_other true e h = ap (λ (b : Bool). if b then blank else e) h
fade_other false e h = refl

pub row_chain : (e : Entry) (row : List (List Literal)) → is_chain (Some e) ≡ true → fade_row true e row ≡ clauses_of blank []
row_chain e row h = ap (λ (b : Bool). if b then clauses_of blank [] else row) h

pub row_other : (gone : Bool) (e : Entry) (row : List (List Literal)) → is_chain (Some e) ≡ false → fade_row gone e row ≡ row
row_other true e row h = ap (λ (b : Bool). if b then clauses_of blank [] else row) h
row_other false e row h = refl

-- it stays a chain
pub fade_kind : (gone : Bool) (e : Entry) (b : Bool) → is_chain (Some e) ≡ b → is_chain (Some (fade gone e)) ≡ b
fade_kind true e true h = ap (λ x. is_chain (Some x)) (fade_chain e h)
fade_kind true e false h = ap (λ x. is_chain (Some x)) (fade_other true e h) ∙ h
fade_kind false e b h = h

-- its clause is faded with it
fade_clauses : (gone : Bool) (e : Entry) → is_chain (Some e) ≡ true → clauses_of (fade gone e) [] ≡ fade_row gone e (clauses_of e [])
fade_clauses true e h = ap (λ x. clauses_of x []) (fade_chain e h) ∙ sym (row_chain e (clauses_of e []) h)
fade_clauses false e h = refl

-- ---- twice

fade_blank : (gone : Bool) → fade gone blank ≡ blank
fade_blank true = refl
fade_blank false = refl

fade_twice : (g h : Bool) (e : Entry) → fade h (fade g e) ≡ fade (g || h) e
fade_twice false h e = refl
fade_twice true h e = by_kind (is_chain (Some e)) refl
  where
    by_kind : (b : Bool) → is_chain (Some e) ≡ b → fade h (fade true e) ≡ fade true e
    by_kind true k = ap (fade h) (fade_chain e k) ∙ fade_blank h ∙ sym (fade_chain e k)
    by_kind false k = ap (fade h) (fade_other true e k) ∙ fade_other h e k ∙ sym (fade_other true e k)

row_blank : (gone : Bool) → fade_row gone blank (clauses_of blank []) ≡ clauses_of blank []
row_blank true = refl
row_blank false = refl

row_twice : (g h : Bool) (e : Entry) (row : List (List Literal)) → fade_row h (fade g e) (fade_row g e row) ≡ fade_row (g || h) e row
row_twice false h e row = refl
row_twice true h e row = by_kind (is_chain (Some e)) refl
  where
    by_kind : (b : Bool) → is_chain (Some e) ≡ b → fade_row h (fade true e) (fade_row true e row) ≡ fade_row true e row
    by_kind true k =
        ap (λ x. fade_row h x (fade_row true e row)) (fade_chain e k) ∙ ap (fade_row h blank) (row_chain e row k) ∙ row_blank h ∙ sym (row_chain e row k)
    by_kind false k = ap (fade_row h (fade true e)) (row_other true e row k) ∙ ap (λ x. fade_row h x row) (fade_other true e k) ∙ row_other h e row k ∙ sym (row_other true e row k)

faded_twice : (g h : ℕ → Bool) (p : ℕ) (es : List Entry) → faded h p (faded g p es) ≡ faded (λ q. g q || h q) p es
faded_twice g h p [] = refl
faded_twice g h p (e ∷ es) = ap (λ x. x ∷ faded h (suc p) (faded g (suc p) es)) (fade_twice (g p) (h p) e) ∙ ap (λ xs. fade (g p || h p) e ∷ xs) (faded_twice g h (suc p) es)

rows_twice : (g h : ℕ → Bool) (p : ℕ) (es : List Entry) (rows : List (List (List Literal))) → faded_rows h p (faded g p es) (faded_rows g p es rows) ≡ faded_rows (λ q. g q || h q) p es rows
rows_twice g h p [] rows = refl
rows_twice g h p (e ∷ es) [] = refl
rows_twice g h p (e ∷ es) (row ∷ rows) =
    ap (λ x. x ∷ faded_rows h (suc p) (faded g (suc p) es) (faded_rows g (suc p) es rows)) (row_twice (g p) (h p) e row)
    ∙ ap (λ xs. fade_row (g p || h p) e row ∷ xs) (rows_twice g h (suc p) es rows)

clauses_twice : (g h : ℕ → Bool) (es : List Entry) (rows : List (List (List Literal))) → faded_clauses h (faded g 1 es) (faded_clauses g es rows) ≡ faded_clauses (λ q. g q || h q) es rows
clauses_twice g h es [] = refl
clauses_twice g h es (row ∷ rows) = ap (λ rs. row ∷ rs) (rows_twice g h 1 es rows)

pub twice_faded : (g h : ℕ → Bool) (old mid new : FadedValue) → IsFaded g old mid → IsFaded h mid new → IsFaded (λ q. g q || h q) old new
twice_faded g h old mid new a b = record {
  base = b.base ∙ a.base;
  entries = b.entries ∙ ap (faded h 1) a.entries ∙ faded_twice g h 1 old.entries;
  clauses =
      b.clauses
      ∙ ap (faded_clauses h mid.entries) a.clauses
      ∙ ap (λ es. faded_clauses h es (faded_clauses g old.entries old.clauses)) a.entries
      ∙ clauses_twice g h old.entries old.clauses;
}

-- ---- none

none_faded : (g : ℕ → Bool) → ((p : ℕ) → g p ≡ false) → (p : ℕ) (es : List Entry) → faded g p es ≡ es
none_faded g free p [] = refl
none_faded g free p (e ∷ es) = ap (λ b. fade b e ∷ faded g (suc p) es) (free p) ∙ ap (λ xs. e ∷ xs) (none_faded g free (suc p) es)

none_rows : (g : ℕ → Bool) → ((p : ℕ) → g p ≡ false) → (p : ℕ) (es : List Entry) (rows : List (List (List Literal))) → faded_rows g p es rows ≡ rows
none_rows g free p [] rows = refl
none_rows g free p (e ∷ es) [] = refl
none_rows g free p (e ∷ es) (row ∷ rows) = ap (λ b. fade_row b e row ∷ faded_rows g (suc p) es rows) (free p) ∙ ap (λ xs. row ∷ xs) (none_rows g free (suc p) es rows)

-- the first so many places, one by one
none_clauses : (g : ℕ → Bool) → ((p : ℕ) → g p ≡ false) → (es : List Entry) (rows : List (List (List Literal))) → faded_clauses g es rows ≡ rows
none_clauses g none es [] = refl
none_clauses g none es (row ∷ rows) = ap (λ rs. row ∷ rs) (none_rows g none 1 es rows)

pub faded_none : (places : List ℕ) (l : FadedValue) → IsFaded (is_among (take 0 places)) l l
faded_none places l = record {
  base = refl;
  entries = sym (none_faded (is_among (take 0 places)) (λ p. refl) 1 l.entries);
  clauses = sym (none_clauses (is_among (take 0 places)) (λ p. refl) l.entries l.clauses);
}

pub faded_more : (places : List ℕ) (k d : ℕ) (old mid new : FadedValue) → k < length places → IsFaded (is_among (take k places)) old mid → IsFaded (λ p. get_or places k d == p) mid new → IsFaded (is_among (take (k + 1) places)) old new
faded_more places k d old mid new lt a b = subst (λ (g : ℕ → Bool). IsFaded g old new) same (twice_faded (is_among (take k places)) (λ p. get_or places k d == p) old mid new a b)
  where
    at : (p : ℕ) → (is_among (take k places) p || (get_or places k d == p)) ≡ is_among (take (k + 1) places) p
    at p = sym (list_any_more (λ q. q == p) places k d lt)

    same : (λ p. is_among (take k places) p || (get_or places k d == p)) ≡ is_among (take (k + 1) places)
    same = λ i p. at p i

-- ---- what stays held

plain_faded : (g : ℕ → Bool) (p : ℕ) (es : List Entry) → plain_steps (faded g p es) ≡ plain_steps es
plain_faded g p [] = refl
plain_faded g p (e ∷ es) = by_kind (plain_faded g (suc p) es) (is_chain (Some e)) refl
  where
    by_kind : plain_steps (faded g (suc p) es) ≡ plain_steps es → (b : Bool) → is_chain (Some e) ≡ b → plain_steps (faded g p (e ∷ es)) ≡ plain_steps (e ∷ es)
    by_kind rest true k = plain_chain (fade (g p) e) (faded g (suc p) es) (fade_kind (g p) e true k) ∙ rest ∙ sym (plain_chain e es k)
    by_kind rest false k =
        plain_other (fade (g p) e) (faded g (suc p) es) (fade_kind (g p) e false k)
        ∙ ap (λ x. x ∷ plain_steps (faded g (suc p) es)) (fade_other (g p) e k)
        ∙ ap (λ xs. e ∷ xs) rest
        ∙ sym (plain_other e es k)

woven_faded : (g : ℕ → Bool) (p : ℕ) (es : List Entry) (rows : List (List (List Literal))) → woven (faded g p es) rows ≡ faded_rows g p es (woven es rows)
woven_faded g p [] rows = refl
woven_faded g p (e ∷ es) rows = by_kind (woven_faded g (suc p) es) (is_chain (Some e)) refl
  where
    by_kind : ((rs : List (List (List Literal))) → woven (faded g (suc p) es) rs ≡ faded_rows g (suc p) es (woven es rs)) → (b : Bool) → is_chain (Some e) ≡ b → woven (faded g p (e ∷ es)) rows ≡ faded_rows g p (e ∷ es) (woven (e ∷ es) rows)
    by_kind rest true k =
        woven_chain rows (fade (g p) e) (faded g (suc p) es) (fade_kind (g p) e true k)
        ∙ ap (λ x. x ∷ woven (faded g (suc p) es) rows) (fade_clauses (g p) e k)
        ∙ ap (λ xs. fade_row (g p) e (clauses_of e []) ∷ xs) (rest rows)
        ∙ ap (faded_rows g p (e ∷ es)) (sym (woven_chain rows e es k))
    by_kind rest false k =
        woven_other rows (fade (g p) e) (faded g (suc p) es) (fade_kind (g p) e false k)
        ∙ ap (λ x. x ∷ woven (faded g (suc p) es) (behind_first rows)) (sym (row_other (g p) e (first_of rows) k))
        ∙ ap (λ xs. fade_row (g p) e (first_of rows) ∷ xs) (rest (behind_first rows))
        ∙ ap (faded_rows g p (e ∷ es)) (sym (woven_other rows e es k))

row_below : (n : ℕ) → 1 < n → (gone : Bool) (e : Entry) (row : List (List Literal)) → AllByRecursion (AreBelow n) row → AllByRecursion (AreBelow n) (fade_row gone e row)
row_below n some false e row h = h
row_below n some true e row h = by_kind (is_chain (Some e)) refl
  where
    by_kind : (b : Bool) → is_chain (Some e) ≡ b → AllByRecursion (AreBelow n) (fade_row true e row)
    by_kind true k = subst (AllByRecursion (AreBelow n)) (sym (row_chain e row k)) ((some, tt), tt)
    by_kind false k = subst (AllByRecursion (AreBelow n)) (sym (row_other true e row k)) h

rows_below : (n : ℕ) → 1 < n → (g : ℕ → Bool) (p : ℕ) (es : List Entry) (rows : List (List (List Literal))) → AllByRecursion (AllByRecursion (AreBelow n)) rows → AllByRecursion (AllByRecursion (AreBelow n)) (faded_rows g p es rows)
rows_below n some g p [] rows h = h
rows_below n some g p (e ∷ es) [] h = tt
rows_below n some g p (e ∷ es) (row ∷ rows) h = (row_below n some (g p) e row h.0, rows_below n some g (suc p) es rows h.1)

all_below : (n : ℕ) → 1 < n → (g : ℕ → Bool) (es : List Entry) (rows : List (List (List Literal))) → AllByRecursion (AllByRecursion (AreBelow n)) rows → AllByRecursion (AllByRecursion (AreBelow n)) (faded_clauses g es rows)
all_below n some g es [] h = tt
all_below n some g es (row ∷ rows) h = (h.0, rows_below n some g 1 es rows h.1)

pub held_faded : (g : ℕ → Bool) (nodes : List Node) (old new : FadedValue) → IsFaded g old new → IsHeld nodes old → IsHeld nodes new
held_faded g nodes old new f h = record {
  base = subst (Stands nodes) (sym f.base) h.base;
  steps = ap (λ (b : LogValue). b.entries) f.base ∙ h.steps ∙ sym (plain_faded g 1 old.entries) ∙ ap plain_steps (sym f.entries);
  clauses =
      f.clauses
      ∙ ap (faded_clauses g old.entries) h.clauses
      ∙ ap (λ rs. first_of old.base.clauses ∷ rs) (sym (woven_faded g 1 old.entries (behind_first old.base.clauses)))
      ∙ ap (λ es. with_chains es old.base.clauses) (sym f.entries)
      ∙ ap (λ (b : LogValue). with_chains new.entries b.clauses) (sym f.base);
  below =
      subst (λ (b : LogValue). AllByRecursion (AllByRecursion (AreBelow b.next)) new.clauses) (sym f.base)
      (subst (AllByRecursion (AllByRecursion (AreBelow old.base.next))) (sym f.clauses)
      (all_below old.base.next (next_above _ old.base h.base.terms h.base.kept) g old.entries old.clauses h.below));
}

-- ---- what is looked up of a log of which some is forgotten

pub faded_at : (g : ℕ → Bool) (p : ℕ) (es : List Entry) (k : ℕ) → slice_get (faded g p es) k ≡ option_map (fade (g (p + k))) (slice_get es k)
faded_at g p [] k = refl
faded_at g p (e ∷ es) zero = let at : p ≡ p + 0 = omega arith in ap (λ q. Some (fade (g q) e)) at
faded_at g p (e ∷ es) (suc k) = let at : suc p + k ≡ p + suc k = omega arith in faded_at g (suc p) es k ∙ ap (λ q. option_map (fade (g q)) (slice_get es k)) at

fade_option : (gone : Bool) (o : Option Entry) → is_chain (option_map (fade gone) o) ≡ is_chain o
fade_option gone None = refl
fade_option gone (Some e) = fade_kind gone e (is_chain (Some e)) refl

pub faded_kind : (g : ℕ → Bool) (old new : FadedValue) → IsFaded g old new → (p : ℕ) → is_chain (entry_at new.entries p) ≡ is_chain (entry_at old.entries p)
faded_kind g old new f zero = refl
faded_kind g old new f (suc p) = ap (λ es. is_chain (slice_get es p)) f.entries ∙ ap is_chain (faded_at g 1 old.entries p) ∙ fade_option (g (1 + p)) (slice_get old.entries p)

length_from : (g : ℕ → Bool) (p : ℕ) (es : List Entry) → length (faded g p es) ≡ length es
length_from g p [] = refl
length_from g p (e ∷ es) = ap suc (length_from g (suc p) es)

pub faded_length : (g : ℕ → Bool) (old new : FadedValue) → IsFaded g old new → length new.entries ≡ length old.entries
faded_length g old new f = ap length f.entries ∙ length_from g 1 old.entries

rows_at : (g : ℕ → Bool) (p : ℕ) (es : List Entry) (rows : List (List (List Literal))) (k : ℕ) → is_chain (slice_get es k) ≡ false → slice_get (faded_rows g p es rows) k ≡ slice_get rows k
rows_at g p [] rows k free = refl
rows_at g p (e ∷ es) [] k free = refl
rows_at g p (e ∷ es) (row ∷ rows) zero free = ap (λ x. Some x) (row_other (g p) e row free)
rows_at g p (e ∷ es) (row ∷ rows) (suc k) free = rows_at g (suc p) es rows k free

-- a clause of a position that is no chain's stays
pub faded_clause : (g : ℕ → Bool) (old new : FadedValue) → IsFaded g old new → (id : ClauseId) → is_chain (entry_at old.entries id.pos) ≡ false → clause_at new.clauses id ≡ clause_at old.clauses id
faded_clause g old new f id free = ap (λ rs. clause_at rs id) f.clauses ∙ by id.pos free old.clauses
  where
    by : (p : ℕ) → is_chain (entry_at old.entries p) ≡ false → (rows : List (List (List Literal))) → clause_in (slice_get (faded_clauses g old.entries rows) p) id.part ≡ clause_in (slice_get rows p) id.part
    by zero k [] = refl
    by zero k (row ∷ rows) = refl
    by (suc p) k [] = refl
    by (suc p) k (row ∷ rows) = ap (λ o. clause_in o id.part) (rows_at g 1 old.entries rows p k)

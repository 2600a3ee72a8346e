-- How a checker goes over the lines of a diary.
use Rattle.std.proofs.Common.{◌≡◌, ℕ, zero, suc, Bool, true, false, List, [], ◌∷◌, ◌++◌, length, drop, Some, ◌+◌, MatchBool, IfOk, Result, Ok, Err, refl, sym, subst, inl, inr, arith}
use Rattle.std.specs.Prelude.{◌⊎◌}
use Rattle.std.specs.declared.alloc.AllocError.{AllocError}
use Rattle.smt_values.specs.declared.value.Value.{Value}
use Rattle.smt_build.specs.declared.symbols.LiveName.{LiveName}
use Rattle.script_state.specs.declared.answer.Verdict.{Verdict}
use Rattle.script_state.specs.declared.answer.Verdict.TheVariants as verdict
use Rattle.script_state.specs.States.{StateValue}
use Rattle.proof_log.specs.declared.entry.Entry.{Entry}
use Rattle.proof_log.specs.declared.diary.DiaryLine.{DiaryLine}
use Rattle.proof_log.specs.declared.diary.DiaryLine.TheVariants as diary
use Rattle.faded_log.specs.Faded.{FadedValue, IsHeld}
use Rattle.cnf_base.proofs.Lists.{each_append, each_behind}
use Rattle.proof_log.specs.Diaries.{Subject, DiaryState, line_after, lines_after, AreLines}
use Rattle.proof_log.specs.Diaries as diaries
use Rattle.faded_log.proofs.Weaving.{held_clauses}
use Rattle.proof_text.specs.declared.line.Format.{Format}
use Rattle.proof_text.specs.declared.line.Line.TheVariants as line
use Rattle.proof_text.specs.Deletions.{IsSpentFrom, IsSpentWithout, blank_without, is_deleted, place_of}
use Rattle.proof_text.specs.declared.record.Record.TheVariants as shown
use Rattle.accepted_proof.specs.declared.refusal.RuleName.TheVariants as rule
use Rattle.accepted_proof.specs.Searching.{Limits, IsSearch, subject_of}
use Rattle.accepted_proof.specs.Judged as judged
use Rattle.accepted_proof.specs.Judged.{Owed, Judging, Decides, Opens, Notes, MovesBy, closed, refused, subject_at}
use Rattle.diary_checker.specs.Readers.{IsAbout, HasRead}
use Rattle.proof_checker.specs.declared.due.Due.{Due}
use Rattle.proof_checker.specs.declared.due.Due.TheVariants as due
use Rattle.proof_checker.specs.declared.due.Noting.{Noting}
use Rattle.proof_checker.specs.Checkers.{AreLeft, CheckerValue, GoesTo, HasLine, IsNoLine, IsNoted, IsOwedLines, LinesTo, NotesBy, ReadTo, judged_so, closed_with, owed_of, values_owed}
use Rattle.proof_checker.proofs.Moving.{held}

-- the log at hand is the one that the diary is about
pub is_about : (limits : Limits) (s : StateValue) (log : FadedValue) (cube start : ℕ) → IsHeld s.terms.nodes log → IsAbout (subject_of limits s s.terms.nodes log.entries cube start) log
is_about limits s log cube start h = record { entries = refl; clauses = held_clauses s.terms.nodes log h }

-- the last of some lines may stand behind the others
last_line : (g : Subject) (s : DiaryState) (ls : List DiaryLine) (l : DiaryLine) → AreLines g s (ls ++ l ∷ []) → diaries.IsLine g (lines_after g s ls) l
last_line g s [] l h = h.0
last_line g s (m ∷ ls) l h = last_line g (line_after g s m) ls l h.1

-- none of the lines names a deleted place, so neither does the last of them
left_last : (deleted : List ℕ) (ls : List DiaryLine) (l : DiaryLine) → AreLeft deleted (ls ++ l ∷ []) → is_deleted deleted (place_of l) ≡ false
left_last deleted ls l h = (each_behind (λ x. is_deleted deleted (place_of x) ≡ false) ls (l ∷ []) h).0

module _ (format : Format) (limits : Limits) (s : StateValue) (log : List Entry) (deleted : List ℕ) (o : Owed) (n : ℕ) (told : List Verdict) where
  abbrev now : Judging
  now = (held format limits s log deleted o n told).judging

  abbrev subject : ℕ → ℕ → Subject
  subject cube start = subject_of limits s s.terms.nodes log cube start

  -- where the last line goes
  abbrev LastTo : ℕ → ℕ → List DiaryLine → Judging → Type 0
  LastTo cube start lines k = Decides (IsSpentWithout deleted (subject cube start) limits.budget lines) (closed now (shown.Unknown (record { cube = cube; start = start; lines = lines }))) (refused now rule.Diary) k

  -- a line that may not stand there is refused
  no_line : (old : Noting) (l : DiaryLine) (k : Judging) → IsNoLine limits s log deleted old l → k ≡ refused now rule.Diary → Notes now old.cube old.start old.left old.lines l k
  no_line old l k none e = by_left old.left where
    by_left : (left : ℕ) → Notes now old.cube old.start left old.lines l k
    by_left zero = inr ((λ spent. none (left_last deleted old.lines l spent.left, last_line (subject old.cube old.start) (blank_without (is_deleted deleted) (subject old.cube old.start)) old.lines l spent.spent.stand)), e)
    by_left (suc left) = inr (none, e)

  -- one that may is one line more
  a_line : (old new : Noting) (l : DiaryLine) (k : Judging) → HasLine limits s log deleted old l new → LinesTo now new new.left k → Notes now old.cube old.start old.left old.lines l k
  a_line old new l k h to = by_left old.left (subst (λ m. LinesTo now new m k) h.left to) where
    stand : AreLines (subject old.cube old.start) (blank_without (is_deleted deleted) (subject old.cube old.start)) (old.lines ++ l ∷ [])
    stand =
        subst (λ c. AreLines (subject c old.start) (blank_without (is_deleted deleted) (subject c old.start)) (old.lines ++ l ∷ [])) h.cube
        (subst (λ p. AreLines (subject new.cube p) (blank_without (is_deleted deleted) (subject new.cube p)) (old.lines ++ l ∷ [])) h.start
        (subst (λ ls. AreLines (subject new.cube new.start) (blank_without (is_deleted deleted) (subject new.cube new.start)) ls) h.lines h.noted.0.stand))

    by_left : (left : ℕ) → LinesTo now new left k → Notes now old.cube old.start left old.lines l k
    by_left zero t = subst (λ c. LastTo c old.start (old.lines ++ l ∷ []) k) h.cube (subst (λ p. LastTo new.cube p (old.lines ++ l ∷ []) k) h.start (subst (λ ls. LastTo new.cube new.start ls k) h.lines t))
    by_left (suc left) t =
        inl (
          (left_last deleted old.lines l (subst (AreLeft deleted) h.lines h.noted.1), last_line (subject old.cube old.start) (blank_without (is_deleted deleted) (subject old.cube old.start)) old.lines l stand),
          subst (λ c. k ≡ judged.noted now c old.start left (old.lines ++ l ∷ [])) h.cube (subst (λ p. k ≡ judged.noted now new.cube p left (old.lines ++ l ∷ [])) h.start (subst (λ ls. k ≡ judged.noted now new.cube new.start left ls) h.lines t)),
        )

  reads : (old new : Noting) (l : DiaryLine) (b : Bool) (to : CheckerValue) → MatchBool b (HasLine limits s log deleted old l new) (IsNoLine limits s log deleted old l)
      → GoesTo (ReadTo (held format limits s log deleted judged.Steps n told).judging new b) (held format limits s log deleted judged.Steps n told) to
      → GoesTo (Notes now old.cube old.start old.left old.lines l) (held format limits s log deleted o n told) to
  reads old new l true to h g = record { judged = a_line old new l to.judging h (by_left new.left g.judged); verdicts = g.verdicts } where
    by_left : (left : ℕ) → LinesTo (held format limits s log deleted judged.Steps n told).judging new left to.judging → LinesTo now new left to.judging
    by_left zero t = t
    by_left (suc left) t = t
  reads old new l false to h g = record { judged = no_line old l to.judging h g.judged; verdicts = g.verdicts }

-- one line of a diary that is owed
pub line_noted : (format : Format) (limits : Limits) (s : StateValue) (log : List Entry) (deleted : List ℕ) (d : Due) (live : List LiveName) (values : List (ℕ × Value)) (n : ℕ) (told : List Verdict) (old new : Noting) (l : DiaryLine) (b : Bool) (r : Result CheckerValue AllocError)
    → d ≡ due.Noted old → MatchBool b (HasLine limits s log deleted old l new) (IsNoLine limits s log deleted old l)
    → IfOk r (λ to. GoesTo (ReadTo (held format limits s log deleted judged.Steps n told).judging new b) (held format limits s log deleted judged.Steps n told) to)
    → IfOk r (λ to. GoesTo (NotesBy (owed_of d live values) (held format limits s log deleted (owed_of d live values) n told).judging l) (held format limits s log deleted (owed_of d live values) n told) to)
line_noted format limits s log deleted d live values n told old new l b (Err x) e h g = tt
line_noted format limits s log deleted d live values n told old new l b (Ok to) e h g =
    subst (λ x. GoesTo (NotesBy (owed_of x live values) (held format limits s log deleted (owed_of x live values) n told).judging l) (held format limits s log deleted (owed_of x live values) n told) to) (sym e)
    (reads format limits s log deleted (judged.Noted old.cube old.start old.left old.lines) n told old new l b to h g)

-- lines are owed only of a diary
pub is_noted : (d : Due) (live : List LiveName) (values : List (ℕ × Value)) → IsOwedLines (owed_of d live values) → (m : Noting) × (d ≡ due.Noted m)
is_noted (due.Noted m) live values h = (m, refl)
is_noted due.Nothing live values h = absurd h
is_noted due.Steps live values h = absurd h
is_noted due.Values live values h = absurd (none (drop (length values) live) h) where
  none : (left : List LiveName) → IsOwedLines (values_owed left values) → ⊥
  none [] h = h
  none (next ∷ left) h = h
is_noted (due.Over r) live values h = absurd h

-- each of the three lines is one of a diary
module _ (c : CheckerValue) where
  pub takes : (o : Owed) (p : ℕ) (r : Result CheckerValue AllocError) → IsOwedLines o → IfOk r (λ d. GoesTo (NotesBy o c.judging (diary.Take p)) c d) → IfOk r (λ d. GoesTo (MovesBy o c.judging (Some (line.Take p))) c d)
  takes (judged.Noted cube start left lines) p r h g = g
  takes judged.Nothing p r h g = absurd h
  takes judged.Steps p r h g = absurd h
  takes (judged.Values next left values) p r h g = absurd h
  takes (judged.Over f) p r h g = absurd h

  pub puts : (o : Owed) (p : ℕ) (r : Result CheckerValue AllocError) → IsOwedLines o → IfOk r (λ d. GoesTo (NotesBy o c.judging (diary.Put p)) c d) → IfOk r (λ d. GoesTo (MovesBy o c.judging (Some (line.Put p))) c d)
  puts (judged.Noted cube start left lines) p r h g = g
  puts judged.Nothing p r h g = absurd h
  puts judged.Steps p r h g = absurd h
  puts (judged.Values next left values) p r h g = absurd h
  puts (judged.Over f) p r h g = absurd h

  pub drops : (o : Owed) (p : ℕ) (r : Result CheckerValue AllocError) → IsOwedLines o → IfOk r (λ d. GoesTo (NotesBy o c.judging (diary.Drop p)) c d) → IfOk r (λ d. GoesTo (MovesBy o c.judging (Some (line.Drop p))) c d)
  drops (judged.Noted cube start left lines) p r h g = g
  drops judged.Nothing p r h g = absurd h
  drops judged.Steps p r h g = absurd h
  drops (judged.Values next left values) p r h g = absurd h
  drops (judged.Over f) p r h g = absurd h

-- ---- the line that begins a diary

module _ (c d : CheckerValue) (cube start : ℕ) where
  -- no search of the cube may start there, or there is no line
  pub not_opened : (count : ℕ) → (count ≡ 0) ⊎ (IsSearch c.judging.limits c.judging.state c.judging.state.terms.nodes c.judging.log cube start → ⊥)
      → d ≡ judged_so c (refused c.judging rule.Diary) → GoesTo (Opens c.judging cube start count) c d
  not_opened count none e = subst (GoesTo (Opens c.judging cube start count) c) (sym e) (record { judged = go count none; verdicts = refl }) where
    go : (count : ℕ) → (count ≡ 0) ⊎ (IsSearch c.judging.limits c.judging.state c.judging.state.terms.nodes c.judging.log cube start → ⊥) → Opens c.judging cube start count (refused c.judging rule.Diary)
    go zero none = refl
    go (suc left) (inl z) = absurd (omega (arith, z))
    go (suc left) (inr other) = inr (other, refl)

  pub opened : (count : ℕ) (n : Noting) → IsSearch c.judging.limits c.judging.state c.judging.state.terms.nodes c.judging.log cube start → n.left + 1 ≡ count
      → n.cube ≡ cube → n.start ≡ start → n.lines ≡ [] → d ≡ judged_so c (judged.noted c.judging n.cube n.start n.left n.lines) → GoesTo (Opens c.judging cube start count) c d
  opened count n is more at from none e =
      let count_is : suc n.left ≡ count = omega (arith, more) in
      subst (λ k. GoesTo (Opens c.judging cube start k) c d) count_is
      (subst (GoesTo (Opens c.judging cube start (suc n.left)) c) (sym e)
      (record { judged = inl (is, same); verdicts = refl }))
    where
      same : judged.noted c.judging n.cube n.start n.left n.lines ≡ judged.noted c.judging cube start n.left []
      same = λ i. judged.noted c.judging (at i) (from i) n.left (none i)

-- a diary that was begun, or one line more of it, is one of the log at hand
pub noted_when : (limits : Limits) (s : StateValue) (log : List Entry) (deleted : List ℕ) (old new : Noting) (l : DiaryLine) (b : Bool) → MatchBool b (HasLine limits s log deleted old l new) (IsNoLine limits s log deleted old l) → b ≡ true → IsNoted limits s log deleted (due.Noted new)
noted_when limits s log deleted old new l true h e = h.noted
noted_when limits s log deleted old new l false h e = absurd (let f : ⊥ = cc in f)

-- a line that names a deleted place may not stand
pub names_line : (limits : Limits) (s : StateValue) (log : List Entry) (deleted : List ℕ) (old : Noting) (l : DiaryLine) → is_deleted deleted (place_of l) ≡ true → IsNoLine limits s log deleted old l
names_line limits s log deleted old l e = λ p. let other = p.0 in let f : ⊥ = cc in f

-- what the reader of a diary tells of a line that names no deleted place is told of the diary
module _ (limits : Limits) (s : StateValue) (log : FadedValue) (deleted : List ℕ) where
  abbrev about : ℕ → ℕ → Subject
  about cube start = subject_of limits s s.terms.nodes log.entries cube start

  abbrev MayFollow : Noting → DiaryLine → Type 0
  MayFollow old l = diaries.IsLine (about old.cube old.start) (lines_after (about old.cube old.start) (blank_without (is_deleted deleted) (about old.cube old.start)) old.lines) l

  pub line_told : (old new : Noting) (l : DiaryLine) (b : Bool) → AreLeft deleted old.lines → is_deleted deleted (place_of l) ≡ false
      → new.cube ≡ old.cube → new.start ≡ old.start → new.left ≡ old.left → new.lines ≡ old.lines ++ l ∷ []
      → MatchBool b (MayFollow old l × HasRead (is_deleted deleted) (about old.cube old.start) (old.lines ++ l ∷ []) new.reader) ((MayFollow old l → ⊥) × (new.reader ≡ old.reader))
      → MatchBool b (HasLine limits s log.entries deleted old l new) (IsNoLine limits s log.entries deleted old l)
  line_told old new l true before names cube start left lines h = record {
    cube = cube;
    start = start;
    left = left;
    lines = lines;
    noted = (
      subst (λ k. HasRead (is_deleted deleted) (about k new.start) new.lines new.reader) (sym cube)
          (subst (λ k. HasRead (is_deleted deleted) (about old.cube k) new.lines new.reader) (sym start)
          (subst (λ k. HasRead (is_deleted deleted) (about old.cube old.start) k new.reader) (sym lines) h.1)),
      subst (AreLeft deleted) (sym lines) (each_append (λ x. is_deleted deleted (place_of x) ≡ false) old.lines (l ∷ []) before (names, tt)),
    );
  }
  line_told old new l false before names cube start left lines h = λ p. h.0 p.1

-- whether lines that name no deleted place spent the budget
pub spent_told : (deleted : List ℕ) (g : Subject) (budget : ℕ) (lines : List DiaryLine) (b : Bool) → AreLeft deleted lines → MatchBool b (IsSpentFrom (blank_without (is_deleted deleted) g) g budget lines) (IsSpentFrom (blank_without (is_deleted deleted) g) g budget lines → ⊥)
    → MatchBool b (IsSpentWithout deleted g budget lines) (IsSpentWithout deleted g budget lines → ⊥)
spent_told deleted g budget lines true left h = record { spent = h; left = left }
spent_told deleted g budget lines false left h = λ s. h s.spent

-- ---- a line that was read

module _ (c : CheckerValue) (n : Noting) where
  pub read_refused : (b : Bool) (d : CheckerValue) → b ≡ false → d ≡ judged_so c (refused c.judging rule.Diary) → GoesTo (ReadTo c.judging n b) c d
  read_refused b d bad e = subst (λ x. GoesTo (ReadTo c.judging n x) c d) (sym bad) (subst (GoesTo (ReadTo c.judging n false) c) (sym e) (record { judged = refl; verdicts = refl }))

  pub read_on : (b : Bool) (d : CheckerValue) (m : Noting) → b ≡ true → m.left + 1 ≡ n.left → m.cube ≡ n.cube → m.start ≡ n.start → m.lines ≡ n.lines
      → d ≡ judged_so c (judged.noted c.judging m.cube m.start m.left m.lines) → GoesTo (ReadTo c.judging n b) c d
  read_on b d m good more at from same e =
      let left_is : suc m.left ≡ n.left = omega (arith, more) in
      subst (λ x. GoesTo (ReadTo c.judging n x) c d) (sym good)
      (subst (λ k. GoesTo (LinesTo c.judging n k) c d) left_is
      (subst (GoesTo (LinesTo c.judging n (suc m.left)) c) (sym e) (record { judged = λ i. judged.noted c.judging (at i) (from i) m.left (same i); verdicts = refl })))

  pub read_spent : (b : Bool) (r : Result CheckerValue AllocError) → b ≡ true → n.left ≡ 0 → IsSpentWithout c.judging.deleted (subject_at c.judging n.cube n.start) c.judging.limits.budget n.lines
      → IfOk r (λ d. d ≡ closed_with c verdict.Unknown) → IfOk r (λ d. GoesTo (ReadTo c.judging n b) c d)
  read_spent b (Err x) good last spent e = tt
  read_spent b (Ok d) good last spent e =
      subst (λ x. GoesTo (ReadTo c.judging n x) c d) (sym good)
      (subst (λ k. GoesTo (LinesTo c.judging n k) c d) (sym last)
      (subst (GoesTo (LinesTo c.judging n zero) c) (sym e) (record { judged = inl (spent, refl); verdicts = refl })))

  pub read_unspent : (b : Bool) (d : CheckerValue) → b ≡ true → n.left ≡ 0 → (IsSpentWithout c.judging.deleted (subject_at c.judging n.cube n.start) c.judging.limits.budget n.lines → ⊥)
      → d ≡ judged_so c (refused c.judging rule.Diary) → GoesTo (ReadTo c.judging n b) c d
  read_unspent b d good last unspent e =
      subst (λ x. GoesTo (ReadTo c.judging n x) c d) (sym good)
      (subst (λ k. GoesTo (LinesTo c.judging n k) c d) (sym last)
      (subst (GoesTo (LinesTo c.judging n zero) c) (sym e) (record { judged = inr (unspent, refl); verdicts = refl })))

-- the same lines, of which others are left, are noted too
pub noted_same : (limits : Limits) (s : StateValue) (log : List Entry) (deleted : List ℕ) (n m : Noting) → m.cube ≡ n.cube → m.start ≡ n.start → m.lines ≡ n.lines → m.reader ≡ n.reader → IsNoted limits s log deleted (due.Noted n) → IsNoted limits s log deleted (due.Noted m)
noted_same limits s log deleted n m cube start lines reader h = (
  subst (λ k. HasRead (is_deleted deleted) (subject_of limits s s.terms.nodes log k m.start) m.lines m.reader) (sym cube)
      (subst (λ k. HasRead (is_deleted deleted) (subject_of limits s s.terms.nodes log n.cube k) m.lines m.reader) (sym start)
      (subst (λ k. HasRead (is_deleted deleted) (subject_of limits s s.terms.nodes log n.cube n.start) k m.reader) (sym lines)
      (subst (HasRead (is_deleted deleted) (subject_of limits s s.terms.nodes log n.cube n.start) n.lines) (sym reader) h.0))),
  subst (AreLeft deleted) (sym lines) h.1,
)

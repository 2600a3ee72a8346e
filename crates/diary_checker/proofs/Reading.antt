-- Lines that are taken and refused, and what follows for the lines of a diary.
use Rattle.std.proofs.Common.{◌≡◌, ℕ, suc, ◌+◌, ◌-◌, ◌<◌, ◌≤◌, Bool, true, false, not, List, [], ◌∷◌, ◌++◌, length, take, Option, Some, None, refl, sym, ap, ◌∙◌, subst, arith, add-one}
use Rattle.std.specs.Prelude.{◌≢◌, ◌↔◌, ◌&&◌, ◌||◌, ltb, Contains, MatchBool, MatchResult, Result, Ok, Err}
use Rattle.std.proofs.Math.Bool.{and-false, or-true}
use Rattle.std.specs.Result.{IsErrAnd}
use Rattle.std.proofs.lemmas.Result.{err_from_is_err_and}
use Rattle.cnf_base.specs.Literals.{Literal}
use Rattle.cnf_base.specs.declared.clause.ClauseId.{ClauseId}
use Rattle.hint_chain.specs.Chains.{Lookup}
use Rattle.proof_log.specs.declared.entry.Entry.{Entry}
use Rattle.proof_log.specs.declared.entry.Entry.TheVariants as step
use Rattle.proof_log.specs.declared.diary.DiaryLine.{DiaryLine}
use Rattle.proof_log.specs.declared.diary.DiaryLine.TheVariants.{Take, Put, Drop}
use Rattle.proof_log.specs.Logs.{clause_at, entry_at}
use Rattle.faded_log.specs.Faded.{FadedValue}
use Rattle.proof_log.specs.Diaries.{Subject, DiaryState, look_of, is_chain, with_held, count_new, allowed, IsGoodPut, IsLine, line_after, lines_after, EndsInPut}
use Rattle.proof_text.specs.Deletions.{blank_without, is_deleted, IsSpentFrom}
use Rattle.proof_log.proofs.Lines.{are_lines_snoc, lines_after_snoc, ends_in_put}
use Rattle.diary_checker.specs.Tables.{IsSetOf, bit_in, filed_under}
use Rattle.diary_checker.specs.Uses.{AreFiled}
use Rattle.diary_checker.specs.Starts.{StartValue, is_at_start, IsStart, IsBroughtTo}
use Rattle.std.proofs.lemmas.List.{take_all}
use Rattle.diary_checker.specs.Readers.{ReaderValue, state_in, IsAbout, IsSetUp, HasRead, KeepsStart, is_put, IsTaken, IsDecided, IsUndecided}
use Rattle.diary_checker.proofs.Starting.{back_none, back_dropped}

-- ---- the start

pub look_is : (g : Subject) (log : FadedValue) → IsAbout g log → clause_at log.clauses ≡ look_of g
look_is g log about = ap clause_at about.clauses

pub filed_here : (g : Subject) (log : FadedValue) (r : ReaderValue) → IsAbout g log → IsSetUp g r → AreFiled (clause_at log.clauses) (bit_in r.held) r.filed
filed_here g log r about set_up = subst (λ (k : Lookup). AreFiled k (bit_in r.held) r.filed) (sym (look_is g log about)) set_up.filed

pub begun : (deleted : ℕ → Bool) (g : Subject) (log : FadedValue) (given : List Literal) (from : ℕ) (r : ReaderValue) → IsAbout g log → g.given ≡ given → g.from ≡ from → IsSetOf r.given given →
    ((p : ℕ) → bit_in r.held p ≡ (ltb p from && not (deleted p || is_chain (entry_at log.entries p)))) →
    AreFiled (clause_at log.clauses) (bit_in r.held) r.filed →
    r.chains ≡ 0 → r.puts ≡ 0 → r.drops ≡ 0 → r.ended ≡ false → r.from ≡ from → r.brought ≡ [] → HasRead deleted g [] r
begun deleted g log given from r about e f set held filed chains puts drops ended fr none = record {
  set_up = record { given = subst (IsSetOf r.given) (sym e) set; filed = subst (λ (k : Lookup). AreFiled k (bit_in r.held) r.filed) (look_is g log about) filed };
  stand = tt;
  state = λ i. record { held = λ p. same p i; chains = chains i; puts = puts i; drops = drops i };
  ended = ((λ h. let bad : false ≡ true = sym ended ∙ h in absurd (not_both bad)), (λ b. absurd b));
  from = fr ∙ sym f;
  back = subst (IsBroughtTo (blank_without deleted g).held (bit_in r.held)) (sym none) (back_none (blank_without deleted g).held (bit_in r.held) same);
}
  where
    not_both : false ≡ true → ⊥
    not_both h = cc

    same : (p : ℕ) → bit_in r.held p ≡ (ltb p g.from && not (deleted p || is_chain (entry_at g.log p)))
    same p = held p ∙ (ap (λ n. ltb p n && not (deleted p || is_chain (entry_at log.entries p))) (sym f) ∙ ap (λ l. ltb p g.from && not (deleted p || is_chain (entry_at l p))) about.entries)

-- ---- one line

module _ (g : Subject) (log : FadedValue) (at : ℕ) (old new : ReaderValue) (about : IsAbout g log) (set_up : IsSetUp g old) (given : new.given ≡ old.given) where
  still : (AreFiled (clause_at log.clauses) (bit_in old.held) old.filed → AreFiled (clause_at log.clauses) (bit_in new.held) new.filed) → IsSetUp g new
  still filed = record {
    given = subst (λ t. IsSetOf t g.given) (sym given) set_up.given;
    filed =
        subst (λ (k : Lookup). AreFiled k (bit_in new.held) new.filed) (look_is g log about)
        (filed (subst (λ (k : Lookup). AreFiled k (bit_in old.held) old.filed) (sym (look_is g log about)) set_up.filed));
  }

  pub take_taken : at ≤ length log.entries →
      ((p : ℕ) → bit_in new.held p ≡ with_held (bit_in old.held) at true p) →
      (AreFiled (clause_at log.clauses) (bit_in old.held) old.filed → AreFiled (clause_at log.clauses) (bit_in new.held) new.filed) →
      new.chains ≡ old.chains + count_new (is_chain (entry_at log.entries at)) (bit_in old.held at) → new.puts ≡ old.puts → new.drops ≡ 0 → new.ended ≡ false → KeepsStart g old new →
      IsTaken g old new (Take at)
  take_taken within held filed chains puts drops ended start = record {
    valid = subst (λ l. at ≤ length l) about.entries within;
    set_up = still filed;
    state = λ i. record { held = λ p. held p i; chains = chains' i; puts = puts i; drops = drops i };
    ended = ended;
    start = start;
  }
    where
      chains' : new.chains ≡ old.chains + count_new (is_chain (entry_at g.log at)) (bit_in old.held at)
      chains' = chains ∙ ap (λ l. old.chains + count_new (is_chain (entry_at l at)) (bit_in old.held at)) about.entries

  pub put_taken : (c : List Literal) (hints : List ClauseId) → entry_at log.entries at ≡ Some (step.Chain c hints) → IsGoodPut g (bit_in old.held) c hints →
      ((p : ℕ) → bit_in new.held p ≡ with_held (bit_in old.held) at true p) →
      (AreFiled (clause_at log.clauses) (bit_in old.held) old.filed → AreFiled (clause_at log.clauses) (bit_in new.held) new.filed) →
      new.chains ≡ old.chains + 1 → new.puts ≡ old.puts + 1 → new.drops ≡ allowed (old.puts + 1) (old.chains + 1) → new.ended ≡ true → KeepsStart g old new →
      IsTaken g old new (Put at)
  put_taken c hints is good held filed chains puts drops ended start = record {
    valid = (c, hints, subst (λ l. entry_at l at ≡ Some (step.Chain c hints)) about.entries is, good);
    set_up = still filed;
    state = λ i. record { held = λ p. held p i; chains = chains' i; puts = puts' i; drops = drops' i };
    ended = ended;
    start = start;
  }
    where
      chains' : new.chains ≡ suc old.chains
      chains' = chains ∙ add-one old.chains

      puts' : new.puts ≡ suc old.puts
      puts' = puts ∙ add-one old.puts

      drops' : new.drops ≡ allowed (suc old.puts) (suc old.chains)
      drops' = drops ∙ (ap (λ n. allowed n (old.chains + 1)) (add-one old.puts) ∙ ap (λ n. allowed (suc old.puts) n) (add-one old.chains))

  pub drop_taken : 0 < old.drops → bit_in old.held at ≡ true → is_chain (entry_at log.entries at) ≡ true →
      ((p : ℕ) → bit_in new.held p ≡ with_held (bit_in old.held) at false p) →
      (AreFiled (clause_at log.clauses) (bit_in old.held) old.filed → AreFiled (clause_at log.clauses) (bit_in new.held) new.filed) →
      new.chains ≡ old.chains - 1 → new.puts ≡ old.puts → new.drops ≡ old.drops - 1 → new.ended ≡ false → new.from ≡ old.from → new.brought ≡ old.brought →
      IsTaken g old new (Drop at)
  drop_taken some is_held chain held filed chains puts drops ended from brought = record {
    valid = (is_held, subst (λ l. is_chain (entry_at l at) ≡ true) about.entries chain, some);
    set_up = still filed;
    state = λ i. record { held = λ p. held p i; chains = chains i; puts = puts i; drops = drops i };
    ended = ended;
    start = record {
      from = from;
      back = λ start none h.
          subst (IsBroughtTo start (bit_in new.held)) (sym brought)
          (back_dropped start (bit_in old.held) (bit_in new.held) old.brought at (none at (subst (λ l. is_chain (entry_at l at) ≡ true) about.entries chain)) held h);
    };
  }

-- the same of what the reader was, which is that
pub at_old : (g : Subject) (v old new : ReaderValue) (l : DiaryLine) → v ≡ old → IsTaken g v new l → IsTaken g old new l
at_old g v old new l e t = subst (λ o. IsTaken g o new l) e t

-- ---- refused

pub take_refused : (g : Subject) (log : FadedValue) (at : ℕ) (old : ReaderValue) → IsAbout g log → suc (length log.entries) ≤ at → ¬ (IsLine g (state_in old) (Take at))
take_refused g log at old about past within =
    let within' : at ≤ length log.entries = subst (λ l. at ≤ length l) (sym about.entries) within in
    absurd (omega arith)

pub put_refused : (g : Subject) (log : FadedValue) (at : ℕ) (old : ReaderValue) → IsAbout g log → ((c : List Literal) (hints : List ClauseId) → entry_at log.entries at ≢ Some (step.Chain c hints)) → ¬ (IsLine g (state_in old) (Put at))
put_refused g log at old about none p = none p.0 p.1 (subst (λ l. entry_at l at ≡ Some (step.Chain p.0 p.1)) (sym about.entries) p.2)

same_step : (o : Option Entry) (c c' : List Literal) (hints hints' : List ClauseId) → o ≡ Some (step.Chain c hints) → o ≡ Some (step.Chain c' hints') → (c ≡ c') × (hints ≡ hints')
same_step o c c' hints hints' e f = (cc, cc)

pub put_not_good : (g : Subject) (log : FadedValue) (at : ℕ) (v old : ReaderValue) (c : List Literal) (hints : List ClauseId) → v ≡ old → IsAbout g log → entry_at log.entries at ≡ Some (step.Chain c hints) → ¬ (IsGoodPut g (bit_in v.held) c hints) → ¬ (IsLine g (state_in old) (Put at))
put_not_good g log at v old c hints e about is bad p =
    let at_g = subst (λ l. entry_at l at ≡ Some (step.Chain c hints)) about.entries is in
    let same = same_step (entry_at g.log at) p.0 c p.1 hints p.2 at_g in
    let good = subst (λ hs. IsGoodPut g (bit_in old.held) c hs) same.1 (subst (λ d. IsGoodPut g (bit_in old.held) d p.1) same.0 p.3) in
    bad (subst (λ (o : ReaderValue). IsGoodPut g (bit_in o.held) c hints) (sym e) good)

no_chain : (o : Option Entry) → ((c : List Literal) (hints : List ClauseId) → o ≢ Some (step.Chain c hints)) → is_chain o ≡ true → ⊥
no_chain None none e = cc
no_chain (Some (step.Node n)) none e = cc
no_chain (Some (step.Leaf t)) none e = cc
no_chain (Some (step.Encode t)) none e = cc
no_chain (Some (step.Selector a t)) none e = cc
no_chain (Some (step.Chain c hints)) none e = none c hints refl
no_chain (Some (step.Rewrite u)) none e = cc
no_chain (Some (step.Equal s t)) none e = cc
no_chain (Some (step.Lemma l)) none e = cc

pub drop_refused : (g : Subject) (log : FadedValue) (at : ℕ) (old : ReaderValue) → IsAbout g log → ((c : List Literal) (hints : List ClauseId) → entry_at log.entries at ≢ Some (step.Chain c hints)) → ¬ (IsLine g (state_in old) (Drop at))
drop_refused g log at old about none p = no_chain (entry_at log.entries at) none (subst (λ l. is_chain (entry_at l at) ≡ true) (sym about.entries) p.1)

-- ---- memory was wanting

-- what is said of an error holds where one is answered
pub wanting : {E P : Type 0} (F : Bool → Type 0) (Q : E → Type 0) (r : Result Bool E) → IsErrAnd r Q → P → MatchResult r F (λ e. P)
wanting F Q r is p = let q = err_from_is_err_and r is in rw q.1 p

keeps_same : (g : Subject) (r : ReaderValue) → KeepsStart g r r
keeps_same g r = record { from = refl; back = λ start none h. h }

-- the reader is what it was
pub undecided_same : (g : Subject) (v old : ReaderValue) → v ≡ old → IsSetUp g old → IsUndecided g old v
undecided_same g v old e h = record {
  set_up = subst (IsSetUp g) (sym e) h;
  state = ap state_in e;
  ended = ap (λ (r : ReaderValue). r.ended) e;
  start = subst (λ (r : ReaderValue). KeepsStart g r v) e (keeps_same g v);
}

-- the start stays, and is found again
pub keeps_start : (g : Subject) (old new : ReaderValue) → new.from ≡ old.from → ((start : ℕ → Bool) → IsBroughtTo start (bit_in old.held) old.brought → IsBroughtTo start (bit_in new.held) new.brought) → KeepsStart g old new
keeps_start g old new from back = record { from = from; back = λ start none h. back start h }

-- no position came or went, and what was filed stays
pub undecided_held : (g : Subject) (v old new : ReaderValue) → v ≡ old → IsSetUp g old → new.given ≡ v.given → ((p : ℕ) → bit_in new.held p ≡ bit_in v.held p) →
    ((k : Option Literal) (i : ClauseId) → Contains (filed_under v.filed k) i → Contains (filed_under new.filed k) i) →
    new.chains ≡ v.chains → new.puts ≡ v.puts → new.drops ≡ v.drops → new.ended ≡ v.ended → KeepsStart g v new → IsUndecided g old new
undecided_held g v old new e h given held kept chains puts drops ended start =
    subst (λ (o : ReaderValue). IsUndecided g o new) e
    (record {
      set_up = record { given = subst (λ t. IsSetOf t g.given) (sym given) before.given; filed = filed };
      state = λ i. record { held = λ p. held p i; chains = chains i; puts = puts i; drops = drops i };
      ended = ended;
      start = start;
    })
  where
    before : IsSetUp g v
    before = subst (IsSetUp g) (sym e) h

    filed : AreFiled (look_of g) (bit_in new.held) new.filed
    filed id c is_held is = let f = before.filed id c (sym (held id.pos) ∙ is_held) is in (f.0, f.1, kept f.0 id f.2)

-- ---- the lines of a diary

ends_not_take : (ls : List DiaryLine) (p : ℕ) → EndsInPut (ls ++ Take p ∷ []) → ⊥
ends_not_take [] p h = h
ends_not_take (Take q ∷ []) p h = h
ends_not_take (Put q ∷ []) p h = h
ends_not_take (Drop q ∷ []) p h = h
ends_not_take (Take q ∷ m ∷ ls) p h = ends_not_take (m ∷ ls) p h
ends_not_take (Put q ∷ m ∷ ls) p h = ends_not_take (m ∷ ls) p h
ends_not_take (Drop q ∷ m ∷ ls) p h = ends_not_take (m ∷ ls) p h

ends_not_drop : (ls : List DiaryLine) (p : ℕ) → EndsInPut (ls ++ Drop p ∷ []) → ⊥
ends_not_drop [] p h = h
ends_not_drop (Take q ∷ []) p h = h
ends_not_drop (Put q ∷ []) p h = h
ends_not_drop (Drop q ∷ []) p h = h
ends_not_drop (Take q ∷ m ∷ ls) p h = ends_not_drop (m ∷ ls) p h
ends_not_drop (Put q ∷ m ∷ ls) p h = ends_not_drop (m ∷ ls) p h
ends_not_drop (Drop q ∷ m ∷ ls) p h = ends_not_drop (m ∷ ls) p h

ends : (ls : List DiaryLine) (l : DiaryLine) (b : Bool) → b ≡ is_put l → (b ≡ true) ↔ EndsInPut (ls ++ l ∷ [])
ends ls (Take p) b e = ((λ h. let f : false ≡ true = sym e ∙ h in let g : ⊥ = cc in absurd g), (λ h. absurd (ends_not_take ls p h)))
ends ls (Put p) b e = ((λ h. ends_in_put ls p), (λ h. e))
ends ls (Drop p) b e = ((λ h. let f : false ≡ true = sym e ∙ h in let g : ⊥ = cc in absurd g), (λ h. absurd (ends_not_drop ls p h)))

-- no chain's position is held at the start
none_of_chains : (deleted : ℕ → Bool) (g : Subject) (p : ℕ) → is_chain (entry_at g.log p) ≡ true → (blank_without deleted g).held p ≡ false
none_of_chains deleted g p e = ap (λ b. ltb p g.from && not (deleted p || b)) e ∙ (ap (λ b. ltb p g.from && not b) (or-true (deleted p)) ∙ and-false (ltb p g.from))

pub read_more : (deleted : ℕ → Bool) (g : Subject) (lines : List DiaryLine) (old new : ReaderValue) (l : DiaryLine) → HasRead deleted g lines old → IsTaken g old new l → IsLine g (lines_after g (blank_without deleted g) lines) l × HasRead deleted g (lines ++ l ∷ []) new
read_more deleted g lines old new l r t =
    let valid = subst (λ (s : DiaryState). IsLine g s l) r.state t.valid in (
      valid,
      record {
        set_up = t.set_up;
        stand = are_lines_snoc g (blank_without deleted g) lines l r.stand valid;
        state = t.state ∙ (ap (λ (s : DiaryState). line_after g s l) r.state ∙ sym (lines_after_snoc g (blank_without deleted g) lines l));
        ended = ends lines l new.ended t.ended;
        from = t.start.from ∙ r.from;
        back = t.start.back (blank_without deleted g).held (none_of_chains deleted g) r.back;
      },
    )

pub read_line : {E : Type 0} (deleted : ℕ → Bool) (g : Subject) (lines : List DiaryLine) (old new : ReaderValue) (l : DiaryLine) (r : Result Bool E) → HasRead deleted g lines old → MatchResult r (IsDecided g old new l) (λ e. IsUndecided g old new) →
    MatchResult r (λ taken. MatchBool taken (IsLine g (lines_after g (blank_without deleted g) lines) l × HasRead deleted g (lines ++ l ∷ []) new) ((¬ (IsLine g (lines_after g (blank_without deleted g) lines) l)) × (new ≡ old))) (λ e. HasRead deleted g lines new)
read_line deleted g lines old new l (Ok true) read h = read_more deleted g lines old new l read h
read_line deleted g lines old new l (Ok false) read h = ((λ k. h.invalid (subst (λ (s : DiaryState). IsLine g s l) (sym read.state) k)), h.same)
read_line deleted g lines old new l (Err e) read h = record {
  set_up = h.set_up;
  stand = read.stand;
  state = h.state ∙ read.state;
  ended = subst (λ (b : Bool). (b ≡ true) ↔ EndsInPut lines) (sym h.ended) read.ended;
  from = h.start.from ∙ read.from;
  back = h.start.back (blank_without deleted g).held (none_of_chains deleted g) read.back;
}

-- ---- the budget

pub is_spent : (deleted : ℕ → Bool) (g : Subject) (lines : List DiaryLine) (r : ReaderValue) (budget : ℕ) → HasRead deleted g lines r → r.ended ≡ true → r.puts ≡ suc budget → IsSpentFrom (blank_without deleted g) g budget lines
is_spent deleted g lines r budget read ended puts = record {
  stand = read.stand;
  puts = sym (ap (λ (s : DiaryState). s.puts) read.state) ∙ puts;
  last = read.ended.0 ended;
}

pub spent_ended : (deleted : ℕ → Bool) (g : Subject) (lines : List DiaryLine) (r : ReaderValue) (budget : ℕ) → HasRead deleted g lines r → IsSpentFrom (blank_without deleted g) g budget lines → r.ended ≡ true
spent_ended deleted g lines r budget read s = read.ended.1 s.last

pub spent_puts : (deleted : ℕ → Bool) (g : Subject) (lines : List DiaryLine) (r : ReaderValue) (budget : ℕ) → HasRead deleted g lines r → IsSpentFrom (blank_without deleted g) g budget lines → r.puts ≡ suc budget
spent_puts deleted g lines r budget read s = ap (λ (t : DiaryState). t.puts) read.state ∙ s.puts

-- ---- the end

-- what was brought is given up, so what is held is what was held at the start
pub ended_start : (places : List ℕ) (g : Subject) (lines : List DiaryLine) (r : ReaderValue) (log : FadedValue) (s : StartValue) → IsAbout g log → HasRead (is_deleted places) g lines r → s.known ≡ length places → s.from ≡ r.from →
    r.from ≤ suc (length log.entries) →
    ((start : ℕ → Bool) → IsBroughtTo start (bit_in r.held) r.brought → (p : ℕ) → bit_in s.held p ≡ start p) →
    (AreFiled (clause_at log.clauses) (bit_in r.held) r.filed → AreFiled (clause_at log.clauses) (bit_in s.held) s.filed) → IsStart places log s
ended_start places g lines r log s about read known from within held filed = record {
  within = omega (arith, from, within);
  known = omega (arith, known);
  held = λ p. held (blank_without (is_deleted places) g).held read.back p ∙ same p;
  filed = filed (filed_here g log r about read.set_up);
}
  where
    all : take s.known places ≡ places
    all = take_all s.known places (omega (arith, known))

    same : (p : ℕ) → (blank_without (is_deleted places) g).held p ≡ is_at_start (is_deleted (take s.known places)) log.entries s.from p
    same p =
        ap (λ n. ltb p n && not (is_deleted places p || is_chain (entry_at g.log p))) (sym (from ∙ read.from))
        ∙ (ap (λ l. ltb p s.from && not (is_deleted places p || is_chain (entry_at l p))) (sym about.entries)
        ∙ ap (λ ps. ltb p s.from && not (is_deleted ps p || is_chain (entry_at log.entries p))) (sym all))

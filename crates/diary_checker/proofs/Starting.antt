-- What is held at the start of diaries, and how it is found again behind the lines of one.
use Rattle.std.proofs.Common.{◌≡◌, ℕ, suc, ◌+◌, ◌<◌, ◌≤◌, Bool, true, false, not, List, [], ◌∷◌, ◌++◌, length, take, drop, get_or, Result, Ok, Err, refl, sym, ap, ◌∙◌, subst, inl, inr, ⊎_elim, add-one, length-append, length-drop, ◌-◌, arith}
use Rattle.std.specs.Prelude.{◌⊎◌, ◌&&◌, ◌||◌, ◌==◌, ltb, if◌then◌else◌, Contains, slice_get, OnOk, OnErr}
use Rattle.std.proofs.Math.Bool.{and-false, or-false, or-true}
use Rattle.std.proofs.Math.ListN.{drop_of_length-le}
use Rattle.std.proofs.Math.Seq.{drop-cons}
use Rattle.std.proofs.lemmas.Bool.{cases_eq, cases_lt, eq-eqb, ne_eqb, and_parts, le-ltb, ltb-true}
use Rattle.std.proofs.lemmas.List.{take-append-drop, take-append-le, take_all}
use Rattle.std.proofs.lemmas.List.Elements.{Contains-append_left, Contains-append_right, Contains-append_cases, Contains-push, Contains-push_cases}
use Rattle.std.proofs.lemmas.List.Folds.{list_any-append, list_any_more}
use Rattle.cnf_base.specs.Literals.{Literal}
use Rattle.cnf_base.specs.declared.clause.ClauseId.{ClauseId}
use Rattle.hint_chain.specs.Chains.{Lookup}
use Rattle.cnf_base.proofs.Lists.{slice_get-append_left}
use Rattle.proof_log.specs.declared.entry.Entry.{Entry}
use Rattle.proof_log.specs.Logs.{clause_at, clause_in, entry_at}
use Rattle.faded_log.specs.Faded.{FadedValue}
use Rattle.proof_log.specs.Diaries.{is_chain, with_held}
use Rattle.proof_log.proofs.Growth.{entry_left}
use Rattle.proof_text.specs.Deletions.{is_deleted}
use Rattle.diary_checker.specs.Tables.{bit_in}
use Rattle.diary_checker.specs.Uses.{AreFiled}
use Rattle.diary_checker.specs.Starts.{StartValue, is_at_start, IsStart, IsBroughtTo}

-- ---- one position that comes or goes

here : (held : ℕ → Bool) (at : ℕ) (b : Bool) (p : ℕ) → p ≡ at → with_held held at b p ≡ b
here held at b p e = ap (λ t. if t then b else held p) (eq-eqb p at e)

elsewhere : (held : ℕ → Bool) (at : ℕ) (b : Bool) (p : ℕ) → (p ≡ at → ⊥) → with_held held at b p ≡ held p
elsewhere held at b p ne = ap (λ t. if t then b else held p) (ne_eqb p at ne)

none_in : {A : Type 0} (x : A) → Contains [] x → ⊥
none_in x c = omega (arith, c.1)

only : (x y : ℕ) → Contains (x ∷ []) y → x ≡ y
only x y c = ⊎_elim (λ none. absurd (none_in y none)) (λ same. same) (Contains-push_cases [] x y c)

module _ (start held : ℕ → Bool) where
  -- nothing was brought
  pub back_none : ((p : ℕ) → held p ≡ start p) → IsBroughtTo start held []
  back_none h = record { new = λ p c. absurd (none_in p c); rest = λ p. inr (h p) }

  -- a position that is not held was not held at the start
  pub start_new : (brought : List ℕ) (at : ℕ) → IsBroughtTo start held brought → held at ≡ false → start at ≡ false
  start_new brought at h f = ⊎_elim (λ c. h.new at c) (λ e. sym e ∙ f) (h.rest at)

module _ (start held now : ℕ → Bool) (brought : List ℕ) where
  pub back_same : ((p : ℕ) → now p ≡ held p) → IsBroughtTo start held brought → IsBroughtTo start now brought
  back_same same h = record { new = h.new; rest = λ p. ⊎_elim (λ c. inl c) (λ e. inr (same p ∙ e)) (h.rest p) }

  -- one position more, which was not held
  pub back_pushed : (at : ℕ) → held at ≡ false → ((p : ℕ) → (p ≡ at → ⊥) → now p ≡ held p) → IsBroughtTo start held brought → IsBroughtTo start now (brought ++ at ∷ [])
  back_pushed at f others h = record { new = new; rest = rest }
    where
      new : (p : ℕ) → Contains (brought ++ at ∷ []) p → start p ≡ false
      new p c = ⊎_elim (λ old. h.new p old) (λ same. subst (λ q. start q ≡ false) same (start_new start held brought at h f)) (Contains-push_cases brought at p c)

      rest : (p : ℕ) → Contains (brought ++ at ∷ []) p ⊎ (now p ≡ start p)
      rest p =
          ⊎_elim
          (λ e. inl (subst (Contains (brought ++ at ∷ [])) (sym e) (Contains-push brought at)))
          (λ ne. ⊎_elim (λ c. inl (Contains-append_left brought (at ∷ []) p c)) (λ e. inr (others p ne ∙ e)) (h.rest p))
          (cases_eq p at)

  pub back_brought : (at : ℕ) → held at ≡ false → ((p : ℕ) → now p ≡ with_held held at true p) → IsBroughtTo start held brought → IsBroughtTo start now (brought ++ at ∷ [])
  back_brought at f w h = back_pushed at f (λ p ne. w p ∙ elsewhere held at true p ne) h

  -- one position less, which was not held at the start
  pub back_dropped : (at : ℕ) → start at ≡ false → ((p : ℕ) → now p ≡ with_held held at false p) → IsBroughtTo start held brought → IsBroughtTo start now brought
  back_dropped at f w h = record { new = h.new; rest = rest }
    where
      rest : (p : ℕ) → Contains brought p ⊎ (now p ≡ start p)
      rest p =
          ⊎_elim
          (λ e. inr (w p ∙ (here held at false p e ∙ sym (ap start e ∙ f))))
          (λ ne. ⊎_elim (λ c. inl c) (λ e. inr (w p ∙ (elsewhere held at false p ne ∙ e))) (h.rest p))
          (cases_eq p at)

-- ---- what was brought is given up, one after the other

tail_back : (start held now : ℕ → Bool) (x : ℕ) (xs : List ℕ) → ((p : ℕ) → now p ≡ with_held held x false p) → IsBroughtTo start held (x ∷ xs) → IsBroughtTo start now xs
tail_back start held now x xs w h = record { new = λ p c. h.new p (Contains-append_right (x ∷ []) xs p c); rest = rest }
  where
    first : Contains (x ∷ xs) x
    first = Contains-append_left (x ∷ []) xs x (Contains-push [] x)

    rest : (p : ℕ) → Contains xs p ⊎ (now p ≡ start p)
    rest p =
        ⊎_elim
        (λ e. inr (w p ∙ (here held x false p e ∙ sym (ap start e ∙ h.new x first))))
        (λ ne.
        ⊎_elim
        (λ c. ⊎_elim (λ one. absurd (ne (sym (only x p one)))) (λ more. inl more) (Contains-append_cases (x ∷ []) xs p c))
        (λ e. inr (w p ∙ (elsewhere held x false p ne ∙ e)))
        (h.rest p))
        (cases_eq p x)

pub back_less : (start held now : ℕ → Bool) (brought : List ℕ) (k x : ℕ) → k < length brought → x ≡ get_or brought k x → ((p : ℕ) → now p ≡ with_held held x false p) → IsBroughtTo start held (drop k brought) → IsBroughtTo start now (drop (k + 1) brought)
back_less start held now brought k x lt e w h =
    let split : drop k brought ≡ x ∷ drop (suc k) brought = drop-cons brought k x lt ∙ ap (λ y. y ∷ drop (suc k) brought) (sym e) in
    subst (λ n. IsBroughtTo start now (drop n brought)) (sym (add-one k)) (tail_back start held now x (drop (suc k) brought) w (subst (IsBroughtTo start held) split h))

pub back_all : (start held : ℕ → Bool) (brought : List ℕ) (k : ℕ) → length brought ≤ k → IsBroughtTo start held (drop k brought) → (p : ℕ) → held p ≡ start p
back_all start held brought k le h p =
    let left = subst (IsBroughtTo start held) (drop_of_length-le brought le) h in
    ⊎_elim (λ c. absurd (none_in p c)) (λ e. e) (left.rest p)

-- ---- places that are left out

pub out_none : (held : ℕ → Bool) (places : List ℕ) (p : ℕ) → held p ≡ (held p && not (is_deleted (take 0 places) p))
out_none held places p = kept (held p)
  where
    kept : (b : Bool) → b ≡ (b && true)
    kept true = refl
    kept false = refl

pub out_more : (first held now : ℕ → Bool) (places : List ℕ) (k x : ℕ) → k < length places → x ≡ get_or places k x → ((p : ℕ) → held p ≡ (first p && not (is_deleted (take k places) p))) → ((p : ℕ) → now p ≡ with_held held x false p) →
    (p : ℕ) → now p ≡ (first p && not (is_deleted (take (k + 1) places) p))
out_more first held now places k x lt e h w p =
    let more : is_deleted (take (k + 1) places) p ≡ (is_deleted (take k places) p || (x == p)) =
    list_any_more (λ q. q == p) places k x lt ∙ ap (λ y. is_deleted (take k places) p || (y == p)) (sym e) in
    ⊎_elim
    (λ same.
    let out : is_deleted (take (k + 1) places) p ≡ true = more ∙ (ap (λ b. is_deleted (take k places) p || b) (eq-eqb x p (sym same)) ∙ or-true (is_deleted (take k places) p)) in
    w p ∙ (here held x false p same ∙ sym (ap (λ b. first p && not b) out ∙ and-false (first p))))
    (λ ne.
    let still : is_deleted (take (k + 1) places) p ≡ is_deleted (take k places) p =
    more ∙ (ap (λ b. is_deleted (take k places) p || b) (ne_eqb x p (λ f. ne (sym f))) ∙ or-false (is_deleted (take k places) p)) in
    w p ∙ (elsewhere held x false p ne ∙ (h p ∙ sym (ap (λ b. first p && not b) still))))
    (cases_eq p x)

-- what stands behind so many places, cut to its own length
pub rest_all : (places : List ℕ) (known : ℕ) → take (length places - known) (drop known places) ≡ drop known places
rest_all places known = let n = length-drop known places in take_all (length places - known) (drop known places) (omega (arith, n))

split_out : (l a b c : Bool) → ((l && not (a || c)) && not b) ≡ (l && not ((a || b) || c))
split_out false a b c = refl
split_out true true b c = refl
split_out true false true true = refl
split_out true false true false = refl
split_out true false false true = refl
split_out true false false false = refl

pub moved_out : (places : List ℕ) (known : ℕ) (deleted : ℕ → Bool) (l c old now : Bool) (p : ℕ) → deleted p ≡ is_deleted places p →
    old ≡ (l && not (is_deleted (take known places) p || c)) → now ≡ (old && not (is_deleted (drop known places) p)) → now ≡ (l && not (deleted p || c))
moved_out places known deleted l c old now p same h e =
    let whole : is_deleted places p ≡ (is_deleted (take known places) p || is_deleted (drop known places) p) =
    ap (λ ps. is_deleted ps p) (sym (take-append-drop known places)) ∙ list_any-append (λ q. q == p) (take known places) (drop known places) in
    e
    ∙ (ap (λ b. b && not (is_deleted (drop known places) p)) h
    ∙ (split_out l (is_deleted (take known places) p) (is_deleted (drop known places) p) c ∙ ap (λ b. l && not (b || c)) (sym (same ∙ whole))))

pub filed_fewer : (look : Lookup) (old now out : ℕ → Bool) (lists : List (List ClauseId)) → ((p : ℕ) → now p ≡ (old p && out p)) → AreFiled look old lists → AreFiled look now lists
filed_fewer look old now out lists e h id c held is = h id c ((and_parts (old id.pos) (out id.pos) (sym (e id.pos) ∙ held)).0) is

-- one position more, which was not held, or the same where memory was wanting
pub back_held : {E : Type 0} (r : Result (Unit {0}) E) (start held now : ℕ → Bool) (brought : List ℕ) (at : ℕ) → held at ≡ false → OnOk r ((p : ℕ) → now p ≡ with_held held at true p) → OnErr r ((p : ℕ) → now p ≡ held p) →
    IsBroughtTo start held brought → IsBroughtTo start now (brought ++ at ∷ [])
back_held (Ok u) start held now brought at f ok err h = back_brought start held now brought at f ok h
back_held (Err e) start held now brought at f ok err h = back_pushed start held now brought at f (λ p ne. err p) h

-- ---- the start of no log

pub start_none : (deleted : List ℕ) (log : FadedValue) (s : StartValue) → s.from ≡ 0 → s.known ≡ 0 → ((p : ℕ) → bit_in s.held p ≡ false) → IsStart deleted log s
start_none deleted log s from known none = record {
  within = omega (arith, from);
  known = omega (arith, known);
  held = λ p.
      none p ∙ sym (ap (λ b. b && not (is_deleted (take s.known deleted) p || is_chain (entry_at log.entries p))) (le-ltb p s.from (omega (arith, from))));
  filed = λ id c held is. absurd (never (sym held ∙ none id.pos));
}
  where
    never : true ≡ false → ⊥
    never e = cc

-- ---- over a log that grew, and where more places are deleted

pub start_longer : (deleted : List ℕ) (log longer : FadedValue) (more : List Entry) (rows : List (List (List Literal))) (s : StartValue) → longer.entries ≡ log.entries ++ more → longer.clauses ≡ log.clauses ++ rows →
    length log.clauses ≡ suc (length log.entries) → IsStart deleted log s → IsStart deleted longer s
start_longer deleted log longer more rows s entries clauses positions h = record {
  within = let n : length longer.entries ≡ length log.entries + length more = ap length entries ∙ length-append log.entries more in omega (arith, h.within, n);
  known = h.known;
  held = λ p. h.held p ∙ same p;
  filed = λ id c held is. h.filed id c held (sym (at id (before id.pos held)) ∙ is);
}
  where
    out : ℕ → Bool
    out = is_deleted (take s.known deleted)

    same : (p : ℕ) → is_at_start out log.entries s.from p ≡ is_at_start out longer.entries s.from p
    same p =
        ⊎_elim
        (λ lt.
        let stays : entry_at longer.entries p ≡ entry_at log.entries p = ap (λ l. entry_at l p) entries ∙ entry_left log.entries more p (omega (arith, lt, h.within)) in
        ap (λ o. ltb p s.from && not (out p || is_chain o)) (sym stays))
        (λ le.
        ap (λ b. b && not (out p || is_chain (entry_at log.entries p))) (le-ltb p s.from le)
        ∙ sym (ap (λ b. b && not (out p || is_chain (entry_at longer.entries p))) (le-ltb p s.from le)))
        (cases_lt p s.from)

    before : (p : ℕ) → bit_in s.held p ≡ true → p < s.from
    before p held = ltb-true p s.from ((and_parts (ltb p s.from) (not (out p || is_chain (entry_at log.entries p))) (sym (h.held p) ∙ held)).0)

    at : (id : ClauseId) → id.pos < s.from → clause_at longer.clauses id ≡ clause_at log.clauses id
    at id lt =
        let within : id.pos < length log.clauses = omega (arith, lt, h.within, positions) in
        ap (λ o. clause_in o id.part) (ap (λ rs. slice_get rs id.pos) clauses ∙ slice_get-append_left log.clauses rows id.pos within)

pub start_deleted : (deleted more : List ℕ) (log : FadedValue) (s : StartValue) → IsStart deleted log s → IsStart (deleted ++ more) log s
start_deleted deleted more log s h = record {
  within = h.within;
  known = let n = length-append deleted more in omega (arith, h.known, n);
  held = λ p. h.held p ∙ ap (λ ps. is_at_start (is_deleted ps) log.entries s.from p) (sym (take-append-le s.known deleted more h.known));
  filed = h.filed;
}

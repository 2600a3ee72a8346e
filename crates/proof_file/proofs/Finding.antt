-- What is found one after the other is all that a record needs.
use Rattle.std.proofs.Common.{◌≡◌, ℕ, zero, suc, ◌+◌, ◌<◌, ◌≤◌, List, [], ◌∷◌, ◌++◌, length, map, take, get_or, Option, Some, None, refl, sym, ap, ◌∙◌, subst, arith, inl, inr, ⊎_elim}
use Rattle.std.specs.Prelude.{◌⊎◌, ◌==◌, true, false, All, AllPairs, Contains, slice_get}
use Rattle.std.specs.List.Sorted.{IsPermutation, IsNonDecreasing}
use Rattle.std.proofs.lemmas.Bool.{cases_lt}
use Rattle.std.proofs.lemmas.List.{take_more, map-append}
use Rattle.std.proofs.lemmas.List.Elements.{Contains-get_or, Contains-append_left, Contains-append_right, Contains-append_cases, Contains-push_cases}
use Rattle.std.proofs.lemmas.List.Sorted.{All-permutation, Contains-permutation}
use Rattle.std.proofs.lemmas.Map.Keys.{IsDistinct-IsPermutation}
use Rattle.std.proofs.lemmas.Option.{slice_get-get_or, slice_get_within, get_or_from_slice_get}
use Rattle.cnf_base.specs.Literals.{Literal}
use Rattle.cnf_base.specs.declared.clause.ClauseId.{ClauseId}
use Rattle.cnf_base.proofs.Lists.{Contains-nil, Contains-first, Contains-later, Contains-one, Contains-slice_get, Contains-map}
use Rattle.variable_list.specs.Variables.{IsListed, IsOnce}
use Rattle.variable_list.proofs.Listing.{listed_here}
use Rattle.term_reach.proofs.Tables.{once_few}
use Rattle.term_reach.proofs.Rising.{equal_flips, sorted_rises, all_apart, Rises}
use Rattle.proof_log.specs.declared.entry.Entry.{Entry}
use Rattle.proof_log.specs.declared.entry.Entry.TheVariants as step
use Rattle.proof_log.specs.declared.diary.DiaryLine.{DiaryLine}
use Rattle.proof_log.specs.Logs.{entry_at}
use Rattle.proof_text.specs.Deletions.{is_deletable, place_of}
use Rattle.proof_text.specs.declared.record.Record.{Record}
use Rattle.proof_text.specs.declared.record.Record.TheVariants.{Sat, Unsat, Unknown}
use Rattle.proof_file.specs.Needed.{IsDerived, Names, Cites, IsWay, IsNeeded, AreRising, AreNeeded}
use Rattle.proof_file.specs.Finding.{IsWanted, AreFound, hint_positions, cited_by, named_by, IsSearch}

-- ---- lists

at_contained : (xs : List ℕ) (x : ℕ) → Contains xs x → (k : ℕ) × (slice_get xs k ≡ Some x)
at_contained xs x c = (c.0, slice_get-get_or xs c.0 x c.1 ∙ ap Some c.2)

stays_contained : (old new : List ℕ) → ((k x : ℕ) → slice_get old k ≡ Some x → slice_get new k ≡ Some x) → (x : ℕ) → Contains old x → Contains new x
stays_contained old new stays x c = let at = at_contained old x c in Contains-slice_get new at.0 x (stays at.0 x at.1)

unmapped_at : {A : Type 0} (f : A → ℕ) (xs : List A) (k y : ℕ) → k < length (map f xs) → get_or (map f xs) k y ≡ y → (x : A) × Contains xs x × (f x ≡ y)
unmapped_at f [] k y lt e = absurd (omega (arith, lt))
unmapped_at f (x ∷ xs) zero y lt e = (x, Contains-first x xs, e)
unmapped_at f (x ∷ xs) (suc k) y lt e = let h = unmapped_at f xs k y (omega (arith, lt)) e in (h.0, Contains-later x h.0 xs h.1, h.2)

unmapped : {A : Type 0} (f : A → ℕ) (xs : List A) (y : ℕ) → Contains (map f xs) y → (x : A) × Contains xs x × (f x ≡ y)
unmapped f xs y c = unmapped_at f xs c.0 y c.1 c.2

past_end : (xs : List ℕ) (k : ℕ) → None ≡ slice_get xs k → length xs ≤ k
past_end xs k e = ⊎_elim
    (λ lt. (let q : None ≡ Some (get_or xs k 0) = e ∙ slice_get-get_or xs k 0 lt in let f : ⊥ = cc in absurd f))
    (λ le. le)
    (cases_lt k (length xs))

-- ---- one call after the other

module _ (log : List Entry) (places : ℕ → ℕ) where
  pub found_none : (ps found : List ℕ) → ((x : ℕ) → Contains ps x → IsWanted log places x → ⊥) → AreFound log places ps found found
  found_none ps found none = record { stays = λ k x e. e; only = λ x c. inl c; all = λ x c w. absurd (none x c w) }

  pub found_nothing : (found : List ℕ) → AreFound log places [] found found
  found_nothing found = found_none [] found (λ x c w. Contains-nil x c)

  -- the position is not wanted
  pub found_not : (p : ℕ) (found : List ℕ) → (IsWanted log places p → ⊥) → AreFound log places (p ∷ []) found found
  found_not p found not = found_none (p ∷ []) found (λ x c w. not (subst (IsWanted log places) (sym (Contains-one p x c)) w))

  longer : (old : List ℕ) (p k x : ℕ) → slice_get old k ≡ Some x → slice_get (old ++ p ∷ []) k ≡ Some x
  longer [] p k x e = let q : ⊥ = cc in absurd q
  longer (y ∷ ys) p zero x e = e
  longer (y ∷ ys) p (suc k) x e = longer ys p k x e

  pub found_one : (p : ℕ) (old new : List ℕ) → IsWanted log places p → IsListed old p new → AreFound log places (p ∷ []) old new
  found_one p old new w h = record {
    stays = λ k x e. ⊎_elim
        (λ s. subst (λ (xs : List ℕ). slice_get xs k ≡ Some x) (sym s.1) e)
        (λ s. subst (λ (xs : List ℕ). slice_get xs k ≡ Some x) (sym s.1) (longer old p k x e))
        h;
    only = λ x c. ⊎_elim
        (λ s. inl (subst (λ (xs : List ℕ). Contains xs x) s.1 c))
        (λ s. ⊎_elim
        (λ d. inl d)
        (λ e. inr (subst (Contains (p ∷ [])) e (Contains-first p []), subst (IsWanted log places) e w))
        (Contains-push_cases old p x (subst (λ (xs : List ℕ). Contains xs x) s.1 c)))
        h;
    all = λ x c v. subst (Contains new) (Contains-one p x c) (listed_here old new p h);
  }

  pub found_more : (ps qs a b c : List ℕ) → AreFound log places ps a b → AreFound log places qs b c → AreFound log places (ps ++ qs) a c
  found_more ps qs a b c f g = record {
    stays = λ k x e. g.stays k x (f.stays k x e);
    only = λ x h. ⊎_elim
        (λ there. ⊎_elim (λ old. inl old) (λ w. inr (Contains-append_left ps qs x w.0, w.1)) (f.only x there))
        (λ w. inr (Contains-append_right ps qs x w.0, w.1))
        (g.only x h);
    all = λ x h w. ⊎_elim
        (λ l. stays_contained b c g.stays x (f.all x l w))
        (λ r. g.all x r w)
        (Contains-append_cases ps qs x h);
  }

  pub found_next : {A : Type 0} (f : A → ℕ) (xs : List A) (k : ℕ) (x : A) (a b c : List ℕ) → slice_get xs k ≡ Some x → AreFound log places (map f (take k xs)) a b → AreFound log places (f x ∷ []) b c → AreFound log places (map f (take (k + 1) xs)) a c
  found_next f xs k x a b c at g h =
      let front : take (k + 1) xs ≡ take k xs ++ x ∷ [] = take_more xs k x (slice_get_within xs k x at) ∙ ap (λ y. take k xs ++ y ∷ []) (get_or_from_slice_get xs k x x at) in
      let named : map f (take (k + 1) xs) ≡ map f (take k xs) ++ f x ∷ [] = ap (map f) front ∙ map-append f (take k xs) (x ∷ []) in
      subst (λ (ps : List ℕ). AreFound log places ps a c) (sym named) (found_more (map f (take k xs)) (f x ∷ []) a b c g h)

  pub found_next_read : {A : Type 0} (f : A → ℕ) (xs : List A) (k : ℕ) (x : A) (a b c : List ℕ) → k < length xs → AreFound log places (map f (take k xs)) a b → AreFound log places (f (get_or xs k x) ∷ []) b c → AreFound log places (map f (take (k + 1) xs)) a c
  found_next_read f xs k x a b c lt g h = found_next f xs k (get_or xs k x) a b c (slice_get-get_or xs k x lt) g h

-- ---- what is named and cited

pub names_told : (r : Record) (p : ℕ) → Contains (named_by r) p → Names r p
names_told (Sat values) p c = Contains-nil p c
names_told (Unsat q) p c = sym (Contains-one q p c)
names_told (Unknown d) p c = unmapped place_of d.lines p c

names_listed : (r : Record) (p : ℕ) → Names r p → Contains (named_by r) p
names_listed (Sat values) p n = absurd n
names_listed (Unsat q) p n = subst (Contains (q ∷ [])) (sym n) (Contains-first q [])
names_listed (Unknown d) p n = subst (Contains (map place_of d.lines)) n.2 (Contains-map place_of d.lines n.0 n.1)

cites_told : (log : List Entry) (q p : ℕ) (o : Option Entry) → entry_at log q ≡ o → Contains (cited_by o) p → IsDerived log p → Cites log q p
cites_told log q p None e c d = absurd (Contains-nil p c)
cites_told log q p (Some (step.Node n)) e c d = absurd (Contains-nil p c)
cites_told log q p (Some (step.Leaf t)) e c d = absurd (Contains-nil p c)
cites_told log q p (Some (step.Encode t)) e c d = absurd (Contains-nil p c)
cites_told log q p (Some (step.Selector a t)) e c d = absurd (Contains-nil p c)
cites_told log q p (Some (step.Rewrite r)) e c d = absurd (Contains-nil p c)
cites_told log q p (Some (step.Equal t u)) e c d = absurd (Contains-nil p c)
cites_told log q p (Some (step.Lemma l)) e c d = absurd (Contains-nil p c)
cites_told log q p (Some (step.Chain clause hints)) e c d =
    let h = unmapped (λ (i : ClauseId). i.pos) hints p c in
    record { clause = clause; hints = hints; chain = e; hint = h.0; among = h.1; cited = h.2; derived = d }

cites_listed : (log : List Entry) (q p : ℕ) → Cites log q p → Contains (cited_by (entry_at log q)) p
cites_listed log q p c =
    let own : Contains (hint_positions c.hints) p = subst (Contains (hint_positions c.hints)) c.cited (Contains-map (λ (i : ClauseId). i.pos) c.hints c.hint c.among) in
    subst (λ (o : Option Entry). Contains (cited_by o) p) (sym c.chain) own

-- ---- what is derived

no_step : (log : List Entry) → IsDerived log 0 → ⊥
no_step log d = let q : ⊥ = cc in q

pub derived_first : (log : List Entry) (p : ℕ) → IsDerived log p → 1 ≤ p
derived_first log zero d = absurd (no_step log d)
derived_first log (suc p) d = omega arith

derived_there : (log : List Entry) (k : ℕ) → is_deletable (slice_get log k) ≡ true → k < length log
derived_there [] k d = let q : ⊥ = cc in absurd q
derived_there (e ∷ es) zero d = omega arith
derived_there (e ∷ es) (suc k) d = let lt = derived_there es k d in omega (arith, lt)

derived_within : (log : List Entry) (p : ℕ) → IsDerived log p → p < suc (length log)
derived_within log zero d = absurd (no_step log d)
derived_within log (suc k) d = let lt = derived_there log k d in omega (arith, lt)

way_more : (log : List Entry) (places : ℕ → ℕ) (way : List ℕ) (from q p : ℕ) → IsWay log places from way q → places q ≡ 0 → Cites log q p → IsWay log places from (way ++ p ∷ []) p
way_more log places [] from q p h z c = (ap places h ∙ z, subst (λ x. Cites log x p) (sym h) c, refl)
way_more log places (x ∷ way) from q p h z c = (h.0, h.1, way_more log places way x q p h.2 z c)

way_derived : (log : List Entry) (places : ℕ → ℕ) (way : List ℕ) (from p : ℕ) → IsDerived log from → IsWay log places from way p → IsDerived log p
way_derived log places [] from p d h = subst (IsDerived log) h d
way_derived log places (x ∷ way) from p d h = way_derived log places way x p h.1.derived h.2

pub needed_derived : (log : List Entry) (places : ℕ → ℕ) (r : Record) (p : ℕ) → IsNeeded log places r p → IsDerived log p
needed_derived log places r p n = way_derived log places n.way n.from p n.start n.leads

-- ---- the search

rises_from : (low : ℕ) (xs : List ℕ) → All (λ x. low ≤ x) xs → AllPairs (λ x y. x < y) xs → AreRising low xs
rises_from low [] all pairs = tt
rises_from low (x ∷ xs) all pairs =
    (all 0 0 (omega arith), rises_from (suc x) xs (λ k d lt. (let less : x < get_or xs k d = pairs 0 (suc k) d (omega arith) (omega (arith, lt)) in omega (arith, less))) (λ i j d less lt. pairs (suc i) (suc j) d (omega (arith, less)) (omega (arith, lt))))

module _ (log : List Entry) (places : ℕ → ℕ) (r : Record) where
  pub search_start : (found : List ℕ) → AreFound log places (named_by r) [] found → IsSearch log places r found 0
  search_start found f = record {
    each = λ p c. ⊎_elim
        (λ old. absurd (Contains-nil p old))
        (λ w. (record { from = p; named = names_told r p w.0; start = w.1.0; way = []; leads = refl }, w.1.1))
        (f.only p c);
    named = f.all;
    closed = λ k q p lt e c w. absurd (omega (arith, lt));
  }

  pub search_next : (found more : List ℕ) (done q : ℕ) → IsSearch log places r found done → slice_get found done ≡ Some q → AreFound log places (cited_by (entry_at log q)) found more → IsSearch log places r more (done + 1)
  search_next found more done q s at f =
      let here = s.each q (Contains-slice_get found done q at) in
      record {
        each = λ p c. ⊎_elim
            (λ old. s.each p old)
            (λ w. (let n = here.0 in let way = way_more log places n.way n.from q p n.leads here.1 (cites_told log q p (entry_at log q) refl w.0 w.1.0) in
            (record { from = n.from; named = n.named; start = n.start; way = n.way ++ p ∷ []; leads = way }, w.1.1)))
            (f.only p c);
        named = λ p c w. stays_contained found more f.stays p (s.named p c w);
        closed = λ k x p lt e c w. ⊎_elim
            (λ less. stays_contained found more f.stays p (s.closed k x p less (before k x less e) c w))
            (λ le. f.all p (subst (λ (y : ℕ). Contains (cited_by (entry_at log y)) p) (last k x (omega (arith, lt, le)) e) c) w)
            (cases_lt k done);
      }
    where
      before : (k x : ℕ) → k < done → slice_get more k ≡ Some x → slice_get found k ≡ Some x
      before k x less e =
          let within = slice_get_within found done q at in
          let own : slice_get found k ≡ Some (get_or found k 0) = slice_get-get_or found k 0 (omega (arith, less, within)) in
          let same : Some (get_or found k 0) ≡ Some x = sym (f.stays k (get_or found k 0) own) ∙ e in
          own ∙ same

      last : (k x : ℕ) → k ≡ done → slice_get more k ≡ Some x → x ≡ q
      last k x same e =
          let two : Some x ≡ Some q = sym e ∙ ap (slice_get more) same ∙ f.stays done q at in
          let own : x ≡ q = cc in own

  -- no more is found than the log has positions
  pub found_few : (found : List ℕ) (done : ℕ) → IsSearch log places r found done → IsOnce found → length found ≤ suc (length log)
  found_few found done s once = once_few found (suc (length log)) once (λ p c. derived_within log p (needed_derived log places r p (s.each p c).0))

  reached : (found : List ℕ) (done : ℕ) → IsSearch log places r found done → length found ≤ done → (way : List ℕ) (q p : ℕ) → (places q ≡ 0 → Contains found q) → IsWay log places q way p → places p ≡ 0 → Contains found p
  reached found done s le [] q p there h z = subst (Contains found) h (there (ap places h ∙ z))
  reached found done s le (x ∷ way) q p there h z =
      let at = at_contained found q (there h.0) in
      let within = slice_get_within found at.0 q at.1 in
      reached found done s le way x p (λ y. s.closed at.0 q x (omega (arith, within, le)) at.1 (cites_listed log q x h.1) (h.1.derived, y)) h.2 z

  pub search_end : (found order : List ℕ) (done : ℕ) → IsSearch log places r found done → None ≡ slice_get found done → IsOnce found → IsPermutation found order → IsNonDecreasing order → AreNeeded log places r order
  search_end found order done s end once moved sorted =
      let le = past_end found done end in
      let each : All (λ p. IsNeeded log places r p × (places p ≡ 0)) order =
      All-permutation (λ p. IsNeeded log places r p × (places p ≡ 0)) found order moved (λ k d lt. s.each (get_or found k d) (Contains-get_or found k d lt)) in
      record {
        rise = rises_from 1 order
            (λ k d lt. derived_first log (get_or order k d) (needed_derived log places r (get_or order k d) (each k d lt).0))
            (sorted_rises order sorted (IsDistinct-IsPermutation (λ x y. x == y) equal_flips found order moved (all_apart found once)));
        each = each;
        every = λ p n z. Contains-permutation found order p moved
            (reached found done s le n.way n.from p (λ y. s.named n.from (names_listed r n.from n.named) (n.start, y)) n.leads z);
      }

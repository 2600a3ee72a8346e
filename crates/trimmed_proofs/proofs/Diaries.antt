-- A diary that is spent over the log is spent over the file, where it is written by places and takes equalities first.
use Rattle.std.proofs.Common.{◌≡◌, ℕ, suc, ◌+◌, ◌-◌, ◌==◌, ◌<◌, ◌≤◌, Bool, true, false, not, List, [], ◌∷◌, ◌++◌, length, map, Option, Some, None, refl, sym, ap, ap₂, ◌∙◌, subst, inl, inr, ⊎_elim, arith}
use Rattle.std.specs.Prelude.{◌⊎◌, ◌&&◌, ◌||◌, if◌then◌else◌, ltb, Contains, slice_get}
use Rattle.std.specs.List.{AllByRecursion}
use Rattle.std.proofs.lemmas.Bool.{and_parts, cases_lt, cases_eq, eq-eqb, lt-ltb, ltb-true, ne_eqb}
use Rattle.std.proofs.lemmas.List.Elements.{Contains-append_cases, Contains-push_cases}
use Rattle.cnf_base.specs.Literals.{Literal, negated}
use Rattle.cnf_base.specs.declared.clause.ClauseId.{ClauseId}
use Rattle.cnf_base.proofs.Lists.{Contains-first, Contains-later, Contains-map, Contains-nil, Contains-one, each_append}
use Rattle.smt_terms.specs.declared.node.Node.{Node}
use Rattle.proof_log.specs.declared.entry.Entry.{Entry}
use Rattle.proof_log.specs.declared.entry.Entry.TheVariants as step
use Rattle.proof_log.specs.declared.diary.DiaryLine.{DiaryLine}
use Rattle.proof_log.specs.declared.diary.DiaryLine.TheVariants.{Take, Put, Drop}
use Rattle.proof_log.specs.Logs.{clause_in, entry_at, state_of, IsLog}
use Rattle.proof_log.specs.Diaries.{Subject, DiaryState, look_of, is_chain, blank, with_held, count_new, StandsIn, EachIsUsed, IsGoodPut, allowed, line_after, AreLines, lines_after, EndsInPut, IsSpent}
use Rattle.proof_log.proofs.Growth.{entry_within}
use Rattle.proof_log.proofs.Lines.{held_cases}
use Rattle.proof_text.specs.Deletions.{blank_without, is_deleted, place_of, IsSpentWithout}
use Rattle.proof_file.specs.Equalities.{AreEqualitiesTaken, AreTakenFirst}
use Rattle.proof_file.specs.Places.{placed_hint, placed_line}
use Rattle.trimmed_proofs.proofs.Filing.{HasPlace}
use Rattle.trimmed_proofs.proofs.DiariesApart.{chain_apart}

-- ---- what is held

held_here : (held : ℕ → Bool) (p : ℕ) (b : Bool) → with_held held p b p ≡ b
held_here held p b = ap (λ (c : Bool). if c then b else held p) (eq-eqb p p refl)

held_still : (held : ℕ → Bool) (p q : ℕ) → held q ≡ true → with_held held p true q ≡ true
held_still held p q h = go (q == p)
  where
    go : (c : Bool) → (if c then true else held q) ≡ true
    go true = refl
    go false = h

held_other : (held : ℕ → Bool) (p q : ℕ) (b : Bool) → (q ≡ p → ⊥) → with_held held p b q ≡ held q
held_other held p q b ne = ap (λ (c : Bool). if c then b else held q) (ne_eqb q p ne)

dropped : (held : ℕ → Bool) (p q : ℕ) → with_held held p false q ≡ true → (q ≡ p → ⊥) × (held q ≡ true)
dropped held p q h = (apart, ⊎_elim (λ e. absurd (apart e)) (λ k. k) (held_cases held p false q h))
  where
    apart : q ≡ p → ⊥
    apart e =
        let f : true ≡ false = sym h ∙ ap (with_held held p false) e ∙ held_here held p false in
        let z : ⊥ = cc in z

same_count : (a b c d : Bool) → a ≡ b → (b ≡ true → c ≡ d) → count_new a c ≡ count_new b d
same_count a true c d e f = ap₂ (λ (x y : Bool). count_new x y) e (f refl)
same_count a false c d e f = ap (λ (x : Bool). count_new x c) e

-- ---- lines

lines_both : (g : Subject) (s : DiaryState) (xs ys : List DiaryLine) → AreLines g s xs → AreLines g (lines_after g s xs) ys → AreLines g s (xs ++ ys)
lines_both g s [] ys h k = k
lines_both g s (x ∷ xs) ys h k = (h.0, lines_both g (line_after g s x) xs ys h.1 k)

after_both : (g : Subject) (s : DiaryState) (xs ys : List DiaryLine) → lines_after g s (xs ++ ys) ≡ lines_after g (lines_after g s xs) ys
after_both g s [] ys = refl
after_both g s (x ∷ xs) ys = after_both g (line_after g s x) xs ys

put_behind : (l : DiaryLine) (ls : List DiaryLine) → EndsInPut ls → EndsInPut (l ∷ ls)
put_behind l [] h = absurd h
put_behind (Take p) (m ∷ ls) h = h
put_behind (Put p) (m ∷ ls) h = h
put_behind (Drop p) (m ∷ ls) h = h

put_last : (xs ys : List DiaryLine) → EndsInPut ys → EndsInPut (xs ++ ys)
put_last [] ys h = h
put_last (x ∷ xs) ys h = put_behind x (xs ++ ys) (put_last xs ys h)

put_placed : (places : ℕ → ℕ) (ls : List DiaryLine) → EndsInPut ls → EndsInPut (map (placed_line places) ls)
put_placed places [] h = absurd h
put_placed places (Take p ∷ []) h = absurd h
put_placed places (Put p ∷ []) h = tt
put_placed places (Drop p ∷ []) h = absurd h
put_placed places (Take p ∷ m ∷ ls) h = put_behind (Take (places p)) (map (placed_line places) (m ∷ ls)) (put_placed places (m ∷ ls) h)
put_placed places (Put p ∷ m ∷ ls) h = put_behind (Put (places p)) (map (placed_line places) (m ∷ ls)) (put_placed places (m ∷ ls) h)
put_placed places (Drop p ∷ m ∷ ls) h = put_behind (Drop (places p)) (map (placed_line places) (m ∷ ls)) (put_placed places (m ∷ ls) h)

-- ---- the file of a diary

-- an equality stands at the position
abbrev pub IsEquality : List Entry → ℕ → Type 0
IsEquality log p = (t : ℕ) × (u : ℕ) × (entry_at log p ≡ Some (step.Equal t u))

-- What the log of a diary that begins at this position has in common with a file in which it begins at that place: what stands at places;
-- what is held at the start, where these lemmas are taken first; and the chains of the check.
pub record IsDiaryFile (nodes : List Node) (log file : List Entry) (deleted : List ℕ) (places : ℕ → ℕ) (from start : ℕ) (lemmas : List ℕ) : Type 0 where
  pub steps : IsLog nodes log
  pub within : (p : ℕ) → places p ≤ length file
  pub once : (p q : ℕ) → HasPlace places p → HasPlace places q → places p ≡ places q → p ≡ q
  pub rows : (p : ℕ) → HasPlace places p → slice_get (state_of nodes file).clauses (places p) ≡ slice_get (state_of nodes log).clauses p
  pub chains : (p : ℕ) → HasPlace places p → is_chain (entry_at file (places p)) ≡ is_chain (entry_at log p)
  pub left : (p : ℕ) → is_deleted deleted (places p) ≡ false
  pub lemmas_are : (p : ℕ) → Contains lemmas p → HasPlace places p × (p < from) × (is_chain (entry_at log p) ≡ false)
  pub held : (p : ℕ) → HasPlace places p → p < from → is_chain (entry_at log p) ≡ false → (places p < start) ⊎ Contains lemmas p
  pub only : (q : ℕ) → q < start → is_deleted deleted q ≡ false → is_chain (entry_at file q) ≡ false → (p : ℕ) × (places p ≡ q) × HasPlace places p × (is_chain (entry_at log p) ≡ false) × ((p < from) ⊎ ((from ≤ p) × IsEquality log p))
  pub written : (p : ℕ) (c : List Literal) (hints : List ClauseId) → from ≤ p → HasPlace places p → entry_at log p ≡ Some (step.Chain c hints) → entry_at file (places p) ≡ Some (step.Chain c (map (placed_hint places) hints))
  pub hinted : (p : ℕ) (c : List Literal) (hints : List ClauseId) (h : ClauseId) → from ≤ p → HasPlace places p → entry_at log p ≡ Some (step.Chain c hints) → Contains hints h → HasPlace places h.pos

module _ (nodes : List Node) (log file : List Entry) (deleted : List ℕ) (places : ℕ → ℕ) (from start : ℕ) (lemmas : List ℕ) (given : List Literal) (is : IsDiaryFile nodes log file deleted places from start lemmas) where
  abbrev own : Subject
  own = record { nodes = nodes; log = log; given = given; from = from }

  abbrev new : Subject
  new = record { nodes = nodes; log = file; given = given; from = start }

  -- an equality that no line took yet
  abbrev IsOpen : List DiaryLine → ℕ → Type 0
  IsOpen before p = IsEquality log p × (from ≤ p) × (Contains before (Take p) → ⊥)

  -- Behind these lines the file's diary holds what the log's holds, of what has a place, and else only equalities that were not taken yet.
  record IsBeside (before : List DiaryLine) (s t : DiaryState) : Type 0 where
    kept : (p : ℕ) → HasPlace places p → s.held p ≡ true → t.held (places p) ≡ true
    only : (q : ℕ) → t.held q ≡ true → (p : ℕ) × (places p ≡ q) × HasPlace places p × ((s.held p ≡ true) ⊎ IsOpen before p)
    chains : t.chains ≡ s.chains
    puts : t.puts ≡ s.puts
    drops : t.drops ≡ s.drops

  -- ---- one position more is held

  open_still : (before : List DiaryLine) (l : DiaryLine) (p x : ℕ) → (l ≡ Take x → x ≡ p) → (x ≡ p → ⊥) → IsOpen before x → IsOpen (before ++ l ∷ []) x
  open_still before l p x names ne o = (o.0, o.1, λ c. ⊎_elim (λ old. o.2 old) (λ e. ne (names e)) (Contains-push_cases before l (Take x) c))

  module _ (before : List DiaryLine) (s t : DiaryState) (b : IsBeside before s t) (p : ℕ) (has : HasPlace places p) where
    kept_with : (x : ℕ) → HasPlace places x → with_held s.held p true x ≡ true → with_held t.held (places p) true (places x) ≡ true
    kept_with x hx h = ⊎_elim
        (λ e. subst (λ q. with_held t.held (places p) true (places q) ≡ true) (sym e) (held_here t.held (places p) true))
        (λ old. held_still t.held (places p) (places x) (b.kept x hx old))
        (held_cases s.held p true x h)

    only_with : (l : DiaryLine) → ((x : ℕ) → l ≡ Take x → x ≡ p) → (q : ℕ) → with_held t.held (places p) true q ≡ true
        → (x : ℕ) × (places x ≡ q) × HasPlace places x × ((with_held s.held p true x ≡ true) ⊎ IsOpen (before ++ l ∷ []) x)
    only_with l names q h = ⊎_elim
        (λ e. (p, sym e, has, inl (held_here s.held p true)))
        (λ old. let o = b.only q old in (
          o.0,
          o.1,
          o.2,
          ⊎_elim
              (λ e. inl (subst (λ x. with_held s.held p true x ≡ true) (sym e) (held_here s.held p true)))
              (λ ne. ⊎_elim
              (λ k. inl (held_still s.held p o.0 k))
              (λ k. inr (open_still before l p o.0 (names o.0) ne k))
              o.3)
              (cases_eq o.0 p),
        ))
        (held_cases t.held (places p) true q h)

    -- a chain is held in both, or in neither
    chain_held : is_chain (entry_at log p) ≡ true → t.held (places p) ≡ s.held p
    chain_held chain = go (s.held p) (t.held (places p)) refl refl
      where
        go : (x y : Bool) → s.held p ≡ x → t.held (places p) ≡ y → y ≡ x
        go true true e f = refl
        go false false e f = refl
        go true false e f = let z : true ≡ false = sym (b.kept p has e) ∙ f in let w : ⊥ = cc in absurd w
        go false true e f =
            let o = b.only (places p) f in
            let same = is.once o.0 p o.2 has o.1 in
            ⊎_elim
            (λ h. let z : true ≡ false = sym h ∙ ap s.held same ∙ e in let w : ⊥ = cc in absurd w)
            (λ k. let z : true ≡ false = sym chain ∙ ap (λ x. is_chain (entry_at log x)) (sym same) ∙ ap is_chain k.0.2 in let w : ⊥ = cc in absurd w)
            o.3

    took : IsBeside (before ++ Take p ∷ []) (line_after own s (Take p)) (line_after new t (Take (places p)))
    took = record {
      kept = kept_with;
      only = only_with (Take p) (λ x e. let q : p ≡ x = cc in sym q);
      chains = ap₂ (λ (x y : ℕ). x + y) b.chains (same_count (is_chain (entry_at file (places p))) (is_chain (entry_at log p)) (t.held (places p)) (s.held p) (is.chains p has) chain_held);
      puts = b.puts;
      drops = refl;
    }

    put : IsBeside (before ++ Put p ∷ []) (line_after own s (Put p)) (line_after new t (Put (places p)))
    put = record {
      kept = kept_with;
      only = only_with (Put p) (λ x e. let f : ⊥ = cc in absurd f);
      chains = ap suc b.chains;
      puts = ap suc b.puts;
      drops = ap₂ (λ (x y : ℕ). allowed (suc x) (suc y)) b.puts b.chains;
    }

    drop_kept : (x : ℕ) → HasPlace places x → with_held s.held p false x ≡ true → with_held t.held (places p) false (places x) ≡ true
    drop_kept x hx h =
        let d = dropped s.held p x h in
        held_other t.held (places p) (places x) false (λ e. d.0 (is.once x p hx has e)) ∙ b.kept x hx d.1

    drop_only : (q : ℕ) → with_held t.held (places p) false q ≡ true → (x : ℕ) × (places x ≡ q) × HasPlace places x × ((with_held s.held p false x ≡ true) ⊎ IsOpen (before ++ Drop p ∷ []) x)
    drop_only q h =
        let d = dropped t.held (places p) q h in
        let o = b.only q d.1 in
        let ne : o.0 ≡ p → ⊥ = λ e. d.0 (sym o.1 ∙ ap places e) in (
          o.0,
          o.1,
          o.2,
          ⊎_elim
              (λ k. inl (held_other s.held p o.0 false ne ∙ k))
              (λ k. inr (open_still before (Drop p) p o.0 (λ e. let f : ⊥ = cc in absurd f) ne k))
              o.3,
        )

    let_go : IsBeside (before ++ Drop p ∷ []) (line_after own s (Drop p)) (line_after new t (Drop (places p)))
    let_go = record {
      kept = drop_kept;
      only = drop_only;
      chains = ap (λ (x : ℕ). x - 1) b.chains;
      puts = b.puts;
      drops = ap (λ (x : ℕ). x - 1) b.drops;
    }

  -- ---- puts

  look_placed : (i : ClauseId) → HasPlace places i.pos → look_of new (placed_hint places i) ≡ look_of own i
  look_placed i has = ap (λ o. clause_in o i.part) (is.rows i.pos has)

  abbrev HavePlaces : List ClauseId → Type 0
  HavePlaces hints = (h : ClauseId) → Contains hints h → HasPlace places h.pos

  stands_placed : (hints : List ClauseId) (l : Literal) → HavePlaces hints → StandsIn (look_of own) hints l → StandsIn (look_of new) (map (placed_hint places) hints) l
  stands_placed hints l has k = (placed_hint places k.0, k.1, Contains-map (placed_hint places) hints k.0 k.2, look_placed k.0 (has k.0 k.2) ∙ k.3, k.4)

  used_placed : (trues : List Literal) (hints : List ClauseId) → HavePlaces hints → EachIsUsed (look_of own) trues hints → EachIsUsed (look_of new) trues (map (placed_hint places) hints)
  used_placed trues [] has u = tt
  used_placed trues (i ∷ []) has u = tt
  used_placed trues (i ∷ j ∷ is') has u =
      let rest : HavePlaces (j ∷ is') = λ h c. has h (Contains-later i h (j ∷ is') c) in
      (u.0, u.1, look_placed i (has i (Contains-first i (j ∷ is'))) ∙ u.2, u.3, stands_placed (j ∷ is') (negated u.1) rest u.4, used_placed (trues ++ u.1 ∷ []) (j ∷ is') rest u.5)

  mapped : (hints : List ClauseId) (i : ClauseId) → Contains (map (placed_hint places) hints) i → (h : ClauseId) × Contains hints h × (placed_hint places h ≡ i)
  mapped [] i c = absurd (Contains-nil i c)
  mapped (h ∷ hints) i c = ⊎_elim
      (λ first. (h, Contains-first h hints, Contains-one (placed_hint places h) i first))
      (λ more. let k = mapped hints i more in (k.0, Contains-later h k.0 hints k.1, k.2))
      (Contains-append_cases (placed_hint places h ∷ []) (map (placed_hint places) hints) i c)

  -- a held clause is no part of the put's, also where the log's diary does not hold it yet
  new_placed : (before : List DiaryLine) (s t : DiaryState) (p : ℕ) (c : List Literal) (hints : List ClauseId) → IsBeside before s t → entry_at log p ≡ Some (step.Chain c hints) → AreEqualitiesTaken log from p before → IsGoodPut own s.held c hints
      → (i : ClauseId) (d : List Literal) → t.held i.pos ≡ true → look_of new i ≡ Some d → ((l : Literal) → Contains d l → Contains c l) → ⊥
  new_placed before s t p c hints b e taken good i d held there sub =
      let o = b.only i.pos held in
      let here : clause_in (slice_get (state_of nodes log).clauses o.0) i.part ≡ Some d = sym (ap (λ x. clause_in x i.part) (is.rows o.0 o.2)) ∙ ap (λ q. clause_in (slice_get (state_of nodes file).clauses q) i.part) o.1 ∙ there in
      ⊎_elim
      (λ h. good.is_new (record { pos = o.0; part = i.part }) d h here sub)
      (λ k. ⊎_elim
      (λ lt. k.2 (taken o.0 k.0.0 k.0.1 k.1 lt k.0.2))
      (λ ge. ⊎_elim
      (λ same. let z : Some (step.Chain c hints) ≡ Some (step.Equal k.0.0 k.0.1) = sym e ∙ ap (entry_at log) (sym same) ∙ k.0.2 in let f : ⊥ = cc in f)
      (λ ne. chain_apart nodes log p o.0 i.part k.0.0 k.0.1 c d hints is.steps e k.0.2 (omega (arith, ge, ne)) here sub)
      (cases_eq o.0 p))
      (cases_lt o.0 p))
      o.3

  good_placed : (before : List DiaryLine) (s t : DiaryState) (p : ℕ) (c : List Literal) (hints : List ClauseId) → IsBeside before s t → HavePlaces hints → entry_at log p ≡ Some (step.Chain c hints) → AreEqualitiesTaken log from p before → IsGoodPut own s.held c hints
      → IsGoodPut new t.held c (map (placed_hint places) hints)
  good_placed before s t p c hints b has e taken good = record {
    no_pair = good.no_pair;
    from_held = λ i m. (let k = mapped hints i m in subst (λ (x : ClauseId). t.held x.pos ≡ true) k.2 (b.kept k.0.pos (has k.0 k.1) (good.from_held k.0 k.1)));
    from_hints = λ l m. stands_placed hints l has (good.from_hints l m);
    used = used_placed (map negated c) hints has good.used;
    is_new = new_placed before s t p c hints b e taken good;
    not_given = good.not_given;
  }

  -- ---- lines

  chain_within : (p : ℕ) → is_chain (entry_at log p) ≡ true → p ≤ length log
  chain_within p h = go (entry_at log p) refl h
    where
      go : (o : Option Entry) → entry_at log p ≡ o → is_chain o ≡ true → p ≤ length log
      go None e k = let f : ⊥ = cc in absurd f
      go (Some x) e k = entry_within log p x e

  abbrev AreNamed : List DiaryLine → Type 0
  AreNamed ls = (l : DiaryLine) → Contains ls l → place_of l ≤ length log → HasPlace places (place_of l)

  named_first : (l : DiaryLine) (ls : List DiaryLine) → AreNamed (l ∷ ls) → place_of l ≤ length log → HasPlace places (place_of l)
  named_first l ls n le = n l (Contains-first l ls) le

  named_rest : (l : DiaryLine) (ls : List DiaryLine) → AreNamed (l ∷ ls) → AreNamed ls
  named_rest l ls n m c = n m (Contains-later l m ls c)

  -- a line by places stands where the log's does
  lines_placed : (before ls : List DiaryLine) (s t : DiaryState) → IsBeside before s t → AreNamed ls → AreTakenFirst log from before ls → AreLines own s ls
      → AreLines new t (map (placed_line places) ls) × ((lines_after new t (map (placed_line places) ls)).puts ≡ (lines_after own s ls).puts)
  lines_placed before [] s t b n first k = (tt, b.puts)
  lines_placed before (Take p ∷ ls) s t b n first k =
      let has = named_first (Take p) ls n k.0 in
      let rest = lines_placed (before ++ Take p ∷ []) ls (line_after own s (Take p)) (line_after new t (Take (places p))) (took before s t b p has) (named_rest (Take p) ls n) first k.1 in
      ((is.within p, rest.0), rest.1)
  lines_placed before (Put p ∷ ls) s t b n first k =
      let c = k.0.0 in
      let hints = k.0.1 in
      let e = k.0.2 in
      let has = named_first (Put p) ls n (entry_within log p (step.Chain c hints) e) in
      let all : HavePlaces hints = λ h m. is.hinted p c hints h first.0 has e m in
      let good = good_placed before s t p c hints b all e first.1 k.0.3 in
      let rest = lines_placed (before ++ Put p ∷ []) ls (line_after own s (Put p)) (line_after new t (Put (places p))) (put before s t b p has) (named_rest (Put p) ls n) first.2 k.1 in
      (((c, map (placed_hint places) hints, is.written p c hints first.0 has e, good), rest.0), rest.1)
  lines_placed before (Drop p ∷ ls) s t b n first k =
      let has = named_first (Drop p) ls n (chain_within p k.0.1) in
      let rest = lines_placed (before ++ Drop p ∷ []) ls (line_after own s (Drop p)) (line_after new t (Drop (places p))) (let_go before s t b p has) (named_rest (Drop p) ls n) first k.1 in
      (((b.kept p has k.0.0, is.chains p has ∙ k.0.1, subst (λ (d : ℕ). 0 < d) (sym b.drops) k.0.2), rest.0), rest.1)

  -- ---- the lemmas that are taken first

  abbrev takes : List ℕ → List DiaryLine
  takes ps = map (λ p. Take (places p)) ps

  -- these positions are held too, and none is a chain's
  record AreHeldToo (ps : List ℕ) (t u : DiaryState) : Type 0 where
    chains : u.chains ≡ t.chains
    puts : u.puts ≡ t.puts
    drops : t.drops ≡ 0 → u.drops ≡ 0
    kept : (q : ℕ) → t.held q ≡ true → u.held q ≡ true
    all : (p : ℕ) → Contains ps p → u.held (places p) ≡ true
    only : (q : ℕ) → u.held q ≡ true → (t.held q ≡ true) ⊎ ((p : ℕ) × Contains ps p × (places p ≡ q))

  no_chain : (n : ℕ) (b h : Bool) → b ≡ false → n + count_new b h ≡ n
  no_chain n false h e = omega arith
  no_chain n true h e = let f : ⊥ = cc in absurd f

  takes_hold : (ps : List ℕ) (t : DiaryState) → ((p : ℕ) → Contains ps p → HasPlace places p × (is_chain (entry_at log p) ≡ false)) → AreLines new t (takes ps) × AreHeldToo ps t (lines_after new t (takes ps))
  takes_hold [] t plain = (
    tt,
    record { chains = refl; puts = refl; drops = λ z. z; kept = λ q h. h; all = λ p c. absurd (Contains-nil p c); only = λ q h. inl h },
  )
  takes_hold (p ∷ ps) t plain =
      let own_plain = plain p (Contains-first p ps) in
      let rest = takes_hold ps (line_after new t (Take (places p))) (λ q c. plain q (Contains-later p q ps c)) in
      let r = rest.1 in (
        (is.within p, rest.0),
        record {
          chains = r.chains ∙ no_chain t.chains (is_chain (entry_at file (places p))) (t.held (places p)) (is.chains p own_plain.0 ∙ own_plain.1);
          puts = r.puts;
          drops = λ z. r.drops refl;
          kept = λ q h. r.kept q (held_still t.held (places p) q h);
          all = λ x c. ⊎_elim
              (λ first. subst (λ y. (lines_after new t (takes (p ∷ ps))).held (places y) ≡ true) (Contains-one p x first) (r.kept (places p) (held_here t.held (places p) true)))
              (λ more. r.all x more)
              (Contains-append_cases (p ∷ []) ps x c);
          only = λ q h. ⊎_elim
              (λ old. ⊎_elim (λ e. inr (p, Contains-first p ps, sym e)) (λ k. inl k) (held_cases t.held (places p) true q old))
              (λ k. inr (k.0, Contains-later p k.0 ps k.1, k.2))
              (r.only q h);
        },
      )

  -- ---- the start

  abbrev old_start : DiaryState
  old_start = blank own

  abbrev new_start : DiaryState
  new_start = blank_without (is_deleted deleted) new

  held_own : (p : ℕ) → p < from → is_chain (entry_at log p) ≡ false → old_start.held p ≡ true
  held_own p lt plain = ap₂ (λ (a b : Bool). a && not b) (lt-ltb p from lt) plain

  own_held : (p : ℕ) → old_start.held p ≡ true → (p < from) × (is_chain (entry_at log p) ≡ false)
  own_held p h =
      let both = and_parts (ltb p from) (not (is_chain (entry_at log p))) h in
      (ltb-true p from both.0, not_true (is_chain (entry_at log p)) both.1)
    where
      not_true : (c : Bool) → not c ≡ true → c ≡ false
      not_true true e = let f : ⊥ = cc in absurd f
      not_true false e = refl

  held_new : (q : ℕ) → q < start → is_deleted deleted q ≡ false → is_chain (entry_at file q) ≡ false → new_start.held q ≡ true
  held_new q lt there plain =
      ap₂ (λ (a b : Bool). a && not b) (lt-ltb q start lt) (ap₂ (λ (a b : Bool). a || b) there plain)

  new_held : (q : ℕ) → new_start.held q ≡ true → (q < start) × (is_deleted deleted q ≡ false) × (is_chain (entry_at file q) ≡ false)
  new_held q h =
      let both = and_parts (ltb q start) (not (is_deleted deleted q || is_chain (entry_at file q))) h in
      let neither = none (is_deleted deleted q) (is_chain (entry_at file q)) both.1 in
      (ltb-true q start both.0, neither.0, neither.1)
    where
      none : (a b : Bool) → not (a || b) ≡ true → (a ≡ false) × (b ≡ false)
      none true b e = let f : ⊥ = cc in absurd f
      none false true e = let f : ⊥ = cc in absurd f
      none false false e = (refl, refl)

  begins : (u : DiaryState) → AreHeldToo lemmas new_start u → IsBeside [] old_start u
  begins u r = record {
    kept = λ p has h. (let o = own_held p h in ⊎_elim
        (λ lt. r.kept (places p) (held_new (places p) lt (is.left p) (is.chains p has ∙ o.1)))
        (λ c. r.all p c)
        (is.held p has o.0 o.1));
    only = λ q h. ⊎_elim
        (λ old. (let k = new_held q old in let o = is.only q k.0 k.1 k.2 in (
          o.0,
          o.1,
          o.2,
          ⊎_elim (λ lt. inl (held_own o.0 lt o.3)) (λ e. inr (e.1, e.0, λ c. Contains-nil (Take o.0) c)) o.4,
        )))
        (λ k. (let l = is.lemmas_are k.0 k.1 in (k.0, k.2, l.0, inl (held_own k.0 l.1 l.2))))
        (r.only q h);
    chains = r.chains;
    puts = r.puts;
    drops = r.drops refl;
  }

  -- ---- the diary

  takes_left : (ps : List ℕ) → AllByRecursion (λ l. is_deleted deleted (place_of l) ≡ false) (takes ps)
  takes_left [] = tt
  takes_left (p ∷ ps) = (is.left p, takes_left ps)

  lines_left : (ls : List DiaryLine) → AllByRecursion (λ l. is_deleted deleted (place_of l) ≡ false) (map (placed_line places) ls)
  lines_left [] = tt
  lines_left (Take p ∷ ls) = (is.left p, lines_left ls)
  lines_left (Put p ∷ ls) = (is.left p, lines_left ls)
  lines_left (Drop p ∷ ls) = (is.left p, lines_left ls)

  pub spent_placed : (budget : ℕ) (ls : List DiaryLine) → AreNamed ls → AreTakenFirst log from [] ls → IsSpent own budget ls → IsSpentWithout deleted new budget (takes lemmas ++ map (placed_line places) ls)
  spent_placed budget ls n first h =
      let begun = takes_hold lemmas new_start (λ p c. ((is.lemmas_are p c).0, (is.lemmas_are p c).2)) in
      let after = lines_after new new_start (takes lemmas) in
      let rest = lines_placed [] ls old_start after (begins after begun.1) n first h.stand in
      record {
        spent = record {
          stand = lines_both new new_start (takes lemmas) (map (placed_line places) ls) begun.0 rest.0;
          puts = ap (λ (r : DiaryState). r.puts) (after_both new new_start (takes lemmas) (map (placed_line places) ls)) ∙ rest.1 ∙ h.puts;
          last = put_last (takes lemmas) (map (placed_line places) ls) (put_placed places ls h.last);
        };
        left = each_append (λ (l : DiaryLine). is_deleted deleted (place_of l) ≡ false) (takes lemmas) (map (placed_line places) ls) (takes_left lemmas) (lines_left ls);
      }

-- What is true of the trail of a search.
use Rattle.std.proofs.Common.{ℕ, ◌≡◌, ◌≢◌, ◌+◌, ◌-◌, ◌*◌, ◌/◌, ◌<◌, ◌≤◌, Bool, true, false, List, [], Some, length, take, cond, sym, ap, ◌∙◌, inl, inr, arith}
use Rattle.std.specs.Prelude.{slice_get, Contains}
use Rattle.std.proofs.Math.ListN.{get_or}
use Rattle.std.proofs.lemmas.List.{get_or-take, length-take-le}
use Rattle.std.proofs.lemmas.Option.{slice_get-get_or, get_or_from_slice_get, slice_get_within}
use Rattle.cnf_base.specs.Literals.{Literal, code_of, negated}
use Rattle.cnf_base.specs.declared.clause.ClauseId.{ClauseId}
use Rattle.cnf_base.proofs.Codes.{code_of-literal_of, negated-negated}
use Rattle.cdcl_core.specs.declared.trail.Trail.{Trail}
use Rattle.cdcl_core.specs.declared.watches.Watches.{Watches}
use Rattle.cdcl_core.specs.declared.watches.Kind.{Kind}
use Rattle.cdcl_core.specs.declared.watches.Kind.TheVariants.{Watched}
use Rattle.cdcl_core.specs.Chains.{times}
use Rattle.cdcl_core.specs.Levels.{Row, IsTrueBy, IsFalseBy, RestsBy}
use Rattle.cdcl_core.specs.Search.{literals_of, level_of, clause_of, held_of, IsConflict}
use Rattle.cdcl_core.specs.Stamps.{neg, is_set, Has, IsTrueAt, RestsAt, IsTrail}
use Rattle.cdcl_core.specs.Watched.{kind_at, IsWatched, IsWatching, Kept}
use Rattle.cdcl_core.specs.State.{no_row, all_codes, IsSettled}
use Rattle.cdcl_core.proofs.Counting.{neg_neg}
use Rattle.cdcl_core.proofs.Trails.{entry_true, trail_len, rises}
use Rattle.cdcl_core.proofs.Resting.{places_of, watching_mate, true_or_not}
use Rattle.cdcl_core.proofs.Bridge.{literals_length, code_of-negated, rests_rows}
use Rattle.cdcl_core.proofs.Held.{held_kinds, held_kept}
use Rattle.cdcl_core.proofs.Public.{slot_of, IsSlot, false_is_not}
use Rattle.cdcl_core.proofs.Forced.{settled_forced}
use Rattle.cdcl_learn.specs.Rows.{row_at, literal_at, level_at, reason_at, IsFalseBefore, IsHistory, IsRefutedIn, AreRising}
use Rattle.cdcl_learn.specs.Walks.{IsSet}
use Rattle.cdcl_learn.proofs.Lists.{one_place}

-- the place of a true literal
pub place_of_true : (rows : List Row) (j : ℕ) (l : Literal) → IsTrueBy rows j l → (k : ℕ) × ((k < length rows) × ((literal_at rows k ≡ l) × (level_at rows k ≤ j)))
place_of_true rows j l h =
    let k : ℕ = h.0 in
    let e : slice_get rows k ≡ Some (l, h.1.0, h.1.1.0) = h.1.1.1.0 in
    let row : row_at rows k ≡ (l, h.1.0, h.1.1.0) = get_or_from_slice_get rows k (l, h.1.0, h.1.1.0) no_row e in
    let level : level_at rows k ≡ h.1.0 = ap (λ (r : Row). r.1) row in
    (k, (slice_get_within rows k (l, h.1.0, h.1.1.0) e, (ap (λ (r : Row). r.0) row, omega (arith, level, h.1.1.1.1))))

pub true_at_place : (rows : List Row) (j k : ℕ) (l : Literal) → k < length rows → literal_at rows k ≡ l → level_at rows k ≤ j → IsTrueBy rows j l
true_at_place rows j k l h e low =
    let row : Row = row_at rows k in
    (k, (row.1, (row.2, (slice_get-get_or rows k no_row h ∙ ap (λ x. Some (x, row.1, row.2)) e, low))))

-- a literal that is false in a front of the trail
pub false_before : (rows : List Row) (i j : ℕ) (m : Literal) → i ≤ length rows → IsFalseBy (take i rows) j m → IsFalseBefore rows i m
false_before rows i j m h f =
    let p : (k : ℕ) × ((k < length (take i rows)) × ((literal_at (take i rows) k ≡ negated m) × (level_at (take i rows) k ≤ j))) = place_of_true (take i rows) j (negated m) f in
    let low : p.0 < i = (let a : p.0 < length (take i rows) = p.1.0 in rw (length-take-le i rows h) at a) in
    (p.0, (low, ap (λ (r : Row). r.0) (sym (get_or-take i rows p.0 no_row low)) ∙ p.1.1.0))

bit_small : (b : Bool) → cond b 1 0 ≤ 1
bit_small true = omega arith
bit_small false = omega arith

module _ (w : Watches) (t : Trail) (st : IsSettled w t) where
  size : length (literals_of t) ≡ t.len
  size = literals_length t st.trail st.shown

  at_row : (i : ℕ) → i < t.len → row_at (literals_of t) i ≡ get_or t.rows.items i no_row
  at_row i h = get_or-take t.len t.rows.items i no_row h

  shows : (i : ℕ) → i < t.len → code_of (literal_at (literals_of t) i) ≡ get_or t.codes.items i 0
  shows i h = ap code_of (ap (λ (r : Row). r.0) (at_row i h) ∙ st.shown.literal i h) ∙ code_of-literal_of (get_or t.codes.items i 0)

  shows_level : (i : ℕ) → i < t.len → level_at (literals_of t) i + 1 ≡ get_or t.stamps.items (get_or t.codes.items i 0) 0
  shows_level i h = ap (λ (r : Row). r.1 + 1) (at_row i h) ∙ st.shown.level i h

  settled_once : (i k : ℕ) → i < length (literals_of t) → k < length (literals_of t) → literal_at (literals_of t) i ≡ literal_at (literals_of t) k → i ≡ k
  settled_once i k hi hk e =
      let ai : i < t.len = rw size at hi in
      let ak : k < t.len = rw size at hk in
      let es : List ℕ = t.codes.items in
      let q : ℕ = get_or es k 0 in
      let same : get_or es i 0 ≡ q = sym (shows i ai) ∙ (ap code_of e ∙ shows k ak) in
      let long : length (take t.len es) ≡ t.len = length-take-le t.len es (trail_len t.stamps.items es t.len t.head t.level st.trail) in
      let few : times q (take t.len es) ≤ 1 = rw (st.trail.once q) (bit_small (is_set (get_or t.stamps.items q 0))) in
      one_place q (take t.len es) i k few (rw long ai) (rw long ak) (get_or-take t.len es i 0 ai ∙ same) (get_or-take t.len es k 0 ak)

  settled_apart : (i k : ℕ) → i < length (literals_of t) → k < length (literals_of t) → literal_at (literals_of t) i ≢ negated (literal_at (literals_of t) k)
  settled_apart i k hi hk e =
      let ai : i < t.len = rw size at hi in
      let ak : k < t.len = rw size at hk in
      let es : List ℕ = t.codes.items in
      let opposite : get_or es i 0 ≡ neg (get_or es k 0) = sym (shows i ai) ∙ (ap code_of e ∙ (code_of-negated (literal_at (literals_of t) k) ∙ ap neg (shows k ak))) in
      let on_i : 0 < get_or t.stamps.items (get_or es i 0) 0 = entry_true t.stamps.items es t.len t.head t.level i st.trail ai in
      let on_k : 0 < get_or t.stamps.items (get_or es k 0) 0 = entry_true t.stamps.items es t.len t.head t.level k st.trail ak in
      let off : get_or t.stamps.items (neg (get_or es k 0)) 0 ≡ 0 = st.trail.apart (get_or es k 0) on_k in
      let off2 : get_or t.stamps.items (get_or es i 0) 0 ≡ 0 = rw opposite off in
      omega (arith, on_i, off2)

  settled_reason : (i : ℕ) (id : ClauseId) → i < length (literals_of t) → reason_at (literals_of t) i ≡ Some id →
      (c : List Literal) × ((clause_of w id ≡ Some c) × (Contains c (literal_at (literals_of t) i) × ((m : Literal) → Contains c m → m ≢ literal_at (literals_of t) i → IsFalseBefore (literals_of t) i m)))
  settled_reason i id h e =
      let row : Row = row_at (literals_of t) i in
      let at : slice_get (literals_of t) i ≡ Some (row.0, row.1, Some id) = slice_get-get_or (literals_of t) i no_row h ∙ ap (λ x. Some (row.0, row.1, x)) e in
      let f : (c : List Literal) × ((clause_of w id ≡ Some c) × (Contains c row.0 × ((m : Literal) → Contains c m → m ≢ row.0 → IsFalseBy (take i (literals_of t)) (level_of t) m))) = settled_forced w t st i row.0 row.1 id at in
      (f.0, (f.1.0, (f.1.1.0, λ m c ne. false_before (literals_of t) i (level_of t) m (omega (arith, h)) (f.1.1.1 m c ne))))

  pub history_of : IsHistory (clause_of w) (literals_of t)
  history_of = record { once = settled_once; apart = settled_apart; forced = settled_reason }

  pub rising_of : AreRising (literals_of t) (level_of t)
  rising_of = record {
    rise = λ i k le h.
        let ak : k < t.len = rw size at h in
        let es : List ℕ = t.codes.items in
        let d : ℕ = k - i in
        let to : i + d ≡ k = omega (arith, le) in
        let up : get_or t.stamps.items (get_or es i 0) 0 ≤ get_or t.stamps.items (get_or es (i + d) 0) 0 = rises t.stamps.items es t.len t.level i d st.trail.levels (omega (arith, to, ak)) in
        let up2 : get_or t.stamps.items (get_or es i 0) 0 ≤ get_or t.stamps.items (get_or es k 0) 0 = rw to at up in
        omega (arith, up2, shows_level i (omega (arith, le, ak)), shows_level k ak);
    top = λ i h. let ai : i < t.len = rw size at h in omega (arith, shows_level i ai, st.trail.top (get_or t.codes.items i 0));
  }

  pub refuted_of : (id : ClauseId) → IsConflict w t id → IsRefutedIn (clause_of w) (literals_of t) id
  refuted_of id f = (
    f.0,
    (
      held_kept w id f.0 f.1.0,
      λ m c.
          let p : (k : ℕ) × ((k < length (literals_of t)) × ((literal_at (literals_of t) k ≡ negated m) × (level_at (literals_of t) k ≤ level_of t))) = place_of_true (literals_of t) (level_of t) (negated m) (f.1.1 m c) in
          (p.0, (p.1.0, p.1.1.0)),
    ),
  )

-- a watched clause rests at the end of each lower level
rests_below : (L : List (List ℕ)) (ws : List ℕ) (ks : List Kind) (cs : List (List ℕ)) (ss es : List ℕ) (len head level : ℕ) → IsTrail ss es len head level → IsWatched L ws ks cs ss es head (length ss) 0 → (s j : ℕ) → j < level → 1 ≤ s → s < length ks → kind_at ks s ≡ Watched → RestsAt ss j (get_or cs s [])
rests_below L ws ks cs ss es len head level t w s j under lo hi kind =
    let k : ℕ = 2 * s in
    let k2 : ℕ = neg k in
    let at_s : IsWatching ks k × ((k / 2 ≡ s) × (k2 / 2 ≡ s)) = places_of ks s lo hi kind in
    let on : IsWatching ks k = at_s.0 in
    let on2 : IsWatching ks k2 = watching_mate ks k on in
    let a : ℕ = get_or ws k 0 in
    let b : ℕ = get_or ws k2 0 in
    let has_a : Has (get_or cs s []) a = rw at_s.1.0 at (w.inside k on) in
    let has_b : Has (get_or cs s []) b = rw at_s.1.1 at (w.inside k2 on2) in
    let below : (q : ℕ) → IsWatching ks q → get_or ws q 0 ≢ length ss = λ q o u. omega (arith, u, w.within (q / 2) (get_or ws q 0) (w.inside q o)) in
    let done : (l : ℕ) → IsTrueAt ss j l → 0 < times l (take head es) = λ l h. t.below l h.0 (omega (arith, under, h.1)) in
    elim (true_or_not ss j (neg a)) [
      | inl x ↦ let y : Kept ss a b = w.kept k on (below k on) (done (neg a) x) in inl (b, (has_b, (y.0, omega (arith, y.1, x.1))))
      | inr x ↦ elim (true_or_not ss j (neg b)) [
        | inl z ↦ let y : Kept ss b (get_or ws (neg k2) 0) = w.kept k2 on2 (below k2 on2) (done (neg b) z) in
            let y2 : Kept ss b a = rw neg_neg at y in inl (a, (has_a, (y2.0, omega (arith, y2.1, z.1))))
        | inr z ↦ inr (a, (b, (has_a, (has_b, (w.differ k on, (x, z))))))
      ]
    ]

-- at the end of a lower level every held clause rests
pub lower_rest : (w : Watches) (t : Trail) → IsSettled w t → (id : ClauseId) (c : List Literal) (j : ℕ) → held_of w id ≡ Some c → j < level_of t → RestsBy (literals_of t) j c
lower_rest w t st id c j e below =
    let q : (s : ℕ) × IsSlot w id c s = slot_of w t id c st e in
    let s : ℕ = q.0 in
    let cs : List (List ℕ) = all_codes w.clauses.items in
    let r : RestsAt t.stamps.items j (get_or cs s []) = elim (held_kinds (kind_at w.kinds.items s) q.1.held) [
      | inl f ↦ elim (st.fixed.value s q.1.low q.1.high f) [
        | inl a ↦ inl (a.0, (a.1.0, (omega (arith, a.1.1), omega (arith, a.1.1))))
        | inr a ↦ let calm : w.refuted ≡ false = st.calm (omega (arith, below)) in false_is_not (sym calm ∙ a.0)
      ]
      | inr v ↦ rests_below w.lists.lists w.lists.literals w.kinds.items cs t.stamps.items t.codes.items t.len t.head t.level st.trail st.watched s j below q.1.low q.1.high v
    ] in
    rests_rows t j c st.trail st.shown (rw q.1.read r)

-- a clause that rests is not false
pub not_refuted : (rows : List Row) (j : ℕ) (c : List Literal) → ((i k : ℕ) → i < length rows → k < length rows → literal_at rows i ≢ negated (literal_at rows k)) → RestsBy rows j c → ((m : Literal) → Contains c m → IsFalseBy rows j m) → ⊥
not_refuted rows j c apart rest f = elim rest [
  | inl a ↦
      let on : (k : ℕ) × ((k < length rows) × ((literal_at rows k ≡ a.0) × (level_at rows k ≤ j))) = place_of_true rows j a.0 a.1.1 in
      let off : (k : ℕ) × ((k < length rows) × ((literal_at rows k ≡ negated a.0) × (level_at rows k ≤ j))) = place_of_true rows j (negated a.0) (f a.0 a.1.0) in
      apart off.0 on.0 off.1.0 on.1.0 (off.1.1.0 ∙ ap negated (sym on.1.1.0))
  | inr a ↦ a.1.1.1.1.1.0 (f a.0 a.1.1.0)
]

-- a conflict has a literal of the present level
pub conflict_now : (w : Watches) (t : Trail) (id : ClauseId) (marks : List Bool) → IsSettled w t → 0 < level_of t → IsConflict w t id →
    ((c : List Literal) → clause_of w id ≡ Some c → (p : ℕ) → p < length (literals_of t) → Contains c (negated (literal_at (literals_of t) p)) → IsSet marks p) →
    ((p : ℕ) → p < length (literals_of t) → IsSet marks p → level_at (literals_of t) p < level_of t) → ⊥
conflict_now w t id marks st above f marked low =
    let rows : List Row = literals_of t in
    let c : List Literal = f.0 in
    let r : IsRefutedIn (clause_of w) rows id = refuted_of w t st id f in
    not_refuted rows (level_of t - 1) c (history_of w t st).apart (lower_rest w t st id c (level_of t - 1) f.1.0 (omega (arith, above)))
    (λ m h.
    let p : (k : ℕ) × ((k < length (literals_of t)) × ((literal_at (literals_of t) k ≡ negated m) × (level_at (literals_of t) k ≤ level_of t))) = place_of_true rows (level_of t) (negated m) (f.1.1 m h) in
    let back : negated (literal_at rows p.0) ≡ m = ap negated p.1.1.0 ∙ negated-negated m in
    let in_clause : Contains c (negated (literal_at rows p.0)) = rw back h in
    let under : level_at rows p.0 < level_of t = low p.0 p.1.0 (marked c (held_kept w id c f.1.0) p.0 p.1.0 in_clause) in
    true_at_place rows (level_of t - 1) p.0 (negated m) p.1.0 p.1.1.0 (omega (arith, under)))

-- A clause that comes: which of its literals are watched, and what that leaves of the invariant.
use Rattle.std.proofs.Common.{ℕ, ◌≡◌, ◌≢◌, ◌+◌, ◌-◌, ◌*◌, ◌^◌, ◌<◌, ◌≤◌, ◌⊎◌, List, [], ◌∷◌, Some, length, take, refl, sym, ap, ◌∙◌, inl, inr, arith}
use Rattle.std.proofs.Math.ListN.{get_or, set, length-set}
use Rattle.std.proofs.lemmas.List.{get_or-set_other, get_or-set_same, get_or-take, length-take-le, map-set, take-set-le}
use Rattle.std.proofs.lemmas.Bool.{cases_lt}
use Rattle.std.proofs.lemmas.Bool.Decides.{eqb_tells}
use Rattle.cnf_base.specs.Literals.{Literal, literal_of}
use Rattle.cnf_base.specs.declared.clause.ClauseId.{ClauseId}
use Rattle.cdcl_core.specs.declared.trail.Trail.{Trail}
use Rattle.cdcl_core.specs.declared.watches.Watches.{Watches}
use Rattle.cdcl_core.specs.declared.watches.Kind.{Kind}
use Rattle.cdcl_core.specs.declared.watches.Kind.TheVariants.{Free, Watched}
use Rattle.cdcl_core.specs.Chains.{times, rest_of}
use Rattle.cdcl_core.specs.Levels.{Row}
use Rattle.cdcl_core.specs.Stamps.{neg, codes, Has, IsTrueAt, IsTrail, rank}
use Rattle.cdcl_core.specs.Watched.{kind_at, Kept, IsWatched}
use Rattle.cnf_base.specs.Clauses.{no_id}
use Rattle.cdcl_core.specs.State.{all_codes, IsReasoned, IsFixed, IsPlaced, MayCome, Holds}
use Rattle.cdcl_core.proofs.Apart.{watched_not_fixed}
use Rattle.cdcl_core.proofs.Held.{held_if}
use Rattle.cdcl_core.proofs.Trails.{found_at, entry_on, on_trail, trail_len, pushed_trail, has_room, true_on_trail}
use Rattle.cdcl_core.proofs.Watching.{decided_watched}
use Rattle.cdcl_core.proofs.Reasons.{pushed_reasoned, pushed_shown, pushed_fixed, has_row}
use Rattle.cdcl_core.proofs.Spots.{pushed_spots}
use Rattle.cdcl_core.proofs.Visits.{IsPushed}
use Rattle.cdcl_core.proofs.Ranks.{rank_open, rank_set}
use Rattle.cdcl_core.proofs.Slots.{slot_changed, fewer_propagated, reasoned_changed, free_apart, fixed_changed}
use Rattle.cdcl_core.proofs.Hanging.{IsRoom, hung, freed, hung_change}

-- the clause's literals by rank: a first, then b
pub record IsRanked (t : Trail) (c : List ℕ) (a b : ℕ) : Type 0 where
  pub has_a : Has c a
  pub has_b : Has c b
  pub differ : b ≢ a
  pub first : (l : ℕ) → Has c l → rank t.stamps.items l ≤ rank t.stamps.items a
  pub second : (l : ℕ) → Has c l → l ≢ a → rank t.stamps.items l ≤ rank t.stamps.items b
  pub small : t.level + 2 < 2 ^ 64

-- where l is false, what has no greater rank is false, and was so before
pub earlier : (ss es : List ℕ) (len head level l m : ℕ) → IsTrail ss es len head level → level + 2 < 2 ^ 64 → rank ss m ≤ rank ss l → get_or ss (neg l) 0 ≢ 0 → (0 < get_or ss (neg m) 0) × (get_or ss (neg m) 0 ≤ get_or ss (neg l) 0)
earlier ss es len head level l m t small le set_l =
    let top : get_or ss (neg l) 0 ≤ level + 1 = t.top (neg l) in
    elim (eqb_tells (get_or ss (neg m) 0) 0) [
      | inl p ↦ absurd (omega (arith, rank_open ss m p.1, rank_set ss l set_l, le, top, small))
      | inr p ↦ (omega (arith, p.1), omega (arith, rank_set ss m p.1, rank_set ss l set_l, le))
    ]

-- where b is false and a is not, b became so at the present level, or a was true by then
pub unit_now : (t : Trail) (c : List ℕ) (a b : ℕ) → IsTrail t.stamps.items t.codes.items t.len t.head t.level → MayCome t c → IsRanked t c a b → get_or t.stamps.items (neg b) 0 ≢ 0 →
    (get_or t.stamps.items (neg b) 0 ≡ t.level + 1) ⊎ ((0 < get_or t.stamps.items a 0) × (get_or t.stamps.items a 0 ≤ get_or t.stamps.items (neg b) 0))
unit_now t c a b tr may r set_b =
    let ss : List ℕ = t.stamps.items in
    let j : ℕ = get_or ss (neg b) 0 - 1 in
    let e : j + 1 ≡ get_or ss (neg b) 0 = omega (arith, set_b) in
    let before : (m : ℕ) → Has c m → m ≢ a → (0 < get_or ss (neg m) 0) × (get_or ss (neg m) 0 ≤ get_or ss (neg b) 0) = λ m h ne. earlier ss t.codes.items t.len t.head t.level b m tr r.small (r.second m h ne) set_b in
    elim (cases_lt j t.level) [
      | inr h ↦ inl (omega (arith, tr.top (neg b)))
      | inl h ↦ elim (may.rests j h) [
        | inl x ↦ elim (eqb_tells x.0 a) [
          | inl y ↦ inr (rw (← y.1) (x.1.1.0, omega (arith, x.1.1.1)))
          | inr y ↦ absurd (omega (arith, tr.apart x.0 x.1.1.0, (before x.0 x.1.0 y.1).0))
        ]
        | inr x ↦ elim (eqb_tells x.0 a) [
          | inr y ↦ absurd (let f = before x.0 x.1.1.0 y.1 in x.1.1.1.1.1.0 (f.0, omega (arith, f.1)))
          | inl y ↦ absurd (let f = before x.1.0 x.1.1.1.0 (λ u. x.1.1.1.1.0 (y.1 ∙ sym u)) in x.1.1.1.1.1.1 (f.0, omega (arith, f.1)))
        ]
      ]
    ]

-- where both are false, both became so at the present level
pub false_at_level : (t : Trail) (c : List ℕ) (a b : ℕ) → IsTrail t.stamps.items t.codes.items t.len t.head t.level → MayCome t c → IsRanked t c a b → get_or t.stamps.items (neg b) 0 ≢ 0 → get_or t.stamps.items (neg a) 0 ≢ 0 →
    (get_or t.stamps.items (neg a) 0 ≡ t.level + 1) × (get_or t.stamps.items (neg b) 0 ≡ t.level + 1)
false_at_level t c a b tr may r set_b set_a =
    let ss : List ℕ = t.stamps.items in
    let before : (m : ℕ) → Has c m → (0 < get_or ss (neg m) 0) × (get_or ss (neg m) 0 ≤ get_or ss (neg a) 0) = λ m h. earlier ss t.codes.items t.len t.head t.level a m tr r.small (r.first m h) set_a in
    let second : (m : ℕ) → Has c m → m ≢ a → get_or ss (neg m) 0 ≤ get_or ss (neg b) 0 = λ m h ne. (earlier ss t.codes.items t.len t.head t.level b m tr r.small (r.second m h ne) set_b).1 in
    let up : get_or ss (neg b) 0 ≤ get_or ss (neg a) 0 = (before b r.has_b).1 in
    let down : t.level + 1 ≤ get_or ss (neg b) 0 = elim (cases_lt 0 t.level) [
      | inr h ↦ omega (arith, set_b)
      | inl h ↦ elim (may.rests (t.level - 1) (omega arith)) [
        | inl x ↦ absurd (omega (arith, tr.apart x.0 x.1.1.0, (before x.0 x.1.0).0))
        | inr x ↦ elim (eqb_tells x.0 a) [
          | inr y ↦ late (neg x.0) (get_or ss (neg b) 0) ss t.level (before x.0 x.1.1.0).0 (second x.0 x.1.1.0 y.1) x.1.1.1.1.1.0 h
          | inl y ↦ late (neg x.1.0) (get_or ss (neg b) 0) ss t.level (before x.1.0 x.1.1.1.0).0 (second x.1.0 x.1.1.1.0 (λ u. x.1.1.1.1.0 (y.1 ∙ sym u))) x.1.1.1.1.1.1 h
        ]
      ]
    ] in
    (omega (arith, up, down, tr.top (neg a)), omega (arith, down, tr.top (neg b)))
  where
    late : (x bound : ℕ) (ss : List ℕ) (level : ℕ) → 0 < get_or ss x 0 → get_or ss x 0 ≤ bound → (IsTrueAt ss (level - 1) x → ⊥) → 0 < level → level + 1 ≤ bound
    late x bound ss level pos le never h = elim (cases_lt level (get_or ss x 0)) [ inl a ↦ omega arith | inr a ↦ absurd (never (pos, omega arith)) ]

-- the watches after a clause was put into a slot
pub record IsHung (w w2 : Watches) (s a b : ℕ) (c : List Literal) : Type 0 where
  pub holds : Holds w w2 s Watched c
  pub calm : w2.refuted ≡ w.refuted
  pub literals : w2.lists.literals ≡ set (set w.lists.literals (2 * s) a) (2 * s + 1) b
  pub lists : w2.lists.lists ≡ hung w.lists.lists s a b

pub hung_lists : (L : List (List ℕ)) (s a b : ℕ) → set (set (set L 1 (rest_of (get_or L 1 []))) (a + 1) (2 * s ∷ get_or L (a + 1) [])) (b + 1) ((2 * s + 1) ∷ get_or (set (set L 1 (rest_of (get_or L 1 []))) (a + 1) (2 * s ∷ get_or L (a + 1) [])) (b + 1) []) ≡ hung L s a b
unfolding hung freed
hung_lists L s a b = refl

-- the codes of the clauses after one was put into a slot
pub codes_after : (w w2 : Watches) (s : ℕ) (k : Kind) (c : List Literal) → Holds w w2 s k c → all_codes w2.clauses.items ≡ set (all_codes w.clauses.items) s (codes c)
codes_after w w2 s k c h = ap all_codes h.clauses ∙ map-set codes w.clauses.items s c

pub hung_watched : (w w2 : Watches) (ss es : List ℕ) (head s a b : ℕ) (c : List Literal) → IsWatched w.lists.lists w.lists.literals w.kinds.items (all_codes w.clauses.items) ss es head (length ss) 0 → IsRoom w.lists.lists w.lists.literals w.kinds.items (all_codes w.clauses.items) s →
    ((l : ℕ) → Has (codes c) l → 2 ≤ l) → ((l : ℕ) → Has (codes c) l → l < length ss) → Has (codes c) a → Has (codes c) b → b ≢ a → (0 < times (neg a) (take head es) → Kept ss a b) → (0 < times (neg b) (take head es) → Kept ss b a) → IsHung w w2 s a b c →
    IsWatched w2.lists.lists w2.lists.literals w2.kinds.items (all_codes w2.clauses.items) ss es head (length ss) 0
hung_watched w w2 ss es head s a b c wd r low within has_a has_b differ kept_a kept_b h =
    rw (h.lists, h.literals, h.holds.kinds, codes_after w w2 s Watched c h.holds)
    (slot_changed w.lists.lists w.lists.literals w.kinds.items (all_codes w.clauses.items) (hung w.lists.lists s a b) (set (set w.lists.literals (2 * s) a) (2 * s + 1) b) (set w.kinds.items s Watched) (set (all_codes w.clauses.items) s (codes c)) ss es head s wd
    (hung_change w.lists.lists w.lists.literals w.kinds.items (all_codes w.clauses.items) ss es head s a b (codes c) wd r low within has_a has_b differ kept_a kept_b))

pub kind_other : (w w2 : Watches) (s : ℕ) (k : Kind) (c : List Literal) (q : ℕ) → Holds w w2 s k c → q ≢ s → kind_at w2.kinds.items q ≡ kind_at w.kinds.items q
kind_other w w2 s k c q h ne = rw h.kinds (get_or-set_other w.kinds.items s q k Free ne)

pub clause_other : (w w2 : Watches) (s : ℕ) (k : Kind) (c : List Literal) (q : ℕ) → Holds w w2 s k c → q ≢ s → get_or (all_codes w2.clauses.items) q [] ≡ get_or (all_codes w.clauses.items) q []
clause_other w w2 s k c q h ne = rw (codes_after w w2 s k c h) (get_or-set_other (all_codes w.clauses.items) s q (codes c) [] ne)

pub held_reasoned : (w w2 : Watches) (s : ℕ) (k : Kind) (c : List Literal) (rows : List Row) (es rs : List ℕ) (len : ℕ) → IsReasoned (all_codes w.clauses.items) w.kinds.items w.ids.items rows es rs len → kind_at w.kinds.items s ≡ Free → Holds w w2 s k c → IsReasoned (all_codes w2.clauses.items) w2.kinds.items w2.ids.items rows es rs len
held_reasoned w w2 s k c rows es rs len r free h =
    rw h.ids (reasoned_changed (all_codes w.clauses.items) w.kinds.items w.ids.items rows es rs len (all_codes w2.clauses.items) w2.kinds.items s r
    (free_apart (all_codes w.clauses.items) w.kinds.items w.ids.items rows es rs len s r free) (rw (h.kinds, length-set) refl) (λ q ne. kind_other w w2 s k c q h ne) (λ q ne. clause_other w w2 s k c q h ne))

pub held_fixed : (w w2 : Watches) (s : ℕ) (c : List Literal) (ss : List ℕ) → IsFixed w.kinds.items (all_codes w.clauses.items) ss w.refuted → s < length w.kinds.items → Holds w w2 s Watched c → w2.refuted ≡ w.refuted → IsFixed w2.kinds.items (all_codes w2.clauses.items) ss w2.refuted
held_fixed w w2 s c ss f hi h e =
    let now : kind_at w2.kinds.items s ≡ Watched = rw h.kinds (get_or-set_same w.kinds.items s Watched Free hi) in
    fixed_changed w.kinds.items (all_codes w.clauses.items) ss w.refuted w2.refuted w2.kinds.items (all_codes w2.clauses.items) s f (rw (h.kinds, length-set) refl) (λ q ne. kind_other w w2 s Watched c q h ne) (λ q ne. clause_other w w2 s Watched c q h ne) (λ x. e ∙ x)
    (λ k. absurd (watched_not_fixed (sym now ∙ k)))

pub held_rows : (w w2 : Watches) (s : ℕ) (k : Kind) (c : List Literal) → length w.kinds.items ≤ length w.ids.items → Holds w w2 s k c → length w2.kinds.items ≤ length w2.ids.items
held_rows w w2 s k c le h = rw (h.kinds, h.ids, length-set) le

-- the clause comes and the trail stays, but for where propagation begins
pub hung_placed : (w w2 : Watches) (t : Trail) (head s a b : ℕ) (c : List Literal) → IsPlaced w t → IsRoom w.lists.lists w.lists.literals w.kinds.items (all_codes w.clauses.items) s → MayCome t (codes c) → Has (codes c) a → Has (codes c) b → b ≢ a → IsHung w w2 s a b c → head ≤ t.head → IsTrail t.stamps.items t.codes.items t.len head t.level →
    (0 < times (neg a) (take head t.codes.items) → Kept t.stamps.items a b) → (0 < times (neg b) (take head t.codes.items) → Kept t.stamps.items b a) → get_or w2.lists.lists 0 [] ≡ [] →
    IsPlaced w2 (record { stamps = t.stamps; codes = t.codes; reasons = t.reasons; rows = t.rows; spots = t.spots; len = t.len; head = head; level = t.level })
hung_placed w w2 t head s a b c p r may has_a has_b differ h le tr kept_a kept_b idle = record {
  trail = tr;
  shown = p.shown;
  spots = p.spots;
  watched = hung_watched w w2 t.stamps.items t.codes.items head s a b c (fewer_propagated w.lists.lists w.lists.literals w.kinds.items (all_codes w.clauses.items) t.stamps.items t.codes.items t.head head le p.watched) r may.named may.within has_a has_b differ kept_a kept_b h;
  idle = idle;
  reasoned = held_reasoned w w2 s Watched c t.rows.items t.codes.items t.reasons.items t.len p.reasoned r.free h.holds;
  rows = held_rows w w2 s Watched c p.rows h.holds;
  fixed = held_fixed w w2 s c t.stamps.items p.fixed r.high h.holds h.calm;
  calm = λ u. h.calm ∙ p.calm u;
}

pub hung_idle : (L : List (List ℕ)) (s a b : ℕ) → get_or L 0 [] ≡ [] → get_or (hung L s a b) 0 [] ≡ []
unfolding hung freed
hung_idle L s a b e =
    get_or-set_other (set (set L 1 (rest_of (get_or L 1 []))) (a + 1) (2 * s ∷ get_or L (a + 1) [])) (b + 1) 0 ((2 * s + 1) ∷ get_or (set (set L 1 (rest_of (get_or L 1 []))) (a + 1) (2 * s ∷ get_or L (a + 1) [])) (b + 1) []) [] (λ u. omega (arith, u))
    ∙ (get_or-set_other (set L 1 (rest_of (get_or L 1 []))) (a + 1) 0 (2 * s ∷ get_or L (a + 1) []) [] (λ u. omega (arith, u)) ∙ (get_or-set_other L 1 0 (rest_of (get_or L 1 [])) [] (λ u. omega (arith, u)) ∙ e))

-- a literal that is not before the head
pub not_before : (ss es : List ℕ) (head level x : ℕ) → head ≤ length es → ((i : ℕ) → i < head → get_or ss (get_or es i 0) 0 ≤ level) → level < get_or ss x 0 → 0 < times x (take head es) → ⊥
not_before ss es head level x le low high h =
    let f : (i : ℕ) × ((i < length (take head es)) × (get_or (take head es) i 0 ≡ x)) = found_at x (take head es) h in
    let hi : f.0 < head = (let a : f.0 < length (take head es) = f.1.0 in rw (length-take-le head es le) at a) in
    let e : get_or es f.0 0 ≡ x = sym (get_or-take head es f.0 0 hi) ∙ f.1.1 in
    let l : get_or ss (get_or es f.0 0) 0 ≤ level = low f.0 hi in
    let l2 : get_or ss x 0 ≤ level = rw e at l in
    omega (arith, l2, high)

-- propagation begins again at the present level
pub rewound : (ss es : List ℕ) (len head level head2 : ℕ) → IsTrail ss es len head level → head2 ≤ head → ((i : ℕ) → head2 ≤ i → i < head → level < get_or ss (get_or es i 0) 0) → IsTrail ss es len head2 level
rewound ss es len head level head2 t le after = record {
  once = t.once;
  apart = t.apart;
  named = t.named;
  top = t.top;
  below = λ q pos low.
      let size : head ≤ length es = omega (arith, t.reached, trail_len ss es len head level t) in
      let f : (i : ℕ) × ((i < length (take head es)) × (get_or (take head es) i 0 ≡ q)) = found_at q (take head es) (t.below q pos low) in
      let hi : f.0 < head = (let a : f.0 < length (take head es) = f.1.0 in rw (length-take-le head es size) at a) in
      let e : get_or es f.0 0 ≡ q = sym (get_or-take head es f.0 0 hi) ∙ f.1.1 in
      elim (cases_lt f.0 head2) [
        | inl a ↦ rw (← e) (entry_on es head2 f.0 a (omega arith))
        | inr a ↦ absurd (let h : level < get_or ss (get_or es f.0 0) 0 = after f.0 a hi in let h2 : level < get_or ss q 0 = rw e at h in omega (arith, h2, low))
      ];
  count = t.count;
  size = t.size;
  few = t.few;
  even = t.even;
  reached = omega (arith, t.reached);
  levels = t.levels;
}

-- the clause comes and its last open literal is forced
pub hung_unit : (w w2 : Watches) (t t2 : Trail) (s a b : ℕ) (c : List Literal) (id : ClauseId) → IsPlaced w t → IsRoom w.lists.lists w.lists.literals w.kinds.items (all_codes w.clauses.items) s → MayCome t (codes c) → Has (codes c) a → Has (codes c) b → b ≢ a → IsHung w w2 s a b c → get_or w2.lists.lists 0 [] ≡ [] →
    get_or w.ids.items s no_id ≡ id → get_or t.stamps.items a 0 ≡ 0 → get_or t.stamps.items (neg a) 0 ≡ 0 → get_or t.stamps.items (neg b) 0 ≡ t.level + 1 → ((m : ℕ) → Has (codes c) m → m ≢ a → 0 < get_or t.stamps.items (neg m) 0) → IsPushed t t2 a (t.level + 1) s (literal_of a, t.level, Some id) → IsPlaced w2 t2
hung_unit w w2 t t2 s a b c id p r may has_a has_b differ h idle name free free2 at_b others pu =
    let ss : List ℕ = t.stamps.items in
    let ss2 : List ℕ = set ss a (t.level + 1) in
    let es2 : List ℕ = set t.codes.items t.len a in
    let x : Row = (literal_of a, t.level, Some id) in
    let two : 2 ≤ a = may.named a has_a in
    let ha : a < length ss = may.within a has_a in
    let room : t.len < length t.codes.items = has_room ss t.codes.items t.len t.head t.level a p.trail ha free free2 in
    let wide : t.len < length t.rows.items = has_row t a p.trail p.shown ha free free2 in
    let same : t2.level ≡ t.level = omega (arith, pu.level) in
    let lo : 1 ≤ s = r.low in
    let at_a2 : get_or ss2 a 0 ≡ t.level + 1 = get_or-set_same ss a (t.level + 1) 0 ha in
    let at_b2 : get_or ss2 (neg b) 0 ≡ t.level + 1 = get_or-set_other ss a (neg b) (t.level + 1) 0 (λ e. let z : get_or ss (neg b) 0 ≡ 0 = rw e free in omega (arith, z, at_b)) ∙ at_b in
    let size : length ss2 ≡ length ss = rw length-set refl in
    let clause_now : get_or (all_codes w2.clauses.items) s [] ≡ codes c = rw (codes_after w w2 s Watched c h.holds) (get_or-set_same (all_codes w.clauses.items) s (codes c) [] (let hi : s < length w.kinds.items = r.high in omega (arith, hi, p.watched.clauses))) in
    let kind_now : kind_at w2.kinds.items s ≡ Watched = rw h.holds.kinds (get_or-set_same w.kinds.items s Watched Free r.high) in
    let head_le : t.head ≤ t.len = p.trail.reached in
    let kept_a : 0 < times (neg a) (take t.head es2) → Kept ss2 a b = λ d. absurd (
    let d2 : 0 < times (neg a) (take t.head t.codes.items) = rw (take-set-le t.head t.codes.items t.len a head_le) at d in
    omega (arith, on_trail ss t.codes.items t.len t.head t.level (neg a) p.trail d2, free2)) in
    record {
      trail = rw (pu.stamps, pu.codes, pu.len, pu.head, same) (pushed_trail ss t.codes.items t.len t.head t.level a p.trail two ha free free2);
      shown = rw (pu.rows, pu.stamps, pu.codes, pu.len) (pushed_shown t.rows.items ss t.codes.items t.len t.head t.level a (t.level + 1) x p.trail p.shown ha free room wide refl refl);
      spots = rw (pu.spots, pu.stamps, pu.codes, pu.len) (pushed_spots t.spots.items ss t.codes.items t.len t.head t.level a (t.level + 1) p.trail p.spots ha free free2 room);
      watched = rw (pu.stamps, pu.codes, pu.head) (hung_watched w w2 ss2 es2 t.head s a b c (decided_watched w.lists.lists w.lists.literals w.kinds.items (all_codes w.clauses.items) ss t.codes.items t.len t.head t.level (t.level + 1) a p.watched p.trail ha free) r may.named (λ l hl. rw size (may.within l hl)) has_a has_b differ kept_a
          (λ d. (rw at_a2 (omega arith), rw (at_a2, at_b2) (omega arith))) h);
      idle = idle;
      reasoned = rw (pu.rows, pu.codes, pu.reasons, pu.len) (pushed_reasoned (all_codes w2.clauses.items) w2.kinds.items w2.ids.items t.rows.items t.codes.items t.reasons.items t.len a s x
          (held_reasoned w w2 s Watched c t.rows.items t.codes.items t.reasons.items t.len p.reasoned r.free h.holds) room wide (λ z. absurd (omega (arith, z, lo)))
          (λ _. record {
            forced = rw (h.holds.kinds, length-set) r.high;
            held = held_if (kind_at w2.kinds.items s) Watched kind_now refl;
            name = rw (h.holds.ids, name) refl;
            has = rw clause_now has_a;
            others = λ m hm ne. true_on_trail ss t.codes.items t.len t.head t.level (neg m) p.trail (others m (rw clause_now at hm) ne);
          }));
      rows = held_rows w w2 s Watched c p.rows h.holds;
      fixed = rw pu.stamps (held_fixed w w2 s c ss2 (pushed_fixed w.kinds.items (all_codes w.clauses.items) ss w.refuted a (t.level + 1) p.fixed ha free) r.high h.holds h.calm);
      calm = λ u. h.calm ∙ p.calm (rw same at u);
    }

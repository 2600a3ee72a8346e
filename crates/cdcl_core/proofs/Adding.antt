-- The cases of a clause that comes, as `add` tells them apart.
use Rattle.std.proofs.Common.{ℕ, ◌≡◌, ◌≢◌, ◌+◌, ◌*◌, ◌<◌, ◌≤◌, List, [], Some, length, take, refl, sym, ◌∙◌, inl, inr, arith}
use Rattle.std.specs.Prelude.{Contains}
use Rattle.std.specs.List.{sum_by}
use Rattle.std.proofs.Math.ListN.{get_or}
use Rattle.std.proofs.lemmas.List.Sums.{get_or-le-sum_by}
use Rattle.std.proofs.lemmas.Bool.{cases_lt}
use Rattle.std.proofs.lemmas.Bool.Decides.{eqb_tells}
use Rattle.cnf_base.specs.Literals.{Literal, code_of, literal_of}
use Rattle.cnf_base.specs.declared.clause.ClauseId.{ClauseId}
use Rattle.cdcl_core.specs.declared.trail.Trail.{Trail}
use Rattle.cdcl_core.specs.declared.watches.Watches.{Watches}
use Rattle.cdcl_core.specs.Chains.{times}
use Rattle.cdcl_core.specs.Levels.{RestsBy, IsAdded}
use Rattle.cdcl_core.specs.Search.{literals_of, level_of}
use Rattle.cdcl_core.specs.Stamps.{neg, codes, Has, IsFalse, RestsAt}
use Rattle.cdcl_core.specs.Watched.{Kept}
use Rattle.cnf_base.specs.Clauses.{no_id}
use Rattle.cdcl_core.specs.State.{all_codes, IsPlaced, IsWaiting, MayCome, IsConsistent}
use Rattle.cnf_base.proofs.Codes.{code_of-injective}
use Rattle.cdcl_core.proofs.Trails.{on_trail, trail_len}
use Rattle.cdcl_core.proofs.Visits.{IsPushed}
use Rattle.cdcl_core.proofs.Bridge.{has_to, has_from, rests_rows, rows_rest, refuted_rows, false_rows, unset_open}
use Rattle.cdcl_core.proofs.Decisions.{pushed_rows}
use Rattle.cdcl_core.proofs.Reasons.{has_row}
use Rattle.cdcl_core.proofs.Slots.{sum_zero}
use Rattle.cdcl_core.proofs.Hanging.{IsRoom, free_place}
use Rattle.cdcl_core.proofs.Arrivals.{IsRanked, IsHung, earlier, unit_now, false_at_level, hung_placed, hung_idle, hung_unit, not_before, rewound}

pub room_of : (w : Watches) (t : Trail) (s : ℕ) → IsPlaced w t → IsWaiting w s → 1 < length w.lists.lists → ((q : ℕ) → sum_by (times q) w.lists.lists ≤ 1) → IsRoom w.lists.lists w.lists.literals w.kinds.items (all_codes w.clauses.items) s
room_of w t s p wait one once = record {
  low = wait.low;
  high = wait.high;
  free = wait.free;
  first = wait.first;
  once = (let b : times (2 * s) (get_or w.lists.lists 1 []) ≤ sum_by (times (2 * s)) w.lists.lists = get_or-le-sum_by (times (2 * s)) w.lists.lists 1 [] one in omega (arith, b, once (2 * s)));
}

-- what `add` knows of a clause of two or more literals
pub record IsComing (w w2 : Watches) (t : Trail) (s a b : ℕ) (c : List Literal) : Type 0 where
  pub placed : IsPlaced w t
  pub room : IsRoom w.lists.lists w.lists.literals w.kinds.items (all_codes w.clauses.items) s
  pub may : MayCome t (codes c)
  pub ranked : IsRanked t (codes c) a b
  pub hung : IsHung w w2 s a b c

idle_after : (w w2 : Watches) (t : Trail) (s a b : ℕ) (c : List Literal) → IsComing w w2 t s a b c → get_or w2.lists.lists 0 [] ≡ []
idle_after w w2 t s a b c k = rw k.hung.lists (hung_idle w.lists.lists s a b k.placed.idle)

-- b is not false
pub plain_stamps : (w w2 : Watches) (t : Trail) (s a b : ℕ) (c : List Literal) → IsComing w w2 t s a b c → get_or t.stamps.items (neg b) 0 ≡ 0 → get_or t.stamps.items (neg a) 0 ≡ 0
plain_stamps w w2 t s a b c k free = elim (eqb_tells (get_or t.stamps.items (neg a) 0) 0) [
  | inl p ↦ p.1
  | inr p ↦ absurd (omega (arith, free, (earlier t.stamps.items t.codes.items t.len t.head t.level a b k.placed.trail k.ranked.small (k.ranked.first b k.ranked.has_b) p.1).0))
]

off_trail : (w w2 : Watches) (t : Trail) (s a b : ℕ) (c : List Literal) (x : ℕ) → IsComing w w2 t s a b c → get_or t.stamps.items x 0 ≡ 0 → {A : Type 0} → 0 < times x (take t.head t.codes.items) → A
off_trail w w2 t s a b c x k free d = absurd (omega (arith, free, on_trail t.stamps.items t.codes.items t.len t.head t.level x k.placed.trail d))

pub plain_placed : (w w2 : Watches) (t : Trail) (s a b : ℕ) (c : List Literal) → IsComing w w2 t s a b c → get_or t.stamps.items (neg b) 0 ≡ 0 → IsPlaced w2 t
plain_placed w w2 t s a b c k free =
    hung_placed w w2 t t.head s a b c k.placed k.room k.may k.ranked.has_a k.ranked.has_b k.ranked.differ k.hung (omega arith) k.placed.trail
    (λ d. off_trail w w2 t s a b c (neg a) k (plain_stamps w w2 t s a b c k free) d) (λ d. off_trail w w2 t s a b c (neg b) k free d) (idle_after w w2 t s a b c k)

-- two different literals that are not false
two_rest : (t : Trail) (c : List ℕ) (a b : ℕ) → Has c a → Has c b → b ≢ a → get_or t.stamps.items (neg a) 0 ≡ 0 → get_or t.stamps.items (neg b) 0 ≡ 0 → RestsAt t.stamps.items t.level c
two_rest t c a b has_a has_b ne x y = inr (a, (b, (has_a, (has_b, ((λ e. ne (sym e)), ((λ h. omega (arith, x, h.0)), (λ h. omega (arith, y, h.0))))))))

pub rested : (t : Trail) (id : ClauseId) (c : List Literal) → IsConsistent t → RestsAt t.stamps.items t.level (codes c) → IsAdded (literals_of t) (level_of t) id c (literals_of t)
rested t id c k r = inl (refl, inl (rests_rows t t.level c k.0 k.1 r))

pub plain_added : (w w2 : Watches) (t : Trail) (s a b : ℕ) (c : List Literal) (id : ClauseId) → IsComing w w2 t s a b c → get_or t.stamps.items (neg b) 0 ≡ 0 → IsAdded (literals_of t) (level_of t) id c (literals_of t)
plain_added w w2 t s a b c id k free = rested t id c (k.placed.trail, k.placed.shown) (two_rest t (codes c) a b k.ranked.has_a k.ranked.has_b k.ranked.differ (plain_stamps w w2 t s a b c k free) free)

-- a is true, and b is false
pub true_placed : (w w2 : Watches) (t : Trail) (s a b : ℕ) (c : List Literal) → IsComing w w2 t s a b c → get_or t.stamps.items (neg b) 0 ≢ 0 → get_or t.stamps.items (neg a) 0 ≡ 0 → get_or t.stamps.items a 0 ≢ 0 → IsPlaced w2 t
true_placed w w2 t s a b c k set_b free_a set_a =
    let kept_b : Kept t.stamps.items b a = (omega (arith, set_a), elim (unit_now t (codes c) a b k.placed.trail k.may k.ranked set_b) [ inl e ↦ omega (arith, e, k.placed.trail.top a) | inr e ↦ e.1 ]) in
    hung_placed w w2 t t.head s a b c k.placed k.room k.may k.ranked.has_a k.ranked.has_b k.ranked.differ k.hung (omega arith) k.placed.trail
    (λ d. off_trail w w2 t s a b c (neg a) k free_a d) (λ _. kept_b) (idle_after w w2 t s a b c k)

pub true_added : (w w2 : Watches) (t : Trail) (s a b : ℕ) (c : List Literal) (id : ClauseId) → IsComing w w2 t s a b c → get_or t.stamps.items a 0 ≢ 0 → IsAdded (literals_of t) (level_of t) id c (literals_of t)
true_added w w2 t s a b c id k set_a = rested t id c (k.placed.trail, k.placed.shown) (inl (a, (k.ranked.has_a, (omega (arith, set_a), k.placed.trail.top a))))

-- both are false
pub all_false : (w w2 : Watches) (t : Trail) (s a b : ℕ) (c : List Literal) → IsComing w w2 t s a b c → get_or t.stamps.items (neg a) 0 ≢ 0 → IsFalse t.stamps.items (codes c)
all_false w w2 t s a b c k set_a l h = (earlier t.stamps.items t.codes.items t.len t.head t.level a l k.placed.trail k.ranked.small (k.ranked.first l h) set_a).0

-- a clause that is false is not at rest
pub false_no_rest : (t : Trail) (c : List Literal) → IsConsistent t → IsFalse t.stamps.items (codes c) → RestsBy (literals_of t) (level_of t) c → ⊥
false_no_rest t c k f r = elim (rows_rest t t.level c k.0 k.1 r) [
  | inl x ↦ omega (arith, k.0.apart x.0 x.1.1.0, f x.0 x.1.0)
  | inr x ↦ x.1.1.1.1.1.0 (f x.0 x.1.1.0, k.0.top (neg x.0))
]

pub false_added : (t : Trail) (id : ClauseId) (c : List Literal) → IsConsistent t → IsFalse t.stamps.items (codes c) → IsAdded (literals_of t) (level_of t) id c (literals_of t)
false_added t id c k f = inl (refl, inr (refuted_rows t c k.0 k.1 f))

pub false_placed : (w w2 : Watches) (t : Trail) (head s a b : ℕ) (c : List Literal) → IsComing w w2 t s a b c → get_or t.stamps.items (neg b) 0 ≢ 0 → get_or t.stamps.items (neg a) 0 ≢ 0 → head ≤ t.head →
    ((i : ℕ) → i < head → get_or t.stamps.items (get_or t.codes.items i 0) 0 ≤ t.level) → ((i : ℕ) → head ≤ i → i < t.head → t.level < get_or t.stamps.items (get_or t.codes.items i 0) 0) →
    IsPlaced w2 (record { stamps = t.stamps; codes = t.codes; reasons = t.reasons; rows = t.rows; spots = t.spots; len = t.len; head = head; level = t.level })
false_placed w w2 t head s a b c k set_b set_a le before after =
    let late : (get_or t.stamps.items (neg a) 0 ≡ t.level + 1) × (get_or t.stamps.items (neg b) 0 ≡ t.level + 1) = false_at_level t (codes c) a b k.placed.trail k.may k.ranked set_b set_a in
    let size : head ≤ length t.codes.items = omega (arith, le, k.placed.trail.reached, trail_len t.stamps.items t.codes.items t.len t.head t.level k.placed.trail) in
    hung_placed w w2 t head s a b c k.placed k.room k.may k.ranked.has_a k.ranked.has_b k.ranked.differ k.hung le (rewound t.stamps.items t.codes.items t.len t.head t.level head k.placed.trail le after)
    (λ d. absurd (not_before t.stamps.items t.codes.items head t.level (neg a) size before (omega (arith, late.0)) d)) (λ d. absurd (not_before t.stamps.items t.codes.items head t.level (neg b) size before (omega (arith, late.1)) d)) (idle_after w w2 t s a b c k)

-- b is false and a is open
pub others_false : (w w2 : Watches) (t : Trail) (s a b : ℕ) (c : List Literal) → IsComing w w2 t s a b c → get_or t.stamps.items (neg b) 0 ≢ 0 → (m : ℕ) → Has (codes c) m → m ≢ a → 0 < get_or t.stamps.items (neg m) 0
others_false w w2 t s a b c k set_b m h ne = (earlier t.stamps.items t.codes.items t.len t.head t.level b m k.placed.trail k.ranked.small (k.ranked.second m h ne) set_b).0

pub unit_placed : (w w2 : Watches) (t t2 : Trail) (s a b : ℕ) (c : List Literal) (id : ClauseId) → IsComing w w2 t s a b c → get_or w.ids.items s no_id ≡ id → get_or t.stamps.items (neg b) 0 ≢ 0 → get_or t.stamps.items (neg a) 0 ≡ 0 → get_or t.stamps.items a 0 ≡ 0 → IsPushed t t2 a (t.level + 1) s (literal_of a, t.level, Some id) → IsPlaced w2 t2
unit_placed w w2 t t2 s a b c id k name set_b free_a open_a pu =
    let late : get_or t.stamps.items (neg b) 0 ≡ t.level + 1 = elim (unit_now t (codes c) a b k.placed.trail k.may k.ranked set_b) [ inl e ↦ e | inr e ↦ absurd (omega (arith, e.0, open_a)) ] in
    hung_unit w w2 t t2 s a b c id k.placed k.room k.may k.ranked.has_a k.ranked.has_b k.ranked.differ k.hung (idle_after w w2 t s a b c k) name open_a free_a late (others_false w w2 t s a b c k set_b) pu

-- the last open literal of a unit clause is forced
pub forced_added : (t t2 : Trail) (a s : ℕ) (c : List Literal) (id : ClauseId) → IsConsistent t → Has (codes c) a → a < length t.stamps.items → get_or t.stamps.items a 0 ≡ 0 → get_or t.stamps.items (neg a) 0 ≡ 0 → ((m : ℕ) → Has (codes c) m → m ≢ a → 0 < get_or t.stamps.items (neg m) 0) → IsPushed t t2 a (t.level + 1) s (literal_of a, t.level, Some id) → IsAdded (literals_of t) (level_of t) id c (literals_of t2)
forced_added t t2 a s c id k has ha open_a free_a others pu =
    let l : (l : Literal) × (Contains c l × (code_of l ≡ a)) = has_to c a has in
    let wide : t.len < length t.rows.items = has_row t a k.0 k.1 ha open_a free_a in
    inr (
      l.0,
      (
        l.1.0,
        (
          unset_open t l.0 k.0 k.1 (rw l.1.1 open_a) (rw l.1.1 free_a),
          (
            (λ m hm ne. false_rows t t.level m k.0 k.1 (others (code_of m) (has_from c m hm) (λ e. ne (code_of-injective m l.0 (e ∙ sym l.1.1))), k.0.top (neg (code_of m)))),
            pushed_rows t t2 l.0 a (t.level + 1) s t.level (Some id) pu (sym l.1.1) wide,
          ),
        ),
      ),
    )

-- a unit clause is not at rest
pub unit_no_rest : (t : Trail) (a : ℕ) (c : List Literal) → IsConsistent t → get_or t.stamps.items a 0 ≡ 0 → ((m : ℕ) → Has (codes c) m → m ≢ a → 0 < get_or t.stamps.items (neg m) 0) → RestsBy (literals_of t) (level_of t) c → ⊥
unit_no_rest t a c k open_a others r = elim (rows_rest t t.level c k.0 k.1 r) [
  | inl x ↦ elim (eqb_tells x.0 a) [
    | inl y ↦ (let z : 0 < get_or t.stamps.items a 0 = rw y.1 at x.1.1.0 in omega (arith, z, open_a))
    | inr y ↦ omega (arith, k.0.apart x.0 x.1.1.0, others x.0 x.1.0 y.1)
  ]
  | inr x ↦ elim (eqb_tells x.0 a) [
    | inr y ↦ x.1.1.1.1.1.0 (others x.0 x.1.1.0 y.1, k.0.top (neg x.0))
    | inl y ↦ x.1.1.1.1.1.1 (others x.1.0 x.1.1.1.0 (λ u. x.1.1.1.1.0 (y.1 ∙ sym u)), k.0.top (neg x.1.0))
  ]
]

-- the second place of a free slot stands in no list
pub odd_idle : (w : Watches) (t : Trail) (s : ℕ) → IsPlaced w t → IsWaiting w s → sum_by (times (2 * s + 1)) w.lists.lists ≡ 0
odd_idle w t s p wait = sum_zero (times (2 * s + 1)) w.lists.lists (λ i. elim (cases_lt 0 (times (2 * s + 1) (get_or w.lists.lists i []))) [
  | inr h ↦ omega arith
  | inl h ↦ absurd (let f : (i ≡ 1) × (2 * s + 1 ≡ 2 * s) = free_place w.lists.lists w.lists.literals w.kinds.items (all_codes w.clauses.items) t.stamps.items t.codes.items t.head (length t.stamps.items) s i (2 * s + 1) p.watched wait.free (omega arith) h in omega (arith, f.1))
])

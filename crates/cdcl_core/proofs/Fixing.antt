-- A clause that comes and is not watched: it is parked, or its value is settled at level 0.
use Rattle.std.proofs.Common.{ℕ, ◌≡◌, ◌≢◌, ◌+◌, ◌<◌, ◌≤◌, ◌⊎◌, true, false, List, [], Some, length, refl, sym, ◌∙◌, inl, inr, arith}
use Rattle.std.specs.List.{sum_by}
use Rattle.std.proofs.Math.ListN.{get_or, set, length-set}
use Rattle.std.proofs.lemmas.List.{get_or-set_other, get_or-set_same}
use Rattle.std.proofs.lemmas.Bool.{cases_lt}
use Rattle.cnf_base.specs.Literals.{Literal, literal_of}
use Rattle.cnf_base.specs.declared.clause.ClauseId.{ClauseId}
use Rattle.cdcl_core.specs.declared.trail.Trail.{Trail}
use Rattle.cdcl_core.specs.declared.watches.Watches.{Watches}
use Rattle.cdcl_core.specs.declared.watches.Kind.{Kind}
use Rattle.cdcl_core.specs.declared.watches.Kind.TheVariants.{Free, Fixed, Watched}
use Rattle.cdcl_core.specs.Chains.{times, rest_of}
use Rattle.cdcl_core.specs.Levels.{Row, IsAdded}
use Rattle.cdcl_core.specs.Search.{literals_of, level_of}
use Rattle.cdcl_core.specs.Stamps.{neg, codes, Has, IsFalse}
use Rattle.cdcl_core.specs.Watched.{kind_at, IsWatched}
use Rattle.cnf_base.specs.Clauses.{no_id}
use Rattle.cdcl_core.specs.State.{all_codes, IsFixed, IsPlaced, IsWaiting, MayCome, Holds}
use Rattle.cdcl_core.proofs.Apart.{fixed_not_watched}
use Rattle.cdcl_core.proofs.Held.{held_if}
use Rattle.cdcl_core.proofs.Trails.{has_room, pushed_trail}
use Rattle.cdcl_core.proofs.Watching.{decided_watched}
use Rattle.cdcl_core.proofs.Reasons.{pushed_reasoned, pushed_shown, pushed_fixed, has_row}
use Rattle.cdcl_core.proofs.Spots.{pushed_spots}
use Rattle.cdcl_core.proofs.Visits.{IsPushed}
use Rattle.cdcl_core.proofs.Slots.{slot_changed, fixed_changed}
use Rattle.cdcl_core.proofs.Hanging.{IsRoom, seated_change}
use Rattle.cdcl_core.proofs.Arrivals.{codes_after, kind_other, clause_other, held_reasoned, held_rows}
use Rattle.cdcl_core.proofs.Adding.{rested, room_of}

-- it is parked, or true at level 0
pub seated_placed : (w v : Watches) (t : Trail) (s : ℕ) (k : Kind) (c : List Literal) → k ≢ Watched → (k ≡ Fixed → (l : ℕ) × (Has (codes c) l × (get_or t.stamps.items l 0 ≡ 1))) → IsPlaced w t → IsWaiting w s → 1 < length w.lists.lists → ((q : ℕ) → sum_by (times q) w.lists.lists ≤ 1) → ((l : ℕ) → Has (codes c) l → 2 ≤ l) → ((l : ℕ) → Has (codes c) l → l < length t.stamps.items) → Holds w v s k c → v.refuted ≡ w.refuted → v.lists.literals ≡ w.lists.literals → v.lists.lists ≡ set w.lists.lists 1 (rest_of (get_or w.lists.lists 1 [])) → IsPlaced v t
seated_placed w v t s k c unwatched value p wait one once named within h calm literals lists =
    let room : IsRoom w.lists.lists w.lists.literals w.kinds.items (all_codes w.clauses.items) s = room_of w t s p wait one once in
    let now : kind_at v.kinds.items s ≡ k = rw h.kinds (get_or-set_same w.kinds.items s k Free wait.high) in
    let here : get_or (all_codes v.clauses.items) s [] ≡ codes c = rw (codes_after w v s k c h) (get_or-set_same (all_codes w.clauses.items) s (codes c) [] (omega (arith, wait.high, p.watched.clauses))) in
    record {
      trail = p.trail;
      shown = p.shown;
      spots = p.spots;
      watched = rw (lists, literals, h.kinds, codes_after w v s k c h)
          (slot_changed w.lists.lists w.lists.literals w.kinds.items (all_codes w.clauses.items) (set w.lists.lists 1 (rest_of (get_or w.lists.lists 1 []))) w.lists.literals (set w.kinds.items s k) (set (all_codes w.clauses.items) s (codes c)) t.stamps.items t.codes.items t.head s p.watched
          (seated_change w.lists.lists w.lists.literals w.kinds.items (all_codes w.clauses.items) t.stamps.items t.codes.items t.head s (codes c) k unwatched p.watched room one named within));
      idle = rw lists (get_or-set_other w.lists.lists 1 0 (rest_of (get_or w.lists.lists 1 [])) [] (λ u. omega (arith, u)) ∙ p.idle);
      reasoned = held_reasoned w v s k c t.rows.items t.codes.items t.reasons.items t.len p.reasoned wait.free h;
      rows = held_rows w v s k c p.rows h;
      fixed = fixed_changed w.kinds.items (all_codes w.clauses.items) t.stamps.items w.refuted v.refuted v.kinds.items (all_codes v.clauses.items) s p.fixed (rw (h.kinds, length-set) refl) (λ q ne. kind_other w v s k c q h ne) (λ q ne. clause_other w v s k c q h ne) (λ x. calm ∙ x)
          (λ e. inl (rw here (value (sym now ∙ e))));
      calm = λ u. calm ∙ p.calm u;
    }

-- what `add` knows of a clause of at most one literal
pub record IsFixing (w w2 : Watches) (t : Trail) (s a : ℕ) (c : List Literal) : Type 0 where
  pub placed : IsPlaced w t
  pub room : IsRoom w.lists.lists w.lists.literals w.kinds.items (all_codes w.clauses.items) s
  pub one : 1 < length w.lists.lists
  pub may : MayCome t (codes c)
  pub has : a ≢ 0 → Has (codes c) a
  pub only : (l : ℕ) → Has (codes c) l → l ≡ a
  pub holds : Holds w w2 s Fixed c
  pub literals : w2.lists.literals ≡ w.lists.literals
  pub lists : w2.lists.lists ≡ set w.lists.lists 1 (rest_of (get_or w.lists.lists 1 []))

-- above level 0 the literal is true since level 0
pub settled_before : (w w2 : Watches) (t : Trail) (s a : ℕ) (c : List Literal) → IsFixing w w2 t s a c → 0 < t.level → (2 ≤ a) × (get_or t.stamps.items a 0 ≡ 1)
settled_before w w2 t s a c k up = elim (k.may.rests 0 up) [
  | inl x ↦ let e : x.0 ≡ a = k.only x.0 x.1.0 in (rw (← e) (k.may.named x.0 x.1.0), rw (← e) (omega (arith, x.1.1.0, x.1.1.1)))
  | inr x ↦ absurd (x.1.1.1.1.0 (k.only x.0 x.1.1.0 ∙ sym (k.only x.1.0 x.1.1.1.0)))
]

fixed_watched : (w w2 : Watches) (t : Trail) (s a : ℕ) (c : List Literal) (ss es : List ℕ) (head : ℕ) → IsFixing w w2 t s a c → length ss ≡ length t.stamps.items → IsWatched w.lists.lists w.lists.literals w.kinds.items (all_codes w.clauses.items) ss es head (length ss) 0 → IsWatched w2.lists.lists w2.lists.literals w2.kinds.items (all_codes w2.clauses.items) ss es head (length ss) 0
fixed_watched w w2 t s a c ss es head k size wd =
    rw (k.lists, k.literals, k.holds.kinds, codes_after w w2 s Fixed c k.holds)
    (slot_changed w.lists.lists w.lists.literals w.kinds.items (all_codes w.clauses.items) (set w.lists.lists 1 (rest_of (get_or w.lists.lists 1 []))) w.lists.literals (set w.kinds.items s Fixed) (set (all_codes w.clauses.items) s (codes c)) ss es head s wd
    (seated_change w.lists.lists w.lists.literals w.kinds.items (all_codes w.clauses.items) ss es head s (codes c) Fixed fixed_not_watched wd k.room k.one k.may.named (λ l h. rw size (k.may.within l h))))

clause_now : (w w2 : Watches) (t : Trail) (s a : ℕ) (c : List Literal) → IsFixing w w2 t s a c → get_or (all_codes w2.clauses.items) s [] ≡ codes c
clause_now w w2 t s a c k = rw (codes_after w w2 s Fixed c k.holds) (get_or-set_same (all_codes w.clauses.items) s (codes c) [] (let hi : s < length w.kinds.items = k.room.high in omega (arith, hi, k.placed.watched.clauses)))

fixed_fixed : (w w2 : Watches) (t : Trail) (s a : ℕ) (c : List Literal) (ss : List ℕ) → IsFixing w w2 t s a c → IsFixed w.kinds.items (all_codes w.clauses.items) ss w.refuted → (w.refuted ≡ true → w2.refuted ≡ true) →
    ((l : ℕ) × (Has (codes c) l × (get_or ss l 0 ≡ 1))) ⊎ ((w2.refuted ≡ true) × ((l : ℕ) → Has (codes c) l → get_or ss (neg l) 0 ≡ 1)) → IsFixed w2.kinds.items (all_codes w2.clauses.items) ss w2.refuted
fixed_fixed w w2 t s a c ss k f more value =
    fixed_changed w.kinds.items (all_codes w.clauses.items) ss w.refuted w2.refuted w2.kinds.items (all_codes w2.clauses.items) s f (rw (k.holds.kinds, length-set) refl) (λ q ne. kind_other w w2 s Fixed c q k.holds ne) (λ q ne. clause_other w w2 s Fixed c q k.holds ne) more
    (λ _. rw (clause_now w w2 t s a c k) value)

idle_after : (w w2 : Watches) (t : Trail) (s a : ℕ) (c : List Literal) → IsFixing w w2 t s a c → get_or w2.lists.lists 0 [] ≡ []
idle_after w w2 t s a c k = rw k.lists (get_or-set_other w.lists.lists 1 0 (rest_of (get_or w.lists.lists 1 [])) [] (λ u. omega (arith, u)) ∙ k.placed.idle)

-- the trail stays
stays : (w w2 : Watches) (t : Trail) (s a : ℕ) (c : List Literal) → IsFixing w w2 t s a c → (w.refuted ≡ true → w2.refuted ≡ true) → (0 < t.level → w2.refuted ≡ false) →
    ((l : ℕ) × (Has (codes c) l × (get_or t.stamps.items l 0 ≡ 1))) ⊎ ((w2.refuted ≡ true) × ((l : ℕ) → Has (codes c) l → get_or t.stamps.items (neg l) 0 ≡ 1)) → IsPlaced w2 t
stays w w2 t s a c k more calm value = record {
  trail = k.placed.trail;
  shown = k.placed.shown;
  spots = k.placed.spots;
  watched = fixed_watched w w2 t s a c t.stamps.items t.codes.items t.head k refl k.placed.watched;
  idle = idle_after w w2 t s a c k;
  reasoned = held_reasoned w w2 s Fixed c t.rows.items t.codes.items t.reasons.items t.len k.placed.reasoned k.room.free k.holds;
  rows = held_rows w w2 s Fixed c k.placed.rows k.holds;
  fixed = fixed_fixed w w2 t s a c t.stamps.items k k.placed.fixed more value;
  calm = calm;
}

-- the literal is false, or there is none
pub refuted_level : (w w2 : Watches) (t : Trail) (s a : ℕ) (c : List Literal) → IsFixing w w2 t s a c → (a ≢ 0 → get_or t.stamps.items (neg a) 0 ≢ 0) → t.level ≡ 0
refuted_level w w2 t s a c k f = elim (cases_lt 0 t.level) [
  | inr h ↦ omega arith
  | inl h ↦ absurd (
      let b : (2 ≤ a) × (get_or t.stamps.items a 0 ≡ 1) = settled_before w w2 t s a c k h in
      f (λ z. omega (arith, z, b.0)) (k.placed.trail.apart a (omega (arith, b.1))))
]

refuted_one : (w w2 : Watches) (t : Trail) (s a : ℕ) (c : List Literal) → IsFixing w w2 t s a c → (a ≢ 0 → get_or t.stamps.items (neg a) 0 ≢ 0) → (l : ℕ) → Has (codes c) l → get_or t.stamps.items (neg l) 0 ≡ 1
refuted_one w w2 t s a c k f l h =
    let e : l ≡ a = k.only l h in
    let two : 2 ≤ l = k.may.named l h in
    let n : get_or t.stamps.items (neg a) 0 ≢ 0 = f (λ z. omega (arith, z, e, two)) in
    rw e (omega (arith, n, k.placed.trail.top (neg a), refuted_level w w2 t s a c k f))

pub refuted_false : (w w2 : Watches) (t : Trail) (s a : ℕ) (c : List Literal) → IsFixing w w2 t s a c → (a ≢ 0 → get_or t.stamps.items (neg a) 0 ≢ 0) → IsFalse t.stamps.items (codes c)
refuted_false w w2 t s a c k f l h = omega (arith, refuted_one w w2 t s a c k f l h)

pub refuted_placed : (w w2 : Watches) (t : Trail) (s a : ℕ) (c : List Literal) → IsFixing w w2 t s a c → (a ≢ 0 → get_or t.stamps.items (neg a) 0 ≢ 0) → w2.refuted ≡ true → IsPlaced w2 t
refuted_placed w w2 t s a c k f e = stays w w2 t s a c k (λ _. e) (λ u. absurd (omega (arith, u, refuted_level w w2 t s a c k f))) (inr (e, refuted_one w w2 t s a c k f))

-- the literal is true
pub true_fixed : (w w2 : Watches) (t : Trail) (s a : ℕ) (c : List Literal) → IsFixing w w2 t s a c → a ≢ 0 → get_or t.stamps.items a 0 ≢ 0 → w2.refuted ≡ w.refuted → IsPlaced w2 t
true_fixed w w2 t s a c k ne set_a e =
    let one : get_or t.stamps.items a 0 ≡ 1 = elim (cases_lt 0 t.level) [ inl h ↦ (settled_before w w2 t s a c k h).1 | inr h ↦ omega (arith, set_a, k.placed.trail.top a) ] in
    stays w w2 t s a c k (λ x. e ∙ x) (λ u. e ∙ k.placed.calm u) (inl (a, (k.has ne, one)))

pub true_rests : (w w2 : Watches) (t : Trail) (s a : ℕ) (c : List Literal) (id : ClauseId) → IsFixing w w2 t s a c → a ≢ 0 → get_or t.stamps.items a 0 ≢ 0 → IsAdded (literals_of t) (level_of t) id c (literals_of t)
true_rests w w2 t s a c id k ne set_a = rested t id c (k.placed.trail, k.placed.shown) (inl (a, (k.has ne, (omega (arith, set_a), k.placed.trail.top a))))

-- the literal is open
pub open_level : (w w2 : Watches) (t : Trail) (s a : ℕ) (c : List Literal) → IsFixing w w2 t s a c → get_or t.stamps.items a 0 ≡ 0 → t.level ≡ 0
open_level w w2 t s a c k open_a = elim (cases_lt 0 t.level) [ inr h ↦ omega arith | inl h ↦ absurd (omega (arith, (settled_before w w2 t s a c k h).1, open_a)) ]

pub no_others : (w w2 : Watches) (t : Trail) (s a : ℕ) (c : List Literal) → IsFixing w w2 t s a c → (m : ℕ) → Has (codes c) m → m ≢ a → 0 < get_or t.stamps.items (neg m) 0
no_others w w2 t s a c k m h ne = absurd (ne (k.only m h))

pub open_fixed : (w w2 : Watches) (t t2 : Trail) (s a : ℕ) (c : List Literal) (id : ClauseId) → IsFixing w w2 t s a c → a ≢ 0 → get_or t.stamps.items a 0 ≡ 0 → get_or t.stamps.items (neg a) 0 ≡ 0 → get_or w.ids.items s no_id ≡ id → w2.refuted ≡ w.refuted → IsPushed t t2 a (t.level + 1) s (literal_of a, t.level, Some id) → IsPlaced w2 t2
open_fixed w w2 t t2 s a c id k ne open_a free_a name e pu =
    let ss : List ℕ = t.stamps.items in
    let ss2 : List ℕ = set ss a (t.level + 1) in
    let es2 : List ℕ = set t.codes.items t.len a in
    let x : Row = (literal_of a, t.level, Some id) in
    let p : IsPlaced w t = k.placed in
    let has_a : Has (codes c) a = k.has ne in
    let two : 2 ≤ a = k.may.named a has_a in
    let ha : a < length ss = k.may.within a has_a in
    let room : t.len < length t.codes.items = has_room ss t.codes.items t.len t.head t.level a p.trail ha open_a free_a in
    let wide : t.len < length t.rows.items = has_row t a p.trail p.shown ha open_a free_a in
    let same : t2.level ≡ t.level = omega (arith, pu.level) in
    let zero : t.level ≡ 0 = open_level w w2 t s a c k open_a in
    let lo : 1 ≤ s = k.room.low in
    let now : get_or ss2 a 0 ≡ 1 = get_or-set_same ss a (t.level + 1) 0 ha ∙ omega (arith, zero) in
    let kind_now : kind_at w2.kinds.items s ≡ Fixed = rw k.holds.kinds (get_or-set_same w.kinds.items s Fixed Free k.room.high) in
    record {
      trail = rw (pu.stamps, pu.codes, pu.len, pu.head, same) (pushed_trail ss t.codes.items t.len t.head t.level a p.trail two ha open_a free_a);
      shown = rw (pu.rows, pu.stamps, pu.codes, pu.len) (pushed_shown t.rows.items ss t.codes.items t.len t.head t.level a (t.level + 1) x p.trail p.shown ha open_a room wide refl refl);
      spots = rw (pu.spots, pu.stamps, pu.codes, pu.len) (pushed_spots t.spots.items ss t.codes.items t.len t.head t.level a (t.level + 1) p.trail p.spots ha open_a free_a room);
      watched = rw (pu.stamps, pu.codes, pu.head) (fixed_watched w w2 t s a c ss2 es2 t.head k (rw length-set refl) (decided_watched w.lists.lists w.lists.literals w.kinds.items (all_codes w.clauses.items) ss t.codes.items t.len t.head t.level (t.level + 1) a p.watched p.trail ha open_a));
      idle = idle_after w w2 t s a c k;
      reasoned = rw (pu.rows, pu.codes, pu.reasons, pu.len) (pushed_reasoned (all_codes w2.clauses.items) w2.kinds.items w2.ids.items t.rows.items t.codes.items t.reasons.items t.len a s x
          (held_reasoned w w2 s Fixed c t.rows.items t.codes.items t.reasons.items t.len p.reasoned k.room.free k.holds) room wide (λ z. absurd (omega (arith, z, lo)))
          (λ _. record {
            forced = rw (k.holds.kinds, length-set) k.room.high;
            held = held_if (kind_at w2.kinds.items s) Fixed kind_now refl;
            name = rw (k.holds.ids, name) refl;
            has = rw (clause_now w w2 t s a c k) has_a;
            others = λ m hm nm. absurd (nm (k.only m (rw (clause_now w w2 t s a c k) at hm)));
          }));
      rows = held_rows w w2 s Fixed c p.rows k.holds;
      fixed = rw pu.stamps (fixed_fixed w w2 t s a c ss2 k (pushed_fixed w.kinds.items (all_codes w.clauses.items) ss w.refuted a (t.level + 1) p.fixed ha open_a) (λ x. e ∙ x) (inl (a, (has_a, now))));
      calm = λ u. absurd (omega (arith, u, same, zero));
    }

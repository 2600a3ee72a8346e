-- One visit of a place, by the outcome.
use Rattle.std.proofs.Common.{ℕ, ◌≡◌, ◌≢◌, ◌+◌, ◌*◌, ◌/◌, ◌<◌, ◌≤◌, List, [], ◌∷◌, Option, Some, length, refl, sym, ap, ◌∙◌, inl, inr, arith}
use Rattle.std.proofs.Math.ListN.{get_or, set, length-set}
use Rattle.std.specs.List.{sum_by}
use Rattle.std.proofs.lemmas.List.{get_or-set_other, get_or-set_same, get_or_past}
use Rattle.std.proofs.lemmas.List.Sums.{get_or-le-sum_by}
use Rattle.std.proofs.lemmas.Bool.{cases_lt}
use Rattle.std.proofs.lemmas.Bool.Decides.{eqb_tells}
use Rattle.cnf_base.specs.Literals.{literal_of}
use Rattle.cnf_base.specs.declared.clause.ClauseId.{ClauseId}
use Rattle.cdcl_core.specs.Chains.{times, first_of, rest_of}
use Rattle.cdcl_core.specs.Lists.{Lists}
use Rattle.cdcl_core.specs.Levels.{Row}
use Rattle.cdcl_core.proofs.Moves.{two_of_sum}
use Rattle.cdcl_core.specs.declared.trail.Trail.{Trail}
use Rattle.cdcl_core.specs.declared.watches.Watches.{Watches}
use Rattle.cdcl_core.specs.declared.watches.Kind.{Kind}
use Rattle.cdcl_core.specs.declared.watches.Kind.TheVariants.{Watched}
use Rattle.cdcl_core.specs.Stamps.{neg, Has}
use Rattle.cdcl_core.specs.Watched.{kind_at, IsHeld, Kept, IsWatching, IsPlace, IsWatched}
use Rattle.cnf_base.specs.Clauses.{no_id}
use Rattle.cdcl_core.specs.State.{all_codes, IsVisiting, IsSettled}
use Rattle.cdcl_core.proofs.Held.{held_if}
use Rattle.cdcl_core.proofs.Clauses.{codes_length}
use Rattle.cdcl_core.proofs.Counting.{times_nil, neg_below, neg_low, neg_neg, neg_slot}
use Rattle.cdcl_core.proofs.Reasons.{pushed_reasoned, pushed_shown, pushed_fixed}
use Rattle.cdcl_core.proofs.Spots.{pushed_spots}
use Rattle.cdcl_core.proofs.Trails.{next_level, pushed_trail, first_there, next_not_before, next_trail, trail_size, true_on_trail, has_room}
use Rattle.cdcl_core.proofs.Watching.{move_to, step_keep, step_move, step_true, IsVisited, first_in}
use Rattle.cdcl_core.proofs.Resting.{step_start, finish_none, finish_stop, watching_mate}

-- the place that is visited, its slot, and the clause's other watched literal
pub record AtPlace (w : Watches) (t : Trail) (p k o : ℕ) : Type 0 where
  pub on : IsWatching w.kinds.items k
  pub row : k < length w.lists.literals
  pub mate : neg k < length w.lists.literals
  pub slot : k / 2 < length w.kinds.items
  pub clause : k / 2 < length w.clauses.items
  pub name : k / 2 < length w.ids.items
  pub watches : get_or w.lists.literals k 0 ≡ p
  pub other : o ≡ get_or w.lists.literals (neg k) 0
  pub within : o < length t.stamps.items
  pub against : neg o < length t.stamps.items
  pub two : 2 ≤ o
  pub has_other : Has (get_or (all_codes w.clauses.items) (k / 2) []) o

pub at_place : (w : Watches) (t : Trail) (p stop k m o : ℕ) → IsVisiting w t p stop → 0 < first_of (get_or w.lists.lists 0 []) → k ≡ first_of (get_or w.lists.lists 0 []) → m ≡ neg k → o ≡ get_or w.lists.literals m 0 → AtPlace w t p k o
at_place w t p stop k m o v pos e em eo =
    let s : IsPlace w.lists.literals w.kinds.items p 0 k = v.watched.sound 0 k (rw e (first_in w.lists.lists pos)) in
    let on : IsWatching w.kinds.items k = record { low = s.low; high = s.high; kind = s.watched (λ u. omega (arith, u)) } in
    let on2 : IsWatching w.kinds.items (neg k) = watching_mate w.kinds.items k on in
    let is_o : o ≡ get_or w.lists.literals (neg k) 0 = eo ∙ ap (λ x. get_or w.lists.literals x 0) em in
    let has0 : Has (get_or (all_codes w.clauses.items) (k / 2) []) (get_or w.lists.literals (neg k) 0) = rw neg_slot at (v.watched.inside (neg k) on2) in
    let has : Has (get_or (all_codes w.clauses.items) (k / 2) []) o = rw is_o has0 in
    let inside : o < length t.stamps.items = v.watched.within (k / 2) o has in
    let slot : k / 2 < length w.kinds.items = (let h : k < 2 * length w.kinds.items = s.high in omega arith) in
    record {
      on = on;
      row = (let h : k < 2 * length w.kinds.items = s.high in omega (arith, v.watched.slots));
      mate = (let h : neg k < 2 * length w.kinds.items = on2.high in omega (arith, v.watched.slots));
      slot = slot;
      clause = omega (arith, slot, v.watched.clauses, codes_length w.clauses.items);
      name = omega (arith, slot, v.named.rows);
      watches = s.visited refl;
      other = is_o;
      within = inside;
      against = neg_below o (length t.stamps.items) inside v.trail.even;
      two = v.watched.named (k / 2) o has;
      has_other = has;
    }

-- the stamp of the literal that became true
pub now : (w : Watches) (t : Trail) (p stop : ℕ) → IsVisiting w t p stop → get_or t.stamps.items (neg p) 0 ≡ t.level + 1
now w t p stop v = rw v.next at (next_level t.stamps.items t.codes.items t.len t.head t.level v.trail v.more)

pub kept_now : (w : Watches) (t : Trail) (p stop b : ℕ) → IsVisiting w t p stop → 0 < get_or t.stamps.items b 0 → Kept t.stamps.items p b
kept_now w t p stop b v h = (h, omega (arith, now w t p stop v, v.trail.top b))

-- the same watches over other lists
abbrev pub with_lists : Watches → Lists → Watches
with_lists w V = record { alloc = w.alloc; lists = V; kinds = w.kinds; clauses = w.clauses; ids = w.ids; slots = w.slots; refuted = w.refuted }

-- the first place of list 0 goes to the front of list j
abbrev pub moved_lists : Lists → ℕ → Lists
moved_lists V j = record { lists = set (set V.lists 0 (rest_of (get_or V.lists 0 []))) j (first_of (get_or V.lists 0 []) ∷ get_or V.lists j []); literals = V.literals }

pub visit_kept : (w : Watches) (t : Trail) (p stop : ℕ) → IsVisiting w t p stop → 0 < first_of (get_or w.lists.lists 0 []) → (stop ≡ 0 → 0 < get_or t.stamps.items (get_or w.lists.literals (neg (first_of (get_or w.lists.lists 0 []))) 0) 0) → IsVisiting (with_lists w (moved_lists w.lists (p + 1))) t p stop
unfolding move_to
visit_kept w t p stop v pos keep = record {
  trail = v.trail;
  shown = v.shown;
  spots = v.spots;
  watched = step_keep w.lists.lists w.lists.literals w.kinds.items (all_codes w.clauses.items) t.stamps.items t.codes.items t.head p stop v.watched v.within pos (λ s. kept_now w t p stop (get_or w.lists.literals (neg (first_of (get_or w.lists.lists 0 []))) 0) v (keep s));
  within = v.within;
  next = v.next;
  more = v.more;
  reasoned = v.reasoned;
  named = v.named;
  fixed = v.fixed;
  calm = v.calm;
  slot = v.slot;
  held = v.held;
  refuted = v.refuted;
}

stops : (L : List (List ℕ)) (ws : List ℕ) (ks : List Kind) (cs : List (List ℕ)) (ss es : List ℕ) (head p stop stop2 : ℕ) → IsWatched L ws ks cs ss es head p stop → stop2 ≢ 0 → IsWatched L ws ks cs ss es head p stop2
stops L ws ks cs ss es head p stop stop2 w ne = record {
  lists = w.lists;
  slots = w.slots;
  clauses = w.clauses;
  known = w.known;
  sound = w.sound;
  inside = w.inside;
  differ = w.differ;
  named = w.named;
  within = w.within;
  kept = w.kept;
  here = λ q on e s out. absurd (ne s);
}

pub watched_held : (ks : List Kind) (s : ℕ) → kind_at ks s ≡ Watched → IsHeld (kind_at ks s)
watched_held ks s e = held_if (kind_at ks s) Watched e refl

pub visit_false : (w : Watches) (t : Trail) (p stop k o : ℕ) → IsVisiting w t p stop → AtPlace w t p k o → 0 < first_of (get_or w.lists.lists 0 []) →
    ((l : ℕ) → Has (get_or (all_codes w.clauses.items) (k / 2) []) l → l ≢ o → 0 < get_or t.stamps.items (neg l) 0) → 0 < get_or t.stamps.items (neg o) 0 → IsVisiting (with_lists w (moved_lists w.lists (p + 1))) t p (k / 2)
unfolding move_to
visit_false w t p stop k o v a pos rest last =
    let ne : k / 2 ≢ 0 = λ z. (let lo : 2 ≤ k = a.on.low in omega (arith, z)) in
    record {
      trail = v.trail;
      shown = v.shown;
      spots = v.spots;
      watched = step_keep w.lists.lists w.lists.literals w.kinds.items (all_codes w.clauses.items) t.stamps.items t.codes.items t.head p (k / 2) (stops w.lists.lists w.lists.literals w.kinds.items (all_codes w.clauses.items) t.stamps.items t.codes.items t.head p stop (k / 2) v.watched ne) v.within pos (λ s. absurd (ne s));
      within = v.within;
      next = v.next;
      more = v.more;
      reasoned = v.reasoned;
      named = v.named;
      fixed = v.fixed;
      calm = v.calm;
      slot = λ s. a.slot;
      held = λ s. watched_held w.kinds.items (k / 2) a.on.kind;
      refuted = λ s l h. elim (eqb_tells l o) [ inl z ↦ rw z.1 last | inr z ↦ rest l h z.1 ];
    }

alone : (L : List (List ℕ)) (k : ℕ) → 0 < length L → 0 < times k (get_or L 0 []) → ((q : ℕ) → sum_by (times q) L ≤ 1) → (i : ℕ) → i ≢ 0 → times k (get_or L i []) ≡ 0
alone L k h0 h once i ne = elim (cases_lt i (length L)) [
  | inl a ↦ omega (arith, h, once k, two_of_sum (times k) L 0 i (times_nil k) h0 a ne)
  | inr a ↦ rw (get_or_past L i [] a) (times_nil k)
]

pub visit_moved : (w : Watches) (t : Trail) (p stop k o f : ℕ) → IsVisiting w t p stop → stop ≡ 0 → AtPlace w t p k o → 0 < first_of (get_or w.lists.lists 0 []) → k ≡ first_of (get_or w.lists.lists 0 []) → ((q : ℕ) → sum_by (times q) w.lists.lists ≤ 1) →
    Has (get_or (all_codes w.clauses.items) (k / 2) []) f → f ≢ o → get_or t.stamps.items (neg f) 0 ≡ 0 → IsVisiting (with_lists w (moved_lists (record { lists = w.lists.lists; literals = set w.lists.literals k f }) (f + 1))) t p 0
unfolding move_to
visit_moved w t p stop k o f v z a pos ek once has ne free =
    let h0 : 0 < length w.lists.lists = omega (arith, v.watched.lists) in
    let inside : 0 < times k (get_or w.lists.lists 0 []) = rw ek (first_in w.lists.lists pos) in
    let lvl : get_or t.stamps.items (neg p) 0 ≡ t.level + 1 = now w t p stop v in
    let vis : IsVisited w.lists.lists w.lists.literals t.codes.items t.stamps.items t.len t.head t.level p k = record {
      trail = v.trail;
      false_now = omega (arith, lvl);
      within = v.within;
      is_first = ek;
      pos = rw ek pos;
      single = (let b : times k (get_or w.lists.lists 0 []) ≤ sum_by (times k) w.lists.lists = get_or-le-sum_by (times k) w.lists.lists 0 [] h0 in omega (arith, b, once k));
      lone = alone w.lists.lists k h0 inside once;
    } in
    record {
      trail = v.trail;
      shown = v.shown;
      spots = v.spots;
      watched = step_move w.lists.lists w.lists.literals w.kinds.items (all_codes w.clauses.items) t.stamps.items t.codes.items t.len t.head t.level p 0 k f (rw z at v.watched) vis has (λ e. ne (e ∙ sym a.other)) free;
      within = v.within;
      next = v.next;
      more = v.more;
      reasoned = v.reasoned;
      named = v.named;
      fixed = v.fixed;
      calm = v.calm;
      slot = λ s. absurd (s refl);
      held = λ s. absurd (s refl);
      refuted = λ s. absurd (s refl);
    }

-- what an implied literal leaves on the trail
pub record IsPushed (t t2 : Trail) (l v slot : ℕ) (x : Row) : Type 0 where
  pub stamps : t2.stamps.items ≡ set t.stamps.items l v
  pub codes : t2.codes.items ≡ set t.codes.items t.len l
  pub reasons : t2.reasons.items ≡ set t.reasons.items t.len slot
  pub rows : t2.rows.items ≡ set t.rows.items t.len x
  pub spots : t2.spots.items ≡ set t.spots.items (l / 2) t.len
  pub len : t2.len ≡ t.len + 1
  pub head : t2.head ≡ t.head
  pub level : t2.level + 1 ≡ v

pub visit_unit : (w : Watches) (t t2 : Trail) (p stop k o : ℕ) (reason : Option ClauseId) → IsVisiting w t p stop → stop ≡ 0 → AtPlace w t p k o → 0 < first_of (get_or w.lists.lists 0 []) → k ≡ first_of (get_or w.lists.lists 0 []) →
    get_or t.stamps.items o 0 ≡ 0 → get_or t.stamps.items (neg o) 0 ≡ 0 → IsPushed t t2 o (t.level + 1) (k / 2) (literal_of o, t.level, reason) → reason ≡ Some (get_or w.ids.items (k / 2) no_id) → t.len < length t.rows.items →
    ((m : ℕ) → Has (get_or (all_codes w.clauses.items) (k / 2) []) m → m ≢ o → 0 < get_or t.stamps.items (neg m) 0) →
    IsVisiting (with_lists w (moved_lists w.lists (p + 1))) t2 p 0
unfolding move_to
visit_unit w t t2 p stop k o reason v z a pos ek free free2 pu en wide rest =
    let cs : List (List ℕ) = all_codes w.clauses.items in
    let x : Row = (literal_of o, t.level, reason) in
    let ss2 : List ℕ = set t.stamps.items o (t.level + 1) in
    let es2 : List ℕ = set t.codes.items t.len o in
    let room : t.len < length t.codes.items = has_room t.stamps.items t.codes.items t.len t.head t.level o v.trail a.within free free2 in
    let lvl : get_or t.stamps.items (neg p) 0 ≡ t.level + 1 = now w t p stop v in
    let hp : 0 < get_or t.stamps.items (neg p) 0 = omega (arith, lvl) in
    let differs : neg p ≢ o = λ u. let y : get_or t.stamps.items (neg p) 0 ≡ 0 = rw u free in omega (arith, y, hp) in
    let watched : IsWatched w.lists.lists w.lists.literals w.kinds.items cs ss2 es2 t.head p 0 =
    step_true w.lists.lists w.lists.literals w.kinds.items cs t.stamps.items t.codes.items t.len t.head t.level p 0 o (rw z at v.watched) v.trail hp a.within free in
    let kept : Kept ss2 p o =
    (rw (get_or-set_same t.stamps.items o (t.level + 1) 0 a.within) (omega arith), rw (get_or-set_same t.stamps.items o (t.level + 1) 0 a.within, get_or-set_other t.stamps.items o (neg p) (t.level + 1) 0 differs) (omega (arith, lvl))) in
    let more : p < length ss2 = rw length-set v.within in
    let kept2 : Kept ss2 p (get_or w.lists.literals (neg (first_of (get_or w.lists.lists 0 []))) 0) = rw (← ek, ← a.other) kept in
    let moved : IsWatched (move_to w.lists.lists p) w.lists.literals w.kinds.items cs ss2 es2 t.head p 0 =
    step_keep w.lists.lists w.lists.literals w.kinds.items cs ss2 es2 t.head p 0 watched more pos (λ s. kept2) in
    let next : get_or es2 t.head 0 ≡ neg p = get_or-set_other t.codes.items t.len t.head o 0 (λ u. omega (arith, u, v.more)) ∙ v.next in
    let same : t2.level ≡ t.level = omega (arith, pu.level) in
    let lo : 2 ≤ k = a.on.low in
    record {
      trail = rw (pu.stamps, pu.codes, pu.len, pu.head, same) (pushed_trail t.stamps.items t.codes.items t.len t.head t.level o v.trail a.two a.within free free2);
      shown = rw (pu.rows, pu.stamps, pu.codes, pu.len) (pushed_shown t.rows.items t.stamps.items t.codes.items t.len t.head t.level o (t.level + 1) x v.trail v.shown a.within free room wide refl refl);
      spots = rw (pu.spots, pu.stamps, pu.codes, pu.len) (pushed_spots t.spots.items t.stamps.items t.codes.items t.len t.head t.level o (t.level + 1) v.trail v.spots a.within free free2 room);
      watched = rw (pu.stamps, pu.codes, pu.head) moved;
      within = rw pu.stamps more;
      next = rw (pu.codes, pu.head) next;
      more = rw (pu.head, pu.len) (let m : t.head < t.len = v.more in omega arith);
      reasoned = rw (pu.rows, pu.codes, pu.reasons, pu.len) (pushed_reasoned cs w.kinds.items w.ids.items t.rows.items t.codes.items t.reasons.items t.len o (k / 2) x v.reasoned room wide (λ u. absurd (omega (arith, u, lo)))
          (λ u. record { forced = a.slot; held = watched_held w.kinds.items (k / 2) a.on.kind; name = en; has = a.has_other; others = λ m h ne. true_on_trail t.stamps.items t.codes.items t.len t.head t.level (neg m) v.trail (rest m h ne) }));
      named = v.named;
      fixed = rw pu.stamps (pushed_fixed w.kinds.items cs t.stamps.items w.refuted o (t.level + 1) v.fixed a.within free);
      calm = λ u. v.calm (rw same at u);
      slot = λ s. absurd (s refl);
      held = λ s. absurd (s refl);
      refuted = λ s. absurd (s refl);
    }

no_first : (xs : List ℕ) → first_of xs ≡ 0 → (0 < first_of xs → 0 < times (first_of xs) xs) → ((k : ℕ) → 0 < times k xs → 2 ≤ k) → xs ≡ []
unfolding times
no_first [] e f low = refl
no_first (x ∷ xs) e f low = absurd (let h : 0 < times x (x ∷ xs) = first_there x xs in omega (arith, low x h, e))

pub visited_all : (w : Watches) (t : Trail) (p stop : ℕ) → IsVisiting w t p stop → first_of (get_or w.lists.lists 0 []) ≡ 0 → get_or w.lists.lists 0 [] ≡ []
visited_all w t p stop v e = no_first (get_or w.lists.lists 0 []) e (λ h. first_in w.lists.lists h) (λ k h. (v.watched.sound 0 k h).low)

pub visit_starts : (w : Watches) (t : Trail) (p : ℕ) → IsSettled w t → p < length t.stamps.items → get_or t.codes.items t.head 0 ≡ neg p → t.head < t.len → IsVisiting (with_lists w (record { lists = set (set w.lists.lists 0 (get_or w.lists.lists (p + 1) [])) (p + 1) (get_or w.lists.lists 0 []); literals = w.lists.literals })) t p 0
visit_starts w t p s hp next more =
    let true_now : 0 < get_or t.stamps.items (neg p) 0 = (let l : get_or t.stamps.items (neg p) 0 ≡ t.level + 1 = rw next at (next_level t.stamps.items t.codes.items t.len t.head t.level s.trail more) in omega (arith, l)) in
    let two : 2 ≤ p = (let h : 2 ≤ neg p = s.trail.named (neg p) true_now in rw neg_neg at (neg_low (neg p) h)) in
    record {
      trail = s.trail;
      shown = s.shown;
      spots = s.spots;
      watched = step_start w.lists.lists w.lists.literals w.kinds.items (all_codes w.clauses.items) t.stamps.items t.codes.items t.head p s.watched hp two s.idle;
      within = hp;
      next = next;
      more = more;
      reasoned = s.reasoned;
      named = s.named;
      fixed = s.fixed;
      calm = s.calm;
      slot = λ z. absurd (z refl);
      held = λ z. absurd (z refl);
      refuted = λ z. absurd (z refl);
    }

-- the next literal of the trail has a stamp
pub next_within : (w : Watches) (t : Trail) → IsSettled w t → t.head < t.len → get_or t.codes.items t.head 0 < length t.stamps.items
next_within w t s h = elim (cases_lt (get_or t.codes.items t.head 0) (length t.stamps.items)) [
  | inl a ↦ a
  | inr a ↦ absurd (let z : get_or t.stamps.items (get_or t.codes.items t.head 0) 0 ≡ 0 = get_or_past t.stamps.items (get_or t.codes.items t.head 0) 0 a in
      omega (arith, z, next_level t.stamps.items t.codes.items t.len t.head t.level s.trail h))
]

pub codes_size : (w : Watches) (t : Trail) → IsSettled w t → t.head < t.len → t.head < length t.codes.items
codes_size w t s h = trail_size t.stamps.items t.codes.items t.len t.head t.level s.trail h

pub stopped_settles : (w : Watches) (t : Trail) (p stop : ℕ) → IsVisiting w t p stop → get_or w.lists.lists 0 [] ≡ [] → IsSettled w t
stopped_settles w t p stop v idle = record {
  trail = v.trail;
  shown = v.shown;
  spots = v.spots;
  watched = finish_stop w.lists.lists w.lists.literals w.kinds.items (all_codes w.clauses.items) t.stamps.items t.codes.items t.head p stop v.watched idle (rw (← v.next) (next_not_before t.stamps.items t.codes.items t.len t.head t.level v.trail v.more));
  idle = idle;
  reasoned = v.reasoned;
  named = v.named;
  fixed = v.fixed;
  calm = v.calm;
}

pub visit_settles : (w : Watches) (t : Trail) (p stop : ℕ) → IsVisiting w t p stop → stop ≡ 0 → get_or w.lists.lists 0 [] ≡ [] → IsSettled w (record { stamps = t.stamps; codes = t.codes; reasons = t.reasons; rows = t.rows; spots = t.spots; len = t.len; head = t.head + 1; level = t.level })
visit_settles w t p stop v z idle = record {
  trail = next_trail t.stamps.items t.codes.items t.len t.head t.level v.trail v.more;
  shown = v.shown;
  spots = v.spots;
  watched = finish_none w.lists.lists w.lists.literals w.kinds.items (all_codes w.clauses.items) t.stamps.items t.codes.items t.head p (rw z at v.watched) idle (trail_size t.stamps.items t.codes.items t.len t.head t.level v.trail v.more) v.next;
  idle = idle;
  reasoned = v.reasoned;
  named = v.named;
  fixed = v.fixed;
  calm = v.calm;
}

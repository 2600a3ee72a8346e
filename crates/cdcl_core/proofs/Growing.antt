-- Longer tables change nothing.
use Rattle.std.proofs.Common.{ℕ, ◌≡◌, ◌+◌, ◌-◌, ◌*◌, ◌/◌, ◌%◌, ◌^◌, ◌<◌, ◌≤◌, ◌++◌, zero, suc, List, [], ◌∷◌, Option, Some, None, length, take, replicate, cond, refl, sym, ap, ◌∙◌, inl, inr, arith}
use Rattle.std.specs.Prelude.{slice_get, option_and_then}
use Rattle.std.specs.List.{count_by}
use Rattle.std.proofs.Math.ListN.{get_or}
use Rattle.std.proofs.lemmas.List.{get_or_append_left, get_or-append_right, get_or-replicate, get_or_past, length-append, length-replicate, take-append-le, map-append}
use Rattle.std.proofs.lemmas.Option.{slice_get-get_or}
use Rattle.std.proofs.lemmas.List.Sums.{sum_by-append}
use Rattle.std.proofs.lemmas.Bool.{cases_lt}
use Rattle.cnf_base.specs.Literals.{Literal}
use Rattle.cnf_base.specs.declared.clause.ClauseId.{ClauseId}
use Rattle.cdcl_core.specs.declared.trail.Trail.{Trail}
use Rattle.cdcl_core.specs.declared.watches.Watches.{Watches}
use Rattle.cdcl_core.specs.declared.watches.Kind.{Kind}
use Rattle.cdcl_core.specs.Search.{literals_of, clause_of, held_of}
use Rattle.cdcl_core.specs.Slots.{slot_in}
use Rattle.cdcl_core.specs.Stamps.{neg, is_set, codes, IsTrail}
use Rattle.cdcl_core.specs.Watched.{kind_at, Kept, IsWatching, IsPlace, IsWatched}
use Rattle.cnf_base.specs.Clauses.{no_id}
use Rattle.cdcl_core.specs.State.{no_row, all_codes, IsSettled, IsLonger, IsWider}
use Rattle.cdcl_core.proofs.Held.{held_same}
use Rattle.cdcl_core.proofs.Clauses.{codes_length}
use Rattle.cdcl_core.proofs.Trails.{trail_len}
use Rattle.cdcl_core.proofs.Resting.{watching_mate}
use Rattle.cdcl_core.proofs.Bridge.{rows_len}
use Rattle.cdcl_core.proofs.Visits.{with_lists}
use Rattle.cdcl_core.proofs.Spots.{longer_spot}

-- a read of a list with defaults at its end
pub padded : {X : Type 0} (xs : List X) (n i : ℕ) (d : X) → get_or (xs ++ replicate n d) i d ≡ get_or xs i d
padded xs n i d = elim (cases_lt i (length xs)) [
  | inl a ↦ get_or_append_left xs (replicate n d) d i a
  | inr a ↦ get_or-append_right xs (replicate n d) (length xs) i d refl a ∙ (past n (i - length xs) d ∙ sym (get_or_past xs i d a))
]
  where
    past : {X : Type 0} (n i : ℕ) (d : X) → get_or (replicate n d) i d ≡ d
    past n i d = elim (cases_lt i n) [ inl h ↦ get_or-replicate n i d d h | inr h ↦ get_or_past (replicate n d) i d (rw length-replicate h) ]

no_counts : (n : ℕ) → count_by is_set (replicate n 0) ≡ 0
no_counts zero = refl
no_counts (suc n) = no_counts n

pub longer_trail : (ss es ys : List ℕ) (len head level m : ℕ) → IsTrail ss es len head level → length ss + m ≤ 2 * length (es ++ ys) → length ss + m ≤ 2 ^ 32 → (length ss + m) % 2 ≡ 0 → IsTrail (ss ++ replicate m 0) (es ++ ys) len head level
longer_trail ss es ys len head level m t size few even =
    let room : len ≤ length es = trail_len ss es len head level t in
    let stamp : (l : ℕ) → get_or (ss ++ replicate m 0) l 0 ≡ get_or ss l 0 = λ l. padded ss m l 0 in
    let code : (i : ℕ) → i < len → get_or (es ++ ys) i 0 ≡ get_or es i 0 = λ i h. get_or_append_left es ys 0 i (omega arith) in
    let front : (n : ℕ) → n ≤ len → take n (es ++ ys) ≡ take n es = λ n h. take-append-le n es ys (omega arith) in
    let total : length (ss ++ replicate m 0) ≡ length ss + m = rw (length-append, length-replicate) refl in
    let both : (i : ℕ) → i < len → get_or (ss ++ replicate m 0) (get_or (es ++ ys) i 0) 0 ≡ get_or ss (get_or es i 0) 0 = λ i h. stamp (get_or (es ++ ys) i 0) ∙ ap (λ x. get_or ss x 0) (code i h) in
    record {
      once = λ l. rw (front len (omega arith), stamp l) (t.once l);
      apart = λ l h. rw stamp (t.apart l (rw stamp at h));
      named = λ l h. t.named l (rw stamp at h);
      top = λ l. rw stamp (t.top l);
      below = λ l a b. rw (front head t.reached) (t.below l (rw stamp at a) (rw stamp at b));
      count = sum_by-append (λ x. cond (is_set x) 1 0) ss (replicate m 0) ∙ omega (arith, t.count, no_counts m);
      size = rw total size;
      few = rw total few;
      even = rw total even;
      reached = t.reached;
      levels = record {
        rise = λ i h. rw (both i (omega arith), both (i + 1) h) (t.levels.rise i h);
        step = λ i h. rw (both i (omega arith), both (i + 1) h) (t.levels.step i h);
        start = λ h. rw (both 0 h) (t.levels.start h);
        last = λ h. let l = t.levels.last h in (l.0, rw (both (len - 1) (let p : 0 < len = l.0 in omega arith)) l.1);
      };
    }

pub longer_watched : (L : List (List ℕ)) (ws : List ℕ) (ks : List Kind) (cs : List (List ℕ)) (ss es ys : List ℕ) (len head level n m : ℕ) → IsTrail ss es len head level → IsWatched L ws ks cs ss es head (length ss) 0 → length ss + m + 2 ≤ length L + n →
    IsWatched (L ++ replicate n []) ws ks cs (ss ++ replicate m 0) (es ++ ys) head (length (ss ++ replicate m 0)) 0
longer_watched L ws ks cs ss es ys len head level n m t w room =
    let list_at : (i : ℕ) → get_or (L ++ replicate n []) i [] ≡ get_or L i [] = λ i. padded L n i [] in
    let stamp : (l : ℕ) → get_or (ss ++ replicate m 0) l 0 ≡ get_or ss l 0 = λ l. padded ss m l 0 in
    let total : length (ss ++ replicate m 0) ≡ length ss + m = rw (length-append, length-replicate) refl in
    let lists : length (L ++ replicate n []) ≡ length L + n = rw (length-append, length-replicate) refl in
    let front : take head (es ++ ys) ≡ take head es = take-append-le head es ys (omega (arith, t.reached, trail_len ss es len head level t)) in
    let below : (q : ℕ) → IsWatching ks q → get_or ws q 0 < length ss = λ q o. w.within (q / 2) (get_or ws q 0) (w.inside q o) in
    record {
      lists = rw (lists, total) room;
      slots = w.slots;
      clauses = w.clauses;
      known = λ k on. elim (w.known k on) [ inl a ↦ inl (rw list_at a) | inr a ↦ inr (rw list_at a) ];
      sound = λ i k h.
          let p : IsPlace ws ks (length ss) i k = w.sound i k (rw list_at at h) in
          record {
            low = p.low;
            high = p.high;
            visited = λ u. absurd (let on : IsWatching ks k = record { low = p.low; high = p.high; kind = p.watched (λ e. omega (arith, e, u)) } in omega (arith, below k on, p.visited u));
            listed = p.listed;
            watched = p.watched;
            free = p.free;
            first = p.first;
          };
      inside = w.inside;
      differ = w.differ;
      named = w.named;
      within = λ s l h. rw total (omega (arith, w.within s l h));
      kept = λ k on np d.
          let old : Kept ss (get_or ws k 0) (get_or ws (neg k) 0) = w.kept k on (λ e. omega (arith, e, below k on)) (rw front at d) in
          (rw stamp old.0, rw (stamp, stamp) old.1);
      here = λ k on e st out. absurd (omega (arith, e, total, below k on));
    }

pub longer_settled : (w : Watches) (t t2 : Trail) (n m : ℕ) → IsSettled w t → IsLonger t t2 m → length t.stamps.items + m ≤ 2 * length t2.codes.items → length t2.codes.items ≤ length t2.reasons.items → length t.stamps.items + m ≤ 2 * length t2.rows.items → length t.stamps.items + m ≤ 2 * length t2.spots.items → length t.stamps.items + m ≤ 2 ^ 32 → (length t.stamps.items + m) % 2 ≡ 0 → length t.stamps.items + m + 2 ≤ length w.lists.lists + n →
    IsSettled (with_lists w (record { lists = w.lists.lists ++ replicate n []; literals = w.lists.literals })) t2
longer_settled w t t2 n m s l codes reasons rows spots few even room =
    let ss : List ℕ = t.stamps.items in
    let es : List ℕ = t.codes.items in
    let len_es : t.len ≤ length es = trail_len ss es t.len t.head t.level s.trail in
    let len_rs : t.len ≤ length t.reasons.items = omega (arith, len_es, s.reasoned.width) in
    let len_rows : t.len ≤ length t.rows.items = rows_len t s.trail s.shown in
    let stamp : (x : ℕ) → get_or (ss ++ replicate m 0) x 0 ≡ get_or ss x 0 = λ x. padded ss m x 0 in
    let code : (i : ℕ) → i < t.len → get_or t2.codes.items i 0 ≡ get_or es i 0 = λ i h. rw l.codes.1 (get_or_append_left es l.codes.0 0 i (omega arith)) in
    let reason : (i : ℕ) → i < t.len → get_or t2.reasons.items i 0 ≡ get_or t.reasons.items i 0 = λ i h. rw l.reasons.1 (get_or_append_left t.reasons.items l.reasons.0 0 i (omega arith)) in
    let row : (i : ℕ) → i < t.len → get_or t2.rows.items i no_row ≡ get_or t.rows.items i no_row = λ i h. rw l.rows.1 (get_or_append_left t.rows.items l.rows.0 no_row i (omega arith)) in
    let front : (i : ℕ) → i ≤ t.len → take i t2.codes.items ≡ take i es = λ i h. rw l.codes.1 (take-append-le i es l.codes.0 (omega arith)) in
    let total : length (ss ++ replicate m 0) ≡ length ss + m = rw (length-append, length-replicate) refl in
    record {
      trail = rw (l.stamps, l.codes.1, l.len, l.head, l.level) (longer_trail ss es l.codes.0 t.len t.head t.level m s.trail (rw l.codes.1 at codes) few even);
      shown = record {
        literal = λ i h. let h2 : i < t.len = rw l.len at h in rw (row i h2, code i h2) (s.shown.literal i h2);
        level = λ i h. let h2 : i < t.len = rw l.len at h in rw (row i h2, code i h2, l.stamps, stamp) (s.shown.level i h2);
        width = rw (l.stamps, total) rows;
      };
      spots = record {
        place = λ i h. let h2 : i < t.len = rw l.len at h in rw (code i h2, l.spots.1) (longer_spot t.spots.items l.spots.0 ss es t.len t.head t.level i s.trail s.spots h2);
        width = rw (l.stamps, total) spots;
      };
      watched = rw (l.stamps, l.codes.1, l.head) (longer_watched w.lists.lists w.lists.literals w.kinds.items (all_codes w.clauses.items) ss es l.codes.0 t.len t.head t.level n m s.trail s.watched room);
      idle = padded w.lists.lists n 0 [] ∙ s.idle;
      reasoned = record {
        decided = λ i h a. let h2 : i < t.len = rw l.len at h in rw (row i h2) (s.reasoned.decided i h2 (rw (reason i h2) at a));
        forced = λ i h a. let h2 : i < t.len = rw l.len at h in rw (reason i h2) (s.reasoned.forced i h2 (rw (reason i h2) at a));
        live = λ i h a. let h2 : i < t.len = rw l.len at h in rw (reason i h2) (s.reasoned.live i h2 (rw (reason i h2) at a));
        held = λ i h a b. let h2 : i < t.len = rw l.len at h in rw (reason i h2) (s.reasoned.held i h2 (rw (reason i h2) at a) (rw (row i h2) at b));
        name = λ i h a. let h2 : i < t.len = rw l.len at h in rw (reason i h2, row i h2) (s.reasoned.name i h2 (rw (reason i h2) at a));
        has = λ i h a. let h2 : i < t.len = rw l.len at h in rw (reason i h2, code i h2) (s.reasoned.has i h2 (rw (reason i h2) at a));
        others = λ i q h a b c. let h2 : i < t.len = rw l.len at h in rw (front i (omega arith)) (s.reasoned.others i q h2 (rw (reason i h2) at a) (rw (reason i h2) at b) (rw (code i h2) at c));
        width = reasons;
      };
      named = s.named;
      fixed = record {
        value = λ q lo hi k. elim (s.fixed.value q lo hi k) [
          | inl a ↦ inl (a.0, (a.1.0, rw (l.stamps, stamp) a.1.1))
          | inr a ↦ inr (a.0, λ x h. rw (l.stamps, stamp) (a.1 x h))
        ];
      };
      calm = λ u. s.calm (rw l.level at u);
    }

pub longer_literals : (w : Watches) (t t2 : Trail) (m : ℕ) → IsSettled w t → IsLonger t t2 m → literals_of t2 ≡ literals_of t
longer_literals w t t2 m s l = rw (l.len, l.rows.1) (take-append-le t.len t.rows.items l.rows.0 (rows_len t s.trail s.shown))

pub longer_sizes : (w : Watches) (t t2 : Trail) (m : ℕ) → IsSettled w t → IsLonger t t2 m → (length t.stamps.items ≤ 2 * length t2.codes.items) × (length t.stamps.items ≤ 2 * length t2.rows.items) × (length t.stamps.items ≤ 2 * length t2.spots.items)
longer_sizes w t t2 m s l = (rw (l.codes.1, length-append) (omega (arith, s.trail.size)), rw (l.rows.1, length-append) (omega (arith, s.shown.width)), rw (l.spots.1, length-append) (omega (arith, s.spots.width)))

-- the tables by slot have more rows
named_front : (w w2 : Watches) (q : ℕ) → IsWider w w2 → q < length w.ids.items → get_or w2.ids.items q no_id ≡ get_or w.ids.items q no_id
named_front w w2 q l h = rw l.ids.1 (get_or_append_left w.ids.items l.ids.0 no_id q h)

all_codes_append : (cs : List (List Literal)) (n : ℕ) → all_codes (cs ++ replicate n []) ≡ all_codes cs ++ replicate n []
all_codes_append cs n = map-append codes cs (replicate n []) ∙ ap (λ xs. all_codes cs ++ xs) (nils n)
  where
    nils : (n : ℕ) → all_codes (replicate n []) ≡ replicate n []
    nils zero = refl
    nils (suc n) = ap (λ xs. [] ∷ xs) (nils n)

codes_front : (w w2 : Watches) (q : ℕ) → IsWider w w2 → get_or (all_codes w2.clauses.items) q [] ≡ get_or (all_codes w.clauses.items) q []
codes_front w w2 q l = ap (λ cs. get_or (all_codes cs) q []) l.clauses.1 ∙ (ap (λ cs. get_or cs q []) (all_codes_append w.clauses.items l.clauses.0) ∙ padded (all_codes w.clauses.items) l.clauses.0 q [])

codes_more : (w w2 : Watches) → IsWider w w2 → length (all_codes w.clauses.items) ≤ length (all_codes w2.clauses.items)
codes_more w w2 l = rw (codes_length, codes_length, l.clauses.1, length-append) (omega arith)

pub wider_settled : (w w2 : Watches) (t : Trail) → IsSettled w t → IsWider w w2 → IsSettled w2 t
wider_settled w w2 t s l =
    let ks : List Kind = w.kinds.items in
    let same : w2.kinds.items ≡ ks = ap (λ v. v.items) l.kinds in
    let place : (k : ℕ) → k < 2 * length ks → get_or w2.lists.literals k 0 ≡ get_or w.lists.literals k 0 = λ k h. rw l.literals.1 (get_or_append_left w.lists.literals l.literals.0 0 k (omega (arith, s.watched.slots))) in
    let on_old : (k : ℕ) → IsWatching w2.kinds.items k → IsWatching ks k = λ k on. rw same at on in
    let at_k : (k : ℕ) → IsWatching ks k → get_or w2.lists.literals k 0 ≡ get_or w.lists.literals k 0 = λ k on. place k on.high in
    let at_mate : (k : ℕ) → IsWatching ks k → get_or w2.lists.literals (neg k) 0 ≡ get_or w.lists.literals (neg k) 0 = λ k on. place (neg k) (watching_mate ks k on).high in
    record {
      trail = s.trail;
      shown = s.shown;
      spots = s.spots;
      watched = record {
        lists = rw l.lists s.watched.lists;
        slots = rw (same, l.literals.1, length-append) (omega (arith, s.watched.slots));
        clauses = rw same (omega (arith, s.watched.clauses, codes_more w w2 l));
        known = λ k on. let o = on_old k on in rw (l.lists, at_k k o) (s.watched.known k o);
        sound = λ i k h.
            let p : IsPlace w.lists.literals ks (length t.stamps.items) i k = s.watched.sound i k (rw l.lists at h) in
            record {
              low = p.low;
              high = rw same p.high;
              visited = λ u. rw (place k p.high) (p.visited u);
              listed = λ u. rw (place k p.high) (p.listed u);
              watched = λ u. rw same (p.watched u);
              free = λ u. rw same (p.free u);
              first = p.first;
            };
        inside = λ k on. let o = on_old k on in rw (at_k k o, codes_front w w2 (k / 2) l) (s.watched.inside k o);
        differ = λ k on. let o = on_old k on in rw (at_k k o, at_mate k o) (s.watched.differ k o);
        named = λ q x h. s.watched.named q x (rw (codes_front w w2 q l) at h);
        within = λ q x h. s.watched.within q x (rw (codes_front w w2 q l) at h);
        kept = λ k on np d. let o = on_old k on in rw (at_k k o, at_mate k o) (s.watched.kept k o (rw (at_k k o) at np) (rw (at_k k o) at d));
        here = λ k on e st out. absurd (let o = on_old k on in let e2 : get_or w.lists.literals k 0 ≡ length t.stamps.items = rw (at_k k o) at e in omega (arith, e2, s.watched.within (k / 2) (get_or w.lists.literals k 0) (s.watched.inside k o)));
      };
      idle = rw l.lists s.idle;
      reasoned = record {
        decided = s.reasoned.decided;
        forced = λ i a b. rw same (s.reasoned.forced i a b);
        live = λ i a b. rw same (s.reasoned.live i a b);
        held = λ i a b c. rw same (s.reasoned.held i a b c);
        name = λ i a b. rw (named_front w w2 (get_or t.reasons.items i 0) l (omega (arith, s.reasoned.forced i a b, s.named.rows))) (s.reasoned.name i a b);
        has = λ i a b. rw (codes_front w w2 (get_or t.reasons.items i 0) l) (s.reasoned.has i a b);
        others = λ i m a b c d. s.reasoned.others i m a b (rw (codes_front w w2 (get_or t.reasons.items i 0) l) at c) d;
        width = s.reasoned.width;
      };
      named = rw (l.slots, same) (record {
        low = s.named.low;
        high = s.named.high;
        name = λ id q f. named_front w w2 q l (omega (arith, s.named.high id q f, s.named.rows)) ∙ s.named.name id q f;
        live = s.named.live;
        held = λ q lo hi live. rw (named_front w w2 q l (omega (arith, hi, s.named.rows))) (s.named.held q lo hi live);
        rows = rw (l.ids.1, length-append) (omega (arith, s.named.rows));
        some = s.named.some;
      });
      fixed = rw (same, l.refuted) (record { value = λ q lo hi k. rw (codes_front w w2 q l) (s.fixed.value q lo hi k) });
      calm = λ u. rw l.refuted (s.calm u);
    }

-- the clauses are read in the front of the table
pub clause_front : (w w2 : Watches) (t : Trail) (cs : List (List Literal)) (id : ClauseId) → IsSettled w t → w2.slots ≡ w.slots → w2.clauses.items ≡ w.clauses.items ++ cs → clause_of w2 id ≡ clause_of w id
clause_front w w2 t cs id s e c =
    ap (λ m. option_and_then (λ q. slice_get w2.clauses.items q) (slot_in m id)) e
    ∙ (ap (λ xs. option_and_then (λ q. slice_get xs q) (slot_in w.slots id)) c ∙ front w.clauses.items cs (slot_in w.slots id) (λ q f. omega (arith, s.named.high id q f, s.watched.clauses, codes_length w.clauses.items)))
  where
    front : (xs ys : List (List Literal)) (o : Option ℕ) → ((q : ℕ) → o ≡ Some q → q < length xs) → option_and_then (λ q. slice_get (xs ++ ys) q) o ≡ option_and_then (λ q. slice_get xs q) o
    front xs ys None h = refl
    front xs ys (Some q) h =
        let a : q < length xs = h q refl in
        let b : q < length (xs ++ ys) = rw length-append (omega arith) in
        slice_get-get_or (xs ++ ys) q [] b ∙ (ap Some (get_or_append_left xs ys [] q a) ∙ sym (slice_get-get_or xs q [] a))

-- and each is held or parked as before
pub held_front : (w w2 : Watches) (t : Trail) (cs : List (List Literal)) (id : ClauseId) → IsSettled w t → w2.slots ≡ w.slots → w2.clauses.items ≡ w.clauses.items ++ cs → ((q : ℕ) → kind_at w2.kinds.items q ≡ kind_at w.kinds.items q) → held_of w2 id ≡ held_of w id
held_front w w2 t cs id s e c kind = held_same w w2 id (ap (λ m. slot_in m id) e) (λ q f. kind q) (clause_front w w2 t cs id s e c)

-- What stays true of the watches where one slot changes.
use Rattle.std.proofs.Common.{ℕ, ◌≡◌, ◌≢◌, ◌+◌, ◌*◌, ◌/◌, ◌<◌, ◌≤◌, ◌⊎◌, Bool, true, suc, List, [], ◌∷◌, length, take, cond, eqb, refl, sym, ◌∙◌, inl, inr, arith}
use Rattle.std.proofs.Math.ListN.{get_or, set}
use Rattle.std.specs.List.{sum_by}
use Rattle.std.proofs.lemmas.List.Sums.{sum_by-cons}
use Rattle.std.proofs.lemmas.Bool.Decides.{eqb_tells}
use Rattle.cnf_base.specs.declared.clause.ClauseId.{ClauseId}
use Rattle.cdcl_core.specs.declared.watches.Kind.{Kind}
use Rattle.cdcl_core.specs.declared.watches.Kind.TheVariants.{Free, Fixed}
use Rattle.cdcl_core.specs.Chains.{times, first_of, rest_of}
use Rattle.cdcl_core.specs.Levels.{Row}
use Rattle.cdcl_core.specs.Stamps.{neg, Has}
use Rattle.cdcl_core.specs.Watched.{kind_at, Kept, IsWatching, IsPlace, IsWatched}
use Rattle.cdcl_core.specs.State.{IsReasoned, IsFixed}
use Rattle.cdcl_core.proofs.Moves.{sum_moved}
use Rattle.cdcl_core.proofs.Counting.{times_cons, times_take, taken_apart, neg_slot}

-- only the slot s changes: its kind, its clause, the literals of its two places, and the lists in which these stand
pub record IsSlotChange (L : List (List ℕ)) (ws : List ℕ) (ks : List Kind) (cs : List (List ℕ)) (L2 : List (List ℕ)) (ws2 : List ℕ) (ks2 : List Kind) (cs2 : List (List ℕ)) (ss es : List ℕ) (head s : ℕ) : Type 0 where
  pub lists : length L2 ≡ length L
  pub places : length ws2 ≡ length ws
  pub kinds : length ks2 ≡ length ks
  pub clauses : length cs2 ≡ length cs
  pub gone : (i k : ℕ) → k / 2 ≢ s → 0 < times k (get_or L2 i []) → 0 < times k (get_or L i [])
  pub stay : (i k : ℕ) → k / 2 ≢ s → 0 < times k (get_or L i []) → 0 < times k (get_or L2 i [])
  pub literal : (k : ℕ) → k / 2 ≢ s → get_or ws2 k 0 ≡ get_or ws k 0
  pub kind : (q : ℕ) → q ≢ s → kind_at ks2 q ≡ kind_at ks q
  pub clause : (q : ℕ) → q ≢ s → get_or cs2 q [] ≡ get_or cs q []
  pub placed : (i k : ℕ) → k / 2 ≡ s → 0 < times k (get_or L2 i []) → IsPlace ws2 ks2 (length ss) i k
  pub named : (l : ℕ) → Has (get_or cs2 s []) l → 2 ≤ l
  pub within : (l : ℕ) → Has (get_or cs2 s []) l → l < length ss
  pub known : (k : ℕ) → k / 2 ≡ s → IsWatching ks2 k → 0 < times k (get_or L2 (get_or ws2 k 0 + 1) [])
  pub inside : (k : ℕ) → k / 2 ≡ s → IsWatching ks2 k → Has (get_or cs2 s []) (get_or ws2 k 0)
  pub differ : (k : ℕ) → k / 2 ≡ s → IsWatching ks2 k → get_or ws2 k 0 ≢ get_or ws2 (neg k) 0
  pub kept : (k : ℕ) → k / 2 ≡ s → IsWatching ks2 k → 0 < times (neg (get_or ws2 k 0)) (take head es) → Kept ss (get_or ws2 k 0) (get_or ws2 (neg k) 0)

-- a place of another slot is watched as before
other_watching : (ks ks2 : List Kind) (s k : ℕ) → length ks2 ≡ length ks → ((q : ℕ) → q ≢ s → kind_at ks2 q ≡ kind_at ks q) → k / 2 ≢ s → IsWatching ks2 k → IsWatching ks k
other_watching ks ks2 s k len same ne on = record {
  low = on.low;
  high = (let h : k < 2 * length ks2 = on.high in rw len at h);
  kind = sym (same (k / 2) ne) ∙ on.kind;
}

pub slot_changed : (L : List (List ℕ)) (ws : List ℕ) (ks : List Kind) (cs : List (List ℕ)) (L2 : List (List ℕ)) (ws2 : List ℕ) (ks2 : List Kind) (cs2 : List (List ℕ)) (ss es : List ℕ) (head s : ℕ) → IsWatched L ws ks cs ss es head (length ss) 0 → IsSlotChange L ws ks cs L2 ws2 ks2 cs2 ss es head s → IsWatched L2 ws2 ks2 cs2 ss es head (length ss) 0
slot_changed L ws ks cs L2 ws2 ks2 cs2 ss es head s w c =
    let old : (k : ℕ) → k / 2 ≢ s → IsWatching ks2 k → IsWatching ks k = λ k ne on. other_watching ks ks2 s k c.kinds c.kind ne on in
    let mate : (k : ℕ) → k / 2 ≢ s → neg k / 2 ≢ s = λ k ne e. ne (sym (neg_slot k) ∙ e) in
    let inside2 : (k : ℕ) → IsWatching ks2 k → Has (get_or cs2 (k / 2) []) (get_or ws2 k 0) = λ k on. elim (eqb_tells (k / 2) s) [
      | inl e ↦ rw e.1 (c.inside k e.1 on)
      | inr e ↦ rw (c.clause (k / 2) e.1, c.literal k e.1) (w.inside k (old k e.1 on))
    ] in
    let within2 : (q l : ℕ) → Has (get_or cs2 q []) l → l < length ss = λ q l h. elim (eqb_tells q s) [
      | inl e ↦ c.within l (rw e.1 at h)
      | inr e ↦ w.within q l (rw (c.clause q e.1) at h)
    ] in
    record {
      lists = rw c.lists w.lists;
      slots = rw (c.kinds, c.places) w.slots;
      clauses = rw (c.kinds, c.clauses) w.clauses;
      known = λ k on. elim (eqb_tells (k / 2) s) [
        | inl e ↦ inl (c.known k e.1 on)
        | inr e ↦ elim (w.known k (old k e.1 on)) [
          | inl a ↦ inl (rw (c.literal k e.1) (c.stay (get_or ws k 0 + 1) k e.1 a))
          | inr a ↦ inr (c.stay 0 k e.1 a)
        ]
      ];
      sound = λ i k h. elim (eqb_tells (k / 2) s) [
        | inl e ↦ c.placed i k e.1 h
        | inr e ↦
            let p : IsPlace ws ks (length ss) i k = w.sound i k (c.gone i k e.1 h) in
            record {
              low = p.low;
              high = rw c.kinds p.high;
              visited = λ u. rw (c.literal k e.1) (p.visited u);
              listed = λ u. rw (c.literal k e.1) (p.listed u);
              watched = λ u. c.kind (k / 2) e.1 ∙ p.watched u;
              free = λ u. c.kind (k / 2) e.1 ∙ p.free u;
              first = p.first;
            }
      ];
      inside = inside2;
      differ = λ k on. elim (eqb_tells (k / 2) s) [
        | inl e ↦ c.differ k e.1 on
        | inr e ↦ rw (c.literal k e.1, c.literal (neg k) (mate k e.1)) (w.differ k (old k e.1 on))
      ];
      named = λ q l h. elim (eqb_tells q s) [
        | inl e ↦ c.named l (rw e.1 at h)
        | inr e ↦ w.named q l (rw (c.clause q e.1) at h)
      ];
      within = within2;
      kept = λ k on np d. elim (eqb_tells (k / 2) s) [
        | inl e ↦ c.kept k e.1 on d
        | inr e ↦ rw (c.literal k e.1, c.literal (neg k) (mate k e.1)) (w.kept k (old k e.1 on) (rw (c.literal k e.1) at np) (rw (c.literal k e.1) at d))
      ];
      here = λ k on e st out. absurd (omega (arith, e, within2 (k / 2) (get_or ws2 k 0) (inside2 k on)));
    }

-- fewer literals count as propagated
pub fewer_propagated : (L : List (List ℕ)) (ws : List ℕ) (ks : List Kind) (cs : List (List ℕ)) (ss es : List ℕ) (head head2 : ℕ) → head2 ≤ head → IsWatched L ws ks cs ss es head (length ss) 0 → IsWatched L ws ks cs ss es head2 (length ss) 0
fewer_propagated L ws ks cs ss es head head2 le w = record {
  lists = w.lists;
  slots = w.slots;
  clauses = w.clauses;
  known = w.known;
  sound = w.sound;
  inside = w.inside;
  differ = w.differ;
  named = w.named;
  within = w.within;
  kept = λ k on np d. w.kept k on np (omega (arith, d, times_take (neg (get_or ws k 0)) head2 head es le));
  here = w.here;
}

live_differs : (ks : List Kind) (r s : ℕ) → kind_at ks r ≢ Free → kind_at ks s ≡ Free → r ≢ s
live_differs ks r s live free e = live (rw e free)

-- reasons are other slots than one that was free
pub reasoned_changed : (cs : List (List ℕ)) (ks : List Kind) (ids : List ClauseId) (rows : List Row) (es rs : List ℕ) (len : ℕ) (cs2 : List (List ℕ)) (ks2 : List Kind) (s : ℕ) → IsReasoned cs ks ids rows es rs len → ((i : ℕ) → i < len → 0 < get_or rs i 0 → get_or rs i 0 ≢ s) → length ks2 ≡ length ks → ((q : ℕ) → q ≢ s → kind_at ks2 q ≡ kind_at ks q) → ((q : ℕ) → q ≢ s → get_or cs2 q [] ≡ get_or cs q []) → IsReasoned cs2 ks2 ids rows es rs len
reasoned_changed cs ks ids rows es rs len cs2 ks2 s r apart size kind clause = record {
  decided = r.decided;
  forced = λ i a b. rw size (r.forced i a b);
  live = λ i a b. rw (kind (get_or rs i 0) (apart i a b)) (r.live i a b);
  held = λ i a b c. rw (kind (get_or rs i 0) (apart i a b)) (r.held i a b c);
  name = r.name;
  has = λ i a b. rw (clause (get_or rs i 0) (apart i a b)) (r.has i a b);
  others = λ i m a b c d. r.others i m a b (rw (clause (get_or rs i 0) (apart i a b)) at c) d;
  width = r.width;
}

pub free_apart : (cs : List (List ℕ)) (ks : List Kind) (ids : List ClauseId) (rows : List Row) (es rs : List ℕ) (len s : ℕ) → IsReasoned cs ks ids rows es rs len → kind_at ks s ≡ Free → (i : ℕ) → i < len → 0 < get_or rs i 0 → get_or rs i 0 ≢ s
free_apart cs ks ids rows es rs len s r free i a b = live_differs ks (get_or rs i 0) s (r.live i a b) free

pub fixed_changed : (ks : List Kind) (cs : List (List ℕ)) (ss : List ℕ) (refuted refuted2 : Bool) (ks2 : List Kind) (cs2 : List (List ℕ)) (s : ℕ) → IsFixed ks cs ss refuted → length ks2 ≡ length ks → ((q : ℕ) → q ≢ s → kind_at ks2 q ≡ kind_at ks q) → ((q : ℕ) → q ≢ s → get_or cs2 q [] ≡ get_or cs q []) → (refuted ≡ true → refuted2 ≡ true) →
    (kind_at ks2 s ≡ Fixed → ((l : ℕ) × (Has (get_or cs2 s []) l × (get_or ss l 0 ≡ 1))) ⊎ ((refuted2 ≡ true) × ((l : ℕ) → Has (get_or cs2 s []) l → get_or ss (neg l) 0 ≡ 1))) → IsFixed ks2 cs2 ss refuted2
fixed_changed ks cs ss refuted refuted2 ks2 cs2 s f size kind clause more here = record {
  value = λ q lo hi k. elim (eqb_tells q s) [
    | inl e ↦ rw e.1 (here (rw e.1 at k))
    | inr e ↦ elim (f.value q lo (rw size at hi) (sym (kind q e.1) ∙ k)) [
      | inl a ↦ inl (a.0, (rw (clause q e.1) a.1.0, a.1.1))
      | inr a ↦ inr (more a.0, λ l h. a.1 l (rw (clause q e.1) at h))
    ]
  ];
}

-- a list of which each element is nothing to f
pub sum_zero : (f : List ℕ → ℕ) (L : List (List ℕ)) → ((i : ℕ) → f (get_or L i []) ≡ 0) → sum_by f L ≡ 0
sum_zero f [] h = refl
sum_zero f (x ∷ xs) h = sum_by-cons f x xs ∙ omega (arith, h 0, sum_zero f xs (λ i. h (suc i)))

-- a move changes no count over all lists
pub moved_counts : (L : List (List ℕ)) (i j q : ℕ) → i < length L → j < length L → j ≢ i → 0 < first_of (get_or L i []) → sum_by (times q) (set (set L i (rest_of (get_or L i []))) j (first_of (get_or L i []) ∷ get_or L j [])) ≡ sum_by (times q) L
moved_counts L i j q hi hj ne pos = sum_moved (times q) L i j (cond (eqb (first_of (get_or L i [])) q) 1 0) (rest_of (get_or L i [])) (first_of (get_or L i []) ∷ get_or L j []) hi hj ne (taken_apart (get_or L i []) q pos) (times_cons q (first_of (get_or L i [])) (get_or L j []))

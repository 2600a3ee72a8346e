-- What the steps of a visit leave of the watches: a place that is kept or moved, and a literal that becomes true.
use Rattle.std.proofs.Common.{ℕ, ◌≡◌, ◌≢◌, ◌+◌, ◌/◌, ◌<◌, ◌≤◌, ◌⊎◌, List, [], ◌∷◌, length, take, eqb, refl, sym, ◌∙◌, ap, inl, inr, arith}
use Rattle.std.proofs.Math.ListN.{get_or, set, length-set}
use Rattle.std.proofs.lemmas.List.{get_or-set_other, get_or-set_same, take-set-le}
use Rattle.std.proofs.lemmas.Bool.Decides.{eqb_tells}
use Rattle.cdcl_core.specs.Chains.{times, first_of, rest_of}
use Rattle.cdcl_core.specs.Stamps.{neg, Has, IsTrail}
use Rattle.cdcl_core.specs.declared.watches.Kind.{Kind}
use Rattle.cdcl_core.specs.Watched.{Kept, IsWatching, IsPlace, IsWatched}
use Rattle.cdcl_core.proofs.Counting.{bit, same_or_not, times_cons, taken_apart, neg_neg, neg_differs, set_cases}
use Rattle.cdcl_core.proofs.Trails.{on_trail}

-- a place of list i that is moved to the front of another list
unfoldable pub move_to : List (List ℕ) → ℕ → List (List ℕ)
move_to L q = set (set L 0 (rest_of (get_or L 0 []))) (q + 1) (first_of (get_or L 0 []) ∷ get_or L (q + 1) [])

moved_length : (L : List (List ℕ)) (q : ℕ) → length (move_to L q) ≡ length L
unfolding move_to
moved_length L q = rw (length-set, length-set) refl

moved_pending : (L : List (List ℕ)) (q : ℕ) → q + 1 < length L → get_or (move_to L q) 0 [] ≡ rest_of (get_or L 0 [])
unfolding move_to
moved_pending L q h =
    let ne : 0 ≢ q + 1 = λ e. omega (arith, e) in
    let h0 : 0 < length L = omega arith in
    rw (get_or-set_other (set L 0 (rest_of (get_or L 0 []))) (q + 1) 0 (first_of (get_or L 0 []) ∷ get_or L (q + 1) []) [] ne) (get_or-set_same L 0 (rest_of (get_or L 0 [])) [] h0)

moved_target : (L : List (List ℕ)) (q : ℕ) → q + 1 < length L → get_or (move_to L q) (q + 1) [] ≡ first_of (get_or L 0 []) ∷ get_or L (q + 1) []
unfolding move_to
moved_target L q h = get_or-set_same (set L 0 (rest_of (get_or L 0 []))) (q + 1) (first_of (get_or L 0 []) ∷ get_or L (q + 1) []) [] (rw length-set h)

moved_other : (L : List (List ℕ)) (q i : ℕ) → i ≢ 0 → i ≢ q + 1 → get_or (move_to L q) i [] ≡ get_or L i []
unfolding move_to
moved_other L q i n0 nq = rw (get_or-set_other (set L 0 (rest_of (get_or L 0 []))) (q + 1) i (first_of (get_or L 0 []) ∷ get_or L (q + 1) []) [] nq) (get_or-set_other L 0 i (rest_of (get_or L 0 [])) [] n0)

-- how often a place stands in each list after a move
times_target : (L : List (List ℕ)) (q k : ℕ) → q + 1 < length L → times k (get_or (move_to L q) (q + 1) []) ≡ bit (eqb (first_of (get_or L 0 [])) k) + times k (get_or L (q + 1) [])
times_target L q k h = rw (moved_target L q h) (times_cons k (first_of (get_or L 0 [])) (get_or L (q + 1) []))

times_pending : (L : List (List ℕ)) (q k : ℕ) → q + 1 < length L → 0 < first_of (get_or L 0 []) → times k (get_or L 0 []) ≡ bit (eqb (first_of (get_or L 0 [])) k) + times k (get_or (move_to L q) 0 [])
times_pending L q k h pos = rw (moved_pending L q h) (taken_apart (get_or L 0 []) k pos)

-- the place that is visited
pub first_in : (L : List (List ℕ)) → 0 < first_of (get_or L 0 []) → 0 < times (first_of (get_or L 0 [])) (get_or L 0 [])
first_in L pos = elim (same_or_not (first_of (get_or L 0 [])) (first_of (get_or L 0 []))) [ inl p ↦ omega (arith, taken_apart (get_or L 0 []) (first_of (get_or L 0 [])) pos, p.1) | inr p ↦ absurd (p.0 refl) ]

-- a kept place goes back to the list of its literal
pub step_keep : (L : List (List ℕ)) (ws : List ℕ) (ks : List Kind) (cs : List (List ℕ)) (ss es : List ℕ) (head p stop : ℕ) → IsWatched L ws ks cs ss es head p stop → p < length ss → 0 < first_of (get_or L 0 []) → (stop ≡ 0 → Kept ss p (get_or ws (neg (first_of (get_or L 0 []))) 0)) → IsWatched (move_to L p) ws ks cs ss es head p stop
step_keep L ws ks cs ss es head p stop w hp pos keep =
    let k : ℕ = first_of (get_or L 0 []) in
    let at_k : IsPlace ws ks p 0 k = w.sound 0 k (first_in L pos) in
    let is_p : get_or ws k 0 ≡ p = at_k.visited refl in
    let on_k : IsWatching ks k = record { low = at_k.low; high = at_k.high; kind = at_k.watched (λ e. omega (arith, e)) } in
    let two : 2 ≤ p = rw is_p at (w.named (k / 2) (get_or ws k 0) (w.inside k on_k)) in
    let room : p + 1 < length L = omega (arith, w.lists, hp) in
    record {
      lists = rw (moved_length L p) w.lists;
      slots = w.slots;
      clauses = w.clauses;
      known = λ q on. elim (same_or_not k q) [
        | inl e ↦ let wq : get_or ws q 0 ≡ p = rw (← e.0) is_p in
            inl (rw wq (omega (arith, times_target L p q room, e.1)))
        | inr e ↦ elim (w.known q on) [
          | inl a ↦ elim (eqb_tells (get_or ws q 0 + 1) (p + 1)) [
            | inl z ↦ inl (let a2 : 0 < times q (get_or L (p + 1) []) = rw z.1 at a in rw z.1 (omega (arith, times_target L p q room, a2)))
            | inr z ↦ let n0 : get_or ws q 0 + 1 ≢ 0 = λ y. omega (arith, y) in inl (rw (moved_other L p (get_or ws q 0 + 1) n0 z.1) a)
          ]
          | inr a ↦ inr (omega (arith, times_pending L p q room pos, a, e.1))
        ]
      ];
      sound = λ i q h. elim (eqb_tells i 0) [
        | inl z ↦ rw z.1 (w.sound 0 q (let h2 : 0 < times q (get_or (move_to L p) 0 []) = rw z.1 at h in omega (arith, times_pending L p q room pos, h2)))
        | inr z ↦ elim (eqb_tells i (p + 1)) [
          | inl y ↦ elim (same_or_not k q) [
            | inl e ↦ rw (y.1, ← e.0) (record { low = at_k.low; high = at_k.high; visited = λ v. absurd (omega (arith, v)); listed = λ v. rw is_p refl; watched = λ _. on_k.kind; free = λ v. absurd (omega (arith, v, two)); first = λ v. absurd (omega (arith, v, two)) })
            | inr e ↦ rw y.1 (w.sound (p + 1) q (let h2 : 0 < times q (get_or (move_to L p) (p + 1) []) = rw y.1 at h in omega (arith, times_target L p q room, h2, e.1)))
          ]
          | inr y ↦ w.sound i q (rw (moved_other L p i z.1 y.1) at h)
        ]
      ];
      inside = w.inside;
      differ = w.differ;
      named = w.named;
      within = w.within;
      kept = w.kept;
      here = λ q on e s out. elim (same_or_not k q) [
        | inl y ↦ rw (e, ← y.0) (keep s)
        | inr y ↦ w.here q on e s (omega (arith, times_pending L p q room pos, out, y.1))
      ];
    }

-- the state before a visited place is moved: it stands in list 0 once and in no other
pub record IsVisited (L : List (List ℕ)) (ws es ss : List ℕ) (len head level p k : ℕ) : Type 0 where
  pub trail : IsTrail ss es len head level
  pub false_now : 0 < get_or ss (neg p) 0
  pub within : p < length ss
  pub is_first : k ≡ first_of (get_or L 0 [])
  pub pos : 0 < k
  pub single : times k (get_or L 0 []) ≤ 1
  pub lone : (i : ℕ) → i ≢ 0 → times k (get_or L i []) ≡ 0

pub not_true : (ss es : List ℕ) (len head level p : ℕ) → IsTrail ss es len head level → 0 < get_or ss (neg p) 0 → get_or ss p 0 ≡ 0
not_true ss es len head level p t h = rw neg_neg at (t.apart (neg p) h)

-- a place that moves to the list of another literal of its clause, which is not false
pub step_move : (L : List (List ℕ)) (ws : List ℕ) (ks : List Kind) (cs : List (List ℕ)) (ss es : List ℕ) (len head level p stop k f : ℕ) → IsWatched L ws ks cs ss es head p stop → IsVisited L ws es ss len head level p k → Has (get_or cs (k / 2) []) f → f ≢ get_or ws (neg k) 0 → get_or ss (neg f) 0 ≡ 0 → IsWatched (move_to L f) (set ws k f) ks cs ss es head p stop
step_move L ws ks cs ss es len head level p stop k f w v has ne free =
    let F : ℕ = first_of (get_or L 0 []) in
    let pos : 0 < F = rw (← v.is_first) v.pos in
    let at_k : IsPlace ws ks p 0 k = w.sound 0 k (rw v.is_first (first_in L pos)) in
    let is_p : get_or ws k 0 ≡ p = at_k.visited refl in
    let hf : f < length ss = w.within (k / 2) f has in
    let two : 2 ≤ f = w.named (k / 2) f has in
    let row : k < length ws = omega (arith, at_k.high, w.slots) in
    let on_k : IsWatching ks k = record { low = at_k.low; high = at_k.high; kind = at_k.watched (λ e. omega (arith, e)) } in
    let room : f + 1 < length L = omega (arith, w.lists, hf) in
    let gone : times k (get_or (move_to L f) 0 []) ≡ 0 = elim (same_or_not F k) [ inl e ↦ omega (arith, times_pending L f k room pos, v.single, e.1) | inr e ↦ absurd (e.0 (sym v.is_first)) ] in
    let not_p : f ≢ p = λ e. let z : get_or ss (neg p) 0 ≡ 0 = rw e at free in omega (arith, z, v.false_now) in
    let wr : (q : ℕ) → ((q ≡ k) × (get_or (set ws k f) q 0 ≡ f)) ⊎ ((q ≢ k) × (get_or (set ws k f) q 0 ≡ get_or ws q 0)) = λ q. set_cases ws k f q row in
    record {
      lists = rw (moved_length L f) w.lists;
      slots = rw length-set w.slots;
      clauses = w.clauses;
      known = λ q on. elim (wr q) [
        | inl e ↦ elim (same_or_not F q) [
          | inl y ↦ inl (rw e.1 (omega (arith, times_target L f q room, y.1)))
          | inr y ↦ absurd (y.0 (sym v.is_first ∙ sym e.0))
        ]
        | inr e ↦ elim (w.known q on) [
          | inl a ↦ elim (eqb_tells (get_or ws q 0 + 1) (f + 1)) [
            | inl z ↦ inl (let a2 : 0 < times q (get_or L (f + 1) []) = rw z.1 at a in rw (e.1, z.1) (omega (arith, times_target L f q room, a2)))
            | inr z ↦ let n0 : get_or ws q 0 + 1 ≢ 0 = λ y. omega (arith, y) in inl (rw (e.1, moved_other L f (get_or ws q 0 + 1) n0 z.1) a)
          ]
          | inr a ↦ elim (same_or_not F q) [
            | inl y ↦ absurd (e.0 (sym y.0 ∙ sym v.is_first))
            | inr y ↦ inr (omega (arith, times_pending L f q room pos, a, y.1))
          ]
        ]
      ];
      sound = λ i q h. elim (wr q) [
        | inl e ↦ elim (eqb_tells i 0) [
          | inl z ↦ absurd (let h2 : 0 < times k (get_or (move_to L f) 0 []) = rw (z.1, e.0) at h in omega (arith, h2, gone))
          | inr z ↦ elim (eqb_tells i (f + 1)) [
            | inl y ↦ rw (y.1, e.0) (record { low = at_k.low; high = at_k.high; visited = λ u. absurd (omega (arith, u)); listed = λ u. rw (get_or-set_same ws k f 0 row) refl; watched = λ _. on_k.kind; free = λ u. absurd (omega (arith, u, two)); first = λ u. absurd (omega (arith, u, two)) })
            | inr y ↦ absurd (let h2 : 0 < times k (get_or L i []) = rw (moved_other L f i z.1 y.1, e.0) at h in omega (arith, h2, v.lone i z.1))
          ]
        ]
        | inr e ↦
            let carry : (i2 : ℕ) → IsPlace ws ks p i2 q → IsPlace (set ws k f) ks p i2 q = λ i2 s. record { low = s.low; high = s.high; visited = λ u. rw e.1 (s.visited u); listed = λ u. rw e.1 (s.listed u); watched = s.watched; free = s.free; first = s.first } in
            elim (eqb_tells i 0) [
              | inl z ↦ rw z.1 (carry 0 (w.sound 0 q (let h2 : 0 < times q (get_or (move_to L f) 0 []) = rw z.1 at h in omega (arith, times_pending L f q room pos, h2))))
              | inr z ↦ elim (eqb_tells i (f + 1)) [
                | inl y ↦ elim (same_or_not F q) [
                  | inl x ↦ absurd (e.0 (sym x.0 ∙ sym v.is_first))
                  | inr x ↦ rw y.1 (carry (f + 1) (w.sound (f + 1) q (let h2 : 0 < times q (get_or (move_to L f) (f + 1) []) = rw y.1 at h in omega (arith, times_target L f q room, h2, x.1))))
                ]
                | inr y ↦ carry i (w.sound i q (rw (moved_other L f i z.1 y.1) at h))
              ]
            ]
      ];
      inside = λ q on. elim (wr q) [ inl e ↦ rw (e.1, e.0) has | inr e ↦ rw e.1 (w.inside q on) ];
      differ = λ q on. elim (wr q) [
        | inl e ↦ elim (wr (neg q)) [
          | inl y ↦ absurd (neg_differs q (y.0 ∙ sym e.0))
          | inr y ↦ rw (e.1, y.1) (λ u. ne (u ∙ ap (λ x. get_or ws (neg x) 0) e.0))
        ]
        | inr e ↦ elim (wr (neg q)) [
          | inl y ↦ rw (e.1, y.1) (λ u. ne (sym u ∙ ap (λ x. get_or ws x 0) (sym (neg_neg q) ∙ ap neg y.0)))
          | inr y ↦ rw (e.1, y.1) (w.differ q on)
        ]
      ];
      named = w.named;
      within = w.within;
      kept = λ q on np d. elim (wr q) [
        | inl e ↦ absurd (let d2 : 0 < times (neg f) (take head es) = rw e.1 at d in omega (arith, on_trail ss es len head level (neg f) v.trail d2, free))
        | inr e ↦
            let old : Kept ss (get_or ws q 0) (get_or ws (neg q) 0) = w.kept q on (rw e.1 at np) (rw e.1 at d) in
            elim (wr (neg q)) [
              | inl y ↦ absurd (let z : get_or ws (neg q) 0 ≡ p = rw y.0 is_p in let o : 0 < get_or ss p 0 = rw z at old.0 in omega (arith, o, not_true ss es len head level p v.trail v.false_now))
              | inr y ↦ rw (e.1, y.1) old
            ]
      ];
      here = λ q on e s out. elim (wr q) [
        | inl y ↦ absurd (not_p (sym y.1 ∙ e))
        | inr y ↦ elim (wr (neg q)) [
          | inl x ↦ absurd (w.differ q on (sym y.1 ∙ (e ∙ (sym is_p ∙ ap (λ u. get_or ws u 0) (sym x.0)))))
          | inr x ↦ elim (same_or_not F q) [
            | inl u ↦ absurd (y.0 (sym u.0 ∙ sym v.is_first))
            | inr u ↦ rw (y.1, x.1) (w.here q on (rw y.1 at e) s (omega (arith, times_pending L f q room pos, out, u.1)))
          ]
        ]
      ];
    }

-- an open literal that becomes true changes no fact that was kept
pub kept_set : (ss : List ℕ) (l v a b : ℕ) → l < length ss → get_or ss l 0 ≡ 0 → 0 < get_or ss (neg a) 0 → Kept ss a b → Kept (set ss l v) a b
kept_set ss l v a b hl free h k = elim (set_cases ss l v b hl) [
  | inl e ↦ absurd (let z : get_or ss b 0 ≡ 0 = rw e.0 free in omega (arith, z, k.0))
  | inr e ↦ elim (set_cases ss l v (neg a) hl) [
    | inl y ↦ absurd (let z : get_or ss (neg a) 0 ≡ 0 = rw y.0 free in omega (arith, z, h))
    | inr y ↦ rw (e.1, y.1) k
  ]
]

pub step_true : (L : List (List ℕ)) (ws : List ℕ) (ks : List Kind) (cs : List (List ℕ)) (ss es : List ℕ) (len head level p stop l : ℕ) → IsWatched L ws ks cs ss es head p stop → IsTrail ss es len head level → 0 < get_or ss (neg p) 0 → l < length ss → get_or ss l 0 ≡ 0 → IsWatched L ws ks cs (set ss l (level + 1)) (set es len l) head p stop
step_true L ws ks cs ss es len head level p stop l w t hp hl free =
    record {
      lists = rw length-set w.lists;
      slots = w.slots;
      clauses = w.clauses;
      known = w.known;
      sound = w.sound;
      inside = w.inside;
      differ = w.differ;
      named = w.named;
      within = λ s m h. rw length-set (w.within s m h);
      kept = λ q on np d. let d2 : 0 < times (neg (get_or ws q 0)) (take head es) = rw (take-set-le head es len l t.reached) at d in
          kept_set ss l (level + 1) (get_or ws q 0) (get_or ws (neg q) 0) hl free (on_trail ss es len head level (neg (get_or ws q 0)) t d2) (w.kept q on np d2);
      here = λ q on e s out. kept_set ss l (level + 1) (get_or ws q 0) (get_or ws (neg q) 0) hl free (rw e hp) (w.here q on e s out);
    }

pub decided_watched : (L : List (List ℕ)) (ws : List ℕ) (ks : List Kind) (cs : List (List ℕ)) (ss es : List ℕ) (len head level v l : ℕ) → IsWatched L ws ks cs ss es head (length ss) 0 → IsTrail ss es len head level → l < length ss → get_or ss l 0 ≡ 0 → IsWatched L ws ks cs (set ss l v) (set es len l) head (length (set ss l v)) 0
decided_watched L ws ks cs ss es len head level v l w t hl free =
    let same : length (set ss l v) ≡ length ss = rw length-set refl in
    let below : (q : ℕ) → IsWatching ks q → get_or ws q 0 < length ss = λ q on. w.within (q / 2) (get_or ws q 0) (w.inside q on) in
    rw same (record {
      lists = rw length-set w.lists;
      slots = w.slots;
      clauses = w.clauses;
      known = w.known;
      sound = w.sound;
      inside = w.inside;
      differ = w.differ;
      named = w.named;
      within = λ s m h. rw length-set (w.within s m h);
      kept = λ q on np d. let d2 : 0 < times (neg (get_or ws q 0)) (take head es) = rw (take-set-le head es len l t.reached) at d in
          kept_set ss l v (get_or ws q 0) (get_or ws (neg q) 0) hl free (on_trail ss es len head level (neg (get_or ws q 0)) t d2) (w.kept q on np d2);
      here = λ q on e s out. absurd (omega (arith, e, below q on));
    })

-- A clause that goes: its places leave the lists, and its slot becomes free.
use Rattle.std.proofs.Common.{ℕ, ◌≡◌, ◌≢◌, ◌+◌, ◌*◌, ◌/◌, ◌<◌, ◌≤◌, ◌⊎◌, List, [], ◌∷◌, Some, None, length, refl, sym, ap, ◌∙◌, inl, inr, arith}
use Rattle.std.specs.Prelude.{slice_get, option_and_then}
use Rattle.std.specs.List.{sum_by}
use Rattle.std.proofs.Math.ListN.{get_or, set, length-set}
use Rattle.std.proofs.lemmas.List.{get_or-set_other, get_or-set_same, map-set}
use Rattle.std.proofs.lemmas.Bool.{cases_lt}
use Rattle.std.proofs.lemmas.Bool.Decides.{eqb_tells}
use Rattle.cnf_base.specs.Literals.{Literal}
use Rattle.cnf_base.specs.declared.clause.ClauseId.{ClauseId}
use Rattle.cdcl_core.specs.declared.trail.Trail.{Trail}
use Rattle.cdcl_core.specs.declared.watches.Watches.{Watches}
use Rattle.cdcl_core.specs.declared.watches.Kind.{Kind}
use Rattle.cdcl_core.specs.declared.watches.Kind.TheVariants.{Free, Watched}
use Rattle.cdcl_core.specs.Chains.{times}
use Rattle.cdcl_core.specs.Lists.{Lists}
use Rattle.cdcl_core.specs.Levels.{Row}
use Rattle.cdcl_core.specs.Search.{clause_of, held_of, literals_of}
use Rattle.cdcl_core.specs.Slots.{slot_in, IsRenamed}
use Rattle.cdcl_core.specs.Stamps.{codes, Has}
use Rattle.cdcl_core.specs.Watched.{kind_at, IsPlace, IsWatching}
use Rattle.cnf_base.specs.Clauses.{no_id}
use Rattle.cdcl_core.specs.State.{no_row, all_codes, IsSettled, IsPlaced, IsCleared}
use Rattle.cdcl_core.proofs.Apart.{free_not_fixed}
use Rattle.cdcl_core.proofs.Held.{held_same, same_or_other}
use Rattle.cdcl_core.proofs.Counting.{times_nil}
use Rattle.cdcl_core.proofs.Bridge.{row_is}
use Rattle.cdcl_core.proofs.Slots.{slot_changed, reasoned_changed, fixed_changed, sum_zero}
use Rattle.cdcl_core.proofs.Hanging.{freed_change, two_places}
use Rattle.cdcl_core.proofs.Freeing.{with_first, first_counts}
use Rattle.cdcl_core.proofs.Naming.{other_slot, read_other, settled_of}
use Rattle.std.proofs.lemmas.Option.{same_Some}

-- a place of a watched slot stands in the list of its literal alone
pub watched_place : (w : Watches) (t : Trail) (k i : ℕ) → IsPlaced w t → i ≢ get_or w.lists.literals k 0 + 1 → times k (get_or w.lists.lists i []) ≡ 0
watched_place w t k i p ne = elim (cases_lt 0 (times k (get_or w.lists.lists i []))) [
  | inr h ↦ omega arith
  | inl h ↦ elim (eqb_tells i 0) [
    | inl z ↦ absurd (let h2 : 0 < times k [] = rw (z.1, p.idle) at h in omega (arith, h2, times_nil k))
    | inr z ↦ absurd (ne (sym ((p.watched.sound i k h).listed (omega (arith, z.1)))))
  ]
]

-- the literals of the places of a watched slot have rows
pub place_within : (w : Watches) (t : Trail) (s k : ℕ) → IsPlaced w t → 1 ≤ s → s < length w.kinds.items → kind_at w.kinds.items s ≡ Watched → (k ≡ 2 * s) ⊎ (k ≡ 2 * s + 1) → get_or w.lists.literals k 0 < length t.stamps.items
place_within w t s k p lo hi kind at_k =
    let half : k / 2 ≡ s = elim at_k [ inl e ↦ omega (arith, e) | inr e ↦ omega (arith, e) ] in
    let on : IsWatching w.kinds.items k = record { low = elim at_k [ inl e ↦ omega (arith, e) | inr e ↦ omega (arith, e) ]; high = elim at_k [ inl e ↦ omega (arith, e) | inr e ↦ omega (arith, e) ]; kind = rw half kind } in
    p.watched.within (k / 2) (get_or w.lists.literals k 0) (p.watched.inside k on)

-- a slot that is neither free nor watched has its places in no list
pub unwatched_idle : (w : Watches) (t : Trail) (s i k : ℕ) → IsPlaced w t → kind_at w.kinds.items s ≢ Free → kind_at w.kinds.items s ≢ Watched → k / 2 ≡ s → times k (get_or w.lists.lists i []) ≡ 0
unwatched_idle w t s i k p live other e = elim (cases_lt 0 (times k (get_or w.lists.lists i []))) [
  | inr h ↦ omega arith
  | inl h ↦
      let pl : IsPlace w.lists.literals w.kinds.items (length t.stamps.items) i k = p.watched.sound i k h in
      elim (eqb_tells i 1) [
        | inl z ↦ absurd (live (rw (← e) (pl.free z.1)))
        | inr z ↦ absurd (other (rw (← e) (pl.watched z.1)))
      ]
]

pub same_cleared : (w : Watches) (t : Trail) (s : ℕ) → IsPlaced w t → kind_at w.kinds.items s ≢ Free → kind_at w.kinds.items s ≢ Watched → IsCleared w.lists w.lists s
same_cleared w t s p live other = record { literals = refl; size = refl; idle = p.idle; gone = λ i k e. unwatched_idle w t s i k p live other e; others = λ i k ne. refl }

-- both places were taken out
pub both_cleared : (old mid new : Lists) (s : ℕ) → mid.literals ≡ old.literals → new.literals ≡ mid.literals → length mid.lists ≡ length old.lists → length new.lists ≡ length mid.lists → get_or new.lists 0 [] ≡ [] →
    ((i : ℕ) → times (2 * s) (get_or mid.lists i []) ≡ 0) → ((i q : ℕ) → q ≢ 2 * s → times q (get_or mid.lists i []) ≡ times q (get_or old.lists i [])) →
    ((i : ℕ) → times (2 * s + 1) (get_or new.lists i []) ≡ 0) → ((i q : ℕ) → q ≢ 2 * s + 1 → times q (get_or new.lists i []) ≡ times q (get_or mid.lists i [])) → IsCleared old new s
both_cleared old mid new s l1 l2 n1 n2 idle gone1 others1 gone2 others2 = record {
  literals = l2 ∙ l1;
  size = n2 ∙ n1;
  idle = idle;
  gone = λ i k e. elim (two_places k s e) [
    | inl y ↦ rw y (others2 i (2 * s) (λ z. omega (arith, z)) ∙ gone1 i)
    | inr y ↦ rw y (gone2 i)
  ];
  others = λ i k ne. others2 i k (λ z. ne (omega (arith, z))) ∙ others1 i k (λ z. ne (omega (arith, z)));
}

pub cleared_counts : (old new : Lists) (s : ℕ) → IsCleared old new s → sum_by (times (2 * s)) new.lists ≡ 0
cleared_counts old new s c = sum_zero (times (2 * s)) new.lists (λ i. c.gone i (2 * s) (omega arith))

-- the clause of a slot that is no reason is taken out: V has its places in no list, and w3 the slot in front of the free ones
pub record IsGivenUp (w w3 : Watches) (V : Lists) (t : Trail) (s : ℕ) : Type 0 where
  pub settled : IsSettled w t
  pub low : 1 ≤ s
  pub high : s < length w.kinds.items
  pub apart : (i : ℕ) → i < t.len → 0 < get_or t.reasons.items i 0 → get_or t.reasons.items i 0 ≢ s
  pub cleared : IsCleared w.lists V s
  pub kinds : w3.kinds.items ≡ set w.kinds.items s Free
  pub clauses : w3.clauses.items ≡ set w.clauses.items s []
  pub ids : w3.ids ≡ w.ids
  pub calm : w3.refuted ≡ w.refuted
  pub literals : w3.lists.literals ≡ set V.literals (2 * s) 0
  pub lists : w3.lists.lists ≡ with_first V.lists (2 * s)

pub given_up_placed : (w w3 : Watches) (V : Lists) (t : Trail) (s : ℕ) → IsGivenUp w w3 V t s → IsPlaced w3 t
given_up_placed w w3 V t s g =
    let st : IsSettled w t = g.settled in
    let ks : List Kind = w.kinds.items in
    let ks2 : List Kind = set ks s Free in
    let cs : List (List ℕ) = all_codes w.clauses.items in
    let cs2 : List (List ℕ) = set cs s [] in
    let lo : 1 ≤ s = g.low in
    let hi : s < length ks = g.high in
    let is_cs : all_codes w3.clauses.items ≡ cs2 = ap all_codes g.clauses ∙ map-set codes w.clauses.items s [] in
    let free : kind_at ks2 s ≡ Free = get_or-set_same ks s Free Free hi in
    let kind : (q : ℕ) → q ≢ s → kind_at ks2 q ≡ kind_at ks q = λ q ne. get_or-set_other ks s q Free Free ne in
    let clause : (q : ℕ) → q ≢ s → get_or cs2 q [] ≡ get_or cs q [] = λ q ne. get_or-set_other cs s q [] [] ne in
    let nothing : get_or cs2 s [] ≡ [] = get_or-set_same cs s [] [] (omega (arith, hi, st.watched.clauses)) in
    let one : 1 < length V.lists = rw g.cleared.size (omega (arith, st.watched.lists)) in
    let row : 2 * s < length w.lists.literals = omega (arith, hi, st.watched.slots) in
    let L2 : List (List ℕ) = with_first V.lists (2 * s) in
    record {
      trail = st.trail;
      shown = st.shown;
      spots = st.spots;
      watched = rw (g.lists, g.literals, g.cleared.literals, g.kinds, is_cs) (slot_changed w.lists.lists w.lists.literals ks cs L2 (set w.lists.literals (2 * s) 0) ks2 cs2 t.stamps.items t.codes.items t.head s st.watched
          (freed_change w.lists.lists w.lists.literals ks cs L2 ks2 cs2 t.stamps.items t.codes.items t.head s lo hi row (rw length-set g.cleared.size) (rw length-set refl) (rw length-set refl)
          (λ i k ne. elim (first_counts V.lists (2 * s) i k one) [ inl a ↦ a ∙ g.cleared.others i k ne | inr a ↦ absurd (ne (omega (arith, a.1.0))) ])
          (λ i k e h. elim (first_counts V.lists (2 * s) i k one) [
            | inl a ↦ absurd (omega (arith, h, a, g.cleared.gone i k e))
            | inr a ↦ (a.0, a.1.0)
          ])
          free kind clause (λ l h. absurd (let h2 : Has [] l = rw nothing at h in omega (arith, h2, times_nil l))) (λ l h. absurd (let h2 : Has [] l = rw nothing at h in omega (arith, h2, times_nil l)))));
      idle = rw g.lists (get_or-set_other V.lists 1 0 (2 * s ∷ get_or V.lists 1 []) [] (λ u. omega (arith, u)) ∙ g.cleared.idle);
      reasoned = rw (g.ids, g.kinds, is_cs) (reasoned_changed cs ks w.ids.items t.rows.items t.codes.items t.reasons.items t.len cs2 ks2 s st.reasoned g.apart (rw length-set refl) kind clause);
      rows = rw (g.kinds, g.ids, length-set) st.named.rows;
      fixed = rw (g.kinds, is_cs, g.calm) (fixed_changed ks cs t.stamps.items w.refuted w.refuted ks2 cs2 s st.fixed (rw length-set refl) kind clause (λ e. e) (λ k. absurd (free_not_fixed (sym free ∙ k))));
      calm = λ u. g.calm ∙ st.calm u;
    }

-- the steps of a clause that goes: its name has no slot any more, w2 has its places in no list, and w3 its slot free
pub record IsGoing (w w2 w3 : Watches) (t : Trail) (s : ℕ) (id : ClauseId) : Type 0 where
  pub settled : IsSettled w t
  pub found : slot_in w.slots id ≡ Some s
  pub unused : (i : ℕ) (l : Literal) (level : ℕ) → slice_get (literals_of t) i ≢ Some (l, level, Some id)
  pub named : IsRenamed w.slots w3.slots id None
  pub cleared : IsCleared w.lists w2.lists s
  pub kinds : w3.kinds.items ≡ set w.kinds.items s Free
  pub clauses : w3.clauses.items ≡ set w.clauses.items s []
  pub ids : w3.ids ≡ w.ids
  pub calm : w3.refuted ≡ w.refuted
  pub literals : w3.lists.literals ≡ set w2.lists.literals (2 * s) 0
  pub lists : w3.lists.lists ≡ with_first w2.lists.lists (2 * s)

-- the clause is no reason
unused_apart : (w w2 w3 : Watches) (t : Trail) (s : ℕ) (id : ClauseId) → IsGoing w w2 w3 t s id → (i : ℕ) → i < t.len → 0 < get_or t.reasons.items i 0 → get_or t.reasons.items i 0 ≢ s
unused_apart w w2 w3 t s id g i h pos e =
    let row : Row = get_or t.rows.items i no_row in
    let name : row.2 ≡ Some id = g.settled.reasoned.name i h pos ∙ ap Some (ap (λ x. get_or w.ids.items x no_id) e ∙ g.settled.named.name id s g.found) in
    g.unused i row.0 row.1 (row_is t i g.settled.trail g.settled.shown h ∙ ap (λ x. Some (row.0, row.1, x)) name)

gone_cases : (w w2 w3 : Watches) (t : Trail) (s : ℕ) (id q : ClauseId) → IsGoing w w2 w3 t s id → ((id ≡ q) × (slot_in w3.slots q ≡ None)) ⊎ ((q ≢ id) × (slot_in w3.slots q ≡ slot_in w.slots q))
gone_cases w w2 w3 t s id q g = elim (same_or_other q id) [
  | inl e ↦ inl (sym e, ap (slot_in w3.slots) e ∙ g.named.here)
  | inr ne ↦ inr (ne, g.named.others q ne)
]

none_is_not : {A : Type 0} (q : ℕ) → None ≡ Some q → A
none_is_not q e = absurd cc

-- another name stands for another slot
other_name : (w w2 w3 : Watches) (t : Trail) (s : ℕ) (id q : ClauseId) (r : ℕ) → IsGoing w w2 w3 t s id → slot_in w3.slots q ≡ Some r → (slot_in w.slots q ≡ Some r) × (r ≢ s)
other_name w w2 w3 t s id q r g f = elim (gone_cases w w2 w3 t s id q g) [
  | inl a ↦ none_is_not r (sym a.1 ∙ f)
  | inr a ↦
      let old : slot_in w.slots q ≡ Some r = sym a.1 ∙ f in (
        old,
        λ e.
            let same : id ≡ q = sym (g.settled.named.name id s g.found) ∙ (ap (λ x. get_or w.ids.items x no_id) (sym e) ∙ g.settled.named.name q r old) in
            let mine : slot_in w3.slots id ≡ None = g.named.here in
            none_is_not r (sym mine ∙ (ap (slot_in w3.slots) same ∙ f)),
      )
]

pub gone_settled : (w w2 w3 : Watches) (t : Trail) (s : ℕ) (id : ClauseId) → IsGoing w w2 w3 t s id → IsSettled w3 t
gone_settled w w2 w3 t s id g =
    let st : IsSettled w t = g.settled in
    let ks : List Kind = w.kinds.items in
    let hi : s < length ks = st.named.high id s g.found in
    let free : kind_at (set ks s Free) s ≡ Free = get_or-set_same ks s Free Free hi in
    let kind : (q : ℕ) → q ≢ s → kind_at (set ks s Free) q ≡ kind_at ks q = λ q ne. get_or-set_other ks s q Free Free ne in
    let placed : IsPlaced w3 t = given_up_placed w w3 w2.lists t s (record {
      settled = st;
      low = st.named.low id s g.found;
      high = hi;
      apart = unused_apart w w2 w3 t s id g;
      cleared = g.cleared;
      kinds = g.kinds;
      clauses = g.clauses;
      ids = g.ids;
      calm = g.calm;
      literals = g.literals;
      lists = g.lists;
    }) in
    settled_of w3 t placed (rw (g.kinds, g.ids) (record {
      low = λ q r f. st.named.low q r (other_name w w2 w3 t s id q r g f).0;
      high = λ q r f. rw length-set (st.named.high q r (other_name w w2 w3 t s id q r g f).0);
      name = λ q r f. st.named.name q r (other_name w w2 w3 t s id q r g f).0;
      live = λ q r f e. st.named.live q r (other_name w w2 w3 t s id q r g f).0 (sym (kind r (other_name w w2 w3 t s id q r g f).1) ∙ e);
      held = λ r a b live.
          let ne : r ≢ s = λ e. live (rw e free) in
          let old : slot_in w.slots (get_or w.ids.items r no_id) ≡ Some r = st.named.held r a (rw length-set at b) (λ e. live (kind r ne ∙ e)) in
          elim (gone_cases w w2 w3 t s id (get_or w.ids.items r no_id) g) [
            | inl x ↦ absurd (ne (same_Some r s (sym old ∙ (ap (slot_in w.slots) (sym x.0) ∙ g.found))))
            | inr x ↦ x.1 ∙ old
          ];
      rows = rw length-set st.named.rows;
      some = rw length-set st.named.some;
    }))

pub gone_clause : (w w2 w3 : Watches) (t : Trail) (s : ℕ) (id : ClauseId) → IsGoing w w2 w3 t s id → clause_of w3 id ≡ None
gone_clause w w2 w3 t s id g = let mine : slot_in w3.slots id ≡ None = g.named.here in ap (option_and_then (λ i. slice_get w3.clauses.items i)) mine

pub gone_others : (w w2 w3 : Watches) (t : Trail) (s : ℕ) (id q : ClauseId) → IsGoing w w2 w3 t s id → q ≢ id → (clause_of w3 q ≡ clause_of w q) × (held_of w3 q ≡ held_of w q)
gone_others w w2 w3 t s id q g ne = elim (gone_cases w w2 w3 t s id q g) [
  | inl a ↦ absurd (ne (sym a.0))
  | inr a ↦
      let apart : (i : ℕ) → slot_in w.slots q ≡ Some i → i ≢ s = λ i f. (other_name w w2 w3 t s id q i g (a.1 ∙ f)).1 in
      let kept : clause_of w3 q ≡ clause_of w q = ap (option_and_then (λ i. slice_get w3.clauses.items i)) a.1 ∙ read_other w3.clauses.items w.clauses.items (slot_in w.slots q)
      (λ i f. ap (λ xs. slice_get xs i) g.clauses ∙ other_slot w.clauses.items s i [] (apart i f)) in
      (kept, held_same w w3 q a.1 (λ i f. rw g.kinds (get_or-set_other w.kinds.items s i Free Free (apart i f))) kept)
]

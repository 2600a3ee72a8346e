-- A decision, and the way back to a lower level.
use Rattle.std.proofs.Common.{ℕ, ◌≡◌, ◌+◌, ◌-◌, ◌<◌, ◌≤◌, ◌++◌, false, List, [], ◌∷◌, Option, None, length, take, refl, ap, ◌∙◌, inl, inr, arith}
use Rattle.std.proofs.Math.ListN.{get_or}
use Rattle.std.proofs.lemmas.List.{get_or_read, get_or_past, take_more_set}
use Rattle.std.proofs.lemmas.Bool.{cases_lt}
use Rattle.cnf_base.specs.Literals.{Literal, literal_of, code_of}
use Rattle.cnf_base.specs.declared.clause.ClauseId.{ClauseId}
use Rattle.cnf_base.proofs.Codes.{literal_of-code_of}
use Rattle.cdcl_core.specs.declared.trail.Trail.{Trail}
use Rattle.cdcl_core.specs.declared.watches.Watches.{Watches}
use Rattle.cdcl_core.specs.Levels.{Row, IsOpen}
use Rattle.cdcl_core.specs.Search.{literals_of, level_of}
use Rattle.cdcl_core.specs.Stamps.{neg, IsTrail}
use Rattle.cdcl_core.specs.State.{all_codes, no_row, IsShown, IsSettled, IsPropagated}
use Rattle.cdcl_core.proofs.Trails.{has_room, decided_trail, trail_len}
use Rattle.cdcl_core.proofs.Watching.{decided_watched}
use Rattle.cdcl_core.proofs.Cutting.{IsCut, cut_entry, cut_top, cut_trail, cut_watched, cut_gone}
use Rattle.cdcl_core.proofs.Reasons.{pushed_reasoned, pushed_shown, pushed_fixed, shorter_reasoned, shorter_shown, has_row}
use Rattle.cdcl_core.proofs.Visits.{IsPushed}
use Rattle.cdcl_core.proofs.Spots.{pushed_spots, shorter_spots}
use Rattle.cdcl_core.proofs.Bridge.{true_rows, false_rows}

-- an open literal has no stamp, and neither has its negation
pub open_stamps : (t : Trail) (l : Literal) → IsTrail t.stamps.items t.codes.items t.len t.head t.level → IsShown t.rows.items t.stamps.items t.codes.items t.len → IsOpen (literals_of t) (level_of t) l → (get_or t.stamps.items (code_of l) 0 ≡ 0) × (get_or t.stamps.items (neg (code_of l)) 0 ≡ 0)
open_stamps t l tr sh o = (
  elim (cases_lt 0 (get_or t.stamps.items (code_of l) 0)) [ inl h ↦ absurd (o.0 (true_rows t t.level l tr sh (h, tr.top (code_of l)))) | inr h ↦ omega arith ],
  elim (cases_lt 0 (get_or t.stamps.items (neg (code_of l)) 0)) [ inl h ↦ absurd (o.1 (false_rows t t.level l tr sh (h, tr.top (neg (code_of l))))) | inr h ↦ omega arith ],
)

pub decide_settles : (w : Watches) (t t2 : Trail) (l : ℕ) → IsSettled w t → IsPropagated w t → 2 ≤ l → l < length t.stamps.items → get_or t.stamps.items l 0 ≡ 0 → get_or t.stamps.items (neg l) 0 ≡ 0 →
    IsPushed t t2 l (t.level + 2) 0 (literal_of l, t.level + 1, None) → IsSettled w t2
decide_settles w t t2 l s rest two hl free free2 pu =
    let cs : List (List ℕ) = all_codes w.clauses.items in
    let x : Row = (literal_of l, t.level + 1, None) in
    let room : t.len < length t.codes.items = has_room t.stamps.items t.codes.items t.len t.head t.level l s.trail hl free free2 in
    let wide : t.len < length t.rows.items = has_row t l s.trail s.shown hl free free2 in
    let level : t2.level ≡ t.level + 1 = omega (arith, pu.level) in
    record {
      trail = rw (pu.stamps, pu.codes, pu.len, pu.head, level) (decided_trail t.stamps.items t.codes.items t.len t.head t.level l s.trail rest.0 two hl free free2);
      shown = rw (pu.rows, pu.stamps, pu.codes, pu.len) (pushed_shown t.rows.items t.stamps.items t.codes.items t.len t.head t.level l (t.level + 2) x s.trail s.shown hl free room wide refl (omega arith));
      spots = rw (pu.spots, pu.stamps, pu.codes, pu.len) (pushed_spots t.spots.items t.stamps.items t.codes.items t.len t.head t.level l (t.level + 2) s.trail s.spots hl free free2 room);
      watched = rw (pu.stamps, pu.codes, pu.head) (decided_watched w.lists.lists w.lists.literals w.kinds.items cs t.stamps.items t.codes.items t.len t.head t.level (t.level + 2) l s.watched s.trail hl free);
      idle = s.idle;
      reasoned = rw (pu.rows, pu.codes, pu.reasons, pu.len) (pushed_reasoned cs w.kinds.items w.ids.items t.rows.items t.codes.items t.reasons.items t.len l 0 x s.reasoned room wide (λ _. refl) (λ z. absurd (omega (arith, z))));
      named = s.named;
      fixed = rw pu.stamps (pushed_fixed w.kinds.items cs t.stamps.items w.refuted l (t.level + 2) s.fixed hl free);
      calm = λ _. rest.1;
    }

-- the rows after one more literal
pub pushed_rows : (t t2 : Trail) (l : Literal) (code v slot level : ℕ) (reason : Option ClauseId) → IsPushed t t2 code v slot (literal_of code, level, reason) → code ≡ code_of l → t.len < length t.rows.items → literals_of t2 ≡ literals_of t ++ (l, level, reason) ∷ []
pushed_rows t t2 l code v slot level reason pu ec wide =
    let lit : literal_of code ≡ l = ap literal_of ec ∙ literal_of-code_of l in
    rw (pu.len, pu.rows) (take_more_set t.rows.items t.len (literal_of code, level, reason) wide ∙ ap (λ x. take t.len t.rows.items ++ (x, level, reason) ∷ []) lit)

pub cut_within : (ss0 es : List ℕ) (len0 head level j : ℕ) (ss : List ℕ) (n x : ℕ) → IsTrail ss0 es len0 head level → IsCut ss0 es len0 j ss n → 0 < n → x ≡ get_or es (n - 1) x → (x ≡ get_or es (n - 1) 0) × (x < length ss)
cut_within ss0 es len0 head level j ss n x t c h e =
    let size : n - 1 < length es = omega (arith, c.fewer, trail_len ss0 es len0 head level t) in
    let e2 : x ≡ get_or es (n - 1) 0 = get_or_read es (n - 1) x size e 0 in
    (e2, elim (cases_lt x (length ss)) [ inl a ↦ a | inr a ↦ absurd (let z : get_or ss (get_or es (n - 1) 0) 0 ≡ 0 = rw e2 at (get_or_past ss x 0 a) in omega (arith, z, (cut_entry ss0 es len0 head level j ss n (n - 1) t c (omega arith)).0)) ])

-- what is kept while the trail is cut back
pub record IsCutTrail (t t2 : Trail) (j : ℕ) : Type 0 where
  pub cut : IsCut t.stamps.items t.codes.items t.len j t2.stamps.items t2.len
  pub codes : t2.codes.items ≡ t.codes.items
  pub reasons : t2.reasons.items ≡ t.reasons.items
  pub rows : t2.rows.items ≡ t.rows.items
  pub spots : t2.spots.items ≡ t.spots.items

stops : (t t2 : Trail) (j : ℕ) → IsCutTrail t t2 j → (0 < t2.len → get_or t2.stamps.items (get_or t2.codes.items (t2.len - 1) 0) 0 ≤ j + 1) → 0 < t2.len → get_or t2.stamps.items (get_or t.codes.items (t2.len - 1) 0) 0 ≤ j + 1
stops t t2 j c stop h = rw c.codes at (stop h)

pub cut_settles : (w : Watches) (t t2 : Trail) (j : ℕ) → IsSettled w t → j < t.level → IsCutTrail t t2 j → (0 < t2.len → get_or t2.stamps.items (get_or t2.codes.items (t2.len - 1) 0) 0 ≤ j + 1) → IsSettled w (record { stamps = t2.stamps; codes = t2.codes; reasons = t2.reasons; rows = t2.rows; spots = t2.spots; len = t2.len; head = t2.len; level = j })
cut_settles w t t2 j s lower c stop =
    let stop2 = stops t t2 j c stop in
    let top : (l : ℕ) → get_or t2.stamps.items l 0 ≤ j + 1 = cut_top t.stamps.items t.codes.items t.len t.head t.level j t2.stamps.items t2.len s.trail c.cut stop2 in
    let calm : w.refuted ≡ false = s.calm (omega arith) in
    record {
      trail = rw c.codes (cut_trail t.stamps.items t.codes.items t.len t.head t.level j t2.stamps.items t2.len s.trail lower c.cut stop2);
      shown = rw (c.rows, c.codes) (shorter_shown t.rows.items t.stamps.items t.codes.items t.len t2.stamps.items t2.len s.shown c.cut.fewer c.cut.size (λ i h. (cut_entry t.stamps.items t.codes.items t.len t.head t.level j t2.stamps.items t2.len i s.trail c.cut h).1));
      spots = rw (c.spots, c.codes) (shorter_spots t.spots.items t.stamps.items t.codes.items t.len t2.stamps.items t2.len s.spots c.cut.fewer c.cut.size);
      watched = rw c.codes (cut_watched w.lists.lists w.lists.literals w.kinds.items (all_codes w.clauses.items) t.stamps.items t.codes.items t.len t.head t.level j t2.stamps.items t2.len s.watched s.trail lower c.cut top);
      idle = s.idle;
      reasoned = rw (c.rows, c.codes, c.reasons) (shorter_reasoned (all_codes w.clauses.items) w.kinds.items w.ids.items t.rows.items t.codes.items t.reasons.items t.len t2.len c.cut.fewer s.reasoned);
      named = s.named;
      fixed = record {
        value = λ q lo hi k. elim (s.fixed.value q lo hi k) [
          | inl a ↦ inl (a.0, (a.1.0, stays t t2 j a.0 c a.1.1))
          | inr a ↦ inr (a.0, λ l h. stays t t2 j (neg l) c (a.1 l h))
        ];
      };
      calm = λ _. calm;
    }
  where
    stays : (t t2 : Trail) (j l : ℕ) → IsCutTrail t t2 j → get_or t.stamps.items l 0 ≡ 1 → get_or t2.stamps.items l 0 ≡ 1
    stays t t2 j l c e = elim (c.cut.same l) [ inl a ↦ a ∙ e | inr a ↦ absurd (omega (arith, a.1, e)) ]

pub cut_kept : (w : Watches) (t t2 : Trail) (j i : ℕ) → IsSettled w t → IsCutTrail t t2 j → (0 < t2.len → get_or t2.stamps.items (get_or t2.codes.items (t2.len - 1) 0) 0 ≤ j + 1) → i < t2.len → (get_or t.rows.items i no_row).1 ≤ j
cut_kept w t t2 j i s c stop h =
    let e : (get_or t.rows.items i no_row).1 + 1 ≡ get_or t.stamps.items (get_or t.codes.items i 0) 0 = s.shown.level i (omega (arith, c.cut.fewer)) in
    let f : get_or t2.stamps.items (get_or t.codes.items i 0) 0 ≡ get_or t.stamps.items (get_or t.codes.items i 0) 0 = (cut_entry t.stamps.items t.codes.items t.len t.head t.level j t2.stamps.items t2.len i s.trail c.cut h).1 in
    omega (arith, e, f, cut_top t.stamps.items t.codes.items t.len t.head t.level j t2.stamps.items t2.len s.trail c.cut (stops t t2 j c stop) (get_or t.codes.items i 0))

pub cut_lost : (w : Watches) (t t2 : Trail) (j i : ℕ) → IsSettled w t → IsCutTrail t t2 j → t2.len ≤ i → i < t.len → j < (get_or t.rows.items i no_row).1
cut_lost w t t2 j i s c lo hi = omega (arith, s.shown.level i hi, cut_gone t.stamps.items t.codes.items t.len t.head t.level j t2.stamps.items t2.len i s.trail c.cut lo hi)

-- The reasons and the rows of the trail, and the clauses that are not watched, as literals are pushed and taken off.
use Rattle.std.proofs.Common.{ℕ, ◌≡◌, ◌≢◌, ◌+◌, ◌<◌, ◌≤◌, Bool, List, [], Option, Some, None, length, take, refl, sym, ◌∙◌, ap, inl, inr, arith}
use Rattle.std.proofs.Math.ListN.{get_or, set, length-set}
use Rattle.std.proofs.lemmas.List.{get_or-set_other, get_or-set_same, get_or-take, take-set-le, take-take}
use Rattle.std.proofs.lemmas.Bool.{cases_lt}
use Rattle.cnf_base.specs.Literals.{literal_of}
use Rattle.cnf_base.specs.declared.clause.ClauseId.{ClauseId}
use Rattle.cdcl_core.specs.declared.trail.Trail.{Trail}
use Rattle.cdcl_core.specs.declared.watches.Kind.{Kind}
use Rattle.cdcl_core.specs.Chains.{times}
use Rattle.cdcl_core.specs.Levels.{Row}
use Rattle.cdcl_core.specs.Stamps.{neg, Has, IsTrail}
use Rattle.cdcl_core.specs.Watched.{kind_at, IsHeld}
use Rattle.cnf_base.specs.Clauses.{no_id}
use Rattle.cdcl_core.specs.State.{no_row, IsShown, IsReasoned, IsFixed, IsGrown}
use Rattle.cdcl_core.proofs.Held.{held_live}
use Rattle.cdcl_core.proofs.Trails.{fewer, same_stamp}
use Rattle.cdcl_core.proofs.Counting.{set_cases}

pub shorter_reasoned : (cs : List (List ℕ)) (ks : List Kind) (ids : List ClauseId) (rows : List Row) (es rs : List ℕ) (len n : ℕ) → n ≤ len → IsReasoned cs ks ids rows es rs len → IsReasoned cs ks ids rows es rs n
shorter_reasoned cs ks ids rows es rs len n h r = record {
  decided = λ i a b. r.decided i (omega arith) b;
  forced = λ i a b. r.forced i (omega arith) b;
  live = λ i a b. r.live i (omega arith) b;
  held = λ i a b c. r.held i (omega arith) b c;
  name = λ i a b. r.name i (omega arith) b;
  has = λ i a b. r.has i (omega arith) b;
  others = λ i m a b c d. r.others i m (omega arith) b c d;
  width = r.width;
}

-- the clause of a slot forces a literal that goes to the end of the trail
pub record IsReason (cs : List (List ℕ)) (ks : List Kind) (ids : List ClauseId) (es : List ℕ) (len l slot : ℕ) (reason : Option ClauseId) : Type 0 where
  pub forced : slot < length ks
  pub held : IsHeld (kind_at ks slot)
  pub name : reason ≡ Some (get_or ids slot no_id)
  pub has : Has (get_or cs slot []) l
  pub others : (m : ℕ) → Has (get_or cs slot []) m → m ≢ l → 0 < times (neg m) (take len es)

pub pushed_reasoned : (cs : List (List ℕ)) (ks : List Kind) (ids : List ClauseId) (rows : List Row) (es rs : List ℕ) (len l slot : ℕ) (x : Row) → IsReasoned cs ks ids rows es rs len → len < length es → len < length rows →
    (slot ≡ 0 → x.2 ≡ None) → (0 < slot → IsReason cs ks ids es len l slot x.2) →
    IsReasoned cs ks ids (set rows len x) (set es len l) (set rs len slot) (len + 1)
pushed_reasoned cs ks ids rows es rs len l slot x r room wide none f =
    let room2 : len < length rs = omega (arith, r.width) in
    let old_r : (i : ℕ) → i < len → get_or (set rs len slot) i 0 ≡ get_or rs i 0 = λ i h. get_or-set_other rs len i slot 0 (λ u. omega (arith, u)) in
    let old_e : (i : ℕ) → i < len → get_or (set es len l) i 0 ≡ get_or es i 0 = λ i h. get_or-set_other es len i l 0 (λ u. omega (arith, u)) in
    let old_x : (i : ℕ) → i < len → get_or (set rows len x) i no_row ≡ get_or rows i no_row = λ i h. get_or-set_other rows len i x no_row (λ u. omega (arith, u)) in
    let new_r : get_or (set rs len slot) len 0 ≡ slot = get_or-set_same rs len slot 0 room2 in
    let new_e : get_or (set es len l) len 0 ≡ l = get_or-set_same es len l 0 room in
    let new_x : get_or (set rows len x) len no_row ≡ x = get_or-set_same rows len x no_row wide in
    record {
      decided = λ i a b. elim (cases_lt i len) [
        | inl h ↦ rw (old_x i h) (r.decided i h (rw (old_r i h) at b))
        | inr h ↦ let e : i ≡ len = omega arith in rw (e, new_x) (none (rw (e, new_r) at b))
      ];
      forced = λ i a b. elim (cases_lt i len) [
        | inl h ↦ rw (old_r i h) (r.forced i h (rw (old_r i h) at b))
        | inr h ↦ let e : i ≡ len = omega arith in rw (e, new_r) (f (rw (e, new_r) at b)).forced
      ];
      live = λ i a b. elim (cases_lt i len) [
        | inl h ↦ rw (old_r i h) (r.live i h (rw (old_r i h) at b))
        | inr h ↦ let e : i ≡ len = omega arith in rw (e, new_r) (held_live (kind_at ks slot) (f (rw (e, new_r) at b)).held)
      ];
      held = λ i a b c. elim (cases_lt i len) [
        | inl h ↦ rw (old_r i h) (r.held i h (rw (old_r i h) at b) (rw (old_x i h) at c))
        | inr h ↦ let e : i ≡ len = omega arith in rw (e, new_r) (f (rw (e, new_r) at b)).held
      ];
      name = λ i a b. elim (cases_lt i len) [
        | inl h ↦ rw (old_r i h, old_x i h) (r.name i h (rw (old_r i h) at b))
        | inr h ↦ let e : i ≡ len = omega arith in rw (e, new_r, new_x) (f (rw (e, new_r) at b)).name
      ];
      has = λ i a b. elim (cases_lt i len) [
        | inl h ↦ rw (old_r i h, old_e i h) (r.has i h (rw (old_r i h) at b))
        | inr h ↦ let e : i ≡ len = omega arith in rw (e, new_r, new_e) (f (rw (e, new_r) at b)).has
      ];
      others = λ i m a b c d. elim (cases_lt i len) [
        | inl h ↦ rw (take-set-le i es len l (omega arith)) (r.others i m h (rw (old_r i h) at b) (rw (old_r i h) at c) (rw (old_e i h) at d))
        | inr h ↦ let e : i ≡ len = omega arith in
            let c2 : Has (get_or cs slot []) m = rw (e, new_r) at c in
            let d2 : m ≢ l = rw (e, new_e) at d in
            rw (e, take-set-le len es len l (omega arith)) ((f (rw (e, new_r) at b)).others m c2 d2)
      ];
      width = rw (length-set, length-set) r.width;
    }

pub pushed_shown : (rows : List Row) (ss es : List ℕ) (len head level l v : ℕ) (x : Row) → IsTrail ss es len head level → IsShown rows ss es len → l < length ss → get_or ss l 0 ≡ 0 → len < length es → len < length rows → x.0 ≡ literal_of l → x.1 + 1 ≡ v → IsShown (set rows len x) (set ss l v) (set es len l) (len + 1)
pushed_shown rows ss es len head level l v x t s hl free room wide lit lev =
    let old_e : (i : ℕ) → i < len → get_or (set es len l) i 0 ≡ get_or es i 0 = λ i h. get_or-set_other es len i l 0 (λ u. omega (arith, u)) in
    let old_x : (i : ℕ) → i < len → get_or (set rows len x) i no_row ≡ get_or rows i no_row = λ i h. get_or-set_other rows len i x no_row (λ u. omega (arith, u)) in
    let new_e : get_or (set es len l) len 0 ≡ l = get_or-set_same es len l 0 room in
    let new_x : get_or (set rows len x) len no_row ≡ x = get_or-set_same rows len x no_row wide in
    record {
      literal = λ i a. elim (cases_lt i len) [
        | inl h ↦ rw (old_x i h, old_e i h) (s.literal i h)
        | inr h ↦ let e : i ≡ len = omega arith in rw (e, new_x, new_e) lit
      ];
      level = λ i a. elim (cases_lt i len) [
        | inl h ↦ rw (old_x i h, same_stamp ss es len head level l v i t free h) (s.level i h)
        | inr h ↦ let e : i ≡ len = omega arith in rw (e, new_x, new_e, get_or-set_same ss l v 0 hl) lev
      ];
      width = rw (length-set, length-set) s.width;
    }

pub shorter_shown : (rows : List Row) (ss es : List ℕ) (len : ℕ) (ss2 : List ℕ) (n : ℕ) → IsShown rows ss es len → n ≤ len → length ss2 ≡ length ss → ((i : ℕ) → i < n → get_or ss2 (get_or es i 0) 0 ≡ get_or ss (get_or es i 0) 0) → IsShown rows ss2 es n
shorter_shown rows ss es len ss2 n s h size same = record {
  literal = λ i a. s.literal i (omega arith);
  level = λ i a. rw (same i a) (s.level i (omega arith));
  width = rw size s.width;
}

-- there is a row for an open literal
pub has_row : (t : Trail) (l : ℕ) → IsTrail t.stamps.items t.codes.items t.len t.head t.level → IsShown t.rows.items t.stamps.items t.codes.items t.len → l < length t.stamps.items → get_or t.stamps.items l 0 ≡ 0 → get_or t.stamps.items (neg l) 0 ≡ 0 → t.len < length t.rows.items
has_row t l tr sh hl free free2 = omega (arith, fewer t.stamps.items t.codes.items t.len t.head t.level l tr hl free free2, sh.width)

-- a stamp that is set stays where an open literal gets one
one_stays : (ss : List ℕ) (l v q : ℕ) → l < length ss → get_or ss l 0 ≡ 0 → get_or ss q 0 ≡ 1 → get_or (set ss l v) q 0 ≡ 1
one_stays ss l v q hl free one = elim (set_cases ss l v q hl) [
  | inl e ↦ absurd (let z : get_or ss q 0 ≡ 0 = rw e.0 free in omega (arith, z, one))
  | inr e ↦ rw e.1 one
]

pub pushed_fixed : (ks : List Kind) (cs : List (List ℕ)) (ss : List ℕ) (r : Bool) (l v : ℕ) → IsFixed ks cs ss r → l < length ss → get_or ss l 0 ≡ 0 → IsFixed ks cs (set ss l v) r
pushed_fixed ks cs ss r l v f hl free = record {
  value = λ s lo h k. elim (f.value s lo h k) [
    | inl a ↦ inl (a.0, (a.1.0, one_stays ss l v a.0 hl free a.1.1))
    | inr a ↦ inr (a.0, λ m has. one_stays ss l v (neg m) hl free (a.1 m has))
  ];
}

pub same_grown : (t : Trail) → IsGrown t t
same_grown t = record { longer = omega arith; codes = refl; reasons = refl; rows = refl; forced = λ i a b. absurd (omega arith); level = λ i a b. absurd (omega arith) }

pub pushed_grown : (t t2 : Trail) (l slot : ℕ) (x : Row) → 0 < slot → t.len < length t.reasons.items → t.len < length t.rows.items → x.1 ≡ t.level → t2.codes.items ≡ set t.codes.items t.len l → t2.reasons.items ≡ set t.reasons.items t.len slot → t2.rows.items ≡ set t.rows.items t.len x → t2.len ≡ t.len + 1 → IsGrown t t2
pushed_grown t t2 l slot x pos room wide lev e1 e2 e3 e4 = record {
  longer = omega (arith, e4);
  codes = rw e1 (take-set-le t.len t.codes.items t.len l (omega arith));
  reasons = rw e2 (take-set-le t.len t.reasons.items t.len slot (omega arith));
  rows = rw e3 (take-set-le t.len t.rows.items t.len x (omega arith));
  forced = λ i a b. let e : i ≡ t.len = omega (arith, e4) in rw (e, e2, get_or-set_same t.reasons.items t.len slot 0 room) pos;
  level = λ i a b. let e : i ≡ t.len = omega (arith, e4) in rw (e, e3, get_or-set_same t.rows.items t.len x no_row wide) lev;
}

same_front : {X : Type 0} (i j : ℕ) (xs ys : List X) (d : X) → i < j → take j xs ≡ take j ys → get_or xs i d ≡ get_or ys i d
same_front i j xs ys d h e = sym (get_or-take j xs i d h) ∙ (ap (λ zs. get_or zs i d) e ∙ get_or-take j ys i d h)

fronts : {X : Type 0} (i j : ℕ) (xs ys : List X) → i ≤ j → take j xs ≡ take j ys → take i xs ≡ take i ys
fronts i j xs ys h e = sym (take-take i j xs h) ∙ (ap (take i) e ∙ take-take i j ys h)

pub grown_more : (a b c : Trail) → b.level ≡ a.level → IsGrown a b → IsGrown b c → IsGrown a c
grown_more a b c lev x y = record {
  longer = omega (arith, x.longer, y.longer);
  codes = fronts a.len b.len c.codes.items b.codes.items x.longer y.codes ∙ x.codes;
  reasons = fronts a.len b.len c.reasons.items b.reasons.items x.longer y.reasons ∙ x.reasons;
  rows = fronts a.len b.len c.rows.items b.rows.items x.longer y.rows ∙ x.rows;
  forced = λ i h k. elim (cases_lt i b.len) [
    | inl z ↦ rw (same_front i b.len c.reasons.items b.reasons.items 0 z y.reasons) (x.forced i h z)
    | inr z ↦ y.forced i z k
  ];
  level = λ i h k. elim (cases_lt i b.len) [
    | inl z ↦ rw (same_front i b.len c.rows.items b.rows.items no_row z y.rows) (x.level i h z)
    | inr z ↦ y.level i z k ∙ lev
  ];
}

pub moved_grown : (a b : Trail) → IsGrown a b → IsGrown a (record { stamps = b.stamps; codes = b.codes; reasons = b.reasons; rows = b.rows; spots = b.spots; len = b.len; head = b.head + 1; level = b.level })
moved_grown a b x = record { longer = x.longer; codes = x.codes; reasons = x.reasons; rows = x.rows; forced = x.forced; level = x.level }

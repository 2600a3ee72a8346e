-- What each call on linked places leaves of them.
use Rattle.std.proofs.Common.{ℕ, take, zero, suc, ◌≡◌, ◌≢◌, ◌+◌, ◌-◌, ◌/◌, ◌^◌, ◌<◌, ◌≤◌, List, [], ◌∷◌, ◌++◌, length, replicate, map, refl, sym, ◌∙◌, ap, subst, arith}
use Rattle.std.proofs.Math.ListN.{get_or, set, length-set}
use Rattle.std.proofs.Math.Seq.{map-set_same}
use Rattle.std.specs.List.{sum_by}
use Rattle.std.proofs.lemmas.List.{get_or-set_other, get_or-set_same, get_or-map, length-map, get_or_default, map-set, map-append, append-nil, take_all, length-append, length-replicate}
use Rattle.cdcl_core.specs.declared.lists.Place.{Place}
use Rattle.cdcl_core.specs.Lists.{Lists}
use Rattle.cdcl_core.specs.Tables.{nexts, literals, shown, IsWell, AreFew, HaveStarts}
use Rattle.cdcl_core.specs.Chains.{follow, IsChain, lists_of, times, IsLinked, first_of, rest_of}
use Rattle.cdcl_core.proofs.Moves.{moved_by, exchanged_by, first_by, place_within, popped, emptied, pushed, grown, chain_at}

same_lists : (a b : List (List ℕ)) (x y : List ℕ) → a ≡ b → x ≡ y → (let r : Lists = record { lists = a; literals = x } in r) ≡ (let r : Lists = record { lists = b; literals = y } in r)
same_lists a b x y e f = cc

next_read : (ps : List Place) (p : ℕ) (x : Place) → x ≡ get_or ps p x → p < length (nexts ps) → x.next ≡ get_or (nexts ps) p x.next
next_read ps p x e h =
    let h2 : p < length ps = rw length-map at h in
    let m : get_or (nexts ps) p x.next ≡ (get_or ps p x).next = get_or-map (λ y. y.next) ps p x x.next h2 in
    ap (λ y. y.next) e ∙ sym m

set_next : (ps : List Place) (p v l : ℕ) → nexts (set ps p (record { literal = l; next = v })) ≡ set (nexts ps) p v
set_next ps p v l = map-set (λ (y : Place). y.next) ps p (record { literal = l; next = v })

keep_literal : (ps : List Place) (p v : ℕ) (y : Place) → y ≡ get_or ps p y → literals (set ps p (record { literal = y.literal; next = v })) ≡ literals ps
keep_literal ps p v y e = map-set_same (λ (z : Place). z.literal) ps p (record { literal = y.literal; next = v }) y (ap (λ (z : Place). z.literal) e)

pub literal_read : (ps : List Place) (rs : List ℕ) (V : Lists) (p : ℕ) (x : Place) → shown ps rs ≡ V → p < length V.literals → x ≡ get_or ps p x → x.literal ≡ get_or V.literals p 0
literal_read ps rs V p x e h r =
    let w : literals ps ≡ V.literals = ap (λ v. v.literals) e in
    let h2 : p < length (literals ps) = rw w h in
    let h3 : p < length ps = rw length-map at h2 in
    ap (λ (z : Place). z.literal) r ∙ (sym (get_or-map (λ (z : Place). z.literal) ps p x 0 h3) ∙ ap (λ l. get_or l p 0) w)

pub literal_set : (ps : List Place) (rs : List ℕ) (V : Lists) (p l : ℕ) (y : Place) → shown ps rs ≡ V → IsWell ps rs → y ≡ get_or ps p y →
    (shown (set ps p (record { literal = l; next = y.next })) rs ≡ record { lists = V.lists; literals = set V.literals p l }) × IsWell (set ps p (record { literal = l; next = y.next })) rs
literal_set ps rs V p l y e w r =
    let same : nexts (set ps p (record { literal = l; next = y.next })) ≡ nexts ps = map-set_same (λ (z : Place). z.next) ps p (record { literal = l; next = y.next }) y (ap (λ (z : Place). z.next) r) in
    let put : literals (set ps p (record { literal = l; next = y.next })) ≡ set (literals ps) p l = map-set (λ (z : Place). z.literal) ps p (record { literal = l; next = y.next }) in
    (same_lists _ _ _ _ (ap (λ n. lists_of n rs) same ∙ ap (λ v. v.lists) e) (put ∙ ap (λ v. set v.literals p l) e), subst (λ n. IsLinked n rs) (sym same) w)

pub first_is : (ps : List Place) (rs : List ℕ) (V : Lists) (i p : ℕ) → shown ps rs ≡ V → IsWell ps rs → i < length V.lists → p ≡ get_or rs i p → p ≡ first_of (get_or V.lists i [])
first_is ps rs V i p e w h r = first_by (nexts ps) rs V.lists i p (ap (λ v. v.lists) e) w h r

pub first_within : (ps : List Place) (rs : List ℕ) (V : Lists) (i p : ℕ) → shown ps rs ≡ V → IsWell ps rs → i < length V.lists → 0 < first_of (get_or V.lists i []) → p ≡ get_or rs i p → p < length ps
first_within ps rs V i p e w h pos r =
    let b : p < length (nexts ps) = place_within (nexts ps) rs V.lists i p (ap (λ v. v.lists) e) w h pos r in rw length-map at b

pub moved_first : (ps : List Place) (rs : List ℕ) (V : Lists) (i j p t : ℕ) (x y : Place) → shown ps rs ≡ V → IsWell ps rs → i < length V.lists → j < length V.lists → i ≢ j → 0 < first_of (get_or V.lists i []) → p ≡ get_or rs i p → x ≡ get_or ps p x → y ≡ get_or ps p y → t ≡ get_or rs j t →
    (shown (set ps p (record { literal = y.literal; next = t })) (set (set rs i x.next) j p) ≡ record { lists = set (set V.lists i (rest_of (get_or V.lists i []))) j (first_of (get_or V.lists i []) ∷ get_or V.lists j []); literals = V.literals })
    × IsWell (set ps p (record { literal = y.literal; next = t })) (set (set rs i x.next) j p)
moved_first ps rs V i j p t x y e w hi hj ne pos rp rx ry rt =
    let m = moved_by (nexts ps) rs V.lists i j p x.next t (ap (λ v. v.lists) e) w hi hj ne pos rp (λ h. next_read ps p x rx h) rt in
    let n : nexts (set ps p (record { literal = y.literal; next = t })) ≡ set (nexts ps) p t = set_next ps p t y.literal in
    (same_lists _ _ _ _ (ap (λ u. lists_of u (set (set rs i x.next) j p)) n ∙ m.0.0) (keep_literal ps p t y ry ∙ ap (λ v. v.literals) e), subst (λ u. IsLinked u (set (set rs i x.next) j p)) (sym n) m.0.1)

pub exchanged_lists : (ps : List Place) (rs : List ℕ) (V : Lists) (i j a b : ℕ) → shown ps rs ≡ V → IsWell ps rs → i < length V.lists → j < length V.lists → a ≡ get_or rs i a → b ≡ get_or rs j b →
    (shown ps (set (set rs i b) j a) ≡ record { lists = set (set V.lists i (get_or V.lists j [])) j (get_or V.lists i []); literals = V.literals }) × IsWell ps (set (set rs i b) j a)
exchanged_lists ps rs V i j a b e w hi hj ra rb =
    let m = exchanged_by (nexts ps) rs V.lists i j a b (ap (λ v. v.lists) e) w hi hj ra rb in
    (same_lists _ _ _ _ m.0 (ap (λ v. v.literals) e), m.1)

-- with the lists that are seen in the place of the tables
seen : (ns rs : List ℕ) (V : List (List ℕ)) (ms ts : List ℕ) (f : List (List ℕ) → List (List ℕ)) → lists_of ns rs ≡ V → (lists_of ms ts ≡ f (lists_of ns rs)) × IsLinked ms ts → (lists_of ms ts ≡ f V) × IsLinked ms ts
seen ns rs V ms ts f e p = (p.0 ∙ ap f e, p.1)

pub popped_first : (ps : List Place) (rs : List ℕ) (V : Lists) (i p : ℕ) (x : Place) → shown ps rs ≡ V → IsWell ps rs → i < length V.lists → 0 < first_of (get_or V.lists i []) → p ≡ get_or rs i p → x ≡ get_or ps p x →
    (shown ps (set rs i x.next) ≡ record { lists = set V.lists i (rest_of (get_or V.lists i [])); literals = V.literals }) × IsWell ps (set rs i x.next)
popped_first ps rs V i p x e w hi pos rp rx =
    let ns : List ℕ = nexts ps in
    let el : lists_of ns rs ≡ V.lists = ap (λ v. v.lists) e in
    let len : length V.lists ≡ length rs = rw (← el, length-map) refl in
    let hir : i < length rs = rw len at hi in
    let rp2 : p ≡ get_or rs i 0 = rp ∙ get_or_default rs i p 0 hir in
    let hp : p < length ns = place_within ns rs V.lists i p el w hi pos rp in
    let nx : x.next ≡ get_or ns (get_or rs i 0) 0 = next_read ps p x rx hp ∙ (get_or_default ns p x.next 0 hp ∙ ap (λ u. get_or ns u 0) rp2) in
    let pos2 : 0 < first_of (get_or (lists_of ns rs) i []) = rw el pos in
    let m = seen ns rs V.lists ns (set rs i (get_or ns (get_or rs i 0) 0)) (λ U. set U i (rest_of (get_or U i []))) el (popped ns rs i w hir pos2) in
    let m2 = subst (λ (u : ℕ). (lists_of ns (set rs i u) ≡ set V.lists i (rest_of (get_or V.lists i []))) × IsLinked ns (set rs i u)) (sym nx) m in
    (same_lists _ _ _ _ m2.0 (ap (λ v. v.literals) e), m2.1)

pub emptied_list : (ps : List Place) (rs : List ℕ) (V : Lists) (i : ℕ) → shown ps rs ≡ V → IsWell ps rs → i < length V.lists →
    (shown ps (set rs i 0) ≡ record { lists = set V.lists i []; literals = V.literals }) × IsWell ps (set rs i 0)
emptied_list ps rs V i e w hi =
    let ns : List ℕ = nexts ps in
    let el : lists_of ns rs ≡ V.lists = ap (λ v. v.lists) e in
    let len : length V.lists ≡ length rs = rw (← el, length-map) refl in
    let hir : i < length rs = rw len at hi in
    let m = seen ns rs V.lists ns (set rs i 0) (λ U. set U i []) el (emptied ns rs i w hir) in
    (same_lists _ _ _ _ m.0 (ap (λ v. v.literals) e), m.1)

pub pushed_first : (ps : List Place) (rs : List ℕ) (V : Lists) (j k t : ℕ) (y : Place) → shown ps rs ≡ V → IsWell ps rs → j < length V.lists → k < length V.literals → 0 < k → sum_by (times k) V.lists ≡ 0 → t ≡ get_or rs j t → y ≡ get_or ps k y →
    (shown (set ps k (record { literal = y.literal; next = t })) (set rs j k) ≡ record { lists = set V.lists j (k ∷ get_or V.lists j []); literals = V.literals }) × IsWell (set ps k (record { literal = y.literal; next = t })) (set rs j k)
pushed_first ps rs V j k t y e w hj hk pos none rt ry =
    let ns : List ℕ = nexts ps in
    let el : lists_of ns rs ≡ V.lists = ap (λ v. v.lists) e in
    let ew : literals ps ≡ V.literals = ap (λ v. v.literals) e in
    let len : length V.lists ≡ length rs = rw (← el, length-map) refl in
    let hjr : j < length rs = rw len at hj in
    let hk1 : k < length (literals ps) = rw ew hk in
    let hk2 : k < length ps = rw length-map at hk1 in
    let hk3 : k < length ns = rw length-map hk2 in
    let rt2 : t ≡ get_or rs j 0 = rt ∙ get_or_default rs j t 0 hjr in
    let none2 : sum_by (times k) (lists_of ns rs) ≡ 0 = rw el none in
    let n : nexts (set ps k (record { literal = y.literal; next = t })) ≡ set ns k t = set_next ps k t y.literal in
    let m = seen ns rs V.lists (set ns k (get_or rs j 0)) (set rs j k) (λ U. set U j (k ∷ get_or U j [])) el (pushed ns rs j k w hjr pos hk3 none2) in
    let m2 = subst (λ (u : ℕ). (lists_of (set ns k u) (set rs j k) ≡ set V.lists j (k ∷ get_or V.lists j [])) × IsLinked (set ns k u) (set rs j k)) (sym rt2) m in
    (same_lists _ _ _ _ (ap (λ u. lists_of u (set rs j k)) n ∙ m2.0) (keep_literal ps k t y ry ∙ ew), subst (λ u. IsLinked u (set rs j k)) (sym n) m2.1)

map-replicate : (n : ℕ) → (map (λ (p : Place). p.next) (replicate n (record { literal = 0; next = 0 })) ≡ replicate n 0) × (map (λ (p : Place). p.literal) (replicate n (record { literal = 0; next = 0 })) ≡ replicate n 0)
map-replicate zero = (refl, refl)
map-replicate (suc n) = (ap (λ xs. 0 ∷ xs) (map-replicate n).0, ap (λ xs. 0 ∷ xs) (map-replicate n).1)

pub grown_places : (ps : List Place) (rs : List ℕ) (V : Lists) (n : ℕ) → shown ps rs ≡ V → IsWell ps rs →
    (shown (ps ++ replicate n (record { literal = 0; next = 0 })) rs ≡ record { lists = V.lists; literals = V.literals ++ replicate n 0 }) × IsWell (ps ++ replicate n (record { literal = 0; next = 0 })) rs
grown_places ps rs V n e w =
    let more : List Place = replicate n (record { literal = 0; next = 0 }) in
    let a : nexts (ps ++ more) ≡ nexts ps ++ nexts more = map-append (λ (p : Place). p.next) ps more in
    let b : literals (ps ++ more) ≡ V.literals ++ replicate n 0 = map-append (λ (p : Place). p.literal) ps more ∙ (rw (map-replicate n).1 (ap (λ v. v.literals ++ replicate n 0) e)) in
    let g = grown (nexts ps) (nexts more) rs 0 w in
    let r : rs ++ replicate 0 0 ≡ rs = append-nil rs in
    let g2 = subst (λ u. (lists_of (nexts ps ++ nexts more) u ≡ lists_of (nexts ps) rs ++ replicate 0 []) × IsLinked (nexts ps ++ nexts more) u) r g in
    let g3 = subst (λ u. (lists_of u rs ≡ lists_of (nexts ps) rs ++ replicate 0 []) × IsLinked u rs) (sym a) g2 in
    (same_lists _ _ _ _ (g3.0 ∙ (append-nil (lists_of (nexts ps) rs) ∙ ap (λ v. v.lists) e)) b, g3.1)

pub grown_lists : (ps : List Place) (rs : List ℕ) (V : Lists) (n : ℕ) → shown ps rs ≡ V → IsWell ps rs →
    (shown ps (rs ++ replicate n 0) ≡ record { lists = V.lists ++ replicate n []; literals = V.literals }) × IsWell ps (rs ++ replicate n 0)
grown_lists ps rs V n e w =
    let g = grown (nexts ps) [] rs n w in
    let g2 = subst (λ u. (lists_of u (rs ++ replicate n 0) ≡ lists_of (nexts ps) rs ++ replicate n []) × IsLinked u (rs ++ replicate n 0)) (append-nil (nexts ps)) g in
    (same_lists _ _ _ _ (g2.0 ∙ ap (λ v. v.lists ++ replicate n []) e) (ap (λ v. v.literals) e), g2.1)

pub lists_length : (ps : List Place) (rs : List ℕ) (V : Lists) → shown ps rs ≡ V → (length V.lists ≡ length rs) × (length V.literals ≡ length ps)
lists_length ps rs V e =
    let a : length (lists_of (nexts ps) rs) ≡ length rs = length-map rs (follow (nexts ps) (length (nexts ps))) in
    let b : length (literals ps) ≡ length ps = length-map ps (λ (p : Place). p.literal) in
    (sym (ap (λ v. length v.lists) e) ∙ a, sym (ap (λ v. length v.literals) e) ∙ b)

-- the tables after a call that makes them longer, where the list was shorter than asked for
pub resized : {X : Type 0} (xs ys : List X) (n m : ℕ) (d : X) → ys ≡ take n xs ++ replicate (n - m) d → m ≡ length xs → m < n → ys ≡ xs ++ replicate (n - m) d
resized xs ys n m d e em lt = e ∙ ap (λ zs. zs ++ replicate (n - m) d) (take_all n xs (omega (arith, em, lt)))

pub lists_after : (ps : List Place) (rs rs2 : List ℕ) (V : Lists) (n m : ℕ) → shown ps rs ≡ V → IsWell ps rs → rs2 ≡ take n rs ++ replicate (n - m) 0 → m ≡ length rs → m < n →
    (shown ps rs2 ≡ record { lists = V.lists ++ replicate (n - length V.lists) []; literals = V.literals }) × IsWell ps rs2
lists_after ps rs rs2 V n m e w r em lt =
    let len : length V.lists ≡ m = (lists_length ps rs V e).0 ∙ sym em in
    rw (resized rs rs2 n m 0 r em lt, len) (grown_lists ps rs V (n - m) e w)

pub places_after : (ps ps2 : List Place) (rs : List ℕ) (V : Lists) (n m : ℕ) → shown ps rs ≡ V → IsWell ps rs → ps2 ≡ take n ps ++ replicate (n - m) (record { literal = 0; next = 0 }) → m ≡ length ps → m < n →
    (shown ps2 rs ≡ record { lists = V.lists; literals = V.literals ++ replicate (n - length V.literals) 0 }) × IsWell ps2 rs
places_after ps ps2 rs V n m e w r em lt =
    let len : length V.literals ≡ m = (lists_length ps rs V e).1 ∙ sym em in
    rw (resized ps ps2 n m (record { literal = 0; next = 0 }) r em lt, len) (grown_places ps rs V (n - m) e w)

-- nothing is asked for that is not there
pub no_more : {X : Type 0} (xs : List X) (n m : ℕ) (d : X) → n ≤ m → m ≡ length xs → xs ≡ xs ++ replicate (n - length xs) d
no_more xs n m d le em = let z : n - length xs ≡ 0 = omega arith in rw z (sym (append-nil xs))

-- the first two lists and the first two places
pub first_lists : (a b c d : Lists) → a.lists ≡ [] → a.literals ≡ [] → b ≡ record { lists = a.lists ++ replicate (2 - length a.lists) []; literals = a.literals } → c ≡ record { lists = b.lists; literals = b.literals ++ replicate (2 - length b.literals) 0 } → d ≡ c → (d.lists ≡ [] ∷ [] ∷ []) × (length d.literals ≡ 2)
first_lists a b c d e f g h i = (
  ap (λ v. v.lists) i ∙ (ap (λ v. v.lists) h ∙ (ap (λ v. v.lists) g ∙ rw e refl)),
  ap (λ v. length v.literals) i ∙ (ap (λ v. length v.literals) h ∙ (ap (λ v. length (v.literals ++ replicate (2 - length v.literals) 0)) g ∙ rw f refl)),
)

chain_empty : (ns : List ℕ) (xs : List ℕ) → IsChain ns 0 xs → xs ≡ []
unfolding IsChain
chain_empty ns [] c = refl
chain_empty ns (x ∷ xs) c = absurd (omega (arith, c.0, c.1.0))

-- a list without a first place is empty
pub first_none : (ps : List Place) (rs : List ℕ) (V : Lists) (i p : ℕ) → shown ps rs ≡ V → IsWell ps rs → i < length V.lists → p ≡ get_or rs i p → p ≡ 0 → get_or V.lists i [] ≡ []
first_none ps rs V i p e w h r z =
    let ns : List ℕ = nexts ps in
    let el : lists_of ns rs ≡ V.lists = ap (λ v. v.lists) e in
    let hir : i < length rs = rw (lists_length ps rs V e).0 at h in
    let root : get_or rs i 0 ≡ 0 = sym (get_or_default rs i p 0 hir) ∙ (sym r ∙ z) in
    let c : IsChain ns (get_or rs i 0) (get_or (lists_of ns rs) i []) = chain_at ns rs i w hir in
    rw (← el) (chain_empty ns (get_or (lists_of ns rs) i []) (rw root at c))

pub few_set : (ps : List Place) (rs : List ℕ) (p i j a b : ℕ) (x : Place) → AreFew ps rs → AreFew (set ps p x) (set (set rs i a) j b)
few_set ps rs p i j a b x f = record { places = rw length-set f.places; lists = rw (length-set, length-set) f.lists }

pub few_lists : (ps : List Place) (rs : List ℕ) (i j a b : ℕ) → AreFew ps rs → AreFew ps (set (set rs i a) j b)
few_lists ps rs i j a b f = record { places = f.places; lists = rw (length-set, length-set) f.lists }

pub few_list : (ps : List Place) (rs : List ℕ) (i a : ℕ) → AreFew ps rs → AreFew ps (set rs i a)
few_list ps rs i a f = record { places = f.places; lists = rw length-set f.lists }

pub few_place : (ps : List Place) (rs : List ℕ) (p : ℕ) (x : Place) → AreFew ps rs → AreFew (set ps p x) rs
few_place ps rs p x f = record { places = rw length-set f.places; lists = f.lists }

pub few_push : (ps : List Place) (rs : List ℕ) (p i a : ℕ) (x : Place) → AreFew ps rs → AreFew (set ps p x) (set rs i a)
few_push ps rs p i a x f = record { places = rw length-set f.places; lists = rw length-set f.lists }

-- a table that became as long as asked for is no longer
pub few_after : {X : Type 0} (xs ys : List X) (n m : ℕ) (d : X) → ys ≡ take n xs ++ replicate (n - m) d → m ≡ length xs → m < n → n ≤ 2 ^ 32 → length ys ≤ 2 ^ 32
few_after xs ys n m d e em lt small =
    let len : length ys ≡ length xs + (n - m) = rw (resized xs ys n m d e em lt, length-append, length-replicate) refl in
    omega (arith, len, em, lt, small)

-- a list has a number of 4 bytes
pub list_small : (ps : List Place) (rs : List ℕ) (V : Lists) (i : ℕ) → shown ps rs ≡ V → AreFew ps rs → i < length V.lists → i < 2 ^ 32
list_small ps rs V i e f h = let l : length V.lists ≡ length rs = (lists_length ps rs V e).0 in omega (arith, l, f.lists, h)

pub place_small : (ps : List Place) (rs : List ℕ) (V : Lists) (i : ℕ) → shown ps rs ≡ V → AreFew ps rs → i < length V.literals → i < 2 ^ 32
place_small ps rs V i e f h = let l : length V.literals ≡ length ps = (lists_length ps rs V e).1 in omega (arith, l, f.places, h)

pub kept_starts : (ps : List Place) (p : ℕ) (x : Place) (starts : List ℕ) → HaveStarts ps starts → HaveStarts (set ps p x) starts
kept_starts ps p x starts h = rw length-set h

-- a table that became as long as asked for has its starts
pub grown_starts : (xs ys : List Place) (starts : List ℕ) (n m : ℕ) (d : Place) → ys ≡ take n xs ++ replicate (n - m) d → m ≡ length xs → m < n → n / 2 + 1 ≤ length starts → HaveStarts ys starts
grown_starts xs ys starts n m d e em lt enough =
    let len : length ys ≡ length xs + (n - m) = rw (resized xs ys n m d e em lt, length-append, length-replicate) refl in
    omega (arith, len, em, lt, enough)

-- the clause of a place has a start
pub has_start : (ps : List Place) (rs : List ℕ) (V : Lists) (starts : List ℕ) (i : ℕ) → shown ps rs ≡ V → HaveStarts ps starts → i < length V.literals → i / 2 < length starts
has_start ps rs V starts i e h below = let l : length V.literals ≡ length ps = (lists_length ps rs V e).1 in omega (arith, l, h, below)

-- the first place of a list is its head
pub head_is : (ps : List Place) (rs : List ℕ) (V : Lists) (i p : ℕ) → shown ps rs ≡ V → IsWell ps rs → i < length V.lists → p ≡ first_of (get_or V.lists i []) → p ≡ get_or rs i p
head_is ps rs V i p e w h f =
    let hir : i < length rs = rw (lists_length ps rs V e).0 at h in
    let r : get_or rs i 0 ≡ first_of (get_or V.lists i []) = first_is ps rs V i (get_or rs i 0) e w h (sym (get_or_default rs i (get_or rs i 0) 0 hir)) in
    f ∙ (sym r ∙ sym (get_or_default rs i p 0 hir))

-- the place after the first one is the first once that is moved
pub next_first : (ps : List Place) (rs : List ℕ) (V : Lists) (i j p n : ℕ) → shown ps (set (set rs i n) j p) ≡ V → IsWell ps (set (set rs i n) j p) → i < length V.lists → i ≢ j → n ≡ first_of (get_or V.lists i [])
next_first ps rs V i j p n e w h ne =
    let len : length V.lists ≡ length (set (set rs i n) j p) = (lists_length ps (set (set rs i n) j p) V e).0 in
    let hir : i < length rs = (let l : length (set (set rs i n) j p) ≡ length rs = rw (length-set, length-set) refl in omega (arith, h, len, l)) in
    first_is ps (set (set rs i n) j p) V i n e w h (sym (get_or-set_other (set rs i n) j i p n ne ∙ get_or-set_same rs i n n hir))

pub place_few : (ps : List Place) (rs : List ℕ) (p : ℕ) → AreFew ps rs → p < length ps → p < 2 ^ 32
place_few ps rs p f h = omega (arith, f.places, h)

-- a list is still there once two roots were written
pub shown_list : (ps : List Place) (rs : List ℕ) (V : Lists) (i j p n : ℕ) (qs : List Place) → shown ps rs ≡ V → i < length V.lists → i < length (shown qs (set (set rs i n) j p)).lists
shown_list ps rs V i j p n qs e h =
    let a : length V.lists ≡ length rs = (lists_length ps rs V e).0 in
    let b : length (shown qs (set (set rs i n) j p)).lists ≡ length rs = rw (length-map, length-set, length-set) refl in
    omega (arith, a, b, h)

pub more_starts : (ps : List Place) (starts more : List ℕ) → HaveStarts ps starts → length starts ≤ length more → HaveStarts ps more
more_starts ps starts more h le = omega (arith, h, le)

-- The slots of names, by the row and its blocks.
use Rattle.std.proofs.Common.{ℕ, zero, suc, ◌≡◌, ◌≢◌, ◌+◌, ◌-◌, ◌<◌, ◌≤◌, List, [], ◌∷◌, ◌++◌, Some, None, length, take, drop, replicate, refl, sym, ap, ◌∙◌, inl, inr, arith}
use Rattle.std.proofs.Math.ListN.{get_or, set, length-set, get_or-map}
use Rattle.std.proofs.lemmas.List.{get_or-set_other, get_or-set_same, get_or_past, get_or-take, get_or-drop, get_or_append_left, get_or_default, length-append, length-take, length-drop, length-replicate, take_all, drop_all, drop-append-le, append-nil, append_assoc}
use Rattle.std.proofs.lemmas.Bool.{cases_lt}
use Rattle.std.proofs.lemmas.Bool.Decides.{eqb_tells}
use Rattle.cnf_base.specs.declared.clause.ClauseId.{ClauseId}
use Rattle.cdcl_core.specs.declared.slot_table.Block.{Block}
use Rattle.cdcl_core.specs.Slots.{some_slot, slot_in, IsRenamed}
use Rattle.cdcl_core.specs.Blocks.{no_block, block_at, block_of, blocks_of, HasPlace, AreBlocks, IsLast, IsWidened}

-- ---- what is shown

block_shown : (bs : List Block) (row : List ℕ) (p : ℕ) → get_or (blocks_of bs row) p [] ≡ block_of row (block_at bs p)
block_shown bs row p = get_or-map (block_of row) bs p no_block

slot_shown : (bs : List Block) (row : List ℕ) (id : ClauseId) → slot_in (blocks_of bs row) id ≡ some_slot (get_or (block_of row (block_at bs id.pos)) id.part 0)
unfolding slot_in
slot_shown bs row id = ap (λ xs. some_slot (get_or xs id.part 0)) (block_shown bs row id.pos)

-- the slot stands at the name's place
pub place_slot : (bs : List Block) (row : List ℕ) (id : ClauseId) (i : ℕ) → HasPlace bs id i → slot_in (blocks_of bs row) id ≡ some_slot (get_or row i 0)
place_slot bs row id i h =
    let b : Block = block_at bs id.pos in
    slot_shown bs row id ∙ ap some_slot (get_or-take b.room (drop b.first row) id.part 0 h.0 ∙ (get_or-drop b.first row id.part 0 ∙ ap (λ k. get_or row k 0) (sym h.1)))

-- without room for it the name has none
pub no_slot : (bs : List Block) (row : List ℕ) (id : ClauseId) → (block_at bs id.pos).room ≤ id.part → slot_in (blocks_of bs row) id ≡ None
no_slot bs row id h =
    let b : Block = block_at bs id.pos in
    let few : length (block_of row b) ≤ id.part = rw length-take (omega (arith, h)) in
    slot_shown bs row id ∙ ap some_slot (get_or_past (block_of row b) id.part 0 few)

pub place_within : (bs : List Block) (row : List ℕ) (id : ClauseId) (i : ℕ) → AreBlocks bs row → HasPlace bs id i → i < length row
place_within bs row id i a h = omega (arith, h.0, h.1, a.within id.pos)

-- two tables show the same slot of a name where its places have the same number
by_place : (bs : List Block) (row row2 : List ℕ) (q : ClauseId) → ((i : ℕ) → HasPlace bs q i → get_or row2 i 0 ≡ get_or row i 0) → slot_in (blocks_of bs row2) q ≡ slot_in (blocks_of bs row) q
by_place bs row row2 q same = elim (cases_lt q.part (block_at bs q.pos).room) [
  | inl h ↦
      let i : ℕ = (block_at bs q.pos).first + q.part in
      place_slot bs row2 q i (h, refl) ∙ (ap some_slot (same i (h, refl)) ∙ sym (place_slot bs row q i (h, refl)))
  | inr h ↦ no_slot bs row2 q h ∙ sym (no_slot bs row q h)
]

-- ---- what is read

pub read_slot : (bs : List Block) (row : List ℕ) (V : List (List ℕ)) (id : ClauseId) (i x : ℕ) → blocks_of bs row ≡ V → AreBlocks bs row → HasPlace bs id i → x ≡ get_or row i x → some_slot x ≡ slot_in V id
read_slot bs row V id i x e a h r = ap some_slot (r ∙ get_or_default row i x 0 (place_within bs row id i a h)) ∙ (sym (place_slot bs row id i h) ∙ ap (λ v. slot_in v id) e)

pub read_none : (bs : List Block) (row : List ℕ) (V : List (List ℕ)) (id : ClauseId) → blocks_of bs row ≡ V → (block_at bs id.pos).room ≤ id.part → None ≡ slot_in V id
read_none bs row V id e h = sym (no_slot bs row id h) ∙ ap (λ v. slot_in v id) e

-- ---- another number at a name's place

pub set_blocks : (bs : List Block) (row : List ℕ) (i s : ℕ) → AreBlocks bs row → AreBlocks bs (set row i s)
set_blocks bs row i s a = record { within = λ p. rw length-set (a.within p); apart = a.apart }

pub set_named : (bs : List Block) (row : List ℕ) (id : ClauseId) (i s : ℕ) → AreBlocks bs row → HasPlace bs id i → IsRenamed (blocks_of bs row) (blocks_of bs (set row i s)) id (some_slot s)
set_named bs row id i s a h = record {
  here = place_slot bs (set row i s) id i h ∙ ap some_slot (get_or-set_same row i s 0 (place_within bs row id i a h));
  others = λ q ne. by_place bs row (set row i s) q (λ j at. get_or-set_other row i j s 0 (λ e. ne (a.apart q id i (rw e at at) h)));
}

-- the name that had this slot has none
pub set_gone : (bs : List Block) (row : List ℕ) (V : List (List ℕ)) (id : ClauseId) (i : ℕ) → blocks_of bs row ≡ V → AreBlocks bs row → HasPlace bs id i → IsRenamed V (blocks_of bs (set row i 0)) id None
set_gone bs row V id i e a h = rw (← e) (set_named bs row id i 0 a h)

some_is : (s : ℕ) → 0 < s → some_slot s ≡ Some s
some_is zero h = absurd (omega (arith, h))
some_is (suc n) h = refl

-- the name has this slot, where the tables showed the others' before
pub set_renamed : (bs : List Block) (row : List ℕ) (V : List (List ℕ)) (id : ClauseId) (i s : ℕ) → ((q : ClauseId) → slot_in (blocks_of bs row) q ≡ slot_in V q) → AreBlocks bs row → HasPlace bs id i → 0 < s → IsRenamed V (blocks_of bs (set row i s)) id (Some s)
set_renamed bs row V id i s same a h pos =
    let n : IsRenamed (blocks_of bs row) (blocks_of bs (set row i s)) id (some_slot s) = set_named bs row id i s a h in
    record { here = n.here ∙ some_is s pos; others = λ q ne. n.others q ne ∙ same q }

-- ---- a longer row

pub longer_blocks : (bs : List Block) (row more row2 : List ℕ) → AreBlocks bs row → row2 ≡ row ++ more → AreBlocks bs row2
longer_blocks bs row more row2 a e = record { within = λ p. rw (e, length-append) (omega (arith, a.within p)); apart = a.apart }

pub longer_slots : (bs : List Block) (row more row2 : List ℕ) (q : ClauseId) → AreBlocks bs row → row2 ≡ row ++ more → slot_in (blocks_of bs row2) q ≡ slot_in (blocks_of bs row) q
longer_slots bs row more row2 q a e = by_place bs row row2 q (λ i h. rw e (get_or_append_left row more 0 i (place_within bs row q i a h)))

-- ---- more positions

pub same_blocks : (bs bs2 : List Block) (row : List ℕ) → AreBlocks bs row → ((p : ℕ) → block_at bs2 p ≡ block_at bs p) → AreBlocks bs2 row
same_blocks bs bs2 row a same = record {
  within = λ p. rw (same p) (a.within p);
  apart = λ x y i h g. a.apart x y i (rw (same x.pos) at h) (rw (same y.pos) at g);
}

pub same_slots : (bs bs2 : List Block) (row : List ℕ) (q : ClauseId) → ((p : ℕ) → block_at bs2 p ≡ block_at bs p) → slot_in (blocks_of bs2 row) q ≡ slot_in (blocks_of bs row) q
same_slots bs bs2 row q same = slot_shown bs2 row q ∙ (ap (λ (b : Block). some_slot (get_or (block_of row b) q.part 0)) (same q.pos) ∙ sym (slot_shown bs row q))

pub lengthened : (bs bs2 : List Block) (n m : ℕ) → bs2 ≡ take n bs ++ replicate (n - m) no_block → length bs ≤ n → (p : ℕ) → block_at bs2 p ≡ block_at bs p
lengthened bs bs2 n m e le p = rw (e, take_all n bs le) (behind bs (n - m) p)
  where
    none : (k p : ℕ) → block_at (replicate k no_block) p ≡ no_block
    none zero p = refl
    none (suc k) zero = refl
    none (suc k) (suc p) = none k p

    behind : (bs : List Block) (k p : ℕ) → block_at (bs ++ replicate k no_block) p ≡ block_at bs p
    behind [] k p = none k p
    behind (b ∷ bs) k zero = refl
    behind (b ∷ bs) k (suc p) = behind bs k p

-- ---- a block that ends the row

pub ends_row : (row : List ℕ) (start stop : ℕ) → start ≤ stop → stop ≡ length row → IsLast row start stop row start
ends_row row start stop le e = record {
  more = [];
  longer = sym (append-nil row);
  place = inr (refl, e);
  slots = sym (take_all (stop - start) (drop start row) (rw length-drop (omega (arith, e))));
  end = omega (arith, e, le);
}

pub copied_last : (row row2 : List ℕ) (start stop first : ℕ) → start ≤ stop → stop ≤ length row → first ≡ length row → row2 ≡ row ++ take (stop - start) (drop start row) → IsLast row start stop row2 first
copied_last row row2 start stop first le within at e =
    let copy : List ℕ = take (stop - start) (drop start row) in
    record {
      more = copy;
      longer = e;
      place = inl at;
      slots = rw (e, at) (drop-append-le (length row) row copy (omega arith) ∙ ap (λ xs. xs ++ copy) (drop_all (length row) row (omega arith)));
      end = rw (e, length-append, length-take, length-drop) (omega (arith, le, within, at));
    }

pub widened : (bs : List Block) (row : List ℕ) (p count : ℕ) (b : Block) (row1 row2 : List ℕ) (first room n : ℕ) → b ≡ block_at bs p → IsLast row b.first (b.first + b.room) row1 first → b.room < room → count ≤ room → row2 ≡ take (first + room) row1 ++ replicate (first + room - n) 0 → n ≡ length row1 →
    IsWidened bs row p count (set bs p (record { first = first; room = room })) row2
widened bs row p count b row1 row2 first room n at l more enough e size =
    let end : length row1 ≡ first + b.room = l.end ∙ omega arith in
    let whole : row2 ≡ row1 ++ replicate (first + room - n) 0 = e ∙ ap (λ xs. xs ++ replicate (first + room - n) 0) (take_all (first + room) row1 (omega (arith, end, more))) in
    let width : b.first + b.room - b.first ≡ b.room = omega arith in
    let own : drop first row1 ≡ block_of row b = l.slots ∙ ap (λ k. take k (drop b.first row)) width in
    record {
      block = record { first = first; room = room };
      blocks = refl;
      room = enough;
      place = rw (← at) l.place;
      more = l.more ++ replicate (first + room - n) 0;
      longer = whole ∙ (ap (λ xs. xs ++ replicate (first + room - n) 0) l.longer ∙ append_assoc row l.more (replicate (first + room - n) 0));
      zeros = first + room - n;
      slots = ap (drop first) whole ∙ (drop-append-le first row1 (replicate (first + room - n) 0) (omega (arith, end)) ∙ ap (λ xs. xs ++ replicate (first + room - n) 0) (own ∙ ap (block_of row) at));
      end = rw (whole, length-append, length-replicate) (omega (arith, end, size, more));
    }

-- ---- a wider block

module _ (bs bs2 : List Block) (row row2 : List ℕ) (p count : ℕ) (w : IsWidened bs row p count bs2 row2) (high : p < length bs) where
  pub widened_at : block_at bs2 p ≡ w.block
  widened_at = rw w.blocks (get_or-set_same bs p w.block no_block high)

  other_block : (q : ℕ) → q ≢ p → block_at bs2 q ≡ block_at bs q
  other_block q ne = rw w.blocks (get_or-set_other bs p q w.block no_block ne)

  other_place : (q : ClauseId) (i : ℕ) → q.pos ≢ p → HasPlace bs2 q i → HasPlace bs q i
  other_place q i ne h = rw (other_block q.pos ne) at h

  more_row : length row ≤ length row2
  more_row = rw (w.longer, length-append) (omega arith)

  -- no place of the block is another position's
  mixed : (a b : ClauseId) (i : ℕ) → AreBlocks bs row → a.pos ≡ p → b.pos ≢ p → HasPlace bs2 a i → HasPlace bs2 b i → ⊥
  mixed a b i ar here there ha hb =
      let old : HasPlace bs b i = other_place b i there hb in
      let low : i < length row = place_within bs row b i ar old in
      let mine : i ≡ w.block.first + a.part = ha.1 ∙ ap (λ (x : Block). x.first + a.part) (ap (block_at bs2) here ∙ widened_at) in
      elim w.place [
        | inl e ↦ omega (arith, e, mine, low)
        | inr e ↦
            let place : HasPlace bs a i = rw here (omega (arith, mine, low, e.0, e.1), omega (arith, mine, e.0)) in
            there (ap (λ (x : ClauseId). x.pos) (sym (ar.apart a b i place old)) ∙ here)
      ]

  pub widened_blocks : AreBlocks bs row → AreBlocks bs2 row2
  widened_blocks ar = record {
    within = λ q. elim (eqb_tells q p) [
      | inl e ↦ rw (e.1, widened_at) (omega (arith, w.end))
      | inr e ↦ rw (other_block q e.1) (omega (arith, ar.within q, more_row))
    ];
    apart = λ a b i ha hb. elim (eqb_tells a.pos p) [
      | inl x ↦ elim (eqb_tells b.pos p) [
        | inl y ↦ same_name a b (x.1 ∙ sym y.1) (let e : (block_at bs2 a.pos).first ≡ (block_at bs2 b.pos).first = ap (λ q. (block_at bs2 q).first) (x.1 ∙ sym y.1) in omega (arith, ha.1, hb.1, e))
        | inr y ↦ absurd (mixed a b i ar x.1 y.1 ha hb)
      ]
      | inr x ↦ elim (eqb_tells b.pos p) [
        | inl y ↦ absurd (mixed b a i ar y.1 x.1 hb ha)
        | inr y ↦ ar.apart a b i (other_place a i x.1 ha) (other_place b i y.1 hb)
      ]
    ];
  }
    where
      same_name : (a b : ClauseId) → a.pos ≡ b.pos → a.part ≡ b.part → a ≡ b
      same_name a b e f = λ i. record { pos = e i; part = f i }

  pub widened_slots : AreBlocks bs row → (q : ClauseId) → slot_in (blocks_of bs2 row2) q ≡ slot_in (blocks_of bs row) q
  widened_slots ar q = elim (eqb_tells q.pos p) [
    | inl e ↦
        let size : length (drop w.block.first row2) ≤ w.block.room = rw length-drop (omega (arith, w.end)) in
        let own : block_of row2 (block_at bs2 q.pos) ≡ block_of row (block_at bs q.pos) ++ replicate w.zeros 0 = rw (e.1, widened_at) (take_all w.block.room (drop w.block.first row2) size ∙ w.slots) in
        slot_shown bs2 row2 q ∙ (ap some_slot (ap (λ (xs : List ℕ). get_or xs q.part 0) own ∙ padded (block_of row (block_at bs q.pos)) w.zeros q.part) ∙ sym (slot_shown bs row q))
    | inr e ↦
        slot_shown bs2 row2 q ∙ (ap (λ (b : Block). some_slot (get_or (block_of row2 b) q.part 0)) (other_block q.pos e.1) ∙ (sym (slot_shown bs row2 q) ∙ longer_slots bs row w.more row2 q ar w.longer))
  ]
    where
      zeros_at : (n i : ℕ) → get_or (replicate {A = ℕ} n 0) i 0 ≡ 0
      zeros_at zero i = refl
      zeros_at (suc n) zero = refl
      zeros_at (suc n) (suc i) = zeros_at n i

      padded : (xs : List ℕ) (n i : ℕ) → get_or (xs ++ replicate n 0) i 0 ≡ get_or xs i 0
      padded [] n i = zeros_at n i
      padded (x ∷ xs) n zero = refl
      padded (x ∷ xs) n (suc i) = padded xs n i

  -- the name has its place there
  pub widened_place : (id : ClauseId) (i : ℕ) → id.pos ≡ p → id.part < count → i ≡ (block_at bs2 p).first + id.part → HasPlace bs2 id i
  widened_place id i here part at = rw here (rw widened_at (omega (arith, part, w.room)), at)

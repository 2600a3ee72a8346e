-- Circuits that are built row by row: what one row more adds.
use Rattle.std.proofs.Common.{◌≡◌, ℕ, suc, ◌+◌, ◌-◌, ◌*◌, ◌^◌, ◌<◌, ◌≤◌, List, [], ◌∷◌, ◌++◌, length, get_or, take, drop, refl, sym, ap, ◌∙◌, subst, arith, append_assoc}
use Rattle.std.proofs.lemmas.List.{length-take-le, take-take, length-drop}
use Rattle.cnf_base.specs.Literals.{Literal, false_literal}
use Rattle.cnf_base.specs.Assignments.{fresh_bits}
use Rattle.cnf_base.specs.Adders.{add_gates}
use Rattle.cnf_base.specs.Circuits.{CircuitValue, Gains, Grows}
use Rattle.cnf_base.proofs.Growing.{Gains-then, Grows-none, Grows-more}
use Rattle.cnf_base.proofs.Rows.{drop_at, length-fresh_bits}
use Rattle.circ_muldiv.specs.Products.{row_gates, sum_gates, sum_bits, rows_gates, rows_bits, mul_gates, mul_bits}
use Rattle.circ_muldiv.specs.Sizes.{mul_size}
use Rattle.circ_muldiv.proofs.Multiplying.{length-row_gates, length-sum_bits}
use Rattle.circ_muldiv.proofs.Counting.{length-sum_gates}

-- ---- a partial product is added

pub row_after : (old mid : CircuitValue) (a : List Literal) (b : Literal) → Gains old mid (row_gates a b) → mid.next ≡ old.next + length a
row_after old mid a b h = omega (arith, h.next, length-row_gates a b)

pub sum_gained : (old mid new : CircuitValue) (p a row : List Literal) (b : Literal) → Gains old mid (row_gates a b) → row ≡ fresh_bits old.next (length a) → Gains mid new (add_gates mid.next p row false_literal) → Gains old new (sum_gates old.next p a b)
sum_gained old mid new p a row b h e k =
    let k' = subst (λ r. Gains mid new (add_gates mid.next p r false_literal)) e k in
    let k'' = subst (λ n. Gains mid new (add_gates n p (fresh_bits old.next (length a)) false_literal)) (row_after old mid a b h) k' in
    Gains-then old mid new (row_gates a b) (add_gates (old.next + length a) p (fresh_bits old.next (length a)) false_literal) h k''

-- ---- a product, row by row

-- the rows below i are summed: the lowest of the places, and those below it, are bits of the product
pub record IsProduct (start now : CircuitValue) (product places a b : List Literal) (i : ℕ) : Type 0 where
  pub above : length places + i ≡ length b + 1
  pub room : now.next + 2 * ((length b - i) * (length b - i + 1)) ≤ 2 ^ 63
  pub grows : Grows start now (rows_gates now.next (drop 1 places) (take (length b - i) a) (drop i b)) (mul_gates start.next a b)
  pub bits : product ++ rows_bits now.next (drop 1 places) (take (length b - i) a) (drop i b) ≡ mul_bits start.next a b

lowest : (places : List Literal) (x : Literal) → 0 < length places → x ≡ get_or places 0 x → x ∷ [] ≡ take 1 places
lowest [] x h e = absurd (omega arith)
lowest (y ∷ places) x h e = ap (λ l. l ∷ []) e

first_room : (g n k : ℕ) → n ≡ suc k → g + mul_size n ≤ 2 ^ 63 → g + n + 2 * ((n - 1) * (n - 1 + 1)) ≤ 2 ^ 63
first_room g n k e h =
    let odd : 2 * suc k - 1 ≡ 2 * k + 1 = omega arith in
    let less : suc k - 1 ≡ k = omega arith in
    let h' = rw (e, odd) at h in
    rw (e, less) (omega (arith, h'))

pub product_begun : (start now : CircuitValue) (product places a b : List Literal) (x y : Literal) → length a ≡ length b → 0 < length a → start.next + mul_size (length a) ≤ 2 ^ 63 → y ≡ get_or b 0 y → Gains start now (row_gates a y) → places ≡ fresh_bits start.next (length a) → x ≡ get_or places 0 x → product ≡ x ∷ [] → IsProduct start now product places a b 1
product_begun start now product places a [] x y same some room at gains row first put = absurd (omega arith)
product_begun start now product places a (z ∷ zs) x y same some room at gains row first put =
    let n = length zs in
    let left : suc n - 1 ≡ n = omega arith in
    let after = row_after start now a y gains in
    let long : length places ≡ length a = ap length row ∙ length-fresh_bits (length a) start.next in
    let one : product ≡ take 1 (fresh_bits start.next (length a)) = put ∙ lowest places x (omega (arith, long)) first ∙ ap (take 1) row in
    let rest : rows_gates now.next (drop 1 places) (take (suc n - 1) a) zs ≡ rows_gates (start.next + length a) (drop 1 (fresh_bits start.next (length a))) (take n a) zs = rw (after, row, left) refl in
    let rest_bits : rows_bits now.next (drop 1 places) (take (suc n - 1) a) zs ≡ rows_bits (start.next + length a) (drop 1 (fresh_bits start.next (length a))) (take n a) zs = rw (after, row, left) refl in
    record {
      above = omega (arith, long);
      room = first_room' (length a) n same room after;
      grows = Grows-more start start now (row_gates a y) (mul_gates start.next a (z ∷ zs)) _ (mul_gates start.next a (z ∷ zs)) (Grows-none start (mul_gates start.next a (z ∷ zs))) gains (ap (λ l. row_gates a l ++ rows_gates (start.next + length a) (drop 1 (fresh_bits start.next (length a))) (take n a) zs) (sym at) ∙ ap (λ t. row_gates a y ++ t) (sym rest));
      bits = ap (λ t. t ++ rows_bits now.next (drop 1 places) (take (suc n - 1) a) zs) one ∙ ap (λ t. take 1 (fresh_bits start.next (length a)) ++ t) rest_bits;
    }
  where
    first_room' : (m n : ℕ) → m ≡ suc n → start.next + mul_size m ≤ 2 ^ 63 → now.next ≡ start.next + m → now.next + 2 * ((suc n - 1) * (suc n - 1 + 1)) ≤ 2 ^ 63
    first_room' m n e h after = rw after (rw (sym e) (first_room start.next m n e h))

pub row_long : (start now : CircuitValue) (product places places' a b : List Literal) (i : ℕ) → length a ≡ length b → IsProduct start now product places a b i → i < length b → places' ≡ sum_bits now.next (drop 1 places) (take (length a - i) a) → length places' ≡ length b - i
row_long start now product places places' a b i same h lt row =
    let p = drop 1 places in
    let xs = take (length a - i) a in
    let lx : length xs ≡ length a - i = length-take-le (length a - i) a (omega arith) in
    let lp : length p ≡ length xs = omega (arith, length-drop 1 places, h.above, lx) in
    ap length row ∙ length-sum_bits now.next p xs lp ∙ lp ∙ lx ∙ ap (λ n. n - i) same

more_room : (g h left after : ℕ) → left ≡ after + 1 → h ≡ g + 4 * left → g + 2 * (left * (left + 1)) ≤ 2 ^ 63 → h + 2 * (after * (after + 1)) ≤ 2 ^ 63
more_room g h left after e f room = let room' = rw e at room in omega (arith, e, f, room')

pub product_more : (start now new : CircuitValue) (product product' places places' a b : List Literal) (x y : Literal) (i : ℕ) → length a ≡ length b → IsProduct start now product places a b i → i < length b → y ≡ get_or b i y → Gains now new (sum_gates now.next (drop 1 places) (take (length a - i) a) y) → places' ≡ sum_bits now.next (drop 1 places) (take (length a - i) a) → x ≡ get_or places' 0 x → product' ≡ product ++ x ∷ [] → IsProduct start new product' places' a b (i + 1)
product_more start now new product product' places places' a b x y i same h lt at gains_a row_a first put =
    let left = length b - i in
    let after = length b - (i + 1) in
    let p = drop 1 places in
    let xs = take left a in
    let zs = drop (i + 1) b in
    let gains = subst (λ n. Gains now new (sum_gates now.next p (take (n - i) a) y)) same gains_a in
    let row = row_a ∙ ap (λ n. sum_bits now.next p (take (n - i) a)) same in
    let ys = drop_at b i y lt at in
    let lx : length xs ≡ left = length-take-le left a (omega (arith, same)) in
    let lp : length p ≡ length xs = omega (arith, length-drop 1 places, h.above, lx) in
    let ls : length places' ≡ left = ap length row ∙ length-sum_bits now.next p xs lp ∙ lp ∙ lx in
    let next : new.next ≡ now.next + length (sum_gates now.next p xs y) = gains.next in
    let fewer : take (length zs) xs ≡ take after a = ap (λ n. take n xs) (length-drop (i + 1) b) ∙ take-take after left a (omega arith) in
    let one : x ∷ [] ≡ take 1 (sum_bits now.next p xs) = lowest places' x (omega (arith, ls)) first ∙ ap (take 1) row in
    let rest : rows_gates now.next p xs (drop i b) ≡ sum_gates now.next p xs y ++ rows_gates new.next (drop 1 places') (take after a) zs = rw (ys, next, row, fewer) refl in
    let rest_bits : rows_bits now.next p xs (drop i b) ≡ take 1 (sum_bits now.next p xs) ++ rows_bits new.next (drop 1 places') (take after a) zs = rw (ys, next, row, fewer) refl in
    record {
      above = omega (arith, ls);
      room = more_room now.next new.next left after (omega arith) (omega (arith, next, length-sum_gates now.next p xs y lp, lx)) h.room;
      grows = Grows-more start now new (sum_gates now.next p xs y) _ _ (mul_gates start.next a b) h.grows gains rest;
      bits =
          ap (λ t. t ++ rows_bits new.next (drop 1 places') (take after a) zs) (put ∙ ap (λ t. product ++ t) one)
          ∙ append_assoc product (take 1 (sum_bits now.next p xs)) (rows_bits new.next (drop 1 places') (take after a) zs)
          ∙ ap (λ t. product ++ t) (sym rest_bits)
          ∙ h.bits;
    }

-- The inputs of each gate stand before it, and the bits of a result are of variables that were made.
use Rattle.std.proofs.Common.{◌≡◌, ℕ, suc, ◌+◌, ◌-◌, ◌<◌, ◌≤◌, List, [], ◌∷◌, ◌++◌, length, length-append, take, drop, sym, ◌∙◌, subst, arith}
use Rattle.std.specs.Prelude.{map, replicate, ◌^◌}
use Rattle.cnf_base.specs.Literals.{Literal, positive_of, negative_of, negated, true_literal, false_literal}
use Rattle.cnf_base.specs.Gates.{AreOrdered}
use Rattle.cnf_base.specs.Assignments.{AreBelow, fresh_bits}
use Rattle.cnf_base.specs.Choices.{mux_gates}
use Rattle.cnf_base.proofs.Agreeing.{AreBelow-more, AreBelow-append, AreBelow-negated, AreBelow-fresh_bits, AreBelow-replicate, AreBelow-take, AreBelow-drop}
use Rattle.cnf_base.proofs.Rows.{length-fresh_bits}
use Rattle.cnf_base.proofs.Extending.{AreOrdered-append}
use Rattle.cnf_base.proofs.Adding.{add_gates-ordered, add_bits-below}
use Rattle.cnf_base.proofs.Choosing.{mux_gates-ordered, length-mux_gates}
use Rattle.circ_plain.specs.declared.moves.Direction.{Direction}
use Rattle.circ_plain.specs.declared.moves.Direction.TheVariants.{Up, Down}
use Rattle.circ_plain.specs.Signs.{sign_of, neg_gates, neg_bits, signed_gates, signed_bits, abs_gates}
use Rattle.circ_plain.specs.Orders.{below_gates, below_bit, ult_gates, ult_bit, with_sign, slt_gates, slt_bit}
use Rattle.circ_plain.specs.Shifts.{stages, AreNear, moved, stage_gates, stage_bits, any_gates, any_bit, mask_gates, move_gates, move_bits, over_bit, logical_gates, logical_bits, shl_gates, shl_bits, lshr_gates, lshr_bits, ashr_gates, ashr_bits}
use Rattle.circ_plain.proofs.Negating.{length-neg_gates, length-signed_gates}
use Rattle.circ_plain.proofs.Shifting.{length-moved, AreNear-next, near_stages, length-logical_gates, length-move_gates, length-ashr_gates}

-- ---- rows

pub sign_of-below : (g : ℕ) (a : List Literal) → 1 < g → AreBelow g a → (sign_of a).variable < g
sign_of-below g [] one h = one
sign_of-below g (l ∷ []) one h = h.0
sign_of-below g (l ∷ m ∷ a) one h = sign_of-below g (m ∷ a) one h.1

with_sign-below : (g : ℕ) (a : List Literal) (s : Literal) → AreBelow g a → s.variable < g → AreBelow g (with_sign a s)
with_sign-below g a s ha hs = AreBelow-append g (take (length a - 1) a) (s ∷ []) (AreBelow-take (length a - 1) g a ha) (hs, tt)

-- the bits that a row of gates made
made_below : (g n m : ℕ) → n ≤ m → AreBelow (g + m) (fresh_bits g n)
made_below g n m h = AreBelow-more (g + n) (g + m) (omega arith) (fresh_bits g n) (AreBelow-fresh_bits n g)

-- ---- signs

pub neg_gates-ordered : (g : ℕ) (a : List Literal) → 1 < g → AreBelow g a → AreOrdered g (neg_gates g a)
neg_gates-ordered g a one h =
    add_gates-ordered (map negated a) (replicate (length a) false_literal) g true_literal (AreBelow-negated g a h) (AreBelow-replicate (length a) g false_literal one) one

pub neg_bits-below : (g : ℕ) (a : List Literal) → AreBelow (g + length (neg_gates g a)) (neg_bits g a)
neg_bits-below g a = add_bits-below (map negated a) (replicate (length a) false_literal) g true_literal

pub signed_gates-ordered : (g : ℕ) (c : Literal) (a : List Literal) → 1 < g → c.variable < g → AreBelow g a → AreOrdered g (signed_gates g c a)
signed_gates-ordered g c a one hc ha =
    let up : g ≤ g + length (neg_gates g a) = omega arith in
    AreOrdered-append (neg_gates g a) (mux_gates c (neg_bits g a) a) g (neg_gates-ordered g a one ha)
    (mux_gates-ordered (neg_bits g a) a (g + length (neg_gates g a)) c (neg_bits-below g a) (AreBelow-more g (g + length (neg_gates g a)) up a ha) (omega (arith, hc)))

pub signed_bits-below : (g : ℕ) (c : Literal) (a : List Literal) → AreBelow (g + length (signed_gates g c a)) (signed_bits g a)
signed_bits-below g c a =
    let e : g + length (neg_gates g a) + length a ≡ g + length (signed_gates g c a) = omega (arith, length-neg_gates g a, length-signed_gates g c a) in
    subst (λ n. AreBelow n (signed_bits g a)) e (AreBelow-fresh_bits (length a) (g + length (neg_gates g a)))

pub abs_gates-ordered : (g : ℕ) (a : List Literal) → 1 < g → AreBelow g a → AreOrdered g (abs_gates g a)
abs_gates-ordered g a one h = signed_gates-ordered g (sign_of a) a one (sign_of-below g a one h) h

-- ---- orders

pub below_gates-ordered : (a b : List Literal) (g : ℕ) (l : Literal) → AreBelow g a → AreBelow g b → l.variable < g → AreOrdered g (below_gates g l a b)
below_gates-ordered [] b g l ha hb hl = tt
below_gates-ordered (x ∷ a) [] g l ha hb hl = tt
below_gates-ordered (x ∷ a) (y ∷ b) g l ha hb hl =
    let up : g ≤ suc (suc g) = omega arith in (
      (ha.0, hb.0),
      (
        (omega arith, omega (arith, hb.0), omega (arith, hl)),
        below_gates-ordered a b (suc (suc g)) (positive_of (suc g)) (AreBelow-more g _ up a ha.1) (AreBelow-more g _ up b hb.1) (omega arith),
      ),
    )

pub below_bit-below : (a b : List Literal) (g : ℕ) (l : Literal) → l.variable < g → (below_bit g l a b).variable < g + length (below_gates g l a b)
below_bit-below [] b g l hl = omega (arith, hl)
below_bit-below (x ∷ a) [] g l hl = omega (arith, hl)
below_bit-below (x ∷ a) (y ∷ b) g l hl = omega (arith, below_bit-below a b (suc (suc g)) (positive_of (suc g)) (omega arith))

pub ult_gates-ordered : (g : ℕ) (a b : List Literal) → 1 < g → AreBelow g a → AreBelow g b → AreOrdered g (ult_gates g a b)
ult_gates-ordered g a b one ha hb = below_gates-ordered a b g false_literal ha hb one

pub ult_bit-below : (g : ℕ) (a b : List Literal) → 1 < g → (ult_bit g a b).variable < g + length (ult_gates g a b)
ult_bit-below g a b one = below_bit-below a b g false_literal one

pub slt_gates-ordered : (g : ℕ) (a b : List Literal) → 1 < g → AreBelow g a → AreBelow g b → AreOrdered g (slt_gates g a b)
slt_gates-ordered g a b one ha hb =
    ult_gates-ordered g (with_sign a (sign_of b)) (with_sign b (sign_of a)) one (with_sign-below g a (sign_of b) ha (sign_of-below g b one hb)) (with_sign-below g b (sign_of a) hb (sign_of-below g a one ha))

pub slt_bit-below : (g : ℕ) (a b : List Literal) → 1 < g → (slt_bit g a b).variable < g + length (slt_gates g a b)
slt_bit-below g a b one = ult_bit-below g (with_sign a (sign_of b)) (with_sign b (sign_of a)) one

-- ---- shifts

moved-below : (way : Direction) (fill : Literal) (d g : ℕ) (r : List Literal) → fill.variable < g → AreBelow g r → AreBelow g (moved way fill d r)
moved-below Up fill d g r hf hr = AreBelow-append g (replicate d fill) (take (length r - d) r) (AreBelow-replicate d g fill hf) (AreBelow-take (length r - d) g r hr)
moved-below Down fill d g r hf hr = AreBelow-append g (drop d r) (replicate d fill) (AreBelow-drop d g r hr) (AreBelow-replicate d g fill hf)

-- the gates of the stages, and the row after them
stages_stand : (way : Direction) (fill : Literal) (g j : ℕ) (r ts : List Literal) → fill.variable < g → AreNear (length r) j ts → AreBelow g r → AreBelow g ts → AreOrdered g (stage_gates way fill g j r ts) × AreBelow (g + length (stage_gates way fill g j r ts)) (stage_bits g r ts)
stages_stand way fill g j r [] hf near hr ht = let e : g ≡ g + 0 = omega arith in (tt, subst (λ n. AreBelow n r) e hr)
stages_stand way fill g j r (t ∷ ts) hf near hr ht =
    let n = length r in
    let x = moved way fill (2 ^ j) r in
    let first = mux_gates t x r in
    let rest = stage_gates way fill (g + n) (suc j) (fresh_bits g n) ts in
    let up : g ≤ g + n = omega arith in
    let lx = length-moved way fill (2 ^ j) r (omega (arith, near j (omega arith))) in
    let lf = length-fresh_bits n g in
    let lm : length first ≡ n = length-mux_gates t x r lx ∙ lx in
    let ih = stages_stand way fill (g + n) (suc j) (fresh_bits g n) ts (omega arith) (subst (λ k. AreNear k (suc j) ts) (sym lf) (AreNear-next n j t ts near)) (AreBelow-fresh_bits n g) (AreBelow-more g (g + n) up ts ht.1) in
    let back = subst (λ k. AreOrdered (g + k) rest) (sym lm) ih.0 in
    let all : g + n + length rest ≡ g + length (first ++ rest) = omega (arith, length-append first rest, lm) in (
      AreOrdered-append first rest g (mux_gates-ordered x r g t (moved-below way fill (2 ^ j) g r hf hr) hr ht.0) back,
      subst (λ k. AreBelow k (stage_bits (g + n) (fresh_bits g n) ts)) all ih.1,
    )

any_gates-ordered : (ts : List Literal) (g : ℕ) (o : Literal) → o.variable < g → AreBelow g ts → AreOrdered g (any_gates g o ts)
any_gates-ordered [] g o ho ht = tt
any_gates-ordered (t ∷ ts) g o ho ht =
    let up : g ≤ suc g = omega arith in
    ((ho, ht.0), any_gates-ordered ts (suc g) (negative_of g) (omega arith) (AreBelow-more g (suc g) up ts ht.1))

any_bit-below : (ts : List Literal) (g : ℕ) (o : Literal) → o.variable < g → (any_bit g o ts).variable < g + length (any_gates g o ts)
any_bit-below [] g o ho = omega (arith, ho)
any_bit-below (t ∷ ts) g o ho = omega (arith, any_bit-below ts (suc g) (negative_of g) (omega arith))

mask_gates-ordered : (r : List Literal) (g : ℕ) (keep : Literal) → keep.variable < g → AreBelow g r → AreOrdered g (mask_gates keep r)
mask_gates-ordered [] g keep hk hr = tt
mask_gates-ordered (l ∷ r) g keep hk hr =
    let up : g ≤ suc g = omega arith in
    ((hr.0, hk), mask_gates-ordered r (suc g) keep (omega arith) (AreBelow-more g (suc g) up r hr.1))

-- the two parts of a move, and what they leave
pub record MovesStand (way : Direction) (fill : Literal) (g : ℕ) (a t : List Literal) : Type 0 where
  pub ordered : AreOrdered g (move_gates way fill g a t)
  pub bits : AreBelow (g + length (move_gates way fill g a t)) (move_bits g a t)
  pub over : (over_bit way fill g a t).variable < g + length (move_gates way fill g a t)

moves_stand : (way : Direction) (fill : Literal) (g : ℕ) (a t : List Literal) → 1 < g → fill.variable < g → AreBelow g a → AreBelow g t → MovesStand way fill g a t
moves_stand way fill g a t one hf ha ht =
    let m = stages (length a) in
    let near = take m t in
    let far = drop m t in
    let first = stage_gates way fill g 0 a near in
    let h = g + length first in
    let second = any_gates h false_literal far in
    let up : g ≤ h = omega arith in
    let low = stages_stand way fill g 0 a near hf (near_stages (length a) t) ha (AreBelow-take m g t ht) in
    let high = any_gates-ordered far h false_literal (omega arith) (AreBelow-more g h up far (AreBelow-drop m g t ht)) in
    let last = any_bit-below far h false_literal (omega arith) in
    let all : h + length second ≡ g + length (move_gates way fill g a t) = omega (arith, length-append first second) in
    record {
      ordered = AreOrdered-append first second g low.0 high;
      bits = AreBelow-more h _ (omega (arith, all)) (move_bits g a t) low.1;
      over = omega (arith, last, all);
    }

pub logical_gates-ordered : (way : Direction) (g : ℕ) (a t : List Literal) → 1 < g → AreBelow g a → AreBelow g t → AreOrdered g (logical_gates way g a t)
logical_gates-ordered way g a t one ha ht =
    let moves = moves_stand way false_literal g a t one one ha ht in
    let over = over_bit way false_literal g a t in
    AreOrdered-append (move_gates way false_literal g a t) (mask_gates (negated over) (move_bits g a t)) g moves.ordered
    (mask_gates-ordered (move_bits g a t) (g + length (move_gates way false_literal g a t)) (negated over) moves.over moves.bits)

pub logical_bits-below : (way : Direction) (g : ℕ) (a t : List Literal) → AreBelow (g + length (logical_gates way g a t)) (logical_bits way g a t)
logical_bits-below way g a t =
    let moves = length (move_gates way false_literal g a t) in
    let e : g + moves + length a ≡ g + length (logical_gates way g a t) = omega (arith, length-move_gates way false_literal g a t, length-logical_gates way g a t) in
    subst (λ n. AreBelow n (logical_bits way g a t)) e (AreBelow-fresh_bits (length a) (g + moves))

pub ashr_gates-ordered : (g : ℕ) (a t : List Literal) → 1 < g → AreBelow g a → AreBelow g t → AreOrdered g (ashr_gates g a t)
ashr_gates-ordered g a t one ha ht =
    let s = sign_of a in
    let hs = sign_of-below g a one ha in
    let moves = moves_stand Down s g a t one hs ha ht in
    let h = g + length (move_gates Down s g a t) in
    AreOrdered-append (move_gates Down s g a t) (mux_gates (over_bit Down s g a t) (replicate (length a) s) (move_bits g a t)) g moves.ordered
    (mux_gates-ordered (replicate (length a) s) (move_bits g a t) h (over_bit Down s g a t) (AreBelow-replicate (length a) h s (omega arith)) moves.bits moves.over)

pub ashr_bits-below : (g : ℕ) (a t : List Literal) → AreBelow (g + length (ashr_gates g a t)) (ashr_bits g a t)
ashr_bits-below g a t =
    let moves = length (move_gates Down (sign_of a) g a t) in
    let e : g + moves + length a ≡ g + length (ashr_gates g a t) = omega (arith, length-move_gates Down (sign_of a) g a t, length-ashr_gates g a t) in
    subst (λ n. AreBelow n (ashr_bits g a t)) e (AreBelow-fresh_bits (length a) (g + moves))

pub shl_gates-ordered : (g : ℕ) (a t : List Literal) → 1 < g → AreBelow g a → AreBelow g t → AreOrdered g (shl_gates g a t)
shl_gates-ordered g a t = logical_gates-ordered Up g a t

pub shl_bits-below : (g : ℕ) (a t : List Literal) → AreBelow (g + length (shl_gates g a t)) (shl_bits g a t)
shl_bits-below g a t = logical_bits-below Up g a t

pub lshr_gates-ordered : (g : ℕ) (a t : List Literal) → 1 < g → AreBelow g a → AreBelow g t → AreOrdered g (lshr_gates g a t)
lshr_gates-ordered g a t = logical_gates-ordered Down g a t

pub lshr_bits-below : (g : ℕ) (a t : List Literal) → AreBelow (g + length (lshr_gates g a t)) (lshr_bits g a t)
lshr_bits-below g a t = logical_bits-below Down g a t

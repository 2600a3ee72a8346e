-- Adders, choices, equalities, signs, orders and shifts read their arguments, variable 1 and what they make themselves.
use Rattle.std.proofs.Common.{ℕ, suc, ◌+◌, ◌-◌, List, [], ◌∷◌, length, take, drop, arith}
use Rattle.std.specs.Prelude.{map, replicate, ◌^◌}
use Rattle.cnf_base.specs.Literals.{Literal, positive_of, negative_of, negated, true_literal, false_literal}
use Rattle.cnf_base.specs.Assignments.{fresh_bits}
use Rattle.cnf_base.specs.Adders.{add_gates, add_bits, add_carry}
use Rattle.cnf_base.specs.Choices.{mux_gates, equal_gates, equal_bit}
use Rattle.circ_plain.specs.declared.moves.Direction.{Direction}
use Rattle.circ_plain.specs.declared.moves.Direction.TheVariants.{Up, Down}
use Rattle.circ_plain.specs.Signs.{sign_of, neg_gates, neg_bits, signed_gates, signed_bits, abs_gates}
use Rattle.circ_plain.specs.Orders.{below_gates, below_bit, ult_gates, ult_bit, with_sign, slt_gates, slt_bit}
use Rattle.circ_plain.specs.Shifts.{stages, moved, stage_gates, stage_bits, any_gates, any_bit, mask_gates, move_gates, move_bits, over_bit, logical_gates, logical_bits, ashr_gates, ashr_bits}
use Rattle.reached_steps.proofs.Inputs.{AreOf, EachReads, HasFrom, later, of-append, reads-append, of-replicate, of-take, of-drop, of-negated, of-fresh_bits, of-sign}

module _ (S : ℕ → Type 0) (one : S 1) where
  -- ---- adders

  pub add_gates-read : (a b : List Literal) (g : ℕ) (carry : Literal) → HasFrom S g → AreOf S a → AreOf S b → S carry.variable → EachReads S (add_gates g a b carry)
  add_gates-read [] b g carry up ha hb hc = tt
  add_gates-read (x ∷ a) [] g carry up ha hb hc = tt
  add_gates-read (x ∷ a) (y ∷ b) g carry up ha hb hc =
      let own : S g = up g (omega arith) in
      let next : S (suc (suc g)) = up (suc (suc g)) (omega arith) in (
        (ha.0, hb.0),
        ((own, hc), ((own, hc, ha.0), add_gates-read a b (suc (suc (suc g))) (positive_of (suc (suc g))) (later S g (suc (suc (suc g))) (omega arith) up) ha.1 hb.1 next)),
      )

  pub add_bits-of : (a b : List Literal) (g : ℕ) → HasFrom S g → AreOf S (add_bits g a b)
  add_bits-of [] b g up = tt
  add_bits-of (x ∷ a) [] g up = tt
  add_bits-of (x ∷ a) (y ∷ b) g up = (up (suc g) (omega arith), add_bits-of a b (suc (suc (suc g))) (later S g (suc (suc (suc g))) (omega arith) up))

  pub add_carry-of : (a b : List Literal) (g : ℕ) (carry : Literal) → HasFrom S g → S carry.variable → S (add_carry g a b carry).variable
  add_carry-of [] b g carry up hc = hc
  add_carry-of (x ∷ a) [] g carry up hc = hc
  add_carry-of (x ∷ a) (y ∷ b) g carry up hc =
      add_carry-of a b (suc (suc (suc g))) (positive_of (suc (suc g))) (later S g (suc (suc (suc g))) (omega arith) up) (up (suc (suc g)) (omega arith))

  -- ---- choices and equalities

  pub mux_gates-read : (c : Literal) (a b : List Literal) → S c.variable → AreOf S a → AreOf S b → EachReads S (mux_gates c a b)
  mux_gates-read c [] b hc ha hb = tt
  mux_gates-read c (x ∷ a) [] hc ha hb = tt
  mux_gates-read c (x ∷ a) (y ∷ b) hc ha hb = ((hc, ha.0, hb.0), mux_gates-read c a b hc ha.1 hb.1)

  pub equal_gates-read : (a b : List Literal) (g : ℕ) (e : Literal) → HasFrom S g → AreOf S a → AreOf S b → S e.variable → EachReads S (equal_gates g e a b)
  equal_gates-read [] b g e up ha hb he = tt
  equal_gates-read (x ∷ a) [] g e up ha hb he = tt
  equal_gates-read (x ∷ a) (y ∷ b) g e up ha hb he = (
    (ha.0, hb.0),
    ((he, up g (omega arith)), equal_gates-read a b (suc (suc g)) (positive_of (suc g)) (later S g (suc (suc g)) (omega arith) up) ha.1 hb.1 (up (suc g) (omega arith))),
  )

  pub equal_bit-of : (a b : List Literal) (g : ℕ) (e : Literal) → HasFrom S g → S e.variable → S (equal_bit g e a b).variable
  equal_bit-of [] b g e up he = he
  equal_bit-of (x ∷ a) [] g e up he = he
  equal_bit-of (x ∷ a) (y ∷ b) g e up he = equal_bit-of a b (suc (suc g)) (positive_of (suc g)) (later S g (suc (suc g)) (omega arith) up) (up (suc g) (omega arith))

  -- ---- signs

  pub neg_gates-read : (g : ℕ) (a : List Literal) → HasFrom S g → AreOf S a → EachReads S (neg_gates g a)
  neg_gates-read g a up h = add_gates-read (map negated a) (replicate (length a) false_literal) g true_literal up (of-negated S a h) (of-replicate S (length a) false_literal one) one

  pub neg_bits-of : (g : ℕ) (a : List Literal) → HasFrom S g → AreOf S (neg_bits g a)
  neg_bits-of g a up = add_bits-of (map negated a) (replicate (length a) false_literal) g up

  pub signed_gates-read : (g : ℕ) (c : Literal) (a : List Literal) → HasFrom S g → S c.variable → AreOf S a → EachReads S (signed_gates g c a)
  signed_gates-read g c a up hc ha =
      reads-append S (neg_gates g a) (mux_gates c (neg_bits g a) a) (neg_gates-read g a up ha) (mux_gates-read c (neg_bits g a) a hc (neg_bits-of g a up) ha)

  pub signed_bits-of : (g : ℕ) (a : List Literal) → HasFrom S g → AreOf S (signed_bits g a)
  signed_bits-of g a up = of-fresh_bits S (length a) (g + length (neg_gates g a)) (later S g (g + length (neg_gates g a)) (omega arith) up)

  pub abs_gates-read : (g : ℕ) (a : List Literal) → HasFrom S g → AreOf S a → EachReads S (abs_gates g a)
  abs_gates-read g a up ha = signed_gates-read g (sign_of a) a up (of-sign S a one ha) ha

  -- ---- orders

  below_gates-read : (a b : List Literal) (g : ℕ) (l : Literal) → HasFrom S g → AreOf S a → AreOf S b → S l.variable → EachReads S (below_gates g l a b)
  below_gates-read [] b g l up ha hb hl = tt
  below_gates-read (x ∷ a) [] g l up ha hb hl = tt
  below_gates-read (x ∷ a) (y ∷ b) g l up ha hb hl = (
    (ha.0, hb.0),
    ((up g (omega arith), hb.0, hl), below_gates-read a b (suc (suc g)) (positive_of (suc g)) (later S g (suc (suc g)) (omega arith) up) ha.1 hb.1 (up (suc g) (omega arith))),
  )

  below_bit-of : (a b : List Literal) (g : ℕ) (l : Literal) → HasFrom S g → S l.variable → S (below_bit g l a b).variable
  below_bit-of [] b g l up hl = hl
  below_bit-of (x ∷ a) [] g l up hl = hl
  below_bit-of (x ∷ a) (y ∷ b) g l up hl = below_bit-of a b (suc (suc g)) (positive_of (suc g)) (later S g (suc (suc g)) (omega arith) up) (up (suc g) (omega arith))

  pub ult_gates-read : (g : ℕ) (a b : List Literal) → HasFrom S g → AreOf S a → AreOf S b → EachReads S (ult_gates g a b)
  ult_gates-read g a b up ha hb = below_gates-read a b g false_literal up ha hb one

  pub ult_bit-of : (g : ℕ) (a b : List Literal) → HasFrom S g → S (ult_bit g a b).variable
  ult_bit-of g a b up = below_bit-of a b g false_literal up one

  with_sign-of : (a : List Literal) (s : Literal) → AreOf S a → S s.variable → AreOf S (with_sign a s)
  with_sign-of a s ha hs = of-append S (take (length a - 1) a) (s ∷ []) (of-take S (length a - 1) a ha) (hs, tt)

  pub slt_gates-read : (g : ℕ) (a b : List Literal) → HasFrom S g → AreOf S a → AreOf S b → EachReads S (slt_gates g a b)
  slt_gates-read g a b up ha hb =
      ult_gates-read g (with_sign a (sign_of b)) (with_sign b (sign_of a)) up (with_sign-of a (sign_of b) ha (of-sign S b one hb)) (with_sign-of b (sign_of a) hb (of-sign S a one ha))

  pub slt_bit-of : (g : ℕ) (a b : List Literal) → HasFrom S g → S (slt_bit g a b).variable
  slt_bit-of g a b up = ult_bit-of g (with_sign a (sign_of b)) (with_sign b (sign_of a)) up

  -- ---- shifts

  moved-of : (way : Direction) (fill : Literal) (d : ℕ) (r : List Literal) → S fill.variable → AreOf S r → AreOf S (moved way fill d r)
  moved-of Up fill d r hf hr = of-append S (replicate d fill) (take (length r - d) r) (of-replicate S d fill hf) (of-take S (length r - d) r hr)
  moved-of Down fill d r hf hr = of-append S (drop d r) (replicate d fill) (of-drop S d r hr) (of-replicate S d fill hf)

  stage_gates-read : (way : Direction) (fill : Literal) (g j : ℕ) (r ts : List Literal) → HasFrom S g → S fill.variable → AreOf S r → AreOf S ts → EachReads S (stage_gates way fill g j r ts)
  stage_gates-read way fill g j r [] up hf hr ht = tt
  stage_gates-read way fill g j r (t ∷ ts) up hf hr ht =
      let x = moved way fill (2 ^ j) r in
      let next = later S g (g + length r) (omega arith) up in
      reads-append S (mux_gates t x r) (stage_gates way fill (g + length r) (suc j) (fresh_bits g (length r)) ts)
      (mux_gates-read t x r ht.0 (moved-of way fill (2 ^ j) r hf hr) hr)
      (stage_gates-read way fill (g + length r) (suc j) (fresh_bits g (length r)) ts next hf (of-fresh_bits S (length r) g up) ht.1)

  stage_bits-of : (g : ℕ) (r ts : List Literal) → HasFrom S g → AreOf S r → AreOf S (stage_bits g r ts)
  stage_bits-of g r [] up hr = hr
  stage_bits-of g r (t ∷ ts) up hr = stage_bits-of (g + length r) (fresh_bits g (length r)) ts (later S g (g + length r) (omega arith) up) (of-fresh_bits S (length r) g up)

  any_gates-read : (ts : List Literal) (g : ℕ) (o : Literal) → HasFrom S g → S o.variable → AreOf S ts → EachReads S (any_gates g o ts)
  any_gates-read [] g o up ho ht = tt
  any_gates-read (t ∷ ts) g o up ho ht = ((ho, ht.0), any_gates-read ts (suc g) (negative_of g) (later S g (suc g) (omega arith) up) (up g (omega arith)) ht.1)

  any_bit-of : (ts : List Literal) (g : ℕ) (o : Literal) → HasFrom S g → S o.variable → S (any_bit g o ts).variable
  any_bit-of [] g o up ho = ho
  any_bit-of (t ∷ ts) g o up ho = any_bit-of ts (suc g) (negative_of g) (later S g (suc g) (omega arith) up) (up g (omega arith))

  mask_gates-read : (r : List Literal) (keep : Literal) → S keep.variable → AreOf S r → EachReads S (mask_gates keep r)
  mask_gates-read [] keep hk hr = tt
  mask_gates-read (l ∷ r) keep hk hr = ((hr.0, hk), mask_gates-read r keep hk hr.1)

  move_gates-read : (way : Direction) (fill : Literal) (g : ℕ) (a t : List Literal) → HasFrom S g → S fill.variable → AreOf S a → AreOf S t → EachReads S (move_gates way fill g a t)
  move_gates-read way fill g a t up hf ha ht =
      let m = stages (length a) in
      let first = stage_gates way fill g 0 a (take m t) in
      let next = later S g (g + length first) (omega arith) up in
      reads-append S first (any_gates (g + length first) false_literal (drop m t))
      (stage_gates-read way fill g 0 a (take m t) up hf ha (of-take S m t ht))
      (any_gates-read (drop m t) (g + length first) false_literal next one (of-drop S m t ht))

  move_bits-of : (g : ℕ) (a t : List Literal) → HasFrom S g → AreOf S a → AreOf S (move_bits g a t)
  move_bits-of g a t up ha = stage_bits-of g a (take (stages (length a)) t) up ha

  over_bit-of : (way : Direction) (fill : Literal) (g : ℕ) (a t : List Literal) → HasFrom S g → S (over_bit way fill g a t).variable
  over_bit-of way fill g a t up =
      let m = stages (length a) in
      let first = stage_gates way fill g 0 a (take m t) in
      any_bit-of (drop m t) (g + length first) false_literal (later S g (g + length first) (omega arith) up) one

  pub logical_gates-read : (way : Direction) (g : ℕ) (a t : List Literal) → HasFrom S g → AreOf S a → AreOf S t → EachReads S (logical_gates way g a t)
  logical_gates-read way g a t up ha ht =
      let over = over_bit way false_literal g a t in
      reads-append S (move_gates way false_literal g a t) (mask_gates (negated over) (move_bits g a t))
      (move_gates-read way false_literal g a t up one ha ht)
      (mask_gates-read (move_bits g a t) (negated over) (over_bit-of way false_literal g a t up) (move_bits-of g a t up ha))

  pub logical_bits-of : (way : Direction) (g : ℕ) (a t : List Literal) → HasFrom S g → AreOf S (logical_bits way g a t)
  logical_bits-of way g a t up =
      let moves = length (move_gates way false_literal g a t) in
      of-fresh_bits S (length a) (g + moves) (later S g (g + moves) (omega arith) up)

  pub ashr_gates-read : (g : ℕ) (a t : List Literal) → HasFrom S g → AreOf S a → AreOf S t → EachReads S (ashr_gates g a t)
  ashr_gates-read g a t up ha ht =
      let s = sign_of a in
      let hs = of-sign S a one ha in
      reads-append S (move_gates Down s g a t) (mux_gates (over_bit Down s g a t) (replicate (length a) s) (move_bits g a t))
      (move_gates-read Down s g a t up hs ha ht)
      (mux_gates-read (over_bit Down s g a t) (replicate (length a) s) (move_bits g a t) (over_bit-of Down s g a t up) (of-replicate S (length a) s hs) (move_bits-of g a t up ha))

  pub ashr_bits-of : (g : ℕ) (a t : List Literal) → HasFrom S g → AreOf S (ashr_bits g a t)
  ashr_bits-of g a t up =
      let moves = length (move_gates Down (sign_of a) g a t) in
      of-fresh_bits S (length a) (g + moves) (later S g (g + moves) (omega arith) up)

-- The parts of a shift one after another are the whole shift.
use Rattle.std.proofs.Common.{◌≡◌, ℕ, ◌-◌, List, length, take, drop, min, ap, subst, ◌∙◌}
use Rattle.std.specs.Prelude.{replicate}
use Rattle.std.proofs.lemmas.List.{take_rest, take_min, drop_min}
use Rattle.cnf_base.specs.Literals.{Literal, negated, false_literal}
use Rattle.cnf_base.specs.Assignments.{fresh_bits}
use Rattle.cnf_base.specs.Choices.{mux_gates}
use Rattle.cnf_base.specs.Circuits.{CircuitValue, Gains}
use Rattle.cnf_base.proofs.Growing.{Gains-then}
use Rattle.circ_plain.specs.declared.moves.Direction.{Direction}
use Rattle.circ_plain.specs.declared.moves.Direction.TheVariants.{Down}
use Rattle.circ_plain.specs.Signs.{sign_of}
use Rattle.circ_plain.specs.Shifts.{stages, stage_gates, any_gates, mask_gates, move_gates, move_bits, over_bit, logical_gates, logical_bits, ashr_gates}
use Rattle.circ_plain.proofs.Shifting.{length-stage_bits}

-- the two parts of an amount, cut where it is there
pub near_is : (n m k : ℕ) (t : List Literal) → m ≡ stages n → k ≡ min m (length t) → take k t ≡ take (stages n) t
near_is n m k t em ek = ap (λ j. take j t) ek ∙ take_min m t ∙ ap (λ j. take j t) em

pub far_is : (n m k : ℕ) (t : List Literal) → m ≡ stages n → k ≡ min m (length t) → take (length t - k) (drop k t) ≡ drop (stages n) t
far_is n m k t em ek = take_rest t k ∙ ap (λ j. drop j t) ek ∙ drop_min m t ∙ ap (λ j. drop j t) em

pub moves_joined : (s p q : CircuitValue) (way : Direction) (fill : Literal) (a t near far : List Literal) → near ≡ take (stages (length a)) t → far ≡ drop (stages (length a)) t → Gains s p (stage_gates way fill s.next 0 a near) → Gains p q (any_gates p.next false_literal far) → Gains s q (move_gates way fill s.next a t)
moves_joined s p q way fill a t near far en ef first second =
    let one = rw en at first in
    let two = subst (λ g. Gains p q (any_gates g false_literal (drop (stages (length a)) t))) one.next (rw ef at second) in
    Gains-then s p q _ _ one two

pub logical_joined : (s p q : CircuitValue) (way : Direction) (a t row : List Literal) (over keep : Literal) → over ≡ over_bit way false_literal s.next a t → keep ≡ negated over → row ≡ move_bits s.next a t → Gains s p (move_gates way false_literal s.next a t) → Gains p q (mask_gates keep row) → Gains s q (logical_gates way s.next a t)
logical_joined s p q way a t row over keep eo ek er first second =
    Gains-then s p q _ _ first (rw (ek, eo, er) at second)

pub width_is : (g : ℕ) (a t row : List Literal) → row ≡ move_bits g a t → length row ≡ length a
width_is g a t row e = ap length e ∙ length-stage_bits g a (take (stages (length a)) t)

pub logical_bits_are : (s p : CircuitValue) (way : Direction) (a t row bits : List Literal) → row ≡ move_bits s.next a t → Gains s p (move_gates way false_literal s.next a t) → bits ≡ fresh_bits p.next (length row) → bits ≡ logical_bits way s.next a t
logical_bits_are s p way a t row bits er first eb =
    eb ∙ ap (λ n. fresh_bits p.next n) (width_is s.next a t row er) ∙ ap (λ n. fresh_bits n (length a)) first.next

pub ashr_joined : (s p q : CircuitValue) (a t row signs : List Literal) (over fill : Literal) → fill ≡ sign_of a → over ≡ over_bit Down fill s.next a t → row ≡ move_bits s.next a t → signs ≡ replicate (length a) fill → Gains s p (move_gates Down fill s.next a t) → Gains p q (mux_gates over signs row) → Gains s q (ashr_gates s.next a t)
ashr_joined s p q a t row signs over fill ef eo er es first second =
    Gains-then s p q _ _ (rw ef at first) (rw (eo, er, es, ef) at second)

-- How many may still be counted by a meter that counted.
use Rattle.std.proofs.Common.{◌≡◌, ℕ, ◌-◌, ap, ◌∙◌, sym, arith}
use Rattle.smt_desk.specs.Meters.{Metered, room, counting}

-- so many fewer
pub room_counted : (m m' : Metered) (n : ℕ) → m' ≡ counting m n → room m - n ≡ room m'
room_counted m m' n e =
    let fewer : room m - n ≡ room (counting m n) = omega arith in
    fewer ∙ sym (ap (λ (x : Metered). room x) e)

-- as many where none were counted
pub room_kept : (m m' : Metered) (n : ℕ) → n ≡ 0 → m' ≡ counting m n → room m ≡ room m'
room_kept m m' n z e =
    let same : room m ≡ room (counting m n) = omega (arith, z) in
    same ∙ sym (ap (λ (x : Metered). room x) e)

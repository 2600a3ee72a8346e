-- The gates of a shift are few.
use Rattle.std.proofs.Common.{◌≡◌, ℕ, ◌+◌, ◌*◌, ◌^◌, ◌≤◌, subst, arith}
use Rattle.std.proofs.Math.Nat.{mul-le-mul}

pub shift_fits : (next gates n t : ℕ) → gates ≤ n * t + t + n → n ≡ t → n ≤ 128 → next + 2 ^ 17 ≤ 2 ^ 63 → next + gates ≤ 2 ^ 63
shift_fits next gates n t few same short room =
    let product : n * t ≤ 128 * 128 = mul-le-mul short (subst (λ m. m ≤ 128) same short) in
    omega (arith, few, product, short, room, same)

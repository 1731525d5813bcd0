-- Waits that have reached the cap.

use Rattle.std.proofs.Common.{◌≡◌, ℕ, ◌*◌, ◌^◌, ◌≤◌, min, arith, lit<}
use Rattle.std.proofs.Math.Nat.{pow-le-pow_right, mul-le-mul_right}

pub cap_reached : (timeout cap doublings : ℕ) → 1 ≤ timeout → cap ≤ 3600000 → 22 ≤ doublings → cap ≡ min (timeout * 2 ^ doublings) cap
cap_reached timeout cap doublings some most many =
    let power : 2 ^ 22 ≤ 2 ^ doublings = pow-le-pow_right {n = 2} (lit< tt) many in
    let times = mul-le-mul_right (2 ^ doublings) some in
    omega (arith, power, times)

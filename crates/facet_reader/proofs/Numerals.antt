-- Numbers of at most nine digits.
--     room_for_digit     one digit more does not carry a shorter number past nine digits
use Rattle.std.proofs.Common.{ℕ, ◌+◌, ◌*◌, ◌^◌, ◌<◌, ◌≤◌, arith}
use Rattle.std.proofs.Math.Nat.{pow-le-pow_right}

pub room_for_digit : (i n : ℕ) → i < 9 → n < 10 ^ i → 10 * n + 9 < 10 ^ 9
room_for_digit i n short small =
    let within : i ≤ 8 = omega arith in
    let eight : 10 ^ i ≤ 10 ^ 8 = pow-le-pow_right (omega arith) within in
    omega (arith, eight)

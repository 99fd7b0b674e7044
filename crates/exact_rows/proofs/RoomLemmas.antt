-- The product of a few tables has room.
use Rattle.std.proofs.Common.{◌≡◌, ◌<◌, ◌≤◌, ℕ, suc, ◌+◌, ◌*◌, ◌^◌, arith, ap, ◌∙◌, mul-le-mul_right, mul-le-mul_left}
use Rattle.std.proofs.Math.Nat.{pow-succ', pow-le-pow_right}
use Rattle.exact_rows.specs.work.Rows.{most_of}

-- a product of so many tables, with one more
pub one-more : (tables v n : ℕ) → v ≤ most_of tables → n < 2 ^ 32 → v * n ≤ most_of (tables + 1)
one-more tables v n h few =
    let next : tables + 1 ≡ suc tables = omega arith in
    let power : most_of (tables + 1) ≡ 2 ^ 32 * most_of tables = ap most_of next ∙ pow-succ' (2 ^ 32) tables in
    let left : v * n ≤ most_of tables * n = mul-le-mul_right n h in
    let right : most_of tables * n ≤ most_of tables * (2 ^ 32) = mul-le-mul_left (most_of tables) (omega (arith, few)) in
    omega (arith, power, left, right)

-- more tables have no fewer rows
pub rises : (few many : ℕ) → few ≤ many → most_of few ≤ most_of many
rises few many h = pow-le-pow_right {n = 2 ^ 32} (omega arith) h

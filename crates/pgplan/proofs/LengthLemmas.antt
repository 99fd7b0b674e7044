-- The script is short.
use Rattle.std.proofs.Common.{◌≡◌, ℕ, zero, suc, ◌+◌, ◌*◌, ◌/◌, ◌%◌, ◌^◌, ◌<◌, ◌≤◌, List, ◌++◌, codes, length, length-append, refl, arith, lit≤}
use Rattle.std.proofs.lemmas.Fmt.{length-decimal-le}
use Rattle.std.specs.Fmt.{decimal}
use Rattle.std.specs.List.{flat_map, range_with_len}
use Rattle.pg_base.specs.declared.limits.TheConstants.{MOST_SCRIPT_BYTES}
use Rattle.pgplan.specs.Script.{copied, data_of, definitions, draw_at, drawn, queries_of, record_line, records, script}

-- a number of four digits
four : (n : ℕ) → n < 10 ^ 4 → length (decimal n) ≤ 4
four n small = length-decimal-le 4 n (omega arith) small (omega arith)

-- a record has at most 15 bytes
line-short : (s least below i : ℕ) → i < 2000 → 0 < below → least + below ≤ 2000 → length (record_line s least below i) ≤ 15
line-short s least below i few some small =
    let x = drawn s (2 * i + 1) / 2 ^ 33 in
    let y = drawn s (2 * i + 1 + 1) / 2 ^ 33 in
    simp length-append (omega (arith, four (i + 1) (omega arith), four (least + x % below) (omega arith), four (y % 1000) (omega arith)))

lines-short : (s least below a n : ℕ) → a + n ≤ 2000 → 0 < below → least + below ≤ 2000 → length (flat_map (record_line s least below) (range_with_len a n)) ≤ 15 * n
lines-short s least below a zero few some small = omega arith
lines-short s least below a (suc n) few some small =
    let rest = flat_map (record_line s least below) (range_with_len (a + 1) n) in
    let one = line-short s least below a (omega arith) some small in
    let others = lines-short s least below (a + 1) n (omega arith) some small in
    omega (arith, one, others, length-append (record_line s least below a) rest)

-- COPY of few records is short
copied-short : (table : List ℕ) (s least below n : ℕ) → length table ≡ 1 → n ≤ 2000 → 0 < below → least + below ≤ 2000 → length (copied table s least below n) ≤ 15 * n + 100
unfolding records
copied-short table s least below n one few some small = simp length-append (omega (arith, lines-short s least below 0 n (omega arith) some small))

data-short : (s : ℕ) → length (data_of s) ≤ 60000
unfolding data_of
data-short s =
    let a = copied (codes "a") s 0 50 500 in
    let b = copied (codes "b") (drawn s 1000) 1 500 1000 in
    let c = copied (codes "c") (drawn s 3000) 1 1000 2000 in
    omega (
      arith,
      length-append (a ++ b) c,
      length-append a b,
      copied-short (codes "a") s 0 50 500 refl (omega arith) (omega arith) (omega arith),
      copied-short (codes "b") (drawn s 1000) 1 500 1000 refl (omega arith) (omega arith) (omega arith),
      copied-short (codes "c") (drawn s 3000) 1 1000 2000 refl (omega arith) (omega arith) (omega arith),
    )

definitions-short : length definitions ≤ 1000
unfolding definitions
definitions-short = lit≤ tt

queries-short : (s : ℕ) → length (queries_of s) ≤ 1400
unfolding queries_of
queries-short s =
    simp length-append
    (omega (
      arith,
      four (draw_at s 0 50) (omega arith),
      four (draw_at s 1 1000) (omega arith),
      four (1 + draw_at s 2 500) (omega arith),
      four (1 + draw_at s 3 500) (omega arith),
      four (draw_at s 4 1000) (omega arith),
      four (draw_at s 5 1000) (omega arith),
      four (1 + draw_at s 6 500) (omega arith),
    ))

pub script-short : (n : ℕ) → length (script n) ≤ MOST_SCRIPT_BYTES
unfolding script
script-short n = simp length-append (omega (arith, definitions-short, data-short n, queries-short (drawn n 7000)))

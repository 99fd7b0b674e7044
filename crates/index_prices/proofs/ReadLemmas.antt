-- The candidates on a query's tables as a number, from the last candidate on.
use Rattle.std.proofs.Common.{◌≡◌, ◌<◌, ◌≤◌, ◌+◌, ◌*◌, ◌^◌, ℕ, Bool, true, false, cond, List, [], ◌∷◌, length, drop, sym, subst, arith}
use Rattle.std.proofs.Math.Nat.{pow-suc}
use Rattle.std.proofs.Math.Pow.{pow_mono}
use Rattle.std.proofs.lemmas.List.{length-drop}
use Rattle.catalog.specs.Contents.{NamedIndex}
use Rattle.sql_query.specs.Queries.{Query}
use Rattle.plan_laws.specs.work.Moved.{is_read}
use Rattle.index_prices.specs.work.Prices.{read_by}

bit-most : (b : Bool) → cond b 1 0 ≤ 1
bit-most true = omega arith
bit-most false = omega arith

doubled : (b m p : ℕ) → b ≤ 1 → m < p → b + 2 * m < p * 2
doubled b m p h k = omega (arith, h, k)

pub read-small : (q : Query) (xs : List NamedIndex) → read_by q xs < 2 ^ length xs
read-small q [] = omega arith
read-small q (x ∷ xs) =
    let step = doubled (cond (is_read q x) 1 0) (read_by q xs) (2 ^ length xs) (bit-most (is_read q x)) (read-small q xs) in
    subst (λ (n : ℕ). read_by q (x ∷ xs) < n) (sym (pow-suc 2 (length xs))) step

-- of at most ten candidates those from one on are a number of ten bits
pub behind-small : (q : Query) (xs : List NamedIndex) (j set : ℕ) → length xs ≤ 10 → set ≡ read_by q (drop j xs) → set < 1024
behind-small q xs j set few is =
    let all = read-small q (drop j xs) in
    let long = length-drop j xs in
    let most : length (drop j xs) ≤ 10 = omega (arith, few, long) in
    let power : 2 ^ length (drop j xs) ≤ 2 ^ 10 = pow_mono most in
    omega (arith, all, power, is)

-- A query has one price with a set of candidates, and it reads those on the query's tables alone.
use Rattle.std.proofs.Common.{◌≡◌, ◌<◌, ◌+◌, ◌*◌, ◌/◌, ◌%◌, ◌&&◌, ◌++◌, ℕ, zero, suc, Bool, true, false, cond, nat_eq, List, [], ◌∷◌, length, get_or, Option, Some, None, bit_and, refl, sym, ap, ◌∙◌, subst, arith}
use Rattle.std.specs.Prelude.{filter, slice_get}
use Rattle.std.proofs.lemmas.Nat.Bits.{bit_at-suc, bit_at_lowest}
use Rattle.std.specs.Int.{bit_at}
use Rattle.pg_base.specs.Sets.{has}
use Rattle.pg_base.proofs.SetLaws.{has-and}
use Rattle.catalog.specs.Contents.{Contents, NamedIndex, no_index}
use Rattle.sql_query.specs.Queries.{Query}
use Rattle.plan_laws.specs.Moved.{added_from}
use Rattle.plan_laws.specs.work.Moved.{is_read}
use Rattle.plan_laws.proofs.BoundLemmas.{one-price, priced-plan}
use Rattle.plan_laws.proofs.PriceLemmas.{added-same, none-reads, price-reads}
use Rattle.index_prices.specs.Candidates.{with_added}
use Rattle.index_prices.specs.Prices.{IsLeastPrice, IsPriceWith}
use Rattle.index_prices.specs.work.Prices.{concerns_of, read_by}

query-is : (q r : Query) → Some q ≡ Some r → q ≡ r
query-is q r e = cc

one-least : (c : Contents) (q : Query) (a b : Option ℕ) → IsLeastPrice c q a → IsLeastPrice c q b → a ≡ b
one-least c q None None h k = refl
one-least c q None (Some n) h k = absurd (priced-plan c q n k h)
one-least c q (Some m) None h k = absurd (priced-plan c q m h k)
one-least c q (Some m) (Some n) h k = ap Some (one-price c q m n h k)

-- a query has one price with a set
pub one-price-with : (c : Contents) (candidates : List NamedIndex) (queries : List Query) (q set : ℕ) (a b : Option ℕ) → IsPriceWith c candidates queries q set a → IsPriceWith c candidates queries q set b → a ≡ b
one-price-with c candidates queries q set a b h k =
    one-least (with_added c candidates (has set)) h.query a b h.least
    (subst (λ (x : Query). IsLeastPrice (with_added c candidates (has set)) x b) (query-is k.query h.query (sym k.at ∙ h.at)) k.least)

odd : (m : ℕ) → (1 + 2 * m) % 2 ≡ 1
odd m = omega arith

even : (m : ℕ) → (0 + 2 * m) % 2 ≡ 0
even m = omega arith

odd-half : (m : ℕ) → (1 + 2 * m) / 2 ≡ m
odd-half m = omega arith

even-half : (m : ℕ) → (0 + 2 * m) / 2 ≡ m
even-half m = omega arith

-- the lowest bit, and those above it
has-lowest : (b : Bool) (m : ℕ) → has (cond b 1 0 + 2 * m) 0 ≡ b
unfolding has
has-lowest true m = ap (λ n. nat_eq n 1) (bit_at_lowest (1 + 2 * m) ∙ odd m)
has-lowest false m = ap (λ n. nat_eq n 1) (bit_at_lowest (0 + 2 * m) ∙ even m)

has-above : (b : Bool) (m k : ℕ) → has (cond b 1 0 + 2 * m) (suc k) ≡ has m k
unfolding has
has-above true m k = ap (λ n. nat_eq n 1) (bit_at-suc (1 + 2 * m) k ∙ ap (λ n. bit_at n k) (odd-half m))
has-above false m k = ap (λ n. nat_eq n 1) (bit_at-suc (0 + 2 * m) k ∙ ap (λ n. bit_at n k) (even-half m))

has-read : (q : Query) (xs : List NamedIndex) (k : ℕ) → k < length xs → has (read_by q xs) k ≡ is_read q (get_or xs k no_index)
has-read q [] k lt = absurd (omega (arith, lt))
has-read q (x ∷ xs) zero lt = has-lowest (is_read q x) (read_by q xs)
has-read q (x ∷ xs) (suc k) lt = has-above (is_read q x) (read_by q xs) k ∙ has-read q xs k (omega (arith, lt))

-- with those of a set on the query's tables the least price is the one with all of the set
least-within : (c : Contents) (candidates : List NamedIndex) (q : Query) (set : ℕ) (price : Option ℕ) → IsLeastPrice (with_added c candidates (has (bit_and set (read_by q candidates)))) q price → IsLeastPrice (with_added c candidates (has set)) q price
least-within c candidates q set price h =
    by price (subst (λ (s : ℕ → Bool). IsLeastPrice (with_added c candidates s) q price) both h)
  where
    here : ℕ → Bool
    here = λ k. has set k && has (read_by q candidates) k

    both : has (bit_and set (read_by q candidates)) ≡ here
    both = λ i k. has-and set (read_by q candidates) k i

    same : filter (is_read q) (c.indexes ++ added_from 0 here candidates) ≡ filter (is_read q) (c.indexes ++ added_from 0 (has set) candidates)
    same = sym (added-same q c.indexes candidates (has set) (has (read_by q candidates)) (has-read q candidates))

    by : (price : Option ℕ) → IsLeastPrice (with_added c candidates here) q price → IsLeastPrice (with_added c candidates (has set)) q price
    by None k = none-reads c.tables q (c.indexes ++ added_from 0 here candidates) (c.indexes ++ added_from 0 (has set) candidates) same k
    by (Some n) k = price-reads c.tables q (c.indexes ++ added_from 0 here candidates) (c.indexes ++ added_from 0 (has set) candidates) same n k

-- a price reads the candidates on the query's tables alone
pub price-within : (c : Contents) (candidates : List NamedIndex) (queries : List Query) (q set : ℕ) (price : Option ℕ) → IsPriceWith c candidates queries q (bit_and set (concerns_of (slice_get queries q) candidates)) price → IsPriceWith c candidates queries q set price
price-within c candidates queries q set price h = record {
  query = h.query;
  at = h.at;
  least = least-within c candidates h.query set price
      (subst (λ (n : ℕ). IsLeastPrice (with_added c candidates (has (bit_and set n))) h.query price) (ap (λ (o : Option Query). concerns_of o candidates) h.at) h.least);
}

-- Prices that were asked for. Own.
use Rattle.std.specs.Prelude.{◌≡◌, ◌<◌, ◌^◌, ℕ, IfSome, Some}
use Rattle.std.specs.BTreeMap.{BTreeMap, get}
use Rattle.std.specs.Ordering.{nat_cmp, on, then_cmp}
use Rattle.std.specs.declared.cmp.Ordering.{Ordering}
use Rattle.advisor.specs.Choices.{Prices}
use Rattle.advisor.specs.work.Choices.{IsPart}
use Rattle.advisor.specs.declared.pricer.Quote.{Quote}

-- the order of prices: by the query, and where that ties by the set
abbrev pub key_order : (ℕ × ℕ) → (ℕ × ℕ) → Ordering
key_order = then_cmp (on (λ (k : ℕ × ℕ). k.0) nat_cmp) (on (λ (k : ℕ × ℕ). k.1) nat_cmp)

-- what a query costs with each set between the candidates of a set that are used and the set itself
abbrev pub IsQuote : Prices → ℕ → ℕ → Quote → Type 0
IsQuote prices q set x = (t : ℕ) → IsPart x.used t → IsPart t set → prices q t x.cost

-- a cost, where there is one, is below 10^18, and what is used is of the set
pub record IsBelow (set : ℕ) (x : Quote) : Type 0 where
  pub cost : IfSome x.cost (λ n. n < 10 ^ 18)
  pub used : IsPart x.used set

-- each price is that of its query and set
abbrev pub IsMemo : Prices → BTreeMap (ℕ × ℕ) Quote → Type 0
IsMemo prices m = (k : ℕ × ℕ) (x : Quote) → get key_order m k ≡ Some x → IsQuote prices k.0 k.1 x

-- each price, where there is one, is below 10^18, and what is used is of its set
abbrev pub AreBelow : BTreeMap (ℕ × ℕ) Quote → Type 0
AreBelow m = (k : ℕ × ℕ) (x : Quote) → get key_order m k ≡ Some x → IsBelow k.1 x

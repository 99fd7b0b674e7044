-- The rules of sorts and joins rise with their children.
use Rattle.std.proofs.Common.{◌<◌, ◌≤◌, ℕ, ◌+◌, ◌-◌, ◌*◌, arith, mul-le-mul_left, mul-le-mul_right, add-mul, lt_of_mul-lt-mul_right}
use Rattle.std.specs.Int.{div_ceil}
use Rattle.std.proofs.lemmas.Grind.{common_steps, div_ceil_times}
use Rattle.cost_rules.specs.declared.pair.Pair.{Pair}
use Rattle.cost_rules.specs.declared.parameters.TheConstants.{OPERATOR}
use Rattle.cost_rules.specs.Costs.{pair, row_cost, sort_work, sort_cost, nest_cost, merge_cost, price_of}
use Rattle.cost_rules.specs.work.Costs.{IsAtMost}

sort-by : (a b : Pair) (w n : ℕ) → IsAtMost a b → IsAtMost (pair (a.total + w) (a.total + w + n)) (pair (b.total + w) (b.total + w + n))
sort-by a b w n h = record { startup = omega (arith, h.total); total = omega (arith, h.total) }

pub sort-rises : (a b : Pair) (n : ℕ) → IsAtMost a b → IsAtMost (sort_cost a n) (sort_cost b n)
sort-rises a b n h = sort-by a b (sort_work n) n h

nest-by : (o p i j : Pair) (x y z : ℕ) → IsAtMost o p → IsAtMost i j → x ≤ y → IsAtMost (pair (o.startup + i.startup) (o.total + x + z)) (pair (p.startup + j.startup) (p.total + y + z))
nest-by o p i j x y z h k l = record { startup = omega (arith, h.startup, k.startup); total = omega (arith, h.total, l) }

pub nest-rises : (o p i j : Pair) (ro ri ops : ℕ) → IsAtMost o p → IsAtMost i j → IsAtMost (nest_cost o i ro ri ops) (nest_cost p j ro ri ops)
nest-rises o p i j ro ri ops h k = nest-by o p i j (ro * i.total) (ro * j.total) (ro * ri * row_cost ops) h k (mul-le-mul_left ro k.total)

merge-by : (o p i j : Pair) (x y : ℕ) → IsAtMost o p → IsAtMost i j → IsAtMost (pair (o.startup + i.startup) (o.total + i.total + x + y)) (pair (p.startup + j.startup) (p.total + j.total + x + y))
merge-by o p i j x y h k = record { startup = omega (arith, h.startup, k.startup); total = omega (arith, h.total, k.total) }

pub merge-rises : (o p i j : Pair) (ro ri k pairs ops : ℕ) → IsAtMost o p → IsAtMost i j → IsAtMost (merge_cost o i ro ri k pairs ops) (merge_cost p j ro ri k pairs ops)
merge-rises o p i j ro ri k pairs ops h l = merge-by o p i j ((ro + 2 * ri) * (k * OPERATOR)) (pairs * row_cost ops) h l

pub sort-child : (a : Pair) (n : ℕ) → a.total ≤ (sort_cost a n).total
sort-child a n = omega arith

pub once-at_least : (k x : ℕ) → 1 ≤ k → x ≤ k * x
once-at_least k x h = grind (arith, common_steps, mul-le-mul_right x h)

nest-parts : (a b x z : ℕ) → b ≤ x → (a ≤ a + x + z) × (b ≤ a + x + z)
nest-parts a b x z h = (omega arith, omega (arith, h))

pub nest-children : (o i : Pair) (ro ri ops : ℕ) → 1 ≤ ro → (o.total ≤ (nest_cost o i ro ri ops).total) × (i.total ≤ (nest_cost o i ro ri ops).total)
nest-children o i ro ri ops h = nest-parts o.total i.total (ro * i.total) (ro * ri * row_cost ops) (once-at_least ro i.total h)

merge-parts : (a b x y : ℕ) → (a ≤ a + b + x + y) × (b ≤ a + b + x + y)
merge-parts a b x y = (omega arith, omega arith)

pub merge-children : (o i : Pair) (ro ri k pairs ops : ℕ) → (o.total ≤ (merge_cost o i ro ri k pairs ops).total) × (i.total ≤ (merge_cost o i ro ri k pairs ops).total)
merge-children o i ro ri k pairs ops = merge-parts o.total i.total ((ro + 2 * ri) * (k * OPERATOR)) (pairs * row_cost ops)

after : (x n : ℕ) → x ≤ x + n
after x n = omega arith

pub sort-startup : (a : Pair) (n : ℕ) → (sort_cost a n).startup ≤ (sort_cost a n).total
sort-startup a n = after (a.total + sort_work n) n

nest-before : (s t a b x z : ℕ) → s ≤ a → t ≤ b → b ≤ x → s + t ≤ a + x + z
nest-before s t a b x z h k l = omega (arith, h, k, l)

pub nest-startup : (o i : Pair) (ro ri ops : ℕ) → 1 ≤ ro → o.startup ≤ o.total → i.startup ≤ i.total → (nest_cost o i ro ri ops).startup ≤ (nest_cost o i ro ri ops).total
nest-startup o i ro ri ops some h k = nest-before o.startup i.startup o.total i.total (ro * i.total) (ro * ri * row_cost ops) h k (once-at_least ro i.total some)

merge-before : (s t a b x y : ℕ) → s ≤ a → t ≤ b → s + t ≤ a + b + x + y
merge-before s t a b x y h k = omega (arith, h, k)

pub merge-startup : (o i : Pair) (ro ri k pairs ops : ℕ) → o.startup ≤ o.total → i.startup ≤ i.total → (merge_cost o i ro ri k pairs ops).startup ≤ (merge_cost o i ro ri k pairs ops).total
merge-startup o i ro ri k pairs ops h l = merge-before o.startup i.startup o.total i.total ((ro + 2 * ri) * (k * OPERATOR)) (pairs * row_cost ops) h l

-- a fraction rounded up is the least number whose multiple reaches the dividend
pub ceil-least : (x k n : ℕ) → 1 ≤ n → x ≤ k * n → div_ceil x n ≤ k
ceil-least x k n some h =
    let bounds = div_ceil_times x n some in
    let below : div_ceil x n * n < (k + 1) * n = omega (arith, bounds.1, h, add-mul k 1 n) in
    let less : div_ceil x n < k + 1 = lt_of_mul-lt-mul_right n below in
    omega (arith, less)

-- with a start that is later by d, at most d is saved of the rest
rest-rises : (r s d f n : ℕ) → 1 ≤ n → f ≤ n → r ≤ s + d → div_ceil (r * f) n ≤ div_ceil (s * f) n + d
rest-rises r s d f n some part h =
    let up = div_ceil_times (s * f) n some in
    let one : r * f ≤ (s + d) * f = mul-le-mul_right f h in
    let two : d * f ≤ d * n = mul-le-mul_left d part in
    ceil-least (r * f) (div_ceil (s * f) n + d) n some (omega (arith, one, two, up.0, add-mul s d f, add-mul (div_ceil (s * f) n) d n))

pub price-rises : (a b : Pair) (f n : ℕ) → 1 ≤ n → f ≤ n → a.startup ≤ a.total → IsAtMost a b → price_of a f n ≤ price_of b f n
price-rises a b f n some part own h =
    let d = b.startup - a.startup in
    let fact = rest-rises (a.total - a.startup) (b.total - b.startup) d f n some part (omega (arith, h.startup, h.total, own)) in
    omega (arith, fact, h.startup)

use Rattle.std.proofs.Common.{◌≡◌, ◌<◌, ◌≤◌, ◌+◌, ◌-◌, ◌*◌, ◌/◌, ℕ, Bool, true, false, length, nat_lt, Fits, w64, arith, le_refl}
use Rattle.std.proofs.lemmas.Bool.Decides.{nat_tests}
use Rattle.std.proofs.lemmas.Grind.{common_steps}
use Rattle.catalog.specs.declared.limits.TheConstants.{MOST_BOUNDS}
use Rattle.path_cost.specs.work.Known.{statistics_of}
use Rattle.path_cost.specs.Selectivity.{bounds_passed}
use Rattle.path_cost.proofs.KindLemmas.{bounds_compare}
use Rattle.path_cost.proofs.PlaceLemmas.{few-passed, half-way}
use Rattle.path_cost.proofs.shares.passed.Goals as goal

middle : (from to : ℕ) → from < to → from + (to - from) / 2 < to
middle from to h = omega (arith, h)

in-words : (n len : ℕ) → n < len → len ≤ MOST_BOUNDS → Fits w64 (n * 32)
in-words n len h k = omega (arith, h, k)

less : (n m : ℕ) (is : Bool) → is ≡ nat_lt n m → is ≡ true → n + 1 ≤ m
less n m is e f = grind (arith, nat_tests, common_steps, e, f)

more : (n m : ℕ) (is : Bool) → is ≡ nat_lt n m → is ≡ false → m ≤ n
more n m is e f = grind (arith, nat_tests, common_steps, e, f)

met : (from to n : ℕ) → to ≤ from → from ≤ n → n ≤ to → from ≡ n
met from to n h k l = omega (arith, h, k, l)

pub loop-from-init : goal.loop-from-init
loop-from-init c = (omega arith, few-passed c.args.op c.args.k.now.histogram.now c.args.v.now, le_refl (length c.args.k.now.histogram.now))

within : (from to len : ℕ) → from < to → to ≤ len → from + (to - from) / 2 < len
within from to len h k = omega (arith, middle from to h, k)

pub offset_bounds-k-mid : goal.offset_bounds-k-mid
offset_bounds-k-mid c = in-words _ (length c.args.k.now.histogram.now) (within c.loop-from.from c.loop-from.to _ c.loop-from-test.true c.loop-from.invariant.2) c.requires.lawful.bounds

pub bounds-k-mid : goal.bounds-k-mid
bounds-k-mid c = within c.loop-from.from c.loop-from.to _ c.loop-from-test.true c.loop-from.invariant.2

pub holds-requires : goal.holds-requires
holds-requires c =
    bounds_compare c.args.k.now c.passing-below.result c.args.v.now c.passing-below.ensures.plain c.requires.lawful c.requires.suits
    (c.loop-from.from + (c.loop-from.to - c.loop-from.from) / 2) c.index-k-mid.result (within c.loop-from.from c.loop-from.to _ c.loop-from-test.true c.loop-from.invariant.2)

pub loop-from-preserved-then-holds : goal.loop-from-preserved-then-holds
loop-from-preserved-then-holds c = (
  less (c.loop-from.from + (c.loop-from.to - c.loop-from.from) / 2) (bounds_passed c.args.op c.args.k.now.histogram.now c.args.v.now) c.holds.result
      (half-way c.args.k.now.typed (statistics_of c.args.k.now) c.requires.lawful c.args.op c.passing-below.result c.args.v.now (c.loop-from.from + (c.loop-from.to - c.loop-from.from) / 2) c.index-k-mid.result c.holds.result c.passing-below.ensures.table
      (within c.loop-from.from c.loop-from.to _ c.loop-from-test.true c.loop-from.invariant.2) c.holds.ensures) c.if-holds.true,
  c.loop-from.invariant.1,
  c.loop-from.invariant.2,
)

pub loop-from-preserved : goal.loop-from-preserved
loop-from-preserved c = (
  c.loop-from.invariant.0,
  more (c.loop-from.from + (c.loop-from.to - c.loop-from.from) / 2) (bounds_passed c.args.op c.args.k.now.histogram.now c.args.v.now) c.holds.result
      (half-way c.args.k.now.typed (statistics_of c.args.k.now) c.requires.lawful c.args.op c.passing-below.result c.args.v.now (c.loop-from.from + (c.loop-from.to - c.loop-from.from) / 2) c.index-k-mid.result c.holds.result c.passing-below.ensures.table
      (within c.loop-from.from c.loop-from.to _ c.loop-from-test.true c.loop-from.invariant.2) c.holds.ensures) c.if-holds.false,
  half c.loop-from.from c.loop-from.to _ c.loop-from-test.true c.loop-from.invariant.2,
)
  where
    half : (from to len : ℕ) → from < to → to ≤ len → from + (to - from) / 2 ≤ len
    half from to len h k = omega (arith, middle from to h, k)

pub returns-clause-count : goal.returns-clause-count
returns-clause-count c = met c.loop-from.from c.loop-from.to _ c.loop-from-test.false c.loop-from.invariant.0 c.loop-from.invariant.1

pub returns-clause-few : goal.returns-clause-few
returns-clause-few c = few c.loop-from.from _ _ c.loop-from.invariant.0 (few-passed c.args.op c.args.k.now.histogram.now c.args.v.now)
  where
    few : (a b n : ℕ) → a ≤ b → b ≤ n → a ≤ n
    few a b n h k = omega (arith, h, k)

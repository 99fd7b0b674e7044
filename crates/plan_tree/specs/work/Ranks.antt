-- Being at most is reflexive and transitive: it is so in each number, and one key list begins with the other.
use Rattle.std.proofs.Common.{◌≡◌, ◌≤◌, ℕ, true, nat_eq, nat_le, refl, ◌∙◌, arith}
use Rattle.std.proofs.lemmas.Bool.{and_parts, and_from}
use Rattle.std.proofs.lemmas.Grind.{common_steps}
use Rattle.pathkeys.specs.Keys.{covers}
use Rattle.pathkeys.proofs.CoveringLemmas.{covers-refl, covers-trans}
use Rattle.plan_tree.specs.work.Paths.{Path, is_at_most}

-- a path is at most another
pub record AtMost (a b : Path) : Type 0 where
  pub set : a.set.0 ≡ b.set.0
  pub param : a.param.0 ≡ b.param.0
  pub startup : a.startup ≤ b.startup
  pub cost : a.cost ≤ b.cost
  pub keys : covers a.keys b.keys ≡ true

same : (m n : ℕ) → nat_eq m n ≡ true → m ≡ n
same m n e = grind (arith, common_steps)

equal : (m n : ℕ) → m ≡ n → nat_eq m n ≡ true
equal m n e = grind (arith, common_steps)

most : (m n : ℕ) → nat_le m n ≡ true → m ≤ n
most m n e = grind (arith, common_steps)

at-most : (m n : ℕ) → m ≤ n → nat_le m n ≡ true
at-most m n e = grind (arith, common_steps)

-- the test of paths says all five: equal set and parameterisation, no greater startup and cost, keys that begin with the
-- other's
pub parts-of : (a b : Path) → is_at_most a b ≡ true → AtMost a b
parts-of a b e =
    let p = and_parts (nat_eq a.set.0 b.set.0) _ e in
    let q = and_parts (nat_eq a.param.0 b.param.0) _ p.1 in
    let r = and_parts (nat_le a.startup b.startup) _ q.1 in
    let s = and_parts (nat_le a.cost b.cost) _ r.1 in
    record {
      set = same a.set.0 b.set.0 p.0;
      param = same a.param.0 b.param.0 q.0;
      startup = most a.startup b.startup r.0;
      cost = most a.cost b.cost s.0;
      keys = s.1;
    }

-- the five together make the test of paths true
pub from-parts : (a b : Path) → AtMost a b → is_at_most a b ≡ true
from-parts a b p =
    and_from (nat_eq a.set.0 b.set.0) _ (equal a.set.0 b.set.0 p.set)
    (and_from (nat_eq a.param.0 b.param.0) _ (equal a.param.0 b.param.0 p.param)
    (and_from (nat_le a.startup b.startup) _ (at-most a.startup b.startup p.startup)
    (and_from (nat_le a.cost b.cost) _ (at-most a.cost b.cost p.cost) p.keys)))

-- a path may take its own place
pub at-most-refl : (a : Path) → is_at_most a a ≡ true
at-most-refl a = from-parts a a (record { set = refl; param = refl; startup = omega arith; cost = omega arith; keys = covers-refl a.keys })

-- what may take the place of a path may take that of each whose place this one may
pub at-most-trans : (a b c : Path) → is_at_most a b ≡ true → is_at_most b c ≡ true → is_at_most a c ≡ true
at-most-trans a b c e f =
    let p = parts-of a b e in
    let q = parts-of b c f in
    from-parts a c (record {
      set = p.set ∙ q.set;
      param = p.param ∙ q.param;
      startup = omega (arith, p.startup, q.startup);
      cost = omega (arith, p.cost, q.cost);
      keys = covers-trans a.keys b.keys c.keys p.keys q.keys;
    })

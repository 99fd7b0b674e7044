-- Nested loops of right entries, in numbers.
use Rattle.std.proofs.Common.{◌≡◌, ℕ, Bool, true, false, ◌||◌, refl, sym, ap₂, ◌∙◌}
use Rattle.std.proofs.lemmas.Bool.{false≢true}
use Rattle.pg_base.specs.Sets.{has}
use Rattle.pg_base.specs.work.Sets.{Meets}
use Rattle.pg_base.proofs.SetLaws.{has-zero}
use Rattle.pg_base.specs.declared.rel_set.RelSet.{RelSet}
use Rattle.catalog.specs.Contents.{Contents}
use Rattle.eq_classes.specs.Holding.{AreApart}
use Rattle.sql_query.specs.Queries.{Query}
use Rattle.pathkeys.specs.Keys.{Keys}
use Rattle.plan_tree.specs.Plans.{Plan, nest, set_of}
use Rattle.plan_tree.specs.Space.{IsSameSet}
use Rattle.plan_check.specs.Certificates.{Entry}
use Rattle.plan_check.specs.work.Beating.{IsRight, as_entry}
use Rattle.plan_check.specs.work.Joining.{MayNest}
use Rattle.plan_check.proofs.NestLemmas.{nest-built}
use Rattle.entry_check.specs.work.Owning.{AreNumbersOf}
use Rattle.entry_check.specs.declared.numbers.Own.{Own}

-- sets that share no member
pub apart-from : (a b : ℕ) → ¬ Meets a b → AreApart (has a) (has b)
apart-from a b never k is = by (has b k) refl
  where
    by : (x : Bool) → has b k ≡ x → has b k ≡ false
    by false e = e
    by true e = absurd (never (k, is, e))

pub apart-not : (a b : ℕ) → AreApart (has a) (has b) → ¬ Meets a b
apart-not a b h (k, x, y) = false≢true (sym (h k x) ∙ y)

module _ (c : Contents) (q : Query) (a b : Entry) (o i : Plan) (ra : IsRight c q a o) (rb : IsRight c q b i) (set : RelSet) (all : (k : ℕ) → has set.0 k ≡ has a.set.0 k || has b.set.0 k) where
  pub nest-set : IsSameSet (set_of (nest o i)) (has set.0)
  nest-set k = ap₂ (λ (x y : Bool). x || y) (ra.has.plan.set_is k) (rb.has.plan.set_is k) ∙ sym (all k)

  pub nest-right : (x : Own) (keys : Keys) → MayNest a b → AreNumbersOf c q (nest o i) x → keys ≡ a.keys → IsRight c q (as_entry set (record { 0 = 0 }) x.startup x.cost x.rows keys) (nest o i)
  nest-right x keys m n same = record {
    has = record {
      plan = record {
        built = nest-built c q a b o i ra rb m;
        plain = refl;
        set_is = nest-set;
        param_is = λ k. sym (has-zero k);
      };
      admissible = n.admissible;
      keys = same ∙ ra.has.keys;
    };
    numbers = record { startup = n.startup; total = n.total; rows = n.rows };
  }

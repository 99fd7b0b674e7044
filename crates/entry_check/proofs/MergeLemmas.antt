-- Merges of right entries, in numbers.
use Rattle.std.proofs.Common.{◌≡◌, ℕ, Bool, true, false, cond, ◌||◌, refl, sym, ap₂, ◌∙◌}
use Rattle.pg_base.specs.Sets.{has}
use Rattle.pg_base.proofs.SetLaws.{has-zero}
use Rattle.pg_base.specs.declared.rel_set.RelSet.{RelSet}
use Rattle.catalog.specs.Contents.{Contents}
use Rattle.sql_query.specs.Queries.{Query}
use Rattle.pathkeys.specs.Keys.{Keys}
use Rattle.plan_tree.specs.Keys.{keys_of}
use Rattle.plan_tree.specs.Plans.{Plan, merge, set_of}
use Rattle.plan_tree.specs.Space.{IsSameSet}
use Rattle.plan_check.specs.Certificates.{Entry, sorted_if}
use Rattle.plan_check.specs.work.Beating.{IsRight, as_entry}
use Rattle.plan_check.specs.work.Joining.{MayMerge}
use Rattle.plan_check.proofs.MergeLemmas.{merge-built, side-set}
use Rattle.entry_check.specs.work.Owning.{AreNumbersOf}
use Rattle.entry_check.specs.declared.numbers.Own.{Own}

module _ (c : Contents) (q : Query) (list : Keys) (a b : Entry) (sa sb : Bool) (o i : Plan) (ra : IsRight c q a o) (rb : IsRight c q b i) (set : RelSet) (all : (k : ℕ) → has set.0 k ≡ has a.set.0 k || has b.set.0 k) where
  pub merge-set : IsSameSet (set_of (merge list (sorted_if sa list o) (sorted_if sb list i))) (has set.0)
  merge-set k = ap₂ (λ (x y : Bool). x || y) (side-set c q sa list a o ra k) (side-set c q sb list b i rb k) ∙ sym (all k)

  side-keys : (s : Bool) → cond s list a.keys ≡ keys_of c q (sorted_if s list o)
  side-keys true = refl
  side-keys false = ra.has.keys

  pub merge-right : (x : Own) (keys : Keys) → MayMerge c q list a b sa sb → AreNumbersOf c q (merge list (sorted_if sa list o) (sorted_if sb list i)) x → keys ≡ cond sa list a.keys →
      IsRight c q (as_entry set (record { 0 = 0 }) x.startup x.cost x.rows keys) (merge list (sorted_if sa list o) (sorted_if sb list i))
  merge-right x keys m n same = record {
    has = record {
      plan = record {
        built = merge-built c q list a b sa sb o i ra rb m;
        plain = refl;
        set_is = merge-set;
        param_is = λ k. sym (has-zero k);
      };
      admissible = n.admissible;
      keys = same ∙ side-keys sa;
    };
    numbers = record { startup = n.startup; total = n.total; rows = n.rows };
  }

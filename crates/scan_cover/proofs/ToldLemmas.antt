-- Scans that an entry dominates, and those that none does.
use Rattle.std.proofs.Common.{◌≡◌, ◌<◌, ℕ, [], Bool, true, false, cond, nat_eq, refl, sym, ap, ◌∙◌, inl}
use Rattle.std.specs.Prelude.{IfNone, IfSome, MatchOption, Option, Some, None}
use Rattle.pg_base.specs.Sets.{has}
use Rattle.pg_base.proofs.SetLaws.{has-zero}
use Rattle.pg_base.specs.declared.numbers.RelNo.{RelNo}
use Rattle.pg_base.specs.declared.rel_set.RelSet.{RelSet}
use Rattle.catalog.specs.Contents.{Contents}
use Rattle.sql_query.specs.Queries.{Query, width}
use Rattle.plan_laws.specs.Closed.{is_scan}
use Rattle.pathkeys.specs.Keys.{Keys}
use Rattle.plan_tree.specs.Costs.{cost}
use Rattle.plan_tree.specs.Keys.{keys_of}
use Rattle.plan_tree.specs.Plans.{Plan, index, index_only, seq}
use Rattle.plan_tree.specs.Space.{IsBuilt}
use Rattle.plan_check.specs.Certificates.{Certificate}
use Rattle.plan_check.specs.work.Beating.{IsBeaten, IsRight, as_entry}
use Rattle.plan_check.specs.Plains.{StandsForPlan}
use Rattle.plan_check.specs.Reasons.{AllRight}
use Rattle.plan_check.specs.declared.verdict.Plain.{Plain}
use Rattle.plan_check.proofs.BeatingLemmas.{beaten-dominated, kept, unbeaten-none}
use Rattle.join_cover.specs.entry_check_Owning.{AreNumbersOf, tree_of}
use Rattle.join_cover.specs.entry_check_numbers_Own.{Own}
use Rattle.join_cover.specs.entry_check_scans_ByIndex.{ByIndex}
use Rattle.join_cover.specs.entry_check_ScanLemmas.{tree-param, tree-plain, tree-set}
use Rattle.join_cover.specs.work.Serving.{IsOpen, IsServed}
use Rattle.join_cover.specs.declared.uncovered.Uncovered.{Uncovered}
use Rattle.scan_cover.specs.work.Scanning.{IsLeftOpen, IsScanWith}

module _ (c : Contents) (q : Query) where
  -- what is said of a scan is right
  says : (set param : RelSet) (keys : Keys) (own : Own) (p : Plan) → IsScanWith c q set param keys own p → IsRight c q (as_entry set param own.startup own.cost own.rows keys) p
  says set param keys own p s = record {
    has = record { plan = s.has.plan; admissible = s.has.admissible; keys = s.has.keys };
    numbers = record { startup = s.numbers.startup; total = s.numbers.total; rows = s.numbers.rows };
  }

  tree-scan : (s : ByIndex) → is_scan (tree_of s) ≡ true
  tree-scan s = by s.only
    where
      by : (only : Bool) → is_scan (cond only (index_only s.rel s.index s.backward s.param) (index s.rel s.index s.backward s.param)) ≡ true
      by true = refl
      by false = refl

  -- a scan by an index with its numbers
  pub index-with : (s : ByIndex) (set : RelSet) (keys : Keys) (own : Own) → IsBuilt c q (tree_of s) → ((k : ℕ) → has set.0 k ≡ nat_eq k s.rel.0) → keys ≡ keys_of c q (tree_of s) → AreNumbersOf c q (tree_of s) own → IsScanWith c q set s.param keys own (tree_of s)
  index-with s set keys own built alone same n = record {
    scan = tree-scan s;
    has = record {
      plan = record {
        built = built;
        plain = tree-plain c q s;
        set_is = λ k. ap (λ (f : ℕ → Bool). f k) (tree-set c q s) ∙ sym (alone k);
        param_is = tree-param c q s;
      };
      admissible = n.admissible;
      keys = same;
    };
    numbers = n;
  }

  -- the sequential scan with its numbers
  pub seq-with : (r : RelNo) (set : RelSet) (own : Own) → r.0 < width q → ((k : ℕ) → has set.0 k ≡ nat_eq k r.0) → AreNumbersOf c q (seq r) own → IsScanWith c q set (record { 0 = 0 }) [] own (seq r)
  seq-with r set own lt alone n = record {
    scan = refl;
    has = record {
      plan = record { built = lt; plain = refl; set_is = λ k. sym (alone k); param_is = λ k. sym (has-zero k) };
      admissible = n.admissible;
      keys = refl;
    };
    numbers = n;
  }

-- what an answer says of both its cases
pub match-both : {X : Type 0} (r : Option X) (P : Type 0) (Q : X → Type 0) → IfNone r P → IfSome r Q → MatchOption r P Q
match-both None P Q h k = h
match-both (Some x) P Q h k = k

pub if-some-weaker : {X : Type 0} (r : Option X) (P Q : X → Type 0) → ((x : X) → P x → Q x) → IfSome r P → IfSome r Q
if-some-weaker None P Q f h = tt
if-some-weaker (Some x) P Q f h = f x h

pub if-none-weaker : {X : Type 0} (r : Option X) (P Q : Type 0) → (P → Q) → IfNone r P → IfNone r Q
if-none-weaker None P Q f h = f h
if-none-weaker (Some x) P Q f h = tt

pub told-none : (q : Query) (t : Certificate) (set param : RelSet) (keys : Keys) (own : Own) (r : Option Uncovered) → IfNone r (IsBeaten q.window t.entries (as_entry set param own.startup own.cost own.rows keys)) →
    IfNone r ((c : Contents) (p : Plan) → AllRight c q t → IsScanWith c q set param keys own p → IsServed c q t p)
told-none q t set param keys own (Some x) beaten = tt
told-none q t set param keys own None beaten = λ c p right s built admissible. beaten-dominated c q t right (as_entry set param own.startup own.cost own.rows keys) p (says c q set param keys own p s) beaten

pub told-open : (q : Query) (t : Certificate) (set param : RelSet) (keys : Keys) (own : Own) (r : Option Uncovered) → IfSome r (λ x. IsLeftOpen q.window t (as_entry set param own.startup own.cost own.rows keys) x) →
    IfSome r (λ x. (c : Contents) (p : Plan) (node : Plain) → AllRight c q t → IsScanWith c q set param keys own p → StandsForPlan c q t node p → IsOpen c q t node x)
told-open q t set param keys own None left = tt
told-open q t set param keys own (Some x) left = λ c p node right s stands. record {
  plan = p;
  stands = stands;
  candidate = record { built = s.has.plan.built; admissible = s.has.admissible; made = inl s.scan };
  none = unbeaten-none c q t right (as_entry set param own.startup own.cost own.rows keys) p (says c q set param keys own p s) left.none;
  startup_is = left.startup_is ∙ kept q.window own.startup (cost c q p).startup s.numbers.startup;
  total_is = left.total_is ∙ s.numbers.total;
  rows_is = left.rows_are ∙ s.numbers.rows;
}

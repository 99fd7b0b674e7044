-- What an entry is by what another says of the same plan.
use Rattle.std.proofs.Common.{◌≡◌, Bool, sym, ap, subst, ◌∙◌}
use Rattle.std.specs.Prelude.{IfNone, IfSome, MatchOption, Option, Some, None}
use Rattle.pg_base.specs.Sets.{has}
use Rattle.pg_base.proofs.SetLaws.{same_set}
use Rattle.pg_base.specs.declared.rel_set.RelSet.{RelSet}
use Rattle.catalog.specs.Contents.{Contents}
use Rattle.sql_query.specs.Queries.{Query}
use Rattle.plan_tree.specs.Costs.{cost}
use Rattle.plan_tree.specs.Plans.{Plan, merge}
use Rattle.plan_tree.specs.Least.{IsAdmissible}
use Rattle.plan_tree.specs.Space.{IsBuilt, IsMergeList}
use Rattle.pathkeys.specs.Keys.{Keys}
use Rattle.plan_check.specs.Certificates.{Entry, sorted_if}
use Rattle.plan_check.specs.Tables.{HasItsPlan, IsStartup}
use Rattle.plan_check.specs.work.Beating.{IsRight}
use Rattle.plan_check.proofs.MergeLemmas.{built-merge}
use Rattle.entry_check.specs.work.Owning.{IsOwn}
use Rattle.entry_check.specs.declared.numbers.Own.{Own}

module _ (c : Contents) (q : Query) (e x : Entry) (p : Plan) where
  pub set-same : IsRight c q x p → HasItsPlan c q e p → e.set.0 ≡ x.set.0
  set-same r h = same_set e.set.0 x.set.0 (λ k. sym (h.plan.set_is k) ∙ r.has.plan.set_is k)

  pub param-same : IsRight c q x p → HasItsPlan c q e p → e.param.0 ≡ x.param.0
  param-same r h = same_set e.param.0 x.param.0 (λ k. sym (h.plan.param_is k) ∙ r.has.plan.param_is k)

  pub own-from : (own : Own) → IsRight c q x p → e.set.0 ≡ x.set.0 → e.param.0 ≡ x.param.0 → e.keys ≡ x.keys → own.startup ≡ x.startup → own.cost ≡ x.cost → own.rows ≡ x.rows → IsOwn c q e p own
  own-from own r set param keys s t u = record {
    has = record {
      plan = record {
        built = r.has.plan.built;
        plain = r.has.plan.plain;
        set_is = λ k. r.has.plan.set_is k ∙ ap (λ n. has n k) (sym set);
        param_is = λ k. r.has.plan.param_is k ∙ ap (λ n. has n k) (sym param);
      };
      admissible = r.has.admissible;
      keys = keys ∙ r.has.keys;
    };
    numbers = record {
      admissible = r.has.admissible;
      startup = subst (λ n. IsStartup q.window n (cost c q p).startup) (sym s) r.numbers.startup;
      total = t ∙ r.numbers.total;
      rows = u ∙ r.numbers.rows;
    };
  }

-- no plan is a merge by a list that is none
pub no-list : (c : Contents) (q : Query) (keys : Keys) (e a b : Entry) (sa sb : Bool) (o i : Plan) → IsRight c q a o → IsRight c q b i → ¬ IsMergeList c q (has a.set.0) (has b.set.0) keys → ¬ HasItsPlan c q e (merge keys (sorted_if sa keys o) (sorted_if sb keys i))
no-list c q keys e a b sa sb o i ra rb never h = never (built-merge c q keys a b sa sb o i ra rb h.plan.built).list

pub match-from : (result : Option Own) (N : Type 0) (S : Own → Type 0) → IfSome result S → IfNone result N → MatchOption result N S
match-from None N S some none = none
match-from (Some x) N S some none = some

pub if-some : (result : Option Own) (P Q : Own → Type 0) → IfSome result P → ((x : Own) → P x → Q x) → IfSome result Q
if-some None P Q h f = tt
if-some (Some x) P Q h f = f x h

pub if-none-then : (result : Option Own) (P Q : Type 0) → IfNone result P → (P → Q) → IfNone result Q
if-none-then None P Q h f = f h
if-none-then (Some x) P Q h f = tt

pub list-at : (c : Contents) (q : Query) (a b : RelSet) (list items : Keys) → list ≡ items → IsMergeList c q (has a.0) (has b.0) list → IsMergeList c q (has a.0) (has b.0) items
list-at c q a b list items e h = subst (IsMergeList c q (has a.0) (has b.0)) e h

-- what is said of a merge by a list as it was read, of the list
module _ (c : Contents) (q : Query) (a b : Entry) (sa sb : Bool) where
  abbrev merged : Keys → Plan → Plan → Plan
  merged keys o i = merge keys (sorted_if sa keys o) (sorted_if sb keys i)

  pub merge-some : (e : Entry) (list items : Keys) → items ≡ list → ((o i : Plan) → IsRight c q a o → IsRight c q b i → IsRight c q e (merged items o i)) → (o i : Plan) → IsRight c q a o → IsRight c q b i → IsRight c q e (merged list o i)
  merge-some e list items same h o i ra rb = subst (λ (keys : Keys). IsRight c q e (merged keys o i)) same (h o i ra rb)

  pub merge-none : (list items : Keys) → items ≡ list → ((o i : Plan) → IsRight c q a o → IsRight c q b i → IsBuilt c q (merged items o i) → ¬ IsAdmissible c q (merged items o i)) →
      (o i : Plan) → IsRight c q a o → IsRight c q b i → IsBuilt c q (merged list o i) → ¬ IsAdmissible c q (merged list o i)
  merge-none list items same h o i ra rb = subst (λ (keys : Keys). IsBuilt c q (merged keys o i) → ¬ IsAdmissible c q (merged keys o i)) same (h o i ra rb)

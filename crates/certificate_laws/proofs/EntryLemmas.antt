-- A table has a text.
use Rattle.std.proofs.Common.{◌≡◌, ◌<◌, ◌≤◌, ◌^◌, inl, inr, ℕ, true, [], length, get_or, refl, sym, ◌∙◌, ap, subst, arith, true≢false}
use Rattle.std.specs.Prelude.{All, Option, None, Some, slice_get}
use Rattle.std.proofs.lemmas.Bool.{cases_lt, false≢true}
use Rattle.std.proofs.lemmas.Option.{slice_get-get_or}
use Rattle.pg_base.specs.Sets.{has}
use Rattle.pg_base.specs.declared.rel_set.RelSet.{RelSet}
use Rattle.catalog.specs.Contents.{Contents, IsLawful}
use Rattle.sql_query.specs.Queries.{Query, width}
use Rattle.sql_query.specs.WellBound.{IsWellBound}
use Rattle.sql_query.specs.declared.window.Window.{Window}
use Rattle.pathkeys.specs.Keys.{order_keys}
use Rattle.plan_tree.specs.Costs.{cost}
use Rattle.plan_tree.specs.Keys.{keys_of}
use Rattle.plan_tree.specs.Plans.{Plan, seq, index, index_only, bitmap, sort, nest, merge, param_of, set_of}
use Rattle.plan_tree.specs.Space.{IsBuilt}
use Rattle.plan_tree.proofs.BoundLemmas.{lawful-rows, startup-most}
use Rattle.plan_tree.proofs.RowsLemmas.{plan-estimate}
use Rattle.plan_tree.proofs.PathLemmas.{built-below}
use Rattle.planner.specs.scan_paths_SpaceLemmas.{given-param}
use Rattle.plan_tree.proofs.GivenLemmas.{read-below}
use Rattle.plan_tree.proofs.SetLemmas.{reads-some}
use Rattle.planner.specs.join_search_SetLemmas.{set-below}
use Rattle.planner.specs.plan_laws_WellBoundLemmas.{bound-over}
use Rattle.explain_laws.proofs.ParamLemmas.{IsOfQuery, bitmap-param, index-param}
use Rattle.certificate_text.specs.plan_check_Certificates.{Certificate, Entry, plans_of}
use Rattle.certificate_text.specs.plan_check_Limit.{MOST_ENTRIES}
use Rattle.certificate_text.specs.plan_check_Tables.{IsEntryAt, IsStartup, IsPlanTable}
use Rattle.certificate_text.specs.plan_check_UnfoldLemmas.{goes-on}
use Rattle.certificate_text.specs.HasText.{HasEntryLine, HasKeysText, HasStartup, HasText, IsSetOf}
use Rattle.certificate_laws.specs.work.Arms.{HasArmsInOrs}
use Rattle.certificate_laws.proofs.KeysLemmas.{keys-wider, plan-text}
use Rattle.certificate_laws.proofs.NodeLemmas.{made-of, node-text, side-few}

-- a set that has no relation past the query's has those of the query alone
pub inside : (q : Query) (p : RelSet) → IsOfQuery q p → (k : ℕ) → has p.0 k ≡ true → k < width q
inside q p of k is = elim (cases_lt k (width q)) [ inl lt ↦ lt | inr le ↦ absurd (true≢false (sym is ∙ of k le)) ]

module _ (c : Contents) (q : Query) (bound : IsWellBound c q) where
  -- the relations of a plan's parameterisation are of the query
  param-inside : (t : Plan) → IsBuilt c q t → (k : ℕ) → param_of t k ≡ true → k < width q
  param-inside (seq r) built k is = absurd (false≢true is)
  param-inside (index r i backward p) built k is = inside q p (index-param c q bound r i backward p built) k (sym (given-param r p k) ∙ is)
  param-inside (index_only r i backward p) built k is = inside q p (index-param c q bound r i backward p built.scan) k (sym (given-param r p k) ∙ is)
  param-inside (bitmap r p bits) built k is = inside q p (bitmap-param c q bound r p bits built) k (sym (given-param r p k) ∙ is)
  param-inside (sort keys input) built k is = param-inside input built.0 k is
  param-inside (nest outer inner) built k is = absurd (false≢true is)
  param-inside (merge keys outer inner) built k is = absurd (false≢true is)

  word : (s : RelSet) → IsSetOf q (has s.0) → s.0 < 2 ^ 16
  word s of =
      let few = (bound-over c q bound).few in
      set-below s.0 16 (λ k is. let lt = of k is in omega (arith, lt, few))

  module _ (lawful : IsLawful c) (arms : HasArmsInOrs q) (t : Certificate) (table : IsPlanTable c q t) (few : length t.entries ≤ MOST_ENTRIES) where
    line-at : (n : ℕ) (e : Entry) → slice_get t.entries n ≡ Some e → (q.window ≡ None → e.startup ≡ 0) → HasEntryLine c q e
    line-at n e stands none =
        let at = table.entries n e stands in
        let p = at.plan in
        let of = at.has.plan in
        let built = of.built in
        let own = made-of q t n e p stands at.unfolds in
        let reads = reads-some p in
        let set : IsSetOf q (has e.set.0) = λ k is. read-below (width q) p k (built-below c q p built) (of.set_is k ∙ is) in
        let param : IsSetOf q (has e.param.0) = λ k is. param-inside p built k (of.param_is k ∙ is) in
        let total = at.numbers.total in
        let rows = at.numbers.rows in
        let most = (plan-estimate c q p).most in
        let admissible : (cost c q p).total < 10 ^ 18 = at.has.admissible in
        let within : (k : ℕ) → set_of p k ≡ true → has e.set.0 k ≡ true = λ k is. sym (of.set_is k) ∙ is in
        record {
          some = (reads.0, within reads.0 reads.1);
          set = set;
          param = param;
          wide = (word e.set set, word e.param param);
          node = node-text c q bound arms (has e.set.0) (length t.entries) few (width q) own.before e.set e.param e.node p own.few own.is built within;
          startup = startup at;
          cost = omega (arith, total, admissible);
          rows = omega (arith, rows, most);
          keys = subst (HasKeysText q (has e.set.0)) (sym at.has.keys) (keys-wider q (set_of p) (has e.set.0) within (keys_of c q p) (plan-text c q p built of.plain));
        }
      where
        startup : (at : IsEntryAt c q t n e) → HasStartup q.window e.startup
        startup at = by q.window refl at.numbers.startup
          where
            by : (w : Option Window) → q.window ≡ w → IsStartup w e.startup (cost c q at.plan).startup → HasStartup w e.startup
            by None g h = none g
            by (Some x) g h = let most = startup-most c q (lawful-rows c q lawful) at.plan in let low : (cost c q at.plan).total < 10 ^ 18 = at.has.admissible in omega (arith, h, most, low)

    long : length (plans_of q t) ≡ length t.entries
    long = let r = goes-on (width q) [] t.entries in ap length r.is ∙ r.long

    pub has-text : (q.window ≡ None → All (λ (e : Entry). e.startup ≡ 0) t.entries) → HasText c q t
    has-text none = record {
      few = few;
      lines = λ n d lt. line-at n (get_or t.entries n d) (slice_get-get_or t.entries n d lt) (λ g. none g n d lt);
      best = let low = side-few (plans_of q t) (order_keys q.classes q.order) t.best table.best.plan table.best.is in omega (arith, low, long, few);
    }

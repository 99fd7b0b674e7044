-- An entry that says what a candidate is tells it, and has a line.
use Rattle.std.proofs.Common.{◌≡◌, ◌<◌, ◌≤◌, ◌-◌, ◌^◌, ◌⊎◌, inl, inr, ℕ, suc, true, false, List, [], ◌∷◌, ◌++◌, length, refl, sym, ap, subst, ◌∙◌, arith}
use Rattle.std.specs.Prelude.{Option, None, Some, codes, drop, option_and_then, slice_get, take}
use Rattle.std.specs.Fmt.{decimal, digits}
use Rattle.std.proofs.lemmas.Bool.{false≢true}
use Rattle.std.proofs.lemmas.List.{length-drop}
use Rattle.bitmap_scan.proofs.KeptLemmas.{all-taken}
use Rattle.pg_base.specs.Sets.{has}
use Rattle.pg_base.specs.declared.rel_set.RelSet.{RelSet}
use Rattle.catalog.specs.Contents.{Contents, IsLawful}
use Rattle.sql_query.specs.Queries.{Query, width}
use Rattle.sql_query.specs.WellBound.{IsWellBound}
use Rattle.sql_query.specs.declared.window.Window.{Window}
use Rattle.pathkeys.specs.Keys.{Keys}
use Rattle.plan_tree.specs.Costs.{cost}
use Rattle.plan_tree.specs.Keys.{keys_of}
use Rattle.plan_tree.specs.Paths.{startup_kept}
use Rattle.plan_tree.specs.Plans.{Plan, seq, index, index_only, bitmap, sort, nest, merge, is_sort, param_of, set_of}
use Rattle.plan_tree.specs.Space.{IsBuilt}
use Rattle.plan_tree.proofs.BoundLemmas.{lawful-rows, startup-most}
use Rattle.plan_tree.proofs.RowsLemmas.{plan-estimate}
use Rattle.plan_tree.proofs.PathLemmas.{built-below}
use Rattle.scan_paths.proofs.SpaceLemmas.{given-param}
use Rattle.plan_laws.specs.Closed.{AreKeptSides, is_scan}
use Rattle.plan_tree.proofs.GivenLemmas.{read-below}
use Rattle.plan_tree.proofs.SetLemmas.{reads-some}
use Rattle.certificate_check.specs.join_search_SetLemmas.{set-below}
use Rattle.certificate_check.specs.plan_laws_WellBoundLemmas.{bound-over}
use Rattle.certificate_check.specs.explain_laws_ParamLemmas.{bitmap-param, index-param}
use Rattle.plan_check.specs.Certificates.{Certificate, Entry, Node, plan_of, plans_of, unfold_at, unfolded}
use Rattle.plan_check.specs.Limit.{MOST_ENTRIES}
use Rattle.plan_check.specs.Tables.{IsEntryPlan}
use Rattle.plan_check.proofs.UnfoldLemmas.{at-split}
use Rattle.certificate_check.specs.certificate_text_HasText.{HasEntryLine, HasKeysText, HasStartup, IsSetOf}
use Rattle.certificate_check.specs.entry_check_PlaceLemmas.{long}
use Rattle.plan_check.specs.Verdicts.{IsUncovered}
use Rattle.plan_check.specs.declared.verdict.Plain.{Plain}
use Rattle.certificate_check.specs.certificate_laws_Arms.{HasArmsInOrs}
use Rattle.certificate_check.specs.certificate_laws_KeysLemmas.{keys-wider, plan-text}
use Rattle.certificate_check.specs.certificate_laws_NodeLemmas.{node-text}
use Rattle.check_reply.specs.Checked.{IsToldBy, with_entry}
use Rattle.check_reply.specs.work.Telling.{Tells, entry_with}
use Rattle.certificate_check.specs.entry_check_PartLemmas.{kept-start as started}
use Rattle.certificate_check.specs.certificate_laws_EntryLemmas.{inside}

-- the number of an entry's line, taken off
pub number-off : (text : List ℕ) → drop 2 (decimal 1 ++ (codes " " ++ text)) ≡ text
unfolding digits
number-off text = refl

-- what stands behind some bytes, up to the end
pub rest-whole : (n : ℕ) (xs : List ℕ) → take (length xs - n) (drop n xs) ≡ drop n xs
rest-whole n xs = let long = length-drop n xs in all-taken (length xs - n) (drop n xs) (omega (arith, long))

-- entries unfolded in two parts
unfolded-more : (n : ℕ) (before : List (Option Plan)) (es fs : List Entry) → unfolded n before (es ++ fs) ≡ unfolded n (unfolded n before es) fs
unfolded-more n before [] fs = refl
unfolded-more n before (e ∷ es) fs = unfolded-more n (before ++ plan_of n before e ∷ []) es fs

-- the plan of an entry behind the others
last-at : (q : Query) (t : Certificate) (e : Entry) (p : Plan) → plan_of (width q) (plans_of q t) e ≡ Some p → unfold_at q (with_entry t e) (suc (length t.entries)) ≡ Some p
last-at q t e p h =
    let ps = plans_of q t in
    let x = plan_of (width q) ps e in
    let whole : plans_of q (with_entry t e) ≡ ps ++ x ∷ [] = unfolded-more (width q) [] t.entries (e ∷ []) in
    ap (λ (ys : List (Option Plan)). option_and_then (λ (o : Option Plan). o) (slice_get ys (length t.entries))) whole
    ∙ ap (λ (n : ℕ). option_and_then (λ (o : Option Plan). o) (slice_get (ps ++ x ∷ []) n)) (sym (long q t))
    ∙ ap (option_and_then (λ (o : Option Plan). o)) (at-split ps x [])
    ∙ h

has-startup : (w : Option Window) (a b n : ℕ) → a ≡ startup_kept w b → b ≤ n → n < 10 ^ 18 → HasStartup w a
has-startup None a b n e most low = e
has-startup (Some w) a b n e most low = omega (arith, e, most, low)

-- candidates are no sorts
pub no-sort : (c : Contents) (q : Query) (K : Plan → Type 0) (p : Plan) → (is_scan p ≡ true) ⊎ AreKeptSides c q K p → is_sort p ≡ false
no-sort c q K (seq r) h = refl
no-sort c q K (index r i backward p) h = refl
no-sort c q K (index_only r i backward p) h = refl
no-sort c q K (bitmap r p bits) h = refl
no-sort c q K (sort keys input) (inl e) = absurd (false≢true e)
no-sort c q K (sort keys input) (inr h) = absurd h
no-sort c q K (nest outer inner) h = refl
no-sort c q K (merge keys outer inner) h = refl

module _ (c : Contents) (q : Query) (t : Certificate) (node : Plain) (startup total rows : ℕ) (u : IsUncovered c q t node startup total rows) where
  module _ (set param : RelSet) (n : Node) (keys : Keys) (h : Tells c q t set param n keys u.plan) where
    pub told : IsToldBy c q t node startup total rows (entry_with set param n keys startup total rows)
    told = record {
      uncovered = u;
      stands = record {
        plan = u.plan;
        unfolds = last-at q t (entry_with set param n keys startup total rows) u.plan h.unfolds;
        has = record {
          plan = record { built = u.candidate.built; plain = no-sort c q (IsEntryPlan q t) u.plan u.candidate.made; set_is = h.set_is; param_is = h.param_is };
          admissible = u.candidate.admissible;
          keys = h.keys_are;
        };
        numbers = record { startup = started q.window startup (cost c q u.plan).startup u.startup_is; total = u.total_is; rows = u.rows_is };
      };
      same = refl;
    }

    module _ (bound : IsWellBound c q) (lawful : IsLawful c) (arms : HasArmsInOrs q) (few : length t.entries ≤ MOST_ENTRIES) where
      -- the relations of a candidate's parameterisation are of the query
      param-inside : (p : Plan) → IsBuilt c q p → (k : ℕ) → param_of p k ≡ true → k < width q
      param-inside (seq r) built k is = absurd (false≢true is)
      param-inside (index r i backward p) built k is = inside q p (index-param c q bound r i backward p built) k (sym (given-param r p k) ∙ is)
      param-inside (index_only r i backward p) built k is = inside q p (index-param c q bound r i backward p built.scan) k (sym (given-param r p k) ∙ is)
      param-inside (bitmap r p bits) built k is = inside q p (bitmap-param c q bound r p bits built) k (sym (given-param r p k) ∙ is)
      param-inside (sort ks input) built k is = param-inside input built.0 k is
      param-inside (nest outer inner) built k is = absurd (false≢true is)
      param-inside (merge ks outer inner) built k is = absurd (false≢true is)

      word : (s : RelSet) → IsSetOf q (has s.0) → s.0 < 2 ^ 16
      word s of =
          let most = (bound-over c q bound).few in
          set-below s.0 16 (λ k is. let lt = of k is in omega (arith, lt, most))

      pub told-line : HasEntryLine c q (entry_with set param n keys startup total rows)
      told-line =
          let p = u.plan in
          let built = u.candidate.built in
          let plain = no-sort c q (IsEntryPlan q t) p u.candidate.made in
          let reads = reads-some p in
          let of : IsSetOf q (has set.0) = λ k is. read-below (width q) p k (built-below c q p built) (h.set_is k ∙ is) in
          let given : IsSetOf q (has param.0) = λ k is. param-inside p built k (h.param_is k ∙ is) in
          let within : (k : ℕ) → set_of p k ≡ true → has set.0 k ≡ true = λ k is. sym (h.set_is k) ∙ is in
          let most = (plan-estimate c q p).most in
          let low : (cost c q p).total < 10 ^ 18 = u.candidate.admissible in
          let total_is = u.total_is in
          let rows_is = u.rows_is in
          let all = long q t in
          record {
            some = (reads.0, within reads.0 reads.1);
            set = of;
            param = given;
            wide = (word set of, word param given);
            node = node-text c q bound arms (has set.0) (length t.entries) few (width q) (plans_of q t) set param n p (omega (arith, all)) h.unfolds built within;
            startup = has-startup q.window startup (cost c q p).startup (cost c q p).total u.startup_is (startup-most c q (lawful-rows c q lawful) p) low;
            cost = omega (arith, total_is, low);
            rows = omega (arith, rows_is, most);
            keys = subst (HasKeysText q (has set.0)) (sym h.keys_are) (keys-wider q (set_of p) (has set.0) within (keys_of c q p) (plan-text c q p built plain));
          }

-- The least entry of a set that is given no rows, and how it stands for the others where they are sorted.
use Rattle.std.proofs.Common.{◌≡◌, ◌<◌, ◌≤◌, ◌+◌, ℕ, Bool, true, false, List, length, min, suc, refl, sym, ap, subst, subst₂, ◌∙◌, arith, le_refl, ◌⊎◌, inl, inr}
use Rattle.std.specs.Prelude.{Option, Some, None, slice_get}
use Rattle.std.proofs.lemmas.Bool.{cases_lt}
use Rattle.std.proofs.lemmas.Option.{same_Some}
use Rattle.pg_base.specs.Sets.{has}
use Rattle.catalog.specs.Contents.{Contents}
use Rattle.pathkeys.specs.Keys.{Keys}
use Rattle.pathkeys.proofs.CoveringLemmas.{covers-refl}
use Rattle.sql_query.specs.Queries.{Query}
use Rattle.plan_tree.specs.Costs.{cost}
use Rattle.plan_tree.specs.work.Least.{StandsFor}
use Rattle.plan_tree.specs.Plans.{Plan, merge, sort}
use Rattle.plan_tree.specs.Space.{IsBuilt, IsEmpty, IsLike}
use Rattle.plan_tree.proofs.DominationLemmas.{dominates-refl, dominates-trans, merge-dominates}
use Rattle.plan_tree.proofs.ReplacingLemmas.{sort-totals}
use Rattle.plan_tree.proofs.WindowLemmas.{startup-from}
use Rattle.plan_check.specs.Certificates.{Certificate, Entry, sorted_if, unfold_at}
use Rattle.plan_check.specs.work.Beating.{IsRight}
use Rattle.plan_check.specs.work.Joining.{MayMerge}
use Rattle.plan_check.specs.work.Placing.{ArePlaced, IsOf, first_of, order_of, past_of, place_at}
use Rattle.plan_check.specs.Reasons.{AllRight}
use Rattle.plan_check.specs.declared.places.SetPlaces.{SetPlaces}
use Rattle.plan_check.proofs.MergeLemmas.{built-merge}
use Rattle.plan_check.proofs.PlacedLemmas.{each-of}
use Rattle.pg_base.proofs.SetLaws.{none-zero}
use Rattle.join_cover.specs.work.Leasts.{IsLeastFrom, IsLeastWhole, IsWhole}
use Rattle.join_cover.specs.work.Serving.{AreMergesBy, IsMergeServed, IsRowServed, IsServed}
use Rattle.join_cover.proofs.CoverLemmas.{right-at}
use Rattle.pg_base.proofs.NumberLemmas.{each-below as below-next}

whole-of : (es : List Entry) (s k : ℕ) → IsWhole es s k → IsOf es s k
whole-of es s k y = record { entry = y.entry; stands = y.stands; same = y.same }

module _ (es : List Entry) (s : ℕ) (p : SetPlaces) (from i : ℕ) where
  -- one rank more at which there is none
  pub least-skip : (found : Option (ℕ × ℕ)) → ¬ IsWhole es s (place_at p i) → IsLeastFrom es s p from i found → IsLeastFrom es s p from (i + 1) found
  least-skip None never h = λ r le lt y. below-next (λ m. from ≤ m → IsWhole es s (place_at p m) → ⊥) i (λ m less le' y'. h m le' less y') (λ le' y'. never y') r lt le y
  least-skip (Some x) never h = record {
    is = h.is;
    cost_is = h.cost_is;
    least = λ r le lt y. below-next (λ m. from ≤ m → (z : IsWhole es s (place_at p m)) → x.1 ≤ z.entry.cost) i (λ m less le' y'. h.least m le' less y') (λ le' y'. absurd (never y')) r lt le y;
  }

  module _ (n : ℕ) (here : place_at p i ≡ n) (e : Entry) (at : slice_get es n ≡ Some e) where
    read-there : (y : IsWhole es s (place_at p i)) → e ≡ y.entry
    read-there y = same_Some e y.entry (sym at ∙ (sym (ap (slice_get es) here) ∙ y.stands))

    own-cost : (y : IsWhole es s (place_at p i)) → e.cost ≤ y.entry.cost
    own-cost y = subst (λ (x : Entry). e.cost ≤ x.cost) (read-there y) (le_refl e.cost)

    -- the entry there is of another set, or is given rows
    pub skip-other : (found : Option (ℕ × ℕ)) → ((e.set.0 ≡ s) → (e.param.0 ≡ 0) → ⊥) → IsLeastFrom es s p from i found → IsLeastFrom es s p from (i + 1) found
    skip-other found other = least-skip found (λ y. let one = sym (read-there y) in other (subst (λ (x : Entry). x.set.0 ≡ s) one y.same) (subst (λ (x : Entry). x.param.0 ≡ 0) one y.whole))

    module _ (same : e.set.0 ≡ s) (whole : e.param.0 ≡ 0) where
      -- the first one
      pub least-first : IsLeastFrom es s p from i None → IsLeastFrom es s p from (i + 1) (Some (n, e.cost))
      least-first h = record {
        is = record { entry = e; stands = at; same = same; whole = whole };
        cost_is = refl;
        least = λ r le lt y. below-next (λ m. from ≤ m → (z : IsWhole es s (place_at p m)) → e.cost ≤ z.entry.cost) i (λ m less le' y'. absurd (h m le' less y')) (λ le' y'. own-cost y') r lt le y;
      }

      -- the lesser of two
      pub least-more : (x r : ℕ × ℕ) → (x.1 ≤ e.cost → r ≡ x) → (e.cost < x.1 → r ≡ (n, e.cost)) → IsLeastFrom es s p from i (Some x) → IsLeastFrom es s p from (i + 1) (Some r)
      least-more x r kept new h = by (cases_lt e.cost x.1)
        where
          old : x.1 ≤ e.cost → IsLeastFrom es s p from (i + 1) (Some x)
          old le = record {
            is = h.is;
            cost_is = h.cost_is;
            least = λ l le' lt y. below-next (λ m. from ≤ m → (z : IsWhole es s (place_at p m)) → x.1 ≤ z.entry.cost) i (λ m less le' y'. h.least m le' less y') (λ le' y'. let own = own-cost y' in omega (arith, le, own)) l lt le' y;
          }

          this : e.cost < x.1 → IsLeastFrom es s p from (i + 1) (Some (n, e.cost))
          this lt' = record {
            is = record { entry = e; stands = at; same = same; whole = whole };
            cost_is = refl;
            least = λ l le' lt y. below-next (λ m. from ≤ m → (z : IsWhole es s (place_at p m)) → e.cost ≤ z.entry.cost) i (λ m less le' y'. let own = h.least m le' less y' in omega (arith, lt', own)) (λ le' y'. own-cost y') l lt le' y;
          }

          by : (e.cost < x.1) ⊎ (x.1 ≤ e.cost) → IsLeastFrom es s p from (i + 1) (Some r)
          by (inl lt) = subst (λ (z : ℕ × ℕ). IsLeastFrom es s p from (i + 1) (Some z)) (sym (new lt)) (this lt)
          by (inr le) = subst (λ (z : ℕ × ℕ). IsLeastFrom es s p from (i + 1) (Some z)) (sym (kept le)) (old le)

  -- as far as a rank that was passed
  pub least-until : (past : ℕ) (found : Option (ℕ × ℕ)) → past ≤ i → IsLeastFrom es s p from i found → IsLeastFrom es s p from past found
  least-until past None le h = λ l le' lt y. h l le' (omega (arith, lt, le)) y
  least-until past (Some x) le h = record { is = h.is; cost_is = h.cost_is; least = λ l le' lt y. h.least l le' (omega (arith, lt, le)) y }

module _ (es : List Entry) (s : ℕ) (p : SetPlaces) where
  -- before the first rank
  pub least-none : (from : ℕ) → IsLeastFrom es s p from from None
  least-none from l le lt y = absurd (omega (arith, le, lt))

  -- at the ranks of the set are all entries of it
  module _ (placed : ArePlaced es p) (from past : ℕ) (f : from ≡ first_of p s) (g : past ≡ min (past_of p s) (length (order_of p))) where
    pub least-some : (x : ℕ × ℕ) → IsLeastFrom es s p from past (Some x) → IsLeastWhole es s x.0
    least-some x h = record {
      is = h.is;
      least = λ l y. subst (λ n. n ≤ y.entry.cost) h.cost_is (each-of es p s from past (λ m. (z : IsWhole es s m) → x.1 ≤ z.entry.cost) placed f g (λ m le lt z. h.least m le lt z) l (whole-of es s l y) y);
    }

    pub least-never : IsLeastFrom es s p from past None → (k : ℕ) → ¬ IsWhole es s k
    least-never h k y = each-of es p s from past (λ m. IsWhole es s m → ⊥) placed f g (λ m le lt z. h m le lt z) k (whole-of es s k y) y

module _ (c : Contents) (q : Query) where
  stands-self : (p : Plan) → StandsFor c q p p
  stands-self p = let d = dominates-refl c q p in record { like = d.like; total = d.total; startup = d.startup; covered = d.keys; has = λ ks h. h }

  -- a sort goes by what its input costs in all
  sorted-stands : (keys : Keys) (a b : Entry) (p o : Plan) → IsRight c q a p → IsRight c q b o → a.set.0 ≡ b.set.0 → a.param.0 ≡ b.param.0 → a.cost ≤ b.cost → StandsFor c q (sort keys p) (sort keys o)
  sorted-stands keys a b p o ra rb s m le =
      let like : IsLike p o = record {
        set = λ k. ra.has.plan.set_is k ∙ (ap (λ (n : ℕ). has n k) s ∙ sym (rb.has.plan.set_is k));
        param = λ k. ra.has.plan.param_is k ∙ (ap (λ (n : ℕ). has n k) m ∙ sym (rb.has.plan.param_is k));
      } in
      let total : (cost c q p).total ≤ (cost c q o).total = subst₂ (λ (x y : ℕ). x ≤ y) ra.numbers.total rb.numbers.total le in
      let most = sort-totals c q keys p o like total in
      record {
        like = record { set = like.set; param = like.param };
        total = most.total;
        startup = startup-from q.window (cost c q (sort keys p)).startup (cost c q (sort keys o)).startup most.startup;
        covered = covers-refl keys;
        has = λ ks h. h;
      }

  module _ (t : Certificate) where
    -- where sides stand for others, what dominates their merge dominates that of the others
    replaced : (keys : Keys) (o p i j : Plan) → IsBuilt c q p → IsBuilt c q j → StandsFor c q p o → StandsFor c q j i → IsServed c q t (merge keys p j) → IsServed c q t (merge keys o i)
    replaced keys o p i j bp bj so si served built admissible =
        let m = merge-dominates c q keys o p i j bp bj so si built in
        let le : (cost c q (merge keys p j)).total ≤ (cost c q (merge keys o i)).total = m.1.total in
        let d = served m.0 (omega (arith, le, admissible)) in
        record { by' = d.by'; is_kept = d.is_kept; dominates = dominates-trans c q d.by' (merge keys p j) (merge keys o i) d.dominates m.1 }

    module _ (right : AllRight c q t) (keys : Keys) (x y : ℕ) where
      merge-of : (k l : ℕ) (a : IsOf t.entries x k) (b : IsOf t.entries y l) (sa sb : Bool) (o i : Plan) → unfold_at q t (suc k) ≡ Some o → unfold_at q t (suc l) ≡ Some i → IsBuilt c q (merge keys (sorted_if sa keys o) (sorted_if sb keys i)) → MayMerge c q keys a.entry b.entry sa sb
      merge-of k l a b sa sb o i eo ei built = built-merge c q keys a.entry b.entry sa sb o i (right-at c q t right k a.entry o a.stands eo) (right-at c q t right l b.entry i b.stands ei) built

      -- a set none of whose entries is given no rows has no merges
      pub no-outer : ((k : ℕ) → ¬ IsWhole t.entries x k) → AreMergesBy c q t keys x y
      no-outer none k l a b sa sb o i eo ei built =
          absurd (none k (record { entry = a.entry; stands = a.stands; same = a.same; whole = none-zero a.entry.param.0 (merge-of k l a b sa sb o i eo ei built).outer_whole }))

      pub no-inner : ((k : ℕ) → ¬ IsWhole t.entries y k) → AreMergesBy c q t keys x y
      no-inner none k l a b sa sb o i eo ei built =
          absurd (none l (record { entry = b.entry; stands = b.stands; same = b.same; whole = none-zero b.entry.param.0 (merge-of k l a b sa sb o i eo ei built).inner_whole }))

      -- the least entry sorted stands for each other one sorted
      least-stands : (s m k : ℕ) (least : IsLeastWhole t.entries s m) (a : IsOf t.entries s k) (p : Plan) → unfold_at q t (suc k) ≡ Some p → IsEmpty (has a.entry.param.0) →
          StandsFor c q (sort keys (right m least.is.entry least.is.stands).plan) (sort keys p)
      least-stands s m k least a p e none =
          let r = right m least.is.entry least.is.stands in
          let whole : a.entry.param.0 ≡ 0 = none-zero a.entry.param.0 none in
          let le = least.least k (record { entry = a.entry; stands = a.stands; same = a.same; whole = whole }) in
          sorted-stands keys least.is.entry a.entry r.plan p (record { has = r.has; numbers = r.numbers }) (right-at c q t right k a.entry p a.stands e) (least.is.same ∙ sym a.same) (least.is.whole ∙ sym whole) le

      module _ (m n : ℕ) (lx : IsLeastWhole t.entries x m) (ly : IsLeastWhole t.entries y n) (row : IsRowServed c q t keys x y m true n) (rows : (k : ℕ) → IsOf t.entries x k → IsRowServed c q t keys x y k false n) where
        -- where the merges with the least entry are served, all merges are
        from-least : AreMergesBy c q t keys x y
        from-least k l a b false false o i eo ei built = (rows k a).plain l a b o i eo ei built
        from-least k l a b false true o i eo ei built =
            let r = right n ly.is.entry ly.is.stands in
            let none = (merge-of k l a b false true o i eo ei built).inner_whole in
            replaced keys o o (sort keys i) (sort keys r.plan) built.0 (r.has.plan.built, r.has.plan.plain) (stands-self o) (least-stands y n l ly b i ei none)
            ((rows k a).sorted a (whole-of t.entries y n ly.is) o r.plan eo r.unfolds) built
        from-least k l a b true false o i eo ei built =
            let r = right m lx.is.entry lx.is.stands in
            let none = (merge-of k l a b true false o i eo ei built).outer_whole in
            replaced keys (sort keys o) (sort keys r.plan) i i (r.has.plan.built, r.has.plan.plain) built.1 (least-stands x m k lx a o eo none) (stands-self i)
            (row.plain l (whole-of t.entries x m lx.is) b r.plan i r.unfolds ei) built
        from-least k l a b true true o i eo ei built =
            let r = right m lx.is.entry lx.is.stands in
            let r' = right n ly.is.entry ly.is.stands in
            let may = merge-of k l a b true true o i eo ei built in
            replaced keys (sort keys o) (sort keys r.plan) (sort keys i) (sort keys r'.plan) (r.has.plan.built, r.has.plan.plain) (r'.has.plan.built, r'.has.plan.plain)
            (least-stands x m k lx a o eo may.outer_whole) (least-stands y n l ly b i ei may.inner_whole)
            (row.sorted (whole-of t.entries x m lx.is) (whole-of t.entries y n ly.is) r.plan r'.plan r.unfolds r'.unfolds) built

      module _ (p : SetPlaces) (placed : ArePlaced t.entries p) (a : ℕ × ℕ) where
        -- what a walk over the ranks of a set says
        pub row-served : (k m : ℕ) (sa : Bool) → a.0 ≡ first_of p y → a.1 ≡ min (past_of p y) (length (order_of p)) → (IsOf t.entries x k → IsOf t.entries y m → IsMergeServed c q t keys sa true k m) →
            ((l : ℕ) → a.0 ≤ l → l < a.1 → IsOf t.entries x k → IsOf t.entries y (place_at p l) → IsMergeServed c q t keys sa false k (place_at p l)) → IsRowServed c q t keys x y k sa m
        row-served k m sa f g sorted h = record {
          sorted = sorted;
          plain = λ l is is'. each-of t.entries p y a.0 a.1 (λ n. IsOf t.entries y n → IsMergeServed c q t keys sa false k n) placed f g (λ n le lt. h n le lt is) l is' is';
        }

        pub rows-served : (m n : ℕ) → IsLeastWhole t.entries x m → IsLeastWhole t.entries y n → a.0 ≡ first_of p x → a.1 ≡ min (past_of p x) (length (order_of p)) → IsRowServed c q t keys x y m true n →
            ((k : ℕ) → a.0 ≤ k → k < a.1 → IsRowServed c q t keys x y (place_at p k) false n) → AreMergesBy c q t keys x y
        rows-served m n lx ly f g row h = from-least m n lx ly row (λ k is. each-of t.entries p x a.0 a.1 (λ j. IsRowServed c q t keys x y j false n) placed f g h k is)

-- What a plan gives in the order of some items is in that of others whose keys are the first of theirs, and so are its groups.
use Rattle.std.proofs.Common.{◌≡◌, ℕ, zero, suc, ◌<◌, true, false, List, [], ◌∷◌, length, map, get_or, refl, sym, subst, ap, ap₂, ◌∙◌, arith}
use Rattle.std.specs.Prelude.{Option, Some, nat_eq, slice_get}
use Rattle.std.specs.Ordering.{is_gt, ordering_then}
use Rattle.std.proofs.lemmas.Bool.{and_parts, eqb-true, true≢false}
use Rattle.std.proofs.lemmas.List.{get_or-map, length-map}
use Rattle.pg_expr.specs.declared.operand.ColRef.{ColRef}
use Rattle.pg_value.specs.declared.value.Value.TheVariants.{Null}
use Rattle.pg_value.specs.Kinds.{directed_order}
use Rattle.pg_value.specs.Sorting.{IsInOrder, one_after_other}
use Rattle.pg_value.proofs.KindLemmas.{as-columns}
use Rattle.catalog.specs.Range.{type_in}
use Rattle.eq_classes.specs.declared.order.OrderItem.{OrderItem}
use Rattle.eq_classes.specs.Clauses.{Set}
use Rattle.eq_classes.specs.Listing.{class_at}
use Rattle.pathkeys.specs.Keys.{Keys, covers, order_keys}
use Rattle.pathkeys.specs.Sorted.{class_order}
use Rattle.plan_laws.proofs.FitsLemmas.{values_fit}
use Rattle.sql_query.specs.Meaning.{IsOrdered, item_order, item_order_in}
use Rattle.sql_query.specs.Queries.{Query, all_of_query, in_order_of}
use Rattle.sql_query.specs.Tuples.{Tuple, no_rows, value_at}
use Rattle.sql_query.specs.WellBound.{IsWellBound}
use Rattle.sql_query.specs.Worlds.{World, IsWorld}
use Rattle.plan_tree.specs.Plans.{Plan}
use Rattle.plan_tree.specs.Run.{run}
use Rattle.plan_tree.specs.Space.{IsFinished}
use Rattle.plan_laws.proofs.EachLemmas.{each_weaker}
use Rattle.plan_laws.proofs.GivingLemmas.{finished_means}
use Rattle.plan_laws.proofs.JoinLemmas.{each_meant}
use Rattle.plan_laws.proofs.IndexKeyLemmas.{after_same}
use Rattle.plan_laws.proofs.ItemLemmas.{items_follow}
use Rattle.plan_laws.proofs.KeyLemmas.{by_keys}
use Rattle.plan_laws.proofs.OrderedLemmas.{each_pair_up}
use Rattle.plan_laws.proofs.PrefixLemmas.{finished_up}
use Rattle.plan_laws.proofs.SortedLemmas.{up_by_keys}
use Rattle.plan_laws.proofs.TotalLemmas.{IsUp}
use Rattle.group_values.specs.declared.shape.Sorter.{Sorter}
use Rattle.group_values.specs.Groups.{lines}
use Rattle.group_values.specs.Shapes.{GroupShape}
use Rattle.group_values.specs.work.Grouping.{final_shape}
use Rattle.group_values.specs.work.Neighbours.{tuple_order}
use Rattle.group_values.proofs.OrderedLemmas.{no-sort}
use Rattle.group_runs.specs.Seen.{seen_of}
use Rattle.group_runs.specs.work.Sorters.{AreSortersOf, IsSorterOf}
use Rattle.group_runs.proofs.TieLemmas.{default-is, family, not-by-magnitude, of-family}

module _ (w : World) (q : Query) where
  first-keys-up : (set : Set) (ms ns : Keys) (x y : Tuple) → covers ms ns ≡ true → is_gt (by_keys w q set ms x y) ≡ false → is_gt (by_keys w q set ns x y) ≡ false
  first-keys-up set [] [] x y c h = refl
  first-keys-up set (m ∷ ms) [] x y c h = refl
  first-keys-up set [] (n ∷ ns) x y c h = absurd (true≢false (sym c))
  first-keys-up set (m ∷ ms) (n ∷ ns) x y c h =
      let parts : (nat_eq m n ≡ true) × (covers ms ns ≡ true) = and_parts (nat_eq m n) (covers ms ns) c in
      let here : is_gt (by_keys w q set (n ∷ ms) x y) ≡ false = subst (λ (k : ℕ). is_gt (by_keys w q set (k ∷ ms) x y) ≡ false) (eqb-true m n parts.0) h in
      after_same (class_order (class_at q.classes.classes n) set (value_at w q x) (value_at w q y)) (by_keys w q set ms x y) (by_keys w q set ns x y) here (λ tie rest. first-keys-up set ms ns x y parts.1 rest)

  covered-up : (set : Set) (ms ns : Keys) → covers ms ns ≡ true → (ts : List Tuple) → IsUp (by_keys w q set ms) ts → IsUp (by_keys w q set ns) ts
  covered-up set ms ns c [] h = tt
  covered-up set ms ns c (t ∷ ts) h = (
    each_weaker (λ u. is_gt (by_keys w q set ms t u) ≡ false) (λ u. is_gt (by_keys w q set ns t u) ≡ false) (λ u e. first-keys-up set ms ns t u c e) ts h.0,
    covered-up set ms ns c ts h.1,
  )

  module _ (p : Plan) (given asked : List OrderItem) (world : IsWorld w) (bound : IsWellBound w.contents (in_order_of q given)) (bound' : IsWellBound w.contents (in_order_of q asked))
      (finished : IsFinished w.contents (in_order_of q given) p) (covered : covers (order_keys q.classes given) (order_keys q.classes asked) ≡ true) where
    ordered-by : IsOrdered w (in_order_of q asked) (run w (in_order_of q given) p (no_rows q))
    ordered-by =
        let one = in_order_of q given in
        let other = in_order_of q asked in
        let ts = run w one p (no_rows q) in
        each_pair_up w other (items_follow w other world bound') ts
        (each_meant w one world bound (all_of_query one) ts (finished_means w one world bound p finished (no_rows q)))
        (covered-up (all_of_query q) (order_keys q.classes given) (order_keys q.classes asked) covered ts (finished_up w one p finished ts (up_by_keys w one world bound p finished.built (no_rows q))))

  -- items over the columns of tuples, and over the values seen of them
  module _ (world : IsWorld w) (keys : List ColRef) (args : List (Option ColRef)) where
    key-is : (xs : List ColRef) (n : ℕ) (x : ColRef) (t : Tuple) → slice_get xs n ≡ Some x → get_or (map (value_at w q t) xs) n Null ≡ value_at w q t x
    key-is [] n x t e = cc e
    key-is (y ∷ xs) zero x t e = ap (value_at w q t) (got y x e)
      where
        got : (a b : ColRef) → Some a ≡ Some b → a ≡ b
        got a b h = cc
    key-is (y ∷ xs) (suc n) x t e = key-is xs n x t e

    sorter-is : (i : OrderItem) (s : Sorter) → IsSorterOf keys i s → (t u : Tuple) → tuple_order s (seen_of w q keys args t) (seen_of w q keys args u) ≡ item_order w q i t u
    sorter-is i s is t u =
        let a = value_at w q t i.col in
        let b = value_at w q u i.col in
        let k = type_in w.contents q.range i.col in
        ap₂ (directed_order s.descending s.nulls_first) (key-is keys s.place i.col t is.column) (key-is keys s.place i.col u is.column)
        ∙ ap₂ (λ d n. directed_order d n a b) is.descending is.nulls_first
        ∙ as-columns (family k) i.descending i.nulls_first a b (not-by-magnitude k) (of-family k a (values_fit w q t world i.col)) (of-family k b (values_fit w q u world i.col))
        ∙ sym (ap (λ f. item_order_in w q i f t u) (default-is k))

    sorters-are : (is : List OrderItem) (ss : List Sorter) → AreSortersOf keys is ss → (t u : Tuple)
        → one_after_other (map tuple_order ss) (seen_of w q keys args t) (seen_of w q keys args u) ≡ one_after_other (map (item_order w q) is) t u
    sorters-are [] [] h t u = refl
    sorters-are [] (s ∷ ss) h t u = absurd h
    sorters-are (i ∷ is) [] h t u = absurd h
    sorters-are (i ∷ is) (s ∷ ss) h t u = ap₂ ordering_then (sorter-is i s h.0 t u) (sorters-are is ss h.1 t u)

    seen-in-order : (is : List OrderItem) (ss : List Sorter) → AreSortersOf keys is ss → (ts : List Tuple) → IsInOrder (one_after_other (map (item_order w q) is)) ts → IsInOrder (one_after_other (map tuple_order ss)) (map (seen_of w q keys args) ts)
    seen-in-order is ss h [] up i j d lt within = absurd (omega (arith, within))
    seen-in-order is ss h (t ∷ ts) up i j d lt within =
        let f = seen_of w q keys args in
        let low : j < length (t ∷ ts) = omega (arith, within, length-map (t ∷ ts) f) in
        ap is_gt
        (ap₂ (one_after_other (map tuple_order ss)) (get_or-map f (t ∷ ts) i t d (omega (arith, lt, low))) (get_or-map f (t ∷ ts) j t d low)
        ∙ sorters-are is ss h (get_or (t ∷ ts) i t) (get_or (t ∷ ts) j t))
        ∙ up i j t lt low

module _ (w : World) (q : Query) (p : Plan) (given asked : List OrderItem) (world : IsWorld w) (bound : IsWellBound w.contents (in_order_of q given)) (bound' : IsWellBound w.contents (in_order_of q asked))
    (finished : IsFinished w.contents (in_order_of q given) p) (covered : covers (order_keys q.classes given) (order_keys q.classes asked) ≡ true) where
  pub plan-needs-no-sort : (shape : GroupShape) (keys : List ColRef) (args : List (Option ColRef)) → AreSortersOf keys asked shape.order
      → lines (final_shape false shape) (map (seen_of w q keys args) (run w (in_order_of q given) p (no_rows q))) ≡ lines (final_shape true shape) (map (seen_of w q keys args) (run w (in_order_of q given) p (no_rows q)))
  plan-needs-no-sort shape keys args sorters =
      let ts = run w (in_order_of q given) p (no_rows q) in
      no-sort shape (map (seen_of w q keys args) ts) (seen-in-order w q world keys args asked shape.order sorters ts (ordered-by w q p given asked world bound bound' finished covered))

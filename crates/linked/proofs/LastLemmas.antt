-- What the lists are once the last slot, which stood alone, is taken off.
use Rattle.std.proofs.Common.{◌≡◌, ℕ, ◌+◌, ◌-◌, ◌<◌, Bool, true, false, ◌||◌, eqb, List, [], ◌∷◌, take, length, get_or, Option, None, Some, refl, sym, subst, ap, ◌∙◌, arith}
use Rattle.std.proofs.lemmas.Bool.{false≢true, eqb-true, eq-eqb}
use Rattle.std.proofs.lemmas.List.{get_or-take, length-take-le}
use Rattle.linked.specs.declared.nodes.Node.{Node}
use Rattle.linked.specs.work.Lists.{has, list_of}
use Rattle.linked.specs.work.Nodes.{lone, list_at, lists_of, Run, Stands, AreLinked}
use Rattle.linked.proofs.RunLemmas.{found, stands, shared, apart, run, length_lists, list_is, at_below, same_list_of}

-- one slot fewer
module _ (ns new : List Node) (linked : AreLinked ns) (n : ℕ) (many : length ns ≡ n + 1) (is : new ≡ take n ns) (alone : list_at ns n ≡ n ∷ []) where
  len_off : length new ≡ n
  len_off = ap (λ (l : List Node). length l) is ∙ length-take-le n ns (omega (arith, many))

  node_kept : (s : ℕ) → s < n → get_or new s lone ≡ get_or ns s lone
  node_kept s lt = ap (λ (l : List Node). get_or l s lone) is ∙ get_or-take n ns s lone lt

  run_off : (p : Option ℕ) (xs : List ℕ) → Run ns p xs → ((s : ℕ) → has s xs ≡ true → s < n) → Run new p xs
  run_off p [] r below = tt
  run_off p (x ∷ xs) r below =
      let lt : x < n = below x (ap (λ b. b || has x xs) (eq-eqb x x refl)) in (
        omega (arith, lt, len_off),
        ap (λ (m : Node). m.prev) (node_kept x lt) ∙ r.1,
        ap (λ (m : Node). m.next) (node_kept x lt) ∙ r.2,
        run_off (Some x) xs r.3 (λ s h. below s (wide (eqb s x) (has s xs) h)),
      )
    where
      wide : (a b : Bool) → b ≡ true → (a || b) ≡ true
      wide true b h = refl
      wide false b h = h

  -- the last slot stands in no list but its own
  others_below : (s t : ℕ) → s < n → has t (list_at ns s) ≡ true → t < n
  others_below s t lt h =
      let both = shared ns linked s t (omega (arith, lt, many)) h in
      by (eqb t n) refl both.0 both.1
    where
      only : has s (n ∷ []) ≡ true → s ≡ n
      only g = eqb-true s n (last (eqb s n) g)
        where
          last : (b : Bool) → (b || false) ≡ true → b ≡ true
          last true e = refl
          last false e = e

      by : (b : Bool) → eqb t n ≡ b → t < length ns → list_at ns t ≡ list_at ns s → t < n
      by true e l same =
          let here : list_at ns s ≡ n ∷ [] = sym same ∙ ap (list_at ns) (eqb-true t n e) ∙ alone in
          absurd (apart_from s n lt (only (ap (has s) (sym here) ∙ stands ns linked s (omega (arith, lt, many)))))
        where
          apart_from : (s n : ℕ) → s < n → s ≡ n → ⊥
          apart_from s n lt e = omega (arith, lt, e)
      by false e l same = below_last t n (length ns) l many (λ is. absurd (false≢true (sym e ∙ eq-eqb t n is)))
        where
          below_last : (t n m : ℕ) → t < m → m ≡ n + 1 → (t ≡ n → ⊥) → t < n
          below_last t n m l is other = grind (arith)

  abbrev stands_on : (s : ℕ) → s < n → Stands new s
  stands_on s lt =
      let below : s < length ns = omega (arith, lt, many) in record {
        list = list_at ns s;
        run = run_off None (list_at ns s) (run ns linked s below) (λ t h. others_below s t lt h);
        apart = apart ns linked s below;
        has_slot = stands ns linked s below;
      }

  pub linked_off : AreLinked new
  linked_off = record { each = λ s lt. stands_on s (omega (arith, lt, len_off)) }

  pub lists_off : lists_of new ≡ take n (lists_of ns)
  lists_off = same_list_of new (take n (lists_of ns)) (length-take-le n (lists_of ns) (omega (arith, many, length_lists ns)) ∙ sym len_off) (λ s d lt.
      let below : s < n = omega (arith, lt, len_off) in
      let there = stands_on s below in
      found new (list_at ns s) s there.run there.apart there.has_slot
      ∙ sym (at_below ns (length ns) s d (omega (arith, below, many)))
      ∙ sym (get_or-take n (lists_of ns) s d below))

-- one slot fewer, over the lists that the slots stand for
module _ (ns new : List Node) (linked : AreLinked ns) (lists : List (List ℕ)) (view : lists_of ns ≡ lists) (some : 0 < length lists) (alone : list_of lists (length lists - 1) ≡ (length lists - 1) ∷ []) (is : new ≡ take (length ns - 1) ns) where
  as_many : length lists ≡ length ns
  as_many = ap (λ (l : List (List ℕ)). length l) (sym view) ∙ length_lists ns

  one_more : length ns ≡ (length ns - 1) + 1
  one_more = omega (arith, some, as_many)

  last_alone : list_at ns (length ns - 1) ≡ (length ns - 1) ∷ []
  last_alone =
      let at : length lists - 1 ≡ length ns - 1 = omega (arith, as_many) in
      sym (list_is ns (length ns - 1) (omega (arith, some, as_many)))
      ∙ ap (λ (l : List (List ℕ)). list_of l (length ns - 1)) view
      ∙ subst (λ k. list_of lists k ≡ k ∷ []) at alone

  pub taken_linked : AreLinked new
  taken_linked = linked_off ns new linked (length ns - 1) one_more is last_alone

  pub taken_lists : lists_of new ≡ take (length lists - 1) lists
  taken_lists =
      let at : length ns - 1 ≡ length lists - 1 = omega (arith, as_many) in
      lists_off ns new linked (length ns - 1) one_more is last_alone
      ∙ ap (λ (l : List (List ℕ)). take (length ns - 1) l) view
      ∙ ap (λ k. take k lists) at

-- Entries among the ranks of their sets.
use Rattle.std.proofs.Common.{◌≡◌, ◌<◌, ◌≤◌, ◌+◌, ◌&&◌, ℕ, Bool, true, false, List, length, map, min, nat_eq, nat_le, get_or, refl, sym, ap, subst, subst₂, ◌∙◌, arith, ◌⊎◌, inl, inr}
use Rattle.std.specs.Prelude.{IfNone, Option, Some, None, slice_get}
use Rattle.std.proofs.lemmas.Bool.{cases_lt, eqb-true}
use Rattle.std.proofs.lemmas.List.{length-map}
use Rattle.std.proofs.lemmas.Option.{get_or_from_slice_get, slice_get_within, same_Some}
use Rattle.sql_query.specs.declared.window.Window.{Window}
use Rattle.pathkeys.specs.Keys.{covers}
use Rattle.plan_tree.specs.Paths.{startup_kept}
use Rattle.plan_check.specs.Certificates.{Entry}
use Rattle.plan_check.specs.work.Views.{entry}
use Rattle.plan_check.specs.declared.entry.Entry.{Entry as Entered}
use Rattle.plan_check.proofs.UnfoldLemmas.{entry-at}
use Rattle.plan_check.specs.work.Beating.{IsNoBeater, IsUnbeaten, beats}
use Rattle.plan_check.specs.work.Placing.{ArePlaced, HasPut, IsAmong, IsOf, first_of, order_of, past_of, place_at}
use Rattle.plan_check.specs.work.Ranking.{AreRanked}
use Rattle.plan_check.specs.declared.places.SetPlaces.{SetPlaces}

-- one rank more
pub placed-next : (at : ℕ → Option Entry) (i : ℕ) (p new : SetPlaces) (e : Entry) → at i ≡ Some e → ((r : ℕ) (d : Entry) → r < i → at r ≡ Some d → IsAmong p d.set.0 r) → HasPut p new e.set.0 i →
    (r : ℕ) (d : Entry) → r < i + 1 → at r ≡ Some d → IsAmong new d.set.0 r
placed-next at i p new e there before put r d lt is = by (cases_lt r i)
  where
    by : (r < i) ⊎ (i ≤ r) → IsAmong new d.set.0 r
    by (inl less) = put.kept d.set.0 r (omega (arith, less)) (before r d less is)
    by (inr most) =
        let same : i ≡ r = omega (arith, most, lt) in
        let one : e ≡ d = same_Some e d (sym there ∙ (ap at same ∙ is)) in
        subst (λ n. IsAmong new d.set.0 n) same (subst (λ (x : Entry). IsAmong new x.set.0 i) one put.here)

-- once all ranks were put, the entries are placed
pub placed-all : (xs : List Entered) (order : List ℕ) (i : ℕ) (p : SetPlaces) → length order ≤ i → AreRanked order (length xs) → order_of p ≡ order → ((r : ℕ) (d : Entry) → r < i → slice_get (map entry xs) (get_or order r 0) ≡ Some d → IsAmong p d.set.0 r) → ArePlaced (map entry xs) p
placed-all xs order i p le ranked same h = record {
  each = λ k e at.
      let lt : k < length xs = let within = slice_get_within (map entry xs) k e at in let long = length-map xs entry in omega (arith, within, long) in
      let r = ranked.each k lt in
      let within : r.rank < i = let less = r.within in omega (arith, less, le) in
      record {
        rank = r.rank;
        within = subst (λ o. r.rank < length o) (sym same) r.within;
        is = ap (λ o. get_or o r.rank 0) same ∙ r.is;
        among = h r.rank e within (ap (slice_get (map entry xs)) r.is ∙ at);
      };
  there = λ r. subst (λ o. r < length o → get_or o r 0 < length (map entry xs)) (sym same) (λ lt. subst (λ n. get_or order r 0 < n) (sym (length-map xs entry)) (ranked.within r lt));
}

-- what is at a rank is read at a place of the entries
pub there-read : (xs : List Entered) (p : SetPlaces) (i n : ℕ) → ArePlaced (map entry xs) p → i < length (order_of p) → n ≡ place_at p i → n < length xs
there-read xs p i n placed lt is = subst₂ (λ a b. a < b) (sym is) (length-map xs entry) (placed.there i lt)

-- what all ranks of a set's range have, each entry of the set has
pub each-of : (es : List Entry) (p : SetPlaces) (s from past : ℕ) (P : ℕ → Type 0) → ArePlaced es p → from ≡ first_of p s → past ≡ min (past_of p s) (length (order_of p)) →
    ((i : ℕ) → from ≤ i → i < past → P (place_at p i)) → (n : ℕ) → IsOf es s n → P n
each-of es p s from past P placed f g h n is =
    let r = placed.each n is.entry is.stands in
    let a : IsAmong p s r.rank = subst (λ m. IsAmong p m r.rank) is.same r.among in
    let from' = a.from in
    let before = a.before in
    let within = r.within in
    subst P r.is (h r.rank (omega (arith, f, from')) (omega (arith, g, before, within)))

module _ (w : Option Window) where
  -- an entry does not beat one of another set
  other-set : (a b : Entry) → nat_eq a.set.0 b.set.0 ≡ false → beats w a b ≡ false
  other-set a b f = ap (λ t. t && (nat_eq a.param.0 b.param.0 && (nat_le (startup_kept w a.startup) (startup_kept w b.startup) && (nat_le a.cost b.cost && covers a.keys b.keys)))) f

  module _ (es : List Entry) (p : SetPlaces) (placed : ArePlaced es p) where
    -- what beats an entry is of its set
    beater-of : (n k : ℕ) (e x : Entry) → slice_get es n ≡ Some e → slice_get es k ≡ Some x → (IsOf es e.set.0 k → IsNoBeater w es n k) → IsNoBeater w es n k
    beater-of n k e x at at' inside = by (nat_eq x.set.0 e.set.0) refl
      where
        by : (b : Bool) → nat_eq x.set.0 e.set.0 ≡ b → IsNoBeater w es n k
        by true f = inside (record { entry = x; stands = at'; same = eqb-true x.set.0 e.set.0 f })
        by false f = λ differ d. subst₂ (λ (a b : Entry). beats w a b ≡ false) (sym (get_or_from_slice_get es k x d at')) (sym (get_or_from_slice_get es n e d at)) (other-set x e f)

    pub none-inside : (n k from past : ℕ) (e : Entry) → slice_get es n ≡ Some e → k < length es → from ≡ first_of p e.set.0 → past ≡ min (past_of p e.set.0) (length (order_of p)) →
        ((i : ℕ) → from ≤ i → i < past → IsNoBeater w es n (place_at p i)) → IsNoBeater w es n k
    none-inside n k from past e at lt f g inside =
        let x = entry-at es k lt in
        beater-of n k e x.0 at x.1 (λ is. each-of es p e.set.0 from past (IsNoBeater w es n) placed f g inside k is)

    -- what beats a candidate is of its set
    pub unbeaten-inside : (from past : ℕ) (e : Entry) → from ≡ first_of p e.set.0 → past ≡ min (past_of p e.set.0) (length (order_of p)) →
        ((i : ℕ) → from ≤ i → i < past → (d : Entry) → beats w (get_or es (place_at p i) d) e ≡ false) → IsUnbeaten w es e
    unbeaten-inside from past e f g inside k lt d = by (nat_eq x.set.0 e.set.0) refl
      where
        x : Entry
        x = (entry-at es k lt).0

        at : slice_get es k ≡ Some x
        at = (entry-at es k lt).1

        by : (b : Bool) → nat_eq x.set.0 e.set.0 ≡ b → beats w (get_or es k d) e ≡ false
        by true eq = each-of es p e.set.0 from past (λ m. beats w (get_or es m d) e ≡ false) placed f g (λ i le lt'. inside i le lt' d) k (record { entry = x; stands = at; same = eqb-true x.set.0 e.set.0 eq })
        by false eq = subst (λ (a : Entry). beats w a e ≡ false) (sym (get_or_from_slice_get es k x d at)) (other-set x e eq)

-- where none of an entry's set dominates it, none does
pub none-beats : (w : Option Window) (xs : List Entered) (p : SetPlaces) (n from past : ℕ) (e : Entry) → ArePlaced (map entry xs) p → slice_get (map entry xs) n ≡ Some e → from ≡ first_of p e.set.0 → past ≡ min (past_of p e.set.0) (length (order_of p)) →
    ((i : ℕ) → from ≤ i → i < past → IsNoBeater w (map entry xs) n (place_at p i)) → (k : ℕ) → k < length xs → IsNoBeater w (map entry xs) n k
none-beats w xs p n from past e placed at f g h k lt = let long = length-map xs entry in none-inside w (map entry xs) p placed n k from past e at (omega (arith, lt, long)) f g h

pub covering-none : (w : Option Window) (xs : List Entered) (p : SetPlaces) (from past : ℕ) (e : Entry) (r : Option ℕ) → ArePlaced (map entry xs) p → from ≡ first_of p e.set.0 → past ≡ min (past_of p e.set.0) (length (order_of p)) →
    IfNone r ((i : ℕ) → from ≤ i → i < past → (d : Entry) → beats w (get_or (map entry xs) (place_at p i) d) e ≡ false) → IfNone r (IsUnbeaten w (map entry xs) e)
covering-none w xs p from past e None placed f g h = unbeaten-inside w (map entry xs) p placed from past e f g h
covering-none w xs p from past e (Some m) placed f g h = tt

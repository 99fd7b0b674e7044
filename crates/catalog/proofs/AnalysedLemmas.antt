-- Statistics put for each column, and what of them is refused.
use Rattle.std.proofs.Common.{◌≡◌, ◌<◌, ◌≤◌, ◌+◌, ◌++◌, ◌∷◌, [], ◌∙◌, ℕ, zero, suc, List, Option, Some, All, length, map, take, drop, set, get_or, refl, sym, ap, ap₂, subst, arith}
use Rattle.std.specs.List.{AllZip, take-map}
use Rattle.std.specs.Option.{option_map}
use Rattle.std.proofs.lemmas.List.{length-map, length-set, take_all, take_more, get_or-map, map_push}
use Rattle.std.proofs.lemmas.List.Elements.{All-push}
use Rattle.opfamily.specs.pg_value_columns_Column.{Column}
use Rattle.opfamily.specs.pg_value_value_SqlType.{SqlType}
use Rattle.catalog.specs.declared.statistics.ColumnStats.{ColumnStats}
use Rattle.catalog.specs.work.Analysed.{FitColumns, IsColumnRefusal}
use Rattle.catalog.specs.Contents.{IsKnown}
use Rattle.catalog.specs.work.Known.{statistics}
use Rattle.catalog.specs.Statistics.{AreAllowed, AreValuesOf, IsFirstRefused, Statistics}
use Rattle.catalog.proofs.StatisticsLemmas.{allowed-lawful}

drop-set : {X : Type 0} (xs : List X) (i : ℕ) (y : X) → i < length xs → drop i (set xs i y) ≡ y ∷ drop (suc i) xs
drop-set [] i y lt = absurd (omega (arith, lt))
drop-set (x ∷ xs) zero y lt = refl
drop-set (x ∷ xs) (suc i) y lt = drop-set xs i y (omega (arith, lt))

take-front : {X : Type 0} (xs ys : List X) (x : X) (n : ℕ) → xs ++ x ∷ [] ≡ take n ys → n ≡ suc (length xs) → (xs ≡ take (length xs) ys) × (drop (length xs) ys ≡ x ∷ drop n ys) × (length xs < length ys)
take-front [] [] x n e is = absurd (let none : x ∷ [] ≡ [] = e ∙ (let m : n ≡ suc zero = is in ap (λ k. take k []) m) in cc)
take-front [] (y ∷ ys) x n e is =
    let m : n ≡ suc zero = is in
    let one : x ∷ [] ≡ y ∷ take zero ys = e ∙ ap (λ k. take k (y ∷ ys)) m in
    let same : y ≡ x = cc in
    (refl, ap₂ (λ z k. z ∷ drop k (y ∷ ys)) same (sym m), omega arith)
take-front (z ∷ xs) [] x n e is = absurd (let none : z ∷ (xs ++ x ∷ []) ≡ [] = e ∙ (ap (λ k. take k []) is) in cc)
take-front (z ∷ xs) (y ∷ ys) x n e is =
    let both : z ∷ (xs ++ x ∷ []) ≡ y ∷ take (suc (length xs)) ys = e ∙ ap (λ k. take k (y ∷ ys)) is in
    let head : z ≡ y = cc in
    let tail : xs ++ x ∷ [] ≡ take (suc (length xs)) ys = cc in
    let rest = take-front xs ys x (suc (length xs)) tail refl in
    (ap₂ (λ a bs. a ∷ bs) head rest.0, rest.1 ∙ ap (λ k. x ∷ drop k (y ∷ ys)) (sym is), let lt = rest.2 in omega (arith, lt))

-- one more from the end
pub put-more : (left columns : List ColumnStats) (stats : List (Option ColumnStats)) (column : ColumnStats) (n : ℕ) → left ++ column ∷ [] ≡ take n columns → n ≡ suc (length left)
    → length stats ≡ length columns → drop n stats ≡ map Some (drop n columns)
    → (left ≡ take (length left) columns) × (length (set stats (length left) (Some column)) ≡ length columns) × (drop (length left) (set stats (length left) (Some column)) ≡ map Some (drop (length left) columns))
put-more left columns stats column n e is long put =
    let front = take-front left columns column n e is in
    let low = front.2 in
    let size = length-set stats (length left) (Some column) in (
      front.0,
      omega (arith, size, long),
      drop-set stats (length left) (Some column) (omega (arith, low, long))
          ∙ ap (λ (l : List (Option ColumnStats)). Some column ∷ l) (ap (λ k. drop k stats) (sym is) ∙ put)
          ∙ sym (ap (map Some) front.1),
    )

-- all of them, as statistics
pub seen-stats : (stats : List (Option ColumnStats)) (columns : List ColumnStats) → stats ≡ map Some columns → map (option_map statistics) stats ≡ map Some (map statistics columns)
seen-stats stats columns is = ap (map (option_map statistics)) is ∙ each columns
  where
    each : (cs : List ColumnStats) → map (option_map statistics) (map Some cs) ≡ map Some (map statistics cs)
    each [] = refl
    each (c ∷ cs) = ap (λ l. Some (statistics c) ∷ l) (each cs)

-- the type of the values at a place
pub typed-at : (columns : List Column) (ss : List Statistics) (i : ℕ) (d : Statistics) → FitColumns columns ss → i < length ss → (t : SqlType) × AreValuesOf t (get_or ss i d)
typed-at [] [] i d h lt = absurd (omega (arith, lt))
typed-at [] (s ∷ ss) i d h lt = absurd h
typed-at (c ∷ cs) [] i d h lt = absurd h
typed-at (c ∷ cs) (s ∷ ss) zero d h lt = (c.typed, h.0)
typed-at (c ∷ cs) (s ∷ ss) (suc i) d h lt = typed-at cs ss i d h.1 (omega (arith, lt))

-- allowed statistics of the columns' types are known of them
pub known-each : (columns : List Column) (ss : List Statistics) → FitColumns columns ss → All AreAllowed ss → AllZip IsKnown columns (map Some ss)
known-each [] [] h all = tt
known-each [] (s ∷ ss) h all = absurd h
known-each (c ∷ cs) [] h all = absurd h
known-each (c ∷ cs) (s ∷ ss) h all = (allowed-lawful c.typed s h.0 (all 0 s (omega arith)), known-each cs ss h.1 (λ i d lt. all (suc i) d (omega (arith, lt))))

pub one-each : (columns : List Column) (ss : List Statistics) → FitColumns columns ss → length columns ≡ length ss
one-each [] [] h = refl
one-each [] (s ∷ ss) h = absurd h
one-each (c ∷ cs) [] h = absurd h
one-each (c ∷ cs) (s ∷ ss) h = let rest = one-each cs ss h.1 in omega (arith, rest)

-- one column's statistics among those of all
module _ (cs : List ColumnStats) (i : ℕ) (c : ColumnStats) (lt : i < length cs) (is : c ≡ get_or cs i c) where
  pub typed-here' : (columns : List Column) → FitColumns columns (map statistics cs) → (t : SqlType) × AreValuesOf t (statistics c)
  typed-here' columns h =
      let long = length-map cs statistics in
      let at : get_or (map statistics cs) i (statistics c) ≡ statistics c = get_or-map statistics cs i c (statistics c) lt ∙ ap statistics (sym is) in
      subst (λ (x : Statistics). (t : SqlType) × AreValuesOf t x) at (typed-at columns (map statistics cs) i (statistics c) h (omega (arith, lt, long)))

  more-seen : map statistics (take (i + 1) cs) ≡ map statistics (take i cs) ++ statistics c ∷ []
  more-seen = ap (map statistics) (take_more cs i c lt ∙ ap (λ (x : ColumnStats). take i cs ++ x ∷ []) (sym is)) ∙ map_push statistics (take i cs) c

  pub allowed-more' : All AreAllowed (map statistics (take i cs)) → AreAllowed (statistics c) → All AreAllowed (map statistics (take (i + 1) cs))
  allowed-more' h one = subst (λ (l : List Statistics). All AreAllowed l) (sym more-seen) (All-push AreAllowed (map statistics (take i cs)) (statistics c) h one)

  pub refusal-at' : (place : ℕ) → All AreAllowed (map statistics (take i cs)) → IsFirstRefused (statistics c) place → IsColumnRefusal (map statistics cs) place
  refusal-at' place h one =
      let long = length-map cs statistics in
      record {
        column = i;
        within = omega (arith, lt, long);
        before = subst (λ (l : List Statistics). All AreAllowed l) (sym (take-map statistics i cs)) h;
        refused = λ d. subst (λ (x : Statistics). IsFirstRefused x place) (sym (get_or-map statistics cs i c d lt ∙ ap statistics (sym is))) one;
      }

pub typed-here : (columns : List Column) (cs : List ColumnStats) (i : ℕ) (c : ColumnStats) → FitColumns columns (map statistics cs) → i < length cs → c ≡ get_or cs i c → (t : SqlType) × AreValuesOf t (statistics c)
typed-here columns cs i c h lt is = typed-here' cs i c lt is columns h

pub allowed-more : (cs : List ColumnStats) (i : ℕ) (c : ColumnStats) → i < length cs → c ≡ get_or cs i c → All AreAllowed (map statistics (take i cs)) → AreAllowed (statistics c) → All AreAllowed (map statistics (take (i + 1) cs))
allowed-more cs i c lt is h one = allowed-more' cs i c lt is h one

pub refusal-at : (cs : List ColumnStats) (i : ℕ) (c : ColumnStats) (place : ℕ) → i < length cs → c ≡ get_or cs i c → All AreAllowed (map statistics (take i cs)) → IsFirstRefused (statistics c) place → IsColumnRefusal (map statistics cs) place
refusal-at cs i c place lt is h one = refusal-at' cs i c lt is place h one

pub all-seen : (cs : List ColumnStats) (i : ℕ) → length cs ≤ i → All AreAllowed (map statistics (take i cs)) → All AreAllowed (map statistics cs)
all-seen cs i le h = subst (λ (l : List ColumnStats). All AreAllowed (map statistics l)) (take_all i cs le) h

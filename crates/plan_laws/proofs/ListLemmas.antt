-- Maps between the numbers of indexes of two lists that differ in indexes that a query does not read.
use Prim.Native.Nat.{suc, zero}
use Rattle.std.proofs.Common.{◌≡◌, ◌≢◌, ◌<◌, ◌+◌, ℕ, Bool, true, false, cond, ◌||◌, nat_eq, List, [], ◌∷◌, length, map, refl, sym, ap, ◌∙◌, arith, true≢false}
use Rattle.std.specs.Prelude.{filter, slice_index_or}
use Rattle.std.specs.List.{list_any}
use Rattle.std.proofs.lemmas.Bool.{eq-eqb, ne_eqb}
use Rattle.pg_base.specs.declared.numbers.IndexNo.{IndexNo}
use Rattle.pg_base.specs.declared.numbers.TableNo.{TableNo}
use Rattle.catalog.specs.Contents.{TableDef, NamedIndex, index_at, numbers_from}
use Rattle.catalog.specs.Range.{Range}
use Rattle.sql_query.specs.Queries.{Query, width}
use Rattle.plan_tree.specs.Bitmaps.{IsIndexOn, table_of_relation}
use Rattle.plan_laws.specs.Moved.{over}
use Rattle.plan_laws.specs.work.Moved.{is_read, Moves, IsFrom}

-- a map of numbers as one of index numbers
abbrev pub no : (ℕ → ℕ) → IndexNo → IndexNo
no h i = record { 0 = h i.0 }

-- the numbers behind one more index that is read, on both sides, on the left where it is not, on the right where it is not
abbrev lifted : (ℕ → ℕ) → ℕ → ℕ
lifted h zero = zero
lifted h (suc n) = suc (h n)

abbrev behind : (ℕ → ℕ) → ℕ → ℕ
behind h zero = zero
behind h (suc n) = h n

abbrev before : (ℕ → ℕ) → ℕ → ℕ
before h n = suc (h n)

abbrev next : IndexNo → IndexNo
next i = record { 0 = suc i.0 }

-- an index that is not read is of no relation's table
pub not-read : (range : Range) (m : ℕ) → list_any (λ rel. nat_eq m rel.0.0) range ≡ false → (r : ℕ) → r < length range → m ≢ (slice_index_or range r (record { 0 = 0 }, [])).0.0
not-read [] m e r lt = absurd (omega (arith, lt))
not-read (x ∷ xs) m e zero lt = λ same. true≢false (sym (ap (λ (b : Bool). b || list_any (λ rel. nat_eq m rel.0.0) xs) (eq-eqb m x.0.0 same)) ∙ e)
not-read (x ∷ xs) m e (suc r) lt = not-read xs m (later (nat_eq m x.0.0) e) r (omega (arith, lt))
  where
    later : {c : Bool} (b : Bool) → b || c ≡ false → c ≡ false
    later true e = absurd (true≢false e)
    later false e = e

one-more : (k : ℕ) → k + 1 ≡ suc k
one-more k = omega arith

-- numbers that begin later
numbers-next : (k : ℕ) (xs : List NamedIndex) (t : TableNo) → numbers_from (k + 1) xs t ≡ map next (numbers_from k xs t)
numbers-next k [] t = refl
numbers-next k (x ∷ xs) t = by (numbers-next (k + 1) xs t) (nat_eq x.index.table.0 t.0)
  where
    by : numbers_from (k + 1 + 1) xs t ≡ map next (numbers_from (k + 1) xs t) → (b : Bool) → cond b (record { 0 = k + 1 } ∷ numbers_from (k + 1 + 1) xs t) (numbers_from (k + 1 + 1) xs t) ≡ map next (cond b (record { 0 = k } ∷ numbers_from (k + 1) xs t) (numbers_from (k + 1) xs t))
    by rest true = ap (λ (n : ℕ). record { 0 = n } ∷ numbers_from (k + 1 + 1) xs t) (one-more k) ∙ ap (λ (is : List IndexNo). record { 0 = suc k } ∷ is) rest
    by rest false = rest

map-lifted : (h : ℕ → ℕ) (is : List IndexNo) → map next (map (no h) is) ≡ map (no (lifted h)) (map next is)
map-lifted h [] = refl
map-lifted h (i ∷ is) = ap (λ (js : List IndexNo). record { 0 = suc (h i.0) } ∷ js) (map-lifted h is)

map-behind : (h : ℕ → ℕ) (is : List IndexNo) → map (no h) is ≡ map (no (behind h)) (map next is)
map-behind h [] = refl
map-behind h (i ∷ is) = ap (λ (js : List IndexNo). record { 0 = h i.0 } ∷ js) (map-behind h is)

map-before : (h : ℕ → ℕ) (is : List IndexNo) → map next (map (no h) is) ≡ map (no (before h)) is
map-before h [] = refl
map-before h (i ∷ is) = ap (λ (js : List IndexNo). record { 0 = suc (h i.0) } ∷ js) (map-before h is)

map-same : (is : List IndexNo) → is ≡ map (no (λ n. n)) is
map-same [] = refl
map-same (i ∷ is) = ap (λ (js : List IndexNo). i ∷ js) (map-same is)

both-listed : (h : ℕ → ℕ) (x : NamedIndex) (ps bs : List NamedIndex) (t : TableNo) → numbers_from 0 bs t ≡ map (no h) (numbers_from 0 ps t) → numbers_from 0 (x ∷ bs) t ≡ map (no (lifted h)) (numbers_from 0 (x ∷ ps) t)
both-listed h x ps bs t e = by (nat_eq x.index.table.0 t.0)
  where
    rest : numbers_from 1 bs t ≡ map (no (lifted h)) (numbers_from 1 ps t)
    rest = numbers-next 0 bs t ∙ ap (map next) e ∙ map-lifted h (numbers_from 0 ps t) ∙ ap (map (no (lifted h))) (sym (numbers-next 0 ps t))

    by : (b : Bool) → cond b (record { 0 = 0 } ∷ numbers_from 1 bs t) (numbers_from 1 bs t) ≡ map (no (lifted h)) (cond b (record { 0 = 0 } ∷ numbers_from 1 ps t) (numbers_from 1 ps t))
    by true = ap (λ (js : List IndexNo). record { 0 = 0 } ∷ js) rest
    by false = rest

-- an index of another table is not listed
unlisted : (x : NamedIndex) (xs : List NamedIndex) (t : TableNo) → x.index.table.0 ≢ t.0 → numbers_from 0 (x ∷ xs) t ≡ map next (numbers_from 0 xs t)
unlisted x xs t ne = ap (λ (b : Bool). cond b (record { 0 = 0 } ∷ numbers_from 1 xs t) (numbers_from 1 xs t)) (ne_eqb x.index.table.0 t.0 ne) ∙ numbers-next 0 xs t

module _ (tables : List TableDef) (q : Query) where
  -- an index of a number is one of a relation's table
  on-next : (x : NamedIndex) (xs : List NamedIndex) (r n : ℕ) → IsIndexOn (over tables xs) q r (record { 0 = n }) → IsIndexOn (over tables (x ∷ xs)) q r (record { 0 = suc n })
  on-next x xs r n h = record { made = let lt : n < length xs = h.made in omega (arith, lt); table = h.table }

  on-first : (x : NamedIndex) (xs ys : List NamedIndex) (r : ℕ) → IsIndexOn (over tables (x ∷ xs)) q r (record { 0 = zero }) → IsIndexOn (over tables (x ∷ ys)) q r (record { 0 = zero })
  on-first x xs ys r h = record { made = omega arith; table = h.table }

  on-rest : (x : NamedIndex) (xs : List NamedIndex) (r n : ℕ) → IsIndexOn (over tables (x ∷ xs)) q r (record { 0 = suc n }) → IsIndexOn (over tables xs) q r (record { 0 = n })
  on-rest x xs r n h = record { made = let lt : suc n < suc (length xs) = h.made in omega (arith, lt); table = h.table }

  not-first : (x : NamedIndex) (xs : List NamedIndex) (r : ℕ) → is_read q x ≡ false → r < width q → ¬ IsIndexOn (over tables (x ∷ xs)) q r (record { 0 = zero })
  not-first x xs r e lt h = not-read q.range x.index.table.0 e r lt (ap (λ (t : TableNo). t.0) h.table)

  none-moves : Moves (over tables []) (over tables []) q (no (λ n. n))
  none-moves = record {
    listed = λ r lt. refl;
    there = λ r i lt on. on;
    same = λ r i lt on. refl;
    back = λ r j lt on. record { number = j; on = on; taken = refl };
  }

  module _ (h : ℕ → ℕ) (x : NamedIndex) (ps bs : List NamedIndex) (m : Moves (over tables ps) (over tables bs) q (no h)) where
    both-moves : Moves (over tables (x ∷ ps)) (over tables (x ∷ bs)) q (no (lifted h))
    both-moves = record {
      listed = λ r lt. both-listed h x ps bs (table_of_relation q r) (m.listed r lt);
      there = λ r i lt on. there r i.0 lt on;
      same = λ r i lt on. same r i.0 lt on;
      back = λ r j lt on. back r j.0 lt on;
    }
      where
        there : (r n : ℕ) → r < width q → IsIndexOn (over tables (x ∷ ps)) q r (record { 0 = n }) → IsIndexOn (over tables (x ∷ bs)) q r (record { 0 = lifted h n })
        there r zero lt on = on-first x ps bs r on
        there r (suc n) lt on = on-next x bs r (h n) (m.there r (record { 0 = n }) lt (on-rest x ps r n on))

        same : (r n : ℕ) → r < width q → IsIndexOn (over tables (x ∷ ps)) q r (record { 0 = n }) → index_at (over tables (x ∷ bs)) (record { 0 = lifted h n }) ≡ index_at (over tables (x ∷ ps)) (record { 0 = n })
        same r zero lt on = refl
        same r (suc n) lt on = m.same r (record { 0 = n }) lt (on-rest x ps r n on)

        back : (r n : ℕ) → r < width q → IsIndexOn (over tables (x ∷ bs)) q r (record { 0 = n }) → IsFrom (over tables (x ∷ ps)) q (no (lifted h)) r (record { 0 = n })
        back r zero lt on = record { number = record { 0 = zero }; on = on-first x bs ps r on; taken = refl }
        back r (suc n) lt on =
            let s = m.back r (record { 0 = n }) lt (on-rest x bs r n on) in
            record { number = record { 0 = suc s.number.0 }; on = on-next x ps r s.number.0 s.on; taken = ap next s.taken }

    left-moves : is_read q x ≡ false → Moves (over tables (x ∷ ps)) (over tables bs) q (no (behind h))
    left-moves e = record {
      listed = λ r lt. m.listed r lt ∙ map-behind h (numbers_from 0 ps (table_of_relation q r)) ∙ ap (map (no (behind h))) (sym (unlisted x ps (table_of_relation q r) (not-read q.range x.index.table.0 e r lt)));
      there = λ r i lt on. there r i.0 lt on;
      same = λ r i lt on. same r i.0 lt on;
      back = λ r j lt on. let s = m.back r j lt on in record { number = record { 0 = suc s.number.0 }; on = on-next x ps r s.number.0 s.on; taken = s.taken };
    }
      where
        there : (r n : ℕ) → r < width q → IsIndexOn (over tables (x ∷ ps)) q r (record { 0 = n }) → IsIndexOn (over tables bs) q r (record { 0 = behind h n })
        there r zero lt on = absurd (not-first x ps r e lt on)
        there r (suc n) lt on = m.there r (record { 0 = n }) lt (on-rest x ps r n on)

        same : (r n : ℕ) → r < width q → IsIndexOn (over tables (x ∷ ps)) q r (record { 0 = n }) → index_at (over tables bs) (record { 0 = behind h n }) ≡ index_at (over tables (x ∷ ps)) (record { 0 = n })
        same r zero lt on = absurd (not-first x ps r e lt on)
        same r (suc n) lt on = m.same r (record { 0 = n }) lt (on-rest x ps r n on)

    right-moves : is_read q x ≡ false → Moves (over tables ps) (over tables (x ∷ bs)) q (no (before h))
    right-moves e = record {
      listed = λ r lt. unlisted x bs (table_of_relation q r) (not-read q.range x.index.table.0 e r lt) ∙ ap (map next) (m.listed r lt) ∙ map-before h (numbers_from 0 ps (table_of_relation q r));
      there = λ r i lt on. on-next x bs r (h i.0) (m.there r i lt on);
      same = λ r i lt on. m.same r i lt on;
      back = λ r j lt on. back r j.0 lt on;
    }
      where
        back : (r n : ℕ) → r < width q → IsIndexOn (over tables (x ∷ bs)) q r (record { 0 = n }) → IsFrom (over tables ps) q (no (before h)) r (record { 0 = n })
        back r zero lt on = absurd (not-first x bs r e lt on)
        back r (suc n) lt on =
            let s = m.back r (record { 0 = n }) lt (on-rest x bs r n on) in
            record { number = s.number; on = s.on; taken = ap next s.taken }

  -- maps to and fro between the indexes of two lists
  pub record MoveBoth (ps bs : List NamedIndex) : Type 0 where
    pub f : ℕ → ℕ
    pub g : ℕ → ℕ
    pub there : Moves (over tables ps) (over tables bs) q (no f)
    pub back : Moves (over tables bs) (over tables ps) q (no g)

  -- a list, and those of it that are read
  pub read-alone : (xs : List NamedIndex) → MoveBoth xs (filter (is_read q) xs)
  read-alone [] = record { f = λ n. n; g = λ n. n; there = none-moves; back = none-moves }
  read-alone (x ∷ xs) = by (is_read q x) refl (read-alone xs)
    where
      by : (b : Bool) → is_read q x ≡ b → MoveBoth xs (filter (is_read q) xs) → MoveBoth (x ∷ xs) (cond b (x ∷ filter (is_read q) xs) (filter (is_read q) xs))
      by true e s = record {
        f = lifted s.f;
        g = lifted s.g;
        there = both-moves s.f x xs (filter (is_read q) xs) s.there;
        back = both-moves s.g x (filter (is_read q) xs) xs s.back;
      }
      by false e s = record {
        f = behind s.f;
        g = before s.g;
        there = left-moves s.f x xs (filter (is_read q) xs) s.there e;
        back = right-moves s.g x (filter (is_read q) xs) xs s.back e;
      }

-- Data end at one place, and a table and statistics are refused for one cause.
use Rattle.std.proofs.Common.{◌≡◌, ℕ, ◌+◌, ◌<◌, inl, inr, List, [], ◌∷◌, ◌++◌, length, take, drop, get_or, true, false, refl, sym, ap, ◌∙◌, arith, subst, Contains, slice_index_or, Some, None, Result, Ok, Err}
use Rattle.std.proofs.lemmas.Bool.{both_ways, cases_lt}
use Rattle.std.proofs.lemmas.List.{get_or-take, get_or_default, length-take, take-take}
use Rattle.std.proofs.lemmas.List.Elements.{All-head, All-tail}
use Rattle.pg_base.specs.declared.faults.Fault.{Fault}
use Rattle.sql_grammar.specs.CopyLine.{IsDataStart}
use Rattle.catalog.specs.Contents.{Contents}
use Rattle.pg_base.specs.Names.{AreDistinct, IsFirstRepeat}
use Rattle.catalog.specs.Statistics.{AreAllowed, IsFirstRefused, Statistics, is_count, is_refused}
use Rattle.catalog.specs.Tables.{IsAcceptable, IsRefusal, IsSizeRefusal, IsStatisticsRefusal}
use Rattle.catalog.specs.declared.fault.CatalogFault.{CatalogFault}
use Rattle.catalog.specs.declared.fault.CatalogFault.TheVariants.{NameTaken, ColumnTwice, TooMany, BadNumber, Memory}
use Rattle.catalog.proofs.NameLaws.{fresh}
use Rattle.ddl_reader.specs.Block.{HaveNoMark, is_mark, size_of, lines_of, IsBlockEnd}
use Rattle.statements.specs.Faults.{number_fault, table_fault}

-- a line is a mark or none
marked : (a b : List ℕ) → is_mark a ≡ true → is_mark b ≡ false → a ≡ b → ⊥
marked a b h k e = let both : true ≡ false = sym h ∙ (ap is_mark e ∙ k) in absurd (cc)

-- the first mark of some lines is one
one_mark : (a b : List (List ℕ)) (m n : List ℕ) (r s : List (List ℕ)) → HaveNoMark a → HaveNoMark b → is_mark m ≡ true → is_mark n ≡ true → a ++ m ∷ r ≡ b ++ n ∷ s → (a ≡ b) × (m ≡ n)
one_mark [] [] m n r s h k p q e = (refl, cc)
one_mark [] (y ∷ b) m n r s h k p q e = absurd (marked m y p (All-head (λ line. is_mark line ≡ false) y b k) (cc))
one_mark (x ∷ a) [] m n r s h k p q e = absurd (marked n x q (All-head (λ line. is_mark line ≡ false) x a h) (cc))
one_mark (x ∷ a) (y ∷ b) m n r s h k p q e =
    let (rest, mark) = one_mark a b m n r s (All-tail (λ line. is_mark line ≡ false) x a h) (All-tail (λ line. is_mark line ≡ false) y b k) p q (ap (drop 1) e) in
    let first : x ≡ y = cc in
    (ap (λ i. i ∷ a) first ∙ ap (λ i. y ∷ i) rest, mark)

no_mark : (a : List (List ℕ)) (m : List ℕ) (r : List (List ℕ)) → HaveNoMark (a ++ m ∷ r) → is_mark m ≡ true → ⊥
no_mark [] m r h p = marked m m p (All-head (λ line. is_mark line ≡ false) m r h) refl
no_mark (x ∷ a) m r h p = no_mark a m r (All-tail (λ line. is_mark line ≡ false) x (a ++ m ∷ r) h) p

-- data end at one place
pub one_end : (text : List ℕ) (start a m b n : ℕ) → IsBlockEnd text start a m → IsBlockEnd text start b n → (a ≡ b) × (m ≡ n)
one_end text start a m b n p q =
    let (before, mark) = one_mark p.before q.before p.mark q.mark p.after q.after p.first q.first p.is q.is (sym p.lines ∙ q.lines) in
    let end : a ≡ b = p.end_is ∙ (ap (λ l. start + size_of l) before ∙ sym q.end_is) in
    (end, p.next_is ∙ (ap (λ i. i + length p.mark) end ∙ (ap (λ l. b + length l) mark ∙ sym q.next_is)))

-- data that end have a line that ends them
pub no_end : (text : List ℕ) (start a m : ℕ) → IsBlockEnd text start a m → HaveNoMark (lines_of (drop start text)) → ⊥
no_end text start a m p none = no_mark p.before p.mark p.after (subst HaveNoMark p.lines none) p.is

-- data begin at one place, or have one fault
pub one_start : (text : List ℕ) (from : ℕ) (a b : Result ℕ Fault) → IsDataStart text from a → IsDataStart text from b → a ≡ b
one_start text from (Ok a) (Ok b) h k = ap Ok (h.1 ∙ sym k.1)
one_start text from (Ok a) (Err g) h k = absurd (k.0 h.0)
one_start text from (Err f) (Ok b) h k = absurd (h.0 k.0)
one_start text from (Err f) (Err g) h k = ap Err (h.1 ∙ sym k.1)

-- a fault that is given twice
pub some-one : (f g : Fault) → Some f ≡ Some g → f ≡ g
some-one f g e = cc

-- a repeat among some names
repeats : (names : List (List ℕ)) (place : ℕ) → IsFirstRepeat names place → AreDistinct names → ⊥
repeats names place p distinct =
    fresh names place (slice_index_or names place []) p.within (get_or_default names place (slice_index_or names place []) [] p.within) distinct p.repeated

-- no first repeat stands before another
later : (names : List (List ℕ)) (p q : ℕ) → IsFirstRepeat names p → IsFirstRepeat names q → p < q → ⊥
later names p q h k lt =
    let x = slice_index_or names p [] in
    let len = length-take q names in
    let at : get_or (take q names) p x ≡ x = get_or-take q names p x lt ∙ get_or_default names p x [] h.within in
    let some : Contains (take p (take q names)) x = subst (λ l. Contains l x) (sym (take-take p q names (omega (arith, lt)))) h.repeated in
    fresh (take q names) p x (omega (arith, len, h.within, k.within, lt)) at k.before some

one_repeat : (names : List (List ℕ)) (p q : ℕ) → IsFirstRepeat names p → IsFirstRepeat names q → p ≡ q
one_repeat names p q h k = elim (cases_lt p q) [
  | inl lt ↦ absurd (later names p q h k lt)
  | inr le ↦ elim (cases_lt q p) [ inl lt ↦ absurd (later names q p k h lt) | inr ge ↦ omega (arith, le, ge) ]
]

-- a fault that is none
pub no-fault : (f : Fault) → None ≡ Some f → ⊥
no-fault f e = cc

-- a new table is refused in one way
pub one_refusal : (c : Contents) (name : List ℕ) (names : List (List ℕ)) (at ends : List ℕ) (d e : CatalogFault) (f g : Fault) → IsRefusal c name names d → IsRefusal c name names e
    → table_fault d at ends ≡ Some f → table_fault e at ends ≡ Some g → f ≡ g
one_refusal c name names at ends NameTaken NameTaken f g h k i j = some-one f g (sym i ∙ j)
one_refusal c name names at ends NameTaken (ColumnTwice q) f g h k i j = absurd (k.0 h)
one_refusal c name names at ends NameTaken TooMany f g h k i j = absurd (k.0 h)
one_refusal c name names at ends (ColumnTwice p) NameTaken f g h k i j = absurd (h.0 k)
one_refusal c name names at ends (ColumnTwice p) (ColumnTwice q) f g h k i j =
    let place = one_repeat names p q h.1 k.1 in
    let same : table_fault (ColumnTwice q) at ends ≡ Some f = subst (λ n. table_fault (ColumnTwice n) at ends ≡ Some f) place i in
    some-one f g (sym same ∙ j)
one_refusal c name names at ends (ColumnTwice p) TooMany f g h k i j = absurd (repeats names p h.1 k.1)
one_refusal c name names at ends TooMany NameTaken f g h k i j = absurd (h.0 k)
one_refusal c name names at ends TooMany (ColumnTwice q) f g h k i j = absurd (repeats names q k.1 h.1)
one_refusal c name names at ends TooMany TooMany f g h k i j = some-one f g (sym i ∙ j)
one_refusal c name names at ends (BadNumber p) _ f g h k i j = absurd h
one_refusal c name names at ends Memory _ f g h k i j = absurd (no-fault f i)
one_refusal c name names at ends _ (BadNumber q) f g h k i j = absurd k
one_refusal c name names at ends _ Memory f g h k i j = absurd (no-fault g j)

-- a table that may be made is not refused
pub no_refusal : (c : Contents) (name : List ℕ) (names : List (List ℕ)) (at ends : List ℕ) (e : CatalogFault) (f : Fault) → IsAcceptable c name names → IsRefusal c name names e → table_fault e at ends ≡ Some f → ⊥
no_refusal c name names at ends NameTaken f a h i = a.free h
no_refusal c name names at ends (ColumnTwice p) f a h i = repeats names p h.1 a.distinct
no_refusal c name names at ends TooMany f a h i = omega (arith, h.2, a.room)
no_refusal c name names at ends (BadNumber p) f a h i = absurd h
no_refusal c name names at ends Memory f a h i = no-fault f i

one_number : (at : List ℕ) (p q : ℕ) (f g : Fault) → p ≡ q → number_fault (BadNumber p) at ≡ Some f → number_fault (BadNumber q) at ≡ Some g → f ≡ g
one_number at p q f g same i j = some-one f g (sym i ∙ (ap (λ n. number_fault (BadNumber n) at) same ∙ j))

one_size : (rows pages p q : ℕ) → IsSizeRefusal rows pages (BadNumber p) → IsSizeRefusal rows pages (BadNumber q) → p ≡ q
one_size rows pages p q (inl (a, x)) (inl (b, y)) = a ∙ sym b
one_size rows pages p q (inl (a, x)) (inr (b, y, z)) = absurd (both_ways (is_count rows) x y)
one_size rows pages p q (inr (a, x, z)) (inl (b, y)) = absurd (both_ways (is_count rows) y x)
one_size rows pages p q (inr (a, x, z)) (inr (b, y, u)) = a ∙ sym b

one_place : (s : Statistics) (p q : ℕ) → IsFirstRefused s p → IsFirstRefused s q → p ≡ q
one_place s p q h k = elim (cases_lt p q) [
  | inl lt ↦ absurd (both_ways (is_refused s p) (k.before p lt) h.refused)
  | inr le ↦ elim (cases_lt q p) [ inl lt ↦ absurd (both_ways (is_refused s q) (h.before q lt) k.refused) | inr ge ↦ omega (arith, le, ge) ]
]

-- the numbers of a table's sizes are refused at one place
pub one_size_refusal : (rows pages : ℕ) (at : List ℕ) (d e : CatalogFault) (f g : Fault) → IsSizeRefusal rows pages d → IsSizeRefusal rows pages e → number_fault d at ≡ Some f → number_fault e at ≡ Some g → f ≡ g
one_size_refusal rows pages at (BadNumber p) (BadNumber q) f g h k i j = one_number at p q f g (one_size rows pages p q h k) i j
one_size_refusal rows pages at (BadNumber p) NameTaken f g h k i j = absurd k
one_size_refusal rows pages at (BadNumber p) (ColumnTwice q) f g h k i j = absurd k
one_size_refusal rows pages at (BadNumber p) TooMany f g h k i j = absurd k
one_size_refusal rows pages at (BadNumber p) Memory f g h k i j = absurd k
one_size_refusal rows pages at NameTaken e f g h k i j = absurd h
one_size_refusal rows pages at (ColumnTwice p) e f g h k i j = absurd h
one_size_refusal rows pages at TooMany e f g h k i j = absurd h
one_size_refusal rows pages at Memory e f g h k i j = absurd h

-- the statistics of a column are refused at one place
pub one_statistics_refusal : (s : Statistics) (at : List ℕ) (d e : CatalogFault) (f g : Fault) → IsStatisticsRefusal s d → IsStatisticsRefusal s e → number_fault d at ≡ Some f → number_fault e at ≡ Some g → f ≡ g
one_statistics_refusal s at (BadNumber p) (BadNumber q) f g h k i j = one_number at p q f g (one_place s p q h k) i j
one_statistics_refusal s at (BadNumber p) NameTaken f g h k i j = absurd k
one_statistics_refusal s at (BadNumber p) (ColumnTwice q) f g h k i j = absurd k
one_statistics_refusal s at (BadNumber p) TooMany f g h k i j = absurd k
one_statistics_refusal s at (BadNumber p) Memory f g h k i j = absurd k
one_statistics_refusal s at NameTaken e f g h k i j = absurd h
one_statistics_refusal s at (ColumnTwice p) e f g h k i j = absurd h
one_statistics_refusal s at TooMany e f g h k i j = absurd h
one_statistics_refusal s at Memory e f g h k i j = absurd h

-- sizes and statistics that are taken are not refused
pub no_size_refusal : (rows pages : ℕ) (e : CatalogFault) → is_count rows ≡ true → is_count pages ≡ true → IsSizeRefusal rows pages e → ⊥
no_size_refusal rows pages (BadNumber p) some more (inl (at, bad)) = both_ways (is_count rows) bad some
no_size_refusal rows pages (BadNumber p) some more (inr (at, good, bad)) = both_ways (is_count pages) bad more
no_size_refusal rows pages NameTaken some more h = h
no_size_refusal rows pages (ColumnTwice p) some more h = h
no_size_refusal rows pages TooMany some more h = h
no_size_refusal rows pages Memory some more h = h

pub no_statistics_refusal : (s : Statistics) (e : CatalogFault) → AreAllowed s → IsStatisticsRefusal s e → ⊥
no_statistics_refusal s (BadNumber p) allowed h = both_ways (is_refused s p) (allowed p) h.refused
no_statistics_refusal s NameTaken allowed h = h
no_statistics_refusal s (ColumnTwice p) allowed h = h
no_statistics_refusal s TooMany allowed h = h
no_statistics_refusal s Memory allowed h = h

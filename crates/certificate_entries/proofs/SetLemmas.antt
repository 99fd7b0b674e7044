-- Aliases read one by one.
use Rattle.std.proofs.Common.{◌≡◌, ◌≢◌, ◌<◌, ◌+◌, ℕ, zero, suc, Bool, true, false, cond, ◌&&◌, ◌||◌, nat_eq, nat_lt, ◌⊎◌, inl, inr, List, [], ◌∷◌, ◌++◌, codes, length, drop, get_or, refl, sym, ap, ◌∙◌, subst, arith}
use Rattle.std.specs.Prelude.{All, Some}
use Rattle.std.specs.List.{list_all}
use Rattle.std.proofs.lemmas.Bool.{true≢false, eqb-true, lt-ltb}
use Rattle.std.proofs.lemmas.Bool.Decides.{nat_tests}
use Rattle.std.proofs.lemmas.List.{append_assoc, drop_more, get_or-drop, get_or-map, length-drop, length-map}
use Rattle.std.proofs.lemmas.List.Elements.{All-cons, All-head, All-tail}
use Rattle.pg_base.specs.Names.{IsName, is_in_name}
use Rattle.pg_base.specs.Sets.{has}
use Rattle.pg_base.specs.declared.rel_set.RelSet.{RelSet}
use Rattle.pg_base.proofs.SetLaws.{none-zero, same_set}
use Rattle.catalog.specs.Contents.{Contents}
use Rattle.certificate_text.specs.work.Words.{stops}
use Rattle.sql_query.specs.Queries.{Query}
use Rattle.sql_query.specs.WellBound.{IsWellBound}
use Rattle.pg_base.specs.declared.numbers.TableNo.{TableNo}
use Rattle.catalog.specs.Range.{Range, aliases}
use Rattle.certificate_text.specs.explain_Texts.{aliases_in, with_alias}
use Rattle.certificate_text.specs.plan_tree_Plans.{is_empty}
use Rattle.certificate_text.specs.Texts.{param_text, set_text, with_bare_commas}
use Rattle.pg_base.proofs.NameLemmas.{name-word}
use Rattle.certificate_entries.specs.work.Parts.{IsSet, IsWordRead, has_no_comma}
use Rattle.pg_base.proofs.NumberLemmas.{below-next}

abbrev pub AreWords : List (List ℕ) → Type 0
AreWords xs = All (λ x. list_all is_in_name x ≡ true) xs

-- what the clause of a word says of the longest run
abbrev pub IsRun : List ℕ → List ℕ → List ℕ → Type 0
IsRun old word new = (w : List ℕ) (rest : List ℕ) → old ≡ w ++ rest → list_all is_in_name w ≡ true → stops rest ≡ true → (word ≡ w) × (new ≡ rest)

stops-more : (xs : List (List ℕ)) (tail : List ℕ) → stops tail ≡ true → stops (with_bare_commas (codes ",") xs ++ tail) ≡ true
stops-more [] tail h = h
stops-more (x ∷ xs) tail h = refl

-- the first word of a row
pub first-word : (xs : List (List ℕ)) (tail old word new : List ℕ) → AreWords xs → stops tail ≡ true → IsRun old word new → old ≡ with_bare_commas [] xs ++ tail → IsWordRead xs tail word new
first-word [] tail old word new ws h run e = run [] tail e refl h
first-word (x ∷ xs) tail old word new ws h run e =
    run x (with_bare_commas (codes ",") xs ++ tail) (e ∙ append_assoc x (with_bare_commas (codes ",") xs) tail) (All-head (λ y. list_all is_in_name y ≡ true) x xs ws) (stops-more xs tail h)

-- a comma is taken where a word follows, and nowhere else
pub comma-taken : (xs : List (List ℕ)) (tail old mid word new : List ℕ) → AreWords xs → stops tail ≡ true → has_no_comma tail ≡ true → old ≡ codes "," ++ mid → IsRun mid word new →
    old ≡ with_bare_commas (codes ",") xs ++ tail → IsWordRead xs tail word new
comma-taken [] tail old mid word new ws h other is run e = absurd (true≢false (sym other ∙ ap has_no_comma (sym e ∙ is)))
comma-taken (x ∷ xs) tail old mid word new ws h other is run e =
    let same : mid ≡ with_bare_commas [] (x ∷ xs) ++ tail = ap (λ (l : List ℕ). drop 1 l) (sym is ∙ e) in
    first-word (x ∷ xs) tail mid word new ws h run same

pub comma-left : (xs : List (List ℕ)) (tail old mid word : List ℕ) → word ≡ [] → mid ≡ old → ((rest : List ℕ) → old ≡ codes "," ++ rest → ⊥) → old ≡ with_bare_commas (codes ",") xs ++ tail → IsWordRead xs tail word mid
comma-left [] tail old mid word w left other e = (w, left ∙ e)
comma-left (x ∷ xs) tail old mid word w left other e = absurd (other ((x ++ with_bare_commas (codes ",") xs) ++ tail) e)

-- the aliases of a set that are left: the word that was read is the next of them, or there is none, and no further comma
module _ (s : ℕ → Bool) (tail : List ℕ) where
  -- every alias is a word, and not empty
  words-with : (b : Bool) (x : List ℕ) (xs : List (List ℕ)) → list_all is_in_name x ≡ true → AreWords xs → AreWords (with_alias b x xs)
  words-with true x xs h hs = All-cons (λ y. list_all is_in_name y ≡ true) x xs h hs
  words-with false x xs h hs = hs

  pub aliases-words : (n : ℕ) (range : Range) → All (λ r. IsName r.1) range → AreWords (aliases_in n s range)
  aliases-words n [] h = λ k d lt. absurd (omega (arith, lt))
  aliases-words n (r ∷ rs) h = words-with (s n) r.1 (aliases_in (n + 1) s rs) (name-word r.1 (All-head (λ (x : TableNo × List ℕ). IsName x.1) r rs h)) (aliases-words (n + 1) rs (All-tail (λ (x : TableNo × List ℕ). IsName x.1) r rs h))

  -- the first of the aliases left, if there is one, is an alias of a later relation
  later : (n : ℕ) (rs : Range) (a word left : List ℕ) → All (λ (r : TableNo × List ℕ). a ≢ r.1) rs → a ≢ [] → IsWordRead (aliases_in n s rs) tail word left → a ≢ word
  later n [] a word left apart some h same = some (same ∙ h.0)
  later n (r ∷ rs) a word left apart some h same =
      by (s n) h (λ more. later (n + 1) rs a word left (All-tail (λ (x : TableNo × List ℕ). a ≢ x.1) r rs apart) some more same)
    where
      by : (b : Bool) → IsWordRead (with_alias b r.1 (aliases_in (n + 1) s rs)) tail word left → (IsWordRead (aliases_in (n + 1) s rs) tail word left → ⊥) → ⊥
      by true h more = All-head (λ (x : TableNo × List ℕ). a ≢ x.1) r rs apart (same ∙ h.0)
      by false h more = more h

  -- where the word is the alias of the next relation, that is one of the set
  pub taken : (n : ℕ) (r : TableNo × List ℕ) (rs : Range) (word left : List ℕ) → All (λ (x : TableNo × List ℕ). r.1 ≢ x.1) rs → IsName r.1 → IsWordRead (aliases_in n s (r ∷ rs)) tail word left → word ≡ r.1 →
      (s n ≡ true) × (left ≡ with_bare_commas (codes ",") (aliases_in (n + 1) s rs) ++ tail)
  taken n r rs word left apart name h is = by (s n) refl h where
    some : r.1 ≢ []
    some e = subst IsName e name

    by : (b : Bool) → s n ≡ b → IsWordRead (with_alias b r.1 (aliases_in (n + 1) s rs)) tail word left → (s n ≡ true) × (left ≡ with_bare_commas (codes ",") (aliases_in (n + 1) s rs) ++ tail)
    by true e h = (e, h.1)
    by false e h = absurd (later (n + 1) rs r.1 word left apart some h (sym is))

  -- where it is another, that is none of the set
  pub passed : (n : ℕ) (r : TableNo × List ℕ) (rs : Range) (word left : List ℕ) → IsWordRead (aliases_in n s (r ∷ rs)) tail word left → word ≢ r.1 → (s n ≡ false) × IsWordRead (aliases_in (n + 1) s rs) tail word left
  passed n r rs word left h other = by (s n) refl h where
    by : (b : Bool) → s n ≡ b → IsWordRead (with_alias b r.1 (aliases_in (n + 1) s rs)) tail word left → (s n ≡ false) × IsWordRead (aliases_in (n + 1) s rs) tail word left
    by true e h = absurd (other h.0)
    by false e h = (e, h)

-- bits below one more
nothing-below : (k : ℕ) (b : Bool) → (nat_lt k 0 && b) ≡ false
nothing-below k b = ap (λ (t : Bool). t && b) (let none : nat_lt k 0 ≡ false = grind (arith, nat_tests) in none)

-- a set so far, with the members below a number
abbrev pub IsBelow : (ℕ → Bool) → (ℕ → Bool) → ℕ → Type 0
IsBelow made s n = (k : ℕ) → made k ≡ (nat_lt k n && s k)

none-below : (made s : ℕ → Bool) → ((k : ℕ) → made k ≡ false) → IsBelow made s 0
none-below made s h k = h k ∙ sym (nothing-below k (s k))

one-more-below : (made new s : ℕ → Bool) (n : ℕ) → IsBelow made s n → s n ≡ true → ((k : ℕ) → new k ≡ (made k || nat_eq k n)) → IsBelow new s (n + 1)
one-more-below made new s n h is more k = more k ∙ (ap (λ (b : Bool). b || nat_eq k n) (h k) ∙ by (nat_eq k n) refl) where
  by : (b : Bool) → nat_eq k n ≡ b → ((nat_lt k n && s k) || b) ≡ (nat_lt k (n + 1) && s k)
  by true e = or-true (nat_lt k n && s k) ∙ sym (ap (λ (m : ℕ). nat_lt m (n + 1) && s m) (eqb-true k n e) ∙ (ap (λ (t : Bool). t && s n) (lt-ltb n (n + 1) (omega arith)) ∙ is))
    where
      or-true : (a : Bool) → (a || true) ≡ true
      or-true true = refl
      or-true false = refl
  by false e = or-false (nat_lt k n && s k) ∙ sym (ap (λ (t : Bool). t && s k) (below-next k n e))
    where
      or-false : (a : Bool) → (a || false) ≡ a
      or-false true = refl
      or-false false = refl

no-more-below : (made s : ℕ → Bool) (n : ℕ) → IsBelow made s n → s n ≡ false → IsBelow made s (n + 1)
no-more-below made s n h is k = h k ∙ by (nat_eq k n) refl where
  by : (b : Bool) → nat_eq k n ≡ b → (nat_lt k n && s k) ≡ (nat_lt k (n + 1) && s k)
  by true e =
      let here : (m : ℕ) → (nat_lt m n && s n) ≡ (nat_lt m (n + 1) && s n) = λ m. ap (λ (t : Bool). nat_lt m n && t) is ∙ (and-false (nat_lt m n) ∙ sym (ap (λ (t : Bool). nat_lt m (n + 1) && t) is ∙ and-false (nat_lt m (n + 1)))) in
      ap (λ (m : ℕ). nat_lt k n && s m) (eqb-true k n e) ∙ (here k ∙ sym (ap (λ (m : ℕ). nat_lt k (n + 1) && s m) (eqb-true k n e)))
    where
      and-false : (a : Bool) → (a && false) ≡ false
      and-false true = refl
      and-false false = refl
  by false e = sym (ap (λ (t : Bool). t && s k) (below-next k n e))

-- what is read of a set before a relation, whatever the set is
pub record IsReading (q : Query) (old : List ℕ) (n : ℕ) (made : RelSet) (word left : List ℕ) : Type 0 where
  pub within : (k : ℕ) → has made.0 k ≡ true → k < n
  pub is : (s : RelSet) (tail : List ℕ) → IsSet q s → stops tail ≡ true → has_no_comma tail ≡ true → old ≡ with_bare_commas [] (aliases_in 0 (has s.0) q.range) ++ tail →
      IsWordRead (aliases_in n (has s.0) (drop n q.range)) tail word left × IsBelow (has made.0) (has s.0) n

drop-all : {A : Type 0} (xs : List A) → drop (length xs) xs ≡ []
drop-all [] = refl
drop-all (x ∷ xs) = drop-all xs

module _ (c : Contents) (q : Query) (bound : IsWellBound c q) where
  all-words : (s : ℕ → Bool) → AreWords (aliases_in 0 s q.range)
  all-words s = aliases-words s [] 0 q.range bound.range.names

  drop-names : (n : ℕ) (range : Range) → All (λ r. IsName r.1) range → All (λ (r : TableNo × List ℕ). IsName r.1) (drop n range)
  drop-names zero range h = h
  drop-names (suc n) [] h = h
  drop-names (suc n) (r ∷ rs) h = drop-names n rs (All-tail (λ (x : TableNo × List ℕ). IsName x.1) r rs h)

  pub reading-begun : (old word left : List ℕ) (made : RelSet) → IsRun old word left → ((k : ℕ) → has made.0 k ≡ false) → IsReading q old 0 made word left
  reading-begun old word left made run none = record {
    within = λ k is. absurd (true≢false (sym is ∙ none k));
    is = λ s tail set stop other e. (first-word (aliases_in 0 (has s.0) q.range) tail old word left (all-words (has s.0)) stop run e, none-below (has made.0) (has s.0) none);
  }

  module _ (n : ℕ) (r : TableNo × List ℕ) (lt : n < length q.range) (split : drop n q.range ≡ r ∷ drop (n + 1) q.range) where
    apart : All (λ (x : TableNo × List ℕ). r.1 ≢ x.1) (drop (n + 1) q.range)
    apart k d more =
        let far : (n + 1) + k < length q.range = let long = length-drop (n + 1) q.range in omega (arith, long, more) in
        let wide = length-map q.range (λ (x : TableNo × List ℕ). x.1) in
        let one : get_or (aliases q.range) n d.1 ≡ r.1 = get_or-map (λ (x : TableNo × List ℕ). x.1) q.range n d d.1 lt ∙ ap (λ (x : TableNo × List ℕ). x.1) (here d) in
        let two : get_or (aliases q.range) ((n + 1) + k) d.1 ≡ (get_or (drop (n + 1) q.range) k d).1 =
        get_or-map (λ (x : TableNo × List ℕ). x.1) q.range ((n + 1) + k) d d.1 far ∙ ap (λ (x : TableNo × List ℕ). x.1) (sym (get_or-drop (n + 1) q.range k d)) in
        λ same. bound.range.distinct n ((n + 1) + k) d.1 (let lower : n < (n + 1) + k = omega arith in lower) (let few : (n + 1) + k < length (aliases q.range) = omega (arith, far, wide) in few) (one ∙ (same ∙ sym two))
      where
        here : (d : TableNo × List ℕ) → get_or q.range n d ≡ r
        here d =
            let zero-more : n ≡ n + 0 = omega arith in
            ap (λ (m : ℕ). get_or q.range m d) zero-more ∙ (sym (get_or-drop n q.range 0 d) ∙ ap (λ (l : Range). get_or l 0 d) split)

    name : IsName r.1
    name = All-head (λ (x : TableNo × List ℕ). IsName x.1) r (drop (n + 1) q.range) (subst (All (λ (x : TableNo × List ℕ). IsName x.1)) split (drop-names n q.range bound.range.names))

    pub reading-taken : (old word left next behind : List ℕ) (made new : RelSet) → IsReading q old n made word left → word ≡ r.1 →
        ((k : ℕ) → has new.0 k ≡ (has made.0 k || nat_eq k n)) →
        ((xs : List (List ℕ)) (tail : List ℕ) → AreWords xs → stops tail ≡ true → has_no_comma tail ≡ true → left ≡ with_bare_commas (codes ",") xs ++ tail → IsWordRead xs tail next behind) →
        IsReading q old (n + 1) new next behind
    reading-taken old word left next behind made new h is more read = record {
      within = λ k is. below k (or-parts (has made.0 k) (nat_eq k n) (sym (more k) ∙ is));
      is = λ s tail set stop other e.
          let before = h.is s tail set stop other e in
          let t = taken (has s.0) tail n r (drop (n + 1) q.range) word left apart name (subst (λ (l : Range). IsWordRead (aliases_in n (has s.0) l) tail word left) split before.0) is in (
            read (aliases_in (n + 1) (has s.0) (drop (n + 1) q.range)) tail (aliases-words (has s.0) tail (n + 1) (drop (n + 1) q.range) (drop-names (n + 1) q.range bound.range.names)) stop other t.1,
            one-more-below (has made.0) (has new.0) (has s.0) n before.1 t.0 more,
          );
    } where
      or-parts : (a b : Bool) → (a || b) ≡ true → (a ≡ true) ⊎ (b ≡ true)
      or-parts true b e = inl refl
      or-parts false b e = inr e

      below : (k : ℕ) → (has made.0 k ≡ true) ⊎ (nat_eq k n ≡ true) → k < n + 1
      below k (inl e) = let lt = h.within k e in omega (arith, lt)
      below k (inr e) = let same = eqb-true k n e in omega (arith, same)

    pub reading-passed : (old word left : List ℕ) (made : RelSet) → IsReading q old n made word left → word ≢ r.1 → IsReading q old (n + 1) made word left
    reading-passed old word left made h differs = record {
      within = λ k is. let lt = h.within k is in omega (arith, lt);
      is = λ s tail set stop other e.
          let before = h.is s tail set stop other e in
          let p = passed (has s.0) tail n r (drop (n + 1) q.range) word left (subst (λ (l : Range). IsWordRead (aliases_in n (has s.0) l) tail word left) split before.0) differs in
          (p.1, no-more-below (has made.0) (has s.0) n before.1 p.0);
    }

  pub reading-done : (old word left : List ℕ) (made : RelSet) → IsReading q old (length q.range) made word left →
      (s : RelSet) (tail : List ℕ) → IsSet q s → stops tail ≡ true → has_no_comma tail ≡ true → old ≡ with_bare_commas [] (aliases_in 0 (has s.0) q.range) ++ tail → (made ≡ s) × (left ≡ tail)
  reading-done old word left made h s tail set stop other e =
      let r = h.is s tail set stop other e in
      let last = subst (λ (l : Range). IsWordRead (aliases_in (length q.range) (has s.0) l) tail word left) (drop-all q.range) r.0 in
      let same : made.0 ≡ s.0 = same_set made.0 s.0 (λ k. r.1 k ∙ member k (has s.0 k) refl) in
      (ap (λ (m : ℕ). record { 0 = m }) same, last.1)
    where
      member : (k : ℕ) (b : Bool) → has s.0 k ≡ b → (nat_lt k (length q.range) && has s.0 k) ≡ has s.0 k
      member k true is = let lt = set.within k is in ap (λ (t : Bool). t && has s.0 k) (let low : nat_lt k (length q.range) ≡ true = grind (arith, nat_tests, lt) in low)
      member k false is = ap (λ (t : Bool). nat_lt k (length q.range) && t) is ∙ (and-false (nat_lt k (length q.range)) ∙ sym is)
        where
          and-false : (a : Bool) → (a && false) ≡ false
          and-false true = refl
          and-false false = refl

-- an item of a list that a call gave, and what is left behind it
pub split-at : (xs ys : Range) (n : ℕ) (r : TableNo × List ℕ) → xs ≡ ys → r ≡ get_or xs n r → n < length xs → (n < length ys) × (drop n ys ≡ r ∷ drop (n + 1) ys)
split-at xs ys n r same is lt =
    let low : n < length ys = subst (λ (l : Range). n < length l) same lt in
    (low, drop_more ys n r low ∙ ap (λ (x : TableNo × List ℕ). x ∷ drop (n + 1) ys) (sym (is ∙ ap (λ (l : Range). get_or l n r) same)))

pub moved : (q : Query) (old : List ℕ) (n : ℕ) (made new : RelSet) (word other left behind : List ℕ) → new ≡ made → other ≡ word → behind ≡ left → IsReading q old n made word left → IsReading q old n new other behind
moved q old n made new word other left behind e f g h =
    subst (λ (s : RelSet). IsReading q old n s other behind) (sym e) (subst (λ (w : List ℕ). IsReading q old n made w behind) (sym f) (subst (λ (l : List ℕ). IsReading q old n made word l) (sym g) h))

-- a text without the word of a parameterisation is that of the empty one
pub no-param : (q : Query) (s made : RelSet) (rest old : List ℕ) → ((k : ℕ) → has made.0 k ≡ false) → ((r : List ℕ) → old ≡ codes " for " ++ r → ⊥) → old ≡ param_text q s ++ rest → (Some made ≡ Some s) × (old ≡ rest)
no-param q s made rest old none other e = by (is_empty s) refl e where
  by : (b : Bool) → is_empty s ≡ b → old ≡ cond b [] (codes " for " ++ set_text q s) ++ rest → (Some made ≡ Some s) × (old ≡ rest)
  by true is f =
      let zero : s.0 ≡ 0 = eqb-true s.0 0 is in
      let same : made.0 ≡ s.0 = none-zero made.0 none ∙ sym zero in
      (ap (λ (n : ℕ). Some (record { 0 = n })) same, f)
  by false is f = absurd (other (set_text q s ++ rest) (f ∙ append_assoc (codes " for ") (set_text q s) rest))

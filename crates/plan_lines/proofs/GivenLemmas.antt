-- Aliases in a list read one by one; nothing follows the list.
use Rattle.std.proofs.Common.{◌≡◌, ◌≢◌, ◌<◌, ◌+◌, ℕ, zero, suc, Bool, true, false, ◌&&◌, ◌||◌, nat_eq, nat_lt, ◌⊎◌, inl, inr, List, [], ◌∷◌, ◌++◌, codes, length, drop, get_or, refl, sym, ap, ◌∙◌, subst, arith}
use Rattle.std.specs.Prelude.{◌≤◌, All}
use Rattle.std.specs.List.{list_all}
use Rattle.std.proofs.lemmas.Bool.{true≢false, lt-ltb, le-ltb}
use Rattle.std.proofs.lemmas.Bool.Decides.{nat_tests}
use Rattle.std.proofs.lemmas.List.{append_cancel_left, get_or-drop, get_or-map, length-append, length-drop, length-map}
use Rattle.std.proofs.lemmas.List.Elements.{All-cons, All-head, All-tail}
use Rattle.pg_base.specs.Names.{IsName, is_in_name}
use Rattle.pg_base.specs.Sets.{has}
use Rattle.pg_base.specs.declared.rel_set.RelSet.{RelSet}
use Rattle.pg_base.proofs.SetLaws.{same_set}
use Rattle.catalog.specs.Contents.{Contents}
use Rattle.certificate_text.specs.work.Words.{stops}
use Rattle.sql_query.specs.Queries.{Query}
use Rattle.sql_query.specs.WellBound.{IsWellBound}
use Rattle.pg_base.specs.declared.numbers.TableNo.{TableNo}
use Rattle.catalog.specs.Range.{Range, aliases}
use Rattle.certificate_entries.specs.explain_Texts.{aliases_in, given_text, with_alias, with_commas}
use Rattle.certificate_entries.specs.certificate_text_HasText.{IsSetOf}
use Rattle.pg_base.proofs.NameLemmas.{name-word}
use Rattle.plan_tree.proofs.ElementLemmas.{same-number}
use Rattle.plan_lines.specs.work.Words.{IsWordRead}
use Rattle.pg_base.proofs.NumberLemmas.{below-next}

abbrev pub AreWords : List (List ℕ) → Type 0
AreWords xs = All (λ x. list_all is_in_name x ≡ true) xs

-- what the clause of a word says of the longest run
abbrev pub IsRun : List ℕ → List ℕ → List ℕ → Type 0
IsRun old word new = (w : List ℕ) (rest : List ℕ) → old ≡ w ++ rest → list_all is_in_name w ≡ true → stops rest ≡ true → (word ≡ w) × (new ≡ rest)

stops-more : (xs : List (List ℕ)) → stops (with_commas (codes ", ") xs) ≡ true
stops-more [] = refl
stops-more (x ∷ xs) = refl

-- the first of some words is taken behind the bytes that stand before it, where there is one
pub word-taken : (xs : List (List ℕ)) (before old mid word new : List ℕ) → AreWords xs → 1 ≤ length before → old ≡ before ++ mid → IsRun mid word new → old ≡ with_commas before xs → IsWordRead xs word new
word-taken [] before old mid word new ws some is run e =
    let long : length old ≡ length before + length mid = ap (λ (l : List ℕ). length l) is ∙ length-append before mid in
    let none : length old ≡ 0 = ap (λ (l : List ℕ). length l) e in
    absurd (omega (arith, some, long, none))
word-taken (x ∷ xs) before old mid word new ws some is run e =
    let same : mid ≡ x ++ with_commas (codes ", ") xs = append_cancel_left before mid (x ++ with_commas (codes ", ") xs) (sym is ∙ e) in
    run x (with_commas (codes ", ") xs) same (All-head (λ y. list_all is_in_name y ≡ true) x xs ws) (stops-more xs)

-- where those bytes do not come next, there is none
pub word-left : (xs : List (List ℕ)) (before old mid word : List ℕ) → word ≡ [] → mid ≡ old → ((rest : List ℕ) → old ≡ before ++ rest → ⊥) → old ≡ with_commas before xs → IsWordRead xs word mid
word-left [] before old mid word w left other e = (w, left ∙ e)
word-left (x ∷ xs) before old mid word w left other e = absurd (other (x ++ with_commas (codes ", ") xs) e)

-- the aliases of a set that are left: the word that was read is the next of them, or there is none, and no further comma
module _ (s : ℕ → Bool) where
  -- every alias is a word, and not empty
  words-with : (b : Bool) (x : List ℕ) (xs : List (List ℕ)) → list_all is_in_name x ≡ true → AreWords xs → AreWords (with_alias b x xs)
  words-with true x xs h hs = All-cons (λ y. list_all is_in_name y ≡ true) x xs h hs
  words-with false x xs h hs = hs

  pub aliases-words : (n : ℕ) (range : Range) → All (λ r. IsName r.1) range → AreWords (aliases_in n s range)
  aliases-words n [] h = λ k d lt. absurd (omega (arith, lt))
  aliases-words n (r ∷ rs) h = words-with (s n) r.1 (aliases_in (n + 1) s rs) (name-word r.1 (All-head (λ (x : TableNo × List ℕ). IsName x.1) r rs h)) (aliases-words (n + 1) rs (All-tail (λ (x : TableNo × List ℕ). IsName x.1) r rs h))

  -- the first of the aliases left, if there is one, is an alias of a later relation
  later : (n : ℕ) (rs : Range) (a word left : List ℕ) → All (λ (r : TableNo × List ℕ). a ≢ r.1) rs → a ≢ [] → IsWordRead (aliases_in n s rs) word left → a ≢ word
  later n [] a word left apart some h same = some (same ∙ h.0)
  later n (r ∷ rs) a word left apart some h same =
      by (s n) h (λ more. later (n + 1) rs a word left (All-tail (λ (x : TableNo × List ℕ). a ≢ x.1) r rs apart) some more same)
    where
      by : (b : Bool) → IsWordRead (with_alias b r.1 (aliases_in (n + 1) s rs)) word left → (IsWordRead (aliases_in (n + 1) s rs) word left → ⊥) → ⊥
      by true h more = All-head (λ (x : TableNo × List ℕ). a ≢ x.1) r rs apart (same ∙ h.0)
      by false h more = more h

  -- where the word is the alias of the next relation, that is one of the set
  pub taken : (n : ℕ) (r : TableNo × List ℕ) (rs : Range) (word left : List ℕ) → All (λ (x : TableNo × List ℕ). r.1 ≢ x.1) rs → IsName r.1 → IsWordRead (aliases_in n s (r ∷ rs)) word left → word ≡ r.1 →
      (s n ≡ true) × (left ≡ with_commas (codes ", ") (aliases_in (n + 1) s rs))
  taken n r rs word left apart name h is = by (s n) refl h where
    some : r.1 ≢ []
    some e = subst IsName e name

    by : (b : Bool) → s n ≡ b → IsWordRead (with_alias b r.1 (aliases_in (n + 1) s rs)) word left → (s n ≡ true) × (left ≡ with_commas (codes ", ") (aliases_in (n + 1) s rs))
    by true e h = (e, h.1)
    by false e h = absurd (later (n + 1) rs r.1 word left apart some h (sym is))

  -- where it is another, that is none of the set
  pub passed : (n : ℕ) (r : TableNo × List ℕ) (rs : Range) (word left : List ℕ) → IsWordRead (aliases_in n s (r ∷ rs)) word left → word ≢ r.1 → (s n ≡ false) × IsWordRead (aliases_in (n + 1) s rs) word left
  passed n r rs word left h other = by (s n) refl h where
    by : (b : Bool) → s n ≡ b → IsWordRead (with_alias b r.1 (aliases_in (n + 1) s rs)) word left → (s n ≡ false) × IsWordRead (aliases_in (n + 1) s rs) word left
    by true e h = absurd (other h.0)
    by false e h = (e, h)

-- a set so far, with the members below a number
abbrev pub IsBelow : (ℕ → Bool) → (ℕ → Bool) → ℕ → Type 0
IsBelow made s n = (k : ℕ) → made k ≡ (nat_lt k n && s k)

none-below : (made s : ℕ → Bool) → ((k : ℕ) → made k ≡ false) → IsBelow made s 0
none-below made s h k = h k ∙ sym (ap (λ (t : Bool). t && s k) (le-ltb k 0 (omega arith)))

one-more-below : (made new s : ℕ → Bool) (n : ℕ) → IsBelow made s n → s n ≡ true → ((k : ℕ) → new k ≡ (made k || nat_eq k n)) → IsBelow new s (n + 1)
one-more-below made new s n h is more k = more k ∙ (ap (λ (b : Bool). b || nat_eq k n) (h k) ∙ by (nat_eq k n) refl) where
  by : (b : Bool) → nat_eq k n ≡ b → ((nat_lt k n && s k) || b) ≡ (nat_lt k (n + 1) && s k)
  by true e = or-true (nat_lt k n && s k) ∙ sym (ap (λ (m : ℕ). nat_lt m (n + 1) && s m) (same-number k n e) ∙ (ap (λ (t : Bool). t && s n) (lt-ltb n (n + 1) (omega arith)) ∙ is))
    where
      or-true : (a : Bool) → (a || true) ≡ true
      or-true true = refl
      or-true false = refl
  by false e = or-false (nat_lt k n && s k) ∙ sym (ap (λ (t : Bool). t && s k) (below-next k n e))
    where
      or-false : (a : Bool) → (a || false) ≡ a
      or-false true = refl
      or-false false = refl

no-more-below : (made s : ℕ → Bool) (n : ℕ) → IsBelow made s n → s n ≡ false → IsBelow made s (n + 1)
no-more-below made s n h is k = h k ∙ by (nat_eq k n) refl where
  by : (b : Bool) → nat_eq k n ≡ b → (nat_lt k n && s k) ≡ (nat_lt k (n + 1) && s k)
  by true e =
      let here : (m : ℕ) → (nat_lt m n && s n) ≡ (nat_lt m (n + 1) && s n) = λ m. ap (λ (t : Bool). nat_lt m n && t) is ∙ (and-false (nat_lt m n) ∙ sym (ap (λ (t : Bool). nat_lt m (n + 1) && t) is ∙ and-false (nat_lt m (n + 1)))) in
      ap (λ (m : ℕ). nat_lt k n && s m) (same-number k n e) ∙ (here k ∙ sym (ap (λ (m : ℕ). nat_lt k (n + 1) && s m) (same-number k n e)))
    where
      and-false : (a : Bool) → (a && false) ≡ false
      and-false true = refl
      and-false false = refl
  by false e = sym (ap (λ (t : Bool). t && s k) (below-next k n e))

-- what is read of a set before a relation, whatever the set is
pub record IsReading (q : Query) (old : List ℕ) (n : ℕ) (made : RelSet) (word left : List ℕ) : Type 0 where
  pub within : (k : ℕ) → has made.0 k ≡ true → k < n
  pub is : (s : RelSet) → IsSetOf q (has s.0) → old ≡ given_text q.range s →
      IsWordRead (aliases_in n (has s.0) (drop n q.range)) word left × IsBelow (has made.0) (has s.0) n

module _ (c : Contents) (q : Query) (bound : IsWellBound c q) where
  all-words : (s : ℕ → Bool) → AreWords (aliases_in 0 s q.range)
  all-words s = aliases-words s 0 q.range bound.range.names

  drop-names : (n : ℕ) (range : Range) → All (λ r. IsName r.1) range → All (λ (r : TableNo × List ℕ). IsName r.1) (drop n range)
  drop-names zero range h = h
  drop-names (suc n) [] h = h
  drop-names (suc n) (r ∷ rs) h = drop-names n rs (All-tail (λ (x : TableNo × List ℕ). IsName x.1) r rs h)

  pub reading-begun : (old word left : List ℕ) (made : RelSet) → ((xs : List (List ℕ)) → AreWords xs → old ≡ with_commas (codes " for ") xs → IsWordRead xs word left) → ((k : ℕ) → has made.0 k ≡ false) → IsReading q old 0 made word left
  reading-begun old word left made run none = record {
    within = λ k is. absurd (true≢false (sym is ∙ none k));
    is = λ s set e. (run (aliases_in 0 (has s.0) q.range) (all-words (has s.0)) e, none-below (has made.0) (has s.0) none);
  }

  module _ (n : ℕ) (r : TableNo × List ℕ) (lt : n < length q.range) (split : drop n q.range ≡ r ∷ drop (n + 1) q.range) where
    apart : All (λ (x : TableNo × List ℕ). r.1 ≢ x.1) (drop (n + 1) q.range)
    apart k d more =
        let far : (n + 1) + k < length q.range = let long = length-drop (n + 1) q.range in omega (arith, long, more) in
        let wide = length-map q.range (λ (x : TableNo × List ℕ). x.1) in
        let one : get_or (aliases q.range) n d.1 ≡ r.1 = get_or-map (λ (x : TableNo × List ℕ). x.1) q.range n d d.1 lt ∙ ap (λ (x : TableNo × List ℕ). x.1) (here d) in
        let two : get_or (aliases q.range) ((n + 1) + k) d.1 ≡ (get_or (drop (n + 1) q.range) k d).1 =
        get_or-map (λ (x : TableNo × List ℕ). x.1) q.range ((n + 1) + k) d d.1 far ∙ ap (λ (x : TableNo × List ℕ). x.1) (sym (get_or-drop (n + 1) q.range k d)) in
        λ same. bound.range.distinct n ((n + 1) + k) d.1 (let lower : n < (n + 1) + k = omega arith in lower) (let few : (n + 1) + k < length (aliases q.range) = omega (arith, far, wide) in few) (one ∙ (same ∙ sym two))
      where
        here : (d : TableNo × List ℕ) → get_or q.range n d ≡ r
        here d =
            let zero-more : n ≡ n + 0 = omega arith in
            ap (λ (m : ℕ). get_or q.range m d) zero-more ∙ (sym (get_or-drop n q.range 0 d) ∙ ap (λ (l : Range). get_or l 0 d) split)

    name : IsName r.1
    name = All-head (λ (x : TableNo × List ℕ). IsName x.1) r (drop (n + 1) q.range) (subst (All (λ (x : TableNo × List ℕ). IsName x.1)) split (drop-names n q.range bound.range.names))

    pub reading-taken : (old word left next behind : List ℕ) (made new : RelSet) → IsReading q old n made word left → word ≡ r.1 →
        ((k : ℕ) → has new.0 k ≡ (has made.0 k || nat_eq k n)) →
        ((xs : List (List ℕ)) → AreWords xs → left ≡ with_commas (codes ", ") xs → IsWordRead xs next behind) →
        IsReading q old (n + 1) new next behind
    reading-taken old word left next behind made new h is more read = record {
      within = λ k is. below k (or-parts (has made.0 k) (nat_eq k n) (sym (more k) ∙ is));
      is = λ s set e.
          let before = h.is s set e in
          let t = taken (has s.0) n r (drop (n + 1) q.range) word left apart name (subst (λ (l : Range). IsWordRead (aliases_in n (has s.0) l) word left) split before.0) is in (
            read (aliases_in (n + 1) (has s.0) (drop (n + 1) q.range)) (aliases-words (has s.0) (n + 1) (drop (n + 1) q.range) (drop-names (n + 1) q.range bound.range.names)) t.1,
            one-more-below (has made.0) (has new.0) (has s.0) n before.1 t.0 more,
          );
    } where
      or-parts : (a b : Bool) → (a || b) ≡ true → (a ≡ true) ⊎ (b ≡ true)
      or-parts true b e = inl refl
      or-parts false b e = inr e

      below : (k : ℕ) → (has made.0 k ≡ true) ⊎ (nat_eq k n ≡ true) → k < n + 1
      below k (inl e) = let lt = h.within k e in omega (arith, lt)
      below k (inr e) = let same = same-number k n e in omega (arith, same)

    pub reading-passed : (old word left : List ℕ) (made : RelSet) → IsReading q old n made word left → word ≢ r.1 → IsReading q old (n + 1) made word left
    reading-passed old word left made h differs = record {
      within = λ k is. let lt = h.within k is in omega (arith, lt);
      is = λ s set e.
          let before = h.is s set e in
          let p = passed (has s.0) n r (drop (n + 1) q.range) word left (subst (λ (l : Range). IsWordRead (aliases_in n (has s.0) l) word left) split before.0) differs in
          (p.1, no-more-below (has made.0) (has s.0) n before.1 p.0);
    }

  pub reading-done : (old word left : List ℕ) (made : RelSet) → IsReading q old (length q.range) made word left →
      (s : RelSet) → IsSetOf q (has s.0) → old ≡ given_text q.range s → made ≡ s
  reading-done old word left made h s set e =
      let r = h.is s set e in
      let same : made.0 ≡ s.0 = same_set made.0 s.0 (λ k. r.1 k ∙ member k (has s.0 k) refl) in
      ap (λ (m : ℕ). let x : RelSet = record { 0 = m } in x) same
    where
      member : (k : ℕ) (b : Bool) → has s.0 k ≡ b → (nat_lt k (length q.range) && has s.0 k) ≡ has s.0 k
      member k true is = let lt = set k is in ap (λ (t : Bool). t && has s.0 k) (let low : nat_lt k (length q.range) ≡ true = grind (arith, nat_tests, lt) in low)
      member k false is = ap (λ (t : Bool). nat_lt k (length q.range) && t) is ∙ (and-false (nat_lt k (length q.range)) ∙ sym is)
        where
          and-false : (a : Bool) → (a && false) ≡ false
          and-false true = refl
          and-false false = refl

pub moved : (q : Query) (old : List ℕ) (n : ℕ) (made new : RelSet) (word other left behind : List ℕ) → new ≡ made → other ≡ word → behind ≡ left → IsReading q old n made word left → IsReading q old n new other behind
moved q old n made new word other left behind e f g h =
    subst (λ (s : RelSet). IsReading q old n s other behind) (sym e) (subst (λ (w : List ℕ). IsReading q old n made w behind) (sym f) (subst (λ (l : List ℕ). IsReading q old n made word l) (sym g) h))

-- Texts in a row, each behind a comma and a space but the first, read one by one.
use Rattle.std.proofs.Common.{◌≡◌, ◌≤◌, ℕ, true, List, [], ◌∷◌, ◌++◌, codes, length, map, drop, sym, ap, ◌∙◌, arith}
use Rattle.std.specs.Prelude.{All, Option, Some, None}
use Rattle.std.proofs.lemmas.Bool.{true≢false}
use Rattle.std.proofs.lemmas.List.{append_assoc, append-nil}
use Rattle.std.proofs.lemmas.List.Elements.{All-head, All-tail}
use Rattle.certificate_text.specs.explain_Texts.{with_commas}
use Rattle.certificate_entries.specs.work.Parts.{has_no_comma}

-- things with texts, the texts before which one ends, and what comes before a comma among them
module _ {A : Type 0} (Has : A → Type 0) (text : A → List ℕ) (Ends : List ℕ → Type 0) (comma : (l : List ℕ) → Ends (44 ∷ l)) where
  -- what a reader of one thing does
  abbrev pub IsItem : List ℕ → List ℕ → Option A → Type 0
  IsItem old new o = (x : A) (rest : List ℕ) → Has x → Ends rest → old ≡ text x ++ rest → (o ≡ Some x) × (new ≡ rest)

  -- some of the things were read, and the others are left
  pub record IsLeft (xs : List A) (rest : List ℕ) (taken : List A) (left : List ℕ) : Type 0 where
    pub more : List A
    pub all : xs ≡ taken ++ more
    pub each : All Has more
    pub spells : left ≡ with_commas (codes ", ") (map text more) ++ rest

  -- some of the things were read, and the others are left, whatever the things are
  pub record IsListLeft (old : List ℕ) (taken : List A) (left : List ℕ) : Type 0 where
    pub is : (xs : List A) (rest : List ℕ) → All Has xs → 1 ≤ length xs → Ends rest → has_no_comma rest ≡ true → old ≡ with_commas [] (map text xs) ++ rest → IsLeft xs rest taken left

  ends-more : (xs : List A) (rest : List ℕ) → Ends rest → Ends (with_commas (codes ", ") (map text xs) ++ rest)
  ends-more [] rest h = h
  ends-more (x ∷ xs) rest h = comma (32 ∷ ((text x ++ with_commas (codes ", ") (map text xs)) ++ rest))

  some-same : (a b : A) → Some a ≡ Some b → a ≡ b
  some-same a b e = cc

  -- the first
  one-read : (old new : List ℕ) (o : Option A) (x : A) (xs : List A) (rest : List ℕ) → IsItem old new o → All Has (x ∷ xs) → Ends rest → old ≡ (text x ++ with_commas (codes ", ") (map text xs)) ++ rest →
      (o ≡ Some x) × (new ≡ with_commas (codes ", ") (map text xs) ++ rest)
  one-read old new o x xs rest item has ends e =
      item x (with_commas (codes ", ") (map text xs) ++ rest) (All-head Has x xs has) (ends-more xs rest ends) (e ∙ append_assoc (text x) (with_commas (codes ", ") (map text xs)) rest)

  pub first-taken : (old new : List ℕ) (o : Option A) (a : A) → IsItem old new o → o ≡ Some a → IsListLeft old (a ∷ []) new
  first-taken old new o a item found = record { is = each }
    where
      each : (xs : List A) (rest : List ℕ) → All Has xs → 1 ≤ length xs → Ends rest → has_no_comma rest ≡ true → old ≡ with_commas [] (map text xs) ++ rest → IsLeft xs rest (a ∷ []) new
      each [] rest has some ends other e = absurd (omega (arith, some))
      each (x ∷ xs) rest has some ends other e =
          let r = one-read old new o x xs rest item has ends e in
          record { more = xs; all = ap (λ (y : A). y ∷ xs) (some-same x a (sym r.0 ∙ found)); each = All-tail Has x xs has; spells = r.1 }

  none-some : (a : A) → None ≡ Some a → ⊥
  none-some a e = cc

  pub first-none : (old new : List ℕ) (o : Option A) → IsItem old new o → o ≡ None → (xs : List A) (rest : List ℕ) → All Has xs → 1 ≤ length xs → Ends rest → old ≡ with_commas [] (map text xs) ++ rest → ⊥
  first-none old new o item none [] rest has some ends e = omega (arith, some)
  first-none old new o item none (x ∷ xs) rest has some ends e = let r = one-read old new o x xs rest item has ends e in none-some x (sym none ∙ r.0)

  -- one more, behind a comma
  pub next-taken : (old left mid new : List ℕ) (taken : List A) (o : Option A) (a : A) → IsListLeft old taken left → left ≡ codes ", " ++ mid → IsItem mid new o → o ≡ Some a → IsListLeft old (taken ++ a ∷ []) new
  next-taken old left mid new taken o a before is item found = record { is = λ xs rest has some ends other e. each rest ends other xs (before.is xs rest has some ends other e) }
    where
      by : (xs : List A) (rest : List ℕ) (more : List A) → Ends rest → has_no_comma rest ≡ true → xs ≡ taken ++ more → All Has more → left ≡ with_commas (codes ", ") (map text more) ++ rest → IsLeft xs rest (taken ++ a ∷ []) new
      by xs rest [] ends other all has text' = absurd (true≢false (sym other ∙ ap has_no_comma (sym text' ∙ is)))
      by xs rest (y ∷ ys) ends other all has text' =
          let here : mid ≡ (text y ++ with_commas (codes ", ") (map text ys)) ++ rest = ap (λ (l : List ℕ). drop 2 l) (sym is ∙ text') in
          let r = one-read mid new o y ys rest item has ends here in
          let same : y ≡ a = some-same y a (sym r.0 ∙ found) in
          record { more = ys; all = all ∙ (ap (λ (z : A). taken ++ z ∷ ys) same ∙ sym (append_assoc taken (a ∷ []) ys)); each = All-tail Has y ys has; spells = r.1 }

      each : (rest : List ℕ) → Ends rest → has_no_comma rest ≡ true → (xs : List A) → IsLeft xs rest taken left → IsLeft xs rest (taken ++ a ∷ []) new
      each rest ends other xs l = by xs rest l.more ends other l.all l.each l.spells

  pub next-none : (old left mid new : List ℕ) (taken : List A) (o : Option A) → IsListLeft old taken left → left ≡ codes ", " ++ mid → IsItem mid new o → o ≡ None →
      (xs : List A) (rest : List ℕ) → All Has xs → 1 ≤ length xs → Ends rest → has_no_comma rest ≡ true → old ≡ with_commas [] (map text xs) ++ rest → ⊥
  next-none old left mid new taken o before is item none xs rest has some ends other e = by l.more l.each l.spells
    where
      l : IsLeft xs rest taken left
      l = before.is xs rest has some ends other e

      by : (more : List A) → All Has more → left ≡ with_commas (codes ", ") (map text more) ++ rest → ⊥
      by [] has text' = true≢false (sym other ∙ ap has_no_comma (sym text' ∙ is))
      by (y ∷ ys) has text' =
          let here : mid ≡ (text y ++ with_commas (codes ", ") (map text ys)) ++ rest = ap (λ (l : List ℕ). drop 2 l) (sym is ∙ text') in
          let r = one-read mid new o y ys rest item has ends here in
          none-some y (sym none ∙ r.0)

  -- no comma comes any more
  pub all-taken : (old left new : List ℕ) (taken : List A) → IsListLeft old taken left → ((r : List ℕ) → left ≡ codes ", " ++ r → ⊥) → new ≡ left →
      (xs : List A) (rest : List ℕ) → All Has xs → 1 ≤ length xs → Ends rest → has_no_comma rest ≡ true → old ≡ with_commas [] (map text xs) ++ rest → (taken ≡ xs) × (new ≡ rest)
  all-taken old left new taken before other same xs rest has some ends bare e = by l.more l.all l.spells
    where
      l : IsLeft xs rest taken left
      l = before.is xs rest has some ends bare e

      by : (more : List A) → xs ≡ taken ++ more → left ≡ with_commas (codes ", ") (map text more) ++ rest → (taken ≡ xs) × (new ≡ rest)
      by [] all text' = (sym (all ∙ append-nil taken), same ∙ text')
      by (y ∷ ys) all text' = absurd (other ((text y ++ with_commas (codes ", ") (map text ys)) ++ rest) text')

-- Things beneath a line, each with its lines, read one by one.
use Rattle.std.proofs.Common.{◌≡◌, ◌+◌, ℕ, List, [], ◌∷◌, ◌++◌, refl, sym, ap, ◌∙◌, subst}
use Rattle.std.specs.Prelude.{All, Option, Some, None}
use Rattle.std.specs.List.{flat_map}
use Rattle.std.proofs.lemmas.List.{append_assoc, append-nil}
use Rattle.std.proofs.lemmas.List.Elements.{All-head, All-tail}
use Rattle.certificate_entries.specs.explain_Texts.{lead}
use Rattle.plan_lines.specs.work.Parts.{IsShallow}
use Rattle.plan_lines.proofs.LineLemmas.{line-shallow, shallow-more}

-- things with texts, each of which begins with a line one deeper than d
module _ {A : Type 0} (Has : A → Type 0) (text : A → List ℕ) (d : ℕ) (begins : (x : A) (z : List ℕ) → (w : List ℕ) × (text x ++ z ≡ lead (d + 1) ++ w)) where
  -- some of the things were read, and the others are left
  pub record IsLeft (xs : List A) (rest : List ℕ) (taken : List A) (left : List ℕ) : Type 0 where
    pub more : List A
    pub all : xs ≡ taken ++ more
    pub each : All Has more
    pub spells : left ≡ flat_map text more ++ rest

  -- some of the things were read, and the others are left, whatever the things are
  pub record AreRead (old : List ℕ) (taken : List A) (left : List ℕ) : Type 0 where
    pub is : (xs : List A) (rest : List ℕ) → All Has xs → IsShallow d rest → old ≡ flat_map text xs ++ rest → IsLeft xs rest taken left

  pub begun : (old : List ℕ) → AreRead old [] old
  begun old = record { is = λ xs rest has shallow e. record { more = xs; all = refl; each = has; spells = e } }

  pub behind-shallow : (xs : List A) (rest : List ℕ) → IsShallow d rest → IsShallow (d + 1) (flat_map text xs ++ rest)
  behind-shallow [] rest h = shallow-more d rest h
  behind-shallow (x ∷ xs) rest h =
      let w = begins x (flat_map text xs ++ rest) in
      subst (IsShallow (d + 1)) (sym (append_assoc (text x) (flat_map text xs) rest ∙ w.1)) (line-shallow d w.0)

  -- what is done where a thing comes next
  abbrev pub IsItem : List ℕ → Option A → List ℕ → Type 0
  IsItem left o new = (x : A) (z : List ℕ) → Has x → IsShallow (d + 1) z → left ≡ text x ++ z → (o ≡ Some x) × (new ≡ z)

  some-same : (a b : A) → Some a ≡ Some b → a ≡ b
  some-same a b e = cc

  none-some : (a : A) → None ≡ Some a → ⊥
  none-some a e = cc

  one-read : (left new : List ℕ) (o : Option A) (x : A) (xs : List A) (rest : List ℕ) → IsItem left o new → All Has (x ∷ xs) → IsShallow d rest → left ≡ flat_map text (x ∷ xs) ++ rest → (o ≡ Some x) × (new ≡ flat_map text xs ++ rest)
  one-read left new o x xs rest item has shallow e =
      item x (flat_map text xs ++ rest) (All-head Has x xs has) (behind-shallow xs rest shallow) (e ∙ append_assoc (text x) (flat_map text xs) rest)

  pub one-more : (old left new : List ℕ) (taken : List A) (o : Option A) (a : A) → AreRead old taken left → (IsShallow d left → ⊥) → IsItem left o new → o ≡ Some a → AreRead old (taken ++ a ∷ []) new
  one-more old left new taken o a before deep item found = record { is = λ xs rest has shallow e. each xs rest shallow (before.is xs rest has shallow e) }
    where
      by : (xs : List A) (rest : List ℕ) (more : List A) → IsShallow d rest → xs ≡ taken ++ more → All Has more → left ≡ flat_map text more ++ rest → IsLeft xs rest (taken ++ a ∷ []) new
      by xs rest [] shallow all has spells = absurd (deep (subst (IsShallow d) (sym spells) shallow))
      by xs rest (y ∷ ys) shallow all has spells =
          let r = one-read left new o y ys rest item has shallow spells in
          let same : y ≡ a = some-same y a (sym r.0 ∙ found) in
          record { more = ys; all = all ∙ (ap (λ (z : A). taken ++ z ∷ ys) same ∙ sym (append_assoc taken (a ∷ []) ys)); each = All-tail Has y ys has; spells = r.1 }

      each : (xs : List A) (rest : List ℕ) → IsShallow d rest → IsLeft xs rest taken left → IsLeft xs rest (taken ++ a ∷ []) new
      each xs rest shallow l = by xs rest l.more shallow l.all l.each l.spells

  pub broken : (old left new : List ℕ) (taken : List A) (o : Option A) → AreRead old taken left → (IsShallow d left → ⊥) → IsItem left o new → o ≡ None →
      (xs : List A) (rest : List ℕ) → All Has xs → IsShallow d rest → old ≡ flat_map text xs ++ rest → ⊥
  broken old left new taken o before deep item none xs rest has shallow e = each (before.is xs rest has shallow e)
    where
      by : (more : List A) → All Has more → left ≡ flat_map text more ++ rest → ⊥
      by [] has spells = deep (subst (IsShallow d) (sym spells) shallow)
      by (y ∷ ys) has spells = let r = one-read left new o y ys rest item has shallow spells in none-some y (sym none ∙ r.0)

      each : IsLeft xs rest taken left → ⊥
      each l = by l.more l.each l.spells

  -- no line one deeper comes next
  pub done : (old left new : List ℕ) (taken : List A) → AreRead old taken left → ((x : A) (z : List ℕ) → Has x → left ≡ text x ++ z → ⊥) → new ≡ left →
      (xs : List A) (rest : List ℕ) → All Has xs → IsShallow d rest → old ≡ flat_map text xs ++ rest → (taken ≡ xs) × (new ≡ rest)
  done old left new taken before other same xs rest has shallow e = each (before.is xs rest has shallow e)
    where
      by : (more : List A) → xs ≡ taken ++ more → All Has more → left ≡ flat_map text more ++ rest → (taken ≡ xs) × (new ≡ rest)
      by [] all has spells = (sym (all ∙ append-nil taken), same ∙ spells)
      by (y ∷ ys) all has spells = absurd (other y (flat_map text ys ++ rest) (All-head Has y ys has) (spells ∙ append_assoc (text y) (flat_map text ys) rest))

      each : IsLeft xs rest taken left → (taken ≡ xs) × (new ≡ rest)
      each l = by l.more l.all l.each l.spells

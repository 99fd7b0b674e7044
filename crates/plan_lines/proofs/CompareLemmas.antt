-- Texts compared part by part.
use Rattle.std.proofs.Common.{◌≡◌, ◌<◌, ◌+◌, ℕ, suc, subst, List, ◌∷◌, ◌++◌, Bor, codes, length, drop, get_or, refl, sym, ap, ◌∙◌, append_assoc, arith, drop-cons}
use Rattle.std.specs.Prelude.{Option, Some, None, IfSome, option_map, slice_get}
use Rattle.std.specs.Fmt.{decimal}
use Rattle.std.specs.List.{flat_map}
use Rattle.std.proofs.lemmas.List.{append_cancel_left}
use Rattle.std.proofs.lemmas.Option.{same_Some}
use Rattle.pg_base.specs.declared.numbers.IndexNo.{IndexNo}
use Rattle.catalog.specs.Contents.{Contents}
use Rattle.sql_query.specs.Queries.{Query}
use Rattle.plan_tree.specs.Plans.{BitTree, leaf, all_hold, some_arm, BitTrees}
use Rattle.certificate_entries.specs.explain_Texts.{bits_text, conjunct_by, leaf_line, number_text, plain_line, trees_text}
use Rattle.pg_base.proofs.OptionLemmas.{none-some-too as none-some}
use Rattle.pg_base.proofs.ListLemmas.{joined-parts as two-is}

pub some-of : (o : Option ℕ) → ¬ (o ≡ None) → (m : ℕ) × (o ≡ Some m)
some-of None h = absurd (h refl)
some-of (Some m) h = (m, refl)

pub two-if : (text a left b : List ℕ) (r : Option (Bor (List ℕ))) → text ≡ a ++ left → IfSome r (λ l. left ≡ b ++ l.now) → IfSome r (λ l. text ≡ (a ++ b) ++ l.now)
two-if text a left b None e f = tt
two-if text a left b (Some l) e f = two-is text a left b l.now e f

pub two-only : (text a b left : List ℕ) (one two : Option (List ℕ)) → ((r : List ℕ) → text ≡ a ++ r → one ≡ Some r) → one ≡ Some left → ((r : List ℕ) → left ≡ b ++ r → two ≡ Some r) →
    (rest : List ℕ) → text ≡ (a ++ b) ++ rest → two ≡ Some rest
two-only text a b left one two first found second rest e =
    second rest (same_Some left (b ++ rest) (sym found ∙ first (b ++ rest) (e ∙ append_assoc a b rest)))

pub two-none : (text a b : List ℕ) (one : Option (List ℕ)) → ((r : List ℕ) → text ≡ a ++ r → one ≡ Some r) → one ≡ None → (rest : List ℕ) → text ≡ (a ++ b) ++ rest → ⊥
two-none text a b one first none rest e = none-some one (b ++ rest) none (first (b ++ rest) (e ∙ append_assoc a b rest))

-- no item of a list comes next
pub no-item : {A : Type 0} (f : A → List ℕ) (xs : List A) (n : ℕ) (d : A) (left : List ℕ) (res : Option (List ℕ)) → n < length xs → ((r : List ℕ) → left ≡ f (get_or xs n d) ++ r → res ≡ Some r) → res ≡ None →
    (rest : List ℕ) → left ≡ flat_map f (drop n xs) ++ rest → ⊥
no-item f xs n d left res lt only none rest e =
    let same : drop n xs ≡ get_or xs n d ∷ drop (n + 1) xs = drop-cons xs n d lt ∙ ap (λ (m : ℕ). get_or xs n d ∷ drop m xs) (let s : suc n ≡ n + 1 = omega arith in s) in
    let more = flat_map f (drop (n + 1) xs) in
    none-some res (more ++ rest) none (only (more ++ rest) (e ∙ (ap (λ l. flat_map f l ++ rest) same ∙ append_assoc (f (get_or xs n d)) more rest)))

pub number-left : (n m : ℕ) (text word left rest : List ℕ) (o : Option ℕ) → o ≡ Some m → o ≡ Some n → word ≡ decimal n → text ≡ word ++ left → text ≡ decimal n ++ rest → ◌≡◌ {A = Option (ℕ × List ℕ)} (Some (m, left)) (Some (n, rest))
number-left n m text word left rest o found is same e f =
    let number : m ≡ n = one m n (sym found ∙ is) in
    let more : left ≡ rest = append_cancel_left (decimal n) left rest (sym (e ∙ ap (λ (l : List ℕ). l ++ left) same) ∙ f) in
    λ t. Some (number t, more t)
  where
    one : (a b : ℕ) → Some a ≡ Some b → a ≡ b
    one a b e = cc

pub number-found : (o : Option (ℕ × Bor (List ℕ))) (n : ℕ) (l : Bor (List ℕ)) (m : ℕ) (rest : List ℕ) → o ≡ Some (n, l) → option_map {U = ℕ × List ℕ} (λ p. (p.0, p.1.now)) o ≡ Some (m, rest) → n ≡ m
number-found o n l m rest was e = one n m (ap (option_map (λ (x : ℕ × List ℕ). x.0)) (sym (ap (option_map {U = ℕ × List ℕ} (λ p. (p.0, p.1.now))) was) ∙ e))
  where
    one : (a b : ℕ) → Some a ≡ Some b → a ≡ b
    one a b e = cc

-- the lines of a bitmap tree: the first, and those beneath it
module _ (c : Contents) (q : Query) (d : ℕ) (text left : List ℕ) (b : BitTree) where
  pub leaf-only : (i : IndexNo) (o : Option (List ℕ)) → b ≡ leaf i → ((rest : List ℕ) → text ≡ leaf_line c d i ++ rest → o ≡ Some rest) → (rest : List ℕ) → text ≡ bits_text c q d b ++ rest → o ≡ Some rest
  leaf-only i o is only rest e = only rest (e ∙ ap (λ (x : BitTree). bits_text c q d x ++ rest) is)

  pub and-if : (bs : BitTrees) (r : Option (Bor (List ℕ))) → b ≡ all_hold bs → text ≡ plain_line d (codes "BitmapAnd") ++ left → IfSome r (λ l. left ≡ trees_text c q (d + 1) bs ++ l.now) → IfSome r (λ l. text ≡ bits_text c q d b ++ l.now)
  and-if bs r is e f = subst (λ (x : BitTree). IfSome r (λ l. text ≡ bits_text c q d x ++ l.now)) (sym is) (two-if text (plain_line d (codes "BitmapAnd")) left (trees_text c q (d + 1) bs) r e f)

  pub and-only : (bs : BitTrees) (one two : Option (List ℕ)) → b ≡ all_hold bs → ((r : List ℕ) → text ≡ plain_line d (codes "BitmapAnd") ++ r → one ≡ Some r) → one ≡ Some left → ((r : List ℕ) → left ≡ trees_text c q (d + 1) bs ++ r → two ≡ Some r) →
      (rest : List ℕ) → text ≡ bits_text c q d b ++ rest → two ≡ Some rest
  and-only bs one two is first found second rest e =
      two-only text (plain_line d (codes "BitmapAnd")) (trees_text c q (d + 1) bs) left one two first found second rest (e ∙ ap (λ (x : BitTree). bits_text c q d x ++ rest) is)

  pub and-none : (bs : BitTrees) (one : Option (List ℕ)) → b ≡ all_hold bs → ((r : List ℕ) → text ≡ plain_line d (codes "BitmapAnd") ++ r → one ≡ Some r) → one ≡ None → (rest : List ℕ) → text ≡ bits_text c q d b ++ rest → ⊥
  and-none bs one is first none rest e = two-none text (plain_line d (codes "BitmapAnd")) (trees_text c q (d + 1) bs) one first none rest (e ∙ ap (λ (x : BitTree). bits_text c q d x ++ rest) is)

  pub or-if : (n : ℕ) (is : List IndexNo) (r : Option (Bor (List ℕ))) → b ≡ some_arm n is → text ≡ plain_line d (codes "BitmapOr " ++ number_text (conjunct_by (slice_get q.classes.clauses n))) ++ left →
      IfSome r (λ l. left ≡ flat_map (leaf_line c (d + 1)) is ++ l.now) → IfSome r (λ l. text ≡ bits_text c q d b ++ l.now)
  or-if n is r same e f =
      subst (λ (x : BitTree). IfSome r (λ l. text ≡ bits_text c q d x ++ l.now)) (sym same)
      (two-if text (plain_line d (codes "BitmapOr " ++ number_text (conjunct_by (slice_get q.classes.clauses n)))) left (flat_map (leaf_line c (d + 1)) is) r e f)

  pub or-only : (n : ℕ) (is : List IndexNo) (one two : Option (List ℕ)) → b ≡ some_arm n is → ((r : List ℕ) → text ≡ plain_line d (codes "BitmapOr " ++ number_text (conjunct_by (slice_get q.classes.clauses n))) ++ r → one ≡ Some r) → one ≡ Some left →
      ((r : List ℕ) → left ≡ flat_map (leaf_line c (d + 1)) is ++ r → two ≡ Some r) → (rest : List ℕ) → text ≡ bits_text c q d b ++ rest → two ≡ Some rest
  or-only n is one two same first found second rest e =
      two-only text (plain_line d (codes "BitmapOr " ++ number_text (conjunct_by (slice_get q.classes.clauses n)))) (flat_map (leaf_line c (d + 1)) is) left one two first found second rest (e ∙ ap (λ (x : BitTree). bits_text c q d x ++ rest) same)

  pub or-none : (n : ℕ) (is : List IndexNo) (one : Option (List ℕ)) → b ≡ some_arm n is → ((r : List ℕ) → text ≡ plain_line d (codes "BitmapOr " ++ number_text (conjunct_by (slice_get q.classes.clauses n))) ++ r → one ≡ Some r) → one ≡ None →
      (rest : List ℕ) → text ≡ bits_text c q d b ++ rest → ⊥
  or-none n is one same first none rest e =
      two-none text (plain_line d (codes "BitmapOr " ++ number_text (conjunct_by (slice_get q.classes.clauses n)))) (flat_map (leaf_line c (d + 1)) is) one first none rest (e ∙ ap (λ (x : BitTree). bits_text c q d x ++ rest) same)

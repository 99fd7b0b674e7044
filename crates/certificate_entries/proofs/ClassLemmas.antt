-- The class of a column, in the family of absolute values or in another, is one.
use Rattle.std.proofs.Common.{◌≡◌, ◌<◌, ◌+◌, ℕ, zero, suc, Bool, true, false, not, cond, List, [], ◌∷◌, length, refl, sym, ap, ◌∙◌, subst, arith}
use Rattle.std.specs.Prelude.{Option, Some, None}
use Rattle.std.specs.List.{position_from}
use Rattle.std.proofs.lemmas.Bool.{and_from, and_parts, not-true, true≢false}
use Rattle.std.proofs.lemmas.Option.{same_Some, none-some}
use Rattle.pg_value.specs.declared.operators.Family.{Family}
use Rattle.pg_expr.specs.declared.operand.ColRef.{ColRef}
use Rattle.opfamily.specs.Answers.{is_family, takes}
use Rattle.catalog.specs.Contents.{Contents}
use Rattle.catalog.specs.Range.{type_in}
use Rattle.eq_classes.specs.Classes.{Class, class_number, has_member, in_family, is_abs, is_in, is_plain, plain_class}
use Rattle.eq_classes.specs.Listing.{blank, class_at}
use Rattle.eq_classes.proofs.DefaultLemmas.{one_family}
use Rattle.eq_classes.proofs.EqualLemmas.{family_is, family_self}
use Rattle.eq_classes.proofs.ListLemmas.{in_at}
use Rattle.eq_classes.proofs.SoundLemmas.{member_in, member_takes}
use Rattle.eq_classes.proofs.WrittenLemmas.{in_typed}
use Rattle.plan_laws.proofs.PartLemmas.{apart_at}
use Rattle.sql_query.specs.Queries.{Query}
use Rattle.sql_query.specs.WellBound.{IsWellBound, given_with}
use Rattle.certificate_entries.specs.work.Keys.{IsClassIn, IsClassOf}

-- the first class that passes a test
found-at : (p : Class → Bool) (i : ℕ) (cs : List Class) (n : ℕ) → position_from p i cs ≡ Some n → (k : ℕ) × (n ≡ i + k) × (k < length cs) × (p (class_at cs k) ≡ true)
found-at p i [] n h = absurd (none-some n h)
found-at p i (x ∷ xs) n h = by (λ g. found-at p (i + 1) xs n g) (p x) refl h where
  by : (position_from p (i + 1) xs ≡ Some n → (k : ℕ) × (n ≡ i + 1 + k) × (k < length xs) × (p (class_at xs k) ≡ true)) → (v : Bool) → p x ≡ v → cond v (Some i) (position_from p (i + 1) xs) ≡ Some n →
      (k : ℕ) × (n ≡ i + k) × (k < length (x ∷ xs)) × (p (class_at (x ∷ xs) k) ≡ true)
  by later true e g = let same = same_Some i n g in (0, omega (arith, same), omega arith, e)
  by later false e g = let f = later g in (suc f.0, omega (arith, f.1), omega (arith, f.2), f.3)

none-at : (p : Class → Bool) (i : ℕ) (cs : List Class) → position_from p i cs ≡ None → (k : ℕ) → k < length cs → p (class_at cs k) ≡ true → ⊥
none-at p i [] h k lt is = absurd (omega (arith, lt))
none-at p i (x ∷ xs) h k lt is = by k (λ g j low. none-at p (i + 1) xs g j low) (p x) refl h lt is where
  by : (k : ℕ) → (position_from p (i + 1) xs ≡ None → (j : ℕ) → j < length xs → p (class_at xs j) ≡ true → ⊥) → (v : Bool) → p x ≡ v → cond v (Some i) (position_from p (i + 1) xs) ≡ None → k < length (x ∷ xs) → p (class_at (x ∷ xs) k) ≡ true → ⊥
  by k later true e g lt is = none-some i (sym g)
  by zero later false e g lt is = true≢false (sym is ∙ e)
  by (suc k) later false e g lt is = later g k (omega (arith, lt)) is

-- what a look-up among the classes of a query gives
pub class-found : (q : Query) (x : ColRef) (f : Family) (n : ℕ) → class_number q.classes.classes (in_family x f) ≡ Some n → IsClassIn q x f n
class-found q x f n h =
    let at = found-at (λ k. is_in k (in_family x f)) 0 q.classes.classes n h in
    let same : at.0 ≡ n = omega (arith, at.1) in
    let passes : is_in (class_at q.classes.classes n) (in_family x f) ≡ true = subst (λ (k : ℕ). is_in (class_at q.classes.classes k) (in_family x f) ≡ true) same at.3 in
    let parts = and_parts (is_family (class_at q.classes.classes n).family f) (has_member (class_at q.classes.classes n) x) passes in
    record { class = omega (arith, at.1, at.2); member = parts.1; family = family_is (class_at q.classes.classes n).family f parts.0 }

is-in : (k : Class) (x : ColRef) (f : Family) → has_member k x ≡ true → k.family ≡ f → is_in k (in_family x f) ≡ true
is-in k x f member family = and_from (is_family k.family f) (has_member k x) (subst (λ (g : Family). is_family k.family g ≡ true) family (family_self k.family)) member

pub class-none : (q : Query) (x : ColRef) (f : Family) → class_number q.classes.classes (in_family x f) ≡ None → (n : ℕ) → ¬ IsClassIn q x f n
class-none q x f h n is = none-at (λ k. is_in k (in_family x f)) 0 q.classes.classes h n is.class (is-in (class_at q.classes.classes n) x f is.member is.family)

-- and what a look-up among those of other families than that of absolute values gives
pub plain-found : (q : Query) (x : ColRef) (n : ℕ) → plain_class q.classes.classes x ≡ Some n → IsClassOf q x false n
plain-found q x n h =
    let at = found-at (is_plain x) 0 q.classes.classes n h in
    let same : at.0 ≡ n = omega (arith, at.1) in
    let passes : is_plain x (class_at q.classes.classes n) ≡ true = subst (λ (k : ℕ). is_plain x (class_at q.classes.classes k) ≡ true) same at.3 in
    let parts = and_parts (not (is_abs (class_at q.classes.classes n).family)) (has_member (class_at q.classes.classes n) x) passes in
    record { class = omega (arith, at.1, at.2); member = parts.1; family = not-true (is_abs (class_at q.classes.classes n).family) parts.0 }

pub plain-none : (q : Query) (x : ColRef) → plain_class q.classes.classes x ≡ None → (n : ℕ) → ¬ IsClassOf q x false n
plain-none q x h n is =
    none-at (is_plain x) 0 q.classes.classes h n is.class
    (and_from (not (is_abs (class_at q.classes.classes n).family)) (has_member (class_at q.classes.classes n) x) (ap not is.family) is.member)

module _ (c : Contents) (q : Query) (bound : IsWellBound c q) where
  takes-type : (x : ColRef) (n : ℕ) → n < length q.classes.classes → has_member (class_at q.classes.classes n) x ≡ true → takes (class_at q.classes.classes n).family (type_in c q.range x) ≡ true
  takes-type x n lt member =
      let k = class_at q.classes.classes n in
      member_takes (given_with c q bound.items) (in_typed (type_in c q.range) q.where_all bound.typed) q.classes.classes bound.classes.classes k (in_at q.classes.classes n blank lt) x (member_in k x member)

  pub one-class : (x : ColRef) (abs : Bool) (m n : ℕ) → IsClassOf q x abs m → IsClassOf q x abs n → m ≡ n
  one-class x abs m n a b =
      let f = (class_at q.classes.classes m).family in
      let g = (class_at q.classes.classes n).family in
      let same : f ≡ g = one_family (type_in c q.range x) f g (takes-type x m a.class a.member) (takes-type x n b.class b.member) (a.family ∙ sym b.family) in
      apart_at (given_with c q bound.items) q.classes bound.classes (in_family x g) m n a.class b.class (is-in (class_at q.classes.classes m) x g a.member same) (is-in (class_at q.classes.classes n) x g b.member refl)

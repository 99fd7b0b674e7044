-- Classes that were found, one after the other.
use Rattle.std.proofs.Common.{◌≡◌, ◌<◌, ◌≤◌, ◌+◌, ℕ, Bool, true, false, ◌||◌, List, [], ◌∷◌, length, get_or, nat_eq, zero, suc, refl, sym, ap, subst, ◌∙◌, arith, ◌⊎◌, inl, inr, true≢false}
use Rattle.std.specs.Prelude.{Option, Some, None, option_map, slice_get}
use Rattle.std.specs.List.{list_any}
use Rattle.std.proofs.lemmas.Bool.{cases_lt, eq-eqb, eqb-true}
use Rattle.std.proofs.lemmas.Option.{slice_get_within}
use Rattle.eq_classes.specs.declared.classes.ClassNo.{ClassNo}
use Rattle.pathkeys.specs.work.Finding.{is_class}

-- each class that was found before a place has a property
abbrev pub AreBefore : (ClassNo → Type 0) → List (Option ClassNo) → ℕ → Type 0
AreBefore P found n = (m : ℕ) (x : ClassNo) → m < n → slice_get found m ≡ Some (Some x) → P x

module _ (P : ClassNo → Type 0) (found : List (Option ClassNo)) where
  -- at one place more
  pub before-next : (n : ℕ) → AreBefore P found n → ((x : ClassNo) → slice_get found n ≡ Some (Some x) → P x) → AreBefore P found (n + 1)
  before-next n h here m x lt at = by (cases_lt m n)
    where
      by : (m < n) ⊎ (n ≤ m) → P x
      by (inl less) = h m x less at
      by (inr most) = let same : m ≡ n = omega (arith, most, lt) in here x (subst (λ k. slice_get found k ≡ Some (Some x)) same at)

  -- at all of them
  pub before-all : (n : ℕ) → length found ≤ n → AreBefore P found n → (m : ℕ) (x : ClassNo) → slice_get found m ≡ Some (Some x) → P x
  before-all n le h m x at = h m x (let lt = slice_get_within found m (Some x) at in omega (arith, lt, le)) at

-- an item that was read at a place
some-inside : (a b : Option ClassNo) → Some a ≡ Some b → a ≡ b
some-inside a b e = cc

class-inside : (a b : ClassNo) → Some a ≡ Some b → a ≡ b
class-inside a b e = cc

at-get : (found : List (Option ClassNo)) (n : ℕ) (x : ClassNo) → slice_get found n ≡ Some (Some x) → get_or found n None ≡ Some x
at-get [] n x at = absurd (let lt = slice_get_within [] n (Some x) at in omega (arith, lt))
at-get (o ∷ found) zero x at = some-inside o (Some x) at
at-get (o ∷ found) (suc n) x at = at-get found n x at

pub read-some : (found : List (Option ClassNo)) (n : ℕ) (z : ClassNo) (P : ClassNo → Type 0) → get_or found n None ≡ Some z → P z → (x : ClassNo) → slice_get found n ≡ Some (Some x) → P x
read-some found n z P is h x at = subst P (class-inside z x (sym is ∙ at-get found n x at)) h

none-some : (x : ClassNo) → None ≡ Some x → ⊥
none-some x e = cc

pub read-none : (found : List (Option ClassNo)) (n : ℕ) (P : ClassNo → Type 0) → get_or found n None ≡ None → (x : ClassNo) → slice_get found n ≡ Some (Some x) → P x
read-none found n P is x at = absurd (none-some x (sym is ∙ at-get found n x at))

-- a class of a number that was found
pub record IsFound (found : List (Option ClassNo)) (n : ℕ) : Type 0 where
  pub place : ℕ
  pub class : ClassNo
  pub is : slice_get found place ≡ Some (Some class)
  pub same : class.0 ≡ n

later : (found : List (Option ClassNo)) (o : Option ClassNo) (n : ℕ) → IsFound found n → IsFound (o ∷ found) n
later found o n r = record { place = suc r.place; class = r.class; is = r.is; same = r.same }

pub any-found : (n : ℕ) (found : List (Option ClassNo)) → list_any (λ (o : Option ClassNo). is_class n (option_map (λ (x : ClassNo). x.0) o)) found ≡ true → IsFound found n
any-found n [] e = absurd (true≢false (sym e))
any-found n (None ∷ found) e = later found None n (any-found n found e)
any-found n (Some x ∷ found) e = by (nat_eq n x.0) _ refl e (any-found n found)
  where
    by : (b rest : Bool) → nat_eq n x.0 ≡ b → b || rest ≡ true → (rest ≡ true → IsFound found n) → IsFound (Some x ∷ found) n
    by true rest f g h = record { place = zero; class = x; is = refl; same = sym (eqb-true n x.0 f) }
    by false rest f g h = later found (Some x) n (h g)

pub found-any : (n : ℕ) (found : List (Option ClassNo)) (place : ℕ) (x : ClassNo) → slice_get found place ≡ Some (Some x) → x.0 ≡ n → list_any (λ (o : Option ClassNo). is_class n (option_map (λ (y : ClassNo). y.0) o)) found ≡ true
found-any n [] place x at e = absurd (let lt = slice_get_within [] place (Some x) at in omega (arith, lt))
found-any n (None ∷ found) zero x at e = absurd (wrong None (Some x) refl refl at)
  where
    wrong : (a b : Option ClassNo) → a ≡ None → b ≡ Some x → Some a ≡ Some b → ⊥
    wrong a b f g h = cc
found-any n (Some y ∷ found) zero x at e = ap (λ b. b || list_any (λ (o : Option ClassNo). is_class n (option_map (λ (z : ClassNo). z.0) o)) found) (eq-eqb n y.0 (sym (ap (λ (z : ClassNo). z.0) (same (Some y) (Some x) refl refl at) ∙ e)))
  where
    same : (a b : Option ClassNo) → a ≡ Some y → b ≡ Some x → Some a ≡ Some b → y ≡ x
    same a b f g h = cc
found-any n (None ∷ found) (suc place) x at e = found-any n found place x at e
found-any n (Some y ∷ found) (suc place) x at e = either (nat_eq n y.0) _ (found-any n found place x at e)
  where
    either : (a b : Bool) → b ≡ true → a || b ≡ true
    either true b f = refl
    either false b f = f

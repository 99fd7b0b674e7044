-- Covering is having the other list as a prefix, and a partial order.
use Rattle.std.proofs.Common.{◌≡◌, ℕ, Bool, true, nat_eq, ◌&&◌, List, [], ◌∷◌, length, take, refl, ◌∙◌, ap₂, arith}
use Rattle.std.specs.List.{starts_with}
use Rattle.std.proofs.lemmas.Bool.{and_parts, and_from, eq-eqb, eqb-true, false≢true}
use Rattle.std.proofs.lemmas.Grind.{common_steps}
use Rattle.eq_classes.specs.declared.classes.ClassNo.{ClassNo}
use Rattle.pathkeys.specs.work.Finding.{class_numbers}
use Rattle.pathkeys.specs.Keys.{Keys, covers}

pub covers-prefix : (a b : Keys) → covers a b ≡ true → take (length b) a ≡ b
covers-prefix [] [] e = refl
covers-prefix (m ∷ ms) [] e = refl
covers-prefix [] (n ∷ ns) e = absurd (false≢true e)
covers-prefix (m ∷ ms) (n ∷ ns) e =
    let parts = and_parts (nat_eq m n) (covers ms ns) e in
    ap₂ (λ (k : ℕ) (ks : List ℕ). k ∷ ks) (eqb-true m n parts.0) (covers-prefix ms ns parts.1)

pub prefix-covers : (a b : Keys) → take (length b) a ≡ b → covers a b ≡ true
prefix-covers [] [] e = refl
prefix-covers (m ∷ ms) [] e = refl
prefix-covers [] (n ∷ ns) e = cc
prefix-covers (m ∷ ms) (n ∷ ns) e =
    let first : m ≡ n = cc in
    let rest : take (length ns) ms ≡ ns = cc in
    and_from (nat_eq m n) (covers ms ns) (eq-eqb m n first) (prefix-covers ms ns rest)

pub covers-refl : (a : Keys) → covers a a ≡ true
covers-refl [] = refl
covers-refl (n ∷ ns) = and_from (nat_eq n n) (covers ns ns) (eq-eqb n n refl) (covers-refl ns)

pub covers-antisym : (a b : Keys) → covers a b ≡ true → covers b a ≡ true → a ≡ b
covers-antisym [] [] e f = refl
covers-antisym (m ∷ ms) [] e f = absurd (false≢true f)
covers-antisym [] (n ∷ ns) e f = absurd (false≢true e)
covers-antisym (m ∷ ms) (n ∷ ns) e f =
    let p = and_parts (nat_eq m n) (covers ms ns) e in
    let q = and_parts (nat_eq n m) (covers ns ms) f in
    ap₂ (λ (k : ℕ) (ks : List ℕ). k ∷ ks) (eqb-true m n p.0) (covers-antisym ms ns p.1 q.1)

pub covers-trans : (a b c : Keys) → covers a b ≡ true → covers b c ≡ true → covers a c ≡ true
covers-trans a b [] e f = covers-none a
  where
    covers-none : (a : Keys) → covers a [] ≡ true
    covers-none [] = refl
    covers-none (m ∷ ms) = refl
covers-trans a [] (n ∷ ns) e f = absurd (false≢true f)
covers-trans [] (m ∷ ms) (n ∷ ns) e f = absurd (false≢true e)
covers-trans (l ∷ ls) (m ∷ ms) (n ∷ ns) e f =
    let p = and_parts (nat_eq l m) (covers ls ms) e in
    let q = and_parts (nat_eq m n) (covers ms ns) f in
    and_from (nat_eq l n) (covers ls ns) (eq-eqb l n (eqb-true l m p.0 ∙ eqb-true m n q.0)) (covers-trans ls ms ns p.1 q.1)

-- a list of classes that begins with another one, by equality of the numbers
pub begins-covers : (E : ClassNo → ClassNo → Bool) → ((c d : ClassNo) → E c d ≡ nat_eq c.0 d.0) → (cs ds : List ClassNo) → starts_with E cs ds ≡ covers (class_numbers cs) (class_numbers ds)
begins-covers E same [] [] = refl
begins-covers E same (c ∷ cs) [] = refl
begins-covers E same [] (d ∷ ds) = refl
begins-covers E same (c ∷ cs) (d ∷ ds) = ap₂ (λ (x y : Bool). x && y) (same d c ∙ turned d.0 c.0) (begins-covers E same cs ds)
  where
    turned : (m n : ℕ) → nat_eq m n ≡ nat_eq n m
    turned m n = grind (arith, common_steps)

-- One piece after another, and what a stop leaves.
use Rattle.std.proofs.Common.{◌≡◌, ℕ, ◌+◌, List, [], ◌∷◌, ◌++◌, length, take, refl, sym, ◌∙◌, ap, arith, append_assoc, length-append, subst, Option, Result, Ok, Err, OnErr, ◌<◌, drop, map, get_or}
use Prim.Native.Nat.{zero, suc}
use Rattle.std.specs.List.{flat_map}
use Rattle.std.proofs.lemmas.List.{take-append-le}
use Rattle.std.proofs.Math.Seq.{take-append-add}
use Rattle.std.specs.Io.KnownBytes.{Appends}
use Rattle.pg_base.specs.Writing.{AppendsPrefix}
use Rattle.pg_base.proofs.Bytes.{Appends-more}

-- two pieces, both written
pub piece-then : (a b c : Option (List ℕ)) (xs ys zs : List ℕ) → Appends a b xs → Appends b c ys → xs ++ ys ≡ zs → Appends a c zs
piece-then a b c xs ys zs first second e = Appends-more a b c xs ys zs first second (sym e)

pub prefix-longer : (a b : Option (List ℕ)) (xs ys zs : List ℕ) → AppendsPrefix a b xs → xs ++ ys ≡ zs → AppendsPrefix a b zs
prefix-longer a b xs ys zs (n, within, some) e =
    let P : List ℕ → Type 0 = λ l. AppendsPrefix a b l in
    let longer : AppendsPrefix a b (xs ++ ys) = (n, omega (arith, length-append xs ys), rw (take-append-le n xs ys within) some) in
    subst P e longer

-- the first of two pieces stopped
pub first-stopped : (a b : Option (List ℕ)) (xs ys zs : List ℕ) → AppendsPrefix a b xs → xs ++ ys ≡ zs → AppendsPrefix a b zs
first-stopped a b xs ys zs some e = prefix-longer a b xs ys zs some e

-- the second of three pieces stopped
pub next-stopped : (a b c : Option (List ℕ)) (xs ys rest zs : List ℕ) → Appends a b xs → AppendsPrefix b c ys → (xs ++ ys) ++ rest ≡ zs → AppendsPrefix a c zs
next-stopped a b c xs ys rest zs first (n, within, some) e =
    let both : AppendsPrefix a c (xs ++ ys) = (length xs + n, omega (arith, length-append xs ys), Appends-more a b c xs (take n ys) _ first some (take-append-add xs ys n)) in
    prefix-longer a c (xs ++ ys) rest zs both e

-- the pieces before one, the piece, and the pieces behind it
pub pieces_at : {X : Type 0} (f : X → List ℕ) (xs : List X) (i : ℕ) (d : X) → i < length xs → (flat_map f (take i xs) ++ f (get_or xs i d)) ++ flat_map f (drop (suc i) xs) ≡ flat_map f xs
pieces_at f [] i d lt = absurd (omega (arith, lt))
pieces_at f (x ∷ xs) zero d lt = refl
pieces_at f (x ∷ xs) (suc i) d lt =
    ap (λ (l : List ℕ). l ++ flat_map f (drop (suc i) xs)) (append_assoc (f x) (flat_map f (take i xs)) (f (get_or xs i d))) ∙
    append_assoc (f x) (flat_map f (take i xs) ++ f (get_or xs i d)) (flat_map f (drop (suc i) xs)) ∙
    ap (λ (l : List ℕ). f x ++ l) (pieces_at f xs i d (omega (arith, lt)))

-- the bytes before one, the byte, and the bytes behind it
pub bytes_at : (f : ℕ → ℕ) (xs : List ℕ) (i d b : ℕ) → i < length xs → b ≡ f (get_or xs i d) → (map f (take i xs) ++ (b ∷ [])) ++ map f (drop (suc i) xs) ≡ map f xs
bytes_at f [] i d b lt is = absurd (omega (arith, lt))
bytes_at f (x ∷ xs) zero d b lt is = ap (λ (y : ℕ). y ∷ map f xs) is
bytes_at f (x ∷ xs) (suc i) d b lt is = ap (λ (l : List ℕ). f x ∷ l) (bytes_at f xs i d b (omega (arith, lt)) is)

pub err_weaker : {E : Type 0} (r : Result (Unit {0}) E) (P Q : Type 0) → (P → Q) → OnErr r P → OnErr r Q
err_weaker (Ok u) P Q step holds = tt
err_weaker (Err e) P Q step holds = step holds

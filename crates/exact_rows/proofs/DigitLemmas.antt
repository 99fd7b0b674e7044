-- The number of a list of digits, place by place.
use Rattle.std.proofs.Common.{◌≡◌, ◌<◌, ◌≤◌, ℕ, zero, suc, ◌+◌, ◌-◌, ◌*◌, ◌/◌, ◌%◌, ◌^◌, List, [], ◌∷◌, ◌++◌, arith, refl, ap, sym, subst, ◌∙◌, inl, inr, mul-le-mul_right, mul-le-mul_left}
use Rattle.std.specs.Prelude.{length, take, drop, set, get_or}
use Rattle.std.proofs.Math.Nat.{pow-succ', pow-le-pow_right, one-le-pow}
use Rattle.std.proofs.lemmas.Bool.{cases_lt}
use Rattle.std.proofs.lemmas.List.Elements.{All-set, All-get_or}
use Rattle.std.proofs.lemmas.Grind.{take-set_at}
use Rattle.std.proofs.lemmas.List.{drop_more, length-set, length-take-le, drop-set-lt}
use Rattle.exact_rows.specs.declared.digits.TheConstants.{BASE, DIGITS}
use Rattle.exact_rows.specs.work.Digits.{AreDigits, number}

-- one digit more at the top
pub number-append : (xs : List ℕ) (y : ℕ) → number (xs ++ y ∷ []) ≡ number xs + BASE ^ length xs * y
number-append [] y = omega arith
number-append (x ∷ xs) y = rw (pow-succ' BASE (length xs)) (omega (arith, number-append xs y))

power : (i : ℕ) → BASE ^ (i + 1) ≡ BASE * BASE ^ i
power i = let next : i + 1 ≡ suc i = omega arith in ap (λ k. BASE ^ k) next ∙ pow-succ' BASE i

-- what is reached of a product at a place: the digits below it, and what is carried with those that are left
abbrev pub reached : ℕ → List ℕ → ℕ → ℕ → ℕ
reached n ds i carry = number (take i ds) + BASE ^ i * (carry + n * number (drop i ds))

one-place : (t p y next n r d carry : ℕ) → y + BASE * next ≡ d * n + carry → t + p * y + (BASE * p) * (next + n * r) ≡ t + p * (carry + n * (d + BASE * r))
one-place t p y next n r d carry h = omega (arith, ap (λ x. p * x) h)

-- the digits up to one that is put
put-number : (ds : List ℕ) (i y : ℕ) → i < length ds → number (take (i + 1) (set ds i y)) ≡ number (take i ds) + BASE ^ i * y
put-number ds i y lt = ap number (take-set_at ds i (i + 1) y refl lt) ∙ number-append (take i ds) y ∙ ap (λ k. number (take i ds) + BASE ^ k * y) (length-take-le i ds (omega (arith, lt)))

-- where a digit is put in the place reached, and what is past it is carried on, nothing is lost
pub goes-on : (n : ℕ) (ds : List ℕ) (i y carry next : ℕ) → i < length ds → y + BASE * next ≡ get_or ds i 0 * n + carry → reached n (set ds i y) (i + 1) next ≡ reached n ds i carry
goes-on n ds i y carry next lt h =
    let below : number (take (i + 1) (set ds i y)) ≡ number (take i ds) + BASE ^ i * y = put-number ds i y lt in
    let above : number (drop (i + 1) (set ds i y)) ≡ number (drop (i + 1) ds) = ap number (drop-set-lt (i + 1) ds i y (omega arith)) in
    let here : number (drop i ds) ≡ get_or ds i 0 + BASE * number (drop (i + 1) ds) = ap number (drop_more ds i 0 lt) in
    rw (below, above, here, power i) (one-place (number (take i ds)) (BASE ^ i) y next n (number (drop (i + 1) ds)) (get_or ds i 0) carry h)

-- digits below a place and those from it on
pub split : (i : ℕ) (ds : List ℕ) → number ds ≡ number (take i ds) + BASE ^ i * number (drop i ds)
split zero ds = omega arith
split (suc i) [] = omega arith
split (suc i) (d ∷ ds) = rw (pow-succ' BASE i) (omega (arith, split i ds))

none-left : (t p r n carry w : ℕ) → r ≡ 0 → w ≡ t + p * r → t + p * (carry + n * r) ≡ w + p * carry
none-left t p r n carry w h e = grind (arith, h, e)

-- at the end the product is the digits with what is carried past them
pub ended : (n : ℕ) (ds : List ℕ) (i carry : ℕ) → number (drop i ds) ≡ 0 → reached n ds i carry ≡ number ds + BASE ^ i * carry
ended n ds i carry h = none-left (number (take i ds)) (BASE ^ i) (number (drop i ds)) n carry (number ds) h (split i ds)

-- a digit put below a length keeps digits digits
pub put-below : (ds : List ℕ) (len i y : ℕ) → AreDigits len ds → i < len → y < BASE → AreDigits len (set ds i y)
put-below ds len i y h lt small = record { long = length-set ds i y ∙ h.long; below = All-set (λ d. d < BASE) ds i y small h.below; within = h.within; rest = ap number (drop-set-lt len ds i y lt) ∙ h.rest }

digit-at : (ds : List ℕ) (len i : ℕ) → AreDigits len ds → i < len → get_or ds i 0 < BASE
digit-at ds len i h lt = All-get_or (λ d. d < BASE) ds i 0 (omega (arith, lt, h.within, h.long)) h.below

-- what is carried on by a digit
pub carried : (ds : List ℕ) (len i n carry : ℕ) → AreDigits len ds → i < len → n < 2 ^ 32 → carry < 2 ^ 32 → (get_or ds i 0 * n + carry) / BASE < 2 ^ 32
carried ds len i n carry h lt few k = by (get_or ds i 0) (digit-at ds len i h lt)
  where
    by : (d : ℕ) → d < BASE → (d * n + carry) / BASE < 2 ^ 32
    by d small = let most : d * n ≤ (BASE - 1) * n = mul-le-mul_right n (omega (arith, small)) in omega (arith, most, few, k)

-- what is reached of a share at a place, where the product's lowest digit is let go of
abbrev pub moved : ℕ → List ℕ → ℕ → ℕ → ℕ
moved n ds i carry = number (take i ds) + BASE ^ i * (carry + n * number (drop (i + 1) ds))

zeros-on : (ds : List ℕ) (at : ℕ) → at < length ds → number (drop at ds) ≡ 0 → (get_or ds at 0 ≡ 0) × (number (drop (at + 1) ds) ≡ 0)
zeros-on ds at lt h =
    let here : number (drop at ds) ≡ get_or ds at 0 + BASE * number (drop (at + 1) ds) = ap number (drop_more ds at 0 lt) in
    (omega (arith, here, h), omega (arith, here, h))

-- a digit more behind all
pub put-behind : (ds : List ℕ) (at y : ℕ) → AreDigits at ds → at < DIGITS → y < BASE → AreDigits (at + 1) (set ds at y) × (number (set ds at y) ≡ number ds + BASE ^ at * y)
put-behind ds at y h lt small =
    let long : at < length ds = omega (arith, lt, h.long) in
    let below : number (take (at + 1) (set ds at y)) ≡ number (take at ds) + BASE ^ at * y = put-number ds at y long in
    let above : number (drop (at + 1) (set ds at y)) ≡ 0 = ap number (drop-set-lt (at + 1) ds at y (omega arith)) ∙ (zeros-on ds at long h.rest).1 in
    (record { long = length-set ds at y ∙ h.long; below = All-set (λ d. d < BASE) ds at y small h.below; within = omega (arith, lt); rest = above }, summed (number (take at ds)) (BASE ^ at) (BASE ^ (at + 1)) y (number (set ds at y)) (number ds) (number (take (at + 1) (set ds at y))) (number (drop (at + 1) (set ds at y))) (number (drop at ds)) below above h.rest (split (at + 1) (set ds at y)) (split at ds))
  where
    summed : (t p q y new old low high rest : ℕ) → low ≡ t + p * y → high ≡ 0 → rest ≡ 0 → new ≡ low + q * high → old ≡ t + p * rest → new ≡ old + p * y
    summed t p q y new old low high rest a b c d e = grind (arith, a, b, c, d, e)

left-on : (s p left : ℕ) → s + p * (left % BASE) + (BASE * p) * (left / BASE) ≡ s + p * left
left-on s p left = omega (arith, ap (λ x. p * x) (parts left))
  where
    parts : (left : ℕ) → left % BASE + BASE * (left / BASE) ≡ left
    parts left = omega arith

has-room : (s at left : ℕ) → s + BASE ^ at * left < BASE ^ DIGITS → 0 < left → at < DIGITS
has-room s at left h some = elim (cases_lt at DIGITS) [ inl less ↦ less | inr more ↦ absurd (omega (arith, past more)) ]
  where
    past : DIGITS ≤ at → BASE ^ DIGITS < BASE ^ DIGITS
    past more =
        let high : BASE ^ DIGITS ≤ BASE ^ at = pow-le-pow_right {n = BASE} (omega arith) more in
        let times : BASE ^ at * 1 ≤ BASE ^ at * left = mul-le-mul_left (BASE ^ at) (omega (arith, some)) in
        omega (arith, high, times, h)

-- the digits put with what is left of a number, one digit on
pub puts-on : (ds : List ℕ) (at left b d total : ℕ) → b ≡ BASE → d ≡ BASE → AreDigits at ds → 0 < left → number ds + BASE ^ at * left ≡ total → total < BASE ^ DIGITS → AreDigits (at + 1) (set ds at (left % b)) × (number (set ds at (left % b)) + BASE ^ (at + 1) * (left / d) ≡ total)
puts-on ds at left b d total e f h some is room =
    let put = put-behind ds at (left % BASE) h (has-room (number ds) at left (subst (λ x. x < BASE ^ DIGITS) (sym is) room) some) (omega arith) in
    let on : number ds + BASE ^ at * (left % BASE) + BASE ^ (at + 1) * (left / BASE) ≡ total = rw (power at) (left-on (number ds) (BASE ^ at) left ∙ is) in
    rw (e, f) (put.0, ap (λ x. x + BASE ^ (at + 1) * (left / BASE)) put.1 ∙ on)

-- what a share carries on at a digit
pub share-carried : (ds : List ℕ) (len i share carry : ℕ) → AreDigits len ds → i < len → share ≤ BASE → carry < BASE → (get_or ds i 0 * share + carry) / BASE < BASE
share-carried ds len i share carry h lt few k = by (get_or ds i 0) (digit-at ds len i h lt)
  where
    by : (d : ℕ) → d < BASE → (d * share + carry) / BASE < BASE
    by d small =
        let most : d * share ≤ (BASE - 1) * share = mul-le-mul_right share (omega (arith, small)) in
        omega (arith, most, few, k)

moved-rest : (d r share : ℕ) → 0 + 1 * ((d * share + (BASE - 1)) / BASE + share * r) ≡ ((d + BASE * r) * share + (BASE - 1)) / BASE
moved-rest d r share = omega arith

-- the lowest digit of a share is let go of
pub moves-first : (share : ℕ) (ds : List ℕ) → 0 < length ds → moved share ds 0 ((get_or ds 0 0 * share + (BASE - 1)) / BASE) ≡ (number ds * share + (BASE - 1)) / BASE
moves-first share [] some = absurd (omega (arith, some))
moves-first share (d ∷ ds) some = moved-rest d (number ds) share

-- where a digit is put one place lower, and what is past it is carried on, nothing is lost
pub moves-on : (n : ℕ) (ds : List ℕ) (i y carry next : ℕ) → i + 1 < length ds → y + BASE * next ≡ get_or ds (i + 1) 0 * n + carry → moved n (set ds i y) (i + 1) next ≡ moved n ds i carry
moves-on n ds i y carry next lt h =
    let below : number (take (i + 1) (set ds i y)) ≡ number (take i ds) + BASE ^ i * y = put-number ds i y (omega (arith, lt)) in
    let above : number (drop (i + 1 + 1) (set ds i y)) ≡ number (drop (i + 1 + 1) ds) = ap number (drop-set-lt (i + 1 + 1) ds i y (omega arith)) in
    let here : number (drop (i + 1) ds) ≡ get_or ds (i + 1) 0 + BASE * number (drop (i + 1 + 1) ds) = ap number (drop_more ds (i + 1) 0 lt) in
    rw (below, above, here, power i) (one-place (number (take i ds)) (BASE ^ i) y next n (number (drop (i + 1 + 1) ds)) (get_or ds (i + 1) 0) carry h)

-- the last digit of a share is what was carried
pub moves-last : (n : ℕ) (ds : List ℕ) (i carry : ℕ) → i < length ds → number (drop (i + 1) ds) ≡ 0 → number (set ds i carry) ≡ moved n ds i carry
moves-last n ds i carry lt h =
    let below : number (take (i + 1) (set ds i carry)) ≡ number (take i ds) + BASE ^ i * carry = put-number ds i carry lt in
    let above : number (drop (i + 1) (set ds i carry)) ≡ number (drop (i + 1) ds) = ap number (drop-set-lt (i + 1) ds i carry (omega arith)) in
    last (number (take i ds)) (BASE ^ i) (BASE ^ (i + 1)) carry (number (set ds i carry)) (number (take (i + 1) (set ds i carry))) (number (drop (i + 1) (set ds i carry))) (number (drop (i + 1) ds)) below above h (split (i + 1) (set ds i carry))
  where
    last : (t p q carry new low high rest : ℕ) → low ≡ t + p * carry → high ≡ rest → rest ≡ 0 → new ≡ low + q * high → new ≡ t + p * (carry + n * rest)
    last t p q carry new low high rest a b c d = grind (arith, a, b, c, d)

-- a number with a digit above 0 is above 0
pub some-digit : (ds : List ℕ) (i : ℕ) → i < length ds → 0 < get_or ds i 0 → 0 < number ds
some-digit ds i lt some =
    let here : number (drop i ds) ≡ get_or ds i 0 + BASE * number (drop (i + 1) ds) = ap number (drop_more ds i 0 lt) in
    let power_some : 1 ≤ BASE ^ i = one-le-pow i BASE (omega arith) in
    let times : 1 * number (drop i ds) ≤ BASE ^ i * number (drop i ds) = mul-le-mul_right (number (drop i ds)) power_some in
    omega (arith, split i ds, times, here, some)

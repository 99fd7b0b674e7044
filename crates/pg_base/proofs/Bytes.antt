-- What a read from memory gives.
use Rattle.std.proofs.Common.{◌≡◌, ℕ, ◌+◌, ◌-◌, ◌≤◌, List, ◌++◌, length, take, drop, arith, sym, ◌∙◌, ap, length-drop, length-append, append_assoc, Option, Some, None}
use Rattle.std.proofs.lemmas.List.{length-take, take-append-drop, take_all}
use Rattle.std.proofs.lemmas.Grind.{common_steps}
use Rattle.std.specs.Io.KnownBytes.{Appends, Consumes}
use Rattle.std.proofs.Math.Seq.{take-add}
use Rattle.pg_base.specs.Reading.{ConsumesUpTo}

pub given : (xs copied rest : List ℕ) (at n : ℕ) → at + n ≤ length xs → copied ≡ take (at + n - at) (drop at xs) → drop at xs ≡ take n (copied ++ rest) ++ drop (at + n) xs
given xs copied rest at n le e = grind (arith, common_steps, take-append-drop n (drop at xs))

-- one write after another
pub Appends-more : (a b c : Option (List ℕ)) (xs ys zs : List ℕ) → Appends a b xs → Appends b c ys → zs ≡ xs ++ ys → Appends a c zs
Appends-more None b c xs ys zs first more e = tt
Appends-more (Some p) None c xs ys zs first more e = absurd first
Appends-more (Some p) (Some q) None xs ys zs first more e = absurd more
Appends-more (Some p) (Some q) (Some r) xs ys zs first more e = rw (more, first, e) (append_assoc p xs ys)

-- the bytes written so far, after a write of n more from the rest
pub take-more : (at n : ℕ) (bytes : List ℕ) → take (at + n) bytes ≡ take at bytes ++ take n (take (length bytes - at) (drop at bytes))
take-more at n bytes = take-add at n bytes ∙ ap (λ r. take at bytes ++ take n r) (sym (take_all (length bytes - at) (drop at bytes) (rw (length-drop at bytes) (omega arith))))

-- one read after another
Consumes-more : (a b c : Option (List ℕ)) (xs ys : List ℕ) → Consumes a b xs → Consumes b c ys → Consumes a c (xs ++ ys)
Consumes-more None b c xs ys first more = tt
Consumes-more (Some p) None c xs ys first more = absurd first
Consumes-more (Some p) (Some q) None xs ys first more = absurd more
Consumes-more (Some p) (Some q) (Some r) xs ys first more = rw (first, more) (sym (append_assoc xs ys r))

-- what was read so far, and n bytes more
pub consumes-up_to : (a b c : Option (List ℕ)) (xs buf : List ℕ) (n most : ℕ) → Consumes a b xs → Consumes b c (take n buf) → length xs + n ≤ most → ConsumesUpTo a c most
consumes-up_to a b c xs buf n most first more within =
    (xs ++ take n buf, Consumes-more a b c xs (take n buf) first more, simp (length-append, length-take) (omega arith))

-- The word of a text, and what stands around it.
use Rattle.std.proofs.Common.{◌≡◌, ℕ, ◌≤◌, Bool, true, false, List, length, take, map, refl, arith, IsTrue, ◌↔◌, sym, ap₂, subst, ◌∙◌}
use Rattle.std.proofs.lemmas.Bool.Decides.{nat_tests}
use Rattle.std.specs.Prelude.{nat_le}
use Rattle.std.specs.Bool.{Decides}
use Rattle.std.specs.Char.{to_ascii_lowercase}
use Rattle.std.specs.Str.{bytes_eq}
use Rattle.std.proofs.lemmas.List.{take-map, length-map}
use Rattle.std.proofs.lemmas.Slice.Eq.{bytes_eq-Decides}
use Rattle.pg_value.specs.Fields.{is_start}

-- a test that answers as a fact does is any other test of that fact
same_test : (b r : Bool) (P : Type 0) → Decides b P → (IsTrue r ↔ P) → r ≡ b
same_test true true P d h = refl
same_test true false P d h = h.1 (d.0 refl)
same_test false true P d h = sym (d.1 (h.0 refl))
same_test false false P d h = refl

pub start_is : (least : ℕ) (full word : List ℕ) (r : Bool) → least ≤ length word → length word ≤ length full → map to_ascii_lowercase full ≡ full
    → (IsTrue r ↔ (map to_ascii_lowercase (take (length word) full) ≡ map to_ascii_lowercase word)) → r ≡ is_start least full (map to_ascii_lowercase word)
unfolding is_start
start_is least full word r low high small same =
    let long : length (map to_ascii_lowercase word) ≡ length word = length-map word to_ascii_lowercase in
    let enough : nat_le least (length (map to_ascii_lowercase word)) ≡ true = rw long (grind (arith, nat_tests)) in
    let shown : map to_ascii_lowercase (take (length word) full) ≡ take (length (map to_ascii_lowercase word)) full =
    sym (take-map to_ascii_lowercase (length word) full) ∙ ap₂ take (sym long) small
    in
    rw enough
    (same_test
    (bytes_eq (take (length (map to_ascii_lowercase word)) full) (map to_ascii_lowercase word))
    r
    (take (length (map to_ascii_lowercase word)) full ≡ map to_ascii_lowercase word)
    (bytes_eq-Decides _ _)
    (subst (λ (x : List ℕ). IsTrue r ↔ (x ≡ map to_ascii_lowercase word)) shown same))

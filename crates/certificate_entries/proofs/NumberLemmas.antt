-- Numbers of entries, and sides, read.
use Rattle.std.proofs.Common.{◌≡◌, ◌<◌, ◌^◌, ℕ, Bool, true, false, cond, nat_lt, List, [], ◌∷◌, ◌++◌, codes, length, get_or, refl, sym, ap, ◌∙◌, arith}
use Rattle.std.specs.Prelude.{Option, Some, None}
use Rattle.std.specs.Char.{is_ascii_digit}
use Rattle.std.specs.Fmt.{decimal}
use Rattle.std.specs.List.{list_all}
use Rattle.std.proofs.lemmas.Bool.{and_parts, true≢false}
use Rattle.std.proofs.lemmas.Bool.Decides.{nat_tests}
use Rattle.std.proofs.lemmas.Fmt.{decimal_is_IsNumeral}
use Rattle.std.proofs.lemmas.List.{append_assoc}
use Rattle.pg_base.proofs.NameLemmas.{decimal-digits}
use Rattle.certificate_text.specs.Texts.{side_text}
use Rattle.certificate_text.specs.HasText.{IsEntryNumber}
use Rattle.certificate_text.specs.plan_check_Certificates.{Side}
use Rattle.certificate_entries.specs.work.Parts.{as_entry}
use Rattle.pg_base.proofs.ListLemmas.{digit-first}

below : (n : ℕ) → IsEntryNumber n → nat_lt n (2 ^ 32) ≡ true
below n h = grind (arith, nat_tests, h)

pub entry-is : (n : ℕ) → IsEntryNumber n → as_entry (Some n) ≡ Some n
entry-is n h = ap (λ (b : Bool). cond b (Some n) None) (below n h)

-- a number begins with a digit
pub number-begins : (n : ℕ) (rest : List ℕ) → IsEntryNumber n → is_ascii_digit (get_or (decimal n ++ rest) 0 0) ≡ true
number-begins n rest h = let is = decimal_is_IsNumeral n (omega (arith, h)) in digit-first (decimal n) rest is.0.0 (decimal-digits n)

-- whether a side is sorted, and its number behind that
pub sort-read : (s : Side) (sort : Bool) (old mid rest : List ℕ) → IsEntryNumber s.entry → ((r : List ℕ) → old ≡ codes "sort " ++ r → (sort ≡ true) × (mid ≡ r)) → (sort ≡ false → mid ≡ old) → (sort ≡ true → old ≡ codes "sort " ++ mid) →
    old ≡ side_text s ++ rest → (sort ≡ s.sorted) × (mid ≡ decimal s.entry ++ rest)
sort-read s sort old mid rest h took left is e = by s.sorted sort refl refl e where
  by : (t b : Bool) → s.sorted ≡ t → sort ≡ b → old ≡ (cond t (codes "sort ") [] ++ decimal s.entry) ++ rest → (sort ≡ s.sorted) × (mid ≡ decimal s.entry ++ rest)
  by true b st sb f = let r = took (decimal s.entry ++ rest) (f ∙ append_assoc (codes "sort ") (decimal s.entry) rest) in (r.0 ∙ sym st, r.1)
  by false true st sb f = absurd (true≢false (sym (number-begins s.entry rest h) ∙ ap (λ (l : List ℕ). is_ascii_digit (get_or l 0 0)) (sym f ∙ is sb)))
  by false false st sb f = (sb ∙ sym st, left sb ∙ f)

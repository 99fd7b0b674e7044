-- One put after another, and what a stop leaves.
use Rattle.std.proofs.Common.{◌≡◌, ℕ, ◌+◌, List, [], ◌++◌, length, take, refl, sym, ◌∙◌, ap, arith, append_assoc, append-nil, length-append, subst, Option, Some, None, Result, Ok, Err, IsErr, OnErr}
use Rattle.std.proofs.lemmas.List.{take-append-le}
use Rattle.std.proofs.Math.Seq.{take-append-add}
use Rattle.std.specs.Io.KnownBytes.{Appends}
use Rattle.pg_base.specs.Writing.{AppendsPrefix}
use Rattle.pg_base.proofs.Bytes.{Appends-more}
use Rattle.reply.specs.work.Putting.{HasPut, Puts}
use Rattle.pg_base.proofs.OptionLemmas.{appends-none}
use Rattle.reply_text.proofs.PieceLaws.{prefix-longer as prefix-of}

together : (w v p q r xs ys : List ℕ) → w ++ q ≡ p ++ xs → v ++ r ≡ q ++ ys → (w ++ v) ++ r ≡ p ++ (xs ++ ys)
together w v p q r xs ys first second =
    append_assoc w v r ∙ ap (λ (l : List ℕ). w ++ l) second ∙ sym (append_assoc w q ys) ∙ ap (λ (l : List ℕ). l ++ ys) first ∙ append_assoc p xs ys

pub put-then : (a b c : Option (List ℕ)) (p q r xs ys : List ℕ) → HasPut a b p q xs → HasPut b c q r ys → HasPut a c p r (xs ++ ys)
put-then a b c p q r xs ys first second = record {
  written = first.written ++ second.written;
  appended = Appends-more a b c first.written second.written _ first.appended second.appended refl;
  together = together first.written second.written p q r xs ys first.together second.together;
}

pub prefix-then : (a b c : Option (List ℕ)) (p q xs ys : List ℕ) → HasPut a b p q xs → AppendsPrefix b c (q ++ ys) → AppendsPrefix a c (p ++ (xs ++ ys))
prefix-then a b c p q xs ys first (n, within, some) =
    let whole : first.written ++ (q ++ ys) ≡ p ++ (xs ++ ys) = sym (append_assoc first.written q ys) ∙ ap (λ (l : List ℕ). l ++ ys) first.together ∙ append_assoc p xs ys in (
      length first.written + n,
      omega (arith, sym (length-append first.written (q ++ ys)) ∙ ap length whole),
      Appends-more a b c first.written (take n (q ++ ys)) _ first.appended some (ap (take (length first.written + n)) (sym whole) ∙ take-append-add first.written (q ++ ys) n),
    )

pub prefix-longer : (a b : Option (List ℕ)) (xs ys : List ℕ) → AppendsPrefix a b xs → AppendsPrefix a b (xs ++ ys)
prefix-longer a b xs ys (n, within, some) = (n, omega (arith, length-append xs ys), rw (take-append-le n xs ys within) some)

pub prefix-none : (a : Option (List ℕ)) (bytes : List ℕ) → AppendsPrefix a a bytes
prefix-none a bytes = (0, omega arith, appends-none a)

-- a call that stopped
pub puts-stopped : {T E : Type 0} (a b : Option (List ℕ)) (p q : List ℕ) (r : Result T E) (bytes : List ℕ) → IsErr r → AppendsPrefix a b (p ++ bytes) → Puts a b p q r bytes
puts-stopped a b p q (Ok u) bytes is some = cc
puts-stopped a b p q (Err e) bytes is some = some

-- what a part in the middle left
pub prefix_part : (a b : Option (List ℕ)) (p xs ys : List ℕ) → AppendsPrefix a b (p ++ xs) → AppendsPrefix a b (p ++ (xs ++ ys))
prefix_part a b p xs ys some = prefix-of a b (p ++ xs) ys (p ++ (xs ++ ys)) some (append_assoc p xs ys)

-- behind what was put, nothing more was written
pub put_prefix : (a b : Option (List ℕ)) (p q xs ys : List ℕ) → HasPut a b p q xs → AppendsPrefix a b (p ++ (xs ++ ys))
put_prefix a b p q xs ys put = prefix-then a b b p q xs ys put (prefix-none b (q ++ ys))

-- all that is pending was written, or some first bytes of it
pub flushed : (a b c : Option (List ℕ)) (p q bytes : List ℕ) → HasPut a b p q bytes → Appends b c q → Appends a c (p ++ bytes)
flushed a b c p q bytes put some = Appends-more a b c put.written q (p ++ bytes) put.appended some (sym put.together)

pub flush_stopped : (a b c : Option (List ℕ)) (p q bytes : List ℕ) → HasPut a b p q bytes → AppendsPrefix b c q → AppendsPrefix a c (p ++ bytes)
flush_stopped a b c p q bytes put some =
    let P : List ℕ → Type 0 = λ l. AppendsPrefix a c (p ++ l) in
    let Q : List ℕ → Type 0 = λ l. AppendsPrefix b c l in
    subst P (append-nil bytes) (prefix-then a b c p q bytes [] put (subst Q (sym (append-nil q)) some))

-- a line behind what was put, by what it is
pub line_put : (a b c : Option (List ℕ)) (p q r xs ys line : List ℕ) → line ≡ ys → HasPut a b p q xs → HasPut b c q r line → HasPut a c p r (xs ++ ys)
line_put a b c p q r xs ys line is put more =
    let P : List ℕ → Type 0 = λ l. HasPut a c p r (xs ++ l) in
    subst P is (put-then a b c p q r xs line put more)

pub line_cut : (a b c : Option (List ℕ)) (p q xs ys line : List ℕ) → line ≡ ys → HasPut a b p q xs → AppendsPrefix b c (q ++ line) → AppendsPrefix a c (p ++ (xs ++ ys))
line_cut a b c p q xs ys line is put some =
    let P : List ℕ → Type 0 = λ l. AppendsPrefix a c (p ++ (xs ++ l)) in
    subst P is (prefix-then a b c p q xs line put some)

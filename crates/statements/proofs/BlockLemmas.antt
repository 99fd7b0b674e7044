-- A data block lies in its text.
use Rattle.std.proofs.Common.{◌≡◌, ◌≤◌, ◌+◌, ℕ, Bool, true, false, cond, nat_eq, List, [], ◌∷◌, ◌++◌, length, drop, refl, arith, ap, sym, ◌∙◌, length-drop}
use Rattle.ddl_reader.specs.Block.{in_front, lines_of, size_of, IsBlockEnd}

size-front : (b : ℕ) (lines : List (List ℕ)) → size_of (in_front b lines) ≡ size_of lines + 1
size-front b [] = refl
size-front b (line ∷ lines) = omega arith

size-by : (b : ℕ) (lines : List (List ℕ)) (ends : Bool) → size_of (cond ends ((b ∷ []) ∷ lines) (in_front b lines)) ≡ size_of lines + 1
size-by b lines true = omega arith
size-by b lines false = size-front b lines

-- the lines of a text have all its bytes
size-lines : (text : List ℕ) → size_of (lines_of text) ≡ length text
size-lines [] = refl
size-lines (b ∷ bs) = omega (arith, size-by b (lines_of bs) (nat_eq b 10), size-lines bs)

size-append : (xs ys : List (List ℕ)) → size_of (xs ++ ys) ≡ size_of xs + size_of ys
size-append [] ys = omega arith
size-append (x ∷ xs) ys = omega (arith, size-append xs ys)

-- the data, and the line that ends them
pub record LiesIn (text : List ℕ) (start end next : ℕ) : Type 0 where
  pub order : start ≤ end
  pub end_order : end ≤ next
  pub within : next ≤ length text

pub block-within : (text : List ℕ) (start end next : ℕ) → start ≤ length text → IsBlockEnd text start end next → LiesIn text start end next
block-within text start end next le h =
    let all = sym (size-lines (drop start text)) ∙ (ap size_of h.lines ∙ size-append h.before (h.mark ∷ h.after)) in
    let left = length-drop start text in
    record { order = omega (arith, h.end_is); end_order = omega (arith, h.next_is); within = omega (arith, all, left, le, h.end_is, h.next_is) }

pub end-within : (text : List ℕ) (start end next : ℕ) → start ≤ length text → IsBlockEnd text start end next → end ≤ length text
end-within text start end next le h = let lies = block-within text start end next le h in omega (arith, lies.end_order, lies.within)

-- The first tuples of groups stand in the list in their order; so where each group's tuples come one after another, a group that is
-- not the last has come to its end.
use Rattle.std.proofs.Common.{◌≡◌, ℕ, zero, suc, ◌+◌, ◌<◌, Bool, true, false, not, cond, List, [], ◌∷◌, ◌++◌, length, map, refl, sym, ap, ap₂, ◌∙◌, arith, ◌⊎◌, inl, inr}
use Rattle.std.specs.Prelude.{filter}
use Rattle.std.proofs.lemmas.Bool.{true≢false}
use Rattle.std.proofs.lemmas.List.{get_or-map, get_or_append_left, length-append, length-map}
use Rattle.group_values.specs.Shapes.{GroupShape, Summary}
use Rattle.group_values.specs.Groups.{Seen, alike, firsts, groups, keys_of_group, same_keys, summary}
use Rattle.group_values.specs.work.Groups.{IsSumOf}
use Rattle.group_values.specs.work.Steps.{IsLastAlone, group_at, none}
use Rattle.group_values.proofs.GroupLemmas.{AreUnlike, all-at, first-keys, firsts-unlike}
use Rattle.group_values.specs.declared.shape.Call.{Call}
use Rattle.group_values.specs.work.Neighbours.{AreTogether, seen_at}

-- a list from which tuples were left out
abbrev IsPart : List Seen → List Seen → Type 0
IsPart [] ss = Unit {0}
IsPart (f ∷ fs) [] = ⊥
IsPart (f ∷ fs) (s ∷ ss) = ((f ≡ s) × IsPart fs ss) ⊎ IsPart (f ∷ fs) ss

longer : (fs : List Seen) (s : Seen) (ss : List Seen) → IsPart fs ss → IsPart fs (s ∷ ss)
longer [] s ss h = tt
longer (f ∷ fs) s ss h = inr h

part-filter : (p : Seen → Bool) (fs ss : List Seen) → IsPart fs ss → IsPart (filter p fs) ss
part-filter p [] ss h = tt
part-filter p (f ∷ fs) [] h = absurd h
part-filter p (f ∷ fs) (s ∷ ss) (inl both) = by (p f) (part-filter p fs ss both.1)
  where
    by : (b : Bool) → IsPart (filter p fs) ss → IsPart (cond b (f ∷ filter p fs) (filter p fs)) (s ∷ ss)
    by true more = inl (both.0, more)
    by false more = longer (filter p fs) s ss more
part-filter p (f ∷ fs) (s ∷ ss) (inr more) = longer (filter p (f ∷ fs)) s ss (part-filter p (f ∷ fs) ss more)

part-firsts : (ss : List Seen) → IsPart (firsts ss) ss
part-firsts [] = tt
part-firsts (s ∷ ss) = inl (refl, part-filter (λ t. not (alike s t)) (firsts ss) ss (part-firsts ss))

record Stands (fs ss : List Seen) (n : ℕ) : Type 0 where
  place : ℕ
  within : place < length ss
  is : seen_at ss place ≡ seen_at fs n

stands : (fs ss : List Seen) (n : ℕ) → IsPart fs ss → n < length fs → Stands fs ss n
stands [] ss n h lt = absurd (omega arith)
stands (f ∷ fs) [] n h lt = absurd h
stands (f ∷ fs) (s ∷ ss) zero (inl both) lt = record { place = 0; within = omega arith; is = sym both.0 }
stands (f ∷ fs) (s ∷ ss) (suc n) (inl both) lt =
    let more = stands fs ss n both.1 (omega arith) in
    record { place = suc more.place; within = omega (arith, more.within); is = more.is }
stands (f ∷ fs) (s ∷ ss) n (inr h) lt =
    let more = stands (f ∷ fs) ss n h lt in
    record { place = suc more.place; within = omega (arith, more.within); is = more.is }

-- two firsts, one after the other
record StandBoth (fs ss : List Seen) (n : ℕ) : Type 0 where
  one : ℕ
  other : ℕ
  order : one < other
  within : other < length ss
  one_is : seen_at ss one ≡ seen_at fs n
  other_is : seen_at ss other ≡ seen_at fs (suc n)

stand-both : (fs ss : List Seen) (n : ℕ) → IsPart fs ss → suc n < length fs → StandBoth fs ss n
stand-both [] ss n h lt = absurd (omega arith)
stand-both (f ∷ fs) [] n h lt = absurd h
stand-both (f ∷ fs) (s ∷ ss) zero (inl both) lt =
    let next = stands fs ss 0 both.1 (omega arith) in
    record { one = 0; other = suc next.place; order = omega arith; within = omega (arith, next.within); one_is = sym both.0; other_is = next.is }
stand-both (f ∷ fs) (s ∷ ss) (suc n) (inl both) lt =
    let more = stand-both fs ss n both.1 (omega arith) in
    record { one = suc more.one; other = suc more.other; order = omega (arith, more.order); within = omega (arith, more.within); one_is = more.one_is; other_is = more.other_is }
stand-both (f ∷ fs) (s ∷ ss) n (inr h) lt =
    let more = stand-both (f ∷ fs) ss n h lt in
    record { one = suc more.one; other = suc more.other; order = omega (arith, more.order); within = omega (arith, more.within); one_is = more.one_is; other_is = more.other_is }

unlike-next : (fs : List Seen) (n : ℕ) → AreUnlike fs → suc n < length fs → alike (seen_at fs n) (seen_at fs (suc n)) ≡ false
unlike-next [] n u lt = absurd (omega arith)
unlike-next (f ∷ fs) zero u lt = all-at (λ g. alike f g ≡ false) fs 0 (record { keys = []; args = [] }) u.0 (omega arith)
unlike-next (f ∷ fs) (suc n) u lt = unlike-next fs n u.1 (omega arith)

at-middle : (ss : List Seen) (s : Seen) (later : List Seen) → seen_at (ss ++ s ∷ later) (length ss) ≡ s
at-middle [] s later = refl
at-middle (t ∷ ts) s later = at-middle ts s later

-- a first that is not the last one is not alike the tuple that comes next
ended : (ss : List Seen) (s : Seen) (later : List Seen) (n : ℕ) → AreTogether (ss ++ s ∷ later) → suc n < length (firsts ss) → (b : Bool) → alike (seen_at (firsts ss) n) s ≡ b → b ≡ false
ended ss s later n together lt false e = refl
ended ss s later n together lt true e =
    let both = stand-both (firsts ss) ss n (part-firsts ss) lt in
    let blank : Seen = record { keys = []; args = [] } in
    let many : length (ss ++ s ∷ later) ≡ length ss + suc (length later) = length-append ss (s ∷ later) in
    let one : seen_at (ss ++ s ∷ later) both.one ≡ seen_at (firsts ss) n = get_or_append_left ss (s ∷ later) blank both.one (omega (arith, both.order, both.within)) ∙ both.one_is in
    let other : seen_at (ss ++ s ∷ later) both.other ≡ seen_at (firsts ss) (suc n) = get_or_append_left ss (s ∷ later) blank both.other both.within ∙ both.other_is in
    let last : seen_at (ss ++ s ∷ later) (length ss) ≡ s = at-middle ss s later in
    absurd (true≢false (
    sym (together both.one both.other (length ss) both.order both.within (omega (arith, many)) (ap₂ (λ f t. alike f t) one last ∙ e))
    ∙ ap₂ (λ f t. alike f t) one other ∙ unlike-next (firsts ss) n (firsts-unlike ss) lt))

keyed : (calls : List Call) (ss : List Seen) (s : Seen) (later : List Seen) (gs : List Summary) → gs ≡ map (summary calls) (map (λ f. filter (alike f) ss) (firsts ss)) → AreTogether (ss ++ s ∷ later) → IsLastAlone gs s.keys
keyed calls ss s later gs is together n lt =
    let many : length gs ≡ length (firsts ss) =
    ap (λ (l : List Summary). length l) is ∙ length-map (map (λ f. filter (alike f) ss) (firsts ss)) (summary calls) ∙ length-map (firsts ss) (λ f. filter (alike f) ss) in
    let blank : Seen = record { keys = []; args = [] } in
    let within : n < length (firsts ss) = omega (arith, many, lt) in
    let keys : (group_at gs n).keys ≡ (seen_at (firsts ss) n).keys =
    ap (λ l. (group_at l n).keys) is
    ∙ ap (λ (g : Summary). g.keys) (get_or-map (summary calls) (map (λ f. filter (alike f) ss) (firsts ss)) n [] none (omega (arith, within, length-map (firsts ss) (λ f. filter (alike f) ss))))
    ∙ ap keys_of_group (get_or-map (λ f. filter (alike f) ss) (firsts ss) n blank [] within)
    ∙ all-at (λ f. keys_of_group (filter (alike f) ss) ≡ f.keys) (firsts ss) n blank (first-keys ss) within in
    ap (λ ks. same_keys ks s.keys) keys ∙ ended ss s later n together (omega (arith, many, lt)) (alike (seen_at (firsts ss) n) s) refl

by-width : (w : ℕ) (calls : List Call) (ss : List Seen) (s : Seen) (later : List Seen) (gs : List Summary) → gs ≡ map (summary calls) (groups w ss) → AreTogether (ss ++ s ∷ later) → IsLastAlone gs s.keys
by-width zero calls ss s later gs is together n lt = absurd (omega (arith, lt, ap (λ (l : List Summary). length l) is))
by-width (suc w) calls ss s later gs is together n lt = keyed calls ss s later gs is together n lt

pub last-alone : (shape : GroupShape) (ss : List Seen) (s : Seen) (later : List Seen) (gs : List Summary) → IsSumOf shape ss gs → AreTogether (ss ++ s ∷ later) → IsLastAlone gs s.keys
last-alone shape ss s later gs sums together = by-width shape.width shape.calls ss s later gs sums.is together

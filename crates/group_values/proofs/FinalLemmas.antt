-- The lines in the end.
use Rattle.std.proofs.Common.{◌≡◌, ℕ, ◌+◌, ◌<◌, Bool, true, false, List, [], ◌∷◌, ◌++◌, length, map, take, get_or, Equal, refl, sym, ap, ap₂, ◌∙◌}
use Rattle.std.proofs.lemmas.List.{map_push, take_more}
use Rattle.pg_value.specs.Sorting.{put}
use Rattle.pg_value.specs.declared.value.Value.{Value}
use Rattle.group_values.specs.declared.shape.Shown.{Shown}
use Rattle.group_values.specs.Groups.{line, lines_of_groups, sorted}
use Rattle.group_values.specs.Shapes.{GroupShape, Summary}
use Rattle.group_values.specs.work.Grouping.{final_shape}

-- without items of ORDER BY all groups keep their places
pub unsorted : (gs : List Summary) → sorted [] gs ≡ gs
unsorted [] = refl
unsorted (g ∷ gs) = ap (put (λ g h. Equal) g) (unsorted gs) ∙ first g gs
  where
    first : (g : Summary) (hs : List Summary) → put (λ g h. Equal) g hs ≡ g ∷ hs
    first g [] = refl
    first g (h ∷ hs) = refl

pub lines-as-they-are : (shape : GroupShape) (gs : List Summary) (sort_after : Bool) → sort_after ≡ false → map (line shape.items) gs ≡ lines_of_groups (final_shape sort_after shape) gs
lines-as-they-are shape gs false e = ap (map (line shape.items)) (sym (unsorted gs))
lines-as-they-are shape gs true e = cc e

-- one more line
pub lines-more : (items : List Shown) (gs : List Summary) (i : ℕ) (g : Summary) (so_far : List (List Value)) (l : List Value) → i < length gs → g ≡ get_or gs i g → so_far ≡ map (line items) (take i gs) → l ≡ line items g
    → so_far ++ l ∷ [] ≡ map (line items) (take (i + 1) gs)
lines-more items gs i g so_far l lt is before e =
    ap₂ (λ (ls : List (List Value)) (x : List Value). ls ++ x ∷ []) before e
    ∙ sym (map_push (line items) (take i gs) g)
    ∙ ap (map (line items)) (ap (λ x. take i gs ++ x ∷ []) is ∙ sym (take_more gs i g lt))

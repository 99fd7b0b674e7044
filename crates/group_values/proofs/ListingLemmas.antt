-- Groups in a list: one more, one with one more tuple, and the last alone.
use Rattle.std.proofs.Common.{◌≡◌, ℕ, zero, suc, ◌<◌, List, [], ◌∷◌, ◌++◌, length, map, set, refl, sym, ap, ◌∙◌, arith}
use Rattle.std.proofs.lemmas.List.Elements.{All-push, All-set}
use Rattle.pg_value.specs.declared.value.Value.{Value}
use Rattle.group_values.specs.declared.shape.Call.{Call}
use Rattle.group_values.specs.Shapes.{Summary}
use Rattle.group_values.specs.work.Steps.{AreWhole, begun, blank, group_at, joined, none}
use Rattle.group_values.proofs.CallLemmas.{with-many}
use Rattle.group_values.specs.declared.listing.Finder.{Finder}
use Rattle.group_values.specs.declared.listing.Finder.TheVariants.{Last, ByHash}
use Rattle.group_values.specs.work.Hash.{hash_of}
use Rattle.group_values.specs.work.Listing.{HasNoted}
use Rattle.group_values.specs.work.Places.{hashes_of}

-- a group with one more tuple has the same keys
hashes-joined : (calls : List Call) (args : List Value) (gs : List Summary) (n : ℕ) → n < length gs → hashes_of (set gs n (joined calls args (group_at gs n))) ≡ hashes_of gs
hashes-joined calls args [] n lt = refl
hashes-joined calls args (g ∷ gs) zero lt = refl
hashes-joined calls args (g ∷ gs) (suc n) lt = ap (λ l. hash_of g.keys ∷ l) (hashes-joined calls args gs n (omega arith))

pub finds-joined : (f : Finder) (calls : List Call) (args : List Value) (gs : List Summary) (n : ℕ) → n < length gs → HasNoted f gs → HasNoted f (set gs n (joined calls args (group_at gs n)))
finds-joined Last calls args gs n lt finds = tt
finds-joined (ByHash c) calls args gs n lt finds = record { chained = finds.chained; hashes = finds.hashes ∙ sym (hashes-joined calls args gs n lt) }

whole-at : (calls : List Call) (gs : List Summary) (n : ℕ) → n < length gs → AreWhole calls gs → length (group_at gs n).called ≡ length calls
whole-at calls gs n lt whole = whole n none lt

pub whole-joined : (calls : List Call) (args : List Value) (gs : List Summary) (n : ℕ) → length args ≡ length calls → n < length gs → AreWhole calls gs → AreWhole calls (set gs n (joined calls args (group_at gs n)))
whole-joined calls args gs n many lt whole =
    All-set (λ (g : Summary). length g.called ≡ length calls) gs n (joined calls args (group_at gs n)) (with-many calls (group_at gs n).called args (whole-at calls gs n lt whole) many) whole

blanks-many : (calls : List Call) → length (map blank calls) ≡ length calls
blanks-many [] = refl
blanks-many (c ∷ cs) = ap suc (blanks-many cs)

pub whole-begun : (calls : List Call) (keys args : List Value) (gs : List Summary) → length args ≡ length calls → AreWhole calls gs → AreWhole calls (gs ++ begun calls keys args ∷ [])
whole-begun calls keys args gs many whole = All-push (λ (g : Summary). length g.called ≡ length calls) gs (begun calls keys args) whole (with-many calls (map blank calls) args (blanks-many calls) many)

-- One more tuple: it joins a group of the list, or begins one.
use Rattle.std.proofs.Common.{◌≡◌, ℕ, ◌<◌, true, List, [], ◌∷◌, ◌++◌, length, set, Result, Ok, Err, sym, subst, ap, ap₂, ◌∙◌}
use Rattle.std.specs.Prelude.{OnOk, OnErr}
use Rattle.pg_value.specs.declared.value.Value.{Value}
use Rattle.group_values.specs.declared.shape.Call.{Call}
use Rattle.group_values.specs.Groups.{Seen}
use Rattle.group_values.specs.work.Groups.{IsSumOf}
use Rattle.group_values.specs.Shapes.{GroupShape, Summary}
use Rattle.group_values.specs.work.Steps.{AreWhole, begun, group_at, have_room, joined}
use Rattle.group_values.proofs.SumLemmas.{begins, joins}
use Rattle.group_values.specs.declared.listing.Finder.{Finder}
use Rattle.group_values.specs.work.Grouping.{AreOf, Grouping}
use Rattle.group_values.specs.work.Listing.{HasNoted}
use Rattle.group_values.specs.work.Places.{HasNoGroup, IsGroupOf}
use Rattle.group_values.proofs.ListingLemmas.{finds-joined, whole-begun, whole-joined}

abbrev seen : List Value → List Value → Seen
seen keys args = record { keys = keys; args = args }

-- as calls leave the groups: `cs` and `before` are what was lent, `gs` what the list has
pub joined-as : (cs calls : List Call) (args : List Value) (before gs : List Summary) (n : ℕ) → cs ≡ calls → before ≡ gs → set before n (joined cs args (group_at before n)) ≡ set gs n (joined calls args (group_at gs n))
joined-as cs calls args before gs n e f = ap₂ (λ (k : List Call) (l : List Summary). set l n (joined k args (group_at l n))) e f

-- what is known of the tuples so far, as the list has it
known : (old : Grouping) (shape : GroupShape) (gs : List Summary) (ss : List Seen) → shape ≡ old.shape → gs ≡ old.groups → AreOf ss old → IsSumOf shape ss gs
known old shape gs ss e f sums = subst (λ s. IsSumOf s ss gs) (sym e) (subst (IsSumOf old.shape ss) (sym f) sums)

module _ {T E : Type 0} where
  pub joined-finds : (r : Result T E) (finder : Finder) (cs calls : List Call) (args : List Value) (before gs new : List Summary) (n : ℕ) → cs ≡ calls → before ≡ gs → n < length gs → HasNoted finder gs
      → OnOk r (new ≡ set before n (joined cs args (group_at before n))) → OnErr r (new ≡ before) → HasNoted finder new
  joined-finds (Ok x) finder cs calls args before gs new n e f lt finds ok err = subst (HasNoted finder) (sym (ok ∙ joined-as cs calls args before gs n e f)) (finds-joined finder calls args gs n lt finds)
  joined-finds (Err x) finder cs calls args before gs new n e f lt finds ok err = subst (HasNoted finder) (sym (err ∙ f)) finds

  pub joined-whole : (r : Result T E) (cs calls : List Call) (args : List Value) (before gs new : List Summary) (n : ℕ) → cs ≡ calls → before ≡ gs → n < length gs → length args ≡ length calls → AreWhole calls gs
      → OnOk r (new ≡ set before n (joined cs args (group_at before n))) → OnErr r (new ≡ before) → AreWhole calls new
  joined-whole (Ok x) cs calls args before gs new n e f lt many whole ok err = subst (AreWhole calls) (sym (ok ∙ joined-as cs calls args before gs n e f)) (whole-joined calls args gs n many lt whole)
  joined-whole (Err x) cs calls args before gs new n e f lt many whole ok err = subst (AreWhole calls) (sym (err ∙ f)) whole

  pub begun-whole : (r : Result T E) (cs calls : List Call) (keys args : List Value) (g : Summary) (gs new : List Summary) → cs ≡ calls → length args ≡ length calls → AreWhole calls gs → g ≡ begun cs keys args
      → OnOk r (new ≡ gs ++ g ∷ []) → OnErr r (new ≡ gs) → AreWhole calls new
  begun-whole (Ok x) cs calls keys args g gs new e many whole is ok err =
      subst (AreWhole calls) (sym (ok ∙ ap (λ x. gs ++ x ∷ []) (is ∙ ap (λ k. begun k keys args) e))) (whole-begun calls keys args gs many whole)
  begun-whole (Err x) cs calls keys args g gs new e many whole is ok err = subst (AreWhole calls) (sym err) whole

  pub joined-pushed : (r : Result T E) (old : Grouping) (shape : GroupShape) (cs : List Call) (keys args : List Value) (before gs new : List Summary) (n : ℕ) → shape ≡ old.shape → gs ≡ old.groups → cs ≡ shape.calls → before ≡ gs → IsGroupOf gs keys n
      → length keys ≡ old.shape.width → length args ≡ length old.shape.calls → OnOk r (have_room cs (group_at before n).called ≡ true) → OnOk r (new ≡ set before n (joined cs args (group_at before n)))
      → OnOk r ((ss : List Seen) → AreOf ss old → IsSumOf shape (ss ++ seen keys args ∷ []) new)
  joined-pushed (Err x) old shape cs keys args before gs new n a b e f at width many room ok = tt
  joined-pushed (Ok x) old shape cs keys args before gs new n a b e f at width many room ok = λ ss sums.
      subst (IsSumOf shape (ss ++ seen keys args ∷ [])) (sym (ok ∙ joined-as cs shape.calls args before gs n e f))
      (joins shape ss keys args gs (known old shape gs ss a b sums) (width ∙ ap (λ (s : GroupShape). s.width) (sym a)) (many ∙ ap (λ (s : GroupShape). length s.calls) (sym a)) n at.0 at.1
      (ap₂ (λ (k : List Call) (l : List Summary). have_room k (group_at l n).called) (sym e) (sym f) ∙ room))

  pub begun-pushed : (r : Result T E) (old : Grouping) (shape : GroupShape) (cs : List Call) (keys args : List Value) (g : Summary) (gs new : List Summary) → shape ≡ old.shape → gs ≡ old.groups → cs ≡ shape.calls → HasNoGroup gs keys
      → length keys ≡ old.shape.width → length args ≡ length old.shape.calls → g ≡ begun cs keys args → OnOk r (new ≡ gs ++ g ∷ [])
      → OnOk r ((ss : List Seen) → AreOf ss old → IsSumOf shape (ss ++ seen keys args ∷ []) new)
  begun-pushed (Err x) old shape cs keys args g gs new a b e none width many is ok = tt
  begun-pushed (Ok x) old shape cs keys args g gs new a b e none width many is ok = λ ss sums.
      subst (IsSumOf shape (ss ++ seen keys args ∷ [])) (sym (ok ∙ ap (λ x. gs ++ x ∷ []) (is ∙ ap (λ k. begun k keys args) e)))
      (begins shape ss keys args gs (known old shape gs ss a b sums) (width ∙ ap (λ (s : GroupShape). s.width) (sym a)) (many ∙ ap (λ (s : GroupShape). length s.calls) (sym a)) none)

-- Chains of different values, one for each bucket. Own.
use Rattle.std.specs.Prelude.{◌≡◌, ℕ, ◌%◌, ◌-◌, ◌^◌, ◌<◌, ◌≤◌, Bool, true, List, [], ◌∷◌, ◌++◌, All, length, slice_index_or, is_some, ◌≢◌}
use Rattle.pg_value.specs.declared.operators.Op.TheVariants.{Eq}
use Rattle.pg_value.specs.declared.value.Value.{Value}
use Rattle.pg_value.specs.declared.value.Value.TheVariants.{Null}
use Rattle.pg_value.specs.work.Order.{IsOfFamily}
use Rattle.opfamily.specs.declared.classes.IndexKey.{IndexKey}
use Rattle.opfamily.specs.declared.classes.Method.TheVariants.{Hash}
use Rattle.opfamily.specs.Answers.{number_in}
use Rattle.opfamily.specs.KeyOrder.{key_family}
use Rattle.linked.specs.work.Lists.{AreLists, has, list_of, behind}
use Rattle.hash_index.specs.declared.chains.Chains.{Chains}
use Rattle.hash_index.specs.declared.chains.Place.{Place}
use Rattle.hash_index.specs.work.Groups.{RowsOf, value_at, without_at}
use Rattle.hash_index.specs.work.Hash.{hash_of}
use Rattle.hash_index.specs.work.Held.{IsKnown}

-- the slot of the bucket of a value
abbrev pub head_for : List ℕ → Value → ℕ
head_for heads v = slice_index_or heads (hash_of v % length heads) 0

-- whether a slot stands behind another one
abbrev pub stands_behind : List (List ℕ) → ℕ → ℕ → Bool
stands_behind lists head slot = has slot (behind head (list_of lists head))

-- as many lists as slots; NULL has slot 0, and stands also at the slot of each bucket
pub record AreSlots (heads : List ℕ) (gs : List RowsOf) (lists : List (List ℕ)) : Type 0 where
  pub as_many : length lists ≡ length gs
  pub few : length gs ≤ 2 ^ 32 - 1
  pub lawful : AreLists lists
  pub null : 0 < length gs
  pub null_first : value_at gs 0 ≡ Null
  pub heads_are : All (λ s. (s < length gs) × (value_at gs s ≡ Null)) heads

-- each value other than NULL has one slot, which stands behind the slot of its bucket
pub record AreChained (k : IndexKey) (heads : List ℕ) (gs : List RowsOf) (lists : List (List ℕ)) : Type 0 where
  pub slots : AreSlots heads gs lists
  pub some : 0 < length heads
  pub hashes : is_some (number_in (key_family k) Hash Eq) ≡ true
  pub fits : (s : ℕ) → IsOfFamily (key_family k) (value_at gs s)
  pub chained : (s : ℕ) → IsKnown (value_at gs s) → stands_behind lists (head_for heads (value_at gs s)) s ≡ true
  pub apart : (s t : ℕ) → IsKnown (value_at gs s) → value_at gs s ≡ value_at gs t → s ≡ t

-- the slots of an index agree: each stands in one chain, and the head of each bucket is a slot of NULL
abbrev pub HasSlots : Chains → Type 0
HasSlots c = AreSlots c.heads.items c.groups.items c.links

-- the index of a key finds each value: it has one slot, in the chain of its bucket
abbrev pub IsChained : IndexKey → Chains → Type 0
IsChained k c = AreChained k c.heads.items c.groups.items c.links

-- more slots, of values without rows
pub record IsWider (old new : List RowsOf) : Type 0 where
  pub more : List RowsOf
  pub is : new ≡ old ++ more
  pub empty : All (λ (g : RowsOf). g.tids ≡ []) more

-- the values once the rows at places are taken out, from the last place on
abbrev pub taken_back : List Place → List RowsOf → List RowsOf
taken_back [] gs = gs
taken_back (p ∷ ps) gs = without_at p.slot p.at (taken_back ps gs)

-- the value of a slot, if it is not NULL, is found behind the head of its bucket
abbrev pub IsBehindHead : Chains → List ℕ → List RowsOf → ℕ → Type 0
IsBehindHead new heads gs slot = IsKnown (value_at gs slot) → stands_behind new.links (head_for heads (value_at gs slot)) slot ≡ true

-- what stands behind a head goes on to, but for one slot
abbrev pub StaysBehind : Chains → Chains → ℕ → Type 0
StaysBehind new old slot = (h s : ℕ) → h < length old.links → value_at old.groups.items h ≡ Null → s ≢ slot → stands_behind old.links h s ≡ true → stands_behind new.links h s ≡ true

-- How a group of a list is found. Own.
use Rattle.std.specs.Prelude.{◌≡◌, List}
use Rattle.group_values.specs.declared.shape.Call.{Call}
use Rattle.group_values.specs.Shapes.{Summary}
use Rattle.group_values.specs.work.Steps.{AreWhole}
use Rattle.group_values.specs.declared.chains.Chains.{Chains}
use Rattle.group_values.specs.declared.form.Form.{Form}
use Rattle.group_values.specs.declared.form.Form.TheVariants.{Sorted, Hashed}
use Rattle.group_values.specs.declared.listing.Finder.{Finder}
use Rattle.group_values.specs.declared.listing.Listing.{Listing}
use Rattle.group_values.specs.declared.listing.Finder.TheVariants.{Last, ByHash}
use Rattle.group_values.specs.work.Chains.{IsChained}
use Rattle.group_values.specs.work.Places.{hashes_of}

-- the form whose groups a finder finds: by the last one alone where the input is sorted by the group keys, else by hash
abbrev pub form_of : Finder → Form
form_of Last = Sorted
form_of (ByHash c) = Hashed

-- each slot has the hash of the group at its place, and stands in the chain of this hash
pub record IsByHash (c : Chains) (gs : List Summary) : Type 0 where
  pub chained : IsChained c
  pub hashes : c.hashes.items ≡ hashes_of gs

-- a finder can find each of these groups
abbrev pub HasNoted : Finder → List Summary → Type 0
HasNoted Last gs = Unit {0}
HasNoted (ByHash c) gs = IsByHash c gs

-- the groups can be found, and each has what each call gives
pub record IsListing (calls : List Call) (l : Listing) : Type 0 where
  pub finds : HasNoted l.finder l.groups.items
  pub whole : AreWhole calls l.groups.items

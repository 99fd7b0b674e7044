-- What a front keeps (own).
use Rattle.std.specs.Prelude.{◌≡◌, ◌⊎◌, Bool, false, IsTrue, List, All, Contains}

-- each was kept before, or is the one offered
abbrev pub AreKeptOr : {T : Type 0} → List T → T → List T → Type 0
AreKeptOr old t new = All (λ x. Contains old x ⊎ (x ≡ t)) new

module _ {T : Type 0} (is_at_most : T → T → Bool) where
  -- some kept item is at most this one
  pub record IsCovered (kept : List T) (t : T) : Type 0 where
    pub by' : T
    pub is_kept : Contains kept by'
    pub covers : IsTrue (is_at_most by' t)

  -- neither of the two is at most the other
  abbrev pub Unrelated : T → T → Type 0
  Unrelated a b = (is_at_most a b ≡ false) × (is_at_most b a ≡ false)

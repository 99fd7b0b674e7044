-- Tests joined by and and or.
use Rattle.std.proofs.Common.{◌≡◌, Bool, true, false, ◌||◌, refl, ◌&&◌}

pub either : (a b c : Bool) → (b ≡ true → c ≡ true) → a || b ≡ true → a || c ≡ true
either true b c f h = refl
either false b c f h = f h

pub and-within : (a b : Bool) → (a ≡ true → b ≡ true) → a && b ≡ a
and-within true b h = h refl
and-within false b h = refl

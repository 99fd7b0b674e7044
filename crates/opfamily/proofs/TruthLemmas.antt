-- The truth of a test.
use Rattle.std.proofs.Common.{◌≡◌, Bool, true, false, refl}
use Rattle.pg_value.specs.Truths.{is_true, truth_of}

-- the truth of a test is True exactly where the test holds
pub is_true-truth_of : (b : Bool) → is_true (truth_of b) ≡ b
is_true-truth_of true = refl
is_true-truth_of false = refl

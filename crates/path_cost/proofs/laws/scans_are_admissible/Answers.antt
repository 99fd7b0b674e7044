use Rattle.path_cost.proofs.ScanLemmas.{arm-part-few, bitmap-few, bitmap-parts-few, index-few, index-part-few, seq-few}
use Rattle.path_cost.proofs.laws.scans_are_admissible.Goals as goal

pub returns : goal.returns
returns c = record {
  seq = λ k range t r limits within. seq-few k range t limits r within;
  part = λ k range t i r p bounds conditions limits is. index-part-few k range t limits i r p bounds conditions is;
  arm = λ k range t i r p parts bounds limits is few. arm-part-few k range t limits i r p parts bounds is few;
  index = λ k range t i r p bounds conditions only limits within is. index-few k range t limits i r p bounds conditions only within is;
  bitmap = λ k range t r p used parts limits within. bitmap-few k range t limits r p used parts within;
  bitmap_of_parts = λ k range t r p used parts limits within few each. bitmap-parts-few k range t limits r p used parts within few each;
}

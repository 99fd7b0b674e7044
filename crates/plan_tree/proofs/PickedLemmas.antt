-- What holds of each element holds of those picked.
use Rattle.std.proofs.Common.{inl, inr, ◌-◌, List, subst}
use Rattle.plan_tree.specs.Bitmaps.{ArePicked, Element, none_left, passed, picked}
use Rattle.plan_tree.proofs.CostableLemmas.{In}

pub holds-picked : (P : Element → Type 0) (e : Element) (xs ys : List Element) → ArePicked P xs ys → In e ys → P e
holds-picked P e _ _ none_left h = absurd h
holds-picked P e _ _ (picked x xs ys is p) (inl same) = subst P same is
holds-picked P e _ _ (picked x xs ys is p) (inr h) = holds-picked P e xs ys p h
holds-picked P e _ _ (passed x xs ys is p) h = holds-picked P e xs ys p h

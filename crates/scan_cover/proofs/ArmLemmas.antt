-- The indexes of least part for arms, one after the other.
use Rattle.std.proofs.Common.{◌≡◌, ◌<◌, ◌+◌, ◌∙◌, ◌++◌, ◌∷◌, [], ℕ, suc, List, ap, get_or, length, map, sym, subst, take, refl, arith, append_assoc, length-take}
use Rattle.std.specs.List.{AllZip}
use Rattle.std.proofs.lemmas.List.{append-nil, length-map, map-append, take_more}
use Rattle.pg_base.specs.declared.numbers.IndexNo.{IndexNo}
use Rattle.pg_base.specs.declared.numbers.RelNo.{RelNo}
use Rattle.pg_base.specs.declared.rel_set.RelSet.{RelSet}
use Rattle.pg_expr.specs.Cond.{Cond}
use Rattle.pg_expr.specs.work.View.{cond}
use Rattle.pg_expr.specs.declared.expr.Expr.{Expr}
use Rattle.catalog.specs.Contents.{Contents}
use Rattle.cost_rules.specs.work.Costs.{capped}
use Rattle.sql_query.specs.Queries.{Query}
use Rattle.plan_tree.specs.Costs.{together}
use Rattle.bitmap_scan.specs.work.Arms.{AreServed, IsLeastMatch, part_for}
use Rattle.bitmap_scan.proofs.ArmLemmas.{served-more, zip-push}
use Rattle.scan_cover.specs.work.Arms.{IsFilled}
use Rattle.scan_cover.specs.declared.filling.Arms.{Arms}

-- one arm more
one-more : (arms : List Expr) (n : ℕ) (x : Expr) → n < length arms → x ≡ get_or arms n x → map cond (take (n + 1) arms) ≡ map cond (take n arms) ++ cond x ∷ []
one-more arms n x lt is = ap (map cond) (take_more arms n x lt) ∙ map-append cond (take n arms) (get_or arms n x ∷ []) ∙ ap (λ (y : Expr). map cond (take n arms) ++ cond y ∷ []) (sym is)

module _ (c : Contents) (q : Query) (r : RelNo) (p : RelSet) where
  pub served-none : AreServed c q r p [] [] 0
  served-none = record { least = tt; part = refl }

  many : (xs : List Cond) (is : List IndexNo) → AllZip (IsLeastMatch c q r p) xs is → length xs ≡ length is
  many [] [] z = refl
  many [] (i ∷ is) z = absurd z
  many (x ∷ xs) [] z = absurd z
  many (x ∷ xs) (i ∷ is) z = ap suc (many xs is z.1)

  pub served-next : (arms : List Expr) (n : ℕ) (x : Expr) → n < length arms → x ≡ get_or arms n x → (is : List IndexNo) (old : ℕ) (i : IndexNo) (part new : ℕ) → AreServed c q r p (map cond (take n arms)) is old → IsLeastMatch c q r p (cond x) i → part ≡ capped (part_for c q r p (cond x) i) →
      ((ns : List ℕ) (l : ℕ) → old ≡ capped (together ns) → capped part ≡ capped l → n ≡ length ns → new ≡ capped (together (ns ++ l ∷ []))) → AreServed c q r p (map cond (take (n + 1) arms)) (is ++ i ∷ []) new
  served-next arms n x lt is' is old i part new h least e joined =
      let long : length is ≡ n = sym (many (map cond (take n arms)) is h.least) ∙ taken in
      subst (λ (xs : List Cond). AreServed c q r p xs (is ++ i ∷ []) new) (sym (one-more arms n x lt is'))
      (served-more c q r p (map cond (take n arms)) is old (cond x) i part new h least e (λ ns l f g same. joined ns l f g (sym long ∙ same)))
    where
      taken : length (map cond (take n arms)) ≡ n
      taken = let a = length-map (take n arms) cond in let b = length-take n arms in omega (arith, a, b, lt)

  pub put-next : (arms : List Expr) (n : ℕ) (x : Expr) → n < length arms → x ≡ get_or arms n x → (is : List IndexNo) (i : IndexNo) → AllZip (IsLeastMatch c q r p) (map cond (take n arms)) is → IsLeastMatch c q r p (cond x) i → AllZip (IsLeastMatch c q r p) (map cond (take (n + 1) arms)) (is ++ i ∷ [])
  put-next arms n x lt is' is i z h =
      subst (λ (xs : List Cond). AllZip (IsLeastMatch c q r p) xs (is ++ i ∷ [])) (sym (one-more arms n x lt is')) (zip-push (IsLeastMatch c q r p) (map cond (take n arms)) is (cond x) i z h)

pub filled-next : (a b d : Arms) (is : List IndexNo) (i : IndexNo) → ((found : List IndexNo) → IsFilled a found → IsFilled b (found ++ is)) → ((found : List IndexNo) → IsFilled b found → IsFilled d (found ++ i ∷ [])) →
    (found : List IndexNo) → IsFilled a found → IsFilled d (found ++ (is ++ i ∷ []))
filled-next a b d is i h k found f = subst (IsFilled d) (append_assoc found is (i ∷ [])) (k (found ++ is) (h found f))

pub filled-both : (a b d : Arms) (is js : List IndexNo) → ((found : List IndexNo) → IsFilled a found → IsFilled b (found ++ is)) → ((found : List IndexNo) → IsFilled b found → IsFilled d (found ++ js)) →
    (found : List IndexNo) → IsFilled a found → IsFilled d (found ++ (is ++ js))
filled-both a b d is js h k found f = subst (IsFilled d) (append_assoc found is js) (k (found ++ is) (h found f))

pub filled-none : (a : Arms) (found : List IndexNo) → IsFilled a found → IsFilled a (found ++ [])
filled-none a found f = subst (IsFilled a) (sym (append-nil found)) f

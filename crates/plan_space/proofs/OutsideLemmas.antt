-- Joins in the space, by what is found of their sides.
use Rattle.std.proofs.Common.{◌≡◌, ◌↔◌, Bool, true, false, sym, ◌∙◌}
use Rattle.std.proofs.lemmas.Bool.{true≢false}
use Rattle.catalog.specs.Contents.{Contents}
use Rattle.sql_query.specs.Queries.{Query}
use Rattle.pathkeys.specs.Keys.{Keys}
use Rattle.plan_tree.specs.Plans.{Plan, nest, merge}
use Rattle.plan_tree.specs.Space.{IsBuilt, IsMerge, IsNest}

module _ (c : Contents) (q : Query) where
  -- joins of sides that are built
  pub nest-no-outer : (outer inner : Plan) (b : Bool) → b ≡ false → (b ≡ true) ↔ IsBuilt c q outer → (false ≡ true) ↔ IsBuilt c q (nest outer inner)
  nest-no-outer outer inner b differs h = (λ f. absurd (true≢false (sym f)), λ k. absurd (true≢false (sym (h.1 k.0) ∙ differs)))

  pub nest-no-inner : (outer inner : Plan) (b : Bool) → b ≡ false → (b ≡ true) ↔ IsBuilt c q inner → (false ≡ true) ↔ IsBuilt c q (nest outer inner)
  nest-no-inner outer inner b differs h = (λ f. absurd (true≢false (sym f)), λ k. absurd (true≢false (sym (h.1 k.1) ∙ differs)))

  pub nest-both : (outer inner : Plan) (b : Bool) → IsBuilt c q outer → IsBuilt c q inner → (b ≡ true) ↔ IsNest outer inner → (b ≡ true) ↔ IsBuilt c q (nest outer inner)
  nest-both outer inner b o i h = (λ f. (o, i, h.0 f), λ k. h.1 k.2)

  pub merge-no-outer : (outer inner : Plan) (keys : Keys) (b : Bool) → b ≡ false → (b ≡ true) ↔ IsBuilt c q outer → (false ≡ true) ↔ IsBuilt c q (merge keys outer inner)
  merge-no-outer outer inner keys b differs h = (λ f. absurd (true≢false (sym f)), λ k. absurd (true≢false (sym (h.1 k.0) ∙ differs)))

  pub merge-no-inner : (outer inner : Plan) (keys : Keys) (b : Bool) → b ≡ false → (b ≡ true) ↔ IsBuilt c q inner → (false ≡ true) ↔ IsBuilt c q (merge keys outer inner)
  merge-no-inner outer inner keys b differs h = (λ f. absurd (true≢false (sym f)), λ k. absurd (true≢false (sym (h.1 k.1) ∙ differs)))

  pub merge-both : (outer inner : Plan) (keys : Keys) (b : Bool) → IsBuilt c q outer → IsBuilt c q inner → (b ≡ true) ↔ IsMerge c q keys outer inner → (b ≡ true) ↔ IsBuilt c q (merge keys outer inner)
  merge-both outer inner keys b o i h = (λ f. (o, i, h.0 f), λ k. h.1 k.2)

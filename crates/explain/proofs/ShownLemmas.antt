-- What a plan that is shown has: its nodes have lines.
use Rattle.std.proofs.Common.{◌≡◌, ◌<◌, inl, inr, ℕ, ◌+◌, List, [], ◌∷◌, ◌++◌, append_assoc, length, refl, sym, ◌∙◌, ap, ap₂, subst, arith}
use Rattle.std.specs.Prelude.{All}
use Rattle.std.specs.List.{AllZip}
use Rattle.std.proofs.Math.Nat.{lt_of_le_of_lt}
use Rattle.pg_base.specs.declared.numbers.IndexNo.{IndexNo}
use Rattle.pg_base.specs.declared.numbers.RelNo.{RelNo}
use Rattle.pg_base.specs.declared.rel_set.RelSet.{RelSet}
use Rattle.pg_expr.specs.Cond.{Cond}
use Rattle.catalog.specs.Contents.{Contents, IsIndex}
use Rattle.eq_classes.proofs.ListLemmas.{IsIn, all_from}
use Rattle.sql_query.specs.Queries.{Query}
use Rattle.pathkeys.specs.Keys.{Keys}
use Rattle.plan_tree.specs.Plans.{Plan, seq, index, index_only, bitmap, sort, nest, merge, BitTree, leaf, all_hold, some_arm, BitTrees, no_trees, tree_and, set_of}
use Rattle.plan_tree.specs.work.Costs.{HaveRows}
use Rattle.plan_tree.specs.work.Costable.{IsCostableTree, AreCostableTrees, IsMatchedBy}
use Rattle.plan_tree.specs.Least.{IsAdmissible}
use Rattle.plan_tree.specs.Space.{IsBuilt}
use Rattle.plan_tree.proofs.BoundLemmas.{merge-most, nest-most, sort-most}
use Rattle.plan_tree.proofs.CostableLemmas.{built-costable}
use Rattle.plan_laws.proofs.JoiningLemmas.{joining_classes}
use Rattle.plan_laws.proofs.ByClassesLemmas.{IsByClasses, plain_by_classes, side_by_classes, top_by_classes}
use Rattle.explain.specs.work.Lines.{HasIndexes, HasLine, HasLines, HaveIndexes, IsShown}
use Rattle.explain.specs.Texts.{bits_text, node_line, text_at}

pub has-line : (c : Contents) (q : Query) (p : Plan) → HasLines c q p → HasLine c q p
has-line c q (seq r) h = h
has-line c q (index r i backward p) h = h
has-line c q (index_only r i backward p) h = h
has-line c q (bitmap r p bits) h = h
has-line c q (sort keys input) h = h.0
has-line c q (nest outer inner) h = h.0
has-line c q (merge keys outer inner) h = h.0

zip-made : (c : Contents) (r : ℕ) (arms : List Cond) (is : List IndexNo) → AllZip (IsMatchedBy c r) arms is → (x : IndexNo) → IsIn x is → IsIndex c x
zip-made c r [] [] h x i = absurd i
zip-made c r [] (j ∷ js) h x i = absurd h
zip-made c r (a ∷ arms) [] h x i = absurd h
zip-made c r (a ∷ arms) (j ∷ js) h x (inl same) = let P : IndexNo → Type 0 = λ y. IsIndex c y in subst P (sym same) h.0.made
zip-made c r (a ∷ arms) (j ∷ js) h x (inr later) = zip-made c r arms js h.1 x later

-- a tree that has a cost is by indexes of the catalogue
mutual
  pub tree-indexes : (c : Contents) (q : Query) (r : ℕ) (b : BitTree) → IsCostableTree c q r b → HasIndexes c b
  tree-indexes c q r (leaf i) h = h
  tree-indexes c q r (all_hold bs) h = trees-indexes c q r bs h
  tree-indexes c q r (some_arm n is) h = all_from (IsIndex c) is (zip-made c r _ is h)

  pub trees-indexes : (c : Contents) (q : Query) (r : ℕ) (bs : BitTrees) → AreCostableTrees c q r bs → HaveIndexes c bs
  trees-indexes c q r no_trees h = tt
  trees-indexes c q r (tree_and b bs) h = (tree-indexes c q r b h.0, trees-indexes c q r bs h.1)

module _ (c : Contents) (q : Query) where
  no-classes : All (λ n. n < length q.classes.classes) []
  no-classes = λ k d lt. absurd (omega (arith, lt))

  module _ (some : HaveRows c q) where
    built-lines : (p : Plan) → IsBuilt c q p → IsAdmissible c q p → IsByClasses c q p → HasLines c q p
    built-lines (seq r) b a k = record { costable = built-costable c q (seq r) b; admissible = a; classes = no-classes }
    built-lines (index r i backward p) b a k = record { costable = built-costable c q (index r i backward p) b; admissible = a; classes = no-classes }
    built-lines (index_only r i backward p) b a k = record { costable = built-costable c q (index_only r i backward p) b; admissible = a; classes = no-classes }
    built-lines (bitmap r p bits) b a k = record { costable = built-costable c q (bitmap r p bits) b; admissible = a; classes = no-classes }
    built-lines (sort keys input) b a k = (
      record { costable = built-costable c q (sort keys input) b; admissible = a; classes = k },
      built-lines input b.0 (lt_of_le_of_lt (sort-most c q keys input) a) (plain_by_classes c q input b.1),
    )
    built-lines (nest outer inner) b a k = (
      record { costable = built-costable c q (nest outer inner) b; admissible = a; classes = no-classes },
      built-lines outer b.0 (lt_of_le_of_lt (nest-most c q some outer inner).0 a) (plain_by_classes c q outer b.2.outer_plain),
      built-lines inner b.1 (lt_of_le_of_lt (nest-most c q some outer inner).1 a) (plain_by_classes c q inner b.2.inner_plain),
    )
    built-lines (merge keys outer inner) b a k =
        let classes = joining_classes (set_of outer) (set_of inner) q.classes.classes keys b.2.list.joining in (
          record { costable = built-costable c q (merge keys outer inner) b; admissible = a; classes = classes },
          built-lines outer b.0 (lt_of_le_of_lt (merge-most c q keys outer inner).0 a) (side_by_classes c q outer keys b.2.outer_keys classes),
          built-lines inner b.1 (lt_of_le_of_lt (merge-most c q keys outer inner).1 a) (side_by_classes c q inner keys b.2.inner_keys classes),
        )

    pub shown-lines : (p : Plan) → IsShown c q p → IsAdmissible c q p → HasLines c q p
    shown-lines p (inl of) a = built-lines p of.built a (plain_by_classes c q p of.plain)
    shown-lines p (inr done) a = built-lines p done.built a (top_by_classes c q p done.ordered)

-- the lines of a bitmap scan
pub bitmap-lines : (c : Contents) (q : Query) (d below : ℕ) (p : Plan) (r : RelNo) (param : RelSet) (b : BitTree) (old mid new : List ℕ) → p ≡ bitmap r param b → below ≡ d + 1 →
    mid ≡ old ++ node_line c q d p → new ≡ mid ++ bits_text c q below b → new ≡ old ++ text_at c q d p
bitmap-lines c q d below p r param b old mid new is deep first next =
    next
    ∙ ap₂ (λ (l : List ℕ) (n : ℕ). l ++ bits_text c q n b) first deep
    ∙ append_assoc old (node_line c q d p) (bits_text c q (d + 1) b)
    ∙ ap (λ (l : List ℕ). old ++ l) (whole is)
  where
    whole : p ≡ bitmap r param b → node_line c q d p ++ bits_text c q (d + 1) b ≡ text_at c q d p
    whole e = let P : Plan → Type 0 = λ x. node_line c q d x ++ bits_text c q (d + 1) b ≡ text_at c q d x in subst P (sym e) refl

-- the lines of a join: its own, and those of both children one deeper
module _ (c : Contents) (q : Query) (d below : ℕ) (p a b : Plan) (old mid next new : List ℕ) (deep : below ≡ d + 1) (first : mid ≡ old ++ node_line c q d p)
    (outer : next ≡ mid ++ text_at c q below a) (inner : new ≡ next ++ text_at c q below b) where
  join-lines : node_line c q d p ++ (text_at c q (d + 1) a ++ text_at c q (d + 1) b) ≡ text_at c q d p → new ≡ old ++ text_at c q d p
  join-lines whole =
      inner
      ∙ ap (λ (l : List ℕ). l ++ text_at c q below b) (outer ∙ ap (λ (l : List ℕ). l ++ text_at c q below a) first)
      ∙ append_assoc (old ++ node_line c q d p) (text_at c q below a) (text_at c q below b)
      ∙ append_assoc old (node_line c q d p) (text_at c q below a ++ text_at c q below b)
      ∙ ap (λ (n : ℕ). old ++ (node_line c q d p ++ (text_at c q n a ++ text_at c q n b))) deep
      ∙ ap (λ (l : List ℕ). old ++ l) whole

  pub nest-lines : p ≡ nest a b → new ≡ old ++ text_at c q d p
  nest-lines is = join-lines (let P : Plan → Type 0 = λ x. node_line c q d x ++ (text_at c q (d + 1) a ++ text_at c q (d + 1) b) ≡ text_at c q d x in subst P (sym is) refl)

  pub merge-lines : (keys : Keys) → p ≡ merge keys a b → new ≡ old ++ text_at c q d p
  merge-lines keys is = join-lines (let P : Plan → Type 0 = λ x. node_line c q d x ++ (text_at c q (d + 1) a ++ text_at c q (d + 1) b) ≡ text_at c q d x in subst P (sym is) refl)

-- By induction over trees: a plan whose children are dominated by kept plans is dominated by the same join of these.
use Rattle.std.proofs.Common.{◌≡◌, false, refl, true≢false}
use Rattle.std.proofs.Math.Nat.{lt_of_le_of_lt}
use Rattle.plan_tree.specs.catalog_Contents.{Contents}
use Rattle.plan_tree.specs.sql_query_Queries.{Query}
use Rattle.plan_tree.specs.pathkeys_Keys.{Keys}
use Rattle.plan_tree.specs.Plans.{Plan, seq, index, index_only, bitmap, sort, nest, merge, is_sort}
use Rattle.plan_tree.specs.work.Costs.{HaveRows}
use Rattle.plan_tree.specs.Space.{IsBuilt}
use Rattle.plan_tree.specs.Least.{IsAdmissible}
use Rattle.plan_tree.specs.work.Least.{StandsFor}
use Rattle.plan_tree.proofs.BoundLemmas.{merge-most, nest-most, sort-most}
use Rattle.plan_tree.proofs.DominationLemmas.{dominates-trans, merge-dominates, nest-dominates, plain-stands, sort-stands}
use Rattle.plan_laws.specs.Closed.{IsKeptSide, IsUndercut}
use Rattle.plan_laws.specs.work.Closed.{IsClosed}

module _ (c : Contents) (q : Query) (Kept : Plan → Type 0) (some : HaveRows c q) (closed : IsClosed c q Kept) where
  -- a kept plan, or a sort of one, that may stand in the place of a plan
  pub record HasStandIn (t : Plan) : Type 0 where
    pub stand_in : Plan
    pub is_kept : IsKeptSide c q Kept stand_in
    pub built : IsBuilt c q stand_in
    pub stands : StandsFor c q stand_in t

  side-plain : (t : Plan) → Kept t → IsKeptSide c q Kept t
  side-plain (seq r) h = h
  side-plain (index r i backward p) h = h
  side-plain (index_only r i backward p) h = h
  side-plain (bitmap r p bits) h = h
  side-plain (sort keys input) h = absurd (true≢false (closed.plain (sort keys input) h))
  side-plain (nest outer inner) h = h
  side-plain (merge keys outer inner) h = h

  undercut-stands : (t : Plan) → is_sort t ≡ false → IsUndercut c q Kept t → HasStandIn t
  undercut-stands t e u = record {
    stand_in = u.by';
    is_kept = side-plain u.by' u.is_kept;
    built = closed.built u.by' u.is_kept;
    stands = plain-stands c q u.by' t (closed.plain u.by' u.is_kept) e u.dominates;
  }

  sorted-stands : (keys : Keys) (t : Plan) → IsUndercut c q Kept t → HasStandIn (sort keys t)
  sorted-stands keys t u = record {
    stand_in = sort keys u.by';
    is_kept = u.is_kept;
    built = (closed.built u.by' u.is_kept, closed.plain u.by' u.is_kept);
    stands = sort-stands c q keys u.by' t u.dominates;
  }

  -- the join of the plans that undercut the sides is undercut, and so is the join
  nest-undercut : (o i : Plan) → IsBuilt c q (nest o i) → IsAdmissible c q (nest o i) → IsUndercut c q Kept o → IsUndercut c q Kept i → IsUndercut c q Kept (nest o i)
  nest-undercut o i built below p j =
      let made = nest-dominates c q o p.by' i j.by' (closed.built p.by' p.is_kept) (closed.built j.by' j.is_kept) (closed.plain p.by' p.is_kept) (closed.plain j.by' j.is_kept) p.dominates j.dominates built in
      let found = closed.joins (nest p.by' j.by') (p.is_kept, j.is_kept) made.0 (lt_of_le_of_lt made.1.total below) in
      record { by' = found.by'; is_kept = found.is_kept; dominates = dominates-trans c q found.by' (nest p.by' j.by') (nest o i) found.dominates made.1 }

  merge-undercut : (keys : Keys) (o i : Plan) → IsBuilt c q (merge keys o i) → IsAdmissible c q (merge keys o i) → HasStandIn o → HasStandIn i → IsUndercut c q Kept (merge keys o i)
  merge-undercut keys o i built below p j =
      let made = merge-dominates c q keys o p.stand_in i j.stand_in p.built j.built p.stands j.stands built in
      let found = closed.joins (merge keys p.stand_in j.stand_in) (p.is_kept, j.is_kept) made.0 (lt_of_le_of_lt made.1.total below) in
      record { by' = found.by'; is_kept = found.is_kept; dominates = dominates-trans c q found.by' (merge keys p.stand_in j.stand_in) (merge keys o i) found.dominates made.1 }

  -- what the induction says of a plan: it is undercut, or as a sort its input is
  abbrev IsInputUndercut : Plan → Type 0
  IsInputUndercut (sort keys input) = IsUndercut c q Kept input
  IsInputUndercut t = IsUndercut c q Kept t

  plain-undercut : (t : Plan) → is_sort t ≡ false → IsInputUndercut t → IsUndercut c q Kept t
  plain-undercut (seq r) e h = h
  plain-undercut (index r i backward p) e h = h
  plain-undercut (index_only r i backward p) e h = h
  plain-undercut (bitmap r p bits) e h = h
  plain-undercut (sort keys input) e h = absurd (true≢false e)
  plain-undercut (nest outer inner) e h = h
  plain-undercut (merge keys outer inner) e h = h

  stand-in : (t : Plan) → IsInputUndercut t → HasStandIn t
  stand-in (seq r) h = undercut-stands (seq r) refl h
  stand-in (index r i backward p) h = undercut-stands (index r i backward p) refl h
  stand-in (index_only r i backward p) h = undercut-stands (index_only r i backward p) refl h
  stand-in (bitmap r p bits) h = undercut-stands (bitmap r p bits) refl h
  stand-in (sort keys input) h = sorted-stands keys input h
  stand-in (nest outer inner) h = undercut-stands (nest outer inner) refl h
  stand-in (merge keys outer inner) h = undercut-stands (merge keys outer inner) refl h

  input-undercut : (t : Plan) → IsBuilt c q t → IsAdmissible c q t → IsInputUndercut t
  input-undercut (seq r) built below = closed.scans (seq r) refl built below
  input-undercut (index r i backward p) built below = closed.scans (index r i backward p) refl built below
  input-undercut (index_only r i backward p) built below = closed.scans (index_only r i backward p) refl built below
  input-undercut (bitmap r p bits) built below = closed.scans (bitmap r p bits) refl built below
  input-undercut (sort keys input) built below =
      plain-undercut input built.1 (input-undercut input built.0 (lt_of_le_of_lt (sort-most c q keys input) below))
  input-undercut (nest outer inner) built below =
      let most = nest-most c q some outer inner in
      nest-undercut outer inner built below
      (plain-undercut outer built.2.outer_plain (input-undercut outer built.0 (lt_of_le_of_lt most.0 below)))
      (plain-undercut inner built.2.inner_plain (input-undercut inner built.1 (lt_of_le_of_lt most.1 below)))
  input-undercut (merge keys outer inner) built below =
      let most = merge-most c q keys outer inner in
      merge-undercut keys outer inner built below
      (stand-in outer (input-undercut outer built.0 (lt_of_le_of_lt most.0 below)))
      (stand-in inner (input-undercut inner built.1 (lt_of_le_of_lt most.1 below)))

  -- each admissible plan of the space that is no sort is undercut
  pub undercut : (t : Plan) → IsBuilt c q t → is_sort t ≡ false → IsAdmissible c q t → IsUndercut c q Kept t
  undercut t built e below = plain-undercut t e (input-undercut t built below)

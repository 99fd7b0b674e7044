-- Plans that are one scan. Own.
use Rattle.pg_base.specs.declared.numbers.RelNo.{RelNo}
use Rattle.pg_base.specs.declared.rel_set.RelSet.{RelSet}
use Rattle.plan_tree.specs.Plans.{Plan, seq, index, index_only, bitmap, sort, nest, merge}

-- a plan is one scan
abbrev pub IsScan : Plan → Type 0
IsScan (seq r) = Unit {0}
IsScan (index r i backward p) = Unit {0}
IsScan (index_only r i backward p) = Unit {0}
IsScan (bitmap r p bits) = Unit {0}
IsScan (sort keys input) = ⊥
IsScan (nest outer inner) = ⊥
IsScan (merge keys outer inner) = ⊥

-- a plan's relation, and the relations whose rows it is given; of a scan
abbrev pub relation_of : Plan → RelNo
relation_of (seq r) = r
relation_of (index r i backward p) = r
relation_of (index_only r i backward p) = r
relation_of (bitmap r p bits) = r
relation_of _ = record { 0 = 0 }

-- the relations whose rows a scan is given, as bits: none of a sequential scan
abbrev pub param_set : Plan → RelSet
param_set (index r i backward p) = p
param_set (index_only r i backward p) = p
param_set (bitmap r p bits) = p
param_set _ = record { 0 = 0 }

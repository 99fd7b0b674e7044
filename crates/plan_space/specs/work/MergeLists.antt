-- The lists of merges, and their sides. Own.
use Rattle.std.specs.Prelude.{◌≡◌, ◌↔◌, Bool, IsTrue, List, Option, option_map}
use Rattle.std.specs.List.{list_all, list_any}
use Rattle.pg_base.specs.Sets.{has}
use Rattle.pg_base.specs.declared.rel_set.RelSet.{RelSet}
use Rattle.catalog.specs.Contents.{Contents}
use Rattle.eq_classes.specs.Clauses.{ClassTable}
use Rattle.eq_classes.specs.declared.classes.ClassNo.{ClassNo}
use Rattle.sql_query.specs.Queries.{Query}
use Rattle.pathkeys.specs.work.Finding.{is_class}
use Rattle.pathkeys.specs.Keys.{Keys}
use Rattle.plan_tree.specs.Plans.{Plan, param_of}
use Rattle.plan_tree.specs.Space.{AreSides, IsEmpty, IsMergeList}

-- a class is one of those found
abbrev pub is_class_found : List (Option ClassNo) → ClassNo → Bool
is_class_found found c = list_any (λ (o : Option ClassNo). is_class c.0 (option_map (λ (n : ClassNo). n.0) o)) found

-- each class of a list is
abbrev pub are_classes_found : List (Option ClassNo) → List ClassNo → Bool
are_classes_found found list = list_all (λ (c : ClassNo). is_class_found found c) list

-- a test tells whether a list is one of a merge of two sets, in every query with these classes
abbrev pub TellsMergeList : ClassTable → RelSet → RelSet → Keys → Bool → Type 0
TellsMergeList t a b list told =
    (c : Contents) (q : Query) → q.classes ≡ t → IsTrue told ↔ IsMergeList c q (has a.0) (has b.0) list

-- two plans may be the sides of a merge, whatever its list: those of a join, of which the inner one is given no rows either
abbrev pub AreWholeSides : Plan → Plan → Type 0
AreWholeSides o i = AreSides o i × IsEmpty (param_of i)

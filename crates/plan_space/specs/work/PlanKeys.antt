-- The keys of scans and plans, class by class. Own.
use Rattle.std.specs.Prelude.{◌≡◌, ℕ, List, Option, option_map, true}
use Rattle.eq_classes.specs.declared.classes.ClassNo.{ClassNo}
use Rattle.catalog.specs.Contents.{Contents}
use Rattle.sql_query.specs.Queries.{Query}
use Rattle.pathkeys.specs.work.Finding.{class_numbers}
use Rattle.pathkeys.specs.Keys.{Keys, covers}
use Rattle.plan_tree.specs.Keys.{keys_of, scan_keys}
use Rattle.plan_tree.specs.Plans.{Plan}
use Rattle.plan_space.specs.declared.keys.IndexScan.{IndexScan}

-- the number of a class, where there is one
abbrev pub number_of_class : Option ClassNo → Option ℕ
number_of_class found = option_map (λ c. c.0) found

-- the classes by which the rows of a scan are sorted
abbrev pub keys_of_scan : Contents → Query → IndexScan → Keys
keys_of_scan c q s = scan_keys c q s.rel s.index s.backward s.param

-- the keys of a plan begin with a list
abbrev pub KeysBeginWith : Contents → Query → Plan → List ClassNo → Type 0
KeysBeginWith c q p list = covers (keys_of c q p) (class_numbers list) ≡ true

-- Working words beside those of `Texts`.
use Rattle.std.specs.Prelude.{ℕ, ◌+◌, ◌-◌, Bool, cond, List, [], ◌∷◌, ◌++◌, codes, replicate, Vec, ◌≡◌}
use Rattle.std.specs.declared.alloc.Global.{Global}
use Rattle.catalog.specs.Contents.{Contents}
use Rattle.eq_classes.specs.declared.classes.ClassNo.{ClassNo}
use Rattle.eq_classes.specs.Clauses.{Set, first_in}
use Rattle.eq_classes.specs.Listing.{class_at}
use Rattle.sql_query.specs.Queries.{Query}
use Rattle.pathkeys.specs.work.Finding.{class_numbers}
use Rattle.pathkeys.specs.Keys.{Keys}
use Rattle.plan_tree.specs.Plans.{Plan, set_of}
use Rattle.plan_tree.specs.work.Views.{bits, bits_all}
use Rattle.plan_tree.specs.declared.bits.BitTree.{BitTree as Bits}
use Rattle.explain.specs.Texts.{with_commas, member_text, keys_text, bits_text, trees_text}

-- a text gets bytes at its end
abbrev pub Gets : Vec ℕ Global → Vec ℕ Global → List ℕ → Type 0
Gets old new bytes = new.items ≡ old.items ++ bytes

-- what comes before the lead of a line for that of one that is deeper
abbrev pub six_before : List ℕ → List ℕ
six_before [] = codes "  ->  "
six_before (x ∷ xs) = replicate 6 32

-- what comes before the alias of a relation that is given: the word at the first one, a comma at each other
abbrev pub before_given : Bool → List ℕ
before_given first = cond first (codes " for ") (codes ", ")

-- aliases of relations that are given, in a row
abbrev pub given_list : Bool → List (List ℕ) → List ℕ
given_list first xs = with_commas (before_given first) xs

module _ (c : Contents) (q : Query) where
  -- the first member inside the set of the class of a number
  abbrev pub member_at : Set → ℕ → List ℕ
  member_at set n = member_text c q (first_in (class_at q.classes.classes n) set)

  -- a list of classes by their members inside the set
  abbrev pub key_list : Set → List ClassNo → List ℕ
  key_list set keys = keys_text c q set (class_numbers keys)

  -- the keys of a node, by the members of their classes inside its relations
  abbrev pub node_keys : Plan → Keys → List ℕ
  node_keys p keys = keys_text c q (set_of p) keys

  -- the lines of a bitmap tree of the program
  abbrev pub tree_lines : ℕ → Bits → List ℕ
  tree_lines d b = bits_text c q d (bits b)

  -- the lines of the parts of an AND
  abbrev pub part_lines : ℕ → List Bits → List ℕ
  part_lines d bs = trees_text c q d (bits_all bs)

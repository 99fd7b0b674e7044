-- The calls of a grouped query and their columns, and what is seen of tuples by these.
use Rattle.std.proofs.Common.{◌≡◌, suc, List, [], ◌∷◌, length, map, refl, sym, ap, ap₂, ◌∙◌, subst, Option}
use Rattle.pg_expr.specs.declared.operand.ColRef.{ColRef}
use Rattle.catalog.specs.Contents.{Contents}
use Rattle.catalog.specs.Range.{Range}
use Rattle.sql_query.specs.Grouped.{GroupedQuery}
use Rattle.sql_query.specs.Queries.{Query}
use Rattle.sql_query.specs.Tuples.{Tuple}
use Rattle.sql_query.specs.Worlds.{World}
use Rattle.sql_query.specs.declared.grouped.Item.{Item}
use Rattle.sql_query.specs.declared.grouped.Item.TheVariants.{Key, CountAll, Count, Min, Max}
use Rattle.group_values.specs.Groups.{Seen}
use Rattle.group_values.specs.declared.shape.Call.{Call}
use Rattle.group_values.specs.work.Neighbours.{AreTogether}
use Rattle.group_values.specs.declared.form.Form.{Form}
use Rattle.group_values.specs.declared.form.Form.TheVariants.{Sorted}
use Rattle.group_runs.specs.Seen.{seen_of}
use Rattle.group_query.specs.Shapes.{args_of, calls_of}
use Rattle.group_reply.specs.work.Drawing.{seen_all}
use Rattle.group_reply.specs.Replies.{item_types}

-- each call has one column, or none
as-many : (is : List Item) → length (args_of is) ≡ length (calls_of is)
as-many [] = refl
as-many (Key n ∷ is) = as-many is
as-many (CountAll ∷ is) = ap suc (as-many is)
as-many (Count x ∷ is) = ap suc (as-many is)
as-many (Min x ∷ is) = ap suc (as-many is)
as-many (Max x ∷ is) = ap suc (as-many is)

pub as-many-of : (is : List Item) (columns : List (Option ColRef)) (calls : List Call) → columns ≡ args_of is → calls ≡ calls_of is → length columns ≡ length calls
as-many-of is columns calls of_args of_calls = ap (λ (l : List (Option ColRef)). length l) of_args ∙ as-many is ∙ sym (ap (λ (l : List Call). length l) of_calls)

-- tuples of a group stand side by side also where they are seen by a copy of these columns
pub together-by : (w : World) (q : Query) (g : GroupedQuery) (ts : List Tuple) (keys : List ColRef) (columns : List (Option ColRef)) (form other : Form)
    → keys ≡ g.keys → columns ≡ args_of g.items → form ≡ other → (other ≡ Sorted → AreTogether (seen_all w q g ts)) → form ≡ Sorted → AreTogether (map (seen_of w q keys columns) ts)
together-by w q g ts keys columns form other of_keys of_args same together sorted =
    let P : List Seen → Type 0 = λ ss. AreTogether ss in
    subst P (ap₂ (λ (k : List ColRef) (a : List (Option ColRef)). map (seen_of w q k a) ts) (sym of_keys) (sym of_args)) (together (sym same ∙ sorted))

-- the types of what items show, by copies of the relations, the keys and the items
pub types-same : (c : Contents) (r range : Range) (ks keys : List ColRef) (is items : List Item) → r ≡ range → ks ≡ keys → is ≡ items → item_types c r ks is ≡ item_types c range keys items
types-same c r range ks keys is items ranges same shown =
    ap (λ (x : Range). item_types c x ks is) ranges ∙ ap₂ (λ (x : List ColRef) (y : List Item). item_types c range x y) same shown

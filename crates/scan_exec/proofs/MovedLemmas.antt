-- What is shown of a relation of a query, in what a call was handed.
use Rattle.std.proofs.Common.{◌≡◌, List, sym, subst}
use Rattle.pg_base.specs.declared.numbers.RelNo.{RelNo}
use Rattle.pg_expr.specs.Cond.{Cond}
use Rattle.heap.specs.Stored.{Values}
use Rattle.catalog.specs.Contents.{Contents}
use Rattle.catalog.specs.Indexes.{Index}
use Rattle.catalog.specs.Range.{Range}

-- the catalogue, the relations, the relation, conditions and rows
pub moved : (P : Contents → Range → RelNo → List Cond → List Values → Type 0) (c c' : Contents) (s s' : Range) (r r' : RelNo) (es es' : List Cond) (rows rows' : List Values)
    → c' ≡ c → s' ≡ s → r' ≡ r → es' ≡ es → rows' ≡ rows → P c s r es rows → P c' s' r' es' rows'
moved P c c' s s' r r' es es' rows rows' ce se re ee we x =
    subst (λ (a : Contents). P a s' r' es' rows') (sym ce)
    (subst (λ (a : Range). P c a r' es' rows') (sym se)
    (subst (λ (a : RelNo). P c s a es' rows') (sym re)
    (subst (λ (a : List Cond). P c s r a rows') (sym ee)
    (subst (λ (a : List Values). P c s r es a) (sym we) x))))

-- the catalogue, the relations, the relation, conditions and rows, with tests and an index beside these
pub moved_index : (P : Contents → Range → RelNo → List Cond → List Values → List Cond → Index → Type 0) (c c' : Contents) (s s' : Range) (r r' : RelNo) (es es' : List Cond) (rows rows' : List Values) (ts ts' : List Cond) (d d' : Index)
    → c' ≡ c → s' ≡ s → r' ≡ r → es' ≡ es → rows' ≡ rows → ts' ≡ ts → d' ≡ d → P c s r es rows ts d → P c' s' r' es' rows' ts' d'
moved_index P c c' s s' r r' es es' rows rows' ts ts' d d' ce se re ee we te de x =
    moved (λ a b e f h. P a b e f h ts' d') c c' s s' r r' es es' rows rows' ce se re ee we
    (subst (λ (a : List Cond). P c s r es rows a d') (sym te) (subst (λ (a : Index). P c s r es rows ts a) (sym de) x))

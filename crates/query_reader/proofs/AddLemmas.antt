-- Lists of columns to which those of items are added, one after the other.
use Rattle.std.proofs.Common.{◌≡◌, ℕ, ◌+◌, ◌<◌, List, ◌++◌, length, drop, get_or, Result, Ok, Err, IsErrAnd, refl, sym, ap, subst, ◌∙◌, append_assoc}
use Rattle.std.proofs.lemmas.List.{drop_more}
use Rattle.pg_base.specs.declared.faults.Fault.{Fault}
use Rattle.pg_base.specs.declared.faults.Refusal.{Refusal}
use Rattle.pg_base.specs.declared.faults.Refusal.TheVariants as refusal
use Rattle.pg_expr.specs.declared.operand.ColRef.{ColRef}
use Rattle.query_reader.specs.declared.written.Item.{Item}
use Rattle.expr_reader.specs.Scope.{Scope}
use Rattle.query_reader.specs.Binding.{then_columns, item_columns, list_columns}
use Rattle.query_reader.specs.work.Adds.{Adds, AddsAll}

-- what is added after a call that succeeds, and what is told after one that fails
pub record Added (x : Result (List ColRef) Fault) (old new : List ColRef) : Type 0 where
  pub columns : List ColRef
  pub is : x ≡ Ok columns
  pub grown : new ≡ old ++ columns

pub adds-ok : {T : Type 0} (x : Result (List ColRef) Fault) (old new : List ColRef) (v : T) → Adds x old new (Ok v) → Added x old new
adds-ok (Ok columns) old new v a = record { columns = columns; is = refl; grown = a }
adds-ok (Err f) old new v a = absurd a

no-memory : (T : Type 0) (whole : Result (List ColRef) Fault) (old new : List ColRef) → AddsAll {T = T} whole old new (Err refusal.Memory)
no-memory T (Ok columns) old new = tt
no-memory T (Err f) old new = tt

-- what is told after an item that stops the list
pub list-stopped : (S T : Type 0) (whole x later : Result (List ColRef) Fault) (so old mid new : List ColRef) (e : Refusal) (r : Result T Refusal) → then_columns (Ok so) (then_columns x later) ≡ whole →
    Adds {T = S} x mid new (Err e) → IsErrAnd r (λ told. told ≡ e) → AddsAll whole old new r
list-stopped S T whole x later so old mid new e (Ok v) w a told = absurd told
list-stopped S T whole (Ok columns) later so old mid new (refusal.Fault f) (Err g) w a told = absurd a
list-stopped S T whole (Ok columns) later so old mid new refusal.Memory (Err g) w a told =
    let P : Refusal → Type 0 = λ h. AddsAll {T = T} whole old new (Err h) in
    subst P (sym told) (no-memory T whole old new)
list-stopped S T whole (Err f) later so old mid new refusal.Memory (Err g) w a told = absurd a
list-stopped S T whole (Err f) later so old mid new (refusal.Fault h) (Err g) w a told =
    let P : Refusal → Type 0 = λ k. AddsAll {T = T} whole old new (Err k) in
    let Q : Result (List ColRef) Fault → Type 0 = λ x. AddsAll {T = T} x old new (Err (refusal.Fault h)) in
    subst P (sym told) (subst Q w a)

pub adds-refused : (T : Type 0) (x : Result (List ColRef) Fault) (old new : List ColRef) (f g : Fault) (r : Result T Refusal) → x ≡ Err f → g ≡ f → IsErrAnd r (λ e. e ≡ refusal.Fault g) → Adds x old new r
adds-refused T x old new f g (Ok v) is same told = absurd told
adds-refused T x old new f g (Err e) is same told = rw (is, told) same

pub adds-stopped : (T : Type 0) (x : Result (List ColRef) Fault) (old new columns : List ColRef) (r : Result T Refusal) → x ≡ Ok columns → IsErrAnd r (λ e. e ≡ refusal.Memory) → Adds x old new r
adds-stopped T x old new columns (Ok v) is told = absurd told
adds-stopped T x old new columns (Err e) is told = rw (is, told) tt

pub adds-done : (T : Type 0) (x : Result (List ColRef) Fault) (old new columns : List ColRef) (v : T) → x ≡ Ok columns → new ≡ old ++ columns → Adds x old new (Ok v)
adds-done T x old new columns v is grown = rw is grown

pub adds-same : (T : Type 0) (x y : Result (List ColRef) Fault) (old new : List ColRef) (r : Result T Refusal) → x ≡ y → Adds y old new r → Adds x old new r
adds-same T x y old new r is a = subst (λ z. Adds z old new r) (sym is) a

-- the list goes on after columns that are added
pub then-then : (a b : List ColRef) (r : Result (List ColRef) Fault) → then_columns (Ok a) (then_columns (Ok b) r) ≡ then_columns (Ok (a ++ b)) r
then-then a b (Ok c) = ap Ok (sym (append_assoc a b c))
then-then a b (Err f) = refl

pub next-item-columns : (scope : Scope) (items : List Item) (n : ℕ) (item : Item) → n < length items → item ≡ get_or items n item →
    list_columns scope (drop n items) ≡ then_columns (item_columns scope item) (list_columns scope (drop (n + 1) items))
next-item-columns scope items n item lt at =
    ap (list_columns scope) (drop_more items n item lt) ∙ ap (λ i. then_columns (item_columns scope i) (list_columns scope (drop (n + 1) items))) (sym at)

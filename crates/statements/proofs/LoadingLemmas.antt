-- Why data are not loaded, with the looks that were taken.
use Rattle.std.proofs.Common.{◌≡◌, ◌⊎◌, ◌≤◌, ◌+◌, ℕ, List, [], inl, inr, slice_range, Ok, refl, sym, ap, ◌∙◌}
use Rattle.pg_base.specs.declared.numbers.TableNo.{TableNo}
use Rattle.pg_base.specs.declared.faults.Fault.{Fault}
use Rattle.heap.specs.declared.fault.CopyFault.{CopyFault}
use Rattle.heap.specs.declared.fault.CopyFault.TheVariants as copying
use Rattle.heap.specs.Loading.{loaded, records_of}
use Rattle.heap.specs.Stored.{Stored}
use Rattle.ddl_reader.specs.Block.{IsBlockEnd}
use Rattle.ddl_reader.specs.Tables.{data_for}
use Rattle.sql_query.specs.Worlds.{World, stored_at}
use Rattle.store.specs.Kept.{load_looks}
use Rattle.statements.specs.declared.end.End.{End}
use Rattle.statements.specs.declared.end.End.TheVariants as ends
use Rattle.statements.specs.work.Ending.{end_by}
use Rattle.statements.specs.Faults.{rows_fault}
use Rattle.statements.specs.work.Steps.{AreLoaded, RefusesData, RefusesDefinition}

pub refuses-data : (end : End) (w : World) (text : List ℕ) (t : TableNo) (start looked looked' : ℕ) → RefusesDefinition end w text (data_for t start) [] → ((f : Fault) → end ≡ ends.Fault f → looked' ≡ looked) →
    (looked' ≡ looked) ⊎ AreLoaded w text t start looked looked' → RefusesData end w text t start looked looked'
refuses-data (ends.Fault f) w text t start looked looked' h unread looks = (h, unread f refl)
refuses-data ends.Write w text t start looked looked' h unread looks = h
refuses-data ends.Memory w text t start looked looked' h unread looks = looks

-- a fault is not that memory ran out
pub no-memory : (e : CopyFault) (t : TableNo) (start : ℕ) (end : End) (f : Fault) → end ≡ end_by (rows_fault e t start) → end ≡ ends.Fault f → e ≡ copying.Memory → ⊥
no-memory e t start end f told is memory =
    let wrong : ends.Fault f ≡ ends.Memory = sym is ∙ told ∙ ap (λ (x : CopyFault). end_by (rows_fault x t start)) memory in
    cc (wrong)

pub some-looks : (w : World) (text : List ℕ) (t : TableNo) (start end next looked looked' : ℕ) → IsBlockEnd text start end next →
    (looked' ≡ looked) ⊎ ((s : Stored) × (loaded (stored_at w t) (records_of (slice_range text start end)) ≡ Ok s) × (looked' ≤ looked + load_looks w.contents t (stored_at w t) s)) →
    (looked' ≡ looked) ⊎ AreLoaded w text t start looked looked'
some-looks w text t start end next looked looked' block (inl same) = inl same
some-looks w text t start end next looked looked' block (inr (s, ok, within)) = inr (end, next, s, block, ok, within)

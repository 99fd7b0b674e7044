-- What calls give does not depend on where tuples stand.
use Rattle.std.proofs.Common.{◌≡◌, ℕ, suc, Bool, true, false, List, [], ◌∷◌, map, get_or, refl, ap, ap₂, Ordering, Less, Equal, Greater}
use Rattle.pg_value.specs.declared.value.Value.{Value}
use Rattle.pg_value.specs.declared.value.Value.TheVariants.{Null, Int, Bool as Flag, Text as String}
use Rattle.pg_value.specs.ColumnOrder.{directed}
use Rattle.pg_value.specs.Kinds.{directed_order, kind_order}
use Rattle.pg_value.proofs.KindLemmas.{directed_total, tied-same}
use Rattle.plan_laws.proofs.PermLemmas.{Perm, Perm-filter, Perm-map}
use Rattle.group_values.specs.declared.shape.Call.{Call}
use Rattle.group_values.specs.declared.shape.Call.TheVariants.{CountAll, Count, Min, Max}
use Rattle.group_values.specs.Groups.{Seen, all_called, values_of_call, called, is_known, count_value}
use Rattle.group_runs.proofs.LeastLemmas.{Perm-length, least-moved}
use Rattle.pg_value.proofs.DirectionLemmas.{undirected_equal}

-- values that tie are the same, with NULL behind the others
tied-last : (d : Bool) (v w : Value) → directed_order d false v w ≡ Equal → v ≡ w
tied-last d Null Null e = refl
tied-last d Null (Int n) e = cc e
tied-last d Null (Flag b) e = cc e
tied-last d Null (String t) e = cc e
tied-last d (Int n) Null e = cc e
tied-last d (Flag b) Null e = cc e
tied-last d (String t) Null e = cc e
tied-last d (Int n) (Int m) e = tied-same (Int n) (Int m) (undirected_equal d (kind_order (Int n) (Int m)) e)
tied-last d (Int n) (Flag b) e = tied-same (Int n) (Flag b) (undirected_equal d (kind_order (Int n) (Flag b)) e)
tied-last d (Int n) (String t) e = tied-same (Int n) (String t) (undirected_equal d (kind_order (Int n) (String t)) e)
tied-last d (Flag b) (Int n) e = tied-same (Flag b) (Int n) (undirected_equal d (kind_order (Flag b) (Int n)) e)
tied-last d (Flag b) (Flag a) e = tied-same (Flag b) (Flag a) (undirected_equal d (kind_order (Flag b) (Flag a)) e)
tied-last d (Flag b) (String t) e = tied-same (Flag b) (String t) (undirected_equal d (kind_order (Flag b) (String t)) e)
tied-last d (String t) (Int n) e = tied-same (String t) (Int n) (undirected_equal d (kind_order (String t) (Int n)) e)
tied-last d (String t) (Flag b) e = tied-same (String t) (Flag b) (undirected_equal d (kind_order (String t) (Flag b)) e)
tied-last d (String t) (String u) e = tied-same (String t) (String u) (undirected_equal d (kind_order (String t) (String u)) e)

args-moved : (n : ℕ) (ss ts : List Seen) → Perm ss ts → Perm (values_of_call n ss) (values_of_call n ts)
args-moved n ss ts p = Perm-filter is_known (map (λ (s : Seen). get_or s.args n Null) ss) (map (λ (s : Seen). get_or s.args n Null) ts) (Perm-map (λ (s : Seen). get_or s.args n Null) ss ts p)

called-moved : (c : Call) (n : ℕ) (ss ts : List Seen) → Perm ss ts → called c n ss ≡ called c n ts
called-moved CountAll n ss ts p = ap count_value (Perm-length ss ts p)
called-moved Count n ss ts p = ap count_value (Perm-length (values_of_call n ss) (values_of_call n ts) (args-moved n ss ts p))
called-moved Min n ss ts p = least-moved (directed_order false false) (directed_total false false) (tied-last false) (values_of_call n ss) (values_of_call n ts) (args-moved n ss ts p)
called-moved Max n ss ts p = least-moved (directed_order true false) (directed_total true false) (tied-last true) (values_of_call n ss) (values_of_call n ts) (args-moved n ss ts p)

pub calls-moved : (cs : List Call) (n : ℕ) (ss ts : List Seen) → Perm ss ts → all_called n cs ss ≡ all_called n cs ts
calls-moved [] n ss ts p = refl
calls-moved (c ∷ cs) n ss ts p = ap₂ (λ v vs. v ∷ vs) (called-moved c n ss ts p) (calls-moved cs (suc n) ss ts p)

-- Working words beside those of `Views`.
use Rattle.std.specs.Prelude.{map}
use Rattle.plan_tree.specs.work.Views.{bits}
use Rattle.plan_check.specs.Certificates.{Node, by_seq, by_index, by_index_only, by_bitmap, by_nest, by_merge, Entry, Certificate}
use Rattle.plan_check.specs.declared.entry.Node.{Node as Noded}
use Rattle.plan_check.specs.declared.entry.Node.TheVariants as nodes
use Rattle.plan_check.specs.declared.entry.Entry.{Entry as Entered}
use Rattle.plan_check.specs.declared.certificate.Certificate.{Certificate as Certified}
use Rattle.plan_check.specs.Views.{side}

-- what an entry is: a scan or a join of entries before it
abbrev pub node : Noded → Node
node nodes.Seq = by_seq
node (nodes.Index i backward) = by_index i backward
node (nodes.IndexOnly i backward) = by_index_only i backward
node (nodes.Bitmap b) = by_bitmap (bits b)
node (nodes.Nest outer inner) = by_nest outer inner
node (nodes.Merge keys outer inner) = by_merge keys (side outer) (side inner)

-- an entry with the numbers that it says of its plan
abbrev pub entry : Entered → Entry
entry e = record { set = e.set; param = e.param; node = node e.node; startup = e.startup; cost = e.cost; rows = e.rows; keys = e.keys }

-- the entries and the best plan of a certificate
abbrev pub certificate : Certified → Certificate
certificate t = record { entries = map entry t.entries; best = side t.best }

-- Working words beside those of `Printing`.
use Rattle.std.specs.declared.cmp.Ordering.{Ordering}
use Rattle.plan_tree.specs.work.Paths.{Path}
use Rattle.plan_check.specs.Certificates.{Entry, by_seq}
use Rattle.certificate_laws.specs.Printing.{printing_order}

-- what a path says of itself, as an entry without what it is made of
abbrev pub said : Path → Entry
said x = record { set = x.set; param = x.param; node = by_seq; startup = x.startup; cost = x.cost; rows = x.rows; keys = x.keys }

-- the order in which two paths are printed, by what they say of themselves
abbrev pub path_order : Path → Path → Ordering
path_order x y = printing_order (said x) (said y)

use Rattle.opfamily.proofs.NameLemmas.{named-further, named-plain}
use Rattle.opfamily.proofs.classes.class_named.Goals as goal

pub returns-in-Some : goal.returns-in-Some
returns-in-Some c = named-plain c.args.name.now c.args.t c.in-Some.class c.in-Some.ensures

pub returns-in-None : goal.returns-in-None
returns-in-None c = named-further c.args.name.now c.args.t c.further_class.result c.in-None.ensures c.further_class.ensures

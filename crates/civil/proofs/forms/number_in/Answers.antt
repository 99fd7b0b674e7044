use Rattle.civil.proofs.FormLemmas.{number-read}
use Rattle.civil.proofs.forms.number_in.Goals as goal

pub returns-clause-value : goal.returns-clause-value
returns-clause-value c =
    (number-read c.args.place c.args.count c.number_of.result c.args.text.now c.behind.result.now c.up_to.result.now c.behind.ensures c.up_to.ensures c.number_of.ensures c.requires.few c.requires.digits).0

pub returns-clause-bound : goal.returns-clause-bound
returns-clause-bound c =
    (number-read c.args.place c.args.count c.number_of.result c.args.text.now c.behind.result.now c.up_to.result.now c.behind.ensures c.up_to.ensures c.number_of.ensures c.requires.few c.requires.digits).1

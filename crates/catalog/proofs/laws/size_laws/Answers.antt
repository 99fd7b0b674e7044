use Rattle.catalog.proofs.SizeLemmas.{pages-bounded, rows-bounded}
use Rattle.catalog.proofs.laws.size_laws.Goals as goal

pub returns-clause-most_rows : goal.returns-clause-most_rows
returns-clause-most_rows c = rows-bounded

pub returns-clause-most_pages : goal.returns-clause-most_pages
returns-clause-most_pages c = pages-bounded

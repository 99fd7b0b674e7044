use Rattle.civil.proofs.written.Written.+put_figures.Given as goal

abbrev pub decreases-put_figures : goal.decreases-put_figures
decreases-put_figures l = l.count

use Rattle.civil.proofs.written.Written.+put_short_figures.Given as goal

abbrev pub decreases-put_short_figures : goal.decreases-put_short_figures
decreases-put_short_figures l = l.count

mod ClauseLemmas
mod ExampleLemmas

use Rattle.cost_rules.proofs.RisingLemmas.{sort-rises, nest-rises, merge-rises, sort-child, nest-children, merge-children, sort-startup, nest-startup, merge-startup, price-rises}
use Rattle.cost_rules.proofs.laws.rising_costs.Goals as goal

pub returns : goal.returns
returns c = record {
  sort = sort-rises;
  nest = nest-rises;
  merge = merge-rises;
  sort_child = sort-child;
  nest_children = nest-children;
  merge_children = merge-children;
  sort_startup = sort-startup;
  nest_startup = nest-startup;
  merge_startup = merge-startup;
  price = price-rises;
}

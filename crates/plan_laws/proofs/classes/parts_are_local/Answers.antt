use Rattle.eq_classes.specs.Clauses.{one}
use Rattle.eq_classes.specs.Parts.{union, is_all, is_base, is_join, is_param, is_join_param}
use Rattle.plan_laws.proofs.PartLemmas.{local_at}
use Rattle.plan_laws.proofs.LocalLemmas.{all_reads, base_reads, join_reads, param_reads, join_param_reads}
use Rattle.plan_laws.proofs.classes.parts_are_local.Goals as goal

pub returns-clause-all : goal.returns-clause-all
returns-clause-all c = λ g t b d s is. local_at g t is s (is_all s) (all_reads g.type_of g.conjuncts t.classes s) b d

pub returns-clause-base : goal.returns-clause-base
returns-clause-base c = λ g t b d r is. local_at g t is (one r) (is_base r) (base_reads g.type_of g.conjuncts t.classes r) b d

pub returns-clause-join : goal.returns-clause-join
returns-clause-join c = λ g t b d s u is. local_at g t is (union s u) (is_join s u) (join_reads g.type_of g.conjuncts t.classes s u) b d

pub returns-clause-param : goal.returns-clause-param
returns-clause-param c = λ g t b d r p is. local_at g t is (union (one r) p) (is_param r p) (param_reads g.type_of g.conjuncts t.classes r p) b d

pub returns-clause-join_param : goal.returns-clause-join_param
returns-clause-join_param c = λ g t b d s p r is. local_at g t is (union s (one r)) (is_join_param s r p) (join_param_reads g.type_of g.conjuncts t.classes s p r) b d

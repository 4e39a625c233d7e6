use Rattle.space_model.proofs.PathOrder.{before_itself, before_later, one_before, before_longer, before_by_number, one_list}
use Rattle.det_laws.proofs.laws.path_order.Goals as goal

pub returns-clause-never_itself : goal.returns-clause-never_itself
returns-clause-never_itself c p b = before_itself p b

pub returns-clause-passes_on : goal.returns-clause-passes_on
returns-clause-passes_on c p q r a b = before_later p q r a b

pub returns-clause-one_first : goal.returns-clause-one_first
returns-clause-one_first c p q ne = one_before p q ne

pub returns-clause-beginning_first : goal.returns-clause-beginning_first
returns-clause-beginning_first c p q n = before_longer p q n

pub returns-clause-by_number : goal.returns-clause-by_number
returns-clause-by_number c r p q n m less = before_by_number r p q n m less

pub returns-clause-one_list : goal.returns-clause-one_list
returns-clause-one_list c ps qs s a b = one_list ps qs s a b

use Rattle.bk_arm_isa.proofs.Conditions.{compares_eq, compares_cc, compares_ls, compares_lt, compares_le}
use Rattle.bk_arm_isa.proofs.laws.conditions_compare.Goals as goal

pub returns-clause-equal : goal.returns-clause-equal
returns-clause-equal c = compares_eq

pub returns-clause-below : goal.returns-clause-below
returns-clause-below c = compares_cc

pub returns-clause-at_most : goal.returns-clause-at_most
returns-clause-at_most c = compares_ls

pub returns-clause-less : goal.returns-clause-less
returns-clause-less c = compares_lt

pub returns-clause-less_or_equal : goal.returns-clause-less_or_equal
returns-clause-less_or_equal c = compares_le

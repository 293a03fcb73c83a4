-- How far reading an expression still goes down.
use Rattle.std.proofs.Common.{ℕ}
use Rattle.bk_rule_text.specs.declared.read.operator.Level.{Level}
use Rattle.bk_rule_text.specs.declared.read.operator.Level.TheVariants.{Product, Sum, Comparison}

abbrev pub rank : Level → ℕ
rank Product = 1
rank Sum = 4
rank Comparison = 7

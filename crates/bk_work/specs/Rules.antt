-- The rules of the rewritings.
use Rattle.std.specs.Prelude.{List, [], ◌++◌}
use Rattle.bk_ops.specs.declared.types.Target.{Target}
use Rattle.bk_ops.specs.declared.types.Target.TheVariants.{Arm, Riscv64}
use Rattle.bk_rule.specs.declared.trees.Rule.{Rule}
use Rattle.bk_rules_arm.specs.Lines.{arm_list}
use Rattle.bk_rules_dec64.specs.Lines.{dec64_list}
use Rattle.bk_rules_generic.specs.Lines.{generic_list}
use Rattle.bk_rules_rv.specs.Lines.{rv_list}

-- the rules that hold on every target, those that take 64 bits apart, and those that give the target's own ops
pub record RulesRecord : Type 0 where
  pub generic : List Rule
  pub halves : List Rule
  pub machine : List Rule

-- behind those that take 64 bits apart come the generic ones; on riscv64 nothing is taken apart
abbrev pub halves_rules : Target → List Rule
halves_rules Arm = dec64_list ++ generic_list
halves_rules Riscv64 = []

abbrev pub machine_rules : Target → List Rule
machine_rules Arm = arm_list
machine_rules Riscv64 = rv_list

-- the extra rules come behind the generic ones
abbrev pub rules_of : Target → List Rule → RulesRecord
rules_of t extra = record { generic = generic_list ++ extra; halves = halves_rules t; machine = machine_rules t }

use Rattle.std.proofs.Common.{◌≡◌, drop, ◌++◌, true}
use Rattle.bk_arm_isa.specs.Machine.{word_bytes}
use Rattle.bk_ops.specs.declared.types.Target.TheVariants.{Arm}
use Rattle.bk_func.specs.Words.{all_words}
use Rattle.bk_func.specs.Arguments.{fit}
use Rattle.bk_arm_sim.proofs.signature.push_words.Given as goal

abbrev pub invariant-loop-place : goal.invariant-loop-place
invariant-loop-place l = record {
  is : l.out.items ++ word_bytes (all_words Arm (drop l.place l.types) (drop l.place l.args)) ≡ l.initial.out.items ++ word_bytes (all_words Arm l.types l.args);
  fitting : fit Arm (drop l.place l.types) (drop l.place l.args) ≡ true;
}

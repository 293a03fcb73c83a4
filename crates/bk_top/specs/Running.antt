-- What `run` tells: how the machine at the start of a function of an object ends.
use Rattle.std.specs.Prelude.{◌≡◌, ℕ, List, length, false, Some, Ok}
use Rattle.bk_ops.specs.declared.types.Target.{Target}
use Rattle.bk_ops.specs.declared.types.Target.TheVariants.{Arm, Riscv64}
use Rattle.bk_func.specs.Records.{SigRecord}
use Rattle.bk_func.specs.Words.{all_words, count_words}
use Rattle.bk_num.specs.Bytes.{each_bytes}
use Rattle.bk_elf.specs.Records.{ObjectRecord}
use Rattle.bk_elf.specs.Loading.{loaded}
use Rattle.bk_elf.specs.Functions.{has_function, function_of}
use Rattle.bk_machine.specs.declared.stop.Stop.{Stop}
use Rattle.bk_machine.specs.declared.stop.Stop.TheVariants as stop
use Rattle.bk_rv_isa.specs.Machine as riscv
use Rattle.bk_rv_sim.specs.View as riscv_view
use Rattle.bk_rv_sim.specs.Results as riscv_results
use Rattle.bk_arm_isa.specs.Machine as arm
use Rattle.bk_arm_sim.specs.View as arm_view
use Rattle.bk_arm_sim.specs.Results as arm_results
use Rattle.bk_top.specs.Commands.{CallRecord}
use Rattle.bk_top.specs.Arguments.{own_stack, Gives, DoNotFit}
use Rattle.bk_top.specs.Outcomes.{OutcomeRecord, returned, trapped, going, fault, outcome_line, first_numbers}

-- how a machine ended that stopped so: the results are the numbers in their words
abbrev pub riscv_outcome : SigRecord → riscv.Machine → Stop → OutcomeRecord
riscv_outcome sig m stop.Returned = returned (first_numbers (riscv_results.result_of m sig) (length sig.results))
riscv_outcome sig m (stop.Trapped number) = trapped number
riscv_outcome sig m stop.Going = going
riscv_outcome sig m (stop.Fault address) = fault address

abbrev pub arm_outcome : SigRecord → arm.Machine → Stop → OutcomeRecord
arm_outcome sig m stop.Returned = returned (first_numbers (arm_results.result_of m sig) (length sig.results))
arm_outcome sig m (stop.Trapped number) = trapped number
arm_outcome sig m stop.Going = going
arm_outcome sig m (stop.Fault address) = fault address

-- the line of a run that ended so
abbrev pub riscv_told : SigRecord → Stop × riscv.Machine → List ℕ
riscv_told sig end = outcome_line Riscv64 sig.results (riscv_outcome sig end.1 end.0) end.1.window

abbrev pub arm_told : SigRecord → Stop × arm.Machine → List ℕ
arm_told sig end = outcome_line Arm sig.results (arm_outcome sig end.1 end.0) end.1.window

-- the line of at most so many steps from the start of the function at an address, with these arguments
unfoldable pub riscv_line : ObjectRecord → ℕ → SigRecord → List ℕ → ℕ → ℕ → List ℕ
riscv_line o address sig args bound stack =
    riscv_told sig (riscv_view.ended (riscv.run bound (riscv.start o.text (each_bytes 8 o.pool) o.window address args (length sig.results) stack)))

unfoldable pub arm_line : ObjectRecord → ℕ → SigRecord → List ℕ → ℕ → ℕ → List ℕ
arm_line o address sig args bound stack =
    arm_told sig (arm_view.ended (arm.run bound (arm.start o.text (each_bytes 8 o.pool) o.window address (all_words Arm sig.args args) (count_words Arm sig.results) stack)))

abbrev pub line_on : Target → ObjectRecord → ℕ → SigRecord → List ℕ → ℕ → ℕ → List ℕ
line_on Arm o address sig args bound stack = arm_line o address sig args bound stack
line_on Riscv64 o address sig args bound stack = riscv_line o address sig args bound stack

-- The line of the call of a function of the object that the bytes are loaded as.
pub record Runs (call : CallRecord) (object line : List ℕ) : Type 0 where
  pub image : ObjectRecord
  pub loads : loaded object ≡ Ok image
  pub address : ℕ
  pub sig : SigRecord
  pub found : function_of image call.name ≡ Some (address, sig)
  pub args : List ℕ
  pub given : Gives image.target sig.args call.args args
  pub told : line ≡ line_on image.target image address sig args call.bound own_stack

-- no function of the object has the name
abbrev pub LacksFunction : CallRecord → List ℕ → Type 0
LacksFunction call object = (o : ObjectRecord) × (loaded object ≡ Ok o) × (has_function o call.name ≡ false)

-- the words give no numbers for the arguments of the object's function
abbrev pub Misfits : CallRecord → List ℕ → Type 0
Misfits call object =
    (o : ObjectRecord) × (f : ℕ × SigRecord) × (loaded object ≡ Ok o) × (function_of o call.name ≡ Some f) × DoNotFit o.target f.1.args call.args

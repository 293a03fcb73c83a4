-- The machine that a start gives.
use Rattle.std.specs.Prelude.{◌≡◌, ℕ, List}
use Rattle.bk_ops.specs.declared.types.Target.TheVariants.{Arm}
use Rattle.bk_func.specs.Records.{SigRecord}
use Rattle.bk_func.specs.Words.{all_words, count_words}
use Rattle.bk_elf.specs.Records.{ObjectRecord}
use Rattle.bk_num.specs.Bytes.{each_bytes}
use Rattle.bk_arm_isa.specs.Machine.{start}
use Rattle.bk_arm_sim.specs.declared.machine.Machine.{Machine}
use Rattle.bk_arm_sim.specs.View.{view}

-- the machine at the start of the image's function at an address, with arguments of its signature
pub record IsStarted (image : ObjectRecord) (address : ℕ) (sig : SigRecord) (args window : List ℕ) (stack : ℕ) (m : Machine) : Type 0 where
  pub state : view m ≡ start image.text (each_bytes 8 image.pool) window address (all_words Arm sig.args args) (count_words Arm sig.results) stack
  pub signature : m.sig ≡ sig

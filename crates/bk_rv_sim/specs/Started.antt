-- The machine that a start gives.
use Rattle.std.specs.Prelude.{◌≡◌, ℕ, List, length}
use Rattle.bk_func.specs.Records.{SigRecord}
use Rattle.bk_elf.specs.Records.{ObjectRecord}
use Rattle.bk_num.specs.Bytes.{each_bytes}
use Rattle.bk_rv_isa.specs.Machine.{start}
use Rattle.bk_rv_sim.specs.declared.machine.Machine.{Machine}
use Rattle.bk_rv_sim.specs.View.{view}

-- the machine at the start of the image's function at an address, with arguments of its signature: one word for each
pub record IsStarted (image : ObjectRecord) (address : ℕ) (sig : SigRecord) (args window : List ℕ) (stack : ℕ) (m : Machine) : Type 0 where
  pub state : view m ≡ start image.text (each_bytes 8 image.pool) window address args (length sig.results) stack
  pub signature : m.sig ≡ sig

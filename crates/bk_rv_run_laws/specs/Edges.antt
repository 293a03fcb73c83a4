-- From the end of a block to the entry of the next.
use Rattle.std.specs.Prelude.{◌≡◌, ◌<◌, ◌≤◌, ℕ, suc, ◌+◌, List, Option, Some, slice_get}
use Rattle.bk_func.specs.Records.{BlockRecord, FuncRecord}
use Rattle.bk_func.specs.Numbers.{Program}
use Rattle.bk_func.specs.Edits.{block_of}
use Rattle.bk_func.specs.Meaning.{Activation, Entries, entered}
use Rattle.bk_rv_isa.specs.Machine.{Machine}
use Rattle.bk_rv_emit_laws.specs.Leaving.{Path}
use Rattle.bk_rv_emit_laws.specs.Ends.{Comes}
use Rattle.bk_run_laws.specs.Follows.{Follows}
use Rattle.bk_run_laws.specs.Standing.{EntryLaw}
use Rattle.bk_rv_run_laws.specs.Relation.{Image, Call, IsIn, IsBack, riscv64, standing}

-- a way that writes x31 alone keeps the call under way
abbrev pub WaysKeep : Type 0
WaysKeep =
    (x : Image) (p : Program) (i : ℕ) (f : FuncRecord) (id : ℕ) (a : Activation) (d : List ℕ) (call : Call) (m n : Machine) →
    Path 31 m n → IsIn x p i f id a d call m → IsIn x p i f id a d call n

-- where the machine comes from the end of a block to another one, as its entry wants it, it follows the run from there on, in which
-- one block more is entered; the block that stands next has the next place
abbrev pub EdgesFollow : Type 0
EdgesFollow =
    (x : Image) (p : Program) (enter : Entries) (k : ℕ) → EntryLaw riscv64 (standing x p) enter k p →
    (i : ℕ) (f : FuncRecord) (c : BlockRecord) (a : Activation) (edge from id : ℕ) (next : Option ℕ) (call : Call) (window : List ℕ) (left : ℕ) (m : Machine) →
    slice_get p.pkg.funcs i ≡ Some f → block_of f id ≡ Some c → left ≤ k → (x.shape i).place from < x.blocks →
    (next ≡ Some id → (x.shape i).place id ≡ (x.shape i).place from + 1) → Comes m ((x.shape i).address id) (next ≡ Some id) →
    IsIn x p i f id (entered p f c edge a (record { window = window; left = left })) window call m →
    Follows riscv64 (List ℕ) x.blocks ((x.shape i).place from) (record { window = window; left = suc left }) m
    (IsBack (x.shape i).args (x.shape i).words call.home (call.sp + (x.shape i).frame.bytes) m) (enter i a id edge (record { window = window; left = left }))

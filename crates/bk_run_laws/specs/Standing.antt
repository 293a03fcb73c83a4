-- A package on a machine: the relation at the entries of its blocks, and the law of all its runs.
use Rattle.std.specs.Prelude.{◌≡◌, ◌<◌, ◌≤◌, ℕ, suc, List, Some, slice_get}
use Rattle.bk_func.specs.Records.{BlockRecord, FuncRecord}
use Rattle.bk_func.specs.Numbers.{Program}
use Rattle.bk_func.specs.Edits.{block_of}
use Rattle.bk_func.specs.Meaning.{World, Activation, Entries, entered, run, in_block}
use Rattle.bk_run_laws.specs.Follows.{System, Follows}

-- how a package stands on a machine: the count of its blocks, the place of each in its function's layout, what tells one call
-- from another, when the machine stands at the entry of a block in a call, with a data window, and when a call has come back with
-- its results
pub record Standing (y : System) : Type 1 where
  pub Call : Type 0
  pub blocks : ℕ
  pub place : ℕ → ℕ → ℕ
  pub At : ℕ → FuncRecord → ℕ → Activation → List ℕ → Call → y.Machine → Type 0
  pub Back : ℕ → Call → y.Machine → List ℕ → World → y.Machine → Type 0

-- each block has a place in the layout, below the count of all blocks
abbrev pub ArePlaces : Program → ℕ → (ℕ → ℕ → ℕ) → Type 0
ArePlaces p blocks place =
    (i : ℕ) (f : FuncRecord) (b : BlockRecord) (id : ℕ) → slice_get p.pkg.funcs i ≡ Some f → block_of f id ≡ Some b → place i id < blocks

-- where so many blocks may be entered, runs from the entries of blocks are followed up to k
abbrev pub EntryLaw : (y : System) → Standing y → Entries → ℕ → Program → Type 0
EntryLaw y z enter k p =
    (i : ℕ) (f : FuncRecord) (b : BlockRecord) (a : Activation) (edge id : ℕ) (call : z.Call) (window : List ℕ) (left : ℕ) (m : y.Machine) →
    slice_get p.pkg.funcs i ≡ Some f → block_of f id ≡ Some b → left ≤ k →
    z.At i f id (entered p f b edge a (record { window = window; left = left })) window call m →
    Follows y (List ℕ) z.blocks (z.place i id) (record { window = window; left = left }) m (z.Back i call m)
    (enter i a id edge (record { window = window; left = left }))

-- the law of runs that enter at most k blocks
abbrev pub BlockLaw : (y : System) → Standing y → ℕ → Program → Type 0
BlockLaw y z k p = EntryLaw y z (run k p) k p

-- what one block owes: where the entries behind it are followed, it is
abbrev pub OneBlock : (y : System) → Standing y → Program → Type 0
OneBlock y z p =
    (enter : Entries) (k : ℕ) → EntryLaw y z enter k p →
    (i : ℕ) (f : FuncRecord) (b : BlockRecord) (a : Activation) (edge id : ℕ) (call : z.Call) (window : List ℕ) (left : ℕ) (m : y.Machine) →
    slice_get p.pkg.funcs i ≡ Some f → block_of f id ≡ Some b → left ≤ k →
    z.At i f id (entered p f b edge a (record { window = window; left = left })) window call m →
    Follows y (List ℕ) z.blocks (z.place i id) (record { window = window; left = suc left }) m (z.Back i call m)
    (in_block (Some b) enter p i f a edge (record { window = window; left = left }))

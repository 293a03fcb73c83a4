-- When one function stands for another: numbers that the new one's values may have are numbers that the old one's may have, and at
-- any such numbers both do the same. A function that stands for one that stands for another stands for that one.
use Rattle.std.specs.Prelude.{ℕ, ◌≡◌, if◌then◌else◌, List, map, Option, Some, None}
use Rattle.std.specs.List.{AllZip}
use Rattle.bk_func.specs.Records.{ValueRecord, BlockRecord, FuncRecord}
use Rattle.bk_func.specs.Edits.{block_of}
use Rattle.bk_func.specs.Numbers.{Program, Env, value_in}
use Rattle.bk_func.specs.Effects.{effect_of, chain_from, order}
use Rattle.bk_func.specs.Meaning.{World, Activation, Calls, done_by, first_state, phi_by, first_fault, without_memory, is_make_result, words_back, value_named, entry_id}
use Rattle.bk_func.proofs.Faults.{Mild}
use Rattle.bk_func.proofs.Kept.{BothBlocks}
use Rattle.bk_refine_laws.specs.Possible.{Possible}

-- memory values with one number that do the same where m has the numbers of their arguments
abbrev pub DoAlike : Program → (ℕ → ℕ) → ValueRecord → ValueRecord → Type 0
DoAlike p m u v = (u.id ≡ v.id) × ((calls : Calls) (a : Activation) (w : World) → done_by (effect_of u.op.family u.ty) calls p m u a w ≡ done_by (effect_of v.op.family v.ty) calls p m v a w)

-- the results of a function whose control is given, where m has the numbers of its arguments
abbrev pub results_from : Option ValueRecord → Program → FuncRecord → (ℕ → ℕ) → Activation → List ℕ
results_from None p f m a = words_back p f a
results_from (Some v) p f m a = if is_make_result v.op.family then map m (without_memory v.args) else words_back p f a

-- a block that does what another one does, where m has the numbers of both functions
pub record BlockRefines (p : Program) (f g : FuncRecord) (m : ℕ → ℕ) (b c : BlockRecord) : Type 0 where
  pub number : b.id ≡ c.id
  pub kind : b.kind ≡ c.kind
  pub preds : b.preds ≡ c.preds
  pub succs : b.succs ≡ c.succs
  pub control : b.control ≡ c.control
  pub first : (s : ℕ) → first_state b s ≡ first_state c s
  pub phis : (id place old : ℕ) → phi_by (value_in b.values id) place m old ≡ phi_by (value_in c.values id) place m old
  pub chain : (s : ℕ) → AllZip (DoAlike p m) (chain_from f b s) (chain_from g c s)
  pub faults : (window : List ℕ) (s : ℕ) → Mild (first_fault p.target m window (order f b s)) (first_fault p.target m window (order g c s))
  pub results : (a : Activation) → results_from (value_named f b.control) p f m a ≡ results_from (value_named g c.control) p g m a

-- g stands for f
pub record Refines (p : Program) (f g : FuncRecord) : Type 0 where
  pub sig : f.sig ≡ g.sig
  pub entry : entry_id f.blocks ≡ entry_id g.blocks
  pub possible : (e : Env) (m : ℕ → ℕ) → Possible p g e m → Possible p f e m
  pub blocks : (e : Env) (m : ℕ → ℕ) → Possible p g e m → (id : ℕ) → BothBlocks (BlockRefines p f g m) (block_of f id) (block_of g id)

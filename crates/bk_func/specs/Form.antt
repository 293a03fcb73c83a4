-- A function in form, and the first breach of one that is not.
pub mod Text
pub mod Walks
pub mod States
pub mod Before
pub mod Signatures
pub mod Parts
pub mod Shapes
use Rattle.std.specs.Prelude.{◌≡◌, ℕ, ◌<◌, Bool, true, false, List, [], ◌⊎◌}
use Rattle.std.specs.List.{Contains}
use Rattle.bk_ops.specs.Table.{info_of}
use Rattle.bk_ops.specs.declared.types.Target.{Target}
use Rattle.bk_ops.specs.declared.types.Ty.{Ty as Types}
use Rattle.bk_func.specs.declared.form.FormKind.{FormKind}
use Rattle.bk_func.specs.declared.form.FormKind.TheVariants.{Control, Missing, Arity, Ty, Width, Use, Memory, Order}
use Rattle.bk_func.specs.declared.form.Place.{Place}
use Rattle.bk_func.specs.declared.form.Place.TheVariants.{Block, Value}
use Rattle.bk_func.specs.Records.{ValueRecord, BlockRecord, FuncRecord, PackageRecord}
use Rattle.bk_func.specs.Form.Text.{HasBlock, IsFirstNotIn}
use Rattle.bk_func.specs.Form.Walks.{DefinesControl, DefinesArguments}
use Rattle.bk_func.specs.Form.States.{KeepsStates, KeepsMemory}
use Rattle.bk_func.specs.Form.Before.{Precedes}
use Rattle.bk_func.specs.Form.Signatures.{Setting, whole, words_of}
use Rattle.bk_func.specs.Form.Parts.{KeepsControl, NamesInBlock, NamesInValue, HasArity, HasRange}
use Rattle.bk_func.specs.Form.Shapes.{HasControlType, HasTypes}

-- what a kind asks of a block, and of a value of a block
abbrev pub AsksBlock : Setting → FuncRecord → FormKind → BlockRecord → Type 0
AsksBlock s f Control b = KeepsControl f b
AsksBlock s f Missing b = NamesInBlock f b
AsksBlock s f Arity b = Unit {0}
AsksBlock s f Ty b = HasControlType s f b
AsksBlock s f Width b = Unit {0}
AsksBlock s f Use b = DefinesControl f b
AsksBlock s f Memory b = KeepsStates f b
AsksBlock s f Order b = Unit {0}

abbrev pub AsksValue : Setting → FuncRecord → FormKind → BlockRecord → ValueRecord → Type 0
AsksValue s f Control b v = Unit {0}
AsksValue s f Missing b v = NamesInValue s f v
AsksValue s f Arity b v = HasArity s f b v v.op.family
AsksValue s f Ty b v = HasTypes s f v
AsksValue s f Width b v = HasRange s f v (info_of v.op).aux
AsksValue s f Use b v = DefinesArguments f b v
AsksValue s f Memory b v = KeepsMemory f b v
AsksValue s f Order b v = ¬ Precedes f b v v

-- what is asked holds of the block and of its values
pub record Holds (P : BlockRecord → Type 0) (Q : BlockRecord → ValueRecord → Type 0) (b : BlockRecord) : Type 0 where
  pub block : P b
  pub value : (v : ValueRecord) → Contains b.values v → Q b v

abbrev pub AllHold : (BlockRecord → Type 0) → (BlockRecord → ValueRecord → Type 0) → FuncRecord → Type 0
AllHold P Q f = (b : BlockRecord) → HasBlock f b → Holds P Q b

-- the first place in the block at which it does not hold: the block comes before its values
abbrev pub IsPlaceIn : (BlockRecord → Type 0) → (BlockRecord → ValueRecord → Type 0) → BlockRecord → Place → Type 0
IsPlaceIn P Q b place = (¬ P b × (place ≡ Block b.id)) ⊎ (P b × ((v : ValueRecord) × IsFirstNotIn (Q b) b.values v × (place ≡ Value v.id)))

-- the first place in the text
abbrev pub IsFirstPlace : (BlockRecord → Type 0) → (BlockRecord → ValueRecord → Type 0) → FuncRecord → Place → Type 0
IsFirstPlace P Q f place = (b : BlockRecord) × IsFirstNotIn (Holds P Q) f.blocks b × IsPlaceIn P Q b place

-- the function has what the kind asks; the first place at which it has not
abbrev pub Keeps : Setting → FuncRecord → FormKind → Type 0
Keeps s f k = AllHold (AsksBlock s f k) (AsksValue s f k) f

abbrev pub IsFirstBreach : Setting → FuncRecord → FormKind → Place → Type 0
IsFirstBreach s f k place = IsFirstPlace (AsksBlock s f k) (AsksValue s f k) f place

-- the kinds in the order in which they are tested
abbrev pub rank : FormKind → ℕ
rank Control = 0
rank Missing = 1
rank Arity = 2
rank Ty = 3
rank Width = 4
rank Use = 5
rank Memory = 6
rank Order = 7

-- the function has blocks, and what each kind asks
pub record IsFormed (s : Setting) (f : FuncRecord) : Type 0 where
  pub blocks : ¬ (f.blocks ≡ [])
  pub kinds : (k : FormKind) → Keeps s f k

-- the first kind that is broken, at its first place
pub record IsFirstFault (s : Setting) (f : FuncRecord) (k : FormKind) (place : Place) : Type 0 where
  pub before : (j : FormKind) → rank j < rank k → Keeps s f j
  pub here : IsFirstBreach s f k place

-- a function in form; a function of which the places of arguments and results count words; and both in word form, where
-- each machine word fits each place of one
abbrev pub setting : PackageRecord → Target → (List Types → List Types) → Bool → Setting
setting p t places loose = record { pkg = p; target = t; places = places; loose = loose }

abbrev pub strict : PackageRecord → Target → Setting
strict p t = setting p t whole false

abbrev pub IsInForm : PackageRecord → FuncRecord → Target → Type 0
IsInForm p f t = IsFormed (strict p t) f

abbrev pub IsInFormByWords : PackageRecord → FuncRecord → Target → Type 0
IsInFormByWords p f t = IsFormed (setting p t (words_of t) false) f

abbrev pub IsInWordForm : PackageRecord → FuncRecord → Target → Type 0
IsInWordForm p f t = IsFormed (setting p t whole true) f

abbrev pub IsInWordFormByWords : PackageRecord → FuncRecord → Target → Type 0
IsInWordFormByWords p f t = IsFormed (setting p t (words_of t) true) f

-- what is at fault in a function that is not in form; one without blocks breaks the first kind at block 0
abbrev pub IsFault : PackageRecord → FuncRecord → Target → FormKind → Place → Type 0
IsFault p f t k place =
    ((f.blocks ≡ []) × (k ≡ Control) × (place ≡ Block 0)) ⊎ (¬ (f.blocks ≡ []) × IsFirstFault (strict p t) f k place)

-- The declarations that the lines of a text spell, and what they declare.
use Rattle.std.specs.Prelude.{◌≡◌, ◌<◌, ℕ, suc, false, not, List, [], ◌∷◌, ◌++◌, map, filter, length, All}
use Rattle.std.specs.List.{AllZip}
use Rattle.bk_func.specs.Records.{VarRecord}
use Rattle.bk_dump.specs.Trees.{ValueTree, LabelTree, EndTree, VarTree, HeaderTree, BlockTree, FuncTree}
use Rattle.bk_dump.specs.Parts.{Part, Spells}
use Rattle.bk_dump_laws.specs.Lines.{IsVarLine, IsFuncLine, IsBlockLine, IsValueLine, IsEndLine}
use Rattle.bk_dump.specs.Drafts.{has_control, parameter_names, padded, pairs}
use Rattle.bk_dump.specs.Texts.{is_skipped, lines}

-- a line as it is read
pub data Line : Type 0 where
  var_line : (v : VarTree) → Line
  func_line : (h : HeaderTree) → Line
  block_line : (b : LabelTree) → Line
  value_line : (v : ValueTree) → Line
  end_line : (e : EndTree) → Line

abbrev pub IsLine : List Part → Line → Type 0
IsLine parts (var_line v) = IsVarLine parts v
IsLine parts (func_line h) = IsFuncLine parts h
IsLine parts (block_line b) = IsBlockLine parts b
IsLine parts (value_line v) = IsValueLine parts v
IsLine parts (end_line e) = IsEndLine parts e

-- the text of a line spells a line, with no byte below 32 but tabs
pub record SpellsLine (text : List ℕ) (line : Line) : Type 0 where
  pub clean : has_control text ≡ false
  pub spelled : Spells IsLine text line

-- a declaration: a variable, or a function with its blocks
pub data Declaration : Type 0 where
  variable : (v : VarTree) → Declaration
  function : (h : HeaderTree) (blocks : List BlockTree) → Declaration

-- the lines of a block: its label, its values, its end
abbrev pub lines_of_block : BlockTree → List Line
lines_of_block b = block_line b.label ∷ (map value_line b.values ++ end_line b.end ∷ [])

abbrev pub lines_of_blocks : List BlockTree → List Line
lines_of_blocks [] = []
lines_of_blocks (b ∷ bs) = lines_of_block b ++ lines_of_blocks bs

-- the lines of declarations
abbrev pub lines_of_all : List Declaration → List Line
lines_of_all [] = []
lines_of_all ((variable v) ∷ ds) = var_line v ∷ lines_of_all ds
lines_of_all ((function h bs) ∷ ds) = func_line h ∷ (lines_of_blocks bs ++ lines_of_all ds)

-- a function has a block
abbrev pub IsWhole : Declaration → Type 0
IsWhole (variable v) = Unit {0}
IsWhole (function h bs) = 0 < length bs

-- what declarations declare: names in order, and functions and variables, whose names are known by their numbers from n on

abbrev pub names_of_all : List Declaration → List (List ℕ)
names_of_all [] = []
names_of_all ((variable v) ∷ ds) = v.name ∷ names_of_all ds
names_of_all ((function h bs) ∷ ds) = h.name ∷ names_of_all ds

abbrev pub value_ids : List BlockTree → List ℕ
value_ids [] = []
value_ids (b ∷ bs) = map (λ v. v.id) b.values ++ value_ids bs

abbrev pub block_ids : List BlockTree → List ℕ
block_ids bs = map (λ b. b.label.id) bs

abbrev pub declared_func : ℕ → HeaderTree → List BlockTree → FuncTree
declared_func n h bs = record {
  name = n;
  parameters = parameter_names h;
  sig = record { args = map (λ p. p.ty) h.parameters; results = h.results };
  blocks = bs;
  value_ids = value_ids bs;
  block_ids = block_ids bs;
}

abbrev pub declared_var : ℕ → VarTree → VarRecord
declared_var n v = record { name = n; size = v.size; bytes = padded v.size (pairs v.hex) }

abbrev pub funcs_from : ℕ → List Declaration → List FuncTree
funcs_from n [] = []
funcs_from n ((variable v) ∷ ds) = funcs_from (suc n) ds
funcs_from n ((function h bs) ∷ ds) = declared_func n h bs ∷ funcs_from (suc n) ds

abbrev pub vars_from : ℕ → List Declaration → List VarRecord
vars_from n [] = []
vars_from n ((variable v) ∷ ds) = declared_var n v ∷ vars_from (suc n) ds
vars_from n ((function h bs) ∷ ds) = vars_from (suc n) ds

-- the lines of the text that are not skipped spell these declarations
pub record SpellsAll (text : List ℕ) (ds : List Declaration) : Type 0 where
  pub whole : All IsWhole ds
  pub lines : AllZip SpellsLine (filter (λ line. not (is_skipped line)) (lines text)) (lines_of_all ds)

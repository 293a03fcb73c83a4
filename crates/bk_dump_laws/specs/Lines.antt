-- What each line of a package's text spells, by its parts.
use Rattle.std.specs.Prelude.{◌≡◌, ◌≢◌, ◌<◌, ◌≤◌, ◌-◌, ◌*◌, ◌^◌, ℕ, ℤ, pos, negsuc, suc, true, min, List, [], ◌∷◌, ◌++◌, ◌⊎◌, length, codes, Option, Some, None}
use Rattle.std.specs.List.{AllByRecursion, AllZip}
use Rattle.std.specs.Char.{is_ascii_hexdigit}
use Rattle.bk_ops.specs.declared.types.Ty.{Ty}
use Rattle.bk_ops.specs.declared.types.Ty.TheVariants.{Ptr, Mem, Void, Tuple}
use Rattle.bk_ops.specs.Reading.{read as op_named}
use Rattle.bk_func.specs.declared.parts.Kind.{Kind}
use Rattle.bk_func.specs.declared.parts.Kind.TheVariants.{Plain, If, First, Ret, Exit}
use Rattle.bk_dump.specs.declared.read.beside.Braces.{Braces}
use Rattle.bk_dump.specs.declared.read.beside.Braces.TheVariants as braces
use Rattle.bk_dump.specs.declared.read.beside.Square.{Square}
use Rattle.bk_dump.specs.declared.read.beside.Square.TheVariants as square
use Rattle.bk_dump.specs.Words.{is_word_byte}
use Rattle.bk_dump.specs.Parts.{Part, word, mark, listed, IsName, IsPlainName, IsDecimal, IsNumbered, IsGroup, IsArrow, IsBackArrow}
use Rattle.bk_dump.specs.Trees.{MentionTree, ValueTree, LabelTree, EndTree, VarTree, ParameterTree, HeaderTree, no_mention, of_type, of_name}
use Rattle.bk_dump.specs.Print.{type_name}
use Rattle.bk_dump.specs.Blocks.{kind_word, mark_of, likely_of}
use Rattle.bk_dump.specs.Values.{braces_of, square_of, constants_of, is_written}

-- numbers of values and of blocks
abbrev pub AreValues : List Part → List ℕ → Type 0
AreValues parts ns = AllZip (IsNumbered (codes "v")) parts ns

abbrev pub AreBlocks : List Part → List ℕ → Type 0
AreBlocks parts ns = AllZip (IsNumbered (codes "b")) parts ns

-- Types.

-- a type that stands for a machine word
abbrev pub IsWordType : Ty → Type 0
IsWordType ty = (ty ≢ Mem) × (ty ≢ Void) × (ty ≢ Tuple)

-- how a pointer may be written besides `ptr`: `unsafe.Pointer`, or `*` and a name
abbrev pub IsPointer : List ℕ → Type 0
IsPointer name = (name ≡ codes "unsafe.Pointer") ⊎ ((to : List ℕ) × (name ≡ 42 ∷ to) × (0 < length to))

-- the type of an argument or a result
abbrev pub IsPlaceType : List ℕ → Ty → Type 0
IsPlaceType name ty = IsPlainName name × (((name ≡ type_name ty) × IsWordType ty) ⊎ (IsPointer name × (ty ≡ Ptr)))

-- a type of one name
abbrev pub IsOneType : List ℕ → Ty → Type 0
IsOneType name ty = IsPlainName name × (((name ≡ type_name ty) × (ty ≢ Tuple)) ⊎ (IsPointer name × (ty ≡ Ptr)))

-- one part, which is the name of such a type
abbrev pub IsPlace : List Part → Ty → Type 0
IsPlace parts ty = (name : List ℕ) × (parts ≡ word name ∷ []) × IsPlaceType name ty

-- the parts between `<` and `>`: one type, or a list of types of words that ends in `mem`
abbrev pub IsType : List Part → Ty → Type 0
IsType parts ty =
    ((name : List ℕ) × (parts ≡ word name ∷ []) × IsOneType name ty)
    ⊎ ((each : List (List Part)) × (types : List Ty) × AllZip IsPlace each types × (0 < length types)
    × (parts ≡ listed (each ++ (word (codes "mem") ∷ []) ∷ [])) × (ty ≡ Tuple))

-- Variables.

-- an even number of hexadecimal digits, at least one pair and at most one for each byte
pub record IsHex (hex : List ℕ) (size : ℕ) : Type 0 where
  pub digits : AllByRecursion (λ c. is_ascii_hexdigit c ≡ true) hex
  pub pairs : (count : ℕ) × (length hex ≡ 2 * count) × (0 < count) × (count ≤ size)

-- a size; from 2^64 on, where none may be, it counts as 2^64
abbrev pub IsSize : List ℕ → ℕ → Type 0
IsSize digits size = (all : ℕ) × IsDecimal digits all × (size ≡ min all (2 ^ 64))

-- `var NAME SIZE` or `var NAME SIZE = HEX`
abbrev pub IsVarLine : List Part → VarTree → Type 0
IsVarLine parts v =
    (size : List ℕ) × (behind : List Part) × IsName v.name × IsSize size v.size
    × (parts ≡ word (codes "var") ∷ (word v.name ∷ (word size ∷ behind)))
    × (((v.hex ≡ []) × (behind ≡ [])) ⊎ (IsHex v.hex v.size × (behind ≡ mark (codes "=") ∷ (word v.hex ∷ []))))

-- Functions.

-- a parameter: its name and its type
abbrev pub IsParameter : List Part → ParameterTree → Type 0
IsParameter parts p = (ty : List ℕ) × (parts ≡ word p.name ∷ (word ty ∷ [])) × IsPlainName p.name × IsPlaceType ty p.ty

-- the results: none, one type, or two and more in round brackets
abbrev pub AreResults : List Part → List Ty → Type 0
AreResults parts results =
    (each : List (List Part)) × AllZip IsPlace each results
    × (((length results ≤ 1) × (parts ≡ listed each)) ⊎ ((2 ≤ length results) × (parts ≡ mark (codes "(") ∷ (listed each ++ mark (codes ")") ∷ []))))

-- `NAME func(p T, q T) R`
abbrev pub IsFuncLine : List Part → HeaderTree → Type 0
IsFuncLine parts h =
    (each : List (List Part)) × (behind : List Part) × IsName h.name × AllZip IsParameter each h.parameters × AreResults behind h.results
    × (parts ≡ word h.name ∷ (word (codes "func") ∷ (mark (codes "(") ∷ (listed each ++ (mark (codes ")") ∷ behind)))))

-- Blocks.

-- `bN:` or `bN: <- bI bJ`
abbrev pub IsBlockLine : List Part → LabelTree → Type 0
IsBlockLine parts b =
    (label : Part) × (behind : List Part) × IsNumbered (codes "b") label b.id × (parts ≡ label ∷ (mark (codes ":") ∷ behind))
    × (((b.preds ≡ []) × (behind ≡ [])) ⊎ ((arrow : Part) × (preds : List Part) × IsBackArrow arrow × AreBlocks preds b.preds × (0 < length b.preds) × (behind ≡ arrow ∷ preds)))

-- Values.

-- a number from 0 on: one whose highest bit of W is set is kept with 2^W taken off, and no other one is past 2^63 - 1
abbrev pub IsKept : ℕ → ℕ → ℤ → Type 0
IsKept all n z = ((n < all) × (all ≤ 2 * n) × (z ≡ negsuc (all - suc n))) ⊎ (((all ≤ n) ⊎ (2 * n < all)) × (n < 2 ^ 63) × (z ≡ pos n))

-- a number in square brackets, kept by an op of W bits: from -2^63 on, and `-0` is none
abbrev pub IsInt : ℕ → List Part → ℤ → Type 0
IsInt all parts z =
    (digits : List ℕ) × (n : ℕ) × IsDecimal digits n
    × (((parts ≡ word digits ∷ []) × IsKept all n z) ⊎ ((parts ≡ word (codes "-" ++ digits) ∷ []) × (0 < n) × (n ≤ 2 ^ 63) × (z ≡ negsuc (n - 1))))

-- `true`, `false` or a number
abbrev pub IsTruth : ℕ → List Part → ℤ → Type 0
IsTruth all parts z =
    ((parts ≡ word (codes "true") ∷ []) × (z ≡ pos 1)) ⊎ ((parts ≡ word (codes "false") ∷ []) × (z ≡ pos 0)) ⊎ IsInt all parts z

abbrev pub bracketed : List Part → List Part
bracketed parts = mark (codes "[") ∷ (parts ++ mark (codes "]") ∷ [])

-- what stands in square brackets, and the number that it gives
abbrev pub IsSquare : Square → ℕ → List Part → ℤ → Type 0
IsSquare square.Nothing all parts z = (parts ≡ []) × (z ≡ pos 0)
IsSquare square.Number all parts z = (inside : List Part) × (parts ≡ bracketed inside) × IsInt all inside z
IsSquare square.Truth all parts z = (inside : List Part) × (parts ≡ bracketed inside) × IsTruth all inside z
IsSquare square.Ignored all parts z =
    (z ≡ pos 0) × ((parts ≡ []) ⊎ ((inside : List Part) × (n : ℤ) × (parts ≡ bracketed inside) × IsInt all inside n))
IsSquare square.IgnoredTruth all parts z =
    (z ≡ pos 0) × ((parts ≡ []) ⊎ ((inside : List Part) × (n : ℤ) × (parts ≡ bracketed inside) × IsTruth all inside n))

abbrev pub braced : List Part → List Part
braced parts = mark (codes "{") ∷ (parts ++ mark (codes "}") ∷ [])

-- what stands in braces, and what it mentions
abbrev pub IsBraces : Braces → List Part → MentionTree → Type 0
IsBraces braces.Nothing parts m = (parts ≡ []) × (m ≡ no_mention)
IsBraces braces.Type parts m = (name : List ℕ) × (ty : Ty) × (parts ≡ braced (word name ∷ [])) × IsOneType name ty × (m ≡ of_type ty)
IsBraces braces.Name parts m = (name : List ℕ) × (parts ≡ braced (word name ∷ [])) × IsName name × (m ≡ of_name name)
IsBraces braces.Callee parts m =
    (name : List ℕ) × IsName name × (m ≡ of_name name)
    × ((parts ≡ braced (word name ∷ [])) ⊎ (parts ≡ braced (word (codes "AuxCall") ∷ braced (word name ∷ []))))
IsBraces braces.Ignored parts m = (m ≡ no_mention) × ((parts ≡ []) ⊎ ((name : List ℕ) × (parts ≡ braced (word name ∷ [])) × IsName name))

-- groups, by what they hold
abbrev pub AreGroups : List Part → List (List ℕ) → Type 0
AreGroups parts inside = AllZip IsGroup parts inside

-- `vN = OP <type> {aux} [int] args`, with a group behind `vN` and groups at the end
pub record IsValueLine (parts : List Part) (v : ValueTree) : Type 0 where
  pub id : Part
  pub behind_id : List Part
  pub name : List ℕ
  pub types : List Part
  pub aux : List Part
  pub int : List Part
  pub beside : List Part
  pub args : List Part
  pub groups : List Part
  pub inside : List (List ℕ)
  pub dropped : List (List ℕ)
  pub spelled : parts ≡ id ∷ (behind_id ++ (mark (codes "=") ∷ (word name ∷ (mark (codes "<") ∷ (types ++ (mark (codes ">") ∷ (beside ++ (args ++ groups))))))))
  pub numbered : IsNumbered (codes "v") id v.id
  pub grouped : AreGroups behind_id inside × (length inside ≤ 1)
  pub worded : AllByRecursion (λ c. is_word_byte c ≡ true) name
  pub named : (op_named name ≡ Some v.op) × (is_written v.op.family ≡ true)
  pub typed : IsType types v.ty
  pub mentions : IsBraces (braces_of v.op.family) aux v.mention
  pub squared : IsSquare (square_of v.op.family) (constants_of v.op.family v.op.a) int v.int
  pub ordered : (beside ≡ aux ++ int) ⊎ (beside ≡ int ++ aux)
  pub takes : AreValues args v.args
  pub ended : AreGroups groups dropped

-- Ends of blocks.

-- a block's end without its groups: `Plain -> bN`, `If vN -> bI bJ`, `First -> bI bJ`, `Ret vN` or `Exit vN`
abbrev pub IsControl : Kind → List Part → Option ℕ → Type 0
IsControl Plain parts control = (parts ≡ []) × (control ≡ None)
IsControl If parts control = (part : Part) × (v : ℕ) × (parts ≡ part ∷ []) × IsNumbered (codes "v") part v × (control ≡ Some v)
IsControl First parts control = (parts ≡ []) × (control ≡ None)
IsControl Ret parts control = (part : Part) × (v : ℕ) × (parts ≡ part ∷ []) × IsNumbered (codes "v") part v × (control ≡ Some v)
IsControl Exit parts control = (part : Part) × (v : ℕ) × (parts ≡ part ∷ []) × IsNumbered (codes "v") part v × (control ≡ Some v)

-- so many blocks behind an arrow
abbrev pub LeadsTo : ℕ → List Part → List ℕ → Type 0
LeadsTo n parts succs = (arrow : Part) × (blocks : List Part) × IsArrow arrow × AreBlocks blocks succs × (length succs ≡ n) × (parts ≡ arrow ∷ blocks)

abbrev pub AreSuccessors : Kind → List Part → List ℕ → Type 0
AreSuccessors Plain parts succs = LeadsTo 1 parts succs
AreSuccessors If parts succs = LeadsTo 2 parts succs
AreSuccessors First parts succs = LeadsTo 2 parts succs
AreSuccessors Ret parts succs = (parts ≡ []) × (succs ≡ [])
AreSuccessors Exit parts succs = (parts ≡ []) × (succs ≡ [])

-- the line that ends a block; of the groups at its end the last `(likely)` or `(unlikely)` marks a successor of an `If`
abbrev pub IsEndLine : List Part → EndTree → Type 0
IsEndLine parts e =
    (control : List Part) × (succs : List Part) × (groups : List Part) × (inside : List (List ℕ))
    × (parts ≡ word (kind_word e.kind) ∷ (control ++ (succs ++ groups)))
    × IsControl e.kind control e.control × AreSuccessors e.kind succs e.succs
    × AreGroups groups inside × (e.likely ≡ likely_of e.kind (mark_of inside))

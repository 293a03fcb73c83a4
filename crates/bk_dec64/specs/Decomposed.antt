-- A function whose numbers of 64 bits are pairs of words.
use Rattle.std.specs.Prelude.{ℕ, pos, ◌+◌, Bool, if◌then◌else◌, List, [], ◌∷◌, ◌++◌, length, fold, slice_index}
use Rattle.bk_ops.specs.declared.family.Family.TheVariants as op
use Rattle.bk_ops.specs.declared.types.Target.TheVariants.{Arm}
use Rattle.bk_ops.specs.declared.types.Ty.{Ty}
use Rattle.bk_ops.specs.declared.types.Ty.TheVariants.{Uint32}
use Rattle.bk_func.specs.declared.parts.Aux.{Aux}
use Rattle.bk_func.specs.declared.parts.Aux.TheVariants as beside
use Rattle.bk_func.specs.Records.{ValueRecord, BlockRecord, FuncRecord, PackageRecord}
use Rattle.bk_func.specs.Edits.{greatest_value, change_block, with_value}
use Rattle.bk_func.specs.Numbers.{natural, place_of_arg}
use Rattle.bk_func.specs.Words.{is_double}
use Rattle.bk_dec64.specs.declared.made.Made.{Made}
use Rattle.bk_dec64.specs.declared.role.Role.{Role}
use Rattle.bk_dec64.specs.declared.role.Role.TheVariants.{Phi, Argument, Load, Store, Call, Selection, Results, Other}
use Rattle.bk_dec64.specs.Halves.{made, half, argument, selection, load, store, next_word, joined, halves_of_phi, high_phi, phi_number, parts, in_words, word_at}
use Rattle.bk_dec64.specs.Signatures.{Signatures, role, signatures_of}

-- lists that are made for the elements of a list, one after the other: that for the first from the number n on, each other
-- from the number behind those before
unfoldable pub listed : {A B : Type 0} → (ℕ → A → List B) → ℕ → List A → List B
listed make n [] = []
listed make n (x ∷ xs) = make n x ++ listed make (n + length (make n x)) xs

-- the elements, each changed under the first of the numbers that are made for it
unfoldable pub changed : {A B C : Type 0} → (ℕ → A → List B) → (ℕ → A → C) → ℕ → List A → List C
changed make change n [] = []
changed make change n (x ∷ xs) = change n x ∷ changed make change (n + length (make n x)) xs

-- the type of a value's number, which a store names
abbrev pub type_by : Aux → Ty → Ty
type_by (beside.Ty x) y = x
type_by _ y = y

-- the value's number is of 64 bits
abbrev pub is_wide : ValueRecord → Bool
is_wide v = is_double Arm (type_by v.aux v.ty)

-- the first word of an argument of the function, and of a result of a call
abbrev pub argument_word : Signatures → ValueRecord → ℕ
argument_word s v = word_at s.own.args (place_of_arg v.aux)

abbrev pub result_word : Signatures → ValueRecord → ℕ
result_word s v = word_at (s.results (slice_index v.args 0)) (natural v.int)

-- what is made for a value of each kind in block b, numbered from n on, and what the value becomes under its number

abbrev pub phi_halves : ℕ → List ℕ → ℕ → ValueRecord → List Made
phi_halves b bs n v = if is_wide v then halves_of_phi b bs n v.args else []

abbrev pub turned_phi : List ℕ → ℕ → ValueRecord → ValueRecord
turned_phi bs n v = if is_wide v then joined (high_phi bs n v.args) (phi_number op.Int64Lo n bs v.args) v else v

-- an argument at word w
abbrev pub argument_halves : ℕ → ℕ → ℕ → ValueRecord → List Made
argument_halves b n w v = if is_wide v then made b (argument n w) ∷ made b (argument (n + 1) (w + 1)) ∷ [] else []

abbrev pub turned_argument : ℕ → ℕ → ValueRecord → ValueRecord
turned_argument n w v = if is_wide v then joined (n + 1) n v else record v { aux = beside.Arg w }

abbrev pub load_halves : ℕ → ℕ → ValueRecord → List Made
load_halves b n v =
    if is_wide v then
    made b (load n (slice_index v.args 0) (slice_index v.args 1)) ∷ made b (next_word (n + 1) (slice_index v.args 0))
    ∷ made b (load (n + 2) (n + 1) (slice_index v.args 1)) ∷ []
    else []

abbrev pub turned_load : ℕ → ValueRecord → ValueRecord
turned_load n v = if is_wide v then joined (n + 2) n v else v

abbrev pub store_halves : ℕ → ℕ → ValueRecord → List Made
store_halves b n v =
    if is_wide v then
    made b (half op.Int64Lo n (slice_index v.args 1)) ∷ made b (store (n + 1) (slice_index v.args 0 ∷ n ∷ slice_index v.args 2 ∷ []))
    ∷ made b (next_word (n + 2) (slice_index v.args 0)) ∷ made b (half op.Int64Hi (n + 3) (slice_index v.args 1)) ∷ []
    else []

abbrev pub turned_store : ℕ → ValueRecord → ValueRecord
turned_store n v = if is_wide v then record v { args = (n + 2) ∷ (n + 3) ∷ (n + 1) ∷ []; aux = beside.Ty Uint32 } else v

-- what a call gave, from word w on
abbrev pub selection_halves : ℕ → ℕ → ℕ → ValueRecord → List Made
selection_halves b n w v =
    if is_wide v then made b (selection n (slice_index v.args 0) w) ∷ made b (selection (n + 1) (slice_index v.args 0) (w + 1)) ∷ [] else []

abbrev pub turned_selection : ℕ → ℕ → ValueRecord → ValueRecord
turned_selection n w v = if is_wide v then joined (n + 1) n v else record v { int = pos w }

-- what hands on numbers of these types
abbrev pub handing : ℕ → List Ty → ValueRecord → ValueRecord
handing n tys v = record v { args = in_words n tys v.args }

-- what is made for a value in block b with the predecessors bs
abbrev pub made_by : Role → Signatures → ℕ → List ℕ → ℕ → ValueRecord → List Made
made_by Phi s b bs n v = phi_halves b bs n v
made_by Argument s b bs n v = argument_halves b n (argument_word s v) v
made_by Load s b bs n v = load_halves b n v
made_by Store s b bs n v = store_halves b n v
made_by Call s b bs n v = parts b n (s.args v.aux) v.args
made_by Selection s b bs n v = selection_halves b n (result_word s v) v
made_by Results s b bs n v = parts b n s.own.results v.args
made_by Other s b bs n v = []

-- what it becomes
abbrev pub turned_by : Role → Signatures → List ℕ → ℕ → ValueRecord → ValueRecord
turned_by Phi s bs n v = turned_phi bs n v
turned_by Argument s bs n v = turned_argument n (argument_word s v) v
turned_by Load s bs n v = turned_load n v
turned_by Store s bs n v = turned_store n v
turned_by Call s bs n v = handing n (s.args v.aux) v
turned_by Selection s bs n v = turned_selection n (result_word s v) v
turned_by Results s bs n v = handing n s.own.results v
turned_by Other s bs n v = v

abbrev pub made_for : Signatures → ℕ → List ℕ → ℕ → ValueRecord → List Made
made_for s b bs n v = made_by (role v) s b bs n v

abbrev pub turned : Signatures → List ℕ → ℕ → ValueRecord → ValueRecord
turned s bs n v = turned_by (role v) s bs n v

abbrev pub made_in : Signatures → ℕ → BlockRecord → List Made
made_in s n b = listed (made_for s b.id b.preds) n b.values

abbrev pub turned_block : Signatures → ℕ → BlockRecord → BlockRecord
turned_block s n b = record b { values = changed (made_for s b.id b.preds) (turned s b.preds) n b.values }

-- blocks with the values that are made for them, each last in the block with its number
abbrev pub placed : List Made → List BlockRecord → List BlockRecord
placed ms bs = fold (λ cs m. change_block m.block (with_value m.value) cs) bs ms

-- all that is made for a function, numbered from the greatest number upwards
abbrev pub made_of : PackageRecord → FuncRecord → List Made
made_of p f = listed (made_in (signatures_of p f)) (greatest_value f + 1) f.blocks

-- the function with its values turned, without those that are made for them
abbrev pub turned_func : PackageRecord → FuncRecord → FuncRecord
turned_func p f = record f { blocks = changed (made_in (signatures_of p f)) (turned_block (signatures_of p f)) (greatest_value f + 1) f.blocks }

-- the function in halves
abbrev pub decomposed : PackageRecord → FuncRecord → FuncRecord
decomposed p f = record f { blocks = placed (made_of p f) (turned_func p f).blocks }

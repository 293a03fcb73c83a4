-- The arguments that registers hold: a value for each of them that the function names, last in its entry.
use Rattle.std.specs.Prelude.{ℕ, pos, ◌+◌, ◌==◌, Bool, ◌&&◌, if◌then◌else◌, List, [], ◌∷◌, ◌++◌, length, take, Option, option_map}
use Rattle.std.specs.List.{find, list_any}
use Rattle.bk_ops.specs.declared.family.Family.TheVariants as op
use Rattle.bk_ops.specs.declared.types.Target.{Target}
use Rattle.bk_ops.specs.declared.types.Ty.{Ty}
use Rattle.bk_func.specs.declared.parts.Aux.TheVariants as beside
use Rattle.bk_func.specs.Records.{ValueRecord, BlockRecord, FuncRecord}
use Rattle.bk_func.specs.Edits.{greatest_value, value_of}
use Rattle.bk_func.specs.Numbers.{natural, place_of_arg}
use Rattle.bk_func.specs.Words.{register_words}
use Rattle.bk_calls.specs.Chains.{role, is_argument, plain}

-- the value is the argument at this place
abbrev pub names : ℕ → ValueRecord → Bool
names i v = is_argument (role v) && place_of_arg v.aux == i

-- some value in the blocks is
abbrev pub is_named : List BlockRecord → ℕ → Bool
is_named bs i = list_any (λ b. list_any (names i) b.values) bs

-- the argument at the place i, in its register
abbrev pub arg_reg : ℕ → Ty → ℕ → ValueRecord
arg_reg n ty i = value_of n (plain op.ArgReg) ty [] (pos i) beside.Nothing

-- those of the arguments of these types, from the place i on, that are named; numbered from n on
abbrev pub arg_regs : (ℕ → Bool) → ℕ → ℕ → List Ty → List ValueRecord
arg_regs named i n [] = []
arg_regs named i n (ty ∷ tys) = if named i then arg_reg n ty i ∷ arg_regs named (i + 1) (n + 1) tys else arg_regs named (i + 1) n tys

abbrev pub arguments_of : Target → FuncRecord → List ValueRecord
arguments_of t f = arg_regs (is_named f.blocks) 0 (greatest_value f + 1) (take (register_words t) f.sig.args)

-- the number of the one at the place i
abbrev pub argument_number : List ValueRecord → ℕ → Option ℕ
argument_number ws i = option_map (λ w. w.id) (find (λ w. natural w.int == i) ws)

-- blocks with values added last in the entry
abbrev pub in_entry : List ValueRecord → List BlockRecord → List BlockRecord
in_entry ws [] = []
in_entry ws (b ∷ bs) = record b { values = b.values ++ ws } ∷ bs

abbrev pub with_arguments : Target → FuncRecord → FuncRecord
with_arguments t f = record f { blocks = in_entry (arguments_of t f) f.blocks }

-- the number of the first value that is made after them
abbrev pub first_made : Target → FuncRecord → ℕ
first_made t f = greatest_value f + 1 + length (arguments_of t f)

-- What the values of a call become: words of arguments and results, the first of them in registers, each other by a value of
-- its own in a chain of memory.
use Rattle.std.specs.Prelude.{ℕ, ℤ, pos, negsuc, ◌+◌, ◌-◌, ◌+ℤ◌, ◌==◌, Bool, true, false, nat_lt, if◌then◌else◌, List, [], ◌∷◌, ◌++◌, length, take, drop, slice_index, Option, Some, None}
use Rattle.bk_ops.specs.declared.family.Family.{Family}
use Rattle.bk_ops.specs.declared.family.Family.TheVariants as op
use Rattle.bk_ops.specs.declared.table.Op.{Op}
use Rattle.bk_ops.specs.declared.types.Ty.TheVariants.{Mem}
use Rattle.bk_func.specs.declared.parts.Aux.{Aux}
use Rattle.bk_func.specs.declared.parts.Aux.TheVariants as beside
use Rattle.bk_func.specs.Records.{ValueRecord}
use Rattle.bk_func.specs.Edits.{value_of}
use Rattle.bk_func.specs.Numbers.{is_mem, place_of_arg}
use Rattle.bk_func.specs.Symbols.{panic_divide, panic_shift}
use Rattle.bk_func.specs.Traps.{trap_divide, trap_shift}
use Rattle.bk_calls.specs.declared.role.Role.{Role}
use Rattle.bk_calls.specs.declared.role.Role.TheVariants.{Argument, Call, Selection, Results, Other}

-- what a value is to a call: an argument of the function, a call in it, what a call gave, the function's own results, or
-- none of these
abbrev pub role_of : Family → Role
role_of op.Arg = Argument
role_of op.StaticLECall = Call
role_of op.SelectN = Selection
role_of op.MakeResult = Results
role_of _ = Other

abbrev pub role : ValueRecord → Role
role v = role_of v.op.family

-- which words there are: how many arguments, and how many results, registers hold; the number of each argument that a
-- register holds, by its place; the first word of the results of each call, by the call's number; the number of the first
-- value that is a result which a register holds, by the call's number and the place of the result; the memory that a function
-- without results ends with, by the number of the value that ended it; and the first word of the function's own results
pub record WordPlan : Type 0 where
  pub registers : ℕ
  pub arguments : ℕ → ℕ
  pub results : ℕ → ℕ
  pub firsts : ℕ × ℕ → ℕ
  pub ends : ℕ → Option ℕ
  pub own : ℕ

-- a list without its last number, and that number, 0 where there is none
abbrev pub front : List ℕ → List ℕ
front xs = take (length xs - 1) xs

abbrev pub last : List ℕ → ℕ
last xs = slice_index xs (length xs - 1)

-- the trap that a call stands for: for a divisor and for a shift count that no program may have
abbrev pub trap_of : Aux → Option ℕ
trap_of (beside.Sym s) = if s == panic_divide then Some trap_divide else (if s == panic_shift then Some trap_shift else None)
trap_of _ = None

abbrev pub plain : Family → Op
plain o = record { family = o; a = 0; b = 0 }

-- a number that goes to the word w, after memory
abbrev pub area_word : Family → ℕ → ℕ → ℕ → ℕ → ValueRecord
area_word o n w memory x = value_of n (plain o) Mem (x ∷ memory ∷ []) (pos w) beside.Nothing

-- numbers that go to the words from w on: values numbered from n on, the first after memory, each other after the one before
abbrev pub chain : Family → ℕ → ℕ → ℕ → List ℕ → List ValueRecord
chain o n w memory [] = []
chain o n w memory (x ∷ xs) = area_word o n w memory x ∷ chain o (n + 1) (w + 1) n xs

-- the memory behind them
abbrev pub memory_after : ℕ → ℕ → List ℕ → ℕ
memory_after n memory [] = memory
memory_after n memory (x ∷ xs) = memory_after (n + 1) n xs

-- what is handed on where r registers hold the first numbers: these, and the memory behind the chain of the others
abbrev pub handed : ℕ → ℕ → ℕ → List ℕ → List ℕ
handed r n memory xs = take r xs ++ memory_after n memory (drop r xs) ∷ []

-- no numbers where a call is a trap
abbrev pub without_trap : Option ℕ → List ℕ → List ℕ
without_trap None xs = xs
without_trap (Some k) xs = []

-- the results that go to words by values of their own: those behind the first r, but where no register holds any the last
-- of them goes by the value that stands for all
abbrev pub queued_results : Bool → ℕ → List ℕ → List ℕ
queued_results true r xs = front xs
queued_results false r xs = drop r xs

-- the numbers that go to words by values of their own where r registers hold the first
abbrev pub queued_by : ℕ → Role → ValueRecord → List ℕ
queued_by r Call v = without_trap (trap_of v.aux) (drop r (front v.args))
queued_by r Results v = queued_results (r == 0) r (front v.args)
queued_by r _ v = []

abbrev pub queued : ℕ → ValueRecord → List ℕ
queued r v = queued_by r (role v) v

-- the values that are made for a value, numbered from n on
abbrev pub made_by : Role → WordPlan → ℕ → ValueRecord → List ValueRecord
made_by Call p n v = chain op.OutWord n p.registers (last v.args) (without_trap (trap_of v.aux) (drop p.registers (front v.args)))
made_by Results p n v = chain op.RetWord n (p.own + p.registers) (last v.args) (queued_results (p.registers == 0) p.registers (front v.args))
made_by _ p n v = []

abbrev pub chained : WordPlan → ℕ → ValueRecord → List ValueRecord
chained p n v = made_by (role v) p n v

-- a copy of another value
abbrev pub copy_of : ℕ → ValueRecord → ValueRecord
copy_of x v = record v { op = plain op.Copy; args = x ∷ []; int = pos 0; aux = beside.Nothing }

-- an argument: a copy of the value that stands for its register, or a word
abbrev pub given : Bool → WordPlan → ValueRecord → ValueRecord
given true p v = copy_of (p.arguments (place_of_arg v.aux)) v
given false p v = record v { op = plain op.ArgWord; args = []; int = pos (place_of_arg v.aux); aux = beside.Nothing }

-- the op of a call where r registers hold arguments
abbrev pub call_family : ℕ → Family
call_family r = if r == 0 then op.Call else op.CallRegs

-- a call behind its arguments, or the trap that it stands for
abbrev pub called : Option ℕ → WordPlan → ℕ → ValueRecord → ValueRecord
called None p n v = record v {
  op = plain (call_family p.registers);
  ty = Mem;
  args = handed p.registers n (last v.args) (front v.args);
  int = pos 0;
}
called (Some k) p n v = record v { op = plain op.Trap; ty = Mem; args = last v.args ∷ []; int = pos k; aux = beside.Nothing }

-- the place of a result where one of r registers holds it
abbrev pub register_place : ℕ → ℤ → Option ℕ
register_place r (pos i) = if nat_lt i r then Some i else None
register_place r (negsuc i) = None

-- the call and the place of a result in a register; none for any other value
abbrev pub key_by : Role → Bool → Option ℕ → ValueRecord → Option (ℕ × ℕ)
key_by Selection false (Some i) v = Some (slice_index v.args 0, i)
key_by _ _ _ v = None

abbrev pub result_key : ℕ → ValueRecord → Option (ℕ × ℕ)
result_key r v = key_by (role v) (is_mem v.ty) (register_place r v.int) v

-- a result that a register holds: what stands for the register, or a copy of the first value that does
abbrev pub picked : Bool → ℕ → ValueRecord → ValueRecord
picked true x v = record v { op = plain op.ResReg }
picked false x v = copy_of x v

-- a result: one that a register holds, or a word
abbrev pub taken : Option (ℕ × ℕ) → WordPlan → ValueRecord → ValueRecord
taken None p v = record v { op = plain op.ResWord; int = pos (p.results (slice_index v.args 0)) +ℤ v.int }
taken (Some k) p v = picked (p.firsts k == v.id) (p.firsts k) v

-- what a call gave: the memory after it, or a result
abbrev pub selected : Bool → WordPlan → ValueRecord → ValueRecord
selected true p v = record v { op = plain op.Copy; int = pos 0 }
selected false p v = taken (result_key p.registers v) p v

-- the results of the function: the last of them in a word, or the first of them in registers
abbrev pub returned : Bool → WordPlan → ℕ → ValueRecord → ValueRecord
returned true p n v = record v {
  op = plain op.RetWord;
  ty = Mem;
  args = last (front v.args) ∷ memory_after n (last v.args) (front (front v.args)) ∷ [];
  int = pos (p.own + length (front (front v.args)));
  aux = beside.Nothing;
}
returned false p n v = record v {
  op = plain op.RetRegs;
  ty = Mem;
  args = handed p.registers n (last v.args) (front v.args);
  int = pos 0;
  aux = beside.Nothing;
}

-- what a value becomes under its number, where the values that are made for it are numbered from n on
abbrev pub turned_by : Role → WordPlan → ℕ → ValueRecord → ValueRecord
turned_by Argument p n v = given (nat_lt (place_of_arg v.aux) p.registers) p v
turned_by Call p n v = called (trap_of v.aux) p n v
turned_by Selection p n v = selected (is_mem v.ty) p v
turned_by Results p n v = returned (p.registers == 0) p n v
turned_by Other p n v = v

abbrev pub turned : WordPlan → ℕ → ValueRecord → ValueRecord
turned p n v = turned_by (role v) p n v

abbrev pub is_argument : Role → Bool
is_argument Argument = true
is_argument _ = false

abbrev pub is_results : Role → Bool
is_results Results = true
is_results _ = false

abbrev pub is_call : Role → Bool
is_call Call = true
is_call _ = false

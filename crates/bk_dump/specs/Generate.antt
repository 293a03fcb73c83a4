-- Packages that a generator of pseudo-random numbers makes.
use Rattle.std.specs.Prelude.{ℕ, zero, suc, ℤ, pos, ◌+◌, ◌-◌, ◌*◌, ◌/◌, ◌%◌, ◌^◌, ◌==◌, nat_lt, if◌then◌else◌, List, [], ◌∷◌, ◌++◌, Some, codes}
use Rattle.std.specs.Fmt.{decimal}
use Rattle.bk_ops.specs.declared.family.Family.{Family}
use Rattle.bk_ops.specs.declared.family.Family.TheVariants as family
use Rattle.bk_ops.specs.declared.table.Op.{Op}
use Rattle.bk_ops.specs.declared.types.Ty.{Ty}
use Rattle.bk_ops.specs.declared.types.Ty.TheVariants as ty
use Rattle.bk_func.specs.declared.parts.Aux.{Aux}
use Rattle.bk_func.specs.declared.parts.Aux.TheVariants as aux
use Rattle.bk_func.specs.declared.parts.Kind.TheVariants as kind
use Rattle.bk_func.specs.declared.parts.Likely.TheVariants as likely
use Rattle.bk_func.specs.Records.{ValueRecord, BlockRecord, SigRecord, FuncRecord, PackageRecord}

-- the state after a draw
unfoldable pub next : ℕ → ℕ
next s = (s * 1103515245 + 12345) % 2 ^ 31

-- what a draw of a number below k answers at a state
unfoldable pub draw : ℕ → ℕ → ℕ
draw k s = next s / 65536 % k

-- the ops of two arguments, by their number
unfoldable pub family_at : ℕ → Family
family_at k =
    if k == 0 then family.Add
    else if k == 1 then family.Sub
    else if k == 2 then family.Mul
    else if k == 3 then family.And
    else if k == 4 then family.Or
    else family.Xor

abbrev pub op : Family → ℕ → Op
op f w = record { family = f; a = w; b = 0 }

abbrev pub value : ℕ → Op → Ty → List ℕ → ℤ → Aux → ValueRecord
value n o t args int x = record { id = n; op = o; ty = t; args = args; int = int; aux = x }

-- v n = Const64 <int64> [c]
abbrev pub constant : ℕ → ℕ → ValueRecord
constant n c = value n (op family.Const 64) ty.Int64 [] (pos c) aux.Nothing

-- v n = OP <int64> v x v y
abbrev pub binary : ℕ → Family → ℕ → ℕ → ValueRecord
binary n f x y = value n (op f 64) ty.Int64 (x ∷ y ∷ []) (pos 0) aux.Nothing

-- the number of an argument of value n: one of those from 2 on and below n
abbrev pub operand : ℕ → ℕ → ℕ
operand n s = 2 + draw (n - 2) s

-- 45 bits, drawn 15 at a time, the upper ones first
abbrev pub wide : ℕ → ℕ
wide s = draw 32768 s * 2 ^ 30 + draw 32768 (next s) * 2 ^ 15 + draw 32768 (next (next s))

-- value n as it is drawn at a state, and the state after it
unfoldable pub drawn : ℕ → ℕ → ValueRecord × ℕ
drawn n s =
    if nat_lt (draw 8 s) 6 then (binary n (family_at (draw 8 s)) (operand n (next s)) (operand n (next (next s))), next (next (next s)))
    else if draw 8 s == 6 then (constant n (wide (next s)), next (next (next (next s))))
    else (constant n (draw 2048 (next s)), next (next s))

-- a list with what was drawn put last, and the state after it
abbrev pub with_drawn : {X : Type 0} → List X → X × ℕ → List X × ℕ
with_drawn xs d = (xs ++ d.0 ∷ [], d.1)

-- the first k values from v4 on that are drawn from a state on, and the state after them
unfoldable pub values_to : ℕ → ℕ → List ValueRecord × ℕ
values_to s zero = ([], s)
values_to s (suc k) = with_drawn (values_to s k).0 (drawn (4 + k) (values_to s k).1)

-- v1 = InitMem <mem>
abbrev pub initial_memory : ValueRecord
initial_memory = value 1 (op family.InitMem 0) ty.Mem [] (pos 0) aux.Nothing

-- v n = Arg <int64> {p}, p being the argument at a place
abbrev pub argument : ℕ → ℕ → ValueRecord
argument n place = value n (op family.Arg 0) ty.Int64 [] (pos 0) (aux.Arg place)

-- the state of memory and the two arguments
abbrev pub opening : List ValueRecord
opening = initial_memory ∷ argument 2 0 ∷ argument 3 1 ∷ []

-- the result of a function whose last drawn value is v n
abbrev pub closing : ℕ → ValueRecord
closing n = value (n + 1) (op family.MakeResult 0) ty.Tuple (n ∷ 1 ∷ []) (pos 0) aux.Nothing

-- the one block of a function with so many drawn values
abbrev pub body : ℕ → List ValueRecord → BlockRecord
body k vs = record {
  id = 1;
  kind = kind.Ret;
  control = Some (k + 4);
  preds = [];
  succs = [];
  likely = likely.No;
  values = opening ++ (vs ++ closing (k + 3) ∷ []);
}

-- func(a int64, b int64) int64
abbrev pub signature : SigRecord
signature = record { args = ty.Int64 ∷ ty.Int64 ∷ []; results = ty.Int64 ∷ [] }

-- the function with this name's number and so many drawn values
abbrev pub function : ℕ → ℕ → List ValueRecord → FuncRecord
function i k vs = record { name = i; sig = signature; blocks = body k vs ∷ []; given = k + 4 }

-- how many values are drawn for a function
abbrev pub size : ℕ → ℕ
size s = 8 + draw 57 s

-- function i as it is drawn at a state, and the state after it
unfoldable pub drawn_function : ℕ → ℕ → FuncRecord × ℕ
drawn_function i s = (function i (size s) (values_to (next s) (size s)).0, (values_to (next s) (size s)).1)

-- the first k functions that are drawn from a state on, and the state after them
unfoldable pub functions_to : ℕ → ℕ → List FuncRecord × ℕ
functions_to s zero = ([], s)
functions_to s (suc k) = with_drawn (functions_to s k).0 (drawn_function k (functions_to s k).1)

-- f0, f1 and so on
unfoldable pub names_to : ℕ → List (List ℕ)
names_to zero = []
names_to (suc k) = names_to k ++ (codes "f" ++ decimal k) ∷ []

-- the package of n functions; the first state is n
abbrev pub generated : ℕ → PackageRecord
generated n = record { names = names_to n; funcs = (functions_to n n).0; vars = [] }

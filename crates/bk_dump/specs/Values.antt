-- The lines of values.
use Rattle.std.specs.Prelude.{ℕ, ℤ, pos, negsuc, suc, Bool, true, false, nat_lt, nat_le, ◌==◌, ◌-◌, ◌*◌, ◌^◌, ◌&&◌, ◌||◌, if◌then◌else◌, List, [], Option, Some, None, codes}
use Rattle.std.specs.Option.{option_map, option_map_or, is_some}
use Rattle.std.specs.Str.{bytes_eq}
use Rattle.bk_ops.specs.declared.table.Op.{Op}
use Rattle.bk_ops.specs.declared.family.Family.{Family}
use Rattle.bk_ops.specs.declared.family.Family.TheVariants as family
use Rattle.bk_ops.specs.Reading.{read as op_named}
use Rattle.bk_dump.specs.declared.read.beside.Braces.{Braces}
use Rattle.bk_dump.specs.declared.read.beside.Braces.TheVariants as braces
use Rattle.bk_dump.specs.declared.read.beside.Square.{Square}
use Rattle.bk_dump.specs.declared.read.beside.Square.TheVariants as square
use Rattle.bk_dump.specs.Front.{◌>>=◌, or_else, unblanked, after, mark_at, every, at_end}
use Rattle.bk_dump.specs.Words.{name_at, word_at, group_at, decimal_at, number_at, numbers_at}
use Rattle.bk_dump.specs.Types.{one_type_at, value_type_at}
use Rattle.bk_dump.specs.Trees.{MentionTree, ValueTree, no_mention, of_type, of_name}

-- what an op of a family has in braces
unfoldable pub braces_of : Family → Braces
braces_of family.Arg = braces.Name
braces_of family.Addr = braces.Name
braces_of family.StaticLECall = braces.Callee
braces_of family.Store = braces.Type
braces_of family.Zero = braces.Ignored
braces_of family.Move = braces.Ignored
braces_of _ = braces.Nothing

-- what it has in square brackets
unfoldable pub square_of : Family → Square
square_of family.Const = square.Number
square_of family.OffPtr = square.Number
square_of family.Zero = square.Number
square_of family.Move = square.Number
square_of family.PanicBounds = square.Number
square_of family.SelectN = square.Number
square_of family.ConstBool = square.Truth
square_of family.StaticLECall = square.Ignored
square_of family.Lsh = square.IgnoredTruth
square_of family.Rsh = square.IgnoredTruth
square_of family.RshU = square.IgnoredTruth
square_of family.Div = square.IgnoredTruth
square_of family.Mod = square.IgnoredTruth
square_of _ = square.Nothing

-- machine ops and the ops of words stand in no text
unfoldable pub is_written : Family → Bool
is_written family.ArgWord = false
is_written family.ArgReg = false
is_written family.ResWord = false
is_written family.ResReg = false
is_written family.OutWord = false
is_written family.RetWord = false
is_written family.RetRegs = false
is_written family.Call = false
is_written family.CallRegs = false
is_written family.Trap = false
is_written (family.Arm op) = false
is_written (family.Rv op) = false
is_written _ = true

-- an op by its name
unfoldable pub op_at : List ℕ → Option (Op × List ℕ)
op_at text = op_named (word_at text).0 >>= λ o. if is_written o.family then Some (o, (word_at text).1) else None

-- what stands in braces

unfoldable pub in_braces : {A : Type 0} → (List ℕ → Option (A × List ℕ)) → List ℕ → Option (A × List ℕ)
in_braces read text = do
  a ← mark_at (codes "{") text
  x ← read a
  b ← mark_at (codes "}") x.1
  Some (x.0, b)

-- `AuxCall{NAME}`
unfoldable pub aux_call_at : List ℕ → Option (List ℕ × List ℕ)
aux_call_at text = do
  n ← name_at text
  if bytes_eq n.0 (codes "AuxCall") then in_braces name_at n.1 else None

-- a callee: `{NAME}` or `{AuxCall{NAME}}`
unfoldable pub callee_at : List ℕ → Option (List ℕ × List ℕ)
callee_at text = or_else (in_braces aux_call_at text) (in_braces name_at text)

-- what f makes of what was read
abbrev pub made : {A B : Type 0} → (A → B) → Option (A × List ℕ) → Option (B × List ℕ)
made f read = option_map (λ x. (f x.0, x.1)) read

-- what is read where this mark stands, and nothing where it does not
abbrev pub where_marked : {A : Type 0} → List ℕ → A → (List ℕ → Option (A × List ℕ)) → List ℕ → Option (A × List ℕ)
where_marked mark nothing read text = if is_some (mark_at mark text) then read text else Some (nothing, text)

unfoldable pub braces_at : Braces → List ℕ → Option (MentionTree × List ℕ)
braces_at braces.Nothing text = Some (no_mention, text)
braces_at braces.Type text = made of_type (in_braces one_type_at text)
braces_at braces.Name text = made of_name (in_braces name_at text)
braces_at braces.Callee text = made of_name (callee_at text)
braces_at braces.Ignored text = where_marked (codes "{") no_mention (λ t. made (λ n. no_mention) (in_braces name_at t)) text

-- what stands in square brackets

-- 2^W where the op is a constant of W bits, else 0
unfoldable pub constants_of : Family → ℕ → ℕ
constants_of family.Const bits = if bits == 8 then 2 ^ 8 else if bits == 16 then 2 ^ 16 else if bits == 32 then 2 ^ 32 else if bits == 64 then 2 ^ 64 else 0
constants_of _ bits = 0

-- a number from 0 on: one whose highest bit of W is set is kept with 2^W taken off, and no other one is past 2^63 - 1
unfoldable pub kept : ℕ → ℕ → Option ℤ
kept all n =
    if nat_lt n all && nat_le all (2 * n) then Some (negsuc (all - suc n))
    else if nat_lt n (2 ^ 63) then Some (pos n)
    else None

unfoldable pub natural_at : ℕ → List ℕ → Option (ℤ × List ℕ)
natural_at all text = do
  n ← decimal_at text
  z ← kept all n.0
  Some (z, n.1)

-- a number below 0, from -2^63 on, behind its `-`; `-0` is none
unfoldable pub negative_at : List ℕ → Option (ℤ × List ℕ)
negative_at text = decimal_at text >>= λ n. if n.0 == 0 || nat_lt (2 ^ 63) n.0 then None else Some (negsuc (n.0 - 1), n.1)

-- a number as an op keeps it
unfoldable pub int_at : ℕ → List ℕ → Option (ℤ × List ℕ)
int_at all text = option_map_or negative_at (after (codes "-") (unblanked text)) (natural_at all (unblanked text))

-- `true`, `false` or a number
unfoldable pub truth_at : ℕ → List ℕ → Option (ℤ × List ℕ)
truth_at all text =
    if bytes_eq (word_at text).0 (codes "true") then Some (pos 1, (word_at text).1)
    else if bytes_eq (word_at text).0 (codes "false") then Some (pos 0, (word_at text).1)
    else int_at all text

unfoldable pub in_square : (List ℕ → Option (ℤ × List ℕ)) → List ℕ → Option (ℤ × List ℕ)
in_square read text = do
  a ← mark_at (codes "[") text
  x ← read a
  b ← mark_at (codes "]") x.1
  Some (x.0, b)

unfoldable pub square_at : Square → ℕ → List ℕ → Option (ℤ × List ℕ)
square_at square.Nothing all text = Some (pos 0, text)
square_at square.Number all text = in_square (int_at all) text
square_at square.Truth all text = in_square (truth_at all) text
square_at square.Ignored all text = where_marked (codes "[") (pos 0) (λ t. made (λ n. pos 0) (in_square (int_at all) t)) text
square_at square.IgnoredTruth all text = where_marked (codes "[") (pos 0) (λ t. made (λ n. pos 0) (in_square (truth_at all) t)) text

-- what stands beside the arguments, in either order

abbrev pub square_part : Op → List ℕ → Option (ℤ × List ℕ)
square_part op text = square_at (square_of op.family) (constants_of op.family op.a) text

abbrev pub braces_part : Op → List ℕ → Option (MentionTree × List ℕ)
braces_part op text = braces_at (braces_of op.family) text

unfoldable pub square_first : Op → List ℕ → Option ((MentionTree × ℤ) × List ℕ)
square_first op text = do
  i ← square_part op text
  m ← braces_part op i.1
  Some ((m.0, i.0), m.1)

unfoldable pub braces_first : Op → List ℕ → Option ((MentionTree × ℤ) × List ℕ)
braces_first op text = do
  m ← braces_part op text
  i ← square_part op m.1
  Some ((m.0, i.0), i.1)

unfoldable pub beside_at : Op → List ℕ → Option ((MentionTree × ℤ) × List ℕ)
beside_at op text = if is_some (mark_at (codes "[") text) then square_first op text else braces_first op text

-- the line

-- the text behind a group, where one stands
unfoldable pub ungrouped : List ℕ → List ℕ
ungrouped text = option_map_or (λ g. g.1) (group_at text) text

-- the number of the value, and the text behind the `=`
unfoldable pub left_at : List ℕ → Option (ℕ × List ℕ)
left_at line = do
  n ← number_at (codes "v") (unblanked line)
  b ← mark_at (codes "=") (ungrouped n.1)
  Some (n.0, b)

-- the line up to its arguments, of which none is read yet
unfoldable pub head_at : List ℕ → Option (ValueTree × List ℕ)
head_at line = do
  n ← left_at line
  o ← op_at n.1
  t ← value_type_at o.1
  m ← beside_at o.0 t.1
  Some (record { id = n.0; op = o.0; ty = t.0; args = []; int = m.0.1; mention = m.0.0 }, m.1)

-- the groups that end a line
unfoldable pub groups_at : List ℕ → Option (List (List ℕ))
groups_at text = at_end (every group_at text).1 (every group_at text).0

abbrev pub with_args : ValueTree → List ℕ → ValueTree
with_args v args = record v { args = args }

unfoldable pub value_at : List ℕ → Option ValueTree
value_at line = do
  v ← head_at line
  g ← groups_at (numbers_at (codes "v") v.1).1
  Some (with_args v.0 (numbers_at (codes "v") v.1).0)

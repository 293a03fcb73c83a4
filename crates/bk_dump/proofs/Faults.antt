-- What a line without fault declares is not declared before it.
use Rattle.std.proofs.Common.{◌≡◌, ℕ, ◌≤◌, arith, List, length, ap, ◌∙◌, refl, Bool, true, false, cond, Some, None}
use Rattle.std.specs.Prelude.{not, nat_lt, nat_le, ◌+◌, ◌&&◌, ◌||◌}
use Rattle.std.proofs.lemmas.Bool.Decides.{nat_tests}
use Rattle.bk_dump.specs.declared.read.errors.Fault.{Fault}
use Rattle.bk_dump.specs.Trees.{FuncTree, ValueTree, LabelTree, VarTree, HeaderTree}
use Rattle.bk_dump.specs.Drafts.{State, declares, is_number, are_numbers, is_reserved, is_declared, is_taken, value_fault, block_fault, var_fault, header_fault}

-- of three tests the first one fails
pub first : (a b c : Bool) (x y z : Fault) → cond a (Some x) (cond b (Some y) (cond c (Some z) None)) ≡ None → a ≡ false
first true b c x y z h = absurd (cc)
first false b c x y z h = refl

-- of three tests the middle one fails
pub middle : (a b c : Bool) (x y z : Fault) → cond a (Some x) (cond b (Some y) (cond c (Some z) None)) ≡ None → b ≡ false
middle true b c x y z h = absurd (cc)
middle false true c x y z h = absurd (cc)
middle false false c x y z h = refl

-- of three tests the last one fails
pub third : (a b c : Bool) (x y z : Fault) → cond a (Some x) (cond b (Some y) (cond c (Some z) None)) ≡ None → c ≡ false
third true b c x y z h = absurd (cc)
third false true c x y z h = absurd (cc)
third false false true x y z h = absurd (cc)
third false false false x y z h = refl

value_is_new : (f : FuncTree) (v : ValueTree) → value_fault f v ≡ None → declares f.value_ids v.id ≡ false
unfolding value_fault
value_is_new f v h = third (nat_le 16384 (length f.value_ids)) (not (is_number v.id && are_numbers v.args)) (declares f.value_ids v.id) _ _ _ h

block_is_new : (f : FuncTree) (b : LabelTree) → block_fault f b ≡ None → declares f.block_ids b.id ≡ false
unfolding block_fault
block_is_new f b h = third (nat_le 4096 (length f.block_ids)) (not (is_number b.id && are_numbers b.preds)) (declares f.block_ids b.id) _ _ _ h

var_is_new : (s : State) (v : VarTree) → var_fault s v ≡ None → is_taken s.names v.name ≡ false
unfolding var_fault
var_is_new s v h = third (nat_le 4096 (length s.vars)) (nat_lt 1048576 (s.window + v.size)) (is_taken s.names v.name) _ _ _ h

header_is_new : (s : State) (h : HeaderTree) → header_fault s h ≡ None → is_taken s.names h.name ≡ false
unfolding header_fault
header_is_new s h e = third (nat_le 4096 (length s.funcs)) (nat_lt 64 (length h.parameters + length h.results)) (is_taken s.names h.name) _ _ _ e

not_above : (m n : ℕ) → nat_lt m n ≡ false → n ≤ m
not_above m n h = grind (arith, nat_tests)

pub var_fits : (s : State) (v : VarTree) → var_fault s v ≡ None → s.window + v.size ≤ 1048576
unfolding var_fault
var_fits s v h = not_above 1048576 (s.window + v.size) (middle (nat_le 4096 (length s.vars)) (nat_lt 1048576 (s.window + v.size)) (is_taken s.names v.name) _ _ _ h)

-- a name that is not taken is not among those declared
second : (a b : Bool) → (a || b) ≡ false → b ≡ false
second true b h = absurd (cc)
second false b h = h

is_free : (names : List (List ℕ)) (name : List ℕ) → is_taken names name ≡ false → is_declared names name ≡ false
unfolding is_taken
is_free names name h = second (is_reserved name) (is_declared names name) h

-- the same of numbers and names that stand for those of the line
pub new_value : (f : FuncTree) (v : ValueTree) (ids : List ℕ) (id : ℕ) → value_fault f v ≡ None → ids ≡ f.value_ids → id ≡ v.id → declares ids id ≡ false
new_value f v ids id h e g = ap (λ ns. declares ns id) e ∙ ap (λ n. declares f.value_ids n) g ∙ value_is_new f v h

pub new_block : (f : FuncTree) (b : LabelTree) (ids : List ℕ) (id : ℕ) → block_fault f b ≡ None → ids ≡ f.block_ids → id ≡ b.id → declares ids id ≡ false
new_block f b ids id h e g = ap (λ ns. declares ns id) e ∙ ap (λ n. declares f.block_ids n) g ∙ block_is_new f b h

pub new_var : (s : State) (v : VarTree) (name : List ℕ) → var_fault s v ≡ None → name ≡ v.name → is_declared s.names name ≡ false
new_var s v name h e = ap (λ n. is_declared s.names n) e ∙ is_free s.names v.name (var_is_new s v h)

pub new_func : (s : State) (h : HeaderTree) (name : List ℕ) → header_fault s h ≡ None → name ≡ h.name → is_declared s.names name ≡ false
new_func s h name e g = ap (λ n. is_declared s.names n) g ∙ is_free s.names h.name (header_is_new s h e)

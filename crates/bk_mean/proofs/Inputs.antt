-- The numbers of values from those at the places of their arguments.
use Rattle.std.proofs.Common.{◌≡◌, ℕ, ℤ, zero, suc, ◌-◌, ◌%◌, ◌^◌, ◌<◌, refl, ap, sym, ◌∙◌, arith, List, [], ◌∷◌, length, map, take, Option, None, Bool, true}
use Rattle.std.specs.Prelude.{slice_index, unwrap_or, if◌then◌else◌}
use Rattle.bk_ops.specs.Table.{is_op}
use Rattle.bk_ops.specs.Types.{width_of}
use Rattle.bk_ops.specs.Values.{op_value, pure_value}
use Rattle.bk_ops.specs.declared.table.Op.{Op}
use Rattle.bk_ops.specs.declared.types.Target.{Target}
use Rattle.bk_func.specs.Records.{ValueRecord, FuncRecord}
use Rattle.bk_func.specs.Numbers.{Program, Env, argument, computed, number_by, place_of_arg}
use Rattle.bk_func.specs.Meaning.{without_memory}
use Rattle.bk_mean.specs.Machine.{arg_number}
use Rattle.bk_mean.specs.Step.{Reads, Stands}

arg_at : (numbers places : List ℕ) (m : ℕ → ℕ) (args : List ℕ) (k : ℕ) → map (slice_index numbers) places ≡ map m args → k < length args → arg_number numbers places k ≡ m (slice_index args k)
arg_at numbers places m [] k e h = absurd (omega arith)
arg_at numbers [] m (y ∷ ys) k e h = absurd cc
arg_at numbers (x ∷ xs) m (y ∷ ys) zero e h = let q : slice_index numbers x ≡ m y = cc in q
arg_at numbers (x ∷ xs) m (y ∷ ys) (suc k) e h = let q : map (slice_index numbers) xs ≡ map m ys = cc in arg_at numbers xs m ys k q (omega arith)

-- the number at the place of an argument is the argument's
pub arg_is : (numbers places : List ℕ) (m : ℕ → ℕ) (args : List ℕ) (k : ℕ) → Reads numbers places m args → k < length args → arg_number numbers places k ≡ m (slice_index args k)
arg_is numbers places m args k r h = arg_at numbers places m args k r.same h

pub by_argument : (p : Program) (f : FuncRecord) (e : Env) (m : ℕ → ℕ) (v : ValueRecord) (t : Target) (args : List ℕ) → Stands p e t args → (n k : ℕ) → k ≡ slice_index args (place_of_arg v.aux) → n ≡ k % 2 ^ width_of v.ty t →
    n ≡ number_by argument p f e m v
by_argument p f e m v t args s n k h q =
    q ∙ ap (λ x. x % 2 ^ width_of v.ty t) h
    ∙ ap (λ (x : Target). slice_index args (place_of_arg v.aux) % 2 ^ width_of v.ty x) (sym s.target)
    ∙ ap (λ (xs : List ℕ). slice_index xs (place_of_arg v.aux) % 2 ^ width_of v.ty p.target) (sym s.args)

read_take : (numbers : List ℕ) (m : ℕ → ℕ) (k : ℕ) (places args : List ℕ) → map (slice_index numbers) places ≡ map m args → map (slice_index numbers) (take k places) ≡ map m (take k args)
read_take numbers m zero places args e = refl
read_take numbers m (suc k) [] [] e = refl
read_take numbers m (suc k) [] (y ∷ ys) e = absurd cc
read_take numbers m (suc k) (x ∷ xs) [] e = absurd cc
read_take numbers m (suc k) (x ∷ xs) (y ∷ ys) e =
    let q : slice_index numbers x ≡ m y = cc in
    let r : map (slice_index numbers) xs ≡ map m ys = cc in
    let z = read_take numbers m k xs ys r in
    cc

same_length : (numbers : List ℕ) (m : ℕ → ℕ) (places args : List ℕ) → map (slice_index numbers) places ≡ map m args → length places ≡ length args
same_length numbers m [] [] e = refl
same_length numbers m [] (y ∷ ys) e = absurd cc
same_length numbers m (x ∷ xs) [] e = absurd cc
same_length numbers m (x ∷ xs) (y ∷ ys) e = let r : map (slice_index numbers) xs ≡ map m ys = cc in ap suc (same_length numbers m xs ys r)

-- the numbers at the places of all arguments but the last
pub without_is : (numbers places : List ℕ) (m : ℕ → ℕ) (args : List ℕ) → Reads numbers places m args → map (slice_index numbers) (without_memory places) ≡ map m (without_memory args)
without_is numbers places m args r =
    ap (λ k. map (slice_index numbers) (take (k - 1) places)) (same_length numbers m places args r.same) ∙ read_take numbers m (length args - 1) places args r.same

pub pure_is : (o : Op) (n : ℤ) (xs : List ℕ) (t : Target) → is_op o.family o.a o.b ≡ true → pure_value o n xs t ≡ op_value o n xs t
unfolding pure_value
pure_is o n xs t h = ap (λ (b : Bool). if b then op_value o n xs t else None) h

pub by_computed : (p : Program) (f : FuncRecord) (e : Env) (m : ℕ → ℕ) (v : ValueRecord) (t : Target) (args numbers places : List ℕ) → Stands p e t args → Reads numbers places m v.args →
    is_op v.op.family v.op.a v.op.b ≡ true → (n : ℕ) (o : Option ℕ) → o ≡ pure_value v.op v.int (map (slice_index numbers) places) t → n ≡ unwrap_or o 0 → n ≡ number_by computed p f e m v
by_computed p f e m v t args numbers places s r i n o h q =
    q ∙ ap (λ u. unwrap_or u 0) h ∙ ap (λ xs. unwrap_or (pure_value v.op v.int xs t) 0) r.same ∙ ap (λ u. unwrap_or u 0) (pure_is v.op v.int (map m v.args) t i)
    ∙ ap (λ (x : Target). unwrap_or (op_value v.op v.int (map m v.args) x) 0) (sym s.target)

-- Families of loads, stores and checks are sound.
use Rattle.std.proofs.Common.{◌≡◌, ℕ, ◌+◌, ◌%◌, ◌^◌, ◌≤◌, refl, ap, sym, ◌∙◌, arith, List, if◌then◌else◌, ◌==◌}
use Rattle.bk_num.specs.Word.{signed, residue}
use Rattle.bk_num.proofs.Signs.{residue_signed}
use Rattle.bk_ops.specs.declared.types.Target.TheVariants.{Riscv64}
use Rattle.bk_ops.specs.declared.types.Ty.{Ty}
use Rattle.bk_ops.specs.declared.types.Ty.TheVariants as ty
use Rattle.bk_ops.specs.declared.family.Family.TheVariants as generic
use Rattle.bk_ops.specs.declared.family.Family.TheVariants.{Rv}
use Rattle.bk_ops.specs.declared.family.RvOp.TheVariants as rv
use Rattle.bk_ops.specs.Formulas.{formula, rv_formula}
use Rattle.bk_ops.specs.Table.{row, rv_row, entry}
use Rattle.bk_ops.specs.Types.{width_of, size_of_ty}
use Rattle.bk_ops.proofs.LowBits.{residue-low}
use Rattle.bk_func.specs.Numbers.{is_truth}
use Rattle.bk_func.specs.declared.parts.Aux.{Aux}
use Rattle.bk_func.specs.declared.parts.Aux.TheVariants as beside
use Rattle.bk_func.specs.Meaning.{store_size}
use Rattle.bk_rule.specs.Trees.{op}
use Rattle.bk_rule.specs.Expressions.{word, wrap}
use Rattle.bk_rules_words.specs.Sound.{SoundInWords}
use Rattle.bk_rule.proofs.Opened.{opened}
use Rattle.bk_rules_words.specs.declared.lines.Fits.TheVariants.{Is12}
use Rattle.bk_rules_words.specs.Families.{two, load, store_bool, store, zero, move_bytes, panic, load_near, store_near}
use Rattle.bk_rules_words.proofs.LowBits.{low}
use Rattle.bk_rules_words.proofs.LoadStore.{size_is, bool_size, bool_stored, plain_size, plain_stored, loaded_bits, bytes_at, at_address, sum_address, same_fault, same_store}

-- ---- loads
abbrev loaded_word : ℕ → ℕ → ℕ
loaded_word w n = if w == 4 then residue 64 (signed 32 n) else n

-- the low bits of the word that a load of as many bytes as the type has gives
loaded_low : (y : Ty) (m : ℕ) → loaded_word (size_of_ty y Riscv64) m % 2 ^ width_of y Riscv64 ≡ m % 2 ^ width_of y Riscv64
loaded_low ty.Bool m = refl
loaded_low ty.Int8 m = refl
loaded_low ty.Uint8 m = refl
loaded_low ty.Int16 m = refl
loaded_low ty.Uint16 m = refl
loaded_low ty.Int32 m = residue-low 32 64 (signed 32 m) (omega arith) ∙ residue_signed 32 m (omega arith)
loaded_low ty.Uint32 m = residue-low 32 64 (signed 32 m) (omega arith) ∙ residue_signed 32 m (omega arith)
loaded_low ty.Int64 m = refl
loaded_low ty.Uint64 m = refl
loaded_low ty.Int m = refl
loaded_low ty.Uint m = refl
loaded_low ty.Uintptr m = refl
loaded_low ty.Ptr m = refl
loaded_low ty.Mem m = refl
loaded_low ty.Void m = refl
loaded_low ty.Tuple m = refl

load_value : (y : Ty) (d : List ℕ) (w b b' n : ℕ) → width_of y Riscv64 ≤ 64 → size_of_ty y Riscv64 ≡ w → b ≡ b' → n % 2 ^ 64 ≡ loaded_word w (bytes_at d w b') % 2 ^ 64 →
    n % 2 ^ width_of y Riscv64 ≡ (if is_truth y then bytes_at d (size_of_ty y Riscv64) b % 2 else bytes_at d (size_of_ty y Riscv64) b) % 2 ^ width_of y Riscv64
load_value y d w b b' n h s f e =
    low (width_of y Riscv64) 64 n _ h
    (e ∙ (ap (λ i. loaded_word i (bytes_at d i b') % 2 ^ 64) (sym s) ∙ ap (λ i. loaded_word (size_of_ty y Riscv64) (bytes_at d (size_of_ty y Riscv64) i) % 2 ^ 64) (sym f))) ∙
    (loaded_low y (bytes_at d (size_of_ty y Riscv64) b) ∙ loaded_bits y Riscv64 (bytes_at d (size_of_ty y Riscv64) b))

pub load_sound : (w : ℕ) → w ≤ 8 → SoundInWords Riscv64 (load (Rv rv.Load) w)
unfolding SoundInWords opened formula rv_formula row rv_row entry
load_sound w h e s k kk x d =
    let z : size_of_ty (e.ty 0) Riscv64 ≡ w = size_is (e.ty 0) Riscv64 w h d.0 in (
      λ n q. load_value (e.ty 0) (s.windows (e.value 2)) w _ _ n d.1 z (at_address 64 (e.value 1) k kk) q,
      same_fault (s.windows (e.value 2)) _ _ _ _ z (at_address 64 (e.value 1) k kk),
      λ calls p places f a l. refl,
    )

-- ---- stores
pub store_bool_sound : SoundInWords Riscv64 (store_bool (Rv rv.StoreB))
unfolding SoundInWords opened formula rv_formula row rv_row entry
store_bool_sound e s ty k kk d = (refl, refl, λ calls p places f a l. same_store a _ _ _ _ _ _ _ (bool_size (e.ty 0) Riscv64 d.0) (at_address 64 (e.value 1) k kk) (bool_stored (e.ty 0) (e.value 2) d.0))

pub store_sound : (w : ℕ) → w ≤ 8 → SoundInWords Riscv64 (store (Rv rv.Store) w)
unfolding SoundInWords opened formula rv_formula row rv_row entry
store_sound w h e s ty k kk d = (refl, refl, λ calls p places f a l. same_store a _ _ _ _ _ _ _ (plain_size (e.ty 0) Riscv64 w h d.0) (at_address 64 (e.value 1) k kk) (plain_stored (e.ty 0) Riscv64 w (e.value 2) d.0))

-- ---- what is the same on both sides
pub zero_sound : SoundInWords Riscv64 (zero (Rv rv.Zero))
unfolding SoundInWords opened formula rv_formula row rv_row entry
zero_sound e s ty kk x d = (refl, refl, λ calls p places f a l. refl)

pub move_sound : SoundInWords Riscv64 (move_bytes (Rv rv.Move))
unfolding SoundInWords opened formula rv_formula row rv_row entry
move_sound e s ty kk x d = (refl, refl, λ calls p places f a l. refl)

pub nil_check_sound : SoundInWords Riscv64 (two generic.NilCheck (Rv rv.Nil) 0 0)
unfolding SoundInWords opened formula rv_formula row rv_row entry
nil_check_sound e s ty k kk x d = (λ n q. q, refl, λ calls p places f a l. refl)

pub panic_sound : SoundInWords Riscv64 panic
unfolding SoundInWords opened formula rv_formula row rv_row entry
panic_sound e s n m ty k kk x d = (refl, refl, λ calls p places f a l. refl)

-- ---- an offset beside the access
pub load_near_sound : (w : ℕ) → SoundInWords Riscv64 (load_near (Rv rv.Load) (Rv rv.Addi) Is12 w)
unfolding SoundInWords opened formula rv_formula row rv_row entry
load_near_sound w e s t1 k1 x1 y g ty kk x d =
    let z : (y + residue 64 (e.int 0)) % 2 ^ 64 ≡ (e.value 2 + residue 64 (wrap (word (e.int 0) + word (e.int 1)))) % 2 ^ 64 = sum_address 64 (e.value 2) y (e.int 0) (e.int 1) (omega arith) g in (
      λ n q. q ∙ ap (λ i. loaded_word w (bytes_at (s.windows (e.value 3)) w i) % 2 ^ 64) (sym z),
      same_fault (s.windows (e.value 3)) w w _ _ refl z,
      λ calls p places f a l. refl,
    )

-- the bytes that a machine op stores, whatever stands beside it
size_stored : (x : Aux) (w : ℕ) → store_size Riscv64 x (op (Rv rv.Store) w 0) (Rv rv.Store) ≡ w
size_stored beside.Nothing w = refl
size_stored (beside.Sym i) w = refl
size_stored (beside.Ty t) w = refl
size_stored (beside.Arg i) w = refl

one_stored : (x : Aux) → store_size Riscv64 x (op (Rv rv.StoreB) 0 0) (Rv rv.StoreB) ≡ 1
one_stored beside.Nothing = refl
one_stored (beside.Sym i) = refl
one_stored (beside.Ty t) = refl
one_stored (beside.Arg i) = refl

pub store_near_sound : (w : ℕ) → SoundInWords Riscv64 (store_near (Rv rv.Store) (Rv rv.Addi) Is12 w)
unfolding SoundInWords opened formula rv_formula row rv_row entry
store_near_sound w e s t1 k1 x1 y g ty kk x d = (refl, refl, λ calls p places f a l. same_store a _ _ _ _ _ _ _ (size_stored x w) (sum_address 64 (e.value 2) y (e.int 0) (e.int 1) (omega arith) g) refl)

pub store_bool_near_sound : SoundInWords Riscv64 (store_near (Rv rv.StoreB) (Rv rv.Addi) Is12 0)
unfolding SoundInWords opened formula rv_formula row rv_row entry
store_bool_near_sound e s t1 k1 x1 y g ty kk x d = (refl, refl, λ calls p places f a l. same_store a _ _ _ _ _ _ _ (one_stored x) (sum_address 64 (e.value 2) y (e.int 0) (e.int 1) (omega arith) g) refl)

-- Families of loads, stores and checks are sound.
use Rattle.std.proofs.Common.{◌≡◌, ℕ, ◌+◌, ◌%◌, ◌^◌, ◌≤◌, refl, ap, sym, ◌∙◌, arith, pos, List, if◌then◌else◌}
use Rattle.bk_num.specs.Word.{residue}
use Rattle.bk_ops.specs.declared.types.Target.TheVariants.{Arm}
use Rattle.bk_ops.specs.declared.family.Family.TheVariants as generic
use Rattle.bk_ops.specs.declared.family.ArmOp.TheVariants as arm
use Rattle.bk_ops.specs.Formulas.{formula, arm_formula}
use Rattle.bk_ops.specs.Table.{row, arm_row, entry}
use Rattle.bk_ops.specs.declared.types.Ty.{Ty}
use Rattle.bk_ops.specs.Types.{width_of, size_of_ty}
use Rattle.bk_func.specs.Numbers.{is_truth}
use Rattle.bk_func.specs.declared.parts.Aux.{Aux}
use Rattle.bk_func.specs.declared.parts.Aux.TheVariants as beside
use Rattle.bk_func.specs.Meaning.{store_size}
use Rattle.bk_rule.specs.Trees.{op}
use Rattle.bk_rule.specs.Expressions.{word, wrap}
use Rattle.bk_rules_words.specs.Sound.{SoundInWords}
use Rattle.bk_rule.proofs.Opened.{opened}
use Rattle.bk_rules_words.specs.declared.lines.Fits.TheVariants.{Below}
use Rattle.bk_rules_words.specs.Families.{two, load, store_bool, store, zero, move_bytes, panic, load_near, store_near}
use Rattle.bk_rules_words.proofs.LowBits.{low}
use Rattle.bk_rules_words.proofs.LoadStore.{size_is, bool_size, bool_stored, plain_size, plain_stored, loaded_bits, bytes_at, at_address, sum_address, same_fault, same_store}

-- ---- loads
load_value : (y : Ty) (d : List ℕ) (w b b' n : ℕ) → width_of y Arm ≤ 32 → size_of_ty y Arm ≡ w → b ≡ b' → n % 2 ^ 32 ≡ bytes_at d w b' % 2 ^ 32 →
    n % 2 ^ width_of y Arm ≡ (if is_truth y then bytes_at d (size_of_ty y Arm) b % 2 else bytes_at d (size_of_ty y Arm) b) % 2 ^ width_of y Arm
load_value y d w b b' n h s f e =
    low (width_of y Arm) 32 n _ h (e ∙ (ap (λ i. bytes_at d i b' % 2 ^ 32) (sym s) ∙ ap (λ i. bytes_at d (size_of_ty y Arm) i % 2 ^ 32) (sym f))) ∙
    loaded_bits y Arm (bytes_at d (size_of_ty y Arm) b)

pub load_sound : (w : ℕ) → w ≤ 8 → SoundInWords Arm (load (generic.Arm arm.Load) w)
unfolding SoundInWords opened formula arm_formula row arm_row entry
load_sound w h e s k kk x d =
    let z : size_of_ty (e.ty 0) Arm ≡ w = size_is (e.ty 0) Arm w h d.0 in (
      λ n q. load_value (e.ty 0) (s.windows (e.value 2)) w _ _ n d.1 z (at_address 32 (e.value 1) k kk) q,
      same_fault (s.windows (e.value 2)) _ _ _ _ z (at_address 32 (e.value 1) k kk),
      λ calls p places f a l. refl,
    )

-- ---- stores
pub store_bool_sound : SoundInWords Arm (store_bool (generic.Arm arm.StoreB))
unfolding SoundInWords opened formula arm_formula row arm_row entry
store_bool_sound e s ty k kk d = (refl, refl, λ calls p places f a l. same_store a _ _ _ _ _ _ _ (bool_size (e.ty 0) Arm d.0) (at_address 32 (e.value 1) k kk) (bool_stored (e.ty 0) (e.value 2) d.0))

pub store_sound : (w : ℕ) → w ≤ 8 → SoundInWords Arm (store (generic.Arm arm.Store) w)
unfolding SoundInWords opened formula arm_formula row arm_row entry
store_sound w h e s ty k kk d = (refl, refl, λ calls p places f a l. same_store a _ _ _ _ _ _ _ (plain_size (e.ty 0) Arm w h d.0) (at_address 32 (e.value 1) k kk) (plain_stored (e.ty 0) Arm w (e.value 2) d.0))

-- ---- what is the same on both sides
pub zero_sound : SoundInWords Arm (zero (generic.Arm arm.Zero))
unfolding SoundInWords opened formula arm_formula row arm_row entry
zero_sound e s ty kk x d = (refl, refl, λ calls p places f a l. refl)

pub move_sound : SoundInWords Arm (move_bytes (generic.Arm arm.Move))
unfolding SoundInWords opened formula arm_formula row arm_row entry
move_sound e s ty kk x d = (refl, refl, λ calls p places f a l. refl)

pub nil_check_sound : SoundInWords Arm (two generic.NilCheck (generic.Arm arm.Nil) 0 0)
unfolding SoundInWords opened formula arm_formula row arm_row entry
nil_check_sound e s ty k kk x d = (λ n q. q, refl, λ calls p places f a l. refl)

pub panic_sound : SoundInWords Arm panic
unfolding SoundInWords opened formula arm_formula row arm_row entry
panic_sound e s n m ty k kk x d = (refl, refl, λ calls p places f a l. refl)

-- ---- an offset beside the access
pub load_near_sound : (w : ℕ) → SoundInWords Arm (load_near (generic.Arm arm.Load) (generic.Arm arm.Addi) (Below (pos 256)) w)
unfolding SoundInWords opened formula arm_formula row arm_row entry
load_near_sound w e s t1 k1 x1 y g ty kk x d =
    let z : (y + residue 32 (e.int 0)) % 2 ^ 32 ≡ (e.value 2 + residue 32 (wrap (word (e.int 0) + word (e.int 1)))) % 2 ^ 32 = sum_address 32 (e.value 2) y (e.int 0) (e.int 1) (omega arith) g in (
      λ n q. q ∙ ap (λ i. bytes_at (s.windows (e.value 3)) w i % 2 ^ 32) (sym z),
      same_fault (s.windows (e.value 3)) w w _ _ refl z,
      λ calls p places f a l. refl,
    )

-- the bytes that a machine op stores, whatever stands beside it
size_stored : (x : Aux) (w : ℕ) → store_size Arm x (op (generic.Arm arm.Store) w 0) (generic.Arm arm.Store) ≡ w
size_stored beside.Nothing w = refl
size_stored (beside.Sym i) w = refl
size_stored (beside.Ty t) w = refl
size_stored (beside.Arg i) w = refl

one_stored : (x : Aux) → store_size Arm x (op (generic.Arm arm.StoreB) 0 0) (generic.Arm arm.StoreB) ≡ 1
one_stored beside.Nothing = refl
one_stored (beside.Sym i) = refl
one_stored (beside.Ty t) = refl
one_stored (beside.Arg i) = refl

pub store_near_sound : (w : ℕ) → SoundInWords Arm (store_near (generic.Arm arm.Store) (generic.Arm arm.Addi) (Below (pos 256)) w)
unfolding SoundInWords opened formula arm_formula row arm_row entry
store_near_sound w e s t1 k1 x1 y g ty kk x d = (refl, refl, λ calls p places f a l. same_store a _ _ _ _ _ _ _ (size_stored x w) (sum_address 32 (e.value 2) y (e.int 0) (e.int 1) (omega arith) g) refl)

pub store_bool_near_sound : SoundInWords Arm (store_near (generic.Arm arm.StoreB) (generic.Arm arm.Addi) (Below (pos 256)) 0)
unfolding SoundInWords opened formula arm_formula row arm_row entry
store_bool_near_sound e s t1 k1 x1 y g ty kk x d = (refl, refl, λ calls p places f a l. same_store a _ _ _ _ _ _ _ (one_stored x) (sum_address 32 (e.value 2) y (e.int 0) (e.int 1) (omega arith) g) refl)

-- Each address is read and written in one window.
use Rattle.std.proofs.Common.{◌≡◌, ℕ, ◌+◌, ◌<◌, ◌≤◌, List, length, ap, ◌∙◌, refl, arith, Option, Some, None, inl, inr, Bool, true, false, if◌then◌else◌}
use Rattle.bk_num.specs.Bytes.{load_in, store_in}
use Rattle.bk_num.specs.Memory.{pool_base, data_base, or_in, read, to_stack, to_data, write}
use Rattle.bk_num.proofs.Bytes.{load_elsewhere, store_elsewhere}

or_none : (o : Option ℕ) → or_in o None ≡ o
or_none None = refl
or_none (Some n) = refl

pub reads_stack : (pool window : List ℕ) (bottom : ℕ) (stack : List ℕ) (size a : ℕ) → pool_base + length pool ≤ data_base → data_base + length window ≤ bottom → bottom ≤ a → 1 ≤ size → read pool window bottom stack size a ≡ load_in bottom stack size a
unfolding read
reads_stack pool window bottom stack size a low high h s =
    ap (λ o. or_in o (or_in (load_in data_base window size a) (load_in bottom stack size a))) (load_elsewhere pool_base size a pool (inr (omega arith)))
    ∙ ap (λ o. or_in o (load_in bottom stack size a)) (load_elsewhere data_base size a window (inr (omega arith)))

pub reads_data : (pool window : List ℕ) (bottom : ℕ) (stack : List ℕ) (size a : ℕ) → pool_base + length pool ≤ data_base → data_base ≤ a → a < bottom → 1 ≤ size → read pool window bottom stack size a ≡ load_in data_base window size a
unfolding read
reads_data pool window bottom stack size a low h k s =
    ap (λ o. or_in o (or_in (load_in data_base window size a) (load_in bottom stack size a))) (load_elsewhere pool_base size a pool (inr (omega arith)))
    ∙ ap (or_in (load_in data_base window size a)) (load_elsewhere bottom size a stack (inl k))
    ∙ or_none (load_in data_base window size a)

pub reads_pool : (pool window : List ℕ) (bottom : ℕ) (stack : List ℕ) (size a : ℕ) → a < data_base → data_base + length window ≤ bottom → read pool window bottom stack size a ≡ load_in pool_base pool size a
unfolding read
reads_pool pool window bottom stack size a h high =
    ap (λ o. or_in (load_in pool_base pool size a) (or_in o (load_in bottom stack size a))) (load_elsewhere data_base size a window (inl h))
    ∙ ap (λ o. or_in (load_in pool_base pool size a) o) (load_elsewhere bottom size a stack (inl (omega arith)))
    ∙ or_none (load_in pool_base pool size a)

to_stack_if : (window after : List ℕ) (stored : Bool) → to_stack window (if stored then Some after else None) ≡ (if stored then Some (window, after) else None)
to_stack_if window after true = refl
to_stack_if window after false = refl

to_data_if : (stack after : List ℕ) (stored : Bool) → to_data stack (if stored then Some after else None) None ≡ (if stored then Some (after, stack) else None)
to_data_if stack after true = refl
to_data_if stack after false = refl

pub writes_stack : (window : List ℕ) (bottom : ℕ) (stack : List ℕ) (size a n : ℕ) (stored : Bool) (after : List ℕ) → data_base + length window ≤ bottom → bottom ≤ a → 1 ≤ size → store_in bottom stack size a n ≡ (if stored then Some after else None) → write window bottom stack size a n ≡ (if stored then Some (window, after) else None)
unfolding write
writes_stack window bottom stack size a n stored after high h s e =
    ap (λ o. to_data stack o (to_stack window (store_in bottom stack size a n))) (store_elsewhere data_base size a n window (inr (omega arith)))
    ∙ ap (to_stack window) e
    ∙ to_stack_if window after stored

pub writes_data : (window : List ℕ) (bottom : ℕ) (stack : List ℕ) (size a n : ℕ) (stored : Bool) (after : List ℕ) → a < bottom → store_in data_base window size a n ≡ (if stored then Some after else None) → write window bottom stack size a n ≡ (if stored then Some (after, stack) else None)
unfolding write
writes_data window bottom stack size a n stored after h e =
    ap (λ o. to_data stack (store_in data_base window size a n) (to_stack window o)) (store_elsewhere bottom size a n stack (inl h))
    ∙ ap (λ o. to_data stack o None) e
    ∙ to_data_if stack after stored

-- What the machine holds at the start.
use Rattle.std.proofs.Common.{◌≡◌, ℕ, zero, suc, ◌+◌, ◌-◌, ◌*◌, ◌^◌, ◌<◌, ◌≤◌, List, ◌++◌, length, drop, ap, ◌∙◌, sym, refl, arith, Some, length-append, length-drop}
use Rattle.std.specs.Prelude.{slice_index, replicate, min}
use Rattle.std.proofs.lemmas.List.{length-replicate, get_or-drop, get_or-append_right}
use Rattle.bk_num.specs.Bytes.{load_in}
use Rattle.bk_num.specs.Memory.{pool_base, data_base}
use Rattle.bk_machine.proofs.Stacks.{length-stack, word_in_stack}
use Rattle.bk_rv_isa.specs.Machine.{IsPlaced, stack_top, load, cells, argument_words, start_regs, start}
use Rattle.bk_rv_isa.proofs.Memory.{load_stack}

low_cells : (args : List ℕ) → length {A = ℕ} (replicate (min 8 (length args)) 0) ≡ min 8 (length args)
low_cells args = length-replicate (min 8 (length args)) 0

-- a cell for each argument
length-cells : (args : List ℕ) → length (cells args) ≡ length args
length-cells args = omega (arith, length-append (replicate (min 8 (length args)) 0) (drop 8 args), low_cells args, length-drop 8 args)

-- the stack window ends where the cells of the arguments and of the results end
pub length-start : (stack results : ℕ) (args : List ℕ) → length (replicate stack 0 ++ (argument_words args ++ replicate (8 * results) 0)) ≡ stack + 8 * length args + 8 * results
length-start stack results args = omega (arith, length-stack 8 stack results (cells args), length-cells args)

pub length-regs : (stack : ℕ) (args : List ℕ) → length (start_regs stack args) ≡ 32
length-regs stack args = refl

pub placed_start : (text pool window : List ℕ) (pc : ℕ) (args : List ℕ) (results stack : ℕ) → pool_base + length pool ≤ data_base → data_base + length window ≤ stack_top - stack → IsPlaced (start text pool window pc args results stack)
placed_start text pool window pc args results stack p w = record { pool = p; window = w }

-- each of the first eight arguments stands in its register
pub in_register_at_start : (stack k : ℕ) (args : List ℕ) → k < 8 → slice_index (start_regs stack args) (10 + k) ≡ slice_index args k
in_register_at_start stack zero args h = refl
in_register_at_start stack (suc zero) args h = refl
in_register_at_start stack (suc (suc zero)) args h = refl
in_register_at_start stack (suc (suc (suc zero))) args h = refl
in_register_at_start stack (suc (suc (suc (suc zero)))) args h = refl
in_register_at_start stack (suc (suc (suc (suc (suc zero))))) args h = refl
in_register_at_start stack (suc (suc (suc (suc (suc (suc zero)))))) args h = refl
in_register_at_start stack (suc (suc (suc (suc (suc (suc (suc zero))))))) args h = refl
in_register_at_start stack (suc (suc (suc (suc (suc (suc (suc (suc k)))))))) args h = absurd (omega arith)

-- behind the first eight, the cells are the arguments
cell_is : (args : List ℕ) (k : ℕ) → 8 ≤ k → k < length args → slice_index (cells args) k ≡ slice_index args k
cell_is args k low h =
    let eight : min 8 (length args) ≡ 8 = omega arith in
    let n : length {A = ℕ} (replicate (min 8 (length args)) 0) ≡ 8 = omega (arith, low_cells args) in
    let back : 8 + (k - 8) ≡ k = omega arith in
    get_or-append_right (replicate (min 8 (length args)) 0) (drop 8 args) 8 k 0 n low
    ∙ get_or-drop 8 args (k - 8) 0
    ∙ ap (slice_index args) back

-- each other argument stands in its cell at the stack's top and above
pub in_cell_at_start : (text pool window : List ℕ) (pc k : ℕ) (args : List ℕ) (results stack : ℕ) → pool_base + length pool ≤ data_base → data_base + length window ≤ stack_top - stack → stack ≤ stack_top → slice_index args k < 2 ^ 64 → 8 ≤ k → k < length args → load (start text pool window pc args results stack) 8 (stack_top + 8 * k) ≡ Some (slice_index args k)
in_cell_at_start text pool window pc k args results stack p w s word low h =
    let e : stack_top - stack + stack + 8 * k ≡ stack_top + 8 * k = omega arith in
    let c = cell_is args k low h in
    let n : slice_index (cells args) k < 256 ^ 8 = omega arith in
    load_stack (start text pool window pc args results stack) 8 (stack_top + 8 * k) (placed_start text pool window pc args results stack p w) (omega arith) (omega arith)
    ∙ ap (load_in (stack_top - stack) (replicate stack 0 ++ (argument_words args ++ replicate (8 * results) 0)) 8) (sym e)
    ∙ word_in_stack 8 stack (stack_top - stack) k results (cells args) n (omega (arith, length-cells args))
    ∙ ap Some c

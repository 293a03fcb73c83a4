-- What the machine holds at the start.
use Rattle.std.proofs.Common.{◌≡◌, ℕ, ◌+◌, ◌-◌, ◌*◌, ◌^◌, ◌<◌, ◌≤◌, List, ◌++◌, length, ap, ◌∙◌, sym, refl, arith, Some}
use Rattle.std.specs.Prelude.{slice_index, replicate}
use Rattle.bk_num.specs.Bytes.{load_in}
use Rattle.bk_num.specs.Memory.{pool_base, data_base}
use Rattle.bk_machine.proofs.Stacks.{length-stack, word_in_stack}
use Rattle.bk_arm_isa.specs.Machine.{IsPlaced, stack_top, load, word_bytes, start_regs, start}
use Rattle.bk_arm_isa.proofs.Memory.{load_stack}

-- the stack window ends where the words of the arguments and of the results end
pub length-start : (stack results : ℕ) (words : List ℕ) → length (replicate stack 0 ++ (word_bytes words ++ replicate (4 * results) 0)) ≡ stack + 4 * length words + 4 * results
length-start stack results words = length-stack 4 stack results words

pub length-start_regs : (stack : ℕ) → length (start_regs stack) ≡ 15
length-start_regs stack = refl

pub placed_start : (text pool window : List ℕ) (pc : ℕ) (words : List ℕ) (results stack : ℕ) → pool_base + length pool ≤ data_base → data_base + length window ≤ stack_top - stack → IsPlaced (start text pool window pc words results stack)
placed_start text pool window pc words results stack p w = record { pool = p; window = w }

-- each argument stands in its word at the stack's top and above
pub given_at_start : (text pool window : List ℕ) (pc k : ℕ) (words : List ℕ) (results stack : ℕ) → pool_base + length pool ≤ data_base → data_base + length window ≤ stack_top - stack → stack ≤ stack_top → slice_index words k < 2 ^ 32 → k < length words → load (start text pool window pc words results stack) 4 (stack_top + 4 * k) ≡ Some (slice_index words k)
given_at_start text pool window pc k words results stack p w s lt h =
    let e : stack_top - stack + stack + 4 * k ≡ stack_top + 4 * k = omega arith in
    load_stack (start text pool window pc words results stack) 4 (stack_top + 4 * k) (placed_start text pool window pc words results stack p w) (omega arith) (omega arith)
    ∙ ap (load_in (stack_top - stack) (replicate stack 0 ++ (word_bytes words ++ replicate (4 * results) 0)) 4) (sym e)
    ∙ word_in_stack 4 stack (stack_top - stack) k results words lt h

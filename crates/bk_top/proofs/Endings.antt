-- The line of a run, from what its steps gave.
use Rattle.std.proofs.Common.{◌≡◌, ℕ, zero, suc, ◌<◌, ◌^◌, List, [], ◌∷◌, length, get_or, All, ap, ◌∙◌, arith, Option, Some, None}
use Rattle.std.specs.Option.{IsSomeAnd}
use Rattle.bk_func.specs.Records.{SigRecord}
use Rattle.bk_func.specs.Words.{all_words, count_words}
use Rattle.bk_num.specs.Bytes.{each_bytes}
use Rattle.bk_ops.specs.declared.types.Target.TheVariants.{Arm, Riscv64}
use Rattle.bk_ops.specs.declared.types.Ty.{Ty}
use Rattle.bk_elf.specs.Records.{ObjectRecord}
use Rattle.bk_machine.specs.declared.stop.Stop.{Stop as RiscvStop}
use Rattle.bk_rv_isa.specs.Machine as riscv
use Rattle.bk_rv_sim.specs.View as riscv_view
use Rattle.bk_machine.specs.declared.stop.Stop.{Stop as ArmStop}
use Rattle.bk_arm_isa.specs.Machine as arm
use Rattle.bk_arm_sim.specs.View as arm_view
use Rattle.bk_top.specs.Outcomes.{OutcomeRecord, outcome_line}
use Rattle.bk_top.specs.Running.{riscv_outcome, riscv_told, riscv_line, arm_outcome, arm_told, arm_line}

-- from a start to the line
pub riscv_lined : (o : ObjectRecord) (address : ℕ) (sig own : SigRecord) (args : List ℕ) (bound stack : ℕ) (first last : riscv.Machine) (stop : RiscvStop) (types : List Ty) (outcome : OutcomeRecord) (window line : List ℕ)
    → first ≡ riscv.start o.text (each_bytes 8 o.pool) o.window address args (length sig.results) stack → (stop, last) ≡ riscv_view.ended (riscv.run bound first) → own ≡ sig
    → types ≡ own.results → outcome ≡ riscv_outcome own last stop → window ≡ last.window → line ≡ outcome_line Riscv64 types outcome window → line ≡ riscv_line o address sig args bound stack
unfolding riscv_line
riscv_lined o address sig own args bound stack first last stop types outcome window line starts ran owns typed ended left told =
    told
    ∙ ap (λ t. outcome_line Riscv64 t outcome window) typed
    ∙ ap (λ x. outcome_line Riscv64 own.results x window) ended
    ∙ ap (λ w. outcome_line Riscv64 own.results (riscv_outcome own last stop) w) left
    ∙ ap (λ s. riscv_told s (stop, last)) owns
    ∙ ap (riscv_told sig) (ran ∙ ap (λ m. riscv_view.ended (riscv.run bound m)) starts)

pub arm_lined : (o : ObjectRecord) (address : ℕ) (sig own : SigRecord) (args : List ℕ) (bound stack : ℕ) (first last : arm.Machine) (stop : ArmStop) (types : List Ty) (outcome : OutcomeRecord) (window line : List ℕ)
    → first ≡ arm.start o.text (each_bytes 8 o.pool) o.window address (all_words Arm sig.args args) (count_words Arm sig.results) stack → (stop, last) ≡ arm_view.ended (arm.run bound first) → own ≡ sig
    → types ≡ own.results → outcome ≡ arm_outcome own last stop → window ≡ last.window → line ≡ outcome_line Arm types outcome window → line ≡ arm_line o address sig args bound stack
unfolding arm_line
arm_lined o address sig own args bound stack first last stop types outcome window line starts ran owns typed ended left told =
    told
    ∙ ap (λ t. outcome_line Arm t outcome window) typed
    ∙ ap (λ x. outcome_line Arm own.results x window) ended
    ∙ ap (λ w. outcome_line Arm own.results (arm_outcome own last stop) w) left
    ∙ ap (λ s. arm_told s (stop, last)) owns
    ∙ ap (arm_told sig) (ran ∙ ap (λ m. arm_view.ended (arm.run bound m)) starts)

-- what holds of the value, if there is one, gives something else of it
pub some_also : {A : Type 0} (P Q : A → Type 0) (o : Option A) → ((x : A) → P x → Q x) → IsSomeAnd o P → IsSomeAnd o Q
some_also P Q None f h = h
some_also P Q (Some x) f h = f x h

pub not_both : {A : Type 0} (P Q : A → Type 0) (o : Option A) → ((x : A) → P x → Q x → ⊥) → IsSomeAnd o P → IsSomeAnd o Q → ⊥
not_both P Q None f h k = h
not_both P Q (Some x) f h k = f x h k

-- what holds of each element of a list of bytes
pub all_below : (xs : List ℕ) → ((k : ℕ) → get_or xs k 0 < 2 ^ 8) → All (λ b. b < 2 ^ 8) xs
all_below [] h k d lt = absurd (omega arith)
all_below (x ∷ xs) h zero d lt = h 0
all_below (x ∷ xs) h (suc k) d lt = all_below xs (λ i. h (suc i)) k d (omega arith)

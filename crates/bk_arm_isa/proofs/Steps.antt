-- How the machine goes on: runs in sequence, one instruction, and what a stop leaves.
use Rattle.std.proofs.Common.{◌≡◌, ℕ, suc, ◌+◌, ◌*◌, List, ◌++◌, length, drop, ap, ◌∙◌, refl, Option, Some, None, Bool, true, false, cond, pos, ◌⊎◌, inl, inr}
use Rattle.std.specs.Prelude.{◌==◌}
use Rattle.bk_arm_isa.specs.declared.Inst.{Inst}
use Rattle.bk_arm_isa.specs.declared.Inst.TheVariants.{Data, Move, Test, Movw, Movt, Mul, Mls, Umull, Smull, Sdiv, Udiv, Clz, Rbit, Sxtb, Sxth, Uxtb, Uxth, Ldr, Str, Ldrb, Strb, Ldrh, Strh, B, Bl, Bx, Udf}
use Rattle.bk_machine.specs.declared.stop.Stop.{Stop}
use Rattle.bk_machine.specs.declared.stop.Stop.TheVariants.{Returned, Fault}
use Rattle.bk_machine.proofs.Standing as standing
use Rattle.bk_machine.proofs.Running as running
use Rattle.bk_machine.proofs.Running.{goes_on, halts}
use Rattle.bk_arm_isa.specs.Decoding.{decoding}
use Rattle.bk_arm_isa.specs.Operands.{passes, reg}
use Rattle.bk_arm_isa.specs.Machine.{Machine, text_base, halt, plus, fetch, load, store, jumped, with_reg, with_windows, on_load, on_store, condition_of, execute, act, act_if, step, go_on, run, HasAt, Begins, Goes}

-- runs

-- the machine at the return address has returned
pub returned : (m : Machine) → m.pc ≡ halt → run 1 m ≡ (Some Returned, m)
returned m h = ap (λ p. go_on (cond (p == halt) (Some Returned, m) (act_if (fetch m.text m.pc) m)) (run 0)) h

-- code in the text

pub has_front : (a b : List Inst) (text : List ℕ) (pc : ℕ) → HasAt text pc (a ++ b) → HasAt text pc a
has_front a b text pc h = standing.has_front decoding a b text pc h

pub has_back : (a b : List Inst) (text : List ℕ) (pc : ℕ) → HasAt text pc (a ++ b) → HasAt text (pc + 4 * length a) b
has_back a b text pc h = standing.has_back decoding a b text pc h

pub has_words : (is : List Inst) (text words : List ℕ) (k : ℕ) → drop k text ≡ words → Begins words is → HasAt text (text_base + 4 * k) is
has_words is text words k e h = standing.has_words decoding is text words k e h

-- one instruction

pub steps_to : (m : Machine) (i : Inst) → fetch m.text m.pc ≡ Some i → step m ≡ act i m
steps_to m i h = ap (λ b. cond b (Some Returned, m) (act_if (fetch m.text m.pc) m)) (standing.not_halted decoding m.text m.pc i h) ∙ ap (λ o. act_if o m) h

pub one : (m : Machine) (i : Inst) → fetch m.text m.pc ≡ Some i → (k : ℕ) → run (suc k) m ≡ go_on (act i m) (run k)
one m i h k = ap (λ g. go_on g (run k)) (steps_to m i h)

-- an instruction whose condition holds, and that gives the next machine, is a step to it
pub once : (m m' : Machine) (i : Inst) → fetch m.text m.pc ≡ Some i → passes (condition_of i) m.flags ≡ true → execute i m ≡ (None, m') → Goes 1 m m'
once m m' i h p e = running.once step m m' (steps_to m i h ∙ ap (λ b. cond b (execute i m) (None, jumped m (m.pc + 4))) p ∙ e)

-- one whose condition does not hold is a step to the next pc
pub skips : (m : Machine) (i : Inst) → fetch m.text m.pc ≡ Some i → passes (condition_of i) m.flags ≡ false → Goes 1 m (jumped m (m.pc + 4))
skips m i h p = running.once step m (jumped m (m.pc + 4)) (steps_to m i h ∙ ap (λ b. cond b (execute i m) (None, jumped m (m.pc + 4))) p)

-- a stop changes nothing

load_stops : (o : Option ℕ) (m m' : Machine) (address rt : ℕ) (stop : Stop) → on_load m address o rt ≡ (Some stop, m') → m' ≡ m
load_stops None m m' address rt stop h = halts m m' (Fault address) stop _ refl h
load_stops (Some n) m m' address rt stop h = goes_on (with_reg m rt n) m m' stop _ refl h

store_stops : (o : Option (List ℕ × List ℕ)) (m m' : Machine) (address : ℕ) (stop : Stop) → on_store m address o ≡ (Some stop, m') → m' ≡ m
store_stops None m m' address stop h = halts m m' (Fault address) stop _ refl h
store_stops (Some w) m m' address stop h = goes_on (with_windows m w.0 w.1) m m' stop _ refl h

execute_stops : (i : Inst) (m m' : Machine) (stop : Stop) → execute i m ≡ (Some stop, m') → m' ≡ m
execute_stops (Data c op rd rn o) m m' stop h = goes_on _ m m' stop _ refl h
execute_stops (Move c op rd o) m m' stop h = goes_on _ m m' stop _ refl h
execute_stops (Test c op rn o) m m' stop h = goes_on _ m m' stop _ refl h
execute_stops (Movw c rd imm16) m m' stop h = goes_on _ m m' stop _ refl h
execute_stops (Movt c rd imm16) m m' stop h = goes_on _ m m' stop _ refl h
execute_stops (Mul c rd rn rm) m m' stop h = goes_on _ m m' stop _ refl h
execute_stops (Mls c rd rn rm ra) m m' stop h = goes_on _ m m' stop _ refl h
execute_stops (Umull c rd_lo rd_hi rn rm) m m' stop h = goes_on _ m m' stop _ refl h
execute_stops (Smull c rd_lo rd_hi rn rm) m m' stop h = goes_on _ m m' stop _ refl h
execute_stops (Sdiv c rd rn rm) m m' stop h = goes_on _ m m' stop _ refl h
execute_stops (Udiv c rd rn rm) m m' stop h = goes_on _ m m' stop _ refl h
execute_stops (Clz c rd rm) m m' stop h = goes_on _ m m' stop _ refl h
execute_stops (Rbit c rd rm) m m' stop h = goes_on _ m m' stop _ refl h
execute_stops (Sxtb c rd rm) m m' stop h = goes_on _ m m' stop _ refl h
execute_stops (Sxth c rd rm) m m' stop h = goes_on _ m m' stop _ refl h
execute_stops (Uxtb c rd rm) m m' stop h = goes_on _ m m' stop _ refl h
execute_stops (Uxth c rd rm) m m' stop h = goes_on _ m m' stop _ refl h
execute_stops (Ldr c rt rn imm12) m m' stop h = let a = plus (reg m.regs rn) (pos imm12) in load_stops (load m 4 a) m m' a rt stop h
execute_stops (Str c rt rn imm12) m m' stop h = let a = plus (reg m.regs rn) (pos imm12) in store_stops (store m 4 a (reg m.regs rt)) m m' a stop h
execute_stops (Ldrb c rt rn imm12) m m' stop h = let a = plus (reg m.regs rn) (pos imm12) in load_stops (load m 1 a) m m' a rt stop h
execute_stops (Strb c rt rn imm12) m m' stop h = let a = plus (reg m.regs rn) (pos imm12) in store_stops (store m 1 a (reg m.regs rt)) m m' a stop h
execute_stops (Ldrh c rt rn imm8) m m' stop h = let a = plus (reg m.regs rn) (pos imm8) in load_stops (load m 2 a) m m' a rt stop h
execute_stops (Strh c rt rn imm8) m m' stop h = let a = plus (reg m.regs rn) (pos imm8) in store_stops (store m 2 a (reg m.regs rt)) m m' a stop h
execute_stops (B c imm24) m m' stop h = goes_on _ m m' stop _ refl h
execute_stops (Bl c imm24) m m' stop h = goes_on _ m m' stop _ refl h
execute_stops (Bx c rm) m m' stop h = goes_on _ m m' stop _ refl h
execute_stops (Udf imm16) m m' stop h = halts m m' _ stop _ refl h

chosen : {A : Type 0} (b : Bool) (x y z : A) → cond b x y ≡ z → (x ≡ z) ⊎ (y ≡ z)
chosen true x y z h = inl h
chosen false x y z h = inr h

act_stops : (i : Inst) (m m' : Machine) (stop : Stop) → act i m ≡ (Some stop, m') → m' ≡ m
act_stops i m m' stop h =
    elim (chosen (passes (condition_of i) m.flags) (execute i m) (None, jumped m (m.pc + 4)) (Some stop, m') h) [
      | inl p ↦ execute_stops i m m' stop p
      | inr p ↦ goes_on _ m m' stop _ refl p
    ]

step_on : (o : Option Inst) (m m' : Machine) (stop : Stop) → act_if o m ≡ (Some stop, m') → m' ≡ m
step_on None m m' stop h = halts m m' (Fault m.pc) stop _ refl h
step_on (Some i) m m' stop h = act_stops i m m' stop h

pub step_stops : (m m' : Machine) (stop : Stop) → step m ≡ (Some stop, m') → m' ≡ m
step_stops m m' stop h =
    elim (chosen (m.pc == halt) (Some Returned, m) (act_if (fetch m.text m.pc) m) (Some stop, m') h) [
      | inl p ↦ halts m m' Returned stop _ refl p
      | inr p ↦ step_on (fetch m.text m.pc) m m' stop p
    ]

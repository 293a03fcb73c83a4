-- How the machine goes on: runs in sequence, code in the text, and what each instruction does.
use Rattle.std.proofs.Common.{◌≡◌, ℕ, suc, ◌+◌, ◌*◌, ◌<◌, ◌≤◌, ◌≢◌, List, [], ◌∷◌, ◌++◌, length, drop, ap, ◌∙◌, refl, arith, Option, Some, None, true, cond, inl, inr}
use Rattle.std.specs.Prelude.{slice_index, slice_index_or, slice_set, map, ◌==◌, nat_le, ◌&&◌}
use Rattle.std.proofs.lemmas.Bool.Decides.{nat_tests}
use Rattle.std.proofs.lemmas.List.{get_or-set_same, get_or-set_other}
use Rattle.bk_rv_isa.specs.declared.inst.Inst.{Inst}
use Rattle.bk_rv_isa.specs.declared.inst.Inst.TheVariants.{Op, OpImm, Shift, Addiw, Load, Store, Branch, Lui, Auipc, Jal, Jalr, Ebreak}
use Rattle.bk_machine.specs.declared.stop.Stop.{Stop}
use Rattle.bk_machine.specs.declared.stop.Stop.TheVariants.{Returned, Trapped, Fault}
pub use Rattle.bk_machine.proofs.Standing.{guard, apart}
use Rattle.bk_machine.proofs.Standing as standing
use Rattle.bk_machine.proofs.Running as running
use Rattle.bk_machine.proofs.Running.{goes_on, halts}
use Rattle.bk_rv_isa.specs.Encoding.{fits, word, decoding}
use Rattle.bk_rv_isa.proofs.Rows.{chosen}
use Rattle.bk_rv_isa.proofs.Words.{decode_word}
use Rattle.bk_rv_isa.specs.Machine.{Machine, text_base, halt, reg, plus, fetch, load, store, with_reg, with_windows, load_size, load_result, store_size, on_load, on_store, act, act_if, step, go_on, run, HasAt, Begins, Goes}

-- runs

-- the machine at the return address has returned
pub returned : (m : Machine) → m.pc ≡ halt → run 1 m ≡ (Some Returned, m)
returned m h = ap (λ p. go_on (cond (p == halt) (Some Returned, m) (act_if (fetch m.text m.pc) m)) (run 0)) h

-- code in the text

pub has_front : (a b : List Inst) (text : List ℕ) (pc : ℕ) → HasAt text pc (a ++ b) → HasAt text pc a
has_front a b text pc h = standing.has_front decoding a b text pc h

pub has_back : (a b : List Inst) (text : List ℕ) (pc : ℕ) → HasAt text pc (a ++ b) → HasAt text (pc + 4 * length a) b
has_back a b text pc h = standing.has_back decoding a b text pc h

pub has_words : (is : List Inst) (text words : List ℕ) (k : ℕ) → drop k text ≡ words → Begins words is → HasAt text (text_base + 4 * k) is
has_words is text words k e h = standing.has_words decoding is text words k e h

-- the words of instructions whose fields fit begin with these instructions
pub begins_words : (is : List Inst) (rest : List ℕ) → ((k : ℕ) → k < length is → fits (slice_index_or is k Ebreak) ≡ true) → Begins (map word is ++ rest) is
begins_words [] rest h = tt
begins_words (i ∷ is) rest h = (decode_word i (h 0 (omega arith)), begins_words is rest (λ k lt. h (suc k) (omega arith)))

-- registers

pub same_reg : (regs : List ℕ) (k v : ℕ) → k < length regs → slice_index (slice_set regs k v) k ≡ v
same_reg regs k v h = get_or-set_same regs k v 0 h

pub other_reg : (regs : List ℕ) (k j v : ℕ) → j ≢ k → slice_index (slice_set regs k v) j ≡ slice_index regs j
other_reg regs k j v h = get_or-set_other regs k j v 0 h

-- one instruction

pub steps_to : (m : Machine) (i : Inst) → fetch m.text m.pc ≡ Some i → step m ≡ act i m
steps_to m i h = ap (λ b. cond b (Some Returned, m) (act_if (fetch m.text m.pc) m)) (standing.not_halted decoding m.text m.pc i h) ∙ ap (λ o. act_if o m) h

pub one : (m : Machine) (i : Inst) → fetch m.text m.pc ≡ Some i → (k : ℕ) → run (suc k) m ≡ go_on (act i m) (run k)
one m i h k = ap (λ g. go_on g (run k)) (steps_to m i h)

-- an instruction that gives the next machine is a step to it
pub once : (m m' : Machine) (i : Inst) → fetch m.text m.pc ≡ Some i → act i m ≡ (None, m') → Goes 1 m m'
once m m' i h e = running.once step m m' (steps_to m i h ∙ e)

trap_test : (v : ℕ) → 1 ≤ v → v ≤ 6 → nat_le 1 v && nat_le v 6 ≡ true
trap_test v h k = grind (arith, nat_tests)

-- EBREAK traps with the number from 1 to 6 in x31
pub trap : (m : Machine) (n : ℕ) → fetch m.text m.pc ≡ Some Ebreak → reg m.regs 31 ≡ n → 1 ≤ n → n ≤ 6 → run 1 m ≡ (Some (Trapped n), m)
trap m n h e low high =
    one m Ebreak h 0
    ∙ ap (λ v. (Some (cond (nat_le 1 v && nat_le v 6) (Trapped v) (Fault m.pc)), m)) e
    ∙ ap (λ b. (Some (cond b (Trapped n) (Fault m.pc)), m)) (trap_test n low high)

-- a stop changes nothing

load_stops : (o : Option ℕ) (m m' : Machine) (address : ℕ) (after : ℕ → Machine) (stop : Stop) → on_load m address o after ≡ (Some stop, m') → m' ≡ m
load_stops None m m' address after stop h = halts m m' (Fault address) stop _ refl h
load_stops (Some n) m m' address after stop h = goes_on (after n) m m' stop _ refl h

store_stops : (o : Option (List ℕ × List ℕ)) (m m' : Machine) (address : ℕ) (stop : Stop) → on_store m address o ≡ (Some stop, m') → m' ≡ m
store_stops None m m' address stop h = halts m m' (Fault address) stop _ refl h
store_stops (Some w) m m' address stop h = goes_on (with_windows m w.0 w.1) m m' stop _ refl h

pub act_stops : (i : Inst) (m m' : Machine) (stop : Stop) → act i m ≡ (Some stop, m') → m' ≡ m
act_stops (Op o rd a b) m m' stop h = goes_on _ m m' stop _ refl h
act_stops (OpImm o rd a z) m m' stop h = goes_on _ m m' stop _ refl h
act_stops (Shift o rd a c) m m' stop h = goes_on _ m m' stop _ refl h
act_stops (Addiw rd a z) m m' stop h = goes_on _ m m' stop _ refl h
act_stops (Load o rd a z) m m' stop h = load_stops (load m (load_size o) (plus (reg m.regs a) z)) m m' (plus (reg m.regs a) z) (λ n. with_reg m rd (load_result o n)) stop h
act_stops (Store o src a z) m m' stop h = store_stops (store m (store_size o) (plus (reg m.regs a) z) (reg m.regs src)) m m' (plus (reg m.regs a) z) stop h
act_stops (Branch o a b z) m m' stop h = goes_on _ m m' stop _ refl h
act_stops (Lui rd z) m m' stop h = goes_on _ m m' stop _ refl h
act_stops (Auipc rd z) m m' stop h = goes_on _ m m' stop _ refl h
act_stops (Jal rd z) m m' stop h = goes_on _ m m' stop _ refl h
act_stops (Jalr rd a z) m m' stop h = goes_on _ m m' stop _ refl h
act_stops Ebreak m m' stop h = halts m m' _ stop _ refl h

step_on : (o : Option Inst) (m m' : Machine) (stop : Stop) → act_if o m ≡ (Some stop, m') → m' ≡ m
step_on None m m' stop h = halts m m' (Fault m.pc) stop _ refl h
step_on (Some i) m m' stop h = act_stops i m m' stop h

pub step_stops : (m m' : Machine) (stop : Stop) → step m ≡ (Some stop, m') → m' ≡ m
step_stops m m' stop h =
    elim (chosen (m.pc == halt) (Some Returned, m) (act_if (fetch m.text m.pc) m) (Some stop, m') h) [
      | inl p ↦ halts m m' Returned stop _ refl p.1
      | inr p ↦ step_on (fetch m.text m.pc) m m' stop p.1
    ]

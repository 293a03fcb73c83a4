-- A block as a whole keeps what registers and slots hold.
use Rattle.std.proofs.Common.{◌≡◌, ℕ, ◌+◌, ◌≤◌, refl, sym, ◌∙◌, subst, arith, List, [], ◌∷◌, ◌++◌, length, Option, Some, Bool, true, false, cond, append_assoc}
use Rattle.std.specs.List.{Contains, fold}
use Rattle.std.proofs.lemmas.List.{append-nil, length-map, length-set}
use Rattle.bk_alloc.specs.Registers.{Registers, Uses, register_of, holds, least_open, freed, while_used}
use Rattle.bk_alloc.specs.Tasks.{TaskRecord, acts_of_tasks, after_role, after_task, after_tasks, loads}
use Rattle.bk_alloc.specs.Blocks.{PlanRecord, begun, behind, block_acts, controls, last_map, phis_of, with_phi}
use Rattle.bk_alloc_laws.specs.Holding.{AreFresh, AreHomed, AreKnown, Holds, Stands, State, StillThere, World, after_acts, all_known, stored}
use Rattle.bk_alloc_laws.specs.Whole.{phi_stored, phis_gained}
use Rattle.bk_alloc_laws.proofs.Holding.{after_more, homed_left, homed_right, length-role, loads_hold, register_has, store_holds}
use Rattle.bk_alloc_laws.proofs.Finds.{tasks_hold}

phi_by : (w : World) (rs : Registers) (known : List ℕ) (s : State) (v : ℕ) → Holds w rs known s → length rs ≤ 32 → (b : Bool) → holds rs v ≡ b
    → Holds w rs (known ++ cond b (v ∷ []) []) (cond b (stored w v (register_of rs v) s) s)
phi_by w rs known s v h few true e = store_holds w rs known s (register_of rs v) v h few (h.registers (register_of rs v) v (register_has rs v e))
phi_by w rs known s v h few false e = let P : List ℕ → Type 0 = λ xs. Holds w rs xs s in subst P (sym (append-nil known)) h

pub phis_hold : (w : World) (rs : Registers) (known vs : List ℕ) (s : State) → Holds w rs known s → length rs ≤ 32 → Holds w rs (known ++ phis_gained rs vs) (phi_stored w rs vs s)
unfolding phi_stored phis_gained
phis_hold w rs known [] s h few = let P : List ℕ → Type 0 = λ xs. Holds w rs xs s in subst P (sym (append-nil known)) h
phis_hold w rs known (v ∷ vs) s h few =
    let x = phi_by w rs known s v h few (holds rs v) refl in
    let t : State = cond (holds rs v) (stored w v (register_of rs v) s) s in
    let P : List ℕ → Type 0 = λ xs. Holds w rs xs (phi_stored w rs vs t) in
    subst P (append_assoc known (cond (holds rs v) (v ∷ []) []) (phis_gained rs vs)) (phis_hold w rs (known ++ cond (holds rs v) (v ∷ []) []) vs t x few)

length-phis : (vs : List ℕ) (rs : Registers) → length (fold with_phi rs vs) ≡ length rs
length-phis [] rs = refl
length-phis (v ∷ vs) rs = length-phis vs (with_phi rs v) ∙ length-set rs (least_open rs) (Some v)

pub length-begun : (n : Uses) (vs : List ℕ) (rs : Registers) → length (begun n vs rs) ≡ length rs
length-begun n vs rs = length-phis vs (freed n rs) ∙ length-map rs (while_used n)

pub length-tasks : (next : ℕ → Uses) (k : ℕ) (ts : List TaskRecord) (rs : Registers) → length (after_tasks next k ts rs) ≡ length rs
unfolding after_tasks after_task
length-tasks next k [] rs = refl
length-tasks next k (t ∷ ts) rs = length-tasks next (k + 1) ts (after_role t.role (next (k + 1)) t rs) ∙ length-role (next (k + 1)) t rs t.role

-- where registers and slots hold the numbers that the first map and the homes say, they hold at the end those that the last map
-- and the homes say
pub block_holds : (w : World) (next : ℕ → Uses) (b : PlanRecord) (first : Registers) (o : Option (ℕ → ℕ)) (known : List ℕ) (s : State)
    → Holds w first known s
    → StillThere o (phi_stored w first (phis_of b) s)
    → Stands first (known ++ phis_gained first (phis_of b))
    → length first ≤ 32
    → AreKnown w next b.skipped o (known ++ phis_gained first (phis_of b)) b.tasks
    → AreFresh (length first) (known ++ phis_gained first (phis_of b)) b.tasks
    → ((c : ℕ) → Contains (controls b.control) c → Contains (all_known (known ++ phis_gained first (phis_of b)) b.tasks) c)
    → AreHomed w (block_acts next b first)
    → Holds w (last_map next b first) (all_known (known ++ phis_gained first (phis_of b)) b.tasks)
    (after_acts w (block_acts next b first) (phi_stored w first (phis_of b) s))
block_holds w next b first o known s h i j few a g c d =
    let gained = known ++ phis_gained first (phis_of b) in
    let t = phi_stored w first (phis_of b) s in
    let cs = controls b.control in
    let acts = acts_of_tasks next b.skipped b.tasks first in
    let rest = loads (next b.size) cs cs (behind next b first) in
    let f : length (behind next b first) ≤ 32 = omega (arith, length-tasks next b.skipped b.tasks first) in
    let p = phis_hold w first known (phis_of b) s h few in
    let x = tasks_hold w next b.skipped o b.tasks first gained t p i j few a g (homed_left w acts rest d) in
    let P : State → Type 0 = Holds w (last_map next b first) (all_known gained b.tasks) in
    subst P (sym (after_more w acts rest t)) (loads_hold w (next b.size) cs cs (behind next b first) (all_known gained b.tasks) (after_acts w acts t) x f c (homed_right w acts rest d))

-- numbers of values that are not known may change
pub holds_as : (w z : World) (rs : Registers) (known : List ℕ) (s : State) → Holds w rs known s → Stands rs known → ((v : ℕ) → z.home v ≡ true → w.home v ≡ true)
    → ((v : ℕ) → Contains known v → w.number v ≡ z.number v) → Holds z rs known s
holds_as w z rs known s h j f e = record {
  registers = λ r v g. h.registers r v g ∙ e v (j.every r v g);
  slots = λ v k g. h.slots v k (f v g) ∙ e v k;
}

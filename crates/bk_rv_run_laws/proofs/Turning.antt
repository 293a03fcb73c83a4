-- How a block is left.
use Rattle.std.proofs.Common.{◌≡◌, ℕ, suc, ◌+◌, ◌%◌, ◌<◌, ◌≤◌, List, [], ◌∷◌, ap, ◌∙◌, sym, subst, arith, Option, Some, Bool, true, false, cond, not, inl, inr, ◌⊎◌}
use Rattle.std.specs.Prelude.{slice_get, slice_index, ◌==◌}
use Rattle.bk_func.specs.declared.parts.Kind.TheVariants.{If}
use Rattle.bk_func.specs.Records.{BlockRecord, FuncRecord}
use Rattle.bk_func.specs.Numbers.{Program}
use Rattle.bk_func.specs.Meaning.{World, Activation, Entries, edge_place, onto, is_taken, left_by}
use Rattle.bk_rv_isa.specs.Machine.{Machine, reg}
use Rattle.bk_rv_emit_laws.specs.Jumps.{address}
use Rattle.bk_rv_emit_laws.specs.Ends.{Comes, AreLow}
use Rattle.bk_rv_emit_laws.proofs.Coming.{jump_comes, branch_comes}
use Rattle.bk_rv_emit_laws.proofs.Effects.{trap_does}
use Rattle.bk_run_laws.specs.Follows.{Follows}
use Rattle.bk_run_laws.specs.Standing.{EntryLaw}
use Rattle.bk_rv_run_laws.specs.Relation.{Image, Call, IsBack, riscv64, standing}
use Rattle.bk_rv_run_laws.specs.Left.{IsWanted, JumpFollows, BranchFollows, ExitFollows}
use Rattle.bk_rv_run_laws.proofs.Crossing.{edges_follow}

-- onto a successor
onto_follows : (x : Image) (p : Program) (enter : Entries) (k : ℕ) → EntryLaw riscv64 (standing x p) enter k p →
    (i : ℕ) (f : FuncRecord) (b : BlockRecord) (index : ℕ) (a : Activation) (from : ℕ) (next : Option ℕ) (call : Call) (window : List ℕ) (left : ℕ) (m : Machine) →
    slice_get p.pkg.funcs i ≡ Some f → left ≤ k → (x.shape i).place from < x.blocks →
    ((id : ℕ) → next ≡ Some id → (x.shape i).place id ≡ (x.shape i).place from + 1) →
    Comes m ((x.shape i).address (slice_index b.succs index)) (next ≡ Some (slice_index b.succs index)) → IsWanted x p i f b index a window left call m →
    Follows riscv64 (List ℕ) x.blocks ((x.shape i).place from) (record { window = window; left = suc left }) m
    (IsBack (x.shape i).args (x.shape i).words call.home (call.sp + (x.shape i).frame.bytes) m)
    (onto enter i f b index a (record { window = window; left = left }))
onto_follows x p enter k law i f b index a from next call window left m ef l low near comes h =
    let id = slice_index b.succs index in
    let w : World = record { window = window; left = suc left } in
    let v : World = record { window = window; left = left } in
    let r = edges_follow x p enter k law i f h.block a (edge_place b index (Some h.block)) from id next call window left m ef h.is l low (near id) comes h.inside in
    subst (λ o. Follows riscv64 (List ℕ) x.blocks ((x.shape i).place from) w m (IsBack (x.shape i).args (x.shape i).words call.home (call.sp + (x.shape i).frame.bytes) m)
    (enter i a id (edge_place b index o) v)) (sym h.is) r

come_to : (m : Machine) (to goal : ℕ) (A B : Type 0) → to ≡ goal → (A → B) → Comes m to A → Comes m goal B
come_to m to goal A B e h c = record { after = c.after; path = c.path; pc = c.pc ∙ e; some = other c.some }
  where
    other : (1 ≤ c.path.steps) ⊎ A → (1 ≤ c.path.steps) ⊎ B
    other (inl q) = inl q
    other (inr q) = inr (h q)

pub jump_follows : JumpFollows
jump_follows x p enter k law i f b a target from start at g ws next call window left m ef l es e h =
    let low = e.low in
    let q : AreLow g start at = (let y = low.0 in omega (arith, y), low.1) in
    let c = jump_comes target start at next g ws m e.well q e.pc e.reach e.stands e.behind in
    let t : target ≡ slice_index b.succs 0 = sym (ap (λ l. slice_index l 0) es) in
    onto_follows x p enter k law i f b 0 a from next call window left m ef l e.place e.following
    (come_to m (address (start + g target)) ((x.shape i).address (slice_index b.succs 0)) (next ≡ Some target) (next ≡ Some (slice_index b.succs 0))
    (sym (e.blocks target) ∙ ap (x.shape i).address t) (λ y. y ∙ ap Some t) c) h

-- by the control's low bit
by_bit : (t : Bool) (x : Image) (p : Program) (enter : Entries) (i : ℕ) (f : FuncRecord) (b : BlockRecord) (a : Activation) (from : ℕ) (call : Call) (w v : World) (m : Machine) → is_taken p f a b.control ≡ not t →
    Follows riscv64 (List ℕ) x.blocks ((x.shape i).place from) w m (IsBack (x.shape i).args (x.shape i).words call.home (call.sp + (x.shape i).frame.bytes) m) (onto enter i f b (cond t 1 0) a v) →
    Follows riscv64 (List ℕ) x.blocks ((x.shape i).place from) w m (IsBack (x.shape i).args (x.shape i).words call.home (call.sp + (x.shape i).frame.bytes) m) (left_by If enter p i f b a v)
by_bit true x p enter i f b a from call w v m e r =
    subst (λ c. Follows riscv64 (List ℕ) x.blocks ((x.shape i).place from) w m (IsBack (x.shape i).args (x.shape i).words call.home (call.sp + (x.shape i).frame.bytes) m) (cond c (onto enter i f b 0 a v) (onto enter i f b 1 a v))) (sym e) r
by_bit false x p enter i f b a from call w v m e r =
    subst (λ c. Follows riscv64 (List ℕ) x.blocks ((x.shape i).place from) w m (IsBack (x.shape i).args (x.shape i).words call.home (call.sp + (x.shape i).frame.bytes) m) (cond c (onto enter i f b 0 a v) (onto enter i f b 1 a v))) (sym e) r

picked : (t : Bool) (first second : ℕ) (l : List ℕ) → l ≡ first ∷ second ∷ [] → cond t second first ≡ slice_index l (cond t 1 0)
picked true first second l e = sym (ap (λ x. slice_index x 1) e)
picked false first second l e = sym (ap (λ x. slice_index x 0) e)

wanted : (t : Bool) (x : Image) (p : Program) (i : ℕ) (f : FuncRecord) (b : BlockRecord) (a : Activation) (window : List ℕ) (left : ℕ) (call : Call) (m : Machine) →
    IsWanted x p i f b 0 a window left call m → IsWanted x p i f b 1 a window left call m → IsWanted x p i f b (cond t 1 0) a window left call m
wanted true x p i f b a window left call m h k = k
wanted false x p i f b a window left call m h k = h

pub branch_follows : BranchFollows
branch_follows x p enter k law i f b a value control first second from start at g ws next call window left m ef l es ec lt en e h h2 =
    let w : World = record { window = window; left = suc left } in
    let v : World = record { window = window; left = left } in
    let t : Bool = reg m.regs control % 2 == 0 in
    let c = branch_comes control first second start at next g ws m e.well lt e.low e.pc e.reach e.stands e.behind in
    let id = slice_index b.succs (cond t 1 0) in
    let q : cond t second first ≡ id = picked t first second b.succs es in
    let z = come_to m (address (start + g (cond t second first))) ((x.shape i).address id) ⊥ (next ≡ Some id) (sym (e.blocks (cond t second first)) ∙ ap (x.shape i).address q) (λ y. absurd y) c in
    let taken : is_taken p f a b.control ≡ not t = ap (is_taken p f a) ec ∙ ap (λ n. not (n % 2 == 0)) (sym en) in
    by_bit t x p enter i f b a from call w v m taken
    (onto_follows x p enter k law i f b (cond t 1 0) a from next call window left m ef l e.place e.following z (wanted t x p i f b a window left call m h h2))

pub exit_follows : ExitFollows
exit_follows x p enter i f b a blocks from call window left m w e h =
    let r = trap_does 6 m (omega arith) (omega arith) w h in
    record { steps = r.steps; after = r.after; stops = r.stops; window = r.window ∙ e }

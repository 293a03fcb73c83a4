-- A function of few live values loads nothing.
use Rattle.std.proofs.Common.{◌≡◌, ◌∙◌, sym, ap, subst, ℕ, List, [], ◌++◌, length}
use Rattle.std.specs.List.{AllByRecursion, Contains}
use Rattle.bk_ops.specs.declared.types.Target.{Target}
use Rattle.bk_func.specs.Records.{FuncRecord, PackageRecord, PlacedRecord}
use Rattle.bk_func.specs.Form.Text.{HasBlock}
use Rattle.bk_graph.specs.Joined.{IsJoined}
use Rattle.bk_graph.specs.Layout.{layout_of}
use Rattle.bk_live.specs.Live.{AllNextUses, IsOrdered, order_at}
use Rattle.bk_live.proofs.Alone.{contains_at}
use Rattle.bk_alloc.specs.Blocks.{Next, PlanRecord}
use Rattle.bk_alloc.specs.Placement.{IsPlacement, allotted, is_word, laid_out, registers_of}
use Rattle.bk_alloc.specs.Placing.{values_in_slots}
use Rattle.bk_alloc_quality.specs.Pressure.{IsFlow}
use Rattle.bk_alloc_quality.specs.Flows.{AreFlows, IsBrought, UsesNoSlot}
use Rattle.bk_alloc_quality.proofs.Homeless.{no_slots}
use Rattle.bk_alloc_quality.proofs.Whole.{no_values_in_slots, steps_use_none}
use Rattle.bk_alloc_whole.specs.Whole.{AreScheduled, HasFewLive, IsLoweredLeaf, words_of}
use Rattle.bk_alloc_whole.proofs.Beginning.{flows, plan_with}
use Rattle.bk_alloc_whole.proofs.Edging.{edge_brings}
use Rattle.bk_alloc_whole.proofs.Laying.{any_eq, eq_any, laid}
use Rattle.bk_alloc_whole.proofs.Leading.{led}
use Rattle.bk_alloc_whole.proofs.Planning.{Comes, comes}

pub are_flows : (t : Target) (f : FuncRecord) (os : List (List ℕ)) (next : Next) → IsLoweredLeaf t f → IsOrdered f os → IsJoined f → AreScheduled f os → AllNextUses f os next
    → AreFlows (length (registers_of t)) (words_of f) next (laid_out f.blocks (layout_of f) os)
are_flows t f os next free o g sc a =
    let l = laid f os o g in
    let ns = layout_of f in
    let from : (p : PlanRecord) → Contains (laid_out f.blocks ns os) p → Comes f os next ns p = comes f os next o g sc a ns l in
    record {
      flow = λ p c.
          let x = from p c in
          subst (λ (q : PlanRecord). IsFlow (words_of f) (next q.id) q) x.is (flows t f os next x.i x.b x.block.ps x.block.ts free x.block.lies);
      edge = λ p q c d s.
          let x = from p c in
          let y = from q d in
          let succs : x.b.succs ≡ p.succs = ap (λ (r : PlanRecord). r.succs) x.is in
          let id : y.b.id ≡ q.id = ap (λ (r : PlanRecord). r.id) y.is in
          let succ : Contains x.b.succs y.b.id = subst (λ (n : ℕ). Contains x.b.succs n) (sym id) (subst (λ (ss : List ℕ). Contains ss q.id) (sym succs) s) in
          let e = edge_brings t f os next free g x.i y.i x.b y.b x.block.ps x.block.ts y.block.ps y.block.ts x.block.lies y.block.lies succ in
          subst (λ (r : PlanRecord). IsBrought (words_of f) next r q) x.is (subst (λ (r : PlanRecord). IsBrought (words_of f) next (plan_with (is_word f.blocks) x.b (order_at os x.i) (x.block.ps ++ x.block.ts)) r) y.is e);
      agree = λ p q c d s.
          let x = from p c in
          let y = from q d in
          let preds : y.b.preds ≡ q.preds = ap (λ (r : PlanRecord). r.preds) y.is in
          let succs : x.b.succs ≡ p.succs = ap (λ (r : PlanRecord). r.succs) x.is in
          let one : x.b.id ≡ p.id = ap (λ (r : PlanRecord). r.id) x.is in
          let two : y.b.id ≡ q.id = ap (λ (r : PlanRecord). r.id) y.is in
          let pred : Contains y.b.preds x.b.id = subst (λ (n : ℕ). Contains y.b.preds n) (sym one) (subst (λ (ms : List ℕ). Contains ms p.id) (sym preds) s) in
          let hx : HasBlock f x.b = contains_at f.blocks x.i x.b x.at in
          let hy : HasBlock f y.b = contains_at f.blocks y.i y.b y.at in
          let succ : Contains x.b.succs y.b.id = any_eq x.b.succs y.b.id (sym (g.agree x.b y.b hx hy) ∙ eq_any y.b.preds x.b.id pred) in
          subst (λ (n : ℕ). Contains p.succs n) two (subst (λ (ss : List ℕ). Contains ss y.b.id) succs succ);
      led = led t f os next free o g sc a ns l;
    }

pub record UsesNoSlots (r : PlacedRecord) : Type 0 where
  pub steps : AllByRecursion (λ b. AllByRecursion UsesNoSlot b.steps) r.blocks
  pub slots : r.slots ≡ 0

pub uses_none : (t : Target) (pkg : PackageRecord) (f : FuncRecord) (os : List (List ℕ)) (next : Next) (r : PlacedRecord) → IsOrdered f os → IsJoined f → AreScheduled f os → AllNextUses f os next → IsLoweredLeaf t f
    → HasFewLive t next f os → IsPlacement next t pkg f (layout_of f) os r → UsesNoSlots r
uses_none t pkg f os next r o g sc a free few place =
    let ps = allotted next t f (layout_of f) os in
    let none : values_in_slots ps ≡ [] = no_values_in_slots (words_of f) next (length (registers_of t)) (laid_out f.blocks (layout_of f) os) (are_flows t f os next free o g sc a) few in
    record {
      steps = steps_use_none t ps r.blocks r.slots place.placing none;
      slots = no_slots t ps r.blocks r.slots place.placing none;
    }

-- Each block begins behind a predecessor, but the entry, which begins with no value.
use Rattle.std.proofs.Common.{◌≡◌, ◌∙◌, sym, refl, ap, subst, ℕ, ◌<◌, ◌⊎◌, inl, inr, true, false, not, List, [], ◌∷◌, ◌++◌, length, map, replicate, get_or, Option, Some, None, arith, append_assoc}
use Rattle.std.specs.Prelude.{filter, count_by}
use Rattle.std.specs.List.{Contains, cons_option, filter_map}
use Rattle.std.proofs.lemmas.Bool.{and_from}
use Rattle.std.proofs.lemmas.List.{length-map, length-replicate}
use Rattle.std.proofs.lemmas.List.Elements.{Contains-append_left, Contains-push, filter_map-append}
use Rattle.std.proofs.lemmas.Option.{same_Some}
use Rattle.bk_ops.specs.Families.{is_nil_check, is_word_result}
use Rattle.bk_ops.specs.declared.family.Family.{Family}
use Rattle.bk_ops.specs.declared.family.Family.TheVariants as op
use Rattle.bk_ops.specs.declared.types.Target.{Target}
use Rattle.bk_func.specs.declared.form.FormKind.TheVariants.{Arity, Control, Ty as Typed}
use Rattle.bk_func.specs.Numbers.{natural}
use Rattle.bk_func.specs.Records.{ValueRecord, BlockRecord, FuncRecord}
use Rattle.bk_func.specs.Form.Parts.{HasArity}
use Rattle.bk_func.specs.Form.Signatures.{Setting}
use Rattle.bk_func.specs.Form.Text.{HasBlock, HasValue, IsEntry, IsPhi}
use Rattle.bk_func.specs.Form.Walks.{begin}
use Rattle.bk_func.proofs.Faults.{In, in-filter}
use Rattle.bk_graph.specs.Joined.{IsJoined}
use Rattle.bk_live.specs.Live.{AllNextUses, IsOrdered, order_at}
use Rattle.bk_live.proofs.Alone.{at_contains, contains_at}
use Rattle.bk_sched.specs.Schedule.{Scheduled}
use Rattle.bk_places.proofs.Elements.{in_right, in_left, to_contains, to_in}
use Rattle.bk_alloc.specs.Blocks.{Next, PlanRecord, begun, first_map, phis_of}
use Rattle.bk_alloc.specs.Placement.{has_word_of, is_phi_value, is_scheduled, is_word, laid_out, plan_of, planned, task_of}
use Rattle.bk_alloc.specs.Registers.{Registers, Uses, freed, is_open, while_used}
use Rattle.bk_alloc.specs.Tasks.{TaskRecord, passing}
use Rattle.bk_alloc_laws.proofs.Holding.{freed_at}
use Rattle.bk_alloc_quality.specs.Pressure.{AreApart, AreQuiet}
use Rattle.bk_alloc_quality.specs.Flows.{AreLed, IsCalmAs, IsFirst, IsNext}
use Rattle.bk_alloc_quality.proofs.Allotting.{nothing_held}
use Rattle.bk_alloc.specs.Placement.{registers_of}
use Rattle.bk_alloc_whole.specs.Whole.{AreScheduled, IsLoweredLeaf, TakesWord, words_of}
use Rattle.bk_alloc_whole.proofs.Beginning.{phi_in, plan_with, scheduled_rest}
use Rattle.bk_alloc_whole.proofs.Flowing.{apart_from, ids}
use Rattle.bk_alloc_whole.proofs.Laying.{Laid, any_eq, clear, eq_any, first, more}
use Rattle.bk_alloc_whole.proofs.Planning.{Block, block, planned_at}
use Rattle.bk_alloc_whole.proofs.Quieting.{AreTaken, calm_value, quiet_from, takes_word}
use Rattle.bk_alloc_whole.proofs.Taking.{IsBare, IsEarly, no_args, words_first}
use Rattle.bk_alloc_whole.proofs.Walking.{unpassed}
use Rattle.bk_alloc_whole.proofs.Words.{in_map, live_of, map_in}

-- tasks

pub tasks_calm : (t : Target) (f : FuncRecord) (os : List (List ℕ)) → IsLoweredLeaf t f → IsOrdered f os → (b : BlockRecord) → HasBlock f b → (zs : List ValueRecord) → ((z : ValueRecord) → In z zs → Contains b.values z)
    → ((v : ValueRecord) → HasValue f b v → ¬ TakesWord v) → (x : TaskRecord) → Contains (map (task_of (is_word f.blocks)) (filter is_scheduled zs)) x → IsCalmAs x x.role
tasks_calm t f os free o b hb zs inside none x c =
    let word = is_word f.blocks in
    let (u, iu, e) = map_in (task_of word) (filter is_scheduled zs) x (to_in x (map (task_of word) (filter is_scheduled zs)) c) in
    let hu : HasValue f b u = (hb, inside u (in-filter is_scheduled u zs iu).0) in
    subst (λ (y : TaskRecord). IsCalmAs y y.role) e (calm_value t f os free o word b u hu (none u hu))

-- the entry has no phis

phi_preds : (s : Setting) (f : FuncRecord) (b : BlockRecord) (z : ValueRecord) (g : Family) → HasArity s f b z g → g ≡ op.Phi → b.preds ≡ [] → ⊥
unfolding HasArity
phi_preds s f b z g h e none =
    let p = subst (λ (x : Family). HasArity s f b z x) e h in
    p.1 (no_length z.args (p.0 ∙ ap length none))
  where
    no_length : (xs : List ℕ) → length xs ≡ 0 → xs ≡ []
    no_length [] e = refl
    no_length (x ∷ xs) e = absurd (omega (arith, e))

no_entry_phi : (f : FuncRecord) (os : List (List ℕ)) → IsOrdered f os → (b : BlockRecord) → IsEntry f b → (z : ValueRecord) → Contains b.values z → ¬ IsPhi z
no_entry_phi f os o b e z hz p =
    let hb : HasBlock f b = contains_at f.blocks 0 b e in
    phi_preds o.setting f b z z.op.family ((o.formed.kinds Arity b hb).value z hz) p ((o.formed.kinds Control b hb).block.entry e)

-- words that are taken in the entry

apart_at : (pre : List ValueRecord) (v : ValueRecord) (post : List ValueRecord) (u : ValueRecord) → AreApart (ids (pre ++ v ∷ post)) → In u post → v.id ≡ u.id → ⊥
apart_at [] v post u a i e = a.0 (to_contains v.id (ids post) (subst (λ (n : ℕ). In n (ids post)) (sym e) (in_map (λ (x : ValueRecord). x.id) post u i)))
apart_at (p ∷ pre) v post u a i e = apart_at pre v post u a.1 i e

early_takes : (v : ValueRecord) → ¬ IsPhi v → is_word_result v.op.family ≡ false → IsEarly v.op.family → TakesWord v
early_takes v n r (inl p) = absurd (n p)
early_takes v n r (inr (inl e)) = e
early_takes v n r (inr (inr e)) = absurd (let q : true ≡ false = sym (ap is_word_result e) ∙ r in cc)

mid_in : (pre : List ValueRecord) (v : ValueRecord) (post : List ValueRecord) → In v (pre ++ v ∷ post)
mid_in pre v post = in_right v pre (v ∷ post) (inl refl)

pub taken : (t : Target) (f : FuncRecord) (os : List (List ℕ)) (next : Next) → IsLoweredLeaf t f → IsOrdered f os → (b : BlockRecord) → IsEntry f b → (zs : List ValueRecord) → ((z : ValueRecord) → In z zs → Contains b.values z)
    → Scheduled b b.values zs → AreApart (ids zs) → (rs : Registers) → length rs ≡ length (registers_of t) → ((q : ℕ) → is_open (get_or rs q None) ≡ true) → AreTaken (is_word f.blocks) zs rs
taken t f os next free o b e zs inside sch apart rs size opened =
    let hb : HasBlock f b = contains_at f.blocks 0 b e in
    let s = o.setting in
    record {
      first = λ pre v post w u iu tu.
          let jv : In v zs = subst (λ (l : List ValueRecord). In v l) (sym w) (mid_in pre v post) in
          let ju : In u zs = subst (λ (l : List ValueRecord). In u l) (sym w) (in_right u pre (v ∷ post) (inr iu)) in
          let types = (o.formed.kinds Typed b hb).value u (inside u ju) in
          let bare : IsBare u = (tu, no_args s f b u ((o.formed.kinds Arity b hb).value u (inside u ju)) types.op tu, takes_word s f u types tu) in
          early_takes v (no_entry_phi f os o b e v (inside v jv)) (free.calls b v (hb, inside v jv)).1 (words_first b b.values zs sch pre v post w u iu bare);
      apart = λ pre v post w u iu tv tu same.
          let jv : In v zs = subst (λ (l : List ValueRecord). In v l) (sym w) (mid_in pre v post) in
          let ju : In u zs = subst (λ (l : List ValueRecord). In u l) (sym w) (in_right u pre (v ∷ post) (inr iu)) in
          apart_at pre v post u (subst (λ (l : List ValueRecord). AreApart (ids l)) w apart) iu (free.once b b v u (hb, inside v jv) (hb, inside u ju) tv tu same);
      at = λ u iu tu. (subst (λ (m : ℕ). passing (natural u.int) < m) (sym size) (free.few b u (hb, inside u iu) tu), opened (passing (natural u.int)));
      gives = λ u iu tu.
          let types = (o.formed.kinds Typed b hb).value u (inside u iu) in
          and_from (has_word_of u.ty) (not (is_nil_check u.op.family)) (takes_word s f u types tu) (ap (λ (g : Family). not (is_nil_check g)) tu);
      calm = λ u iu n. calm_value t f os free o (is_word f.blocks) b u (hb, inside u iu) n;
    }

-- the registers with which it begins

is_open_by : (o : Option ℕ) → ((u : ℕ) → o ≡ Some u → ⊥) → is_open o ≡ true
is_open_by None h = refl
is_open_by (Some u) h = absurd (h u refl)

all_open : (n : Uses) (count q : ℕ) → is_open (get_or (freed n (replicate count None)) q None) ≡ true
all_open n count q = is_open_by (get_or (freed n (replicate count None)) q None) (λ u e. nothing_held count q u (freed_at n (replicate count None) q u e))

nothing_there : (xs : List ℕ) → ((v : ℕ) → Contains xs v → ⊥) → xs ≡ []
nothing_there [] h = refl
nothing_there (x ∷ xs) h = absurd (h x (0, omega arith, refl))

empty_phis : (ps : List ValueRecord) → ((z : ValueRecord) → In z ps → ⊥) → ps ≡ []
empty_phis [] h = refl
empty_phis (p ∷ ps) h = absurd (h p (inl refl))

no_member : (n : ℕ) → Contains {X = ℕ} [] n → ⊥
no_member n (k, l, e) = omega (arith, l)

no_block : (c : BlockRecord) → Contains {X = BlockRecord} [] c → ⊥
no_block c (k, l, e) = omega (arith, l)

-- the entry

pub entry_first : (t : Target) (f : FuncRecord) (os : List (List ℕ)) (next : Next) → IsLoweredLeaf t f → IsOrdered f os → AreScheduled f os → AllNextUses f os next → (b : BlockRecord) → IsEntry f b → (k : Block f os next 0 b)
    → IsFirst (length (registers_of t)) (words_of f) next [] (plan_with (is_word f.blocks) b (order_at os 0) (k.ps ++ k.ts))
entry_first t f os next free o sc a b e k =
    let word = is_word f.blocks in
    let zs = k.ps ++ k.ts in
    let count = length (registers_of t) in
    let p = plan_with word b (order_at os 0) zs in
    let none : k.ps ≡ [] = empty_phis k.ps (λ z i. no_entry_phi f os o b e z (k.lies.inside z (in_left z k.ps k.ts i)) (k.lies.phis z i)) in
    let whole : zs ≡ k.ts = ap (λ (l : List ValueRecord). l ++ k.ts) none in
    let rest : filter is_scheduled zs ≡ k.ts = scheduled_rest k.ps k.ts k.lies.phis k.lies.rest in
    let no_phis : phis_of p ≡ [] = nothing_there (phis_of p) (λ v c. (let q = phi_in zs v c in no_entry_phi f os o b e q.value (k.lies.inside q.value q.there) q.phi)) in
    let rs = freed (next b.id 0) (replicate count None) in
    let start : first_map next p (replicate count None) ≡ rs = ap (λ (l : List ℕ). begun (next b.id 0) l (replicate count None)) no_phis in
    let size : length rs ≡ count = length-map (replicate count None) (while_used (next b.id 0)) ∙ length-replicate count None in
    let apart : AreApart (ids k.ts) = subst (λ (l : List ValueRecord). AreApart (ids l)) whole (apart_from f os next 0 b k.ps k.ts [] zs k.lies refl) in
    let sch : Scheduled b b.values k.ts = subst (λ (l : List ValueRecord). Scheduled b b.values l) whole k.scheduled in
    let h = taken t f os next free o b e k.ts (λ z i. k.lies.inside z (in_right z k.ps k.ts i)) sch apart rs size (all_open (next b.id 0) count) in
    let q = quiet_from word (next b.id) (count_by is_phi_value zs) k.ts rs h in
    record {
      alone = λ c. no_member c.0 c.1;
      idle = λ v c u. unpassed f os 0 v b [] o sc e (begin b e) (λ w. no_block w.0 w.1) (live_of f os next a 0 0 v b e (omega arith) u);
      quiet = subst (λ (l : Registers). AreQuiet (next b.id) (count_by is_phi_value zs) (map (task_of word) (filter is_scheduled zs)) l) (sym start)
          (subst (λ (l : List ValueRecord). AreQuiet (next b.id) (count_by is_phi_value zs) (map (task_of word) l) rs) (sym rest) q);
    }

-- one more block behind the others

led_more : (count : ℕ) (words : List ℕ) (next : Next) (es : List ℕ) (bs : List PlanRecord) (b : PlanRecord) → AreLed count words next es bs
    → IsNext (es ++ map (λ (p : PlanRecord). p.id) bs) b ⊎ IsFirst count words next (es ++ map (λ (p : PlanRecord). p.id) bs) b → AreLed count words next es (bs ++ b ∷ [])
unfolding AreLed
led_more count words next es [] b h l = (subst (λ (ns : List ℕ). IsNext ns b ⊎ IsFirst count words next ns b) (none_more es) l, tt)
  where
    none_more : (ns : List ℕ) → ns ++ [] ≡ ns
    none_more [] = refl
    none_more (n ∷ ns) = ap (λ (l : List ℕ). n ∷ l) (none_more ns)
led_more count words next es (x ∷ xs) b h l = (
  h.0,
  led_more count words next (es ++ x.id ∷ []) xs b h.1
      (subst (λ (ns : List ℕ). IsNext ns b ⊎ IsFirst count words next ns b) (sym (append_assoc es (x.id ∷ []) (map (λ (p : PlanRecord). p.id) xs))) l),
)

one_planned : (h : ℕ → Option PlanRecord) (n : ℕ) (p : PlanRecord) → h n ≡ Some p → filter_map h (n ∷ []) ≡ p ∷ []
one_planned h n p e = rw e refl

in_planned : (h : ℕ → Option PlanRecord) (ns : List ℕ) (n : ℕ) (p : PlanRecord) → In n ns → h n ≡ Some p → In p (filter_map h ns)
in_planned h [] n p i e = elim i [ ]
in_planned h (m ∷ ns) n p (inl q) e = rw (ap h q ∙ e) (inl refl)
in_planned h (m ∷ ns) n p (inr i) e = go (h m) (in_planned h ns n p i e)
  where
    go : (o : Option PlanRecord) → In p (filter_map h ns) → In p (cons_option o (filter_map h ns))
    go None j = j
    go (Some x) j = inr j

pub entry_in : (f : FuncRecord) (ns : List ℕ) → Laid f ns → (b : BlockRecord) → IsEntry f b → Contains ns b.id
entry_in f _ (first d e) b q = (0, omega arith, ap (λ (x : BlockRecord). x.id) (same_Some d b (sym e ∙ q)))
entry_in f _ (more ns a d l ha hd ca s fresh) b q = Contains-append_left ns (d.id ∷ []) b.id (entry_in f ns l b q)

ids_have : (f : FuncRecord) (os : List (List ℕ)) → IsOrdered f os → IsJoined f → (ns : List ℕ) → (a : BlockRecord) → HasBlock f a → Contains ns a.id → Contains (map (λ (p : PlanRecord). p.id) (laid_out f.blocks ns os)) a.id
ids_have f os o g ns a ha c =
    let (i, at) = at_contains f.blocks a ha in
    let p = plan_of (is_word f.blocks) a (order_at os i) in
    let j : In p (laid_out f.blocks ns os) = in_planned (planned f.blocks os) ns a.id p (to_in a.id ns c) (planned_at f os o g i a at) in
    to_contains a.id (map (λ (q : PlanRecord). q.id) (laid_out f.blocks ns os)) (in_map (λ (q : PlanRecord). q.id) (laid_out f.blocks ns os) p j)

pub led : (t : Target) (f : FuncRecord) (os : List (List ℕ)) (next : Next) → IsLoweredLeaf t f → IsOrdered f os → IsJoined f → AreScheduled f os → AllNextUses f os next → (ns : List ℕ) → Laid f ns
    → AreLed (length (registers_of t)) (words_of f) next [] (laid_out f.blocks ns os)
unfolding AreLed
led t f os next free o g sc a _ (first b e) =
    let hb : HasBlock f b = contains_at f.blocks 0 b e in
    let k = block f os next o sc a 0 b e (b.id ∷ []) (clear f os o (b.id ∷ []) (first b e) b hb (0, omega arith, refl)) in
    let count = length (registers_of t) in
    let p = plan_of (is_word f.blocks) b (order_at os 0) in
    let here : IsFirst count (words_of f) next [] p = subst (λ (q : PlanRecord). IsFirst count (words_of f) next [] q) (sym k.plan) (entry_first t f os next free o sc a b e k) in
    subst (λ (l : List PlanRecord). AreLed count (words_of f) next [] l) (sym (one_planned (planned f.blocks os) b.id p (planned_at f os o g 0 b e))) (inr here, tt)
led t f os next free o g sc a _ (more ns d b l hd hb cd s fresh) =
    let (i, at) = at_contains f.blocks b hb in
    let all : Laid f (ns ++ b.id ∷ []) = more ns d b l hd hb cd s fresh in
    let k = block f os next o sc a i b at (ns ++ b.id ∷ []) (clear f os o (ns ++ b.id ∷ []) all b hb (Contains-push ns b.id)) in
    let count = length (registers_of t) in
    let p = plan_of (is_word f.blocks) b (order_at os i) in
    let plans = laid_out f.blocks ns os in
    let numbers = map (λ (q : PlanRecord). q.id) plans in
    let pred : Contains b.preds d.id = any_eq b.preds d.id (g.agree d b hd hb ∙ eq_any d.succs b.id s) in
    let none : (v : ValueRecord) → HasValue f b v → ¬ TakesWord v = λ v hv w. fresh (entry_in f ns l b (free.entry b v hv w)) in
    let calm : IsNext numbers (plan_with (is_word f.blocks) b (order_at os i) (k.ps ++ k.ts)) = record {
      led = (d.id, ids_have f os o g ns d hd cd, pred);
      calm = tasks_calm t f os free o b hb (k.ps ++ k.ts) k.lies.inside none;
    } in
    let here : IsNext numbers p = subst (λ (q : PlanRecord). IsNext numbers q) (sym k.plan) calm in
    let same : laid_out f.blocks (ns ++ b.id ∷ []) os ≡ plans ++ p ∷ [] = filter_map-append (planned f.blocks os) ns (b.id ∷ [])
    ∙ ap (λ (q : List PlanRecord). plans ++ q) (one_planned (planned f.blocks os) b.id p (planned_at f os o g i b at)) in
    subst (λ (q : List PlanRecord). AreLed count (words_of f) next [] q) (sym same) (led_more count (words_of f) next [] plans p (led t f os next free o g sc a ns l) (inl here))

-- The blocks of a layout as they are allocated.
use Rattle.std.proofs.Common.{◌≡◌, ◌∙◌, sym, refl, ap, subst, ℕ, ◌<◌, ◌==◌, inl, inr, ⊎_elim, Bool, true, false, List, [], ◌∷◌, ◌++◌, length, Option, Some, None, arith, eqb-true, eq-eqb, position}
use Rattle.std.specs.List.{Contains, cons_option, filter_map, find, slice_get}
use Rattle.std.specs.Option.{option_and_then}
use Rattle.std.proofs.lemmas.Option.{same_Some, slice_get-get_or, slice_get_within}
use Rattle.bk_func.specs.Numbers.{value_in}
use Rattle.bk_func.specs.Records.{ValueRecord, BlockRecord, FuncRecord}
use Rattle.bk_func.specs.Form.Text.{Defines, HasBlock, IsPhi}
use Rattle.bk_func.specs.Form.Walks.{Passes}
use Rattle.bk_func.proofs.Faults.{In}
use Rattle.bk_graph.specs.Joined.{IsJoined}
use Rattle.bk_graph.proofs.Laying.{place_sole}
use Rattle.bk_graph.proofs.Listed.{position-map}
use Rattle.bk_live.specs.Live.{AllNextUses, IsOrdered, order_at}
use Rattle.bk_live.proofs.Alone.{at_contains, contains_at}
use Rattle.bk_sched.specs.Schedule.{Scheduled}
use Rattle.bk_sched.proofs.Agreeing.{phis as phis_first}
use Rattle.bk_sched.proofs.Keeping.{in_scheduled}
use Rattle.bk_places.proofs.Elements.{in_either, to_contains, to_in}
use Rattle.bk_alloc.specs.Blocks.{Next, PlanRecord}
use Rattle.bk_alloc.specs.Placement.{is_phi_value, is_word, laid_out, ordered, plan_at, plan_by, plan_of, planned}
use Rattle.bk_alloc_quality.proofs.Allotting.{found_in, not_found}
use Rattle.bk_alloc_whole.specs.Whole.{AreScheduled}
use Rattle.bk_alloc_whole.proofs.Alone.{same}
use Rattle.bk_alloc_whole.proofs.Beginning.{is_phi_of, phi_is, plan_with}
use Rattle.bk_alloc_whole.proofs.Flowing.{Lies, ids}
use Rattle.bk_alloc_whole.proofs.Laying.{Clear, Laid, clear, find_true, first, more}
use Rattle.bk_alloc_whole.proofs.Walking.{unpassed}

-- phis and then other values

pub record Split (zs : List ValueRecord) : Type 0 where
  pub ps : List ValueRecord
  pub ts : List ValueRecord
  pub whole : zs ≡ ps ++ ts
  pub phis : (z : ValueRecord) → In z ps → IsPhi z
  pub rest : (z : ValueRecord) → In z ts → ¬ IsPhi z

split_by : (z : ValueRecord) (zs : List ValueRecord) → ((u : ValueRecord) → In u zs → IsPhi u → IsPhi z) → Split zs → (b : Bool) → is_phi_value z ≡ b → Split (z ∷ zs)
split_by z zs h r true e = record {
  ps = z ∷ r.ps;
  ts = r.ts;
  whole = ap (λ l. z ∷ l) r.whole;
  phis = λ u i. ⊎_elim (λ (q : z ≡ u). subst IsPhi q (phi_is z.op.family e)) (λ (j : In u r.ps). r.phis u j) i;
  rest = r.rest;
}
split_by z zs h r false e =
    let other : ¬ IsPhi z = λ p. (let t = is_phi_of z p in absurd cc) in
    record {
      ps = [];
      ts = z ∷ zs;
      whole = refl;
      phis = λ u i. elim i [ ];
      rest = λ u i p. ⊎_elim (λ (q : z ≡ u). other (subst IsPhi (sym q) p)) (λ (j : In u zs). other (h u j p)) i;
    }

pub split : (zs : List ValueRecord) → ((pre : List ValueRecord) (v : ValueRecord) (post : List ValueRecord) → zs ≡ pre ++ v ∷ post → (u : ValueRecord) → In u post → IsPhi u → IsPhi v) → Split zs
split [] h = record { ps = []; ts = []; whole = refl; phis = λ u i. elim i [ ]; rest = λ u i p. elim i [ ] }
split (z ∷ zs) h = split_by z zs (h [] z zs refl) (split zs (λ pre v post w. h (z ∷ pre) v post (ap (λ l. z ∷ l) w))) (is_phi_value z) refl

-- the values that an order names

value_own : (f : FuncRecord) (os : List (List ℕ)) → IsOrdered f os → (b : BlockRecord) → HasBlock f b → (z : ValueRecord) → Contains b.values z → value_in b.values z.id ≡ Some z
value_own f os o b hb z hz = go (find (λ (v : ValueRecord). v.id == z.id) b.values) refl
  where
    go : (q : Option ValueRecord) → find (λ (v : ValueRecord). v.id == z.id) b.values ≡ q → q ≡ Some z
    go None e = absurd (not_found (λ (v : ValueRecord). v.id == z.id) b.values z e hz (eq-eqb z.id z.id refl))
    go (Some y) e =
        ap Some (same f os o b b y z (hb, found_in (λ (v : ValueRecord). v.id == z.id) b.values y e) (hb, hz) (eqb-true y.id z.id (find_true (λ (v : ValueRecord). v.id == z.id) b.values y e))).values

cons_some : (h : ℕ → Option ValueRecord) (x : ℕ) (xs : List ℕ) (z : ValueRecord) (o : Option ValueRecord) → h x ≡ o → o ≡ Some z → filter_map h (x ∷ xs) ≡ z ∷ filter_map h xs
cons_some h x xs z o e f = rw (e ∙ f) refl

named_are : (f : FuncRecord) (os : List (List ℕ)) → IsOrdered f os → (b : BlockRecord) → HasBlock f b → (zs : List ValueRecord) → ((z : ValueRecord) → In z zs → Contains b.values z) → ordered b.values (ids zs) ≡ zs
named_are f os o b hb [] h = refl
named_are f os o b hb (z ∷ zs) h =
    cons_some (value_in b.values) z.id (ids zs) z (Some z) (value_own f os o b hb z (h z (inl refl))) refl ∙ ap (λ l. z ∷ l) (named_are f os o b hb zs (λ u i. h u (inr i)))

-- a block of the layout

pub record Block (f : FuncRecord) (os : List (List ℕ)) (next : Next) (i : ℕ) (b : BlockRecord) : Type 0 where
  pub ps : List ValueRecord
  pub ts : List ValueRecord
  pub lies : Lies f os next i b ps ts
  pub scheduled : Scheduled b b.values (ps ++ ts)
  pub plan : plan_of (is_word f.blocks) b (order_at os i) ≡ plan_with (is_word f.blocks) b (order_at os i) (ps ++ ts)

undefined : (f : FuncRecord) (os : List (List ℕ)) → IsOrdered f os → (ns : List ℕ) (b : BlockRecord) → HasBlock f b → (r : Clear f ns b) → (n : ℕ) → Defines b n → ¬ Passes r.before n
undefined f os o ns b hb r n (v, hv, ev) (c, ic, (u, hu, eu)) =
    r.other c ic (ap (λ (x : BlockRecord). x.id) (same f os o c b u v (r.blocks c ic, hu) (hb, hv) (eu ∙ sym ev)).blocks)

pub block : (f : FuncRecord) (os : List (List ℕ)) (next : Next) → IsOrdered f os → AreScheduled f os → AllNextUses f os next → (i : ℕ) (b : BlockRecord) → slice_get f.blocks i ≡ Some b → (ns : List ℕ) → Clear f ns b
    → Block f os next i b
block f os next o sc a i b at ns r =
    let hb : HasBlock f b = contains_at f.blocks i b at in
    let (zs, sch, is) = sc i b at in
    let inside : (z : ValueRecord) → In z zs → Contains b.values z = λ z iz. to_contains z b.values (in_scheduled b b.values zs sch z iz) in
    let s = split zs (λ pre v post w u iu p. phis_first b b.values zs sch pre v post w u iu p) in
    let named : ordered b.values (order_at os i) ≡ s.ps ++ s.ts = ap (ordered b.values) is ∙ (named_are f os o b hb zs inside ∙ s.whole) in
    record {
      ps = s.ps;
      ts = s.ts;
      lies = record {
        ordered = o;
        uses = a;
        at = at;
        order = is ∙ ap ids s.whole;
        inside = λ z iz. inside z (subst (λ (l : List ValueRecord). In z l) (sym s.whole) iz);
        phis = s.phis;
        rest = s.rest;
        dead = λ n d. unpassed f os i n b r.before o sc at r.walk (undefined f os o ns b hb r n d);
      };
      scheduled = subst (λ (l : List ValueRecord). Scheduled b b.values l) s.whole sch;
      plan = ap (plan_with (is_word f.blocks) b (order_at os i)) named;
    }

-- the block with a number, as it is allocated

pub planned_at : (f : FuncRecord) (os : List (List ℕ)) → IsOrdered f os → IsJoined f → (i : ℕ) (b : BlockRecord) → slice_get f.blocks i ≡ Some b → planned f.blocks os b.id ≡ Some (plan_of (is_word f.blocks) b (order_at os i))
unfolding planned
planned_at f os o g i b at =
    let place : position (λ (c : BlockRecord). c.id == b.id) f.blocks ≡ Some i = sym (position-map (λ (c : BlockRecord). c.id) (λ x. x == b.id) f.blocks) ∙ place_sole f g b i at in
    let l : i < length os = omega (arith, slice_get_within f.blocks i b at, o.size) in
    let own : slice_get os i ≡ Some (order_at os i) = slice_get-get_or os i [] l in
    ap (option_and_then (plan_at f.blocks os)) place
    ∙ (ap (λ (q : Option BlockRecord). plan_by (is_word f.blocks) q (slice_get os i)) at ∙ ap (plan_by (is_word f.blocks) (Some b)) own)

pub laid_block : (f : FuncRecord) (ns : List ℕ) → Laid f ns → (n : ℕ) → In n ns → (b : BlockRecord) × HasBlock f b × (b.id ≡ n)
laid_block f _ (first b e) n (inl q) = (b, contains_at f.blocks 0 b e, q)
laid_block f _ (first b e) n (inr i) = elim i [ ]
laid_block f _ (more ns a b l ha hb ca s fresh) n i = ⊎_elim
    (λ (j : In n ns). laid_block f ns l n j)
    (λ (j : In n (b.id ∷ [])). ⊎_elim (λ (q : b.id ≡ n). (b, hb, q)) (λ (k : In n []). elim k [ ]) j)
    (in_either n ns (b.id ∷ []) i)

filtered_in : (h : ℕ → Option PlanRecord) (ns : List ℕ) (p : PlanRecord) → In p (filter_map h ns) → (n : ℕ) × In n ns × (h n ≡ Some p)
filtered_in h [] p i = elim i [ ]
filtered_in h (n ∷ ns) p i = by (h n) refl i (filtered_in h ns p)
  where
    by : (o : Option PlanRecord) → h n ≡ o → In p (cons_option o (filter_map h ns)) → (In p (filter_map h ns) → (m : ℕ) × In m ns × (h m ≡ Some p)) → (m : ℕ) × In m (n ∷ ns) × (h m ≡ Some p)
    by None e j r = (let q = r j in (q.0, inr q.1, q.2))
    by (Some x) e (inl d) r = (n, inl refl, e ∙ ap Some d)
    by (Some x) e (inr j) r = (let q = r j in (q.0, inr q.1, q.2))

-- where a plan of the list comes from
pub record Comes (f : FuncRecord) (os : List (List ℕ)) (next : Next) (ns : List ℕ) (p : PlanRecord) : Type 0 where
  pub i : ℕ
  pub b : BlockRecord
  pub at : slice_get f.blocks i ≡ Some b
  pub block : Block f os next i b
  pub is : plan_with (is_word f.blocks) b (order_at os i) (block.ps ++ block.ts) ≡ p

pub comes : (f : FuncRecord) (os : List (List ℕ)) (next : Next) → IsOrdered f os → IsJoined f → AreScheduled f os → AllNextUses f os next → (ns : List ℕ) → Laid f ns → (p : PlanRecord)
    → Contains (laid_out f.blocks ns os) p → Comes f os next ns p
comes f os next o g sc a ns l p c =
    let (n, jn, e) = filtered_in (planned f.blocks os) ns p (to_in p (laid_out f.blocks ns os) c) in
    let (b, hb, id) = laid_block f ns l n jn in
    let (i, at) = at_contains f.blocks b hb in
    let k = block f os next o sc a i b at ns (clear f os o ns l b hb (subst (λ (m : ℕ). Contains ns m) (sym id) (to_contains n ns jn))) in
    let same_plan : plan_of (is_word f.blocks) b (order_at os i) ≡ p = same_Some _ p (sym (planned_at f os o g i b at) ∙ (ap (planned f.blocks os) id ∙ e)) in
    record { i = i; b = b; at = at; block = k; is = sym k.plan ∙ same_plan }

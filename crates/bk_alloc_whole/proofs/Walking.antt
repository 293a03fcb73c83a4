-- A value is not live where walks lead that have not passed its definition.
use Rattle.std.proofs.Common.{◌≡◌, ◌∙◌, sym, refl, ap, subst, ℕ, zero, suc, ◌+◌, ◌<◌, ◌≤◌, ◌⊎◌, inl, inr, ⊎_elim, List, [], ◌∷◌, ◌++◌, length, map, Some, arith}
use Rattle.std.specs.List.{Contains, slice_get}
use Rattle.std.proofs.lemmas.Bool.{cases_lt, cases_order}
use Rattle.std.proofs.lemmas.Option.{same_Some, slice_get_within, none-some}
use Rattle.bk_func.specs.declared.form.FormKind.TheVariants.{Use, Order}
use Rattle.bk_func.specs.Records.{ValueRecord, BlockRecord, FuncRecord}
use Rattle.bk_func.specs.Form.Before as form
use Rattle.bk_func.specs.Form.Text.{Defines, HasBlock, IsPhi}
use Rattle.bk_func.specs.Form.Walks.{Passes, Walk, onward}
use Rattle.bk_func.proofs.Faults.{In}
use Rattle.bk_live.specs.Live.{IsEnd, IsEntry, IsOrdered, IsSent, Leads, Takes, here, leave, order_at, pass}
use Rattle.bk_live.proofs.Alone.{contains_at, entry_value, value_entry}
use Rattle.bk_sched.specs.Order as sched
use Rattle.bk_sched.specs.Schedule.{Scheduled}
use Rattle.bk_sched.proofs.Keeping.{in_scheduled, keeps}
use Rattle.bk_places.proofs.Elements.{to_contains}
use Rattle.bk_alloc_whole.specs.Whole.{AreScheduled}
use Rattle.bk_alloc_whole.proofs.Alone.{same}

-- a list from a place on

pub record CutAt {A : Type 0} (zs : List A) (k : ℕ) (v : A) : Type 0 where
  pub pre : List A
  pub post : List A
  pub whole : zs ≡ pre ++ v ∷ post
  pub size : length pre ≡ k

pub cut_at : {A : Type 0} (zs : List A) (k : ℕ) (v : A) → slice_get zs k ≡ Some v → CutAt zs k v
cut_at [] k v e = absurd (none-some v e)
cut_at (z ∷ zs) zero v e = record { pre = []; post = zs; whole = ap (λ y. y ∷ zs) (same_Some z v e); size = refl }
cut_at (z ∷ zs) (suc k) v e = (let c = cut_at zs k v e in record { pre = z ∷ c.pre; post = c.post; whole = ap (λ l. z ∷ l) c.whole; size = ap suc c.size })

pub in_get : {A : Type 0} (xs : List A) (j : ℕ) (x : A) → slice_get xs j ≡ Some x → In x xs
in_get [] j x e = absurd (none-some x e)
in_get (y ∷ ys) zero x e = inl (same_Some y x e)
in_get (y ∷ ys) (suc j) x e = inr (in_get ys j x e)

pub in_behind : {A : Type 0} (pre post : List A) (u v : A) (j : ℕ) → length pre < j → slice_get (pre ++ v ∷ post) j ≡ Some u → In u post
in_behind [] post u v zero l e = absurd (omega arith)
in_behind [] post u v (suc j) l e = in_get post j u e
in_behind (p ∷ pre) post u v zero l e = absurd (omega arith)
in_behind (p ∷ pre) post u v (suc j) l e = in_behind pre post u v j (omega arith) e

-- the values at the entries of an order

pub at_map : (zs : List ValueRecord) (k x : ℕ) → slice_get (map (λ (v : ValueRecord). v.id) zs) k ≡ Some x → (v : ValueRecord) × (slice_get zs k ≡ Some v) × (v.id ≡ x)
at_map [] k x e = absurd (none-some x e)
at_map (z ∷ zs) zero x e = (z, refl, same_Some z.id x e)
at_map (z ∷ zs) (suc k) x e = at_map zs k x e

-- the value of a block at an entry of its schedule
pub scheduled_at : (f : FuncRecord) (os : List (List ℕ)) → IsOrdered f os → (i k : ℕ) (b : BlockRecord) (v : ValueRecord) (zs : List ValueRecord) → slice_get f.blocks i ≡ Some b → Contains b.values v
    → Scheduled b b.values zs → order_at os i ≡ map (λ (z : ValueRecord). z.id) zs → IsEntry os i k v.id → slice_get zs k ≡ Some v
scheduled_at f os o i k b v zs at hv sch is e =
    let z = at_map zs k v.id (subst (λ (l : List ℕ). slice_get l k ≡ Some v.id) is e) in
    let hb : HasBlock f b = contains_at f.blocks i b at in
    let hz : Contains b.values z.0 = to_contains z.0 b.values (in_scheduled b b.values zs sch z.0 (in_get zs k z.0 z.1)) in
    let d = same f os o b b z.0 v (hb, hz) (hb, hv) z.2 in
    z.1 ∙ ap Some d.values

-- a value that another one of the block takes stands before it
pub stands_before : (f : FuncRecord) (os : List (List ℕ)) → IsOrdered f os → AreScheduled f os → (i j k : ℕ) (b : BlockRecord) (u v : ValueRecord) → slice_get f.blocks i ≡ Some b
    → Contains b.values u → Contains b.values v → ¬ IsPhi v → Contains v.args u.id → IsEntry os i j u.id → IsEntry os i k v.id → j < k
stands_before f os o sc i j k b u v at hu hv phi takes eu ev = go (cases_order j k)
  where
    go : (j ≡ k) ⊎ ((j < k) ⊎ (k < j)) → j < k
    go (inl e) =
        let hb : HasBlock f b = contains_at f.blocks i b at in
        let x : u.id ≡ v.id = same_Some u.id v.id (sym eu ∙ (ap (λ (m : ℕ). slice_get (order_at os i) m) e ∙ ev)) in
        let taken : form.IsTakenBy b v v = (hv, hv, phi, subst (λ (n : ℕ). Contains v.args n) x takes) in
        absurd ((o.formed.kinds Order b hb).value v hv (form.right v v (form.argument v v taken)))
    go (inr (inl l)) = l
    go (inr (inr l)) =
        let (zs, sch, is) = sc i b at in
        let c = cut_at zs k v (scheduled_at f os o i k b v zs at hv sch is ev) in
        let g = scheduled_at f os o i j b u zs at hu sch is eu in
        let inside : In u c.post = in_behind c.pre c.post u v j (omega (arith, c.size, l)) (subst (λ (l : List ValueRecord). slice_get l j ≡ Some u) c.whole g) in
        let taken : form.IsTakenBy b u v = (hu, hv, phi, takes) in
        absurd (keeps b b.values zs sch c.pre v c.post c.whole u inside (sched.right u v (sched.argument u v taken)))

-- walks

passed_here : (b : BlockRecord) (w : List BlockRecord) (n : ℕ) → Passes (b ∷ w) n → ¬ Passes w n → Defines b n
passed_here b w n (c, (zero, l, e), d) not = subst (λ (x : BlockRecord). Defines x n) (sym e) d
passed_here b w n (c, (suc k, l, e), d) not = absurd (not (c, (k, omega arith, e), d))

entry_of : (f : FuncRecord) (os : List (List ℕ)) → IsOrdered f os → (i : ℕ) (b : BlockRecord) (n : ℕ) → slice_get f.blocks i ≡ Some b → Defines b n → (j : ℕ) × IsEntry os i j n
entry_of f os o i b n at (u, hu, e) = (let r = value_entry f os o i b u at hu in (r.0, subst (λ (x : ℕ). IsEntry os i r.0 x) e r.1))

used_here : (f : FuncRecord) (os : List (List ℕ)) → IsOrdered f os → AreScheduled f os → (i k n : ℕ) (b : BlockRecord) → slice_get f.blocks i ≡ Some b → (w : List BlockRecord) → Walk f (b ∷ w)
    → ¬ Passes w n → ((j : ℕ) → j < k → ¬ IsEntry os i j n) → (x : ℕ) → IsEntry os i k x → Takes f x n → ⊥
used_here f os o sc i k n b at w walk not none x e (c, v, hv, id, phi, takes) =
    let hb : HasBlock f b = contains_at f.blocks i b at in
    let (z, hz, idz) = entry_value f os o i k x b e at in
    let d = same f os o c b v z hv (hb, hz) (id ∙ sym idz) in
    let inside : Contains b.values v = subst (λ (y : ValueRecord). Contains b.values y) (sym d.values) hz in
    let (u, hu, idu) = passed_here b w n (((o.formed.kinds Use b hb).value v inside).here phi n takes w walk) not in
    let (j, ej) = value_entry f os o i b u at hu in
    let before = stands_before f os o sc i j k b u v at hu inside phi (subst (λ (m : ℕ). Contains v.args m) (sym idu) takes) ej (subst (λ (m : ℕ). IsEntry os i k m) (sym id) e) in
    none j before (subst (λ (m : ℕ). IsEntry os i j m) idu ej)

ends_undefined : (f : FuncRecord) (os : List (List ℕ)) → IsOrdered f os → (i k n : ℕ) (b : BlockRecord) → slice_get f.blocks i ≡ Some b → IsEnd os i k → ((j : ℕ) → j < k → ¬ IsEntry os i j n) → ¬ Defines b n
ends_undefined f os o i k n b at end none d =
    let (j, e) = entry_of f os o i b n at d in
    none j (subst (λ (m : ℕ). j < m) (sym end) (slice_get_within (order_at os i) j n e)) e

used_behind : (f : FuncRecord) (os : List (List ℕ)) → IsOrdered f os → (i k n : ℕ) (b : BlockRecord) → slice_get f.blocks i ≡ Some b → (w : List BlockRecord) → Walk f (b ∷ w)
    → ¬ Passes w n → ((j : ℕ) → j < k → ¬ IsEntry os i j n) → IsEnd os i k → (c : BlockRecord) → b ≡ c → (c.control ≡ Some n) ⊎ IsSent f c n → ⊥
used_behind f os o i k n b at w walk not none end c d (inl e) =
    let hb : HasBlock f b = contains_at f.blocks i b at in
    ends_undefined f os o i k n b at end none (passed_here b w n ((o.formed.kinds Use b hb).block n (ap (λ (x : BlockRecord). x.control) d ∙ e) w walk) not)
used_behind f os o i k n b at w walk not none end c d (inr (s, v, j, hv, phi, pred, arg)) =
    let hb : HasBlock f b = contains_at f.blocks i b at in
    let p : slice_get s.preds j ≡ Some b.id = pred ∙ ap (λ (x : BlockRecord). Some x.id) (sym d) in
    ends_undefined f os o i k n b at end none (passed_here b w n (((o.formed.kinds Use s hv.0).value v hv.1).before phi j n b arg p hb w walk) not)

pub dead : (f : FuncRecord) (os : List (List ℕ)) → IsOrdered f os → AreScheduled f os → (n i k m : ℕ) → Leads f os n i k m → (b : BlockRecord) → slice_get f.blocks i ≡ Some b
    → (w : List BlockRecord) → Walk f (b ∷ w) → ¬ Passes w n → ((j : ℕ) → j < k → ¬ IsEntry os i j n) → ⊥
dead f os o sc n _ _ _ (here i k (inl (x, e, takes))) b at w walk not none = used_here f os o sc i k n b at w walk not none x e takes
dead f os o sc n _ _ _ (here i k (inr (end, (c, atc, uses)))) b at w walk not none = used_behind f os o i k n b at w walk not none end c (same_Some b c (sym at ∙ atc)) uses
dead f os o sc n _ _ _ (pass i k x m e other more) b at w walk not none =
    dead f os o sc n i (k + 1) m more b at w walk not (λ j l g. ⊎_elim
    (λ (below : j < k). none j below g)
    (λ (above : k ≤ j). let q : j ≡ k = omega arith in other (same_Some x n (sym e ∙ (ap (λ (y : ℕ). slice_get (order_at os i) y) (sym q) ∙ g))))
    (cases_lt j k))
dead f os o sc n _ _ _ (leave i j k m end (a, c, ata, atc, succ) more) b at w walk not none =
    let d : a ≡ b = same_Some a b (sym ata ∙ at) in
    let next : Walk f (c ∷ b ∷ w) = onward b c w walk (contains_at f.blocks j c atc) (subst (λ (x : BlockRecord). Contains x.succs c.id) d succ) in
    dead f os o sc n j 0 m more c atc (b ∷ w) next (λ p. ends_undefined f os o i k n b at end none (passed_here b w n p not)) (λ x l g. omega (arith, l))

pub unpassed : (f : FuncRecord) (os : List (List ℕ)) (i n : ℕ) (b : BlockRecord) (w : List BlockRecord) → IsOrdered f os → AreScheduled f os → slice_get f.blocks i ≡ Some b → Walk f (b ∷ w)
    → ¬ Passes w n → ((m : ℕ) × Leads f os n i 0 m) → ⊥
unpassed f os i n b w o sc at walk not (m, leads) = dead f os o sc n i 0 m leads b at w walk not (λ j l e. omega (arith, l))

-- Memory after a visit whose root gives memory where the old one did, and names the state that it named.
use Rattle.std.proofs.Common.{◌≡◌, ℕ, zero, suc, ◌<◌, refl, ap, sym, subst, ◌∙◌, arith, ◌⊎◌, inl, inr, List, [], ◌∷◌, ◌++◌, length, Some, None, Option, true, false}
use Rattle.std.specs.Prelude.{slice_get, slice_set, IfSome}
use Rattle.std.proofs.lemmas.Bool.{cases_eq}
use Rattle.bk_ops.specs.Table.{info_of}
use Rattle.bk_ops.specs.declared.types.Ty.TheVariants.{Mem}
use Rattle.bk_ops.specs.declared.family.Family.{Family}
use Rattle.bk_ops.specs.declared.family.Family.TheVariants as op
use Rattle.bk_func.specs.Records.{ValueRecord, BlockRecord, FuncRecord}
use Rattle.bk_func.specs.declared.form.FormKind.TheVariants.{Memory}
use Rattle.bk_func.specs.Form.{Keeps}
use Rattle.bk_func.specs.Form.Text.{HasValue, IsEntry, IsPhi, IsFirstIn}
use Rattle.bk_func.specs.Form.Walks.{Walk, IsReached}
use Rattle.bk_func.specs.Form.States.{CopiesMemory, IsFirstInit, IsState, IsStateOf, StandsFor, itself, copied, NamesAt, Names, IsLinked, first, more, IsChain, Carries, made, kept, IsFirstState, IsLastState, HasChain, HasMemoryPhi, IsStateIn, EndsWithState, KeepsStates, KeepsMemory}
use Rattle.bk_func.specs.Form.Parts.{IsValueNumber}
use Rattle.bk_func.proofs.Faults.{In}
use Rattle.bk_form_laws.specs.Fits.{IsThere, is_special, SameNames}
use Rattle.bk_mean.proofs.Named.{IsNamed}
use Rattle.bk_form_laws.proofs.Lists.{set_here, set_other, front, got_below}
use Rattle.bk_form_laws.proofs.Pairs.{turn_shape, turn, shape, in_old, in_new, Along, Beside, beside, one_partner, reached_back, keeps_numbers, entry_back}
use Rattle.bk_form_laws.proofs.EasyKinds.{each_block}
use Rattle.bk_form_laws.proofs.WordsKept.{only_pair}
use Rattle.bk_form_laws.proofs.Steps.{Step, after, block_after, Pairs, here, root_in, pair_here, turned_at, stays, is_v, each, old_value, there, names_over, names_back, no_result}

-- What Memory asks of the visit: neither root copies memory or is special, they give memory alike and name one state, and what is made
-- has nothing to do with memory.
pub record IsCalm (t : Step) : Type 0 where
  pub named : IsNamed (after t)
  pub old_plain : is_special t.v.op.family ≡ false
  pub plain : is_special t.root.op.family ≡ false
  pub old_copies : ¬ CopiesMemory t.v
  pub copies : ¬ CopiesMemory t.root
  pub memory : t.v.ty ≡ Mem → t.root.ty ≡ Mem
  pub memory_back : t.root.ty ≡ Mem → t.v.ty ≡ Mem
  pub names : SameNames t.f (after t) t.v t.root t.made
  pub at : (k : ℕ) → NamesAt t.root k → k < length t.root.args → (j : ℕ) × NamesAt t.v j × (j < length t.v.args)
  pub made_type : (w : ValueRecord) → In w t.made → ¬ (w.ty ≡ Mem)
  pub made_memory : (w : ValueRecord) → In w t.made → (info_of w.op).memory ≡ false

special_not : (o p : Family) → is_special p ≡ true → is_special o ≡ false → ¬ (o ≡ p)
special_not o p a b e = (let d = ap is_special e in cc)

-- an old special value is not v
apart : (t : Step) → IsCalm t → (c : BlockRecord) (u : ValueRecord) → HasValue t.f c u → (o : Family) → is_special o ≡ true → u.op.family ≡ o → ¬ (u.id ≡ t.v.id)
apart t q c u h o z e d = (let i = (is_v t c u h d).1 in special_not t.v.op.family o z q.old_plain (ap (λ (y : ValueRecord). y.op.family) (sym i) ∙ e))

front_back : {X : Type 0} (xs ys : List X) (i : ℕ) (x : X) → i < length xs → slice_get (xs ++ ys) i ≡ Some x → slice_get xs i ≡ Some x
front_back [] ys i x l e = absurd (omega (arith, l))
front_back (z ∷ xs) ys zero x l e = e
front_back (z ∷ xs) ys (suc i) x l e = front_back xs ys i x (omega (arith, l)) e

first_over : (t : Step) → IsCalm t → (c d : BlockRecord) → Pairs t c d → (u : ValueRecord) → IsFirstIn (λ u. u.op.family ≡ op.InitMem) c.values u → IsFirstIn (λ u. u.op.family ≡ op.InitMem) d.values u
first_over t q c d p u h = go p.same
  where
    at : IsFirstIn (λ u. u.op.family ≡ op.InitMem) t.x.values u → IsFirstIn (λ u. u.op.family ≡ op.InitMem) (block_after t).values u
    at (i, e, r, n) =
        let a : ¬ (t.k ≡ i) = λ z. special_not t.v.op.family op.InitMem refl q.old_plain
        (let w : Some t.v ≡ Some u = sym t.visit.stands ∙ (ap (λ j. slice_get t.x.values j) z ∙ e) in let y : t.v ≡ u = cc in ap (λ (y : ValueRecord). y.op.family) y ∙ r) in (
          i,
          set_other (t.x.values ++ t.made) t.k i t.root a ∙ front t.x.values t.made i u e,
          r,
          λ j y l g. elim (cases_eq t.k j) [
            | inl z ↦ (λ k. special_not t.root.op.family op.InitMem refl q.plain
                (let w : Some t.root ≡ Some y = sym (set_here (t.x.values ++ t.made) t.k t.v t.root (front t.x.values t.made t.k t.v t.visit.stands)) ∙ (ap (λ m. slice_get (slice_set (t.x.values ++ t.made) t.k t.root) m) z ∙ g) in
                let s : t.root ≡ y = cc in ap (λ (y : ValueRecord). y.op.family) s ∙ k))
            | inr z ↦ n j y l (front_back t.x.values t.made j y (let b = got_below t.x.values i u e in omega (arith, b, l)) (sym (set_other (t.x.values ++ t.made) t.k j t.root z) ∙ g))
          ],
        )

    go : (c ≡ d) ⊎ ((c ≡ t.x) × (d ≡ block_after t)) → IsFirstIn (λ u. u.op.family ≡ op.InitMem) d.values u
    go (inl e) = (let P : BlockRecord → Type 0 = λ z. IsFirstIn (λ u. u.op.family ≡ op.InitMem) z.values u in subst P e h)
    go (inr e) = (let P : BlockRecord → Type 0 = λ z. IsFirstIn (λ u. u.op.family ≡ op.InitMem) z.values u in subst P (sym e.1) (at (subst P e.0 h)))

entry_over : (t : Step) → IsCalm t → (c d : BlockRecord) → Pairs t c d → IsEntry t.f c → IsEntry (after t) d
entry_over t q c d p e =
    let (b, r, s) = (turned_at t).over 0 c e in
    let o : Pairs t c b = record { place = 0; old = e; new = r; same = s } in
    r ∙ ap Some (q.named.one_block b d (in_new t.f (after t) t.x (block_after t) c b o) (in_new t.f (after t) t.x (block_after t) c d p)
    (sym (shape t.f (after t) t.x (block_after t) c b (turned_at t).shape o).id ∙ (shape t.f (after t) t.x (block_after t) c d (turned_at t).shape p).id))

init_over : (t : Step) → IsCalm t → (c d : BlockRecord) → Pairs t c d → (u : ValueRecord) → IsFirstInit t.f c u → IsFirstInit (after t) d u
init_over t q c d p u h = (entry_over t q c d p h.0, first_over t q c d p u h.1)

-- ---- states
-- a value of a block has one of its number in the partner: itself, or root
record Twin (t : Step) (d : BlockRecord) (u : ValueRecord) : Type 0 where
  value : ValueRecord
  stands : HasValue (after t) d value
  id : value.id ≡ u.id
  same : (value ≡ u) ⊎ ((u ≡ t.v) × (value ≡ t.root))

twin : (t : Step) → IsCalm t → (c d : BlockRecord) → Pairs t c d → (u : ValueRecord) → HasValue t.f c u → Twin t d u
twin t q c d p u h = elim (cases_eq u.id t.v.id) [
  | inl e ↦ (let i = is_v t c u h e in
      let p2 : Pairs t t.x d = (let P : BlockRecord → Type 0 = λ z. Pairs t z d in subst P i.0 p) in
      record { value = t.root; stands = (let P : BlockRecord → Type 0 = λ z. HasValue (after t) z t.root in subst P (only_pair t d p2) (root_in t)); id = t.visit.same ∙ sym e; same = inr (i.1, refl) })
  | inr e ↦ record { value = u; stands = stays t c d u p h e; id = refl; same = inl refl }
]

twin_names : (t : Step) → IsCalm t → (d : BlockRecord) (u : ValueRecord) (w : Twin t d u) → (n : ℕ) → Names t.f u n → Names (after t) w.value n
twin_names t q d u w n h = go w.same
  where
    P : ValueRecord → Type 0
    P z = Names (after t) z n

    go : (w.value ≡ u) ⊎ ((u ≡ t.v) × (w.value ≡ t.root)) → Names (after t) w.value n
    go (inl e) = (let P : ValueRecord → Type 0 = λ z. Names (after t) z n in subst P (sym e) (names_over t q.names u n h))
    go (inr e) = (let P : ValueRecord → Type 0 = λ z. Names (after t) z n in let Q : ValueRecord → Type 0 = λ z. Names t.f z n in subst P (sym e.1) (q.names.of_root n (subst Q e.0 h)))

twin_names_back : (t : Step) → IsCalm t → (c d : BlockRecord) (u : ValueRecord) → HasValue t.f c u → (w : Twin t d u) → (n : ℕ) → Names (after t) w.value n → Names t.f u n
twin_names_back t q c d u i w n h = go w.same
  where
    go : (w.value ≡ u) ⊎ ((u ≡ t.v) × (w.value ≡ t.root)) → Names t.f u n
    go (inl e) = (let P : ValueRecord → Type 0 = λ z. Names (after t) z n in names_back t q.names c u i n (subst P e h))
    go (inr e) = (let P : ValueRecord → Type 0 = λ z. Names (after t) z n in let Q : ValueRecord → Type 0 = λ z. Names t.f z n in subst Q (sym e.0) (q.names.of_root_back n (subst P e.1 h)))

root_state : (t : Step) → IsCalm t → IsState t.f t.x t.v → IsState (after t) (block_after t) t.root
root_state t q (h, a, b, m, i) =
    let ty : t.v.ty ≡ Mem = elim m [ inl e ↦ absurd (special_not t.v.op.family op.StaticLECall refl q.old_plain e) | inr e ↦ e ] in
    (root_in t, λ e. q.copies (e, q.memory ty), special_not t.root.op.family op.MakeResult refl q.plain, inr (q.memory ty), λ e. absurd (special_not t.root.op.family op.InitMem refl q.plain e))

twin_state : (t : Step) → IsCalm t → (c d : BlockRecord) → Pairs t c d → (u : ValueRecord) → IsState t.f c u → (w : Twin t d u) → IsState (after t) d w.value
twin_state t q c d p u (h, a, b, m, i) w = go w.same
  where
    old : HasValue (after t) d u → IsState (after t) d u
    old j = (j, a, b, m, λ e. init_over t q c d p u (i e))

    go : (w.value ≡ u) ⊎ ((u ≡ t.v) × (w.value ≡ t.root)) → IsState (after t) d w.value
    go (inl e) = (let P : ValueRecord → Type 0 = λ z. IsState (after t) d z in let Q : ValueRecord → Type 0 = λ z. HasValue (after t) d z in subst P (sym e) (old (subst Q e w.stands)))
    go (inr e) =
        let k : c ≡ t.x = (is_v t c u h (ap (λ (y : ValueRecord). y.id) e.0)).0 in
        let p2 : Pairs t t.x d = (let P : BlockRecord → Type 0 = λ z. Pairs t z d in subst P k p) in
        let s : IsState t.f t.x t.v = (let P : BlockRecord → Type 0 = λ z. IsState t.f z t.v in subst P k (let Q : ValueRecord → Type 0 = λ z. IsState t.f c z in subst Q e.0 (h, a, b, m, i))) in
        (let P : ValueRecord → Type 0 = λ z. IsState (after t) d z in subst P (sym e.1) (let Q : BlockRecord → Type 0 = λ z. IsState (after t) z t.root in subst Q (only_pair t d p2) (root_state t q s)))

state_over : (t : Step) → IsCalm t → (c d : BlockRecord) → Pairs t c d → (n : ℕ) → IsStateOf t.f c n → IsStateOf (after t) d n
state_over t q c d p n (u, s, e) = (let w = twin t q c d p u s.0 in (w.value, twin_state t q c d p u s w, w.id ∙ e))

-- a state of g is root, where v was one, or an old one
state_from : (t : Step) → IsCalm t → Keeps t.s t.f Memory → (d : BlockRecord) (w : ValueRecord) → IsState (after t) d w → (c : BlockRecord) × Pairs t c d × ((u : ValueRecord) × IsState t.f c u × (u.id ≡ w.id) × (IsPhi w → IsPhi u))
state_from t q k d w s = each t (λ d w. IsState (after t) d w → (c : BlockRecord) × Pairs t c d × ((u : ValueRecord) × IsState t.f c u × (u.id ≡ w.id) × (IsPhi w → IsPhi u))) of_root of_made of_old d w s.0 s
  where
    of_root : IsState (after t) (block_after t) t.root → (c : BlockRecord) × Pairs t c (block_after t) × ((u : ValueRecord) × IsState t.f c u × (u.id ≡ t.root.id) × (IsPhi t.root → IsPhi u))
    of_root (h, a, b, m, i) =
        let ty : t.root.ty ≡ Mem = elim m [ inl e ↦ absurd (special_not t.root.op.family op.StaticLECall refl q.plain e) | inr e ↦ e ] in (
          t.x,
          pair_here t,
          (
            t.v,
            (here t, (λ e. a2 (e, q.memory_back ty)), special_not t.v.op.family op.MakeResult refl q.old_plain, inr (q.memory_back ty), λ e. absurd (special_not t.v.op.family op.InitMem refl q.old_plain e)),
            sym t.visit.same,
            λ e. absurd (special_not t.root.op.family op.Phi refl q.plain e),
          ),
        )
      where
        a2 : CopiesMemory t.v → ⊥
        a2 = q.old_copies

    of_made : (w : ValueRecord) → In w t.made → IsState (after t) (block_after t) w → (c : BlockRecord) × Pairs t c (block_after t) × ((u : ValueRecord) × IsState t.f c u × (u.id ≡ w.id) × (IsPhi w → IsPhi u))
    of_made w j (h, a, b, m, i) = absurd (elim m [ inl e ↦ special_not w.op.family op.StaticLECall refl (t.plain w j) e | inr e ↦ q.made_type w j e ])

    of_old : (c d : BlockRecord) (u : ValueRecord) → Pairs t c d → HasValue t.f c u → ¬ (u.id ≡ t.v.id) → IsState (after t) d u → (z : BlockRecord) × Pairs t z d × ((y : ValueRecord) × IsState t.f z y × (y.id ≡ u.id) × (IsPhi u → IsPhi y))
    of_old c d u p h n (_, a, b, m, i) = (c, p, (u, (h, a, b, m, λ e. ((k c h.0).value u h.1).first e), refl, λ e. e))

-- the block of f whose partner is d is one
pub state_back : (t : Step) → IsCalm t → Keeps t.s t.f Memory → (c d : BlockRecord) → Pairs t c d → (n : ℕ) → IsStateOf (after t) d n → IsStateOf t.f c n
state_back t q k c d p n (w, s, e) =
    let (b, p2, (u, z, i, f)) = state_from t q k d w s in
    let r : b ≡ c = one_partner t.f (after t) t.x (block_after t) (turned_at t).shape (turned_at t).named b c d p2 p in
    (let P : BlockRecord → Type 0 = λ y. IsStateOf t.f y n in subst P r (u, z, i ∙ e))

phi_back : (t : Step) → IsCalm t → Keeps t.s t.f Memory → (c d : BlockRecord) → Pairs t c d → HasMemoryPhi (after t) d → HasMemoryPhi t.f c
phi_back t q k c d p (w, s, e) =
    let (b, p2, (u, z, i, f)) = state_from t q k d w s in
    let r : b ≡ c = one_partner t.f (after t) t.x (block_after t) (turned_at t).shape (turned_at t).named b c d p2 p in
    (let P : BlockRecord → Type 0 = λ y. HasMemoryPhi t.f y in subst P r (u, z, f e))

-- ---- chains and walks
linked_over : (t : Step) → IsCalm t → Keeps t.s t.f Memory → (c d : BlockRecord) → Pairs t c d → (ms : List ℕ) → IsLinked t.f c ms → IsLinked (after t) d ms
linked_over t q k c d p _ (first v h n) =
    let w = twin t q c d p v h in
    let P : ℕ → Type 0 = λ i. IsLinked (after t) d (i ∷ []) in
    subst P w.id (first w.value w.stands (λ s a b. n s (twin_names_back t q c d v h w s a) (state_back t q k c d p s b)))
linked_over t q k c d p _ (more v n ms h a l) =
    let w = twin t q c d p v h in
    let P : ℕ → Type 0 = λ i. IsLinked (after t) d (i ∷ n ∷ ms) in
    subst P w.id (more w.value n ms w.stands (twin_names t q d v w n a) (linked_over t q k c d p (n ∷ ms) l))

chain_over : (t : Step) → IsCalm t → Keeps t.s t.f Memory → (c d : BlockRecord) → Pairs t c d → (ms : List ℕ) → IsChain t.f c ms → IsChain (after t) d ms
chain_over t q k c d p ms h = record {
  states = λ n. (λ i. state_over t q c d p n ((h.states n).0 i), λ s. (h.states n).1 (state_back t q k c d p n s));
  distinct = h.distinct;
  linked = linked_over t q k c d p ms h.linked;
}

carries_over : (t : Step) → IsCalm t → Keeps t.s t.f Memory → (cs ds : List BlockRecord) → Along (after t) t.f (block_after t) t.x ds cs → (s : ℕ) → Carries t.f cs s → Carries (after t) ds s
carries_over t q k _ [] a s (made b w _ ms h) = elim a [ ]
carries_over t q k _ (d ∷ ds) a s (made b w _ ms h) = made d ds s ms (chain_over t q k b d (turn (after t) t.f (block_after t) t.x d b a.0) (s ∷ ms) h)
carries_over t q k _ [] a s (kept b w _ n h) = elim a [ ]
carries_over t q k _ (d ∷ ds) a s (kept b w _ n h) =
    kept d ds s (λ m z. n m (state_back t q k b d (turn (after t) t.f (block_after t) t.x d b a.0) m z)) (carries_over t q k w ds a.1 s h)

-- a walk of f beside one of g that ends with the block
record Past (t : Step) (c d : BlockRecord) (w : List BlockRecord) : Type 0 where
  before : List BlockRecord
  walk : Walk t.f (c ∷ before)
  along : Along (after t) t.f (block_after t) t.x w before

past : (t : Step) → (c d : BlockRecord) → Pairs t c d → (w : List BlockRecord) → Walk (after t) (d ∷ w) → Past t c d w
past t c d p w walk =
    let r : Beside (after t) t.f (block_after t) t.x d w = beside (after t) t.f (block_after t) t.x (turned_at t).back (turn_shape t.x (block_after t) (turned_at t).shape) d w walk in
    let e : r.last ≡ c = one_partner t.f (after t) t.x (block_after t) (turned_at t).shape (turned_at t).named r.last c d (turn (after t) t.f (block_after t) t.x d r.last r.pair) p in
    record { before = r.before; walk = (let P : BlockRecord → Type 0 = λ z. Walk t.f (z ∷ r.before) in subst P e r.walk); along = r.along }

first_state : (t : Step) → IsCalm t → Keeps t.s t.f Memory → (c d : BlockRecord) → Pairs t c d → (s : ℕ) → IsFirstState t.f c s → IsFirstState (after t) d s
first_state t q k c d p s h w walk = (let r = past t c d p w walk in carries_over t q k r.before w r.along s (h r.before r.walk))

last_state : (t : Step) → IsCalm t → Keeps t.s t.f Memory → (c d : BlockRecord) → Pairs t c d → (s : ℕ) → IsLastState t.f c s → IsLastState (after t) d s
last_state t q k c d p s h w walk =
    let r = past t c d p w walk in
    carries_over t q k (c ∷ r.before) (d ∷ w) (turn t.f (after t) t.x (block_after t) c d p, r.along) s (h r.before r.walk)

reached : (t : Step) (c d : BlockRecord) → Pairs t c d → IsReached (after t) d → IsReached t.f c
reached t c d p r = reached_back t.f (after t) t.x (block_after t) (turned_at t) c d p r

chain : (t : Step) → IsCalm t → Keeps t.s t.f Memory → (c d : BlockRecord) → Pairs t c d → HasChain t.f c → HasChain (after t) d
chain t q k c d p (inl n) = inl (λ m z. n m (state_back t q k c d p m z))
chain t q k c d p (inr (ms, m, h, (v, i, e, s))) = inr (ms, m, chain_over t q k c d p (ms ++ m ∷ []) h, (w.value, w.stands, w.id ∙ e, go w.same s))
  where
    w : Twin t d v
    w = twin t q c d p v i

    at_phi : (o : Family) → is_special o ≡ true → v.op.family ≡ o → (w.value ≡ v) ⊎ ((v ≡ t.v) × (w.value ≡ t.root)) → w.value.op.family ≡ o
    at_phi o z e (inl r) = ap (λ (y : ValueRecord). y.op.family) r ∙ e
    at_phi o z e (inr r) = absurd (special_not t.v.op.family o z q.old_plain (ap (λ (y : ValueRecord). y.op.family) (sym r.0) ∙ e))

    go : (w.value ≡ v) ⊎ ((v ≡ t.v) × (w.value ≡ t.root)) → IsPhi v ⊎ (v.op.family ≡ op.InitMem) ⊎ ((s : ℕ) × Names t.f v s × IsFirstState t.f c s) →
        IsPhi w.value ⊎ (w.value.op.family ≡ op.InitMem) ⊎ ((s : ℕ) × Names (after t) w.value s × IsFirstState (after t) d s)
    go r (inl e) = inl (at_phi op.Phi refl e r)
    go r (inr (inl e)) = inr (inl (at_phi op.InitMem refl e r))
    go r (inr (inr (s, a, b))) = inr (inr (s, twin_names t q d v w s a, first_state t q k c d p s b))

some_control : (f : FuncRecord) (c : BlockRecord) (n : ℕ) → IfSome c.control (IsValueNumber f) → c.control ≡ Some n → IsValueNumber f n
some_control f c n h e = go c.control h e
  where
    go : (o : Option ℕ) → IfSome o (IsValueNumber f) → o ≡ Some n → IsValueNumber f n
    go None h e = absurd cc
    go (Some m) h e = (let d : m ≡ n = cc in subst (IsValueNumber f) d h)

-- the number that a number stands for is there
stood : (f : FuncRecord) (n m : ℕ) → StandsFor f n m → IsThere f m
stood f _ _ (itself b v h q) = (b, v, h, refl)
stood f _ _ (copied b v n m h q e k) = stood f n m k

ends : (t : Step) → IsCalm t → Keeps t.s t.f Memory → (c d : BlockRecord) → Pairs t c d → EndsWithState t.f c → EndsWithState (after t) d
ends t q k c d p h n m b w e st i id =
    let sh = shape t.f (after t) t.x (block_after t) c d (turned_at t).shape p in
    let e2 : c.control ≡ Some n = sh.control ∙ e in
    let j = in_old t.f (after t) t.x (block_after t) c d p in
    let st2 : StandsFor t.f n m = q.names.stands_back n m (there t.f n (some_control t.f c n (t.missing c j).block.control e2)) st in
    let l : IsThere t.f w.id = subst (λ y. IsThere t.f y) (sym id) (stood t.f n m st2) in
    elim (old_value t b w i l) as (λ _. (w.op.family ≡ op.MakeResult → ¬ (b.id ≡ d.id) → (s : ℕ) × Names (after t) w s × IsLastState (after t) d s) × (¬ (w.op.family ≡ op.MakeResult) → w.ty ≡ Mem → IsLastState (after t) d m)) [
      | inl z ↦ (let r = h n m t.x t.v e2 st2 (here t) (sym t.visit.same ∙ (ap (λ (y : ValueRecord). y.id) (sym z) ∙ id)) in (
        λ a g. absurd (special_not t.root.op.family op.MakeResult refl q.plain (ap (λ (y : ValueRecord). y.op.family) (sym z) ∙ a)),
        λ a g. last_state t q k c d p m (r.1 (special_not t.v.op.family op.MakeResult refl q.old_plain) (q.memory_back (ap (λ (y : ValueRecord). y.ty) (sym z) ∙ g))),
      ))
      | inr z ↦ (let r = h n m z.0 w e2 st2 z.2 id in (
        λ a g. (let y = r.0 a (λ u. g (sym (shape t.f (after t) t.x (block_after t) z.0 b (turned_at t).shape z.1).id ∙ (u ∙ sh.id))) in (y.0, names_over t q.names w y.0 y.1, last_state t q k c d p y.0 y.2)),
        λ a g. last_state t q k c d p m (r.1 a g),
      ))
    ]

states_kept : (t : Step) → IsCalm t → Keeps t.s t.f Memory → (c d : BlockRecord) → Pairs t c d → KeepsStates t.f c → KeepsStates (after t) d
states_kept t q k c d p h = record {
  first = λ e. (let (u, i, z) = h.first (entry_back t.f (after t) t.x (block_after t) (turned_at t) c d p e) in
      let a : HasValue t.f c u = (in_old t.f (after t) t.x (block_after t) c d p, i) in
      (u, (stays t c d u p a (apart t q c u a op.InitMem refl z)).1, z));
  chain = λ r. chain t q k c d p (h.chain (reached t c d p r));
  last = λ r. ends t q k c d p (h.last (reached t c d p r));
}

-- ---- values
state_in : (t : Step) → IsCalm t → Keeps t.s t.f Memory → (c d : BlockRecord) → Pairs t c d → (s : ℕ) → IsStateIn t.f c s → IsStateIn (after t) d s
state_in t q k c d p s (inl h) = inl (state_over t q c d p s h)
state_in t q k c d p s (inr (n, h)) = inr (λ z. n (phi_back t q k c d p z), first_state t q k c d p s h)

old_memory : (t : Step) → IsCalm t → Keeps t.s t.f Memory → (c d : BlockRecord) (u : ValueRecord) → Pairs t c d → HasValue t.f c u → KeepsMemory (after t) d u
old_memory t q k c d u p i =
    let h = (k c i.0).value u i.1 in
    let sh = shape t.f (after t) t.x (block_after t) c d (turned_at t).shape p in record {
      first = λ e. init_over t q c d p u (h.first e);
      phi = λ e y j n b a r hb rb. each_block t.f t.b t.k t.x t.v t.root t.made t.visit (λ b. slice_get d.preds j ≡ Some b.id → IsReached (after t) b → (s : ℕ) × StandsFor (after t) n s × IsLastState (after t) b s)
          (λ z b o r rb. (let w = h.phi e y j n z a (ap (λ ps. slice_get ps j) sh.preds ∙ (r ∙ ap Some (sym (shape t.f (after t) t.x (block_after t) z b (turned_at t).shape o).id)))
          (in_old t.f (after t) t.x (block_after t) z b o) (reached t z b o rb) in (w.0, q.names.stands n w.0 w.1, last_state t q k z b o w.0 w.2))) b hb r rb;
      call = λ e n a. keeps_numbers t.f (after t) t.x (block_after t) c d (turned_at t).numbers p n (h.call e n a);
      results = λ e y. (let w = h.results e y in (
        sym sh.control ∙ w.0,
        λ b hb r. each_block t.f t.b t.k t.x t.v t.root t.made t.visit (λ b. b.control ≡ Some u.id → b.id ≡ d.id)
            (λ z b o r. (let y = shape t.f (after t) t.x (block_after t) z b (turned_at t).shape o in sym y.id ∙ (w.1 z (in_old t.f (after t) t.x (block_after t) z b o) (y.control ∙ r) ∙ sh.id))) b hb r,
      ));
      last = λ e r. (let w = h.last e (reached t c d p r) in (w.0, names_over t q.names u w.0 w.1, last_state t q k c d p w.0 w.2));
      names = λ j a b e r n l. (let w = h.names j a b e (reached t c d p r) n l in (w.0, names_over t q.names u w.0 w.1, state_in t q k c d p w.0 w.2));
    }

root_memory : (t : Step) → IsCalm t → Keeps t.s t.f Memory → KeepsMemory (after t) (block_after t) t.root
root_memory t q k =
    let h = (k t.x (here t).0).value t.v (here t).1 in
    let no : (o : Family) → is_special o ≡ true → ¬ (t.root.op.family ≡ o) = λ o z. special_not t.root.op.family o z q.plain in
    let old : (o : Family) → is_special o ≡ true → ¬ (t.v.op.family ≡ o) = λ o z. special_not t.v.op.family o z q.old_plain in record {
      first = λ e. absurd (no op.InitMem refl e);
      phi = λ e. absurd (no op.Phi refl e);
      call = λ e. absurd (let z = no_result t.root.op.family q.plain in cc);
      results = λ e. absurd (no op.MakeResult refl e);
      last = λ e. absurd (no op.MakeResult refl e);
      names = λ j a b e r n l. (let z = q.at j n l in
          let w = h.names z.0 (old op.Phi refl) (old op.MakeResult refl) (no_result t.v.op.family q.old_plain) (reached t t.x (block_after t) (pair_here t) r) z.1 z.2 in
          (w.0, q.names.of_root w.0 w.1, state_in t q k t.x (block_after t) (pair_here t) w.0 w.2));
    }

made_memory : (t : Step) → IsCalm t → (w : ValueRecord) → In w t.made → KeepsMemory (after t) (block_after t) w
made_memory t q w i =
    let no : (o : Family) → is_special o ≡ true → ¬ (w.op.family ≡ o) = λ o z. special_not w.op.family o z (t.plain w i) in record {
      first = λ e. absurd (no op.InitMem refl e);
      phi = λ e. absurd (no op.Phi refl e);
      call = λ e. absurd (let z = no_result w.op.family (t.plain w i) in cc);
      results = λ e. absurd (no op.MakeResult refl e);
      last = λ e. absurd (no op.MakeResult refl e);
      names = λ j a b e r n l. absurd (none n);
    }
  where
    none : {j : ℕ} → NamesAt w j → ⊥
    none (inl h) = q.made_type w i h.0.1
    none (inr (inl h)) = (let z = no_result w.op.family (t.plain w i) in let b = h.0 in cc)
    none (inr (inr h)) = (let a = q.made_memory w i in let b = h.0 in cc)

-- A calm visit keeps Memory. It needs Missing alone, and that g's numbers name one thing each.
pub memory_kept : (t : Step) → IsCalm t → Keeps t.s t.f Memory → Keeps t.s (after t) Memory
memory_kept t q k d i = record {
  block = each_block t.f t.b t.k t.x t.v t.root t.made t.visit (KeepsStates (after t)) (λ c d p. states_kept t q k c d p (k c (in_old t.f (after t) t.x (block_after t) c d p)).block) d i;
  value = λ w j. each t (KeepsMemory (after t)) (root_memory t q k) (made_memory t q) (λ c d u p h a. old_memory t q k c d u p h) d w (i, j);
}

-- Words of a frame near and far, and moves from any place to any place.
use Rattle.std.proofs.Common.{◌≡◌, ◌≢◌, ℕ, ◌+◌, ◌*◌, ◌/◌, ◌%◌, ◌^◌, ◌<◌, ◌≤◌, List, [], ◌∷◌, ◌++◌, ap, ◌∙◌, sym, subst, refl, arith, Some, Bool, true, false, cond, pos, ◌*ℤ◌, inl}
use Rattle.std.specs.Prelude.{map}
use Rattle.bk_rv_isa.specs.declared.inst.ImmediateOp.TheVariants.{Addi}
use Rattle.bk_rv_isa.specs.declared.inst.LoadOp.TheVariants.{Ld}
use Rattle.bk_rv_isa.specs.declared.inst.StoreOp.TheVariants.{Sd}
use Rattle.bk_rv_isa.specs.declared.inst.Inst.{Inst}
use Rattle.bk_rv_isa.specs.declared.inst.Inst.TheVariants as i
use Rattle.bk_rv_isa.specs.Machine.{Machine, HasAt, reg, plus, load, with_reg}
use Rattle.bk_emit.specs.declared.blocks.Frame.{Frame}
use Rattle.bk_emit.specs.declared.blocks.Spot.{Spot}
use Rattle.bk_emit.specs.declared.blocks.Spot.TheVariants.{Register, Word}
use Rattle.bk_emit.specs.Blocks.{move_by, spot_of}
use Rattle.bk_rv_emit.specs.Code.{riscv64}
use Rattle.bk_rv_emit.specs.Lines.{inst}
use Rattle.bk_rv_emit.specs.Words.{is_near, load_at, store_at}
use Rattle.bk_rv_emit_laws.specs.Leaving.{IsWell, Leaves}
use Rattle.bk_rv_emit_laws.specs.Frames.{IsHome, IsFrame, Holds, Leads, set, word_address}
use Rattle.bk_rv_emit_laws.specs.Steps.{IsSpot, Makes, LinesMake, LoadMakes, StoreMakes, MoveMakes}
use Rattle.bk_rv_emit_laws.proofs.Paths as P
use Rattle.bk_rv_emit_laws.proofs.Constants.{parts}
use Rattle.bk_rv_isa.proofs.Steps.{has_front, has_back}
use Rattle.bk_rv_emit.specs.Numbers.{upper, lower}
use Rattle.bk_num.specs.Word.{residue, signed}
use Rattle.bk_num.proofs.Signs.{residue_below}
use Rattle.bk_rv_isa.specs.declared.inst.RegisterOp.TheVariants.{Add}
use Rattle.bk_rv_emit_laws.proofs.Slots.{same_load, near_load, near_store, word_by, word_in, near_load_makes, scratch_leads, store_by, near_store_leads, then_leads, register_move, value_makes}

-- words at long offsets, by way of x1

one_apart : (r : ℕ) → IsHome r → r ≢ 1
one_apart r h = h.return

pub long_word : (sp o : ℕ) → sp + o < 2 ^ 32 → o < 2 ^ 30 → plus ((residue 64 (upper (pos o) *ℤ pos (2 ^ 12)) + sp) % 2 ^ 64) (lower (pos o)) ≡ sp + o
long_word sp o h k =
    let e : o % 2 ^ 32 ≡ o = omega arith in
    ap (λ n. ((residue 64 (signed 20 ((n + 2048) / 2 ^ 12) *ℤ pos (2 ^ 12)) + sp) % 2 ^ 64 + residue 64 (signed 12 n)) % 2 ^ 64) e
    ∙ summed (residue 64 (signed 20 ((o + 2048) / 2 ^ 12) *ℤ pos (2 ^ 12))) (residue 64 (signed 12 o)) sp o h ((parts o (omega arith)).sum k)
  where
    summed : (u l sp o : ℕ) → sp + o < 2 ^ 32 → (u + l) % 2 ^ 64 ≡ o → ((u + sp) % 2 ^ 64 + l) % 2 ^ 64 ≡ sp + o
    summed u l sp o h e = omega arith

-- the upper part of a long offset and the stack pointer in a register
unfoldable pub long_base : ℕ → ℕ → List Inst
long_base t o = i.Lui t (upper (pos o)) ∷ i.Op Add t t 2 ∷ []

pub base_leaves : (t o : ℕ) (m : Machine) → IsWell m → P.IsTarget t t → (let k : ℕ = 2 in k ≢ t) → HasAt m.text m.pc (long_base t o) →
    (l : Leaves (long_base t o) m t ((residue 64 (upper (pos o) *ℤ pos (2 ^ 12)) + reg m.regs 2) % 2 ^ 64)) × ((r : ℕ) → r ≢ t → reg l.after.regs r ≡ reg m.regs r)
unfolding long_base
base_leaves t o m w g two c =
    let z = upper (pos o) *ℤ pos (2 ^ 12) in
    let u = residue 64 z in
    let v = (u + reg m.regs 2) % 2 ^ 64 in
    let m1 = with_reg m t u in
    let p0 = P.here t m w in
    let p1 = P.write t m m t u (i.Lui t (upper (pos o))) p0 c.0 refl (residue_below 64 z) g in
    let p2 = P.op t m m1 Add t t 2 u (reg m.regs 2) v p1 c.1.0 (P.last t m m t u p0 g.some g.low) (P.reg_other m.regs t 2 u two) refl g in (
      record { after = with_reg m1 t v; path = p2; pc = omega arith; value = P.last t m m1 t v p1 g.some g.low },
      λ r h. P.reg_other m1.regs t r v h ∙ P.reg_other m.regs t r u h,
    )

first_target : P.IsTarget 1 1
first_target = record { some = λ e. omega (arith, e); low = omega arith; is = inl refl }

pub record Based (f : Frame) (sp o : ℕ) (m : Machine) (s : Spot → ℕ) : Type 0 where
  pub leads : Leads f sp (long_base 1 o) m s
  pub base : reg leads.after.regs 1 ≡ (residue 64 (upper (pos o) *ℤ pos (2 ^ 12)) + sp) % 2 ^ 64
  pub others : (r : ℕ) → r ≢ 1 → reg leads.after.regs r ≡ reg m.regs r
  pub same : (width a : ℕ) → load leads.after width a ≡ load m width a

pub base_leads : (f : Frame) (sp o : ℕ) (m : Machine) (s : Spot → ℕ) → IsFrame f sp m → Holds f sp m s → HasAt m.text m.pc (long_base 1 o) → Based f sp o m s
base_leads f sp o m s g h c =
    let z = upper (pos o) *ℤ pos (2 ^ 12) in
    let b = base_leaves 1 o m g.well first_target (λ e. omega (arith, e)) c in
    let x = scratch_leads f sp 1 ((residue 64 z + reg m.regs 2) % 2 ^ 64) (long_base 1 o) m s one_apart (λ e. omega (arith, e)) (λ e. omega (arith, e)) g h b.0 in
    record {
      leads = x.0;
      base = x.1 ∙ ap (λ k. (residue 64 z + k) % 2 ^ 64) g.pointer;
      others = λ r q. ap (λ n. reg n.regs r) x.2 ∙ b.1 r q;
      same = λ width a. ap (λ n. load n width a) x.2 ∙ same_load 1 m b.0.after width a b.0.path.keeps;
    }

-- what stands behind instructions that were made
pub behind : (f : Frame) (sp : ℕ) (is js : List Inst) (m : Machine) (s : Spot → ℕ) (l : Leads f sp is m s) → HasAt m.text m.pc (is ++ js) → HasAt l.after.text l.after.pc js
behind f sp is js m s l c =
    subst (λ t. HasAt t l.after.pc js) (sym l.spares.text) (subst (λ p. HasAt m.text p js) (sym l.pc) (has_back is js m.text m.pc c))

long_at : (f : Frame) (sp n : ℕ) (m : Machine) → IsFrame f sp m → n ≤ f.slots → reg m.regs 1 ≡ (residue 64 (upper (pos (8 * (f.out + n))) *ℤ pos (2 ^ 12)) + sp) % 2 ^ 64 → f.bytes < 2 ^ 30 →
    plus (reg m.regs 1) (lower (pos (8 * (f.out + n)))) ≡ word_address f sp n
long_at f sp n m g h e b =
    let r = g.room in
    let t = g.small in
    ap (λ x. plus x (lower (pos (8 * (f.out + n))))) e ∙ long_word sp (8 * (f.out + n)) (omega (arith, r, t, h)) (omega (arith, r, b, h))

-- a load and a store by way of x1
far_load : Frame → ℕ → ℕ → List Inst
far_load f r n = i.Load Ld r 1 (lower (pos (8 * (f.out + n)))) ∷ []

far_store : Frame → ℕ → ℕ → List Inst
far_store f r n = i.Store Sd r 1 (lower (pos (8 * (f.out + n)))) ∷ []

-- what is loaded from far away, behind the base
far_word : (f : Frame) (sp r n v : ℕ) (m : Machine) → IsFrame f sp m → n ≤ f.slots → f.bytes < 2 ^ 30 → reg m.regs 1 ≡ (residue 64 (upper (pos (8 * (f.out + n))) *ℤ pos (2 ^ 12)) + sp) % 2 ^ 64 →
    load m 8 (word_address f sp n) ≡ Some v → v < 2 ^ 64 → P.IsTarget r r → HasAt m.text m.pc (far_load f r n) → Leaves (far_load f r n) m r v
unfolding far_load
far_word f sp r n v m g l b e w lt t c = word_by r 1 (word_address f sp n) v (lower (pos (8 * (f.out + n)))) m g.well w lt t (long_at f sp n m g l e b) c

far_load_makes : (f : Frame) (s : Spot → ℕ) (r n : ℕ) → IsHome r → n ≤ f.slots → f.bytes < 2 ^ 30 → Makes f (long_base 1 (8 * (f.out + n)) ++ far_load f r n) s (set s (Register r) (s (Word n)))
far_load_makes f s r n home l b sp m g h c =
    let o = 8 * (f.out + n) in
    let x = base_leads f sp o m s g h (has_front (long_base 1 o) (far_load f r n) m.text m.pc c) in
    let y = x.leads in
    let d = behind f sp (long_base 1 o) (far_load f r n) m s y c in
    then_leads f sp (long_base 1 o) (far_load f r n) m s (set s (Register r) (s (Word n))) y
    (value_makes f s (far_load f r n) sp r (s (Word n)) y.after home y.frame y.holds
    (far_word f sp r n (s (Word n)) y.after y.frame l b x.base (y.holds.words n l) (y.holds.fit n l) (P.result r home.place) d))

far_store_leads : (f : Frame) (sp r n v : ℕ) (m : Machine) (s : Spot → ℕ) → IsFrame f sp m → Holds f sp m s → n ≤ f.slots → f.bytes < 2 ^ 30 → r ≢ 1 → reg m.regs r ≡ v →
    HasAt m.text m.pc (long_base 1 (8 * (f.out + n)) ++ far_store f r n) → Leads f sp (long_base 1 (8 * (f.out + n)) ++ far_store f r n) m (set s (Word n) v)
unfolding far_store
far_store_leads f sp r n v m s g h l b apart e c =
    let o = 8 * (f.out + n) in
    let x = base_leads f sp o m s g h (has_front (long_base 1 o) (far_store f r n) m.text m.pc c) in
    let y = x.leads in
    let d = behind f sp (long_base 1 o) (far_store f r n) m s y c in
    then_leads f sp (long_base 1 o) (far_store f r n) m s (set s (Word n) v) y
    (store_by f sp r 1 n v (lower (pos o)) y.after s y.frame y.holds l (x.others r apart ∙ e) (long_at f sp n y.after y.frame l x.base b) d)

-- both forms, by a test

form_load : Bool → Frame → ℕ → ℕ → List Inst
form_load t f r n = cond t (near_load f r n) (long_base 1 (8 * (f.out + n)) ++ far_load f r n)

form_store : Bool → Frame → ℕ → ℕ → List Inst
form_store t f r n = cond t (near_store f r n) (long_base 1 (8 * (f.out + n)) ++ far_store f r n)

load_is : (f : Frame) (r n : ℕ) → load_at r (8 * (f.out + n)) ≡ form_load (is_near (8 * (f.out + n))) f r n
unfolding form_load near_load long_base far_load
load_is f r n = refl

store_is : (f : Frame) (r n : ℕ) → store_at r (8 * (f.out + n)) ≡ form_store (is_near (8 * (f.out + n))) f r n
unfolding form_store near_store long_base far_store
store_is f r n = refl

load_makes_by : (t : Bool) (f : Frame) (s : Spot → ℕ) (r n : ℕ) → IsHome r → n ≤ f.slots → f.bytes < 2 ^ 30 → Makes f (form_load t f r n) s (set s (Register r) (s (Word n)))
unfolding form_load
load_makes_by true f s r n home l b = near_load_makes f s r n home l
load_makes_by false f s r n home l b = far_load_makes f s r n home l b

store_leads : (t : Bool) (f : Frame) (sp r n v : ℕ) (m : Machine) (s : Spot → ℕ) → IsFrame f sp m → Holds f sp m s → n ≤ f.slots → f.bytes < 2 ^ 30 → r ≢ 1 → reg m.regs r ≡ v →
    HasAt m.text m.pc (form_store t f r n) → Leads f sp (form_store t f r n) m (set s (Word n) v)
unfolding form_store
store_leads true f sp r n v m s g h l b apart e c = near_store_leads f sp r n v m s g h l e c
store_leads false f sp r n v m s g h l b apart e c = far_store_leads f sp r n v m s g h l b apart e c

pub load_makes : LoadMakes
load_makes f s r n home l b = (form_load (is_near (8 * (f.out + n))) f r n, ap (map inst) (load_is f r n), load_makes_by (is_near (8 * (f.out + n))) f s r n home l b)

pub store_makes : StoreMakes
store_makes f s r n home l b = (
  form_store (is_near (8 * (f.out + n))) f r n,
  ap (map inst) (store_is f r n),
  λ sp m g h c. store_leads (is_near (8 * (f.out + n))) f sp r n (s (Register r)) m s g h l b home.return (h.registers r home) c,
)

-- a word in x31
scratch_word : (t : Bool) (f : Frame) (sp n : ℕ) (m : Machine) (s : Spot → ℕ) → IsFrame f sp m → Holds f sp m s → n ≤ f.slots → f.bytes < 2 ^ 30 → HasAt m.text m.pc (form_load t f 31 n) →
    (l : Leads f sp (form_load t f 31 n) m s) × (reg l.after.regs 31 ≡ s (Word n))
unfolding form_load then_leads
scratch_word true f sp n m s g h l b c =
    let x = scratch_leads f sp 31 (s (Word n)) (near_load f 31 n) m s (λ r q. q.place.free) (λ e. omega (arith, e)) (λ e. omega (arith, e)) g h (word_in f sp 31 n (s (Word n)) m g l (h.words n l) (h.fit n l) (P.scratch 31) c) in
    (x.0, x.1)
scratch_word false f sp n m s g h l b c =
    let o = 8 * (f.out + n) in
    let x = base_leads f sp o m s g h (has_front (long_base 1 o) (far_load f 31 n) m.text m.pc c) in
    let y = x.leads in
    let d = behind f sp (long_base 1 o) (far_load f 31 n) m s y c in
    let z = scratch_leads f sp 31 (s (Word n)) (far_load f 31 n) y.after s (λ r q. q.place.free) (λ e. omega (arith, e)) (λ e. omega (arith, e)) y.frame y.holds
    (far_word f sp 31 n (s (Word n)) y.after y.frame l b x.base (y.holds.words n l) (y.holds.fit n l) (P.scratch 31) d) in
    (then_leads f sp (long_base 1 o) (far_load f 31 n) m s s y z.0, z.1)

word_move : (f : Frame) (s : Spot → ℕ) (a b : ℕ) → a ≤ f.slots → b ≤ f.slots → f.bytes < 2 ^ 30 →
    Makes f (form_load (is_near (8 * (f.out + a))) f 31 a ++ form_store (is_near (8 * (f.out + b))) f 31 b) s (set s (Word b) (s (Word a)))
word_move f s a b ha hb k sp m g h c =
    let first = form_load (is_near (8 * (f.out + a))) f 31 a in
    let second = form_store (is_near (8 * (f.out + b))) f 31 b in
    let x = scratch_word (is_near (8 * (f.out + a))) f sp a m s g h ha k (has_front first second m.text m.pc c) in
    let l = x.0 in
    then_leads f sp first second m s (set s (Word b) (s (Word a))) l
    (store_leads (is_near (8 * (f.out + b))) f sp 31 b (s (Word a)) l.after s l.frame l.holds hb k (λ e. omega (arith, e)) x.1 (behind f sp first second m s l c))

pub map-append : (a b : List Inst) → map inst (a ++ b) ≡ map inst a ++ map inst b
map-append [] b = refl
map-append (x ∷ a) b = ap (λ l. inst x ∷ l) (map-append a b)

move_spots : (f : Frame) (s : Spot → ℕ) (x y : Spot) → IsSpot f x → IsSpot f y → f.bytes < 2 ^ 30 → LinesMake f (move_by riscv64 f x y) s (set s y (s x))
move_spots f s (Register a) (Register d) hx hy k = (i.OpImm Addi d a (pos 0) ∷ [], refl, register_move f s a d hx hy)
move_spots f s (Word a) (Register d) hx hy k = load_makes f s d a hy hx k
move_spots f s (Register a) (Word d) hx hy k = store_makes f s a d hx hy k
move_spots f s (Word a) (Word d) hx hy k = (
  form_load (is_near (8 * (f.out + a))) f 31 a ++ form_store (is_near (8 * (f.out + d))) f 31 d,
  ap (λ l. map inst l ++ map inst (store_at 31 (8 * (f.out + d)))) (load_is f 31 a)
      ∙ ap (λ l. map inst (form_load (is_near (8 * (f.out + a))) f 31 a) ++ map inst l) (store_is f 31 d)
      ∙ sym (map-append (form_load (is_near (8 * (f.out + a))) f 31 a) (form_store (is_near (8 * (f.out + d))) f 31 d)),
  word_move f s a d hx hy k,
)

pub move_makes : MoveMakes
move_makes f s a b ha hb k = move_spots f s (spot_of f a) (spot_of f b) ha hb k

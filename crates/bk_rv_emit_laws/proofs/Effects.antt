-- Loads, stores, checks and traps.
use Rattle.std.proofs.Common.{◌≡◌, ◌≢◌, ℕ, ◌+◌, ◌%◌, ◌^◌, ◌<◌, ◌≤◌, List, [], ◌∷◌, ap, ◌∙◌, sym, subst, refl, arith, Some, None, true, false, not, ℤ, pos, inl, inr, bit_and}
use Rattle.std.specs.Prelude.{◌==◌}
use Rattle.std.proofs.lemmas.Bool.Decides.{nat_tests}
use Rattle.std.proofs.Math.Nat.{mod-eq_of_lt}
use Rattle.bk_num.specs.Word.{residue, signed}
use Rattle.bk_num.specs.Bytes.{written}
use Rattle.bk_num.specs.Memory.{data_base}
use Rattle.bk_num.proofs.Signs.{residue_below}
use Rattle.bk_num.proofs.Bytes.{load_within, tried, bounds}
use Rattle.bk_num.proofs.Memory.{write_data}
use Rattle.bk_ops.specs.Memory.{number_at, with_number}
use Rattle.bk_rv_isa.specs.declared.inst.ImmediateOp.TheVariants.{Addi, Andi}
use Rattle.bk_rv_isa.specs.declared.inst.LoadOp.{LoadOp}
use Rattle.bk_rv_isa.specs.declared.inst.LoadOp.TheVariants.{Ld, Lw, Lhu, Lbu}
use Rattle.bk_rv_isa.specs.declared.inst.StoreOp.{StoreOp}
use Rattle.bk_rv_isa.specs.declared.inst.StoreOp.TheVariants.{Sd, Sw, Sh, Sb}
use Rattle.bk_rv_isa.specs.declared.inst.BranchOp.TheVariants.{Bne}
use Rattle.bk_rv_isa.specs.declared.inst.Inst.TheVariants as i
use Rattle.bk_rv_isa.specs.Machine.{Machine, IsPlaced, HasAt, reg, plus, load, store, load_size, load_result, store_size, fetch, on_load, on_store, jumped, with_reg, with_windows, is_taken, step}
use Rattle.bk_rv_isa.proofs.Memory.{load_data}
use Rattle.bk_rv_isa.proofs.Steps as Steps
use Rattle.bk_rv_isa.proofs.Steps.{once}
use Rattle.bk_rv_emit_laws.specs.Leaving.{IsWell, Path}
use Rattle.bk_rv_emit_laws.specs.Does.{Does}
use Rattle.bk_rv_emit_laws.specs.Windows.{Trail, Writes, Traps, IsSize, LoadDoes, StoreDoes, StoreBoolDoes, CheckPasses, CheckTraps, TrapDoes}
use Rattle.bk_machine.proofs.Running.{then, stay}
use Rattle.bk_rv_emit_laws.proofs.Paths as P
use Rattle.bk_rv_emit_laws.proofs.Words as W
use Rattle.bk_rv_emit_laws.proofs.Families.{ahead, scratch_some}

-- loads

of_load : (o : LoadOp) (m : Machine) (d a n v : ℕ) (c : ℤ) → load m (load_size o) (plus (reg m.regs a) c) ≡ Some n → load_result o n ≡ v → v < 2 ^ 64 → Does (i.Load o d a c ∷ []) m d v
of_load o m d a n v c l e b w t low f h =
    let p0 = P.here d m w in
    let p = P.write d m m d v (i.Load o d a c) p0 h.0
    (ap (λ x. on_load m (plus (reg m.regs a) c) x (λ k. with_reg m d (load_result o k))) l ∙ ap (λ k. (None, with_reg m d k)) e) b (P.result d t) in
    P.ends (i.Load o d a c ∷ []) d m (with_reg m d v) v p refl (P.last d m m d v p0 t.some t.low)

-- what the data window has is what a load reads
pub in_window : (m : Machine) (w a n : ℕ) → IsPlaced m → 1 ≤ w → number_at m.window w a ≡ Some n → load m w a ≡ Some n
in_window m w a n p s h =
    let b = load_within data_base w a n m.window h in
    let q = p.window in
    load_data m w a p b.0 s (omega (arith, b.1, q)) ∙ h

load_8 : LoadDoes 8
load_8 d a n c m p b h = of_load Ld m d a n n c (in_window m 8 (plus (reg m.regs a) c) n p (omega arith) h) refl b

load_4 : LoadDoes 4
load_4 d a n c m p b h = of_load Lw m d a n (residue 64 (signed 32 n)) c (in_window m 4 (plus (reg m.regs a) c) n p (omega arith) h) refl (residue_below 64 (signed 32 n))

load_2 : LoadDoes 2
load_2 d a n c m p b h = of_load Lhu m d a n n c (in_window m 2 (plus (reg m.regs a) c) n p (omega arith) h) refl b

load_1 : LoadDoes 1
load_1 d a n c m p b h = of_load Lbu m d a n n c (in_window m 1 (plus (reg m.regs a) c) n p (omega arith) h) refl b

pub load_does : (w : ℕ) → IsSize w → LoadDoes w
load_does w (inl e) = subst LoadDoes (sym e) load_8
load_does w (inr (inl e)) = subst LoadDoes (sym e) load_4
load_does w (inr (inr (inl e))) = subst LoadDoes (sym e) load_2
load_does w (inr (inr (inr e))) = subst LoadDoes (sym e) load_1

-- trails

pub begin : (m : Machine) → IsWell m → Trail m m m.window
begin m w = record {
  steps = 0;
  goes = stay step m;
  well = w;
  others = λ k h. refl;
  text = refl;
  pool = refl;
  window = refl;
  stack = refl;
  bottom = refl;
}

-- a way that writes x31 alone is a trail
pub of_path : (m n : Machine) → Path 31 m n → Trail m n m.window
of_path m n p =
    let k = p.keeps in record {
      steps = p.steps;
      goes = p.goes;
      well = k.well;
      others = λ j h. k.others j h h;
      text = k.text;
      pool = k.pool;
      window = k.window;
      stack = k.stack;
      bottom = k.bottom;
    }

pub join : (m n o : Machine) (d e : List ℕ) → Trail m n d → Trail n o e → Trail m o e
join m n o d e a b = record {
  steps = a.steps + b.steps;
  goes = then step a.steps b.steps m n o a.goes b.goes;
  well = b.well;
  others = λ k h. b.others k h ∙ a.others k h;
  text = b.text ∙ a.text;
  pool = b.pool ∙ a.pool;
  window = b.window;
  stack = b.stack ∙ a.stack;
  bottom = b.bottom ∙ a.bottom;
}

some_list : (a b : List ℕ) → Some a ≡ Some b → a ≡ b
some_list a b h = cc

no_list : (b : List ℕ) (A : Type 0) → None ≡ Some b → A
no_list b A h = absurd cc

-- a store that the window takes
taken : (m : Machine) (w a n : ℕ) (window : List ℕ) → with_number m.window w a n ≡ Some window → store m w a n ≡ Some (window, m.stack)
taken m w a n window h = elim (tried data_base w a n m.window) [
  | inl t ↦ (
      let b = bounds data_base w a m.window t.0 in
      let e : written data_base m.window w a n ≡ window = some_list _ _ (sym t.1 ∙ h) in
      write_data m.window m.bottom m.stack w a n b.0 b.1 ∙ ap (λ d. Some (d, m.stack)) e)
  | inr t ↦ no_list window _ (sym t ∙ h)
]

pub keep : (m : Machine) (o : StoreOp) (a b v : ℕ) (c : ℤ) (window : List ℕ) → IsWell m → fetch m.text m.pc ≡ Some (i.Store o b a c) → reg m.regs b ≡ v →
    with_number m.window (store_size o) (plus (reg m.regs a) c) v ≡ Some window → Trail m (with_windows m window m.stack) window
keep m o a b v c window w h e t = record {
  steps = 1;
  goes = once m (with_windows m window m.stack) (i.Store o b a c) h
      (ap (λ x. on_store m (plus (reg m.regs a) c) (store m (store_size o) (plus (reg m.regs a) c) x)) e
      ∙ ap (on_store m (plus (reg m.regs a) c)) (taken m (store_size o) (plus (reg m.regs a) c) v window t));
  well = record { count = w.count; words = w.words };
  others = λ k h. refl;
  text = refl;
  pool = refl;
  window = refl;
  stack = refl;
  bottom = refl;
}

-- stores

of_store : (o : StoreOp) (a b : ℕ) (c : ℤ) (m : Machine) (window : List ℕ) → IsWell m → HasAt m.text m.pc (i.Store o b a c ∷ []) →
    with_number m.window (store_size o) (plus (reg m.regs a) c) (reg m.regs b) ≡ Some window → Writes (i.Store o b a c ∷ []) m window
of_store o a b c m window w h t = record { after = with_windows m window m.stack; trail = keep m o a b (reg m.regs b) c window w h.0 refl t; pc = refl }

pub store_does : (w : ℕ) → IsSize w → StoreDoes w
store_does w (inl e) = subst StoreDoes (sym e) (of_store Sd)
store_does w (inr (inl e)) = subst StoreDoes (sym e) (of_store Sw)
store_does w (inr (inr (inl e))) = subst StoreDoes (sym e) (of_store Sh)
store_does w (inr (inr (inr e))) = subst StoreDoes (sym e) (of_store Sb)

pub store_bool_does : StoreBoolDoes
store_bool_does r c m window fa w h t =
    let v = bit_and (reg m.regs r.b) 1 in
    let m1 = with_reg m 31 v in
    let p0 = P.here 31 m w in
    let p1 = P.imm 31 m m Andi 31 r.b (reg m.regs r.b) v (pos 1) p0 h.0 refl refl (P.scratch 31) in
    let e : reg m1.regs 31 ≡ reg m.regs r.b % 2 = P.last 31 m m 31 v p0 scratch_some (omega arith) ∙ W.low_bit (reg m.regs r.b) in
    let ea : reg m1.regs r.a ≡ reg m.regs r.a = P.reg_other m.regs 31 r.a v fa in
    let t1 : with_number m1.window 1 (plus (reg m1.regs r.a) c) (reg m.regs r.b % 2) ≡ Some window = ap (λ x. with_number m.window 1 (plus x c) (reg m.regs r.b % 2)) ea ∙ t in
    record {
      after = with_windows m1 window m1.stack;
      trail = join m m1 (with_windows m1 window m1.stack) m.window window (of_path m m1 p1) (keep m1 Sb r.a 31 (reg m.regs r.b % 2) c window p1.keeps.well h.1.0 e t1);
      pc = omega arith;
    }

-- checks and traps

pub trapped : (n : ℕ) (m m1 : Machine) → Trail m m1 m.window → fetch m1.text m1.pc ≡ Some i.Ebreak → reg m1.regs 31 ≡ n → 1 ≤ n → n ≤ 6 → Traps m n
trapped n m m1 t h e l k = record {
  steps = t.steps + 1;
  after = m1;
  stops = t.goes.by 1 ∙ Steps.trap m1 n h e l k;
  window = t.window;
}

small_number : (n : ℕ) → n ≤ 6 → plus 0 (pos n) ≡ n
small_number n h =
    let e : n % 2 ^ 64 ≡ n = mod-eq_of_lt (omega arith) in
    ap (λ k. (0 + k) % 2 ^ 64) e ∙ mod-eq_of_lt (omega arith) ∙ (omega arith)

-- a way, then a trap
pub trap_behind : (n : ℕ) (m m1 : Machine) → Path 31 m m1 → 1 ≤ n → n ≤ 6 → HasAt m1.text m1.pc (i.OpImm Addi 31 0 (pos n) ∷ i.Ebreak ∷ []) → Traps m n
trap_behind n m m1 p l k h =
    let m2 = with_reg m1 31 n in
    let p2 = P.imm 31 m m1 Addi 31 0 0 n (pos n) p h.0 refl (small_number n k) (P.scratch 31) in
    trapped n m m2 (of_path m m2 p2) h.1.0 (P.last 31 m m1 31 n p scratch_some (omega arith)) l k

pub trap_does : TrapDoes
trap_does n m l k w h = trap_behind n m m (P.here 31 m w) l k h

pub check_passes : CheckPasses
check_passes a m w low h e =
    let t : is_taken Bne (reg m.regs a) 0 ≡ true = not_zero (reg m.regs a) e in
    let to : ℕ = m.pc + 12 in
    let p = P.branch 31 m m Bne a 0 (reg m.regs a) 0 to true (pos 12) (P.here 31 m w) h.0 refl refl t (ahead m.pc 12 (omega arith) (omega arith)) in
    record { after = jumped m to; trail = of_path m (jumped m to) p; pc = refl }
  where
    not_zero : (n : ℕ) → n ≢ 0 → not (n == 0) ≡ true
    not_zero n h = grind (arith, nat_tests)

pub check_traps : CheckTraps
check_traps a m w h e =
    let t : is_taken Bne (reg m.regs a) 0 ≡ false = ap (λ n. not (n == 0)) e in
    let p = P.branch 31 m m Bne a 0 (reg m.regs a) 0 (m.pc + 4) false (pos 12) (P.here 31 m w) h.0 refl refl t refl in
    trap_behind 1 m (jumped m (m.pc + 4)) p (omega arith) (omega arith) h.1

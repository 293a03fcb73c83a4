-- Bytes that are moved piece by piece.
use Rattle.std.proofs.Common.{◌≡◌, ◌≢◌, ℕ, zero, suc, ◌+◌, ◌*◌, ◌/◌, ◌%◌, ◌^◌, ◌<◌, ◌≤◌, List, [], ◌∷◌, ◌++◌, length, ap, ◌∙◌, sym, subst, refl, arith, Option, Some, None, Bool, true, false, cond, pos, inl, inr, ◌⊎◌}
use Rattle.std.specs.Prelude.{◌==◌, nat_le}
use Rattle.std.proofs.lemmas.Bool.{cases_lt}
use Rattle.std.proofs.lemmas.Bool.Decides.{nat_tests}
use Rattle.std.proofs.Math.Nat.{mod-eq_of_lt}
use Rattle.bk_num.specs.Word.{signed}
use Rattle.bk_num.specs.Bytes.{load_in, store_in, written}
use Rattle.bk_num.specs.Memory.{data_base}
use Rattle.bk_num.proofs.Bytes.{load_same, length-written, store_there}
use Rattle.bk_num.proofs.Signs.{residue_below, residue_signed}
use Rattle.bk_ops.specs.Memory.{number_at, with_number, with_moved, do_overlap}
use Rattle.bk_ops.proofs.LowBits.{residue-low}
use Rattle.bk_rv_isa.specs.declared.inst.LoadOp.{LoadOp}
use Rattle.bk_rv_isa.specs.declared.inst.LoadOp.TheVariants.{Ld, Lw, Lhu, Lbu}
use Rattle.bk_rv_isa.specs.declared.inst.StoreOp.{StoreOp}
use Rattle.bk_rv_isa.specs.declared.inst.StoreOp.TheVariants.{Sd, Sw, Sh, Sb}
use Rattle.bk_rv_isa.specs.declared.inst.Inst.{Inst}
use Rattle.bk_rv_isa.specs.declared.inst.Inst.TheVariants as i
use Rattle.bk_rv_isa.specs.Machine.{Machine, IsPlaced, HasAt, reg, plus, load, load_size, load_result, store_size, on_load, with_reg, with_windows}
use Rattle.bk_rv_isa.proofs.Steps.{has_front}
use Rattle.bk_emit.specs.declared.table.Regs.{Regs}
use Rattle.bk_rv_emit.specs.Units.{chunk, eights, chunk_if}
use Rattle.bk_rv_emit_laws.specs.Leaving.{IsWell}
use Rattle.bk_rv_emit_laws.specs.Octets.{AreBytes}
use Rattle.bk_rv_emit_laws.specs.Windows.{Writes, IsSize, MoveDoes}
use Rattle.bk_rv_emit_laws.proofs.Paths as P
use Rattle.bk_rv_emit_laws.proofs.Families.{scratch_some}
use Rattle.bk_rv_emit_laws.proofs.Effects.{of_path, in_window, join, keep}
use Rattle.bk_rv_emit_laws.proofs.Pieces.{store_bounds, store_split, store_none, writes_then, nothing, rest_at, four, two, one}
use Rattle.bk_rv_emit_laws.proofs.Below.{loads_are_below, stores_are_bytes}
use Rattle.bk_rv_emit_laws.proofs.Halves.{load_split, store_rest}

-- a piece: what is loaded, whatever stands above its low bytes, is stored
record Fits (lo : LoadOp) (so : StoreOp) (s : ℕ) : Type 0 where
  loads : load_size lo ≡ s
  stores : store_size so ≡ s
  some : 1 ≤ s
  word : (u : ℕ) → u < 256 ^ s → load_result lo u < 2 ^ 64
  same : (u : ℕ) → load_result lo u % 256 ^ s ≡ u % 256 ^ s

fits_8 : Fits Ld Sd 8
fits_8 = record { loads = refl; stores = refl; some = omega arith; word = λ u h. omega (arith, h); same = λ u. refl }

fits_4 : Fits Lw Sw 4
fits_4 = record {
  loads = refl;
  stores = refl;
  some = omega arith;
  word = λ u h. residue_below 64 (signed 32 u);
  same = λ u. residue-low 32 64 (signed 32 u) (omega arith) ∙ residue_signed 32 u (omega arith);
}

fits_2 : Fits Lhu Sh 2
fits_2 = record { loads = refl; stores = refl; some = omega arith; word = λ u h. omega (arith, h); same = λ u. refl }

fits_1 : Fits Lbu Sb 1
fits_1 = record { loads = refl; stores = refl; some = omega arith; word = λ u h. omega (arith, h); same = λ u. refl }

-- what is moved: n bytes of a window, from y to x, whose number is v
record Moved (w : List ℕ) (n x y v : ℕ) : Type 0 where
  bytes : AreBytes w
  there : load_in data_base w n y ≡ Some v
  low : data_base ≤ x
  high : x + n ≤ data_base + length w
  apart : (x ≡ y) ⊎ ((y + n ≤ x) ⊎ (x + n ≤ y))

-- the machine where so many of the bytes were moved
record Stage (r : Regs) (w : List ℕ) (x y v : ℕ) (m : Machine) (c : ℕ) : Type 0 where
  well : IsWell m
  placed : IsPlaced m
  to : reg m.regs r.a ≡ x
  from : reg m.regs r.b ≡ y
  window : m.window ≡ written data_base w c x v

-- the next s bytes are at the place that they come from
next_bytes : (w : List ℕ) (n x y v c s rest : ℕ) → Moved w n x y v → n ≡ c + (s + rest) → load_in data_base (written data_base w c x v) s (y + c) ≡ Some (v / 256 ^ c % 256 ^ s)
next_bytes w n x y v c s rest h e =
    let lo = h.low in
    let hi = h.high in
    let a = load_split data_base c (s + rest) y v w h.bytes (ap (λ k. load_in data_base w k y) (sym e) ∙ h.there) in
    let b = load_split data_base s rest (y + c) (v / 256 ^ c) w h.bytes a.high in
    load_same data_base c s x (y + c) v w lo (omega (arith, hi, e)) (clear h.apart) ∙ b.low
  where
    clear : (x ≡ y) ⊎ ((y + n ≤ x) ⊎ (x + n ≤ y)) → (y + c + s ≤ x) ⊎ (x + c ≤ y + c)
    clear (inl q) = inr (omega (arith, q))
    clear (inr (inl q)) = inl (omega (arith, q, e))
    clear (inr (inr q)) = inr (omega (arith, q))

some_list : (a b : List ℕ) → Some a ≡ Some b → a ≡ b
some_list a b h = cc

-- storing them gives the window where c + s bytes were moved
next_window : (w : List ℕ) (n x y v c s rest u : ℕ) → Moved w n x y v → n ≡ c + (s + rest) → u % 256 ^ s ≡ v / 256 ^ c % 256 ^ s →
    store_in data_base (written data_base w c x v) s (x + c) u ≡ Some (written data_base w (c + s) x v)
next_window w n x y v c s rest u h e q =
    let lo = h.low in
    let hi = h.high in
    let all = store_there data_base (c + s) x v w lo (omega (arith, hi, e)) in
    let a = store_split data_base c s x v w (written data_base w (c + s) x v) all in
    let same : written data_base w c x v ≡ a.0 = some_list (written data_base w c x v) (a.0) (sym (store_there data_base c x v w lo (omega (arith, hi, e))) ∙ a.1) in
    store_rest data_base s (x + c) u (v / 256 ^ c) (written data_base w c x v) q ∙ ap (λ d. store_in data_base d s (x + c) (v / 256 ^ c)) same ∙ a.2

offset_at : (k x off : ℕ) → k ≡ x → x + off < 2 ^ 64 → plus k (pos off) ≡ x + off
offset_at k x off e l =
    let f : off % 2 ^ 64 ≡ off = mod-eq_of_lt (omega (arith, l)) in
    ap (λ y. (y + off % 2 ^ 64) % 2 ^ 64) e ∙ ap (λ y. (x + y) % 2 ^ 64) f ∙ mod-eq_of_lt l

piece : (lo : LoadOp) (so : StoreOp) (s : ℕ) → Fits lo so s → (r : Regs) (w : List ℕ) (n x y v c rest : ℕ) (m : Machine) → Moved w n x y v → Stage r w x y v m c → n ≡ c + (s + rest) →
    r.a ≢ 31 → x + n < 2 ^ 64 → y + n < 2 ^ 64 → HasAt m.text m.pc (i.Load lo 31 r.b (pos c) ∷ i.Store so 31 r.a (pos c) ∷ []) →
    Writes (i.Load lo 31 r.b (pos c) ∷ i.Store so 31 r.a (pos c) ∷ []) m (written data_base w (c + s) x v)
piece lo so s f r w n x y v c rest m h g e fa lx ly at =
    let u = v / 256 ^ c % 256 ^ s in
    let d = written data_base w c x v in
    let d2 = written data_base w (c + s) x v in
    let read : load_in data_base m.window s (y + c) ≡ Some u = ap (λ k. load_in data_base k s (y + c)) g.window ∙ next_bytes w n x y v c s rest h e in
    let hi = h.high in
    let bytes : AreBytes m.window = subst AreBytes (sym g.window) (stores_are_bytes data_base c x v w d h.bytes (store_there data_base c x v w h.low (omega (arith, hi, e)))) in
    let small : u < 256 ^ s = loads_are_below data_base s (y + c) u m.window bytes read in
    let from : plus (reg m.regs r.b) (pos c) ≡ y + c = offset_at (reg m.regs r.b) y c g.from (omega (arith, ly, e)) in
    let there : load m (load_size lo) (plus (reg m.regs r.b) (pos c)) ≡ Some u =
    ap (λ k. load m k (plus (reg m.regs r.b) (pos c))) f.loads ∙ ap (load m s) from ∙ in_window m s (y + c) u g.placed f.some read in
    let q = load_result lo u in
    let m1 = with_reg m 31 q in
    let p0 = P.here 31 m g.well in
    let p1 = P.write 31 m m 31 q (i.Load lo 31 r.b (pos c)) p0 at.0 (ap (λ o. on_load m (plus (reg m.regs r.b) (pos c)) o (λ k. with_reg m 31 (load_result lo k))) there) (f.word u small) (P.scratch 31) in
    let v31 : reg m1.regs 31 ≡ q = P.last 31 m m 31 q p0 scratch_some (omega arith) in
    let ra : reg m1.regs r.a ≡ x = P.reg_other m.regs 31 r.a q fa ∙ g.to in
    let to : plus (reg m1.regs r.a) (pos c) ≡ x + c = offset_at (reg m1.regs r.a) x c ra (omega (arith, lx, e)) in
    let rest_same : u % 256 ^ s ≡ u = mod-eq_of_lt small in
    let put : with_number m1.window (store_size so) (plus (reg m1.regs r.a) (pos c)) q ≡ Some d2 =
    ap (λ k. store_in data_base m.window k (plus (reg m1.regs r.a) (pos c)) q) f.stores
    ∙ ap (λ k. store_in data_base m.window s k q) to
    ∙ ap (λ k. store_in data_base k s (x + c) q) g.window
    ∙ next_window w n x y v c s rest q h e (f.same u ∙ rest_same) in
    record {
      after = with_windows m1 d2 m1.stack;
      trail = join m m1 (with_windows m1 d2 m1.stack) m.window d2 (of_path m m1 p1) (keep m1 so r.a 31 q (pos c) d2 p1.keeps.well at.1.0 v31 put);
      pc = omega arith;
    }

-- a piece of one of the sizes
abbrev PieceMoves : ℕ → Type 0
PieceMoves s =
    (r : Regs) (w : List ℕ) (n x y v c rest : ℕ) (m : Machine) → Moved w n x y v → Stage r w x y v m c → n ≡ c + (s + rest) → r.a ≢ 31 → x + n < 2 ^ 64 → y + n < 2 ^ 64 →
    HasAt m.text m.pc (chunk true r s c) → Writes (chunk true r s c) m (written data_base w (c + s) x v)

piece_moves : (s : ℕ) → IsSize s → PieceMoves s
piece_moves s (inl e) = subst PieceMoves (sym e) (piece Ld Sd 8 fits_8)
piece_moves s (inr (inl e)) = subst PieceMoves (sym e) (piece Lw Sw 4 fits_4)
piece_moves s (inr (inr (inl e))) = subst PieceMoves (sym e) (piece Lhu Sh 2 fits_2)
piece_moves s (inr (inr (inr e))) = subst PieceMoves (sym e) (piece Lbu Sb 1 fits_1)

-- the stage behind what was written
behind : (is : List Inst) (r : Regs) (w : List ℕ) (n x y v : ℕ) (m : Machine) (c k : ℕ) → Moved w n x y v → Stage r w x y v m c → r.a ≢ 31 → r.b ≢ 31 → c ≤ n → k ≤ n →
    (a : Writes is m (written data_base w k x v)) → Stage r w x y v a.after k
behind is r w n x y v m c k h g fa fb lc lk a =
    let t = a.trail in
    let hi = h.high in
    let p1 = g.placed.pool in
    let p2 = g.placed.window in
    let kp = ap length t.pool in
    let kb = t.bottom in
    let l1 = ap length g.window ∙ length-written data_base c x v w h.low (omega (arith, hi, lc)) in
    let l2 = ap length t.window ∙ length-written data_base k x v w h.low (omega (arith, hi, lk)) in
    record {
      well = t.well;
      placed = record { pool = omega (arith, kp, p1); window = omega (arith, l1, l2, kb, p2) };
      to = t.others r.a fa ∙ g.to;
      from = t.others r.b fb ∙ g.from;
      window = t.window;
    }

at_stage : (is : List Inst) (m : Machine) (w : List ℕ) (x v c k : ℕ) → c ≡ k → Writes is m (written data_base w c x v) → Writes is m (written data_base w k x v)
at_stage is m w x v c k e a = subst (λ j. Writes is m (written data_base w j x v)) e a

eights_move : (k : ℕ) (r : Regs) (w : List ℕ) (n x y v rest : ℕ) (m : Machine) → Moved w n x y v → Stage r w x y v m 0 → n ≡ 8 * k + rest → r.a ≢ 31 → r.b ≢ 31 → x + n < 2 ^ 64 → y + n < 2 ^ 64 →
    HasAt m.text m.pc (eights true r k) → Writes (eights true r k) m (written data_base w (8 * k) x v)
unfolding eights
eights_move zero r w n x y v rest m h g e fa fb lx ly at = nothing m (written data_base w 0 x v) g.well g.window
eights_move (suc k) r w n x y v rest m h g e fa fb lx ly at =
    let js = chunk true r 8 (8 * k) in
    let a = eights_move k r w n x y v (8 + rest) m h g (omega (arith, e)) fa fb lx ly (has_front (eights true r k) js m.text m.pc at) in
    let z = behind (eights true r k) r w n x y v m 0 (8 * k) h g fa fb (omega arith) (omega (arith, e)) a in
    let b = piece_moves 8 (inl refl) r w n x y v (8 * k) rest a.after h z (omega (arith, e)) fa lx ly (rest_at (eights true r k) js m (written data_base w (8 * k) x v) a at) in
    at_stage (eights true r k ++ js) m w x v (8 * k + 8) (8 * suc k) (omega arith)
    (writes_then (eights true r k) js m (written data_base w (8 * k) x v) (written data_base w (8 * k + 8) x v) a b)

piece_if : (there : Bool) (s : ℕ) → IsSize s → (r : Regs) (w : List ℕ) (n x y v c rest : ℕ) (m : Machine) → Moved w n x y v → Stage r w x y v m c → n ≡ c + (cond there s 0 + rest) → r.a ≢ 31 → x + n < 2 ^ 64 → y + n < 2 ^ 64 →
    HasAt m.text m.pc (chunk_if there true r s c) → Writes (chunk_if there true r s c) m (written data_base w (c + cond there s 0) x v)
piece_if true s z r w n x y v c rest m h g e fa lx ly at = piece_moves s z r w n x y v c rest m h g e fa lx ly at
piece_if false s z r w n x y v c rest m h g e fa lx ly at =
    at_stage [] m w x v c (c + 0) (omega arith) (nothing m (written data_base w c x v) g.well g.window)

-- what the meaning moves
overlap_by : (t : Bool) (o d : List ℕ) → cond t None (Some o) ≡ Some d → t ≡ false
overlap_by true o d h = absurd cc
overlap_by false o d h = refl

record Meant (w : List ℕ) (n x y : ℕ) (o : Option ℕ) (d : List ℕ) : Type 0 where
  number : ℕ
  there : o ≡ Some number
  clear : do_overlap n x y ≡ false
  stored : store_in data_base w n x number ≡ Some d

meant_by : (t : Bool) (w : List ℕ) (n x y v : ℕ) (d : List ℕ) → do_overlap n x y ≡ t → cond t None (store_in data_base w n x v) ≡ Some d → Meant w n x y (Some v) d
meant_by true w n x y v d e h = absurd cc
meant_by false w n x y v d e h = record { number = v; there = refl; clear = e; stored = h }

meant : (w : List ℕ) (n x y : ℕ) (o : Option ℕ) (d : List ℕ) → with_moved w n x o y ≡ Some d → Meant w n x y o d
meant w n x y None d h = absurd cc
meant w n x y (Some v) d h = meant_by (do_overlap n x y) w n x y v d refl h

clear_is : (n x y : ℕ) → do_overlap n x y ≡ false → (x ≡ y) ⊎ ((y + n ≤ x) ⊎ (x + n ≤ y))
clear_is n x y h = elim (P.same_or_not x y) [
  | inl e ↦ inl e
  | inr e ↦ elim (cases_lt x (y + n)) [
    | inl a ↦ elim (cases_lt y (x + n)) [
      | inl b ↦ absurd (let t : do_overlap n x y ≡ true = grind (arith, nat_tests) in let q : true ≡ false = sym t ∙ h in cc)
      | inr b ↦ inr (inr (omega (arith, b)))
    ]
    | inr a ↦ inr (inl (omega (arith, a)))
  ]
]

-- the stages
stage_4 : (n : ℕ) → 8 * (n / 8) ≡ n / 8 * 8
stage_4 n = omega arith

stage_2 : (n s : ℕ) → s ≡ n % 8 / 4 * 4 → n / 8 * 8 + s ≡ n / 4 * 4
stage_2 n s e = omega (arith, e)

stage_1 : (n t : ℕ) → t ≡ n % 4 / 2 * 2 → n / 4 * 4 + t ≡ n / 2 * 2
stage_1 n t e = omega (arith, e)

stage_0 : (n u : ℕ) → u ≡ n % 2 → n / 2 * 2 + u ≡ n
stage_0 n u e = omega (arith, e)

rest_8 : (n : ℕ) → n ≡ 8 * (n / 8) + n % 8
rest_8 n = omega arith

rest_4 : (n s : ℕ) → s ≡ n % 8 / 4 * 4 → n ≡ n / 8 * 8 + (s + n % 4)
rest_4 n s e = omega (arith, e)

rest_2 : (n t : ℕ) → t ≡ n % 4 / 2 * 2 → n ≡ n / 4 * 4 + (t + n % 2)
rest_2 n t e = omega (arith, e)

rest_1 : (n u : ℕ) → u ≡ n % 2 → n ≡ n / 2 * 2 + (u + 0)
rest_1 n u e = omega (arith, e)

part_8 : (n : ℕ) → n / 8 * 8 ≤ n
part_8 n = omega arith

part_4 : (n : ℕ) → n / 4 * 4 ≤ n
part_4 n = omega arith

part_2 : (n : ℕ) → n / 2 * 2 ≤ n
part_2 n = omega arith

all_moved : (r : Regs) (w : List ℕ) (n x y v : ℕ) (m : Machine) → Moved w n x y v → Stage r w x y v m 0 → r.a ≢ 31 → r.b ≢ 31 → x + n < 2 ^ 64 → y + n < 2 ^ 64 →
    HasAt m.text m.pc (eights true r (n / 8) ++ (chunk_if (nat_le 4 (n % 8)) true r 4 (n / 8 * 8) ++ (chunk_if (nat_le 2 (n % 4)) true r 2 (n / 4 * 4) ++ chunk_if (n % 2 == 1) true r 1 (n / 2 * 2)))) →
    Writes (eights true r (n / 8) ++ (chunk_if (nat_le 4 (n % 8)) true r 4 (n / 8 * 8) ++ (chunk_if (nat_le 2 (n % 4)) true r 2 (n / 4 * 4) ++ chunk_if (n % 2 == 1) true r 1 (n / 2 * 2)))) m (written data_base w n x v)
all_moved r w n x y v m h g fa fb lx ly at =
    let s2 : ℕ = cond (nat_le 4 (n % 8)) 4 0 in
    let s3 : ℕ = cond (nat_le 2 (n % 4)) 2 0 in
    let s4 : ℕ = cond (n % 2 == 1) 1 0 in
    let is1 = eights true r (n / 8) in
    let is2 = chunk_if (nat_le 4 (n % 8)) true r 4 (n / 8 * 8) in
    let is3 = chunk_if (nat_le 2 (n % 4)) true r 2 (n / 4 * 4) in
    let is4 = chunk_if (n % 2 == 1) true r 1 (n / 2 * 2) in
    let d1 = written data_base w (n / 8 * 8) x v in
    let d2 = written data_base w (n / 4 * 4) x v in
    let d3 = written data_base w (n / 2 * 2) x v in
    let d4 = written data_base w n x v in
    let a = at_stage is1 m w x v (8 * (n / 8)) (n / 8 * 8) (stage_4 n) (eights_move (n / 8) r w n x y v (n % 8) m h g (rest_8 n) fa fb lx ly (has_front is1 (is2 ++ (is3 ++ is4)) m.text m.pc at)) in
    let h2 = rest_at is1 (is2 ++ (is3 ++ is4)) m d1 a at in
    let g2 = behind is1 r w n x y v m 0 (n / 8 * 8) h g fa fb (omega arith) (part_8 n) a in
    let b = at_stage is2 a.after w x v (n / 8 * 8 + s2) (n / 4 * 4) (stage_2 n s2 (four n))
    (piece_if (nat_le 4 (n % 8)) 4 (inr (inl refl)) r w n x y v (n / 8 * 8) (n % 4) a.after h g2 (rest_4 n s2 (four n)) fa lx ly (has_front is2 (is3 ++ is4) a.after.text a.after.pc h2)) in
    let h3 = rest_at is2 (is3 ++ is4) a.after d2 b h2 in
    let g3 = behind is2 r w n x y v a.after (n / 8 * 8) (n / 4 * 4) h g2 fa fb (part_8 n) (part_4 n) b in
    let c = at_stage is3 b.after w x v (n / 4 * 4 + s3) (n / 2 * 2) (stage_1 n s3 (two n))
    (piece_if (nat_le 2 (n % 4)) 2 (inr (inr (inl refl))) r w n x y v (n / 4 * 4) (n % 2) b.after h g3 (rest_2 n s3 (two n)) fa lx ly (has_front is3 is4 b.after.text b.after.pc h3)) in
    let h4 = rest_at is3 is4 b.after d3 c h3 in
    let g4 = behind is3 r w n x y v b.after (n / 4 * 4) (n / 2 * 2) h g3 fa fb (part_4 n) (part_2 n) c in
    let d = at_stage is4 c.after w x v (n / 2 * 2 + s4) n (stage_0 n s4 (one n))
    (piece_if (n % 2 == 1) 1 (inr (inr (inr refl))) r w n x y v (n / 2 * 2) 0 c.after h g4 (rest_1 n s4 (one n)) fa lx ly h4) in
    writes_then is1 (is2 ++ (is3 ++ is4)) m d1 d4 a (writes_then is2 (is3 ++ is4) a.after d2 d4 b (writes_then is3 is4 b.after d3 d4 c d))

pub move_does : MoveDoes
move_does r n m d w placed bytes fa fb lx ly at t =
    let x = reg m.regs r.a in
    let y = reg m.regs r.b in
    let k = meant m.window n x y (number_at m.window n y) d t in
    let s = store_bounds data_base n x k.number m.window d k.stored in
    let hi = s.1 in
    let none : m.window ≡ written data_base m.window 0 x k.number = store_none data_base x k.number m.window (written data_base m.window 0 x k.number) (store_there data_base 0 x k.number m.window s.0 (omega (arith, hi))) in
    let q = all_moved r m.window n x y k.number m
    (record { bytes = bytes; there = k.there; low = s.0; high = s.1; apart = clear_is n x y k.clear })
    (record { well = w; placed = placed; to = refl; from = refl; window = none })
    fa fb lx ly at in
    subst (λ e. Writes (eights true r (n / 8) ++ (chunk_if (nat_le 4 (n % 8)) true r 4 (n / 8 * 8) ++ (chunk_if (nat_le 2 (n % 4)) true r 2 (n / 4 * 4) ++ chunk_if (n % 2 == 1) true r 1 (n / 2 * 2)))) m e) s.2 q

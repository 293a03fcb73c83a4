-- Bytes that are written piece by piece.
use Rattle.std.proofs.Common.{◌≡◌, ◌≢◌, ℕ, zero, suc, ◌+◌, ◌-◌, ◌*◌, ◌/◌, ◌%◌, ◌^◌, ◌<◌, ◌≤◌, List, [], ◌∷◌, ◌++◌, length, take, drop, ap, ◌∙◌, sym, subst, refl, arith, Some, None, Bool, true, false, cond, pos, inl, inr, append_assoc, length-append}
use Rattle.std.specs.Prelude.{◌==◌, nat_le}
use Rattle.std.proofs.lemmas.Bool.Decides.{nat_tests}
use Rattle.std.proofs.lemmas.List.{length-take-le, take_at, drop_at, drop-drop, take-append-drop}
use Rattle.std.proofs.Math.Nat.{div-div-eq-div-mul, mod-eq_of_lt, div-le_self}
use Rattle.bk_num.specs.Bytes.{bytes, store_in, written}
use Rattle.bk_num.specs.Memory.{data_base}
use Rattle.bk_num.proofs.Bytes.{length-bytes, length-written, tried, bounds, store_there}
use Rattle.bk_ops.specs.Memory.{with_number}
use Rattle.bk_rv_isa.specs.declared.inst.StoreOp.{StoreOp}
use Rattle.bk_rv_isa.specs.declared.inst.StoreOp.TheVariants.{Sd, Sw, Sh, Sb}
use Rattle.bk_rv_isa.specs.declared.inst.Inst.{Inst}
use Rattle.bk_rv_isa.specs.declared.inst.Inst.TheVariants as i
use Rattle.bk_rv_isa.specs.Machine.{Machine, HasAt, reg, plus, store_size, with_windows}
use Rattle.bk_rv_isa.proofs.Steps.{has_front, has_back}
use Rattle.bk_emit.specs.declared.table.Regs.{Regs}
use Rattle.bk_rv_emit.specs.Units.{chunk, eights, chunk_if}
use Rattle.bk_rv_emit_laws.specs.Leaving.{IsWell}
use Rattle.bk_rv_emit_laws.specs.Windows.{Trail, Writes, IsSize, ZeroDoes}
use Rattle.bk_rv_emit_laws.proofs.Effects.{begin, join, keep}

bytes_split : (j k n : ℕ) → bytes (j + k) n ≡ bytes j n ++ bytes k (n / 256 ^ j)
unfolding bytes
bytes_split zero k n =
    ap (λ s. bytes s n) (let e : 0 + k ≡ k = omega arith in e) ∙ ap (bytes k) (let e : n ≡ n / 256 ^ 0 = omega arith in e)
bytes_split (suc j) k n =
    ap (λ s. bytes s n) (let e : suc j + k ≡ suc (j + k) = omega arith in e)
    ∙ ap (λ l. n % 256 ∷ l) (bytes_split j k (n / 256))
    ∙ ap (λ q. n % 256 ∷ (bytes j (n / 256) ++ bytes k q)) (div-div-eq-div-mul n 256 (256 ^ j) ∙ ap (λ d. n / d) (let e : 256 * 256 ^ j ≡ 256 ^ suc j = omega arith in e))

-- a write of j + k bytes is one of j, then one of k behind them
written_split : (base j k a n : ℕ) (mem : List ℕ) → base ≤ a → a + (j + k) ≤ base + length mem →
    written base (written base mem j a n) k (a + j) (n / 256 ^ j) ≡ written base mem (j + k) a n
written_split base j k a n mem h l =
    let at = a - base in
    let q = n / 256 ^ j in
    let x = take at mem ++ bytes j n in
    let rest = drop (at + j) mem in
    let long : length x ≡ at + j = omega (arith, length-append (take at mem) (bytes j n), length-bytes j n, length-take-le at mem (omega (arith, h, l))) in
    let assoc : written base mem j a n ≡ x ++ rest = sym (append_assoc (take at mem) (bytes j n) rest) in
    let p : a + j - base ≡ at + j = omega (arith, h) in
    let t : take (a + j - base) (written base mem j a n) ≡ x = ap (λ c. take c (written base mem j a n)) p ∙ ap (take (at + j)) assoc ∙ take_at x rest (at + j) long in
    let d : drop (a + j - base + k) (written base mem j a n) ≡ drop (at + (j + k)) mem =
    ap (λ c. drop (c + k) (written base mem j a n)) p ∙ ap (drop (at + j + k)) assoc
    ∙ sym (drop-drop k (at + j) (x ++ rest)) ∙ ap (drop k) (drop_at x rest (at + j) long) ∙ drop-drop k (at + j) mem
    ∙ ap (λ c. drop c mem) (let e : at + j + k ≡ at + (j + k) = omega arith in e) in
    ap (λ c. c ++ (bytes k q ++ drop (a + j - base + k) (written base mem j a n))) t
    ∙ ap (λ c. x ++ (bytes k q ++ c)) d
    ∙ append_assoc (take at mem) (bytes j n) (bytes k q ++ drop (at + (j + k)) mem)
    ∙ ap (λ c. take at mem ++ c) (sym (append_assoc (bytes j n) (bytes k q) (drop (at + (j + k)) mem)) ∙ ap (λ c. c ++ drop (at + (j + k)) mem) (sym (bytes_split j k n)))

some_list : (a b : List ℕ) → Some a ≡ Some b → a ≡ b
some_list a b h = cc

no_list : (b : List ℕ) (A : Type 0) → None ≡ Some b → A
no_list b A h = absurd cc

pub store_bounds : (base size a n : ℕ) (mem d : List ℕ) → store_in base mem size a n ≡ Some d → (base ≤ a) × (a + size ≤ base + length mem) × (written base mem size a n ≡ d)
store_bounds base size a n mem d h = elim (tried base size a n mem) [
  | inl t ↦ (let b = bounds base size a mem t.0 in (b.0, b.1, some_list _ _ (sym t.1 ∙ h)))
  | inr t ↦ no_list d _ (sym t ∙ h)
]

pub store_split : (base j k a n : ℕ) (mem d : List ℕ) → store_in base mem (j + k) a n ≡ Some d →
    (e : List ℕ) × (store_in base mem j a n ≡ Some e) × (store_in base e k (a + j) (n / 256 ^ j) ≡ Some d)
store_split base j k a n mem d h =
    let b = store_bounds base (j + k) a n mem d h in
    let lo = b.0 in
    let hi = b.1 in
    let e = written base mem j a n in
    let long : length e ≡ length mem = length-written base j a n mem lo (omega (arith, hi)) in (
      e,
      store_there base j a n mem lo (omega (arith, hi)),
      store_there base k (a + j) (n / 256 ^ j) e (omega (arith, lo)) (omega (arith, hi, long)) ∙ ap Some (written_split base j k a n mem lo hi ∙ b.2),
    )

pub store_none : (base a n : ℕ) (mem d : List ℕ) → store_in base mem 0 a n ≡ Some d → mem ≡ d
unfolding bytes
store_none base a n mem d h =
    let b = store_bounds base 0 a n mem d h in
    sym (ap (λ c. take (a - base) mem ++ drop c mem) (let e : a - base + 0 ≡ a - base = omega arith in e) ∙ take-append-drop (a - base) mem) ∙ b.2

-- pieces of zeros

pub writes_then : (is js : List Inst) (m : Machine) (d e : List ℕ) (a : Writes is m d) → Writes js a.after e → Writes (is ++ js) m e
writes_then is js m d e a b = record {
  after = b.after;
  trail = join m a.after b.after d e a.trail b.trail;
  pc = b.pc ∙ ap (λ n. n + 4 * length js) a.pc ∙ (let q = length-append is js in omega (arith, q));
}

pub nothing : (m : Machine) (d : List ℕ) → IsWell m → m.window ≡ d → Writes [] m d
nothing m d w e = record { after = m; trail = subst (λ x. Trail m m x) e (begin m w); pc = omega arith }

put_zero : (o : StoreOp) (a off x : ℕ) (m : Machine) (d : List ℕ) → IsWell m → reg m.regs a ≡ x → x + off < 2 ^ 64 → HasAt m.text m.pc (i.Store o 0 a (pos off) ∷ []) →
    with_number m.window (store_size o) (x + off) 0 ≡ Some d → Writes (i.Store o 0 a (pos off) ∷ []) m d
put_zero o a off x m d w e l h t =
    let f : off % 2 ^ 64 ≡ off = mod-eq_of_lt (omega (arith, l)) in
    let p : plus (reg m.regs a) (pos off) ≡ x + off = ap (λ y. (y + off % 2 ^ 64) % 2 ^ 64) e ∙ ap (λ y. (x + y) % 2 ^ 64) f ∙ mod-eq_of_lt l in
    record {
      after = with_windows m d m.stack;
      trail = keep m o a 0 0 (pos off) d w h.0 refl (ap (λ y. with_number m.window (store_size o) y 0) p ∙ t);
      pc = refl;
    }

-- a piece of one of the sizes
abbrev PieceDoes : ℕ → Type 0
PieceDoes s =
    (r : Regs) (off x : ℕ) (m : Machine) (d : List ℕ) → IsWell m → reg m.regs r.a ≡ x → x + off < 2 ^ 64 → HasAt m.text m.pc (chunk false r s off) →
    with_number m.window s (x + off) 0 ≡ Some d → Writes (chunk false r s off) m d

piece_does : (s : ℕ) → IsSize s → PieceDoes s
piece_does s (inl e) = subst PieceDoes (sym e) (λ r off x m d w q l h t. put_zero Sd r.a off x m d w q l h t)
piece_does s (inr (inl e)) = subst PieceDoes (sym e) (λ r off x m d w q l h t. put_zero Sw r.a off x m d w q l h t)
piece_does s (inr (inr (inl e))) = subst PieceDoes (sym e) (λ r off x m d w q l h t. put_zero Sh r.a off x m d w q l h t)
piece_does s (inr (inr (inr e))) = subst PieceDoes (sym e) (λ r off x m d w q l h t. put_zero Sb r.a off x m d w q l h t)

zero_over : (n : ℕ) → 0 / 256 ^ n ≡ 0
zero_over n = let l = div-le_self 0 (256 ^ n) in omega (arith, l)

-- what stands behind
pub rest_at : (is js : List Inst) (m : Machine) (d : List ℕ) (a : Writes is m d) → HasAt m.text m.pc (is ++ js) → HasAt a.after.text a.after.pc js
rest_at is js m d a h = subst (λ t. HasAt t a.after.pc js) (sym a.trail.text) (subst (λ p. HasAt m.text p js) (sym a.pc) (has_back is js m.text m.pc h))

eights_do : (k : ℕ) (r : Regs) (x : ℕ) (m : Machine) (d : List ℕ) → IsWell m → r.a ≢ 31 → reg m.regs r.a ≡ x → x + 8 * k < 2 ^ 64 → HasAt m.text m.pc (eights false r k) →
    with_number m.window (8 * k) x 0 ≡ Some d → Writes (eights false r k) m d
unfolding eights
eights_do zero r x m d w fa e l h t = nothing m d w (store_none data_base x 0 m.window d t)
eights_do (suc k) r x m d w fa e l h t =
    let q : 8 * suc k ≡ 8 * k + 8 = omega arith in
    let s = store_split data_base (8 * k) 8 x 0 m.window d (ap (λ c. store_in data_base m.window c x 0) (sym q) ∙ t) in
    let a = eights_do k r x m s.0 w fa e (omega (arith, l)) (has_front (eights false r k) (chunk false r 8 (8 * k)) m.text m.pc h) s.1 in
    let g : with_number a.after.window 8 (x + 8 * k) 0 ≡ Some d = ap (λ c. store_in data_base c 8 (x + 8 * k) 0) a.trail.window ∙ ap (store_in data_base (s.0) 8 (x + 8 * k)) (sym (zero_over (8 * k))) ∙ s.2 in
    writes_then (eights false r k) (chunk false r 8 (8 * k)) m (s.0) d a
    (piece_does 8 (inl refl) r (8 * k) x a.after d a.trail.well (a.trail.others r.a fa ∙ e) (omega (arith, l)) (rest_at (eights false r k) (chunk false r 8 (8 * k)) m (s.0) a h) g)

piece_if : (there : Bool) (s : ℕ) → IsSize s → (r : Regs) (off x : ℕ) (m : Machine) (d : List ℕ) → IsWell m → reg m.regs r.a ≡ x → x + off < 2 ^ 64 →
    HasAt m.text m.pc (chunk_if there false r s off) → with_number m.window (cond there s 0) (x + off) 0 ≡ Some d → Writes (chunk_if there false r s off) m d
piece_if true s z r off x m d w e l h t = piece_does s z r off x m d w e l h t
piece_if false s z r off x m d w e l h t = nothing m d w (store_none data_base (x + off) 0 m.window d t)

-- the sizes of the pieces
pub four : (n : ℕ) → cond (nat_le 4 (n % 8)) 4 0 ≡ n % 8 / 4 * 4
four n = grind (arith, nat_tests)

pub two : (n : ℕ) → cond (nat_le 2 (n % 4)) 2 0 ≡ n % 4 / 2 * 2
two n = grind (arith, nat_tests)

pub one : (n : ℕ) → cond (n % 2 == 1) 1 0 ≡ n % 2
one n = grind (arith, nat_tests)

again : (base j k a : ℕ) (mem d : List ℕ) → store_in base mem k a (0 / 256 ^ j) ≡ Some d → store_in base mem k a 0 ≡ Some d
again base j k a mem d h = ap (store_in base mem k a) (sym (zero_over j)) ∙ h

moved_to : (k a b n : ℕ) (mem d : List ℕ) → a ≡ b → store_in data_base mem k a n ≡ Some d → store_in data_base mem k b n ≡ Some d
moved_to k a b n mem d e h = ap (λ c. store_in data_base mem k c n) (sym e) ∙ h

in_window : (k a n : ℕ) (mem other d : List ℕ) → other ≡ mem → store_in data_base mem k a n ≡ Some d → store_in data_base other k a n ≡ Some d
in_window k a n mem other d e h = ap (λ c. store_in data_base c k a n) e ∙ h

pub fit_8 : (x n : ℕ) → x + n < 2 ^ 64 → x + 8 * (n / 8) < 2 ^ 64
fit_8 x n h = omega (arith, h)

pub fit_4 : (x n : ℕ) → x + n < 2 ^ 64 → x + n / 8 * 8 < 2 ^ 64
fit_4 x n h = omega (arith, h)

pub fit_2 : (x n : ℕ) → x + n < 2 ^ 64 → x + n / 4 * 4 < 2 ^ 64
fit_2 x n h = omega (arith, h)

pub fit_1 : (x n : ℕ) → x + n < 2 ^ 64 → x + n / 2 * 2 < 2 ^ 64
fit_1 x n h = omega (arith, h)

at_4 : (x n : ℕ) → x + 8 * (n / 8) ≡ x + n / 8 * 8
at_4 x n = omega arith

at_2 : (x n s : ℕ) → s ≡ n % 8 / 4 * 4 → x + 8 * (n / 8) + s ≡ x + n / 4 * 4
at_2 x n s e = omega (arith, e)

at_1 : (x n s t : ℕ) → s ≡ n % 8 / 4 * 4 → t ≡ n % 4 / 2 * 2 → x + 8 * (n / 8) + s + t ≡ x + n / 2 * 2
at_1 x n s t e f = omega (arith, e, f)

all_parts : (n s t u : ℕ) → s ≡ n % 8 / 4 * 4 → t ≡ n % 4 / 2 * 2 → u ≡ n % 2 → n ≡ 8 * (n / 8) + (s + (t + u))
all_parts n s t u e f g = omega (arith, e, f, g)

pub zero_does : ZeroDoes
zero_does r n m d w fa l h t =
    let x = reg m.regs r.a in
    let s2 = cond (nat_le 4 (n % 8)) 4 0 in
    let s3 = cond (nat_le 2 (n % 4)) 2 0 in
    let s4 = cond (n % 2 == 1) 1 0 in
    let e2 = four n in
    let e3 = two n in
    let e4 = one n in
    let k = n / 8 in
    let is1 = eights false r k in
    let is2 = chunk_if (nat_le 4 (n % 8)) false r 4 (n / 8 * 8) in
    let is3 = chunk_if (nat_le 2 (n % 4)) false r 2 (n / 4 * 4) in
    let is4 = chunk_if (n % 2 == 1) false r 1 (n / 2 * 2) in
    let whole : n ≡ 8 * k + (s2 + (s3 + s4)) = all_parts n s2 s3 s4 e2 e3 e4 in
    let a = store_split data_base (8 * k) (s2 + (s3 + s4)) x 0 m.window d (ap (λ c. store_in data_base m.window c x 0) (sym whole) ∙ t) in
    let b = store_split data_base s2 (s3 + s4) (x + 8 * k) 0 (a.0) d (again data_base (8 * k) (s2 + (s3 + s4)) (x + 8 * k) (a.0) d a.2) in
    let c = store_split data_base s3 s4 (x + 8 * k + s2) 0 (b.0) d (again data_base s2 (s3 + s4) (x + 8 * k + s2) (b.0) d b.2) in
    let f = again data_base s3 s4 (x + 8 * k + s2 + s3) (c.0) d c.2 in
    let p1 = eights_do k r x m (a.0) w fa refl (fit_8 x n l) (has_front is1 (is2 ++ (is3 ++ is4)) m.text m.pc h) a.1 in
    let h2 = rest_at is1 (is2 ++ (is3 ++ is4)) m (a.0) p1 h in
    let m2 = p1.after in
    let t2 : with_number m2.window s2 (x + n / 8 * 8) 0 ≡ Some (b.0) =
    in_window s2 (x + n / 8 * 8) 0 (a.0) m2.window (b.0) p1.trail.window (moved_to s2 (x + 8 * k) (x + n / 8 * 8) 0 (a.0) (b.0) (at_4 x n) b.1) in
    let p2 = piece_if (nat_le 4 (n % 8)) 4 (inr (inl refl)) r (n / 8 * 8) x m2 (b.0) p1.trail.well (p1.trail.others r.a fa) (fit_4 x n l) (has_front is2 (is3 ++ is4) m2.text m2.pc h2) t2 in
    let h3 = rest_at is2 (is3 ++ is4) m2 (b.0) p2 h2 in
    let m3 = p2.after in
    let o3 : reg m3.regs r.a ≡ x = p2.trail.others r.a fa ∙ p1.trail.others r.a fa in
    let t3 : with_number m3.window s3 (x + n / 4 * 4) 0 ≡ Some (c.0) =
    in_window s3 (x + n / 4 * 4) 0 (b.0) m3.window (c.0) p2.trail.window (moved_to s3 (x + 8 * k + s2) (x + n / 4 * 4) 0 (b.0) (c.0) (at_2 x n s2 e2) c.1) in
    let p3 = piece_if (nat_le 2 (n % 4)) 2 (inr (inr (inl refl))) r (n / 4 * 4) x m3 (c.0) p2.trail.well o3 (fit_2 x n l) (has_front is3 is4 m3.text m3.pc h3) t3 in
    let h4 = rest_at is3 is4 m3 (c.0) p3 h3 in
    let m4 = p3.after in
    let o4 : reg m4.regs r.a ≡ x = p3.trail.others r.a fa ∙ o3 in
    let t4 : with_number m4.window s4 (x + n / 2 * 2) 0 ≡ Some d =
    in_window s4 (x + n / 2 * 2) 0 (c.0) m4.window d p3.trail.window (moved_to s4 (x + 8 * k + s2 + s3) (x + n / 2 * 2) 0 (c.0) d (at_1 x n s2 s3 e2 e3) f) in
    let p4 = piece_if (n % 2 == 1) 1 (inr (inr (inr refl))) r (n / 2 * 2) x m4 d p3.trail.well o4 (fit_1 x n l) h4 t4 in
    writes_then is1 (is2 ++ (is3 ++ is4)) m (a.0) d p1
    (writes_then is2 (is3 ++ is4) m2 (b.0) d p2 (writes_then is3 is4 m3 (c.0) d p3 p4))

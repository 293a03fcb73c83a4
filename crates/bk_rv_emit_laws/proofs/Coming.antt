-- The ends of blocks come to the blocks that they name.
use Rattle.std.proofs.Common.{◌≡◌, ℕ, ◌+◌, ◌*◌, ◌%◌, ◌^◌, ◌<◌, ◌≤◌, List, [], ◌∷◌, ◌++◌, length, ap, ◌∙◌, sym, subst, refl, arith, Option, Some, None, Bool, true, false, cond, not, pos, inl, inr, bit_and, length-append}
use Rattle.std.specs.Prelude.{◌==◌, map, nat_lt, ◌&&◌}
use Rattle.std.proofs.lemmas.Bool.Decides.{nat_tests}
use Rattle.bk_num.specs.Word.{fits_signed}
use Rattle.bk_fixup.specs.Sizes.{reaches}
use Rattle.bk_rv_isa.specs.declared.inst.ImmediateOp.TheVariants.{Andi}
use Rattle.bk_rv_isa.specs.declared.inst.Inst.TheVariants as i
use Rattle.bk_rv_isa.specs.Encoding.{fits}
use Rattle.bk_rv_isa.specs.Machine.{Machine, HasAt, reg, with_reg}
use Rattle.bk_rv_isa.proofs.Rows.{eq_of}
use Rattle.bk_emit.specs.declared.lines.Line.TheVariants as line
use Rattle.bk_emit.specs.Blocks.{jump_from, branch_to}
use Rattle.bk_emit.specs.Code.{distance, words_from}
use Rattle.bk_rv_emit.specs.Code.{riscv64}
use Rattle.bk_rv_emit.specs.Lines.{word_of}
use Rattle.bk_rv_emit.specs.Written.{jump_form, branch_form}
use Rattle.bk_rv_emit_laws.specs.Leaving.{IsWell, Path}
use Rattle.bk_rv_emit_laws.specs.Jumps.{Arrives, address, is_so}
use Rattle.bk_rv_emit_laws.specs.Ends.{Stands, LinesReach, Comes, AreLow, IsNext, JumpComes, BranchComes}
use Rattle.bk_rv_emit_laws.proofs.Paths as P
use Rattle.bk_rv_emit_laws.proofs.Words.{low_bit}
use Rattle.bk_rv_emit_laws.proofs.Standing.{stand_at, stand_behind, branch_long, same_length}
use Rattle.bk_rv_emit_laws.proofs.Reach.{jump_fits, branch_fits}
use Rattle.bk_rv_emit_laws.proofs.Turns.{jump_goes, branch_goes}
use Rattle.bk_rv_emit_laws.proofs.Families.{scratch_some}

low_of : (k n : ℕ) → k + n < 2 ^ 26 → n < 2 ^ 26
low_of k n h = omega (arith, h)

-- a jump alone
jump_alone : (target start at : ℕ) (g : ℕ → ℕ) (ws : List ℕ) (m : Machine) → IsWell m → AreLow g start at → m.pc ≡ address (start + at) → LinesReach g at ws (line.Jump target ∷ []) →
    Stands m.text (start + at) (words_from riscv64 g at ws (line.Jump target ∷ [])) → Arrives m (address (start + g target))
jump_alone target start at g [] m w l e k h = absurd k
jump_alone target start at g (s ∷ ws) m w l e k h =
    let form = jump_form s (distance at (g target)) in
    let a : start + at < 2 ^ 26 = let q = l.0 in omega (arith, q) in
    let fit = jump_fits s at (g target) (low_of start at a) (low_of start (g target) (l.1 target)) k.0.2 in
    jump_goes s start at (g target) m w (a, l.1 target) e (stand_at form m.text (start + at) m.pc (words_from riscv64 g (at + s) ws []) fit e h)

came : (A : Type 0) (m : Machine) (to : ℕ) → Arrives m to → Comes m to A
came A m to a = record { after = a.after; path = a.path; pc = a.pc; some = inl a.some }

fell : (target start at n : ℕ) (g : ℕ → ℕ) (ws : List ℕ) (m : Machine) → IsWell m → m.pc ≡ address (start + at) → n ≡ target → LinesReach g at ws [] → IsNext g at ws [] (Some n) →
    Comes m (address (start + g target)) (Some n ≡ Some target)
fell target start at n g [] m w e q k f = record {
  after = m;
  path = P.here 31 m w;
  pc = (let x = f n refl in omega (arith, x, e)) ∙ ap (λ x. address (start + g x)) q;
  some = inr (ap Some q);
}
fell target start at n g (s ∷ ws) m w e q k f = absurd k

jump_by : (t : Bool) (target start at n : ℕ) (g : ℕ → ℕ) (ws : List ℕ) (m : Machine) → (n == target) ≡ t → IsWell m → AreLow g start at → m.pc ≡ address (start + at) →
    LinesReach g at ws (cond t [] (line.Jump target ∷ [])) → Stands m.text (start + at) (words_from riscv64 g at ws (cond t [] (line.Jump target ∷ []))) →
    IsNext g at ws (cond t [] (line.Jump target ∷ [])) (Some n) → Comes m (address (start + g target)) (Some n ≡ Some target)
jump_by true target start at n g ws m q w l e k h f = fell target start at n g ws m w e (eq_of n target q) k f
jump_by false target start at n g ws m q w l e k h f = came _ m _ (jump_alone target start at g ws m w l e k h)

pub jump_comes : JumpComes
jump_comes target start at None g ws m w l e k h f = came _ m _ (jump_alone target start at g ws m w l e k h)
jump_comes target start at (Some n) g ws m w l e k h f = jump_by (n == target) target start at n g ws m refl w l e k h f

-- behind a way comes what comes
behind : (A : Type 0) (m n : Machine) (to : ℕ) (p : Path 31 m n) → 1 ≤ p.steps → Comes n to A → Comes m to ⊥
behind A m n to p l c = record {
  after = c.after;
  path = P.join 31 m n c.after p c.path;
  pc = c.pc;
  some = inl (P.join_some 31 m n c.after p c.path l);
}

-- a branch line goes to its block where what was tested is so, else behind itself
record Turns (bit : Bool) (first start at s : ℕ) (g : ℕ → ℕ) (m : Machine) : Type 0 where
  arrives : Arrives m (cond (is_so bit (reg m.regs 31)) (address (start + g first)) (address (start + (at + s))))
  long : length (map word_of (branch_form bit s (distance at (g first)))) ≡ s

branch_turns : (bit : Bool) (first start at s : ℕ) (tail : List ℕ) (g : ℕ → ℕ) (m : Machine) → IsWell m → AreLow g start (at + 3) → m.pc ≡ address (start + at) →
    (1 ≤ s) × (s ≤ 3) × (reaches true s at (g first) ≡ true) → Stands m.text (start + at) (map word_of (branch_form bit s (distance at (g first))) ++ tail) → Turns bit first start at s g m
branch_turns bit first start at s tail g m w l e k h =
    let form = branch_form bit s (distance at (g first)) in
    let a : start + at < 2 ^ 26 = let q = l.0 in omega (arith, q) in
    let fit = branch_fits bit s at (g first) (low_of start at a) (low_of start (g first) (l.1 first)) k.2 in
    let x = branch_goes bit s start at (g first) m w (a, l.1 first) e (stand_at form m.text (start + at) m.pc tail fit e h) in
    let long : length (map word_of form) ≡ s = branch_long bit s (distance at (g first)) k.0 k.1 in
    let same = same_length form in
    let pc : m.pc + 4 * length form ≡ address (start + (at + s)) = omega (arith, e, long, same) in
    record {
      arrives = record { after = x.after; path = x.path; pc = x.pc ∙ ap (cond (is_so bit (reg m.regs 31)) (address (start + g first))) pc; some = x.some };
      long = long;
    }

true_by : (t : Bool) (first second start at : ℕ) (next : Option ℕ) (g : ℕ → ℕ) (ws : List ℕ) (m : Machine) → (reg m.regs 31 == 0) ≡ t → IsWell m → AreLow g start (at + 3) → m.pc ≡ address (start + at) →
    LinesReach g at ws (line.Branch true first ∷ jump_from second next) → Stands m.text (start + at) (words_from riscv64 g at ws (line.Branch true first ∷ jump_from second next)) →
    IsNext g at ws (line.Branch true first ∷ jump_from second next) next → Comes m (address (start + g (cond t second first))) ⊥
true_by t first second start at next g [] m b w l e k h f = absurd k
true_by false first second start at next g (s ∷ ws) m b w l e k h f =
    let a = (branch_turns true first start at s (words_from riscv64 g (at + s) ws (jump_from second next)) g m w l e k.0 h).arrives in
    came ⊥ m (address (start + g first))
    (record { after = a.after; path = a.path; pc = a.pc ∙ ap (λ c. cond (not c) (address (start + g first)) (address (start + (at + s)))) b; some = a.some })
true_by true first second start at next g (s ∷ ws) m b w l e k h f =
    let words = map word_of (branch_form true s (distance at (g first))) in
    let rest = words_from riscv64 g (at + s) ws (jump_from second next) in
    let x = branch_turns true first start at s rest g m w l e k.0 h in
    let a = x.arrives in
    let long = x.long in
    let pc : a.after.pc ≡ address (start + (at + s)) = a.pc ∙ ap (λ c. cond (not c) (address (start + g first)) (address (start + (at + s)))) b in
    let here : start + at + length words ≡ start + (at + s) = omega (arith, long) in
    let d : Stands a.after.text (start + (at + s)) rest = subst (λ y. Stands y (start + (at + s)) rest) (sym a.path.keeps.text) (subst (λ y. Stands m.text y rest) here (stand_behind words rest m.text (start + at) h)) in
    let nx : IsNext g (at + s) ws (jump_from second next) next = λ y q. (let v = f y q in let z = length-append words rest in omega (arith, v, z, long)) in
    let most = k.0.1 in
    behind (next ≡ Some second) m a.after (address (start + g second)) a.path a.some
    (jump_comes second start (at + s) next g ws a.after a.path.keeps.well (let q = l.0 in omega (arith, q, most), l.1) pc k.1 d nx)

false_by : (t : Bool) (first second start at : ℕ) (g : ℕ → ℕ) (ws : List ℕ) (m : Machine) → (reg m.regs 31 == 0) ≡ t → IsWell m → AreLow g start (at + 3) → m.pc ≡ address (start + at) →
    LinesReach g at ws (line.Branch false second ∷ []) → Stands m.text (start + at) (words_from riscv64 g at ws (line.Branch false second ∷ [])) →
    g first ≡ at + length (words_from riscv64 g at ws (line.Branch false second ∷ [])) → Comes m (address (start + g (cond t second first))) ⊥
false_by t first second start at g [] m b w l e k h f = absurd k
false_by true first second start at g (s ∷ ws) m b w l e k h f =
    let a = (branch_turns false second start at s (words_from riscv64 g (at + s) ws []) g m w l e k.0 h).arrives in
    came ⊥ m (address (start + g second))
    (record { after = a.after; path = a.path; pc = a.pc ∙ ap (λ c. cond c (address (start + g second)) (address (start + (at + s)))) b; some = a.some })
false_by false first second start at g (s ∷ ws) m b w l e k h f =
    let words = map word_of (branch_form false s (distance at (g second))) in
    let rest = words_from riscv64 g (at + s) ws [] in
    let x = branch_turns false second start at s rest g m w l e k.0 h in
    let a = x.arrives in
    let long = x.long in
    let none : length rest ≡ 0 = no_rest g (at + s) ws k.1 in
    let z = length-append words rest in
    let pc : a.after.pc ≡ address (start + (at + s)) = a.pc ∙ ap (λ c. cond c (address (start + g second)) (address (start + (at + s)))) b in
    came ⊥ m (address (start + g first)) (record { after = a.after; path = a.path; pc = omega (arith, pc, f, z, none, long); some = a.some })
  where
    no_rest : (g : ℕ → ℕ) (at : ℕ) (ws : List ℕ) → LinesReach g at ws [] → length (words_from riscv64 g at ws []) ≡ 0
    no_rest g at [] k = refl
    no_rest g at (x ∷ xs) k = absurd k

-- a branch behind the control's bit
lines_by : (t : Bool) (first second start at : ℕ) (x : ℕ) (c : Bool) (g : ℕ → ℕ) (ws : List ℕ) (m : Machine) → (reg m.regs 31 == 0) ≡ t → (x == first) ≡ c → IsWell m → AreLow g start (at + 3) → m.pc ≡ address (start + at) →
    LinesReach g at ws (cond c (line.Branch false second ∷ []) (line.Branch true first ∷ jump_from second (Some x))) →
    Stands m.text (start + at) (words_from riscv64 g at ws (cond c (line.Branch false second ∷ []) (line.Branch true first ∷ jump_from second (Some x)))) →
    IsNext g at ws (cond c (line.Branch false second ∷ []) (line.Branch true first ∷ jump_from second (Some x))) (Some x) → Comes m (address (start + g (cond t second first))) ⊥
lines_by t first second start at x true g ws m b q w l e k h f = false_by t first second start at g ws m b w l e k h (ap g (sym (eq_of x first q)) ∙ f x refl)
lines_by t first second start at x false g ws m b q w l e k h f = true_by t first second start at (Some x) g ws m b w l e k h f

turn : (first second start at : ℕ) (next : Option ℕ) (g : ℕ → ℕ) (ws : List ℕ) (m : Machine) → IsWell m → AreLow g start (at + 3) → m.pc ≡ address (start + at) →
    LinesReach g at ws (branch_to first second next) → Stands m.text (start + at) (words_from riscv64 g at ws (branch_to first second next)) →
    IsNext g at ws (branch_to first second next) next → Comes m (address (start + g (cond (reg m.regs 31 == 0) second first))) ⊥
turn first second start at None g ws m w l e k h f = true_by (reg m.regs 31 == 0) first second start at None g ws m refl w l e k h f
turn first second start at (Some x) g ws m w l e k h f = lines_by (reg m.regs 31 == 0) first second start at x (x == first) g ws m refl refl w l e k h f

test_fits : (control : ℕ) → control < 32 → fits (i.OpImm Andi 31 control (pos 1)) ≡ true
test_fits control h = let t : nat_lt control 32 ≡ true = grind (arith, nat_tests) in ap (λ b. true && (b && fits_signed 12 (pos 1))) t

pub branch_comes : BranchComes
branch_comes control first second start at next g [] m w c l e k h f = absurd k
branch_comes control first second start at next g (s ∷ ws) m w c l e k h f =
    let test = i.OpImm Andi 31 control (pos 1) in
    let v = bit_and (reg m.regs control) 1 in
    let n = with_reg m 31 v in
    let one : s ≡ 1 = k.0 in
    let rest = words_from riscv64 g (at + s) ws (branch_to first second next) in
    let at0 : HasAt m.text m.pc (test ∷ []) = stand_at (test ∷ []) m.text (start + at) m.pc rest (test_fits control c, tt) e h in
    let p0 = P.here 31 m w in
    let p = P.imm 31 m m Andi 31 control (reg m.regs control) v (pos 1) p0 at0.0 refl refl (P.scratch 31) in
    let b : reg n.regs 31 ≡ reg m.regs control % 2 = P.last 31 m m 31 v p0 scratch_some (omega arith) ∙ low_bit (reg m.regs control) in
    let nx : IsNext g (at + s) ws (branch_to first second next) next = λ x q. (let y = f x q in omega (arith, y, one)) in
    let here : start + at + 1 ≡ start + (at + s) = omega (arith, one) in
    let d0 : Stands m.text (start + at + 1) rest = stand_behind (word_of test ∷ []) rest m.text (start + at) h in
    let d : Stands m.text (start + (at + s)) rest = subst (λ y. Stands m.text y rest) here d0 in
    let x = turn first second start (at + s) next g ws n p.keeps.well (let q = l.0 in omega (arith, q, one), l.1) (omega (arith, e, one)) k.1 d nx in
    let z = behind ⊥ m n (address (start + g (cond (reg n.regs 31 == 0) second first))) p (P.imm_some 31 m m Andi 31 control (reg m.regs control) v (pos 1) p0 at0.0 refl refl (P.scratch 31)) x in
    subst (λ y. Comes m (address (start + g (cond (y == 0) second first))) ⊥) b z

-- The machine that starts.
use Rattle.std.proofs.Common.{◌≡◌, ℕ, zero, suc, ◌+◌, ◌-◌, ◌*◌, ◌^◌, ◌<◌, ◌≤◌, List, [], ◌∷◌, ◌++◌, ap, ◌∙◌, sym, refl, arith}
use Rattle.std.specs.Prelude.{slice_index, replicate}
use Rattle.bk_num.specs.Bytes.{each_bytes, bytes}
use Rattle.bk_func.specs.Meaning.{World, begun, run}
use Rattle.bk_rv_isa.specs.Machine.{reg, halt, stack_top, first_eight, cells, start_regs, start}
use Rattle.bk_rv_isa.proofs.Start.{length-start, length-regs, placed_start, in_register_at_start, in_cell_at_start}
use Rattle.bk_rv_isa.proofs.Steps.{returned}
use Rattle.bk_rv_emit_laws.specs.Octets.{AreBytes}
use Rattle.bk_rv_emit_laws.proofs.Paths as P
use Rattle.bk_rv_emit_laws.proofs.Below.{append_are, bytes_are}
use Rattle.bk_run_laws.proofs.Induction.{block_law, meets}
use Rattle.bk_rv_run_laws.specs.Relation.{Image, IsBack, HasResults, riscv64, standing}
use Rattle.bk_rv_run_laws.specs.Calling.{IsCalled, MayStart, PackagesRun}
use Rattle.bk_rv_run_laws.proofs.Opening.{calls_follow}

-- words

AreWords : List ℕ → Type 0
AreWords [] = Unit {0}
AreWords (n ∷ ns) = (n < 2 ^ 64) × AreWords ns

word_of : (ns : List ℕ) (k : ℕ) → AreWords ns → slice_index ns k < 2 ^ 64
unfolding AreWords
word_of [] zero h = omega arith
word_of [] (suc k) h = omega arith
word_of (n ∷ ns) zero h = h.0
word_of (n ∷ ns) (suc k) h = word_of ns k h.1

join_words : (a b : List ℕ) → AreWords a → AreWords b → AreWords (a ++ b)
unfolding AreWords
join_words [] b h k = k
join_words (x ∷ a) b h k = (h.0, join_words a b h.1 k)

zero_words : (n : ℕ) → AreWords (replicate n 0)
unfolding AreWords
zero_words zero = tt
zero_words (suc n) = (let l : 0 < 2 ^ 64 = omega arith in l, zero_words n)

eight_words : (args : List ℕ) → ((k : ℕ) → slice_index args k < 2 ^ 64) → AreWords (first_eight args)
unfolding AreWords
eight_words args h = (h 0, (h 1, (h 2, (h 3, (h 4, (h 5, (h 6, (h 7, tt))))))))

regs_words : (stack : ℕ) (args : List ℕ) → stack ≤ stack_top → ((k : ℕ) → slice_index args k < 2 ^ 64) → AreWords (start_regs stack args)
unfolding AreWords
regs_words stack args s h =
    let l0 : 0 < 2 ^ 64 = omega arith in
    let l1 : halt < 2 ^ 64 = omega arith in
    let l2 : stack_top < 2 ^ 64 = omega arith in
    let l3 : stack_top - stack < 2 ^ 64 = omega arith in
    let last : AreWords ((stack_top - stack) ∷ replicate 4 0) = (l3, zero_words 4) in
    let third : AreWords (replicate 9 0 ++ (stack_top - stack) ∷ replicate 4 0) = join_words (replicate 9 0) ((stack_top - stack) ∷ replicate 4 0) (zero_words 9) last in
    let second = join_words (first_eight args) (replicate 9 0 ++ (stack_top - stack) ∷ replicate 4 0) (eight_words args h) third in
    (l0, (l1, (l2, join_words (replicate 7 0) (first_eight args ++ (replicate 9 0 ++ (stack_top - stack) ∷ replicate 4 0)) (zero_words 7) second)))

-- bytes

zero_bytes : (n : ℕ) → AreBytes (replicate n 0)
zero_bytes zero = tt
zero_bytes (suc n) = (let l : 0 < 256 = omega arith in l, zero_bytes n)

cell_bytes : (ns : List ℕ) → AreBytes (each_bytes 8 ns)
cell_bytes [] = tt
cell_bytes (n ∷ ns) = append_are (bytes 8 n) (each_bytes 8 ns) (bytes_are 8 n) (cell_bytes ns)

register_at : (regs : List ℕ) (k : ℕ) → reg regs (10 + k) ≡ slice_index regs (10 + k)
register_at regs k =
    let e : 10 + k ≡ suc (9 + k) = omega arith in
    ap (reg regs) e ∙ P.reg_suc regs (9 + k) ∙ ap (slice_index regs) (sym e)

pub start_is_called : (x : Image) (i : ℕ) (args : List ℕ) (results stack : ℕ) (window : List ℕ) → MayStart x i args results stack window →
    IsCalled x i args stack window halt stack_top (start x.text x.pool window (x.shape i).begin args results stack)
start_is_called x i args results stack window h =
    let long = length-start stack results args in
    let s = h.stack in
    let small = h.small in
    record {
      pc = refl;
      text = refl;
      pool = refl;
      well = record { count = length-regs stack args; words = λ k. word_of (start_regs stack args) k (regs_words stack args s h.words) };
      placed = placed_start x.text x.pool window (x.shape i).begin args results stack h.pool h.window;
      bytes = record {
        window = h.window_bytes;
        stack = append_are (replicate stack 0) (each_bytes 8 (cells args) ++ replicate (8 * results) 0) (zero_bytes stack) (append_are (each_bytes 8 (cells args)) (replicate (8 * results) 0) (cell_bytes (cells args)) (zero_bytes (8 * results)));
        pool = h.pool_bytes;
      };
      left = record { bound = refl; pointer = omega (arith, s); inside = omega (arith, long); small = omega (arith, long, s, small) };
      pointer = refl;
      return = refl;
      home = record { even = refl; near = omega arith };
      window = refl;
      low = λ k a b. register_at (start_regs stack args) k ∙ in_register_at_start stack k args a;
      high = λ k a b. in_cell_at_start x.text x.pool window (x.shape i).begin k args results stack h.pool h.window s (h.words k) a b;
    }

pub packages_run : PackagesRun
packages_run x p places one i f args results stack window n ef o h =
    let w : World = record { window = window; left = n } in
    let m = start x.text x.pool window (x.shape i).begin args results stack in
    let z = x.shape i in
    let law = block_law riscv64 (standing x p) p places one n in
    let least : n ≤ n = omega arith in
    let g = calls_follow x p (run n p) n law i f args stack window n halt stack_top m ef o h.count least (start_is_called x i args results stack window h) in
    meets riscv64 x.blocks w m (IsBack z.args z.words halt stack_top m) (HasResults z.args stack_top) (begun (run n p) p i args stack w) (λ rs v q k. (returned q k.pc, k.window, k.results)) g

-- Lists of instructions behind lines, one after the other.
use Rattle.std.proofs.Common.{◌≡◌, ◌∙◌, refl, ap, ℕ, suc, ◌+◌, ◌*◌, Bool, List, ◌++◌, map, append_assoc, arith}
use Rattle.std.proofs.lemmas.List.{map-append}
use Rattle.bk_arm_isa.specs.declared.Inst.{Inst}
use Rattle.bk_emit.specs.declared.lines.Line.{Line}
use Rattle.bk_emit.specs.declared.table.Regs.{Regs}
use Rattle.bk_arm_emit.specs.Lines.{inst}
use Rattle.bk_arm_emit.specs.Units.{chunk, fours}

-- two lists of instructions behind lines
pub two_put : (o : List Line) (a b : List Inst) → o ++ map inst (a ++ b) ≡ (o ++ map inst a) ++ map inst b
two_put o a b = simp (map-append, append_assoc)

-- three
pub three_put : (o : List Line) (a b c : List Inst) → o ++ map inst (a ++ (b ++ c)) ≡ ((o ++ map inst a) ++ map inst b) ++ map inst c
three_put o a b c = simp (map-append, append_assoc)

fours_suc : (m : Bool) (r : Regs) (n : ℕ) → fours m r (suc n) ≡ fours m r n ++ chunk m r 4 (4 * n)
unfolding fours
fours_suc m r n = refl

-- one more piece of four bytes
pub fours_more : (o : List Line) (m : Bool) (r : Regs) (n : ℕ) → o ++ map inst (fours m r (n + 1)) ≡ (o ++ map inst (fours m r n)) ++ map inst (chunk m r 4 (4 * n))
fours_more o m r n =
    let next : n + 1 ≡ suc n = omega arith in
    let is = ap (λ k. fours m r k) next ∙ fours_suc m r n in
    ap (λ is. o ++ map inst is) is ∙ two_put o (fours m r n) (chunk m r 4 (4 * n))

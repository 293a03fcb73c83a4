-- The pieces of zeros and moves.
use Rattle.std.proofs.Common.{◌≡◌, ◌∙◌, sym, refl, ap, ℕ, suc, ◌+◌, ◌*◌, Bool, List, ◌++◌, map, append_assoc, arith}
use Rattle.std.proofs.lemmas.List.{map-append}
use Rattle.bk_rv_isa.specs.declared.inst.Inst.{Inst}
use Rattle.bk_emit.specs.declared.lines.Line.{Line}
use Rattle.bk_rv_emit.specs.Lines.{inst}
use Rattle.bk_emit.specs.declared.table.Regs.{Regs}
use Rattle.bk_rv_emit.specs.Units.{chunk, eights}

eights_suc : (m : Bool) (r : Regs) (n : ℕ) → eights m r (suc n) ≡ eights m r n ++ chunk m r 8 (8 * n)
unfolding eights
eights_suc m r n = refl

-- one more piece of eight bytes
pub eights_more : (o : List Line) (m : Bool) (r : Regs) (n : ℕ) → o ++ map inst (eights m r (n + 1)) ≡ (o ++ map inst (eights m r n)) ++ map inst (chunk m r 8 (8 * n))
eights_more o m r n =
    let next : n + 1 ≡ suc n = omega arith in
    let is = ap (λ k. eights m r k) next ∙ eights_suc m r n in
    ap (λ is. o ++ map inst is) is ∙ (ap (λ ls. o ++ ls) (map-append inst (eights m r n) (chunk m r 8 (8 * n))) ∙ sym (append_assoc o (map inst (eights m r n)) (map inst (chunk m r 8 (8 * n)))))

-- four lists of instructions behind lines
pub chunks_put : (o : List Line) (e a b c : List Inst) → o ++ map inst (e ++ (a ++ (b ++ c))) ≡ (((o ++ map inst e) ++ map inst a) ++ map inst b) ++ map inst c
chunks_put o e a b c = simp (map-append, append_assoc)

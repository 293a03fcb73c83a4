use Rattle.std.proofs.Common.{◌*◌, ◌/◌, length, sym, ap, ◌∙◌, arith}
use Rattle.std.proofs.lemmas.List.{take_rest}
use Rattle.bk_elf.specs.Loading.{is_function}
use Rattle.bk_elf.proofs.Signing.{function_more, other_more}
use Rattle.bk_elf.proofs.signatures.count_functions.Goals as goal
use Rattle.bk_elf.proofs.signatures.count_functions.Goals.{then-is_function, else-is_function}

pub loop-k-preserved : goal.loop-k-preserved
loop-k-preserved c =
    let f = is_function c.args.target in
    let size = c.class_of-size.result.st_entsize in
    let n = length c.args.symtab.now / size in
    let slice = ap f (take_rest c.args.symtab.now (size * c.loop-k.k)) in
    elim c.if-is_function.branch [
      | then-is_function w ↦
          let more = function_more f size n c.loop-k.k c.args.symtab.now c.loop-k-test.true (sym slice ∙ sym c.is_function.ensures ∙ w.if-is_function.true) in
          record { left = omega (arith, more, w.count-is, c.loop-k.invariant.left); few = omega (arith, w.count-is, c.loop-k.invariant.few) }
      | else-is_function w ↦
          let more = other_more f size n c.loop-k.k c.args.symtab.now c.loop-k-test.true (sym slice ∙ sym c.is_function.ensures ∙ w.if-is_function.false) in
          record { left = omega (arith, more, w.count-is, c.loop-k.invariant.left); few = omega (arith, w.count-is, c.loop-k.invariant.few) }
    ]

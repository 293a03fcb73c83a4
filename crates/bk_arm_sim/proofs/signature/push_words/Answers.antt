use Rattle.std.proofs.Common.{◌∙◌, ◌++◌, ◌*◌, ◌+◌, ap, sym, drop, get_or, append_assoc, arith}
use Rattle.bk_num.specs.Bytes.{bytes}
use Rattle.bk_arm_isa.specs.Machine.{word_bytes}
use Rattle.bk_ops.specs.declared.types.Target.TheVariants.{Arm}
use Rattle.bk_func.specs.Words.{all_words}
use Rattle.bk_arm_sim.proofs.Words.{next_value}
use Rattle.bk_arm_sim.proofs.signature.push_words.Goals as goal

pub loop-place-preserved : goal.loop-place-preserved
loop-place-preserved c =
    let next = next_value c.args.types.now c.args.args.now c.loop-place.place (omega arith) c.loop-place.invariant.fitting in
    let rest = word_bytes (all_words Arm (drop (c.loop-place.place + 1) c.args.types.now) (drop (c.loop-place.place + 1) c.args.args.now)) in
    let n = get_or c.args.args.now c.loop-place.place 0 in
    record {
      is = ap (λ l. l ++ rest) c.in_ok-push_bytes.ensures.ok
          ∙ append_assoc c.loop-place.out.items (bytes (4 * c.words_of_type-size.result) n) rest
          ∙ ap (λ k. c.loop-place.out.items ++ (bytes (4 * k) n ++ rest)) c.words_of_type-size.ensures
          ∙ ap (λ l. c.loop-place.out.items ++ l) (sym next.words)
          ∙ c.loop-place.invariant.is;
      fitting = next.fitting;
    }

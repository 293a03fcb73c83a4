use Rattle.std.proofs.Common.{sym, ◌∙◌, ap, ◌-◌, ◌+◌, take, drop, ◌++◌, Some, None, ◌≡◌, arith, false, subst}
use Rattle.std.specs.Prelude.{if◌then◌else◌}
use Rattle.bk_num.specs.Bytes.{is_within}
use Rattle.bk_num.specs.Memory.{data_base}
use Rattle.bk_num.proofs.Bytes.{bounds}
use Rattle.bk_ops.specs.Memory.{do_overlap}
use Rattle.bk_mean.proofs.Windows.{found, move_there, all_bytes, bytes_within, AllBytes}
use Rattle.bk_mean.proofs.memory.copy_bytes.Goals as goal

pub returns-clause-done : goal.returns-clause-done
returns-clause-done c _ =
    let w = c.args.window.now.items in
    let f = found (is_within data_base w c.args.count c.args.from) (c.args.from - data_base) c.in-Some.source
    (sym c.in-Some.is ∙ c.place.ensures ∙ ap (λ xs. if is_within data_base xs c.args.count c.args.from then Some (c.args.from - data_base) else None) c.deref.ensures.value) in
    let t = found (is_within data_base w c.args.count c.args.to) (c.args.to - data_base) c.in-Some-place.target
    (sym c.in-Some-place.is ∙ c.place-2.ensures ∙ ap (λ xs. if is_within data_base xs c.args.count c.args.to then Some (c.args.to - data_base) else None) c.deref-2.ensures.value) in
    let bf = bounds data_base c.args.count c.args.from w f.0 in
    let bt = bounds data_base c.args.count c.args.to w t.0 in
    let et : data_base + c.in-Some-place.target ≡ c.args.to = omega (arith, t.1, bt.0) in
    let ef : data_base + c.in-Some.source ≡ c.args.from = omega (arith, f.1, bf.0) in
    let apart : do_overlap c.args.count c.args.to c.args.from ≡ false =
    ap (λ x. do_overlap c.args.count x c.args.from) (sym et) ∙ ap (λ x. do_overlap c.args.count (data_base + c.in-Some-place.target) x) (sym ef) ∙ sym c.shares.ensures ∙ c.if-shares.false in
    let n : c.in-Some.source + c.args.count - c.in-Some.source ≡ c.args.count = omega arith in
    let new : c.copy_within.new.self.items ≡ (take c.in-Some-place.target w ++ take c.args.count (drop c.in-Some.source w)) ++ drop (c.in-Some-place.target + c.args.count) w =
    c.copy_within.ensures.items ∙ ap (λ k. (take c.in-Some-place.target w ++ take k (drop c.in-Some.source w)) ++ drop (c.in-Some-place.target + k) w) n in
    let all = subst AllBytes new (all_bytes c.copy_within.new.self.items c.type_inv.window) in
    let slice = bytes_within (take c.in-Some-place.target w) (take c.args.count (drop c.in-Some.source w)) (drop (c.in-Some-place.target + c.args.count) w) all in
    move_there w c.args.count c.args.to c.args.from f.0 t.0 apart (subst (λ k. AllBytes (take c.args.count (drop k w))) f.1 slice)
    ∙ ap (λ k. Some ((take (c.args.to - data_base) w ++ take c.args.count (drop k w)) ++ drop (c.args.to - data_base + c.args.count) w)) (sym f.1)
    ∙ ap (λ k. Some ((take k w ++ take c.args.count (drop c.in-Some.source w)) ++ drop (k + c.args.count) w)) (sym t.1)
    ∙ ap Some (sym new)

use Rattle.std.proofs.Common.{sym, ◌∙◌, ap, ◌-◌, ◌+◌, take, drop, replicate, ◌++◌, length, Some, None, ◌≡◌, arith}
use Rattle.std.specs.Prelude.{if◌then◌else◌}
use Rattle.bk_num.specs.Bytes.{is_within}
use Rattle.bk_num.specs.Memory.{data_base}
use Rattle.bk_mean.proofs.Windows.{found, lost, zeros_there, zeros_elsewhere, in_place}
use Rattle.bk_mean.proofs.memory.write_zeros.Goals as goal

pub returns-in-Some-clause-value : goal.returns-in-Some-clause-value
returns-in-Some-clause-value c =
    let w = c.args.window.now.items in
    let f = found (is_within data_base w c.args.count c.args.address) (c.args.address - data_base) c.in-Some.at
    (sym c.in-Some.is ∙ c.place.ensures ∙ ap (λ xs. if is_within data_base xs c.args.count c.args.address then Some (c.args.address - data_base) else None) c.deref.ensures.value) in
    let new : c.clear.new.window ≡ take c.in-Some.at w ++ (replicate c.args.count 0 ++ drop (c.in-Some.at + c.args.count) w) =
    c.clear.ensures ∙ ap (λ xs. take c.in-Some.at xs ++ (replicate c.args.count 0 ++ drop (c.in-Some.at + c.args.count) xs)) c.deref_mut.ensures.value in
    zeros_there w c.args.count c.args.address f.0
    ∙ ap (λ at. Some (take at w ++ (replicate c.args.count 0 ++ drop (at + c.args.count) w))) (sym f.1)
    ∙ ap Some (sym new)
    ∙ ap Some (sym (in_place c.args.window.now.len c.clear.new.window w
    (let e = ap length c.deref_mut.ensures.value in omega arith) (let e = ap length c.deref_mut.ensures.value in omega arith)))

pub returns-in-None-clause-value : goal.returns-in-None-clause-value
returns-in-None-clause-value c =
    let w = c.args.window.now.items in
    zeros_elsewhere w c.args.count c.args.address
    (lost (is_within data_base w c.args.count c.args.address) (c.args.address - data_base)
    (sym c.in-None.is ∙ c.place.ensures ∙ ap (λ xs. if is_within data_base xs c.args.count c.args.address then Some (c.args.address - data_base) else None) c.deref.ensures.value))

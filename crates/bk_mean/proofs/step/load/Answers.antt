use Rattle.std.proofs.Common.{rules, ◌≡◌, ◌+◌, ◌%◌, ◌^◌, sym, ◌∙◌, ap, Some, None, arith}
use Rattle.std.specs.Prelude.{slice_set}
use Rattle.bk_num.specs.Word.{residue}
use Rattle.bk_num.specs.Bytes.{load_in}
use Rattle.bk_num.specs.Memory.{data_base}
use Rattle.bk_ops.specs.Types.{word_width}
use Rattle.bk_func.specs.Numbers.{address_by, load_size, made_of}
use Rattle.bk_mean.specs.Machine.{arg_number}
use Rattle.bk_mean.proofs.Inputs.{arg_is}
use Rattle.bk_mean.proofs.Acts.{loaded_on, loaded_read, loaded_off}
use Rattle.bk_mean.proofs.step.load.Goals as goal

pub returns-in-Some-clause-fault : goal.returns-in-Some-clause-fault
returns-in-Some-clause-fault c = λ m r s.
    let f : c.arg.result ≡ arg_number c.args.numbers.now c.args.ready.now.args.items 0 = search rules in
    let g : c.address-address.result ≡ (c.arg.result + residue (word_width c.args.target) c.args.value.now.int) % 2 ^ word_width c.args.target = search rules in
    let a : c.address-address.result ≡ address_by c.args.target c.args.value.now m =
    g ∙ ap (λ x. (x + residue (word_width c.args.target) c.args.value.now.int) % 2 ^ word_width c.args.target) (f ∙ arg_is c.args.numbers.now c.args.ready.now.args.items m c.args.value.now.args 0 r s.0) in
    let l : c.load_size.result ≡ load_size c.args.target c.args.value.now.ty c.args.value.now.op c.args.value.now.op.family = search rules in
    let z : c.min-size.result ≡ load_size c.args.target c.args.value.now.ty c.args.value.now.op c.args.value.now.op.family = omega (arith, l, s.1, c.min-size.ensures) in
    let e : load_in data_base c.args.window.now c.min-size.result c.address-address.result ≡ Some c.in-Some.read = sym c.load_in.ensures.value ∙ c.in-Some.is in
    sym (loaded_on c.args.target c.args.value.now c.args.window.now m c.address-address.result c.min-size.result c.in-Some.read a z e)

pub returns-in-Some-clause-number : goal.returns-in-Some-clause-number
returns-in-Some-clause-number c = λ m r s n.
    let f : c.arg.result ≡ arg_number c.args.numbers.now c.args.ready.now.args.items 0 = search rules in
    let g : c.address-address.result ≡ (c.arg.result + residue (word_width c.args.target) c.args.value.now.int) % 2 ^ word_width c.args.target = search rules in
    let a : c.address-address.result ≡ address_by c.args.target c.args.value.now m =
    g ∙ ap (λ x. (x + residue (word_width c.args.target) c.args.value.now.int) % 2 ^ word_width c.args.target) (f ∙ arg_is c.args.numbers.now c.args.ready.now.args.items m c.args.value.now.args 0 r s.0) in
    let l : c.load_size.result ≡ load_size c.args.target c.args.value.now.ty c.args.value.now.op c.args.value.now.op.family = search rules in
    let z : c.min-size.result ≡ load_size c.args.target c.args.value.now.ty c.args.value.now.op c.args.value.now.op.family = omega (arith, l, s.1, c.min-size.ensures) in
    let e : load_in data_base c.args.window.now c.min-size.result c.address-address.result ≡ Some c.in-Some.read = sym c.load_in.ensures.value ∙ c.in-Some.is in
    let b : c.made_of.result ≡ made_of c.args.value.now.op.family c.args.value.now.ty c.args.value.now.op.a c.in-Some.read = search rules in
    c.set.ensures
    ∙ ap (slice_set c.args.numbers.now c.args.place)
    (b ∙ ap (made_of c.args.value.now.op.family c.args.value.now.ty c.args.value.now.op.a) (sym (loaded_read c.args.target c.args.value.now c.args.window.now m c.address-address.result c.min-size.result c.in-Some.read a z e)))

pub returns-in-None-clause-fault : goal.returns-in-None-clause-fault
returns-in-None-clause-fault c = λ m r s.
    let f : c.arg.result ≡ arg_number c.args.numbers.now c.args.ready.now.args.items 0 = search rules in
    let g : c.address-address.result ≡ (c.arg.result + residue (word_width c.args.target) c.args.value.now.int) % 2 ^ word_width c.args.target = search rules in
    let a : c.address-address.result ≡ address_by c.args.target c.args.value.now m =
    g ∙ ap (λ x. (x + residue (word_width c.args.target) c.args.value.now.int) % 2 ^ word_width c.args.target) (f ∙ arg_is c.args.numbers.now c.args.ready.now.args.items m c.args.value.now.args 0 r s.0) in
    let l : c.load_size.result ≡ load_size c.args.target c.args.value.now.ty c.args.value.now.op c.args.value.now.op.family = search rules in
    let z : c.min-size.result ≡ load_size c.args.target c.args.value.now.ty c.args.value.now.op c.args.value.now.op.family = omega (arith, l, s.1, c.min-size.ensures) in
    let e : load_in data_base c.args.window.now c.min-size.result c.address-address.result ≡ None = sym c.load_in.ensures.value ∙ c.in-None.is in
    sym (loaded_off c.args.target c.args.value.now c.args.window.now m c.address-address.result c.min-size.result a z e)

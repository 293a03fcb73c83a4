use Rattle.std.proofs.Common.{◌≡◌, ap, arith}
use Rattle.bk_elf.specs.declared.tables.Class.{Class}
use Rattle.bk_elf.specs.Tables.{class_of}
use Rattle.bk_elf.proofs.Headers.{section_room, size_room}
use Rattle.bk_elf.proofs.opening.size_of.Goals as goal

pub overflow_add-place-2 : goal.overflow_add-place-2
overflow_add-place-2 c =
    let same : c.class_of-class.result ≡ class_of c.args.target = c.class_of-class.ensures in
    let room = section_room c.args.section c.class_of-class.result.e_shentsize in
    let size = size_room c.args.target in
    let a = ap (λ (k : Class). k.sh_size) same in
    let b = ap (λ (k : Class). k.e_shentsize) same in
    rw c.number.ensures (omega (arith, c.requires.whole, room, size, a, b))

use Rattle.std.proofs.Common.{arith}
use Rattle.bk_elf.proofs.Headers.{extent-file_header, header_small}
use Rattle.bk_elf.proofs.opening.header_fault.Goals as goal

pub first_fault-requires : goal.first_fault-requires
first_fault-requires c =
    rw c.file_header-header.ensures (omega (arith, extent-file_header c.args.target c.fitting_offset.result, c.requires.room))

pub overflow_cast-result : goal.overflow_cast-result
overflow_cast-result c =
    let small = header_small c.args.target c.args.bytes.now c.fitting_offset.result in
    let fault = rw c.file_header-header.ensures at c.in-Some.ensures in
    let below = rw (← fault) at small in
    omega arith

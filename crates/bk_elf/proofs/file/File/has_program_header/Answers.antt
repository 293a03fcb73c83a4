use Rattle.std.proofs.Common.{arith}
use Rattle.bk_elf.proofs.Headers.{extent-program_header, program_room}
use Rattle.bk_elf.proofs.file.File.has_program_header.Goals as goal

pub first_fault-requires : goal.first_fault-requires
first_fault-requires c =
    let extent = extent-program_header c.args.self.now.target c.args.section c.args.begin c.args.size in
    let room = program_room c.args.self.now.target c.args.section c.requires in
    let whole = c.args.self.now.whole in
    rw (c.program_header-header.ensures, extent, c.number.ensures, c.class_of-class.ensures) (omega (arith, room, whole))

use Rattle.std.proofs.Common.{arith}
use Rattle.bk_elf.specs.Tables.{class_of}
use Rattle.bk_elf.proofs.Headers.{extent-section_header, section_room}
use Rattle.bk_elf.proofs.file.File.has_header.Goals as goal

pub first_fault-requires : goal.first_fault-requires
first_fault-requires c =
    let extent = extent-section_header c.args.self.now.target c.args.section c.args.begin c.args.size in
    let room = section_room c.args.section (class_of c.args.self.now.target).e_shentsize in
    let whole = c.args.self.now.whole in
    rw (c.section_header-header.ensures, extent, c.number.ensures, c.class_of-class.ensures) (omega (arith, room, whole))

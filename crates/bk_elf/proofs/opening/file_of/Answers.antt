use Rattle.std.proofs.Common.{ap, arith}
use Rattle.bk_ops.specs.declared.types.Target.{Target}
use Rattle.bk_elf.specs.Tables.{class_of}
use Rattle.bk_elf.proofs.Headers.{offset_reaches}
use Rattle.bk_elf.proofs.opening.file_of.Goals as goal

pub sizes_of-requires-clause-whole : goal.sizes_of-requires-clause-whole
sizes_of-requires-clause-whole c =
    let reach = offset_reaches c.args.bytes.now c.requires.header in
    let same = ap (λ (t : Target). (class_of t).e_shentsize) c.requires.target in
    omega (arith, reach, same, c.offset_of-offset.ensures, c.headers_size-size.ensures)

pub invariant_of-result : goal.invariant_of-result
invariant_of-result c =
    let reach = offset_reaches c.args.bytes.now c.requires.header in
    let same = ap (λ (t : Target). (class_of t).e_shentsize) c.requires.target in
    record {
      target_is = c.requires.target;
      offset_is = c.offset_of-offset.ensures;
      sizes_are = c.sizes_of.ensures;
      whole = omega (arith, reach, same, c.offset_of-offset.ensures, c.headers_size-size.ensures);
    }

use Rattle.std.proofs.Common.{arith}
use Rattle.bk_elf.specs.Object.{IsSig}
use Rattle.bk_elf.specs.Functions.{function_of}
use Rattle.bk_elf.proofs.Lookup.{function_sig, none_found, none_has, mapped_none, mapped_some}
use Rattle.bk_elf.proofs.functions.function.Goals as goal

pub returns-clause-none : goal.returns-clause-none
returns-clause-none c =
    let o = c.args.image.now in
    let name = c.args.name.now in
    let same = mapped_none _ c.found.result (function_of o name) c.found.ensures in
    let few = c.requires.counted in (
      λ n. none_has o.symbols o.sigs name (omega arith) (same.0 n),
      λ h. same.1 (none_found o.symbols o.sigs name h),
    )

pub returns-clause-sig : goal.returns-clause-sig
returns-clause-sig c =
    let o = c.args.image.now in
    let name = c.args.name.now in
    mapped_some _ c.found.result (function_of o name) (λ f. IsSig o.types f.1) c.found.ensures
    (λ f e. function_sig (IsSig o.types) o.symbols o.sigs name f.0 f.1 c.requires.sigs e)

use Rattle.std.proofs.Common.{map, inl, refl}
use Rattle.std.specs.Prelude.{string_bytes}
use Rattle.bk_func.specs.Records.{PackageRecord}
use Rattle.bk_dump.specs.declared.read.errors.DumpError.TheVariants as dump_error
use Rattle.bk_dump.specs.Resolved.{package_of}
use Rattle.bk_dump.proofs.Whole.{not_named, is_read, looks_failed}
use Rattle.bk_dump.proofs.read.package.package_of.Goals as goal

pub returns-in_err-funcs : goal.returns-in_err-funcs
returns-in_err-funcs c =
    let names = map (λ n. n.now) c.args.names.keys in
    looks_failed {X = PackageRecord} {Y = PackageRecord} (λ p. p) c.from_residual.result c.in_err-funcs.field-0.0 (package_of names c.args.funcs.items c.args.vars.items) c.from_residual.ensures.1
    (not_named c.in_err-funcs.field-0.0 names c.args.funcs.items c.args.vars.items c.in_err-funcs.ensures)

pub returns-in_err-names : goal.returns-in_err-names
returns-in_err-names c =
    looks_failed {X = PackageRecord} {Y = PackageRecord} (λ p. p) c.from_residual-in_err-names.result dump_error.Memory (package_of (map (λ n. n.now) c.args.names.keys) c.args.funcs.items c.args.vars.items) c.from_residual-in_err-names.ensures.1 (inl refl)

pub returns : goal.returns
returns c = is_read (map (λ n. n.now) c.args.names.keys) (map string_bytes c.in_ok-names.names.items) c.args.funcs.items c.args.vars.items c.in_ok-funcs.funcs.items c.in_ok-funcs.ensures c.in_ok-names.ensures

use Rattle.std.proofs.Common.{◌≡◌, ap, None}
use Rattle.std.proofs.lemmas.Result.{err_from_is_err_and}
use Rattle.bk_dump.specs.Trees.{HeaderTree}
use Rattle.bk_dump.specs.Drafts.{header_fault}
use Rattle.bk_dump.specs.Views.{state}
use Rattle.bk_dump.proofs.Faults.{new_func}
use Rattle.bk_dump.proofs.read.declare.declare_func.Goals as goal

pub add_name-requires : goal.add_name-requires
add_name-requires c =
    let none : header_fault (state c.args.reader.now) c.args.line ≡ None = cc (c.in_default.ensures) in
    new_func (state c.args.reader.now) c.args.line c.line.inside.name.now none (ap (λ (h : HeaderTree). h.name) c.line.view_is)

pub returns-in_err-add_name : goal.returns-in_err-add_name
returns-in_err-add_name c =
    let p = err_from_is_err_and c.from_residual-in_err-add_name.result c.from_residual-in_err-add_name.ensures.1 in
    rw (p.1, p.2) tt

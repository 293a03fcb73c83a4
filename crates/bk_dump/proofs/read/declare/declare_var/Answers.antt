use Rattle.std.proofs.Common.{◌≡◌, ◌+◌, ◌/◌, ◌*◌, ap, ◌∙◌, sym, map, List, ℕ, None, arith, ◌++◌, ◌∷◌, []}
use Rattle.bk_dump.specs.Trees.{VarTree}
use Rattle.bk_dump.specs.Drafts.{var_fault}
use Rattle.bk_dump.specs.Views.{state}
use Rattle.bk_dump.proofs.Faults.{new_var, var_fits}
use denote.Bor.{Bor}
use Rattle.bk_dump.proofs.Sets.{length_of_map}
use Rattle.bk_dump.proofs.Stages.{var_declared, same_var}
use Rattle.bk_dump.proofs.read.declare.declare_var.Goals as goal

pub overflow_cast-size : goal.overflow_cast-size
overflow_cast-size c =
    let none : var_fault (state c.args.reader.now) c.args.line ≡ None = cc (c.in_default.ensures) in
    let fits = var_fits (state c.args.reader.now) c.args.line none in
    let size = ap (λ (v : VarTree). v.size) c.line.view_is in
    omega arith

pub overflow_cast-size-2 : goal.overflow_cast-size-2
overflow_cast-size-2 c =
    let none : var_fault (state c.args.reader.now) c.args.line ≡ None = cc (c.in_default.ensures) in
    let fits = var_fits (state c.args.reader.now) c.args.line none in
    let size = ap (λ (v : VarTree). v.size) c.line.view_is in
    omega arith

pub add_name-requires : goal.add_name-requires
add_name-requires c =
    let none : var_fault (state c.args.reader.now) c.args.line ≡ None = cc (c.in_default.ensures) in
    new_var (state c.args.reader.now) c.args.line c.line.inside.name.now none (ap (λ (v : VarTree). v.name) c.line.view_is)

pub overflow_add-reader : goal.overflow_add-reader
overflow_add-reader c =
    let none : var_fault (state c.args.reader.now) c.args.line ≡ None = cc (c.in_default.ensures) in
    let fits = var_fits (state c.args.reader.now) c.args.line none in
    let size = ap (λ (v : VarTree). v.size) c.line.view_is in
    omega arith

pub overflow_add-reader-2 : goal.overflow_add-reader-2
overflow_add-reader-2 c =
    let none : var_fault (state c.args.reader.now) c.args.line ≡ None = cc (c.in_default.ensures) in
    let fits = var_fits (state c.args.reader.now) c.args.line none in
    let size = ap (λ (v : VarTree). v.size) c.line.view_is in
    omega arith

pub overflow_mul-reader : goal.overflow_mul-reader
overflow_mul-reader c =
    let none : var_fault (state c.args.reader.now) c.args.line ≡ None = cc (c.in_default.ensures) in
    let fits = var_fits (state c.args.reader.now) c.args.line none in
    let size = ap (λ (v : VarTree). v.size) c.line.view_is in
    omega arith

pub returns : goal.returns
returns c =
    let none : var_fault (state c.args.reader.now) c.args.line ≡ None = cc (c.in_default.ensures) in
    let s = state c.args.reader.now in
    let size = ap (λ (v : VarTree). v.size) c.line.view_is in
    var_declared s c.args.line (map (λ n. n.now) c.add_name.new.names.keys) c.push.new.self.items ((c.args.reader.now.window + c.from.result + 7) / 8 * 8) none
    (c.in_ok-add_name.ensures ∙ ap (λ n. s.names ++ n ∷ []) (ap (λ (v : VarTree). v.name) c.line.view_is))
    (c.in_ok-push.ensures.items ∙ ap (λ x. s.vars ++ x ∷ []) (same_var s c.args.line c.in_ok-name.name c.line.inside.size c.in_ok-bytes.bytes.items c.line.inside.hex.now (c.in_ok-name.ensures ∙ c.len.ensures.len ∙ sym (length_of_map {A = Bor (List ℕ)} (λ n. n.now) c.args.reader.now.names.keys)) size c.in_ok-bytes.ensures (ap (λ (v : VarTree). v.hex) c.line.view_is)))
    (ap (λ n. (c.args.reader.now.window + n + 7) / 8 * 8) (c.from.ensures ∙ size))

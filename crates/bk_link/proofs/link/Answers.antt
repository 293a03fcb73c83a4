use Rattle.std.proofs.Common.{◌≡◌, ◌∙◌, ◌≤◌, ℕ, map, Vec, Global, Err, sym, ap, subst, arith}
use Rattle.bk_elf.specs.Object.{IsObject}
use Rattle.bk_piece.specs.Filled.{area}
use Rattle.bk_piece.specs.Rising.{keys_in}
use Rattle.bk_link.specs.declared.errors.LinkError.TheVariants as why
use Rattle.bk_link.specs.Linked.{code_size}
use Rattle.bk_link.proofs.Objects.{is_object}
use Rattle.bk_link.proofs.Signed.{piece_count}
use Rattle.bk_link.proofs.link.Goals as goal

pub code_size-bytes-requires-clause-few : goal.code_size-bytes-requires-clause-few
code_size-bytes-requires-clause-few c = let few = c.requires.named.few_funcs in omega (arith, piece_count _ c.args.pkg.now.funcs c.args.pieces.now c.requires.typed)

pub write_elf-requires : goal.write_elf-requires
write_elf-requires c =
    let small : code_size c.args.pieces.now (keys_in c.area.result.now) ≤ 16777216 = omega (arith, c.code_size-bytes.ensures, c.if-bytes-gt-CODE_LIMIT.false) in
    let limit = subst (λ w. code_size c.args.pieces.now (keys_in w) ≤ 16777216) c.area.ensures small in
    subst IsObject (sym c.in_ok-object.ensures) (is_object c.args.pkg.now c.args.target c.args.pieces.now _ c.requires limit)

pub returns-clause-within : goal.returns-clause-within
returns-clause-within c =
    let small : code_size c.args.pieces.now (keys_in c.area.result.now) ≤ 16777216 = omega (arith, c.code_size-bytes.ensures, c.if-bytes-gt-CODE_LIMIT.false) in
    subst (λ w. code_size c.args.pieces.now (keys_in w) ≤ 16777216) c.area.ensures small

pub returns-then-bytes-gt-CODE_LIMIT-clause-text : goal.returns-then-bytes-gt-CODE_LIMIT-clause-text
returns-then-bytes-gt-CODE_LIMIT-clause-text c = λ n.
    let words = map (λ (w : Vec ℕ Global). w.items) c.args.words.now in
    let size : c.code_size-bytes.result ≡ code_size c.args.pieces.now (keys_in (area words 2)) = c.code_size-bytes.ensures ∙ ap (λ w. code_size c.args.pieces.now (keys_in w)) c.area.ensures in
    let over = c.if-bytes-gt-CODE_LIMIT.true in
    let told = c.too_long.ensures n in
    (λ is. let e : c.too_long.result ≡ why.Text n = cc in let t = told.0 e in (t.0 ∙ size, omega (arith, t.0, over), t.1), λ h. ap Err (told.1 (h.0 ∙ sym size, h.2)))

use Rattle.std.proofs.Common.{◌≡◌, ℕ, List, length, map, rules, subst, Vec, Global}
use Rattle.std.specs.Prelude.{◌↔◌, IsTrue}
use Rattle.std.specs.List.{All}
use Rattle.bk_piece.specs.declared.Handle.{Handle}
use Rattle.bk_piece.specs.declared.Patch.{Patch}
use Rattle.bk_link.specs.Conditions.{IsPatch}
use Rattle.bk_link.proofs.linkable.has_patches.Goals as goal

pub returns-then-not-is_empty : goal.returns-then-not-is_empty
returns-then-not-is_empty c =
    let words = map (λ (w : Vec ℕ Global). w.items) c.args.words.now in
    let size : c.len.result ≡ length c.args.piece.now.code = search rules in
    let handles : c.deref.result.now ≡ c.args.piece.now.handles = search rules in
    let told = subst (λ (n : ℕ). IsTrue c.are_patches.result ↔ All (IsPatch c.args.target words n) c.deref.result.now) size c.are_patches.ensures in
    let whole = subst (λ (hs : List (ℕ × Patch × Handle)). IsTrue c.are_patches.result ↔ All (IsPatch c.args.target words (length c.args.piece.now.code)) hs) handles told in
    ((λ t. record { some = search rules; patches = whole.0 t }), (λ h. whole.1 h.patches))

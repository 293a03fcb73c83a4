use borrow.Author.Tests.{tests}
use Rattle.std.proofs.Common.{ℕ, map, rules, Vec, Global}
use Rattle.std.specs.List.{zip}
use Rattle.std.proofs.lemmas.Iterator.{cases_from_all, YieldsList-from_slice, YieldsList-from_zip}
use Rattle.bk_func.specs.Records.{FuncRecord}
use Rattle.bk_piece.specs.Pieces.{PieceRecord}
use Rattle.bk_link.proofs.Tested.{decided}
use Rattle.bk_link.proofs.Typed.{HasTypes, zip_typed}
use Rattle.bk_link.proofs.linkable.all_typed.Goals as goal

pub returns : goal.returns
returns c =
    let words = map (λ (w : Vec ℕ Global). w.items) c.args.words.now in
    let told = decided (HasTypes words) (zip c.args.funcs.now c.args.pieces.now) c.all.result
    (cases_from_all c.all.new.self _ _ (HasTypes words) (λ (q : FuncRecord × PieceRecord). HasTypes words q → ⊥) c.all.ensures.ran (YieldsList-from_zip (YieldsList-from_slice c.args.funcs.now cc) (YieldsList-from_slice c.args.pieces.now cc)) (λ x q k. search (rules, tests)) (λ x q k. search (rules, tests))) in
    let typed = zip_typed words c.args.funcs.now c.args.pieces.now c.requires in
    ((λ t. typed.0 (told.0 t)), (λ h. told.1 (typed.1 h)))

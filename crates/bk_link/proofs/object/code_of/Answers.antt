use Rattle.std.proofs.Common.{◌≡◌, ◌∙◌, sym, ap, subst, ℕ, List, map, Vec, Global}
use Rattle.bk_piece.specs.Filled.{area, filled}
use Rattle.bk_piece.specs.Rising.{Rise, full, keys_in}
use Rattle.bk_piece.proofs.Rising.{rising_rises}
use Rattle.bk_link.specs.Addresses.{address_of}
use Rattle.bk_link.specs.Texts.{text_of}
use Rattle.bk_link.proofs.Filling.{text_filled, can_patch}
use Rattle.bk_link.proofs.object.code_of.Goals as goal

pub new-requires-clause-rising : goal.new-requires-clause-rising
new-requires-clause-rising c = subst Rise (sym (c.deref.ensures.value ∙ c.in_ok-pool.ensures)) (rising_rises (full c.area.result.now))

pub text_of-requires-clause-pieces : goal.text_of-requires-clause-pieces
text_of-requires-clause-pieces c =
    let words = map (λ (w : Vec ℕ Global). w.items) c.args.words.now in
    can_patch c.args.target words c.args.sites.now c.deref.result.now c.in_ok-addresses.addresses c.in_ok-addresses.ensures.symbols c.in_ok-addresses.ensures.constants c.args.pieces.now c.requires.pieces

pub returns-clause-text : goal.returns-clause-text
returns-clause-text c =
    let words = map (λ (w : Vec ℕ Global). w.items) c.args.words.now in
    let pool : c.deref.result.now ≡ keys_in (area words 2) = c.deref.ensures.value ∙ (c.in_ok-pool.ensures ∙ ap keys_in c.area.ensures) in
    c.in_ok-text.ensures
    ∙ (text_filled c.args.target words c.args.sites.now c.deref.result.now c.in_ok-addresses.addresses c.in_ok-addresses.ensures.symbols c.in_ok-addresses.ensures.constants 65536 c.args.pieces.now c.requires.pieces
    ∙ ap (λ (p : List ℕ). text_of c.args.target (address_of c.args.sites.now p) 65536 (map (filled words) c.args.pieces.now)) pool)

use Rattle.std.proofs.Common.{◌≡◌, ◌∙◌, sym, ap, subst, ℕ, ◌<◌, List, length, map, arith, string_bytes, Vec, Global}
use Rattle.std.specs.List.{All}
use Rattle.std.proofs.lemmas.List.{length-map}
use Rattle.bk_func.specs.Records.{PackageRecord}
use Rattle.bk_piece.specs.Filled.{area, filled}
use Rattle.bk_piece.specs.Rising.{keys_in}
use Rattle.bk_link.specs.declared.sites.Site.{Site}
use Rattle.bk_link.specs.Addresses.{address_of}
use Rattle.bk_link.specs.Linked.{sites_of, window_of, sigs_of, object_of}
use Rattle.bk_link.specs.Sites.{symbols_of, text_base}
use Rattle.bk_link.specs.Texts.{text_of}
use Rattle.bk_link.proofs.Counted.{named_below}
use Rattle.bk_link.proofs.Filling.{sites_filled}
use Rattle.bk_link.proofs.Numbered.{numbered}
use Rattle.bk_link.proofs.Objects.{area_keys}
use Rattle.bk_link.proofs.Signed.{piece_count}
use Rattle.bk_link.proofs.object.object_of.Goals as goal

pub sites_of-requires-clause-long : goal.sites_of-requires-clause-long
sites_of-requires-clause-long c = piece_count _ c.args.pkg.now.funcs c.args.pieces.now c.requires.linkable.typed

pub symbols_of-requires-clause-named : goal.symbols_of-requires-clause-named
symbols_of-requires-clause-named c = λ k d l.
    let pkg = c.args.pkg.now in
    let many = piece_count _ pkg.funcs c.args.pieces.now c.requires.linkable.typed in
    let below = named_below (length pkg.names) (sites_of pkg c.args.pieces.now) (numbered pkg c.args.pieces.now c.requires.linkable.named many) in
    let at = subst (All (λ (s : Site). s.name < length pkg.names)) (sym (c.deref-5.ensures.value ∙ c.in_ok-sites.ensures.value)) below k d l in
    omega (arith, at, ap length c.deref-4.ensures.value, ap (λ (p : PackageRecord). length p.names) c.pkg.view_is, length-map c.pkg.inside.names.items string_bytes)

pub returns : goal.returns
unfolding object_of
returns c =
    let words = map (λ (w : Vec ℕ Global). w.items) c.args.words.now in
    let pkg = c.args.pkg.now in
    let pieces = map (filled words) c.args.pieces.now in
    let three = c.requires.linkable.cells.areas in
    let keys = λ (a : ℕ) (l : a < 3). area_keys words a (omega (arith, l, three)) in
    let same : c.in_ok-sites.sites.items ≡ sites_of pkg pieces = c.in_ok-sites.ensures.value ∙ sym (sites_filled words pkg c.args.pieces.now) in
    let text : c.in_ok-code.code.text.items ≡ text_of c.args.target (address_of (sites_of pkg pieces) (area (map keys_in words) 2)) text_base pieces =
    c.in_ok-code.ensures.text ∙ ap (λ (q : List Site × List ℕ). text_of c.args.target (address_of q.0 q.1) text_base pieces) (λ i. ((c.deref.ensures.value ∙ same) i, sym (keys 2 (omega arith)) i)) in
    let pool : c.in_ok-code.code.pool.items ≡ area (map keys_in words) 2 = c.in_ok-code.ensures.pool ∙ sym (keys 2 (omega arith)) in
    let window : c.in_ok-window_of.field-0.items ≡ window_of pkg.vars =
    c.in_ok-window_of.ensures ∙ ap window_of (c.deref-2.ensures.value ∙ ap (λ (p : PackageRecord). p.vars) c.pkg.view_is) in
    let types : c.in_ok-type_codes.field-0.items ≡ area (map keys_in words) 1 = c.in_ok-type_codes.ensures ∙ (ap keys_in c.area.ensures ∙ sym (keys 1 (omega arith))) in
    let sigs : c.in_ok-sigs_of.field-0.items ≡ sigs_of pkg.funcs pieces =
    c.in_ok-sigs_of.ensures ∙ ap (λ fs. sigs_of fs pieces) (c.deref-3.ensures.value ∙ ap (λ (p : PackageRecord). p.funcs) c.pkg.view_is) in
    let names : map string_bytes c.deref-4.result.now ≡ pkg.names = ap (map string_bytes) c.deref-4.ensures.value ∙ ap (λ (p : PackageRecord). p.names) c.pkg.view_is in
    let marks : keys_in c.area-2.result.now ≡ area (map keys_in words) 0 = ap keys_in c.area-2.ensures ∙ sym (keys 0 (omega arith)) in
    let symbols : c.in_ok-symbols_of.field-0.items ≡ symbols_of pkg.names (area (map keys_in words) 0) (sites_of pkg pieces) =
    c.in_ok-symbols_of.ensures
    ∙ ap (λ (q : List (List ℕ) × List ℕ × List Site). symbols_of q.0 q.1 q.2) (λ i. (names i, marks i, (c.deref-5.ensures.value ∙ same) i)) in
    λ i. record { target = c.args.target; text = text i; pool = pool i; window = window i; types = types i; sigs = sigs i; symbols = symbols i }

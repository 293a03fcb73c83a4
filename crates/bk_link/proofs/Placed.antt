-- Functions begin at words of the text.
use Rattle.std.proofs.Common.{◌≡◌, ℕ, ◌+◌, ◌*◌, ◌<◌, ◌≤◌, List, [], ◌∷◌, Bool, length, filter, sum_by, subst, sym, true, false, arith, ◌||◌}
use Rattle.std.specs.List.{All}
use Rattle.std.proofs.lemmas.List.Elements.{All-nil, All-cons, All-head, All-tail, All-map, All-filter}
use Rattle.std.proofs.lemmas.List.Sums.{sum_by-cons}
use Rattle.bk_func.specs.Records.{FuncRecord, VarRecord}
use Rattle.bk_piece.specs.Pieces.{PieceOf}
use Rattle.bk_elf.specs.Layout.{aligned}
use Rattle.bk_elf.specs.Object.{IsCode}
use Rattle.bk_elf.specs.Records.{SymbolRecord}
use Rattle.bk_link.specs.declared.sites.Site.{Site}
use Rattle.bk_link.specs.Sites.{func_sites, var_sites, by_name, is_among, symbol_of, symbols_of}
use Rattle.bk_link.proofs.Merging.{all_by_name}
use Rattle.bk_link.proofs.Texting.{IsWhole}

abbrev IsPlaced : ℕ → Site → Type 0
IsPlaced words s = s.func ≡ true → IsCode words s.address

funcs_placed : {H : Type 0} (words k : ℕ) (fs : List FuncRecord) (ps : List (PieceOf H)) → k + sum_by (λ p. length p.code) ps ≤ words → All IsWhole ps
    → All (IsPlaced words) (func_sites (65536 + 4 * k) fs ps)
funcs_placed words k fs [] l h = All-nil (IsPlaced words)
funcs_placed words k [] (p ∷ ps) l h = All-nil (IsPlaced words)
funcs_placed {H} words k (f ∷ fs) (p ∷ ps) l h =
    let some : 0 < length p.code = (All-head IsWhole p ps h).some in
    let more = sum_by-cons (λ (p : PieceOf H). length p.code) p ps in
    let next : 65536 + 4 * k + 4 * length p.code ≡ 65536 + 4 * (k + length p.code) = omega arith in
    All-cons (IsPlaced words) (record { name = f.name; func = true; address = 65536 + 4 * k; size = 4 * length p.code }) (func_sites (65536 + 4 * k + 4 * length p.code) fs ps)
    (λ _. record { whole = omega arith; low = omega arith; high = omega (arith, some, more, l) })
    (subst (λ x. All (IsPlaced words) (func_sites x fs ps)) (sym next) (funcs_placed words (k + length p.code) fs ps (omega (arith, more, l)) (All-tail IsWhole p ps h)))

vars_placed : (words address : ℕ) (vs : List VarRecord) → All (IsPlaced words) (var_sites address vs)
vars_placed words address [] = All-nil (IsPlaced words)
vars_placed words address (v ∷ vs) =
    All-cons (IsPlaced words) (record { name = v.name; func = false; address = address; size = v.size }) (var_sites (address + aligned v.size) vs) (λ e. grind (arith, e)) (vars_placed words (address + aligned v.size) vs)

pub placed : {H : Type 0} (words address : ℕ) (fs : List FuncRecord) (vs : List VarRecord) (ps : List (PieceOf H)) (names : List (List ℕ)) (keys : List ℕ)
    → words ≡ sum_by (λ p. length p.code) ps → All IsWhole ps
    → All (λ s. s.func ≡ true → IsCode words s.address) (symbols_of names keys (by_name (func_sites 65536 fs ps) (var_sites address vs)))
placed words address fs vs ps names keys e h =
    let test : Site → Bool = λ s. s.func || is_among keys s.name in
    let all = all_by_name (IsPlaced words) (func_sites 65536 fs ps) (var_sites address vs) (funcs_placed words 0 fs ps (omega (arith, e)) h) (vars_placed words address vs) in
    let sites = by_name (func_sites 65536 fs ps) (var_sites address vs) in
    All-map (λ (s : SymbolRecord). s.func ≡ true → IsCode words s.address) (symbol_of names) (filter test sites) (All-filter test (IsPlaced words) sites all)

-- A symbol for each function, and names that differ.
use Rattle.std.proofs.Common.{◌≡◌, ◌∙◌, ◌≢◌, ap, sym, refl, ℕ, ◌+◌, ◌*◌, ◌<◌, List, [], ◌∷◌, Bool, true, false, cond, ◌||◌, length, map, filter, take, drop, get_or, arith}
use Rattle.std.specs.Prelude.{slice_index_or, count_by, sum_by}
use Rattle.std.specs.List.{All, AllPairs, Contains, IsDistinct, range_with_len}
use Rattle.std.specs.Str.{bytes_eq}
use Rattle.std.proofs.lemmas.List.{length-map, get_or-map, take-append-drop}
use Rattle.std.proofs.lemmas.List.Elements.{All-map, All-filter, All-weaker, All-from_get_or}
use Rattle.std.proofs.lemmas.List.FromFn.{length-range_with_len, get_or-range_with_len}
use Rattle.std.proofs.lemmas.List.Kept.{AllPairs-filter}
use Rattle.std.proofs.lemmas.List.Sums.{sum_by-cons, sum_by-append}
use Rattle.std.proofs.lemmas.Map.Made.{IsDistinct-from_AllPairs}
use Rattle.std.proofs.lemmas.Slice.Eq.{bytes_eq-Decides}
use Rattle.bk_func.specs.Records.{FuncRecord, VarRecord}
use Rattle.bk_piece.specs.Pieces.{PieceOf}
use Rattle.bk_elf.specs.Contents.{names_of}
use Rattle.bk_elf.specs.Layout.{aligned}
use Rattle.bk_elf.specs.Records.{SymbolRecord}
use Rattle.bk_link.specs.declared.sites.Site.{Site}
use Rattle.bk_link.specs.Sites.{func_sites, var_sites, by_name, count_before, is_among, symbol_of, with_symbol, symbols_of}
use Rattle.bk_link.proofs.Numbered.{names}

none : Site
none = record { name = 0; func = false; address = 0; size = 0 }

unnamed : SymbolRecord
unnamed = record { name = []; func = false; address = 0; size = 0 }

name_at : (n : ℕ) (ss : List Site) (i : ℕ) (d : Site) → names ss ≡ range_with_len 0 n → i < length ss → (get_or ss i d).name ≡ i
name_at n ss i d e l =
    let len : length ss ≡ n = sym (length-map ss (λ (s : Site). s.name)) ∙ (ap length e ∙ length-range_with_len 0 n) in
    omega (arith, get_or-map (λ (s : Site). s.name) ss i d 0 l, ap (λ xs. get_or xs i 0) e, get_or-range_with_len 0 n i 0 (omega (arith, l, len)))

-- the names of sites are below the count of names
pub named_below : (n : ℕ) (ss : List Site) → names ss ≡ range_with_len 0 n → All (λ s. s.name < n) ss
named_below n ss e =
    All-from_get_or (λ (s : Site). s.name < n) ss none (λ i l.
    let len : length ss ≡ n = sym (length-map ss (λ (s : Site). s.name)) ∙ (ap length e ∙ length-range_with_len 0 n) in
    omega (arith, name_at n ss i none e l, l, len))

-- names of sites that differ, and are those of names that differ
abbrev Apart : List (List ℕ) → Site → Site → Type 0
Apart texts a b = slice_index_or texts a.name [] ≢ slice_index_or texts b.name []

apart : (texts : List (List ℕ)) (ss : List Site) → names ss ≡ range_with_len 0 (length texts) → AllPairs (λ x y. x ≢ y) texts → AllPairs (Apart texts) ss
apart texts ss e h i j d l m =
    let a = name_at (length texts) ss i d e (omega (arith, l, m)) in
    let b = name_at (length texts) ss j d e m in
    let len : length ss ≡ length texts = sym (length-map ss (λ (s : Site). s.name)) ∙ (ap length e ∙ length-range_with_len 0 (length texts)) in
    λ q. h i j [] l (omega (arith, m, len)) (ap (λ k. slice_index_or texts k []) (sym a) ∙ (q ∙ ap (λ k. slice_index_or texts k []) b))

mapped : (texts : List (List ℕ)) (ss : List Site) → AllPairs (Apart texts) ss → AllPairs (λ x y. x ≢ y) (names_of (map (symbol_of texts) ss))
mapped texts ss h i j d l m =
    let symbols = map (symbol_of texts) ss in
    let one : length (names_of symbols) ≡ length symbols = length-map symbols (λ (s : SymbolRecord). s.name) in
    let two : length symbols ≡ length ss = length-map ss (symbol_of texts) in
    let at : (k : ℕ) → k < length ss → get_or (names_of symbols) k d ≡ slice_index_or texts (get_or ss k none).name [] = λ k q.
    get_or-map (λ (s : SymbolRecord). s.name) symbols k unnamed d (omega (arith, q, two)) ∙ ap (λ (s : SymbolRecord). s.name) (get_or-map (symbol_of texts) ss k none unnamed q) in
    λ q. h i j none l (omega (arith, m, one, two)) (sym (at i (omega (arith, l, m, one, two))) ∙ (q ∙ at j (omega (arith, m, one, two))))

pub distinct : (texts : List (List ℕ)) (keys : List ℕ) (ss : List Site) → names ss ≡ range_with_len 0 (length texts) → AllPairs (λ x y. x ≢ y) texts
    → IsDistinct bytes_eq (names_of (symbols_of texts keys ss))
distinct texts keys ss e h =
    let test : Site → Bool = λ s. s.func || is_among keys s.name in
    IsDistinct-from_AllPairs bytes_eq-Decides (names_of (symbols_of texts keys ss)) (mapped texts (filter test ss) (AllPairs-filter (Apart texts) test ss (apart texts ss e h)))

abbrev IsClean : List ℕ → Type 0
IsClean n = Contains n 0 → ⊥

-- no symbol's name holds a 0
pub clean_names : (texts : List (List ℕ)) (keys : List ℕ) (ss : List Site) → All (λ s. s.name < length texts) ss → All IsClean texts → All IsClean (names_of (symbols_of texts keys ss))
clean_names texts keys ss below clean =
    let test : Site → Bool = λ s. s.func || is_among keys s.name in
    let own : Site → Type 0 = λ s. IsClean (slice_index_or texts s.name []) in
    let all = All-weaker (λ (s : Site). s.name < length texts) own (λ s l. clean s.name [] l) ss below in
    All-map IsClean (λ (s : SymbolRecord). s.name) (map (symbol_of texts) (filter test ss)) (All-map (λ (s : SymbolRecord). IsClean s.name) (symbol_of texts) (filter test ss) (All-filter test own ss all))

-- a sum over functions and variables together
sum_by_name : (f : Site → ℕ) (fs vs : List Site) → sum_by f (by_name fs vs) ≡ sum_by f fs + sum_by f vs
unfolding by_name
sum_by_name f fs [] = omega arith
sum_by_name f fs (v ∷ vs) =
    let k = count_before v.name fs in
    let rest = by_name (drop k fs) vs in
    omega (arith, sum_by-append f (take k fs) (v ∷ rest), sum_by-cons f v rest, sum_by_name f (drop k fs) vs, sum_by-cons f v vs, sum_by-append f (take k fs) (drop k fs), ap (sum_by f) (take-append-drop k fs))

funcs : {H : Type 0} (a : ℕ) (fs : List FuncRecord) (ps : List (PieceOf H)) → length ps ≡ length fs → count_by (λ s. s.func) (func_sites a fs ps) ≡ length fs
funcs a [] [] e = refl
funcs a [] (p ∷ ps) e = absurd (omega arith)
funcs a (f ∷ fs) [] e = absurd (omega arith)
funcs a (f ∷ fs) (p ∷ ps) e =
    let s : Site = record { name = f.name; func = true; address = a; size = 4 * length p.code } in
    omega (arith, sum_by-cons (λ (s : Site). cond {A = ℕ} s.func 1 0) s (func_sites (a + 4 * length p.code) fs ps), funcs (a + 4 * length p.code) fs ps (omega arith))

variables : (a : ℕ) (vs : List VarRecord) → count_by (λ s. s.func) (var_sites a vs) ≡ 0
variables a [] = refl
variables a (v ∷ vs) =
    let s : Site = record { name = v.name; func = false; address = a; size = v.size } in
    omega (arith, sum_by-cons (λ (s : Site). cond {A = ℕ} s.func 1 0) s (var_sites (a + aligned v.size) vs), variables (a + aligned v.size) vs)

-- each function has a symbol
kept : (texts : List (List ℕ)) (keys : List ℕ) (ss : List Site) → count_by (λ s. s.func) (symbols_of texts keys ss) ≡ count_by (λ s. s.func) ss
kept texts keys [] = refl
kept texts keys (s ∷ ss) = by s.func (is_among keys s.name) refl (kept texts keys ss)
  where
    more : count_by (λ s. s.func) (map (symbol_of texts) (with_symbol keys ss)) ≡ count_by (λ s. s.func) ss → count_by (λ s. s.func) (map (symbol_of texts) (s ∷ with_symbol keys ss)) ≡ count_by (λ s. s.func) (s ∷ ss)
    more rest =
        sum_by-cons (λ (r : SymbolRecord). cond {A = ℕ} r.func 1 0) (symbol_of texts s) (map (symbol_of texts) (with_symbol keys ss))
        ∙ (ap (λ n. cond {A = ℕ} s.func 1 0 + n) rest ∙ sym (sum_by-cons (λ (r : Site). cond {A = ℕ} r.func 1 0) s ss))

    by : (f a : Bool) → s.func ≡ f → count_by (λ s. s.func) (map (symbol_of texts) (with_symbol keys ss)) ≡ count_by (λ s. s.func) ss
        → count_by (λ s. s.func) (map (symbol_of texts) (cond (f || a) (s ∷ with_symbol keys ss) (with_symbol keys ss))) ≡ count_by (λ s. s.func) (s ∷ ss)
    by true a e rest = more rest
    by false true e rest = more rest
    by false false e rest =
        let nothing : cond {A = ℕ} s.func 1 0 ≡ 0 = ap (λ b. cond {A = ℕ} b 1 0) e in
        omega (arith, nothing, rest, sum_by-cons (λ (r : Site). cond {A = ℕ} r.func 1 0) s ss)

pub counted : {H : Type 0} (a b : ℕ) (texts : List (List ℕ)) (keys : List ℕ) (fs : List FuncRecord) (vs : List VarRecord) (ps : List (PieceOf H)) → length ps ≡ length fs
    → count_by (λ s. s.func) (symbols_of texts keys (by_name (func_sites a fs ps) (var_sites b vs))) ≡ length fs
counted a b texts keys fs vs ps e =
    omega (arith, kept texts keys (by_name (func_sites a fs ps) (var_sites b vs)), sum_by_name (λ (s : Site). cond {A = ℕ} s.func 1 0) (func_sites a fs ps) (var_sites b vs), funcs a fs ps e, variables b vs)

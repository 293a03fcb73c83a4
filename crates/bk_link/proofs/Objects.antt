-- What is gathered of linkable pieces is an object.
use Rattle.std.proofs.Common.{◌≡◌, ◌∙◌, ap, sym, refl, true, subst, ◌∷◌, ◌+◌, ◌*◌, ◌<◌, ℕ, ◌%◌, ◌≤◌, List, length, map, arith}
use Rattle.std.specs.Prelude.{Bool, filter, nat_le, ◌||◌, []}
use Rattle.std.specs.List.{All, list_all}
use Rattle.std.proofs.lemmas.Bool.Decides.{nat_tests}
use Rattle.std.proofs.lemmas.List.{length-map, get_or-map}
use Rattle.std.proofs.lemmas.List.Elements.{All-head, All-tail, All-weaker}
use Rattle.std.proofs.lemmas.List.FromFn.{length-range_with_len}
use Rattle.std.proofs.lemmas.List.Sums.{count_by-le-length, length-filter}
use Rattle.bk_ops.specs.declared.types.Target.{Target}
use Rattle.bk_num.specs.Memory.{data_base}
use Rattle.bk_func.specs.Records.{SigRecord, PackageRecord}
use Rattle.bk_piece.specs.Filled.{area, filled}
use Rattle.bk_piece.specs.Pieces.{PieceRecord}
use Rattle.bk_piece.specs.Rising.{Rise, full, keys_in}
use Rattle.bk_piece.proofs.Full.{all_keys, keys_some}
use Rattle.bk_piece.proofs.Rising.{rising_rises, head_of, tail_of}
use Rattle.bk_elf.specs.Contents.{names_of}
use Rattle.bk_elf.specs.Lists.{rises_from, is_rising}
use Rattle.bk_elf.specs.Object.{are_codes, IsObject, IsSig}
use Rattle.bk_link.specs.declared.sites.Site.{Site}
use Rattle.bk_link.specs.Addresses.{address_of}
use Rattle.bk_link.specs.Conditions.{IsLinkable}
use Rattle.bk_link.specs.Linked.{code_size, sites_of, sigs_of, object_of, gathered}
use Rattle.bk_link.specs.Sites.{text_base, is_among, symbol_of, symbols_of}
use Rattle.bk_link.proofs.Counted.{counted, distinct, clean_names, named_below}
use Rattle.bk_link.proofs.Filling.{size_filled, all_whole}
use Rattle.bk_link.proofs.Numbered.{numbered, room}
use Rattle.bk_link.proofs.Placed.{placed}
use Rattle.bk_link.proofs.Signed.{sigs_are, sig_count, piece_count}
use Rattle.bk_link.proofs.Sizes.{offsets, places_small, symbol_names}
use Rattle.bk_link.proofs.Texting.{text_size}
use Rattle.bk_link.proofs.Window.{window_size, whole_window}

-- numbers that rise pass the test
rises : (x : ℕ) (xs : List ℕ) → Rise (x ∷ xs) → rises_from x xs ≡ true
rises x [] s = refl
rises x (y ∷ ys) s =
    let first : x < y = All-head (λ z. x < z) y ys (head_of x (y ∷ ys) s) in
    let rest = rises y ys (tail_of x (y ∷ ys) s) in
    grind (arith, nat_tests, first, rest)

rising : (xs : List ℕ) → Rise xs → is_rising xs ≡ true
rising [] s = refl
rising (x ∷ xs) s = rises x xs s

few : (ts : List ℕ) → All (λ c. c ≤ 13) ts → list_all (λ c. nat_le c 13) ts ≡ true
few [] h = refl
few (t ∷ ts) h =
    let first : t ≤ 13 = All-head (λ c. c ≤ 13) t ts h in
    let rest = few ts (All-tail (λ c. c ≤ 13) t ts h) in
    grind (arith, nat_tests, first, rest)

from_zero : (ts : List ℕ) → Rise ts → All (λ c. 0 < c) ts → rises_from 0 ts ≡ true
from_zero [] s h = refl
from_zero (t ∷ ts) s h =
    let first : 0 < t = All-head (λ c. 0 < c) t ts h in
    let rest : rises_from t ts ≡ true = rises t ts s in
    grind (arith, nat_tests, first, rest)

-- the keys of types are codes
codes : (words : List ℕ) → All (λ c. c ≤ 13) words → are_codes (keys_in words) ≡ true
codes words h =
    let a = few (keys_in words) (all_keys (λ c. c ≤ 13) words h) in
    let b = from_zero (keys_in words) (rising_rises (full words)) (keys_some words) in
    grind (arith, nat_tests, a, b)

few_codes : (words : List ℕ) → All (λ c. c ≤ 13) words → length (keys_in words) ≤ 13
few_codes words h =
    let below = All-weaker (λ c. c ≤ 13) (λ c. c < 14) (λ c l. omega (arith, l)) (keys_in words) (all_keys (λ c. c ≤ 13) words h) in
    omega (arith, room 0 14 (keys_in words) (rising_rises (full words)) (keys_some words) below (omega arith))

few_symbols : (texts : List (List ℕ)) (keys : List ℕ) (ss : List Site) → length (symbols_of texts keys ss) ≤ length ss
few_symbols texts keys ss =
    let test : Site → Bool = λ s. s.func || is_among keys s.name in
    omega (arith, length-map (filter test ss) (symbol_of texts), length-filter test ss, count_by-le-length test ss)

-- the keys of an area
pub area_keys : (words : List (List ℕ)) (a : ℕ) → a < length words → area (map keys_in words) a ≡ keys_in (area words a)
area_keys words a l = get_or-map keys_in words a [] [] l

pub is_object : (pkg : PackageRecord) (t : Target) (ps : List PieceRecord) (words : List (List ℕ)) → IsLinkable pkg t ps words → code_size ps (keys_in (area words 2)) ≤ 16777216
    → IsObject (gathered pkg t ps words)
unfolding object_of
is_object pkg t ps words h l =
    let fp = map (filled words) ps in
    let ss = sites_of pkg fp in
    let keys = area (map keys_in words) 0 in
    let n = length pkg.names in
    let types : area (map keys_in words) 1 ≡ keys_in (area words 1) = area_keys words 1 (omega (arith, h.cells.areas)) in
    let constants : area (map keys_in words) 2 ≡ keys_in (area words 2) = area_keys words 2 (omega (arith, h.cells.areas)) in
    let many = piece_count words pkg.funcs ps h.typed in
    let long : length fp ≡ length pkg.funcs = length-map ps (filled words) ∙ many in
    let whole = all_whole t words ps h.pieces in
    let text = text_size t (address_of ss (area (map keys_in words) 2)) text_base fp whole in
    let window = window_size pkg.vars h.vars in
    let order = numbered pkg fp h.named long in
    let code : 4 * length (object_of pkg t fp (map keys_in words)).text + 8 * length (area (map keys_in words) 2) ≤ 16777216 = omega (arith, l, text, size_filled words ps, ap length constants) in
    let sigs = subst (λ cs. All (IsSig cs) (sigs_of pkg.funcs fp)) (sym types) (sigs_are words pkg.funcs ps h.cells.codes h.typed) in
    let sites : length ss ≡ n = sym (length-map ss (λ (s : Site). s.name)) ∙ (ap length order ∙ length-range_with_len 0 n) in
    let bytes = symbol_names pkg.names keys ss order in
    record {
      code = code;
      pool = ap is_rising constants ∙ rising (keys_in (area words 2)) (rising_rises (full (area words 2)));
      window = omega (arith, window, h.window);
      whole = ap (λ n. n % 8) window ∙ whole_window pkg.vars;
      types = ap are_codes types ∙ codes (area words 1) h.cells.codes;
      sigs = sigs;
      counted = sig_count words pkg.funcs ps h.typed ∙ sym (counted text_base data_base pkg.names keys pkg.funcs pkg.vars fp long);
      placed = placed _ data_base pkg.funcs pkg.vars fp pkg.names keys text whole;
      named = clean_names pkg.names keys ss (named_below n ss order) h.named.clean;
      distinct = distinct pkg.names keys ss order h.named.differ;
      offsets = offsets (object_of pkg t fp (map keys_in words)) (record {
        code = code;
        window = omega (arith, window, h.window);
        types = omega (arith, ap length types, few_codes (area words 1) h.cells.codes);
        few = All-weaker (IsSig (area (map keys_in words) 1)) (λ (s : SigRecord). length s.args + length s.results ≤ 64) (λ s i. i.few) (sigs_of pkg.funcs fp) sigs;
        sigs = omega (arith, sig_count words pkg.funcs ps h.typed, h.named.few_funcs);
        symbols = omega (arith, few_symbols pkg.names keys ss, sites, h.named.counted, h.named.few_funcs, h.named.few_vars);
        names = omega (arith, bytes, h.named.short, h.named.counted, h.named.few_funcs, h.named.few_vars);
      });
      places = places_small 1 (names_of (symbols_of pkg.names keys ss)) (omega (arith, bytes, h.named.short, h.named.counted, h.named.few_funcs, h.named.few_vars));
    }

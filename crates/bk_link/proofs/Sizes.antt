-- The file is short enough for its offsets.
use Rattle.std.proofs.Common.{◌≡◌, ◌∙◌, ap, sym, refl, ℕ, ◌+◌, ◌*◌, ◌^◌, ◌<◌, ◌≤◌, Bool, true, false, cond, ◌||◌, List, [], ◌∷◌, length, map, sum_by, arith, length-append}
use Rattle.std.specs.Prelude.{slice_index_or, sum}
use Rattle.std.specs.List.{All, flat_map, range_with_len}
use Rattle.std.proofs.lemmas.List.{length-map, get_or-map}
use Rattle.std.proofs.lemmas.List.Concat.{flat_map-cons}
use Rattle.std.proofs.lemmas.List.Elements.{All-nil, All-cons, All-head, All-tail}
use Rattle.std.proofs.lemmas.List.FromFn.{fill_by_all, length-range_with_len}
use Rattle.std.proofs.lemmas.List.Sums.{sum_by-cons, sum-map}
use Rattle.std.proofs.lemmas.Simd.{map-map}
use Rattle.bk_ops.specs.declared.types.Target.{Target}
use Rattle.bk_ops.specs.declared.types.Target.TheVariants.{Arm, Riscv64}
use Rattle.bk_func.specs.Records.{SigRecord}
use Rattle.bk_elf.specs.Contents.{place_of_type, names_of, name_bytes, gosig_words, sig_words, sizes_of}
use Rattle.bk_elf.specs.Fields.{bytes_of}
use Rattle.bk_elf.specs.Layout.{aligned, e_shoff}
use Rattle.bk_elf.specs.Object.{name_places}
use Rattle.bk_elf.specs.Records.{ObjectRecord}
use Rattle.bk_elf.specs.Tables.{class_of, ended}
use Rattle.bk_link.specs.declared.sites.Site.{Site}
use Rattle.bk_link.specs.Sites.{is_among, symbol_of, with_symbol, symbols_of}
use Rattle.bk_link.proofs.Numbered.{names}

-- the bytes of names, each with one behind it
abbrev pub names_size : List (List ℕ) → ℕ
names_size ns = sum_by (λ n. length n + 1) ns

size_more : (n : List ℕ) (ns : List (List ℕ)) → names_size (n ∷ ns) ≡ length n + 1 + names_size ns
size_more n ns = sum_by-cons (λ (n : List ℕ). length n + 1) n ns

pub places_small : (place : ℕ) (ns : List (List ℕ)) → place + names_size ns < 2 ^ 32 → All (λ n. n < 2 ^ 32) (name_places place ns)
places_small place [] h = All-nil (λ n. n < 2 ^ 32)
places_small place (n ∷ ns) h =
    All-cons (λ n. n < 2 ^ 32) place (name_places (place + length n + 1) ns) (omega arith) (places_small (place + length n + 1) ns (omega (arith, size_more n ns)))

ended_size : (ns : List (List ℕ)) → length (flat_map ended ns) ≡ names_size ns
ended_size [] = refl
ended_size (n ∷ ns) =
    ap length (flat_map-cons ended n ns) ∙ omega (arith, length-append (ended n) (flat_map ended ns), length-append n (0 ∷ []), size_more n ns, ended_size ns)

name_bytes_size : (ns : List (List ℕ)) → length (name_bytes ns) ≡ 1 + names_size ns
unfolding name_bytes
name_bytes_size ns = ap length (flat_map-cons ended [] ns) ∙ omega (arith, ended_size ns, length-append (ended []) (flat_map ended ns))

-- the names of the symbols are among all names
kept_size : (texts : List (List ℕ)) (keys : List ℕ) (ss : List Site) → names_size (names_of (symbols_of texts keys ss)) ≤ sum_by (λ s. length (slice_index_or texts s.name [])) ss + length ss
kept_size texts keys [] = omega arith
kept_size texts keys (s ∷ ss) = by (s.func || is_among keys s.name) (kept_size texts keys ss)
  where
    by : (b : Bool) → names_size (names_of (map (symbol_of texts) (with_symbol keys ss))) ≤ sum_by (λ s. length (slice_index_or texts s.name [])) ss + length ss
        → names_size (names_of (map (symbol_of texts) (cond b (s ∷ with_symbol keys ss) (with_symbol keys ss)))) ≤ sum_by (λ s. length (slice_index_or texts s.name [])) (s ∷ ss) + length (s ∷ ss)
    by true rest = omega (arith, size_more (slice_index_or texts s.name []) (names_of (map (symbol_of texts) (with_symbol keys ss))), rest, sum_by-cons (λ (s : Site). length (slice_index_or texts s.name [])) s ss)
    by false rest = omega (arith, rest, sum_by-cons (λ (s : Site). length (slice_index_or texts s.name [])) s ss)

all_size : (texts : List (List ℕ)) (ss : List Site) → names ss ≡ range_with_len 0 (length texts) → sum_by (λ s. length (slice_index_or texts s.name [])) ss ≡ sum_by (λ n. length n) texts
all_size texts ss e =
    let at : ℕ → ℕ = λ k. length (slice_index_or texts k []) in
    let lengths : map (λ n. length n) texts ≡ map at (range_with_len 0 (length texts)) =
    fill_by_all at (map (λ n. length n) texts) (length texts) 0 (length-map texts (λ n. length n)) (λ k l. get_or-map (λ n. length n) texts k [] 0 l) in
    sym (sum-map (λ (s : Site). at s.name) ss) ∙ (ap sum (sym (map-map at (λ (s : Site). s.name) ss) ∙ (ap (map at) e ∙ sym lengths)) ∙ sum-map (λ (n : List ℕ). length n) texts)

pub symbol_names : (texts : List (List ℕ)) (keys : List ℕ) (ss : List Site) → names ss ≡ range_with_len 0 (length texts)
    → names_size (names_of (symbols_of texts keys ss)) ≤ sum_by (λ n. length n) texts + length texts
symbol_names texts keys ss e =
    let len : length ss ≡ length texts = sym (length-map ss (λ (s : Site). s.name)) ∙ (ap length e ∙ length-range_with_len 0 (length texts)) in
    omega (arith, kept_size texts keys ss, all_size texts ss e, len)

names_count : (ns : List (List ℕ)) → length ns ≤ names_size ns
names_count [] = omega arith
names_count (n ∷ ns) = omega (arith, names_count ns, size_more n ns)

-- signatures of at most 64 types
abbrev IsFew : SigRecord → Type 0
IsFew s = length s.args + length s.results ≤ 64

sig_size : (codes : List ℕ) (s : SigRecord) → length (sig_words codes s) ≡ 2 + (length s.args + length s.results)
unfolding sig_words
sig_size codes s = omega (arith, length-append (map (place_of_type codes) s.args) (map (place_of_type codes) s.results), length-map s.args (place_of_type codes), length-map s.results (place_of_type codes))

sigs_size : (codes : List ℕ) (ss : List SigRecord) → All IsFew ss → length (flat_map (sig_words codes) ss) ≤ 66 * length ss
sigs_size codes [] h = omega arith
sigs_size codes (s ∷ ss) h =
    let few = All-head IsFew s ss h in
    let rest = sigs_size codes ss (All-tail IsFew s ss h) in
    omega (arith, few, rest, ap length (flat_map-cons (sig_words codes) s ss), length-append (sig_words codes s) (flat_map (sig_words codes) ss), sig_size codes s)

gosig_size : (codes : List ℕ) (ss : List SigRecord) → All IsFew ss → length (gosig_words codes ss) ≤ 1 + length codes + 66 * length ss
unfolding gosig_words
gosig_size codes ss h = omega (arith, sigs_size codes ss h, length-append codes (flat_map (sig_words codes) ss))

aligned_most : (n : ℕ) → aligned n ≤ n + 7
aligned_most n = omega arith

far : (base code constants given gosig symtab strtab : ℕ) → base ≤ 232 → code + constants ≤ 16777216 → given ≤ 1048576 → gosig ≤ 2000000 → symtab ≤ 200000 → strtab ≤ 16800000
    → aligned (aligned (aligned (aligned (aligned (base + code) + constants) + given) + gosig) + symtab + strtab + 52) < 4294967296
far base code constants given gosig symtab strtab z a b c d e =
    let pool = aligned (base + code) in
    let window = aligned (pool + constants) in
    let signatures = aligned (window + given) in
    let symbols = aligned (signatures + gosig) in
    omega (arith, aligned_most (base + code), aligned_most (pool + constants), aligned_most (window + given), aligned_most (signatures + gosig), aligned_most (symbols + symtab + strtab + 52))

-- the sizes of an object that bound its file
pub record IsSmall (o : ObjectRecord) : Type 0 where
  pub code : 4 * length o.text + 8 * length o.pool ≤ 16777216
  pub window : length o.window ≤ 1048576
  pub types : length o.types ≤ 13
  pub few : All IsFew o.sigs
  pub sigs : length o.sigs ≤ 4096
  pub symbols : length o.symbols ≤ 8192
  pub names : names_size (names_of o.symbols) ≤ 16785408

pub offsets : (o : ObjectRecord) → IsSmall o → e_shoff o.target (sizes_of o) < 256 ^ bytes_of (class_of o.target).address
unfolding sizes_of
offsets o h = by o.target
  where
    gosig : 4 * length (gosig_words o.types o.sigs) ≤ 2000000
    gosig = omega (arith, gosig_size o.types o.sigs h.few, h.types, h.sigs)

    strtab : length (name_bytes (names_of o.symbols)) ≤ 16800000
    strtab = omega (arith, name_bytes_size (names_of o.symbols), h.names)

    by : (t : Target) → e_shoff t (record { text = 4 * length o.text; pool = 8 * length o.pool; window = length o.window; gosig = 4 * length (gosig_words o.types o.sigs); symtab = (class_of t).st_entsize * (length o.symbols + 1); strtab = length (name_bytes (names_of o.symbols)) })
        < 256 ^ bytes_of (class_of t).address
    by Arm = far 152 (4 * length o.text) (8 * length o.pool) (length o.window) (4 * length (gosig_words o.types o.sigs)) (16 * (length o.symbols + 1)) (length (name_bytes (names_of o.symbols))) (omega arith) h.code h.window gosig (omega (arith, h.symbols)) strtab
    by Riscv64 =
        let f = far 232 (4 * length o.text) (8 * length o.pool) (length o.window) (4 * length (gosig_words o.types o.sigs)) (24 * (length o.symbols + 1)) (length (name_bytes (names_of o.symbols))) (omega arith) h.code h.window gosig (omega (arith, h.symbols)) strtab in
        omega (arith, f)

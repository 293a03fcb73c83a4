-- The fields that a file holds, addresses and sizes of symbols whole, and the image that has them modulo 2 ^ 32.
use Rattle.std.proofs.Common.{◌≡◌, ℕ, ◌*◌, ◌+◌, ◌%◌, ◌^◌, ◌<◌, ◌≤◌, true, cond, List, [], ◌∷◌, length, map, count_by, refl, sym, ap, ◌∙◌, subst, arith}
use Rattle.std.proofs.lemmas.List.{length-map}
use Rattle.std.proofs.lemmas.List.Elements.{All-head, All-tail, All-map, All-weaker}
use Rattle.std.proofs.lemmas.List.Sums.{sum_by-cons}
use Rattle.std.proofs.Math.Nat.{mod-eq_of_lt, mod-lt}
use Rattle.std.specs.Prelude.{slice_index_or}
use Rattle.std.specs.List.{All, Contains, IsDistinct}
use Rattle.std.specs.Str.{bytes_eq, IsUtf8}
use Rattle.bk_ops.specs.declared.types.Target.{Target}
use Rattle.bk_ops.specs.declared.types.Target.TheVariants.{Arm, Riscv64}
use Rattle.bk_elf.specs.declared.layout.Sizes.{Sizes}
use Rattle.bk_elf.specs.declared.tables.Section.TheVariants.{Data}
use Rattle.bk_elf.specs.Records.{SymbolRecord, ObjectRecord}
use Rattle.bk_elf.specs.Fields.{bytes_of}
use Rattle.bk_elf.specs.Tables.{class_of}
use Rattle.bk_elf.specs.Layout.{e_shoff}
use Rattle.bk_elf.specs.Contents.{gosig_words, names_of, name_bytes, sizes_of}
use Rattle.bk_elf.specs.Object.{IsCode, IsObject, IsTyped, IsWide, FitsAddress, name_places, narrow, narrowed}
use Rattle.bk_elf.specs.Loading.{target_of, text_read, constants_read, signatures_read, content, entries_read, names_read, image_of}
use Rattle.bk_elf.proofs.Entries.{whole_symbols, narrow_symbols}

-- the fields that the file holds
abbrev pub whole_of : List ℕ → ObjectRecord
whole_of bytes = record {
  target = target_of bytes;
  text = text_read bytes;
  pool = constants_read bytes;
  window = content bytes Data;
  types = (signatures_read bytes).0;
  sigs = (signatures_read bytes).1;
  symbols = whole_symbols (entries_read bytes) (names_read bytes);
}

pub image_whole : (bytes : List ℕ) → image_of bytes ≡ narrowed (whole_of bytes)
unfolding image_of
image_whole bytes = λ i. record {
  target = target_of bytes;
  text = text_read bytes;
  pool = constants_read bytes;
  window = content bytes Data;
  types = (signatures_read bytes).0;
  sigs = (signatures_read bytes).1;
  symbols = narrow_symbols (entries_read bytes) (names_read bytes) i;
}

-- numbers of 32 bits fit an address
pub fits_word : (t : Target) (n : ℕ) → n < 2 ^ 32 → FitsAddress t n
fits_word Arm n h = omega (arith, h)
fits_word Riscv64 n h = omega (arith, h)

pub wide_from : (o : ObjectRecord) → IsTyped o → IsWide o
wide_from o h = record {
  text = h.text;
  pool = h.pool;
  window = h.window;
  symbols = All-weaker (λ (s : SymbolRecord). (s.address < 2 ^ 32) × (s.size < 2 ^ 32)) (λ (s : SymbolRecord). FitsAddress o.target s.address × FitsAddress o.target s.size)
      (λ s q. (fits_word o.target s.address q.0, fits_word o.target s.size q.1)) o.symbols h.symbols;
  names = h.names;
}

same_symbols : (ss : List SymbolRecord) → All (λ s. (s.address < 2 ^ 32) × (s.size < 2 ^ 32)) ss → map narrow ss ≡ ss
same_symbols [] h = refl
same_symbols (s ∷ ss) h =
    let P : SymbolRecord → Type 0 = λ s. (s.address < 2 ^ 32) × (s.size < 2 ^ 32) in
    let own = All-head P s ss h in
    let address : s.address % 2 ^ 32 ≡ s.address = mod-eq_of_lt own.0 in
    let size : s.size % 2 ^ 32 ≡ s.size = mod-eq_of_lt own.1 in
    let rest = same_symbols ss (All-tail P s ss h) in
    λ i. record { name = s.name; func = s.func; address = address i; size = size i } ∷ rest i

-- what has 32 bits stays
pub narrowed_same : (o : ObjectRecord) → IsTyped o → narrowed o ≡ o
narrowed_same o h =
    let same = same_symbols o.symbols h.symbols in
    λ i. record { target = o.target; text = o.text; pool = o.pool; window = o.window; types = o.types; sigs = o.sigs; symbols = same i }

same_names : (ss : List SymbolRecord) → names_of (map narrow ss) ≡ names_of ss
same_names [] = refl
same_names (s ∷ ss) = ap (λ ns. s.name ∷ ns) (same_names ss)

same_count : (ss : List SymbolRecord) → count_by (λ s. s.func) (map narrow ss) ≡ count_by (λ s. s.func) ss
same_count [] = refl
same_count (s ∷ ss) =
    sum_by-cons (λ (r : SymbolRecord). cond {A = ℕ} r.func 1 0) (narrow s) (map narrow ss)
    ∙ (ap (λ n. cond {A = ℕ} s.func 1 0 + n) (same_count ss) ∙ sym (sum_by-cons (λ (r : SymbolRecord). cond {A = ℕ} r.func 1 0) s ss))

same_sizes : (o : ObjectRecord) → sizes_of (narrowed o) ≡ sizes_of o
unfolding sizes_of
same_sizes o =
    let count : length (map narrow o.symbols) ≡ length o.symbols = length-map o.symbols narrow in
    let names = same_names o.symbols in
    λ i. record {
      text = 4 * length o.text;
      pool = 8 * length o.pool;
      window = length o.window;
      gosig = 4 * length (gosig_words o.types o.sigs);
      symtab = (class_of o.target).st_entsize * (count i + 1);
      strtab = length (name_bytes (names i));
    }

-- the address of code has 32 bits
same_code : (words address : ℕ) → words ≤ 4194304 → IsCode words address → IsCode words (address % 2 ^ 32)
same_code words address few h =
    let high = h.high in
    let small : address < 2 ^ 32 = omega arith in
    subst (IsCode words) (sym (mod-eq_of_lt small)) h

pub narrow_object : (o : ObjectRecord) → IsObject o → IsObject (narrowed o)
narrow_object o h =
    let names = same_names o.symbols in
    let few : length o.text ≤ 4194304 = omega (arith, h.code) in
    record {
      code = h.code;
      pool = h.pool;
      window = h.window;
      whole = h.whole;
      types = h.types;
      sigs = h.sigs;
      counted = h.counted ∙ sym (same_count o.symbols);
      placed = All-map (λ (s : SymbolRecord). s.func ≡ true → IsCode (length o.text) s.address) narrow o.symbols
          (All-weaker (λ (s : SymbolRecord). s.func ≡ true → IsCode (length o.text) s.address) (λ (s : SymbolRecord). s.func ≡ true → IsCode (length o.text) (s.address % 2 ^ 32))
          (λ s q f. same_code (length o.text) s.address few (q f)) o.symbols h.placed);
      named = subst (All (λ n. Contains n 0 → ⊥)) (sym names) h.named;
      distinct = subst (IsDistinct bytes_eq) (sym names) h.distinct;
      offsets = subst (λ (z : Sizes). e_shoff o.target z < 256 ^ bytes_of (class_of o.target).address) (sym (same_sizes o)) h.offsets;
      places = subst (λ ns. All (λ n. n < 2 ^ 32) (name_places 1 ns)) (sym names) h.places;
    }

pub narrow_typed : (o : ObjectRecord) → IsWide o → IsTyped (narrowed o)
narrow_typed o h = record {
  text = h.text;
  pool = h.pool;
  window = h.window;
  symbols = All-map (λ (s : SymbolRecord). (s.address < 2 ^ 32) × (s.size < 2 ^ 32)) narrow o.symbols
      (λ k d lt. let at = slice_index_or o.symbols k d in (mod-lt at.address (omega arith), mod-lt at.size (omega arith)));
  names = subst (All IsUtf8) (sym (same_names o.symbols)) h.names;
}

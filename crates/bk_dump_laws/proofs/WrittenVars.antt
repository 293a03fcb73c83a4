-- The lines of variables, as they are written, spell what the variables say, and their digits give the bytes back.
use Rattle.std.proofs.Common.{◌≡◌, ℕ, zero, suc, ◌+◌, ◌*◌, ◌/◌, ◌%◌, ◌^◌, ◌<◌, ◌≤◌, List, [], ◌∷◌, ◌++◌, length, take, ap, ◌∙◌, sym, refl, subst, arith, get_or, append_assoc, Bool, true, false, cond, ◌⊎◌, inl, inr, ⊎_elim}
use Rattle.std.specs.Prelude.{codes, ◌==◌, nat_lt}
use Rattle.std.specs.Char.{is_ascii_hexdigit}
use Rattle.std.specs.Fmt.{decimal, digits, digit_glyph}
use Rattle.std.specs.List.{AllByRecursion}
use Rattle.std.proofs.lemmas.Bool.{cases_lt}
use Rattle.std.proofs.lemmas.Bool.Decides.{nat_tests}
use Rattle.std.proofs.lemmas.Fmt.{hex_one_digit, hex_two_digits}
use Rattle.std.proofs.lemmas.List.{take_more, length-append}
use Rattle.bk_func.specs.Records.{VarRecord}
use Rattle.bk_dump.specs.Parts.{Part, word, mark, Spells, IsName}
use Rattle.bk_dump_laws.specs.Lines.{IsHex, IsSize, IsVarLine}
use Rattle.bk_dump.specs.Drafts.{hex_value, pairs}
use Rattle.bk_dump.specs.Print.{symbol, hex, hex_to, bytes_part, variable_line}
use Rattle.bk_dump_laws.specs.Printed.{var_tree, FitsVar}
use Rattle.bk_dump_laws.proofs.Writing.{Solid, solid_if, solid_text, name_solid, solid_decimal, Writes, Begins, writes_mark, writes_word, writes_last, spaced, is_decimal}

-- A byte in two digits.

glyph_is_hex : (d : ℕ) → d < 16 → (is_ascii_hexdigit (digit_glyph false d) ≡ true) × (hex_value (digit_glyph false d) ≡ d)
glyph_is_hex d h = (grind (arith, nat_tests), grind (arith, nat_tests))

one_digit : (b : ℕ) → b < 16 → cond (nat_lt b 16) (codes "0") [] ++ digits 16 false b ≡ digit_glyph false (b / 16) ∷ (digit_glyph false (b % 16) ∷ [])
one_digit b h =
    let t : nat_lt b 16 ≡ true = grind (arith, nat_tests) in
    let high : b / 16 ≡ 0 = omega arith in
    let low : b % 16 ≡ b = omega arith in
    ap (λ c. cond c (codes "0") [] ++ digits 16 false b) t
    ∙ ap (λ ds. 48 ∷ ds) (hex_one_digit false b h)
    ∙ ap (λ d. digit_glyph false 0 ∷ (digit_glyph false d ∷ [])) (sym low)
    ∙ ap (λ d. digit_glyph false d ∷ (digit_glyph false (b % 16) ∷ [])) (sym high)

both_digits : (b : ℕ) → 16 ≤ b → b < 256 → cond (nat_lt b 16) (codes "0") [] ++ digits 16 false b ≡ digit_glyph false (b / 16) ∷ (digit_glyph false (b % 16) ∷ [])
both_digits b h l =
    let t : nat_lt b 16 ≡ false = grind (arith, nat_tests) in
    ap (λ c. cond c (codes "0") [] ++ digits 16 false b) t ∙ hex_two_digits false b h l

two_digits : (b : ℕ) → b < 256 → hex b ≡ digit_glyph false (b / 16) ∷ (digit_glyph false (b % 16) ∷ [])
unfolding hex
two_digits b h = ⊎_elim (λ l. one_digit b l) (λ g. both_digits b g h) (cases_lt b 16)

-- Bytes.

abbrev pub AreBytes : List ℕ → Type 0
AreBytes bytes = AllByRecursion (λ b. b < 2 ^ 8) bytes

abbrev AreHex : List ℕ → Type 0
AreHex text = AllByRecursion (λ c. is_ascii_hexdigit c ≡ true) text

hex_append : (xs ys : List ℕ) → AreHex xs → AreHex ys → AreHex (xs ++ ys)
hex_append [] ys h g = g
hex_append (x ∷ xs) ys h g = (h.0, hex_append xs ys h.1 g)

byte_at : (bytes : List ℕ) (k : ℕ) → AreBytes bytes → get_or bytes k 0 < 256
byte_at [] k h = omega arith
byte_at (b ∷ bytes) zero h = h.0
byte_at (b ∷ bytes) (suc k) h = byte_at bytes k h.1

byte_is_hex : (b : ℕ) → b < 256 → AreHex (hex b)
byte_is_hex b h = subst AreHex (sym (two_digits b h)) ((glyph_is_hex (b / 16) (omega arith)).0, ((glyph_is_hex (b % 16) (omega arith)).0, tt))

byte_length : (b : ℕ) → b < 256 → length (hex b) ≡ 2
byte_length b h = ap length (two_digits b h)

bytes_are_hex : (bytes : List ℕ) (k : ℕ) → AreBytes bytes → AreHex (hex_to bytes k)
unfolding hex_to
bytes_are_hex bytes zero h = tt
bytes_are_hex bytes (suc k) h = hex_append (hex_to bytes k) (hex (get_or bytes k 0)) (bytes_are_hex bytes k h) (byte_is_hex (get_or bytes k 0) (byte_at bytes k h))

bytes_length : (bytes : List ℕ) (k : ℕ) → AreBytes bytes → length (hex_to bytes k) ≡ 2 * k
unfolding hex_to
bytes_length bytes zero h = refl
bytes_length bytes (suc k) h = omega (arith, length-append (hex_to bytes k) (hex (get_or bytes k 0)), bytes_length bytes k h, byte_length (get_or bytes k 0) (byte_at bytes k h))

one_pair : (xs : List ℕ) (n : ℕ) (high low : ℕ) → length xs ≡ 2 * n → pairs (xs ++ high ∷ (low ∷ [])) ≡ pairs xs ++ (hex_value high * 16 + hex_value low) ∷ []
unfolding pairs
one_pair [] n high low h = refl
one_pair (x ∷ []) n high low h = absurd (omega arith)
one_pair (x ∷ (y ∷ xs)) zero high low h = absurd (omega arith)
one_pair (x ∷ (y ∷ xs)) (suc n) high low h = ap (λ ps. (hex_value x * 16 + hex_value y) ∷ ps) (one_pair xs n high low (omega arith))

pair_of : (b : ℕ) → b < 256 → hex_value (digit_glyph false (b / 16)) * 16 + hex_value (digit_glyph false (b % 16)) ≡ b
pair_of b h = omega (arith, (glyph_is_hex (b / 16) (omega arith)).1, (glyph_is_hex (b % 16) (omega arith)).1)

-- the digits give the bytes back
pub pairs_again : (bytes : List ℕ) (k : ℕ) → AreBytes bytes → k ≤ length bytes → pairs (hex_to bytes k) ≡ take k bytes
unfolding hex_to pairs
pairs_again bytes zero h l = refl
pairs_again bytes (suc k) h l =
    let b = get_or bytes k 0 in
    let s = byte_at bytes k h in
    ap (λ t. pairs (hex_to bytes k ++ t)) (two_digits b s)
    ∙ one_pair (hex_to bytes k) k (digit_glyph false (b / 16)) (digit_glyph false (b % 16)) (bytes_length bytes k h)
    ∙ ap (λ n. pairs (hex_to bytes k) ++ n ∷ []) (pair_of b s)
    ∙ ap (λ ps. ps ++ b ∷ []) (pairs_again bytes k h (omega arith))
    ∙ sym (take_more bytes k 0 (omega arith))
    ∙ ap (λ n. take n bytes) (let q : k + 1 ≡ suc k = omega arith in q)

-- The line.

hex_byte : (c : ℕ) → is_ascii_hexdigit c ≡ true → 32 ≤ c
hex_byte c h = grind (arith, nat_tests)

hex_solid : (text : List ℕ) → AreHex text → Solid text
hex_solid text h = solid_if is_ascii_hexdigit text hex_byte h

is_zero : (n : ℕ) → (n == 0) ≡ true → n ≡ 0
is_zero n h = grind (arith, nat_tests)

is_some : (n : ℕ) → (n == 0) ≡ false → 0 < n
is_some n h = grind (arith, nat_tests)

abbrev hex_parts : Bool → List ℕ → List Part
hex_parts true digits = []
hex_parts false digits = mark (codes "=") ∷ (word digits ∷ [])

-- the bytes behind the size, where there are any
writes_hex : (b : Bool) (digits : List ℕ) → AreHex digits → Writes (hex_parts b digits) (cond b [] (codes " = " ++ digits))
writes_hex true digits h = (tt, tt)
writes_hex false digits h =
    spaced (hex_parts false digits) (codes "= " ++ digits)
    (writes_mark (codes "=") (word digits ∷ []) (32 ∷ digits) (solid_text (codes "=") refl) (spaced (word digits ∷ []) digits (writes_last digits (hex_solid digits h))))

hex_begins : (b : Bool) (digits text : List ℕ) → Begins (hex_parts b digits) text
hex_begins true digits text = tt
hex_begins false digits text = tt

no_bytes : (bytes : List ℕ) (n : ℕ) → n ≡ 0 → hex_to bytes n ≡ []
unfolding hex_to
no_bytes bytes n h = ap (hex_to bytes) h

abbrev AreDigits : List Part → List ℕ → ℕ → Type 0
AreDigits behind digits size = ((digits ≡ []) × (behind ≡ [])) ⊎ (IsHex digits size × (behind ≡ mark (codes "=") ∷ (word digits ∷ [])))

are_digits : (b : Bool) (v : VarRecord) → (v.size == 0) ≡ b → AreBytes v.bytes → AreDigits (hex_parts b (hex_to v.bytes v.size)) (hex_to v.bytes v.size) v.size
are_digits true v e h = inl (no_bytes v.bytes v.size (is_zero v.size e), refl)
are_digits false v e h =
    inr (record { digits = bytes_are_hex v.bytes v.size h; pairs = (v.size, bytes_length v.bytes v.size h, is_some v.size e, omega arith) }, refl)

abbrev var_parts : List ℕ → VarRecord → List Part
var_parts name v = word (codes "var") ∷ (word name ∷ (word (decimal v.size) ∷ hex_parts (v.size == 0) (hex_to v.bytes v.size)))

abbrev pub var_text : List ℕ → VarRecord → List ℕ
var_text name v = codes "var " ++ (name ++ (codes " " ++ (decimal v.size ++ bytes_part v)))

pub var_is : (names : List (List ℕ)) (v : VarRecord) → variable_line names v ≡ var_text (symbol names v.name) v ++ codes "\n"
unfolding variable_line
var_is names v = simp append_assoc

writes_var : (name : List ℕ) (v : VarRecord) → IsName name → v.size < 2 ^ 64 → AreBytes v.bytes → Writes (var_parts name v) (var_text name v)
unfolding bytes_part
writes_var name v n l h =
    let digits = hex_to v.bytes v.size in
    let none = v.size == 0 in
    let more = hex_parts none digits in
    let text = bytes_part v in
    let sized = writes_word (decimal v.size) more text (solid_decimal v.size l) (hex_begins none digits text) (writes_hex none digits (bytes_are_hex v.bytes v.size h)) in
    let parts = word (decimal v.size) ∷ more in
    let named = writes_word name parts (32 ∷ (decimal v.size ++ text)) (name_solid name n) refl (spaced parts (decimal v.size ++ text) sized) in
    let behind = name ++ (32 ∷ (decimal v.size ++ text)) in
    writes_word (codes "var") (word name ∷ parts) (32 ∷ behind) (solid_text (codes "var") refl) refl (spaced (word name ∷ parts) behind named)

pub var_spells : (names : List (List ℕ)) (v : VarRecord) → FitsVar names v → Spells IsVarLine (var_text (symbol names v.name) v) (var_tree names v) × Solid (var_text (symbol names v.name) v)
var_spells names v h =
    let name = symbol names v.name in
    let w = writes_var name v h.name h.size h.bytes in
    let l = h.size in
    let size : IsSize (decimal v.size) v.size = (v.size, is_decimal v.size l, omega arith) in
    ((var_parts name v, w.0, (decimal v.size, hex_parts (v.size == 0) (hex_to v.bytes v.size), h.name, size, refl, are_digits (v.size == 0) v refl h.bytes)), w.1)

-- The lines of variables: read exactly where their parts spell one.
use Rattle.std.proofs.Common.{◌≡◌, ℕ, ◌*◌, ◌/◌, ◌%◌, ◌<◌, ◌≤◌, List, [], ◌∷◌, ◌++◌, length, take, drop, ap, ◌∙◌, sym, refl, subst, arith, true, cond, Option, Some, None, ◌⊎◌, inl, inr, ⊎_elim}
use Rattle.std.specs.Prelude.{codes}
use Rattle.std.specs.Char.{is_ascii_digit, is_ascii_hexdigit}
use Rattle.std.specs.List.{AllByRecursion}
use Rattle.std.specs.Option.{option_map_or}
use Rattle.std.specs.Str.{bytes_eq}
use Rattle.std.proofs.lemmas.Bool.Decides.{nat_tests}
use Rattle.std.proofs.lemmas.List.{drop_at, take_at, take-append-drop}
use Rattle.std.proofs.lemmas.List.Folds.{length-prefix_len}
use Rattle.bk_dump.specs.Front.{◌>>=◌, unblanked, mark_at, at_end}
use Rattle.bk_dump.specs.Words.{is_name_byte, name_at, decimal_at}
use Rattle.bk_dump.specs.Trees.{VarTree}
use Rattle.bk_dump.specs.Headers.{is_hex_byte, hex_len, are_pairs, digits_to_end, hex_at, var_name_at, var_at}
use Rattle.bk_dump.specs.Parts.{Part, word, mark, AreBlanks, Apart, Lays, Spells, IsName}
use Rattle.bk_dump_laws.specs.Lines.{IsHex, IsSize, IsVarLine}
use Rattle.bk_dump.proofs.Runs.{front_passes, front_append, ascii_named}
use Rattle.bk_dump_laws.proofs.Again.{tests_of_digits}
use Rattle.bk_dump.proofs.Shrinking.{bind_some, if_true}
use Rattle.bk_dump_laws.proofs.Laying.{some_is, unblanked_gap, blank_unmarked, mark_reads, mark_lays, Halts, IsSolid, behind_word, name_apart, name_lays, name_reads, word_front}
use Rattle.bk_dump_laws.proofs.LaidNumbers.{decimal_is, decimal_over, digits_solid, NoWord, free}
use Rattle.bk_dump_laws.proofs.LaidBlocks.{ended, ends_here}
use Rattle.bk_dump_laws.proofs.LaidEnds.{same_bytes}

-- Sizes.

pub record LaysSize (text : List ℕ) (n : ℕ) (r : List ℕ) : Type 0 where
  pub digits : List ℕ
  pub is : IsSize digits n
  pub begins : AllByRecursion (λ c. is_ascii_digit c ≡ true) digits
  pub some : 0 < length digits
  pub lays : (more : List Part) → Apart (word digits) more r → Lays more r → Lays (word digits ∷ more) text

size_lays : (text : List ℕ) (n : ℕ) (r : List ℕ) → decimal_at (unblanked text) ≡ Some (n, r) → LaysSize text n r
size_lays text n r h =
    let d = decimal_is (unblanked text) n r h in
    let g = unblanked_gap text in
    record {
      digits = d.0;
      is = (d.1, d.2, d.4);
      begins = tests_of_digits d.0 d.2.digits;
      some = d.2.some;
      lays = λ more a l. (g.0, r, g.1 ∙ ap (λ t. g.0 ++ t) d.3, g.2, a, l);
    }

size_reads : (digits : List ℕ) (n : ℕ) (more : List Part) (text : List ℕ) → IsSize digits n → Halts is_ascii_digit more → Lays (word digits ∷ more) text → (r : List ℕ) × (decimal_at (unblanked text) ≡ Some (n, r)) × Lays more r
size_reads digits n more text h g l =
    let front = word_front is_ascii_digit digits more text digits_solid h.1.some (tests_of_digits digits h.1.digits) l in (
      l.1,
      ap decimal_at front ∙ decimal_over digits l.1 h.0 h.1 (behind_word is_ascii_digit digits more l.1 digits_solid l.4 l.5 g) ∙ ap (λ v. Some (v, l.1)) (sym h.2),
      l.5,
    )

-- Hexadecimal digits.

pairs_of : (n size : ℕ) → are_pairs n size ≡ true → (count : ℕ) × (n ≡ 2 * count) × (0 < count) × (count ≤ size)
pairs_of n size h =
    let some : 0 < n = grind (arith, nat_tests) in
    let even : n % 2 ≡ 0 = grind (arith, nat_tests) in
    let few : n / 2 ≤ size = grind (arith, nat_tests) in
    (n / 2, omega arith, omega arith, few)

pairs_made : (n size count : ℕ) → n ≡ 2 * count → 0 < count → count ≤ size → are_pairs n size ≡ true
pairs_made n size count e h l =
    let some : 0 < n = omega arith in
    let even : n % 2 ≡ 0 = omega arith in
    let few : n / 2 ≤ size = omega arith in
    grind (arith, nat_tests)

hexes_solid : IsSolid is_hex_byte
unfolding is_hex_byte
hexes_solid = record { by = λ c h. grind (arith, nat_tests) }

abbrev AreHex : List ℕ → Type 0
AreHex hex = AllByRecursion (λ c. is_ascii_hexdigit c ≡ true) hex

hex_front : (text : List ℕ) → AreHex (take (hex_len text) text)
unfolding is_hex_byte
hex_front text = front_passes is_ascii_hexdigit text

hex_bytes : (hex : List ℕ) → AreHex hex → AllByRecursion (λ c. is_hex_byte c ≡ true) hex
unfolding is_hex_byte
hex_bytes hex h = h

-- what stands behind the size
abbrev IsBehind : ℕ → List ℕ → List Part → Type 0
IsBehind size hex behind = ((hex ≡ []) × (behind ≡ [])) ⊎ (IsHex hex size × (behind ≡ mark (codes "=") ∷ (word hex ∷ [])))

abbrev LaidHex : ℕ → List ℕ → List ℕ → Type 0
LaidHex size text hex = (behind : List Part) × IsBehind size hex behind × Lays behind text

digits_lay : (size : ℕ) (text a hex : List ℕ) → mark_at (codes "=") text ≡ Some a → digits_to_end size (unblanked a) ≡ Some hex → LaidHex size text hex
unfolding digits_to_end
digits_lay size text a hex m h =
    let t = unblanked a in
    let k = hex_len t in
    let q = if_true (are_pairs k size) (at_end (drop k t) (take k t)) hex h in
    let e = ended (drop k t) (take k t) hex q.1 in
    let g = unblanked_gap a in
    let p = pairs_of k size q.0 in
    let long : length hex ≡ k = ap length (sym e.1) ∙ length-prefix_len is_hex_byte t in
    let whole : a ≡ g.0 ++ (hex ++ drop k t) = g.1 ∙ ap (λ x. g.0 ++ x) (sym (take-append-drop k t) ∙ ap (λ x. x ++ drop k t) e.1) in
    let inside : Lays (word hex ∷ []) a = (g.0, drop k t, whole, g.2, tt, e.0) in
    (mark (codes "=") ∷ (word hex ∷ []), inr (record { digits = subst AreHex e.1 (hex_front t); pairs = (p.0, long ∙ p.1, p.2, p.3) }, refl), mark_lays (codes "=") (word hex ∷ []) text a m inside)

hex_step : (size : ℕ) (text hex : List ℕ) (o : Option (List ℕ)) → mark_at (codes "=") text ≡ o → option_map_or (λ a. digits_to_end size (unblanked a)) o (at_end text []) ≡ Some hex → LaidHex size text hex
hex_step size text hex None e h = let d = ended text [] hex h in ([], inl (sym d.1, refl), d.0)
hex_step size text hex (Some a) e h = digits_lay size text a hex e h

hex_lays : (size : ℕ) (text hex : List ℕ) → hex_at size text ≡ Some hex → LaidHex size text hex
unfolding hex_at
hex_lays size text hex h = hex_step size text hex (mark_at (codes "=") text) refl h

to_end : (size : ℕ) (hex r : List ℕ) → IsHex hex size → AreBlanks r → digits_to_end size (hex ++ r) ≡ Some hex
unfolding digits_to_end
to_end size hex r h b =
    let long : hex_len (hex ++ r) ≡ length hex = front_append is_hex_byte hex r (hex_bytes hex h.digits) (behind_word is_hex_byte hex [] r hexes_solid tt b tt) in
    let pairs = pairs_made (length hex) size h.pairs.0 h.pairs.1 h.pairs.2 h.pairs.3 in
    ap (λ k. cond (are_pairs k size) (at_end (drop k (hex ++ r)) (take k (hex ++ r))) None) long
    ∙ ap (λ c. cond c (at_end (drop (length hex) (hex ++ r)) (take (length hex) (hex ++ r))) None) pairs
    ∙ ap (λ t. at_end t (take (length hex) (hex ++ r))) (drop_at hex r (length hex) refl)
    ∙ ap (λ t. at_end r t) (take_at hex r (length hex) refl)
    ∙ ends_here r hex b

some_digits : (hex : List ℕ) (size : ℕ) → IsHex hex size → 0 < length hex
some_digits hex size h = let e = h.pairs.1 in let l = h.pairs.2 in omega arith

hex_reads : (size : ℕ) (hex : List ℕ) (behind : List Part) (text : List ℕ) → IsBehind size hex behind → Lays behind text → hex_at size text ≡ Some hex
unfolding hex_at
hex_reads size hex behind text h l =
    ⊎_elim (λ e.
    let b : AreBlanks text = subst (λ ps. Lays ps text) e.1 l in
    ap (λ o. option_map_or (λ a. digits_to_end size (unblanked a)) o (at_end text [])) (blank_unmarked 61 [] text b) ∙ ends_here text [] b ∙ ap Some (sym e.0))
    (λ e.
    let m = mark_reads 61 [] (word hex ∷ []) text refl (subst (λ ps. Lays ps text) e.1 l) in
    let front = word_front is_hex_byte hex [] m.0 hexes_solid (some_digits hex size e.0) (hex_bytes hex e.0.digits) m.2 in
    ap (λ o. option_map_or (λ a. digits_to_end size (unblanked a)) o (at_end text [])) m.1
    ∙ ap (digits_to_end size) front
    ∙ to_end size hex m.2.1 e.0 m.2.5) h

-- The line.

behind_word_free : (size : ℕ) (hex : List ℕ) (behind : List Part) → IsBehind size hex behind → NoWord behind
behind_word_free size hex behind h = ⊎_elim (λ e. subst NoWord (sym e.1) tt) (λ e. subst NoWord (sym e.1) tt) h

behind_halts : (size : ℕ) (hex : List ℕ) (behind : List Part) → IsBehind size hex behind → Halts is_ascii_digit behind
behind_halts size hex behind h = ⊎_elim (λ e. subst (Halts is_ascii_digit) (sym e.1) tt) (λ e. subst (Halts is_ascii_digit) (sym e.1) refl) h

digit_named : (c : ℕ) → is_ascii_digit c ≡ true → is_name_byte c ≡ true
unfolding is_name_byte
digit_named c h = grind (arith, nat_tests)

digits_named : (ds : List ℕ) → AllByRecursion (λ c. is_ascii_digit c ≡ true) ds → AllByRecursion (λ c. is_name_byte c ≡ true) ds
digits_named [] h = tt
digits_named (d ∷ ds) h = (digit_named d h.0, digits_named ds h.1)

var_named : IsName (codes "var")
unfolding is_name_byte
var_named = ascii_named is_name_byte (codes "var") (omega arith) refl refl

pub var_lays : (line : List ℕ) (v : VarTree) → var_at line ≡ Some v → Spells IsVarLine line v
unfolding var_at var_name_at
var_lays line v e =
    let n = bind_some (var_name_at line) _ v e in
    let s = bind_some (decimal_at (unblanked n.0.1)) _ v n.2 in
    let x = bind_some (hex_at s.0.0 s.0.1) _ v s.2 in
    let w = bind_some (name_at line) _ n.0 n.1 in
    let q = if_true (bytes_eq w.0.0 (codes "var")) (name_at w.0.1) n.0 w.2 in
    let f = name_lays line w.0.0 w.0.1 w.1 in
    let g = name_lays w.0.1 n.0.0 n.0.1 q.1 in
    let d = size_lays n.0.1 s.0.0 s.0.1 s.1 in
    let b = hex_lays s.0.0 s.0.1 x.0 x.1 in
    let sized : Lays (word d.digits ∷ b.0) n.0.1 = d.lays b.0 (free (word d.digits) b.0 s.0.1 (behind_word_free s.0.0 x.0 b.0 b.1)) b.2 in
    let named : Lays (word n.0.0 ∷ (word d.digits ∷ b.0)) w.0.1 = g.lays (word d.digits ∷ b.0) (name_apart is_name_byte n.0.0 d.digits b.0 n.0.1 d.some (digits_named d.digits d.begins) g.stops sized) sized in
    let laid : Lays (word w.0.0 ∷ (word n.0.0 ∷ (word d.digits ∷ b.0))) line = f.lays (word n.0.0 ∷ (word d.digits ∷ b.0)) (name_apart is_name_byte w.0.0 n.0.0 (word d.digits ∷ b.0) w.0.1 g.name.some g.name.bytes f.stops named) named in
    let parts = word w.0.0 ∷ (word n.0.0 ∷ (word d.digits ∷ b.0)) in
    (parts, laid, subst (IsVarLine parts) (some_is _ v x.2) (d.digits, b.0, g.name, d.is, ap (λ t. word t ∷ (word n.0.0 ∷ (word d.digits ∷ b.0))) (same_bytes w.0.0 (codes "var") q.0), b.1))

-- the steps of the line, each with what it gives
abbrev var_named_at : Option (List ℕ × List ℕ) → Option (List ℕ × List ℕ)
var_named_at o = o >>= λ w. cond (bytes_eq w.0 (codes "var")) (name_at w.1) None

abbrev with_hex : List ℕ → ℕ → Option (List ℕ) → Option VarTree
with_hex name size o = o >>= λ h. Some (record { name = name; size = size; hex = h })

abbrev with_size : List ℕ → Option (ℕ × List ℕ) → Option VarTree
with_size name o = o >>= λ s. with_hex name s.0 (hex_at s.0 s.1)

abbrev sized_var : Option (List ℕ × List ℕ) → Option VarTree
sized_var o = o >>= λ n. with_size n.0 (decimal_at (unblanked n.1))

pub var_reads : (line : List ℕ) (v : VarTree) → Spells IsVarLine line v → var_at line ≡ Some v
unfolding var_at var_name_at
var_reads line v (parts, laid, (size, behind, named, sized, spelled, hex)) =
    let k = subst (λ ps. Lays ps line) spelled laid in
    let f = name_reads (codes "var") (word v.name ∷ (word size ∷ behind)) line var_named tt k in
    let g = name_reads v.name (word size ∷ behind) f.rest named tt f.laid in
    let d = size_reads size v.size behind g.rest sized (behind_halts v.size v.hex behind hex) g.laid in
    let x = hex_reads v.size v.hex behind d.0 hex d.2 in
    ap (λ o. sized_var (var_named_at o)) f.is
    ∙ ap sized_var g.is
    ∙ ap (with_size v.name) d.1
    ∙ ap (with_hex v.name v.size) x

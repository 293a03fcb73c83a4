-- What stands in brackets and braces beside the arguments of a value: read exactly where its parts spell it.
use Rattle.std.proofs.Common.{◌≡◌, ℕ, ℤ, pos, negsuc, suc, ◌+◌, ◌-◌, ◌*◌, ◌^◌, ◌<◌, ◌≤◌, min, List, [], ◌∷◌, ◌++◌, length, take, ap, ◌∙◌, sym, refl, subst, arith, append_assoc, Bool, true, false, cond, Option, Some, None, ◌⊎◌, inl, inr, ⊎_elim}
use Rattle.std.specs.Prelude.{codes, ◌==◌, ◌&&◌, ◌||◌, nat_lt, nat_le}
use Rattle.std.specs.Char.{is_ascii_digit}
use Rattle.std.specs.List.{AllByRecursion, prefix_len}
use Rattle.std.specs.Option.{option_map_or, is_some}
use Rattle.std.specs.Str.{bytes_eq}
use Rattle.std.proofs.lemmas.Bool.Decides.{nat_tests}
use Rattle.bk_text.specs.Tokens.{is_blank}
use Rattle.bk_ops.specs.declared.types.Ty.{Ty}
use Rattle.bk_dump.specs.declared.read.beside.Braces.{Braces}
use Rattle.bk_dump.specs.declared.read.beside.Braces.TheVariants as braces
use Rattle.bk_dump.specs.declared.read.beside.Square.{Square}
use Rattle.bk_dump.specs.declared.read.beside.Square.TheVariants as square
use Rattle.bk_dump.specs.Front.{◌>>=◌, or_else, unblanked, after, mark_at, run_at}
use Rattle.bk_dump.specs.Words.{is_name_byte, is_plain_byte, is_word_byte, name_at, word_at, decimal_at}
use Rattle.bk_dump.specs.Types.{one_type_at}
use Rattle.bk_dump.specs.Trees.{MentionTree, no_mention, of_type, of_name}
use Rattle.bk_dump.specs.Values.{in_braces, aux_call_at, callee_at, made, braces_at, kept, natural_at, negative_at, int_at, truth_at, in_square, square_at}
use Rattle.bk_dump.specs.Parts.{Part, word, mark, Apart, Lays, IsName, IsDecimal}
use Rattle.bk_dump_laws.specs.Lines.{IsKept, IsInt, IsTruth, bracketed, IsSquare, braced, IsBraces}
use Rattle.bk_dump_laws.proofs.Again.{tests_of_digits}
use Rattle.bk_dump.proofs.Runs.{all_pass, ascii_named}
use Rattle.bk_dump.proofs.Shrinking.{bind_some, map_some, unless_true, if_true}
use Rattle.bk_dump_laws.proofs.Laying.{some_is, unblanked_gap, unblanked_over, after_is, stops_at, mark_reads, mark_lays, other_mark, behind_word, other_begin, name_lays, name_reads, word_front, word_lays, word_reads}
use Rattle.bk_dump_laws.proofs.LaidNumbers.{decimal_is, decimal_over, digits_solid, free}
use Rattle.bk_dump_laws.proofs.LaidLists.{LaysItem, ReadsItem}
use Rattle.bk_dump_laws.proofs.LaidEnds.{same_bytes}
use Rattle.bk_dump_laws.proofs.LaidBlocks.{either}
use Rattle.bk_dump_laws.proofs.LaidTypes.{one_item, IsOne}

-- Numbers.

outside_by : (all n : ℕ) (b c : Bool) → nat_lt n all ≡ b → nat_le all (2 * n) ≡ c → (b && c) ≡ false → (all ≤ n) ⊎ (2 * n < all)
outside_by all n true true e f h = absurd (cc)
outside_by all n true false e f h = inr (grind (arith, nat_tests))
outside_by all n false c e f h = inl (grind (arith, nat_tests))

outside : (all n : ℕ) → (nat_lt n all && nat_le all (2 * n)) ≡ false → (all ≤ n) ⊎ (2 * n < all)
outside all n h = outside_by all n (nat_lt n all) (nat_le all (2 * n)) refl refl h

kept_step : (all n : ℕ) (z : ℤ) (b c : Bool) → (nat_lt n all && nat_le all (2 * n)) ≡ b → nat_lt n (2 ^ 63) ≡ c → cond b (Some (negsuc (all - suc n))) (cond c (Some (pos n)) None) ≡ Some z → IsKept all n z
kept_step all n z true c e f h = inl (grind (arith, nat_tests), grind (arith, nat_tests), sym (some_is (negsuc (all - suc n)) z h))
kept_step all n z false true e f h = inr (outside all n e, grind (arith, nat_tests), sym (some_is (pos n) z h))
kept_step all n z false false e f h = absurd (cc)

kept_is : (all n : ℕ) (z : ℤ) → kept all n ≡ Some z → IsKept all n z
unfolding kept
kept_is all n z h = kept_step all n z (nat_lt n all && nat_le all (2 * n)) (nat_lt n (2 ^ 63)) refl refl h

inside_test : (all n : ℕ) → n < all → all ≤ 2 * n → (nat_lt n all && nat_le all (2 * n)) ≡ true
inside_test all n h g = grind (arith, nat_tests)

outside_test : (all n : ℕ) → (all ≤ n) ⊎ (2 * n < all) → (nat_lt n all && nat_le all (2 * n)) ≡ false
outside_test all n h = ⊎_elim (λ a. grind (arith, nat_tests)) (λ a. grind (arith, nat_tests)) h

small_test : (n : ℕ) → n < 2 ^ 63 → nat_lt n (2 ^ 63) ≡ true
small_test n h = grind (arith, nat_tests)

is_kept : (all n : ℕ) (z : ℤ) → IsKept all n z → kept all n ≡ Some z
unfolding kept
is_kept all n z h =
    ⊎_elim (λ a. ap (λ b. cond b (Some (negsuc (all - suc n))) (cond (nat_lt n (2 ^ 63)) (Some (pos n)) None)) (inside_test all n a.0 a.1) ∙ ap Some (sym a.2))
    (λ a. ap (λ b. cond b (Some (negsuc (all - suc n))) (cond (nat_lt n (2 ^ 63)) (Some (pos n)) None)) (outside_test all n a.0) ∙ ap (λ b. cond b (Some (pos n)) None) (small_test n a.1) ∙ ap Some (sym a.2)) h

-- numbers past 2^64 are kept by no op
uncapped : (all n : ℕ) (z : ℤ) → all ≤ 2 ^ 64 → IsKept all (min n (2 ^ 64)) z → min n (2 ^ 64) ≡ n
uncapped all n z h k = ⊎_elim (λ a. let l : min n (2 ^ 64) < all = a.0 in omega arith) (λ a. let l : min n (2 ^ 64) < 2 ^ 63 = a.1 in omega arith) k

capped : (all n : ℕ) (z : ℤ) → all ≤ 2 ^ 64 → IsKept all n z → min n (2 ^ 64) ≡ n
capped all n z h k = ⊎_elim (λ a. let l : n < all = a.0 in omega arith) (λ a. let l : n < 2 ^ 63 = a.1 in omega arith) k

below_guard : (n : ℕ) → (n == 0 || nat_lt (2 ^ 63) n) ≡ false → (0 < n) × (n ≤ 2 ^ 63)
below_guard n h = (grind (arith, nat_tests), grind (arith, nat_tests))

guard_below : (n : ℕ) → 0 < n → n ≤ 2 ^ 63 → (n == 0 || nat_lt (2 ^ 63) n) ≡ false
guard_below n h g = grind (arith, nat_tests)

minus_lay : (all : ℕ) (text a : List ℕ) (z : ℤ) (r : List ℕ) → after (codes "-") (unblanked text) ≡ Some a → negative_at a ≡ Some (z, r) → LaysItem (IsInt all) text z r
unfolding negative_at
minus_lay all text a z r e h =
    let n = bind_some (decimal_at a) _ (z, r) h in
    let q = unless_true (n.0.0 == 0 || nat_lt (2 ^ 63) n.0.0) (Some (negsuc (n.0.0 - 1), n.0.1)) (z, r) n.2 in
    let same = some_is (negsuc (n.0.0 - 1), n.0.1) (z, r) q.1 in
    let rest : n.0.1 ≡ r = ap (λ x. x.1) same in
    let b = below_guard n.0.0 q.0 in
    let d = decimal_is a n.0.0 n.0.1 n.1 in
    let value : n.0.0 ≡ d.1 = let v = d.4 in let l = b.1 in omega arith in
    let g = unblanked_gap text in
    let whole : unblanked text ≡ (codes "-" ++ d.0) ++ r = after_is (codes "-") (unblanked text) a e ∙ ap (λ t. 45 ∷ t) (d.3 ∙ ap (λ t. d.0 ++ t) rest) in
    record {
      parts = word (codes "-" ++ d.0) ∷ [];
      item = (d.0, d.1, d.2, inr (refl, let l = b.0 in omega arith, let l = b.1 in omega arith, sym (ap (λ x. x.0) same) ∙ ap (λ n. negsuc (n - 1)) value));
      lays = λ more w l. (g.0, r, g.1 ∙ ap (λ t. g.0 ++ t) whole, g.2, free (word (codes "-" ++ d.0)) more r w, l);
    }

natural_lay : (all : ℕ) (text : List ℕ) (z : ℤ) (r : List ℕ) → all ≤ 2 ^ 64 → natural_at all (unblanked text) ≡ Some (z, r) → LaysItem (IsInt all) text z r
unfolding natural_at
natural_lay all text z r a h =
    let n = bind_some (decimal_at (unblanked text)) _ (z, r) h in
    let k = bind_some (kept all n.0.0) _ (z, r) n.2 in
    let same = some_is (k.0, n.0.1) (z, r) k.2 in
    let rest : n.0.1 ≡ r = ap (λ x. x.1) same in
    let d = decimal_is (unblanked text) n.0.0 n.0.1 n.1 in
    let keeps : IsKept all (min d.1 (2 ^ 64)) k.0 = subst (λ m. IsKept all m k.0) d.4 (kept_is all n.0.0 k.0 k.1) in
    let value : min d.1 (2 ^ 64) ≡ d.1 = uncapped all d.1 k.0 a keeps in
    let g = unblanked_gap text in
    record {
      parts = word d.0 ∷ [];
      item = (d.0, d.1, d.2, inl (refl, subst (IsKept all d.1) (ap (λ x. x.0) same) (subst (λ m. IsKept all m k.0) value keeps)));
      lays = λ more w l. (g.0, r, g.1 ∙ ap (λ t. g.0 ++ t) (d.3 ∙ ap (λ t. d.0 ++ t) rest), g.2, free (word d.0) more r w, l);
    }

int_step : (all : ℕ) (text : List ℕ) (o : Option (List ℕ)) (z : ℤ) (r : List ℕ) → all ≤ 2 ^ 64 → after (codes "-") (unblanked text) ≡ o → option_map_or negative_at o (natural_at all (unblanked text)) ≡ Some (z, r) → LaysItem (IsInt all) text z r
int_step all text None z r a e h = natural_lay all text z r a h
int_step all text (Some t) z r a e h = minus_lay all text t z r e h

int_lays : (all : ℕ) (text : List ℕ) (z : ℤ) (r : List ℕ) → all ≤ 2 ^ 64 → int_at all text ≡ Some (z, r) → LaysItem (IsInt all) text z r
unfolding int_at
int_lays all text z r a h = int_step all text (after (codes "-") (unblanked text)) z r a refl h

-- a number before a closing bracket

abbrev shut : List Part → List Part
shut more = mark (codes "]") ∷ more

abbrev kept_and : List ℕ → Option ℤ → Option (ℤ × List ℕ)
kept_and r o = o >>= λ z. Some (z, r)

abbrev kept_at : ℕ → Option (ℕ × List ℕ) → Option (ℤ × List ℕ)
kept_at all o = o >>= λ n. kept_and n.1 (kept all n.0)

abbrev below_and : List ℕ → ℕ → Option (ℤ × List ℕ)
below_and r m = cond (m == 0 || nat_lt (2 ^ 63) m) None (Some (negsuc (m - 1), r))

abbrev below_at : Option (ℕ × List ℕ) → Option (ℤ × List ℕ)
below_at o = o >>= λ n. below_and n.1 n.0

natural_read : (all : ℕ) (digits : List ℕ) (n : ℕ) (z : ℤ) (more : List Part) (text : List ℕ) → all ≤ 2 ^ 64 → IsDecimal digits n → IsKept all n z → Lays (word digits ∷ shut more) text → ReadsItem (int_at all text) z (shut more)
unfolding int_at natural_at
natural_read all digits n z more text a d k l =
    let tests = tests_of_digits digits d.digits in
    let front = word_front is_ascii_digit digits (shut more) text digits_solid d.some tests l in
    let stops = behind_word is_ascii_digit digits (shut more) l.1 digits_solid l.4 l.5 refl in
    record {
      rest = l.1;
      is = ap (λ t. option_map_or negative_at (after (codes "-") t) (kept_at all (decimal_at t))) front
          ∙ ap (λ o. option_map_or negative_at o (kept_at all (decimal_at (digits ++ l.1)))) (other_begin is_ascii_digit 45 [] digits l.1 refl d.some tests)
          ∙ ap (kept_at all) (decimal_over digits l.1 n d stops)
          ∙ ap (λ m. kept_and l.1 (kept all m)) (capped all n z a k)
          ∙ ap (kept_and l.1) (is_kept all n z k);
      laid = l.5;
    }

minus_read : (all : ℕ) (digits : List ℕ) (n : ℕ) (z : ℤ) (more : List Part) (text : List ℕ) → IsDecimal digits n → 0 < n → n ≤ 2 ^ 63 → z ≡ negsuc (n - 1) → Lays (word (codes "-" ++ digits) ∷ shut more) text → ReadsItem (int_at all text) z (shut more)
unfolding int_at negative_at after
minus_read all digits n z more text d some few value l =
    let front : unblanked text ≡ (codes "-" ++ digits) ++ l.1 = ap unblanked l.2 ∙ unblanked_over l.0 ((codes "-" ++ digits) ++ l.1) l.3 (stops_at is_blank 45 (digits ++ l.1) refl) in
    let stops = behind_word is_ascii_digit (codes "-" ++ digits) (shut more) l.1 digits_solid l.4 l.5 refl in
    let same : min n (2 ^ 64) ≡ n = omega arith in
    record {
      rest = l.1;
      is = ap (λ t. option_map_or negative_at (after (codes "-") t) (natural_at all t)) front
          ∙ ap below_at (decimal_over digits l.1 n d stops)
          ∙ ap (below_and l.1) same
          ∙ ap (λ b. cond b None (Some (negsuc (n - 1), l.1))) (guard_below n some few)
          ∙ ap (λ y. Some (y, l.1)) (sym value);
      laid = l.5;
    }

int_reads : (all : ℕ) (parts : List Part) (z : ℤ) (more : List Part) (text : List ℕ) → all ≤ 2 ^ 64 → IsInt all parts z → Lays (parts ++ shut more) text → ReadsItem (int_at all text) z (shut more)
int_reads all parts z more text a (digits, n, d, sign) l =
    ⊎_elim (λ e. natural_read all digits n z more text a d e.1 (subst (λ ps. Lays (ps ++ shut more) text) e.0 l))
    (λ e. minus_read all digits n z more text d e.1 e.2 e.3 (subst (λ ps. Lays (ps ++ shut more) text) e.0 l)) sign

-- `true` and `false`.

not_step : (b : Bool) (c d k : ℕ) (t w : List ℕ) → (c == d) ≡ false → bytes_eq (take (cond b (1 + k) 0) (c ∷ t)) (d ∷ w) ≡ false
not_step true c d k t w h = ap (λ n. bytes_eq (take n (c ∷ t)) (d ∷ w)) (let q : 1 + k ≡ suc k = omega arith in q) ∙ ap (λ e. e && bytes_eq (take k t) w) h
not_step false c d k t w h = refl

not_word : (d : ℕ) (w : List ℕ) (c : ℕ) (t text : List ℕ) → unblanked text ≡ c ∷ t → (c == d) ≡ false → bytes_eq (word_at text).0 (d ∷ w) ≡ false
unfolding word_at
not_word d w c t text e h = ap (λ u. bytes_eq (run_at is_word_byte u).0 (d ∷ w)) e ∙ not_step (is_word_byte c) c d (prefix_len is_word_byte t) t w h

truth_step : (all : ℕ) (text : List ℕ) (b c : Bool) (z : ℤ) (r : List ℕ) → all ≤ 2 ^ 64 → bytes_eq (word_at text).0 (codes "true") ≡ b → bytes_eq (word_at text).0 (codes "false") ≡ c
    → cond b (Some (pos 1, (word_at text).1)) (cond c (Some (pos 0, (word_at text).1)) (int_at all text)) ≡ Some (z, r) → LaysItem (IsTruth all) text z r
truth_step all text true c z r a e f h =
    let same = some_is (pos 1, (word_at text).1) (z, r) h in
    record {
      parts = word (word_at text).0 ∷ [];
      item = inl (ap (λ w. word w ∷ []) (same_bytes (word_at text).0 (codes "true") e), sym (ap (λ x. x.0) same));
      lays = λ more w l. let k : Lays more (word_at text).1 = subst (Lays more) (sym (ap (λ x. x.1) same)) l in (word_lays text).lays more (free (word (word_at text).0) more (word_at text).1 w) k;
    }
truth_step all text false true z r a e f h =
    let same = some_is (pos 0, (word_at text).1) (z, r) h in
    record {
      parts = word (word_at text).0 ∷ [];
      item = inr (inl (ap (λ w. word w ∷ []) (same_bytes (word_at text).0 (codes "false") f), sym (ap (λ x. x.0) same)));
      lays = λ more w l. let k : Lays more (word_at text).1 = subst (Lays more) (sym (ap (λ x. x.1) same)) l in (word_lays text).lays more (free (word (word_at text).0) more (word_at text).1 w) k;
    }
truth_step all text false false z r a e f h = let i = int_lays all text z r a h in record { parts = i.parts; item = inr (inr i.item); lays = i.lays }

truth_lays : (all : ℕ) (text : List ℕ) (z : ℤ) (r : List ℕ) → all ≤ 2 ^ 64 → truth_at all text ≡ Some (z, r) → LaysItem (IsTruth all) text z r
unfolding truth_at
truth_lays all text z r a h = truth_step all text (bytes_eq (word_at text).0 (codes "true")) (bytes_eq (word_at text).0 (codes "false")) z r a refl refl h

true_bytes : (0 < length (codes "true")) × AllByRecursion (λ c. is_word_byte c ≡ true) (codes "true")
unfolding is_word_byte
true_bytes = (omega arith, all_pass is_word_byte (codes "true") refl)

false_bytes : (0 < length (codes "false")) × AllByRecursion (λ c. is_word_byte c ≡ true) (codes "false")
unfolding is_word_byte
false_bytes = (omega arith, all_pass is_word_byte (codes "false") refl)

shut_halts : is_word_byte 93 ≡ false
unfolding is_word_byte
shut_halts = refl

true_read : (all : ℕ) (z : ℤ) (more : List Part) (text : List ℕ) → z ≡ pos 1 → Lays (word (codes "true") ∷ shut more) text → ReadsItem (truth_at all text) z (shut more)
unfolding truth_at
true_read all z more text e l =
    let f = word_reads (codes "true") (shut more) text true_bytes.0 true_bytes.1 shut_halts l in
    record {
      rest = f.rest;
      is = ap (λ x. cond (bytes_eq x.0 (codes "true")) (Some (pos 1, x.1)) (cond (bytes_eq x.0 (codes "false")) (Some (pos 0, x.1)) (int_at all text))) f.is ∙ ap (λ y. Some (y, f.rest)) (sym e);
      laid = f.laid;
    }

false_read : (all : ℕ) (z : ℤ) (more : List Part) (text : List ℕ) → z ≡ pos 0 → Lays (word (codes "false") ∷ shut more) text → ReadsItem (truth_at all text) z (shut more)
unfolding truth_at
false_read all z more text e l =
    let f = word_reads (codes "false") (shut more) text false_bytes.0 false_bytes.1 shut_halts l in
    record {
      rest = f.rest;
      is = ap (λ x. cond (bytes_eq x.0 (codes "true")) (Some (pos 1, x.1)) (cond (bytes_eq x.0 (codes "false")) (Some (pos 0, x.1)) (int_at all text))) f.is ∙ ap (λ y. Some (y, f.rest)) (sym e);
      laid = f.laid;
    }

-- what a number begins with
pub record BeginsNumber (text : List ℕ) : Type 0 where
  pub first : ℕ
  pub rest : List ℕ
  pub is : unblanked text ≡ first ∷ rest
  pub no_t : (first == 116) ≡ false
  pub no_f : (first == 102) ≡ false

digit_begins : (ds r text : List ℕ) → 0 < length ds → AllByRecursion (λ c. is_ascii_digit c ≡ true) ds → unblanked text ≡ ds ++ r → BeginsNumber text
digit_begins [] r text h b e = absurd (omega arith)
digit_begins (d ∷ ds) r text h b e = let f : is_ascii_digit d ≡ true = b.0 in record { first = d; rest = ds ++ r; is = e; no_t = grind (arith, nat_tests); no_f = grind (arith, nat_tests) }

number_begins : (all : ℕ) (parts : List Part) (z : ℤ) (more : List Part) (text : List ℕ) → IsInt all parts z → Lays (parts ++ shut more) text → BeginsNumber text
number_begins all parts z more text (digits, n, d, sign) l =
    ⊎_elim (λ e.
    let k : Lays (word digits ∷ shut more) text = subst (λ ps. Lays (ps ++ shut more) text) e.0 l in
    digit_begins digits k.1 text d.some (tests_of_digits digits d.digits) (word_front is_ascii_digit digits (shut more) text digits_solid d.some (tests_of_digits digits d.digits) k))
    (λ e.
    let k : Lays (word (codes "-" ++ digits) ∷ shut more) text = subst (λ ps. Lays (ps ++ shut more) text) e.0 l in
    record { first = 45; rest = digits ++ k.1; is = ap unblanked k.2 ∙ unblanked_over k.0 ((codes "-" ++ digits) ++ k.1) k.3 (stops_at is_blank 45 (digits ++ k.1) refl); no_t = refl; no_f = refl }) sign

number_read : (all : ℕ) (z : ℤ) (r text : List ℕ) → BeginsNumber text → int_at all text ≡ Some (z, r) → truth_at all text ≡ Some (z, r)
unfolding truth_at
number_read all z r text b h =
    ap (λ e. cond e (Some (pos 1, (word_at text).1)) (cond (bytes_eq (word_at text).0 (codes "false")) (Some (pos 0, (word_at text).1)) (int_at all text))) (not_word 116 (codes "rue") b.first b.rest text b.is b.no_t)
    ∙ ap (λ e. cond e (Some (pos 0, (word_at text).1)) (int_at all text)) (not_word 102 (codes "alse") b.first b.rest text b.is b.no_f)
    ∙ h

truth_reads : (all : ℕ) (parts : List Part) (z : ℤ) (more : List Part) (text : List ℕ) → all ≤ 2 ^ 64 → IsTruth all parts z → Lays (parts ++ shut more) text → ReadsItem (truth_at all text) z (shut more)
truth_reads all parts z more text a h l =
    ⊎_elim (λ e. true_read all z more text e.1 (subst (λ ps. Lays (ps ++ shut more) text) e.0 l))
    (λ g. ⊎_elim (λ e. false_read all z more text e.1 (subst (λ ps. Lays (ps ++ shut more) text) e.0 l))
    (λ i. let f = int_reads all parts z more text a i l in record { rest = f.rest; is = number_read all z f.rest text (number_begins all parts z more text i l) f.is; laid = f.laid }) g) h

-- Brackets.

-- the steps of what stands between two marks, each with what it gives
abbrev behind_it : {A : Type 0} → A → Option (List ℕ) → Option (A × List ℕ)
behind_it x o = o >>= λ b. Some (x, b)

abbrev closed_by : {A : Type 0} → List ℕ → Option (A × List ℕ) → Option (A × List ℕ)
closed_by m o = o >>= λ x. behind_it x.0 (mark_at m x.1)

abbrev opened_by : {A : Type 0} → List ℕ → (List ℕ → Option (A × List ℕ)) → Option (List ℕ) → Option (A × List ℕ)
opened_by m read o = o >>= λ a. closed_by m (read a)

-- what stands beside the arguments ends in a mark, or is nothing
pub record LaysBeside {A : Type 0} (is : List Part → A → Type 0) (text : List ℕ) (x : A) (r : List ℕ) : Type 0 where
  pub parts : List Part
  pub item : is parts x
  pub lays : (more : List Part) → Lays more r → Lays (parts ++ more) text

abbrev IsBracketed : (List Part → ℤ → Type 0) → List Part → ℤ → Type 0
IsBracketed is parts z = (inside : List Part) × (parts ≡ bracketed inside) × is inside z

square_lay : (read : List ℕ → Option (ℤ × List ℕ)) (is : List Part → ℤ → Type 0) → ((t : List ℕ) (z : ℤ) (r : List ℕ) → read t ≡ Some (z, r) → LaysItem is t z r) → (text : List ℕ) (z : ℤ) (r : List ℕ) → in_square read text ≡ Some (z, r) → LaysBeside (IsBracketed is) text z r
unfolding in_square
square_lay read is f text z r h =
    let a = bind_some (mark_at (codes "[") text) _ (z, r) h in
    let x = bind_some (read a.0) _ (z, r) a.2 in
    let b = bind_some (mark_at (codes "]") x.0.1) _ (z, r) x.2 in
    let same = some_is (x.0.0, b.0) (z, r) b.2 in
    let i = f a.0 x.0.0 x.0.1 x.1 in
    record {
      parts = bracketed i.parts;
      item = (i.parts, refl, subst (is i.parts) (ap (λ y. y.0) same) i.item);
      lays = λ more l.
          mark_lays (codes "[") ((i.parts ++ mark (codes "]") ∷ []) ++ more) text a.0 a.1
          (subst (λ ps. Lays ps a.0) (sym (append_assoc i.parts (mark (codes "]") ∷ []) more))
          (i.lays (shut more) tt (mark_lays (codes "]") more x.0.1 b.0 b.1 (subst (Lays more) (sym (ap (λ y. y.1) same)) l))));
    }

square_read : (read : List ℕ → Option (ℤ × List ℕ)) (is : List Part → ℤ → Type 0) → ((inside : List Part) (z : ℤ) (more : List Part) (t : List ℕ) → is inside z → Lays (inside ++ shut more) t → ReadsItem (read t) z (shut more))
    → (parts : List Part) (z : ℤ) (more : List Part) (text : List ℕ) → IsBracketed is parts z → Lays (parts ++ more) text → ReadsItem (in_square read text) z more
unfolding in_square
square_read read is f parts z more text (inside, spelled, item) l =
    let k = subst (λ ps. Lays (ps ++ more) text) spelled l in
    let a = mark_reads 91 [] ((inside ++ mark (codes "]") ∷ []) ++ more) text refl k in
    let x = f inside z more a.0 item (subst (λ ps. Lays ps a.0) (append_assoc inside (mark (codes "]") ∷ []) more) a.2) in
    let b = mark_reads 93 [] more x.rest refl x.laid in
    record {
      rest = b.0;
      is = ap (λ o. o >>= λ a. read a >>= λ x. mark_at (codes "]") x.1 >>= λ b. Some (x.0, b)) a.1
          ∙ ap (λ o. o >>= λ x. mark_at (codes "]") x.1 >>= λ b. Some (x.0, b)) x.is
          ∙ ap (λ o. o >>= λ b. Some (z, b)) b.1;
      laid = b.2;
    }

-- what is dropped where it stands
abbrev IsDropped : (List Part → ℤ → Type 0) → List Part → ℤ → Type 0
IsDropped is parts z = (z ≡ pos 0) × ((parts ≡ []) ⊎ ((inside : List Part) × (n : ℤ) × (parts ≡ bracketed inside) × is inside n))

dropped_lay : (read : List ℕ → Option (ℤ × List ℕ)) (is : List Part → ℤ → Type 0) → ((t : List ℕ) (z : ℤ) (r : List ℕ) → read t ≡ Some (z, r) → LaysItem is t z r) → (text : List ℕ) (z : ℤ) (r : List ℕ) (o : Option (List ℕ))
    → cond (is_some o) (made (λ n. pos 0) (in_square read text)) (Some (pos 0, text)) ≡ Some (z, r) → LaysBeside (IsDropped is) text z r
dropped_lay read is f text z r None h =
    let same = some_is (pos 0, text) (z, r) h in
    record { parts = []; item = (sym (ap (λ x. x.0) same), inl refl); lays = λ more l. subst (Lays more) (sym (ap (λ x. x.1) same)) l }
dropped_lay read is f text z r (Some a) h =
    let m = map_some _ (in_square read text) (z, r) h in
    let i = square_lay read is f text m.0.0 m.0.1 m.1 in
    record { parts = i.parts; item = (sym (ap (λ x. x.0) m.2), inr (i.item.0, m.0.0, i.item.1, i.item.2)); lays = λ more l. i.lays more (subst (Lays more) (sym (ap (λ x. x.1) m.2)) l) }

-- the text begins with no such mark
abbrev pub Lacks : List ℕ → List Part → Type 0
Lacks m more = (text : List ℕ) → Lays more text → mark_at m text ≡ None

dropped_read : (read : List ℕ → Option (ℤ × List ℕ)) (is : List Part → ℤ → Type 0) → ((inside : List Part) (z : ℤ) (more : List Part) (t : List ℕ) → is inside z → Lays (inside ++ shut more) t → ReadsItem (read t) z (shut more))
    → (parts : List Part) (z : ℤ) (more : List Part) (text : List ℕ) → IsDropped is parts z → Lacks (codes "[") more → Lays (parts ++ more) text
    → ReadsItem (cond (is_some (mark_at (codes "[") text)) (made (λ n. pos 0) (in_square read text)) (Some (pos 0, text))) z more
dropped_read read is f parts z more text h k l =
    ⊎_elim (λ e.
    let here : Lays more text = subst (λ ps. Lays (ps ++ more) text) e l in
    record { rest = text; is = ap (λ o. cond (is_some o) (made (λ n. pos 0) (in_square read text)) (Some (pos 0, text))) (k text here) ∙ ap (λ y. Some (y, text)) (sym h.0); laid = here })
    (λ e.
    let whole : Lays (bracketed e.0 ++ more) text = subst (λ ps. Lays (ps ++ more) text) e.2 l in
    let m = mark_reads 91 [] ((e.0 ++ mark (codes "]") ∷ []) ++ more) text refl whole in
    let s = square_read read is f (bracketed e.0) e.1 more text (e.0, refl, e.3) whole in
    record {
      rest = s.rest;
      is = ap (λ o. cond (is_some o) (made (λ n. pos 0) (in_square read text)) (Some (pos 0, text))) m.1 ∙ ap (made (λ n. pos 0)) s.is ∙ ap (λ y. Some (y, s.rest)) (sym h.0);
      laid = s.laid;
    }) h.1

pub square_lays : (k : Square) (all : ℕ) (text : List ℕ) (z : ℤ) (r : List ℕ) → all ≤ 2 ^ 64 → square_at k all text ≡ Some (z, r) → LaysBeside (IsSquare k all) text z r
unfolding square_at
square_lays square.Nothing all text z r a h =
    let same = some_is (pos 0, text) (z, r) h in record { parts = []; item = (refl, sym (ap (λ x. x.0) same)); lays = λ more l. subst (Lays more) (sym (ap (λ x. x.1) same)) l }
square_lays square.Number all text z r a h = let i = square_lay (int_at all) (IsInt all) (λ t y s e. int_lays all t y s a e) text z r h in record { parts = i.parts; item = i.item; lays = i.lays }
square_lays square.Truth all text z r a h = let i = square_lay (truth_at all) (IsTruth all) (λ t y s e. truth_lays all t y s a e) text z r h in record { parts = i.parts; item = i.item; lays = i.lays }
square_lays square.Ignored all text z r a h = let i = dropped_lay (int_at all) (IsInt all) (λ t y s e. int_lays all t y s a e) text z r (mark_at (codes "[") text) h in record { parts = i.parts; item = i.item; lays = i.lays }
square_lays square.IgnoredTruth all text z r a h = let i = dropped_lay (truth_at all) (IsTruth all) (λ t y s e. truth_lays all t y s a e) text z r (mark_at (codes "[") text) h in record { parts = i.parts; item = i.item; lays = i.lays }

pub square_reads : (k : Square) (all : ℕ) (parts : List Part) (z : ℤ) (more : List Part) (text : List ℕ) → all ≤ 2 ^ 64 → IsSquare k all parts z → Lacks (codes "[") more → Lays (parts ++ more) text → ReadsItem (square_at k all text) z more
unfolding square_at
square_reads square.Nothing all parts z more text a h k l = record { rest = text; is = ap (λ y. Some (y, text)) (sym h.1); laid = subst (λ ps. Lays (ps ++ more) text) h.0 l }
square_reads square.Number all parts z more text a h k l = square_read (int_at all) (IsInt all) (λ i y m t e g. int_reads all i y m t a e g) parts z more text h l
square_reads square.Truth all parts z more text a h k l = square_read (truth_at all) (IsTruth all) (λ i y m t e g. truth_reads all i y m t a e g) parts z more text h l
square_reads square.Ignored all parts z more text a h k l = dropped_read (int_at all) (IsInt all) (λ i y m t e g. int_reads all i y m t a e g) parts z more text h k l
square_reads square.IgnoredTruth all parts z more text a h k l = dropped_read (truth_at all) (IsTruth all) (λ i y m t e g. truth_reads all i y m t a e g) parts z more text h k l

-- Braces.

abbrev close : List Part → List Part
close more = mark (codes "}") ∷ more

-- what is in braces, which no word goes on behind
abbrev IsBraced : {A : Type 0} → (List Part → A → Type 0) → List Part → A → Type 0
IsBraced is parts x = (inside : List Part) × (parts ≡ braced inside) × is inside x

brace_lay : {A : Type 0} (read : List ℕ → Option (A × List ℕ)) (is : List Part → A → Type 0) → ((t : List ℕ) (x : A) (r : List ℕ) → read t ≡ Some (x, r) → LaysItem is t x r) → (text : List ℕ) (x : A) (r : List ℕ) → in_braces read text ≡ Some (x, r) → LaysBeside (IsBraced is) text x r
unfolding in_braces
brace_lay read is f text z r h =
    let a = bind_some (mark_at (codes "{") text) _ (z, r) h in
    let x = bind_some (read a.0) _ (z, r) a.2 in
    let b = bind_some (mark_at (codes "}") x.0.1) _ (z, r) x.2 in
    let same = some_is (x.0.0, b.0) (z, r) b.2 in
    let i = f a.0 x.0.0 x.0.1 x.1 in
    record {
      parts = braced i.parts;
      item = (i.parts, refl, subst (is i.parts) (ap (λ y. y.0) same) i.item);
      lays = λ more l.
          mark_lays (codes "{") ((i.parts ++ mark (codes "}") ∷ []) ++ more) text a.0 a.1
          (subst (λ ps. Lays ps a.0) (sym (append_assoc i.parts (mark (codes "}") ∷ []) more))
          (i.lays (close more) tt (mark_lays (codes "}") more x.0.1 b.0 b.1 (subst (Lays more) (sym (ap (λ y. y.1) same)) l))));
    }

brace_read : {A : Type 0} (read : List ℕ → Option (A × List ℕ)) (is : List Part → A → Type 0) → ((inside : List Part) (x : A) (more : List Part) (t : List ℕ) → is inside x → Lays (inside ++ close more) t → ReadsItem (read t) x (close more))
    → (inside : List Part) (x : A) (more : List Part) (text : List ℕ) → is inside x → Lays (braced inside ++ more) text → ReadsItem (in_braces read text) x more
unfolding in_braces
brace_read read is f inside z more text item l =
    let a = mark_reads 123 [] ((inside ++ mark (codes "}") ∷ []) ++ more) text refl l in
    let x = f inside z more a.0 item (subst (λ ps. Lays ps a.0) (append_assoc inside (mark (codes "}") ∷ []) more) a.2) in
    let b = mark_reads 125 [] more x.rest refl x.laid in
    record {
      rest = b.0;
      is = ap (λ o. o >>= λ a. read a >>= λ x. mark_at (codes "}") x.1 >>= λ b. Some (x.0, b)) a.1
          ∙ ap (λ o. o >>= λ x. mark_at (codes "}") x.1 >>= λ b. Some (x.0, b)) x.is
          ∙ ap (λ o. o >>= λ b. Some (z, b)) b.1;
      laid = b.2;
    }

brace_fails : {A : Type 0} (read : List ℕ → Option (A × List ℕ)) (text a : List ℕ) → mark_at (codes "{") text ≡ Some a → read a ≡ None → in_braces read text ≡ None
unfolding in_braces
brace_fails read text a h e = ap (opened_by (codes "}") read) h ∙ ap (closed_by (codes "}")) e

abbrev IsNamed : List Part → List ℕ → Type 0
IsNamed parts n = (parts ≡ word n ∷ []) × IsName n

named_lay : (text n r : List ℕ) → name_at text ≡ Some (n, r) → LaysItem IsNamed text n r
named_lay text n r h = let f = name_lays text n r h in record { parts = word n ∷ []; item = (refl, f.name); lays = λ more w l. f.lays more (free (word n) more r w) l }

close_name : is_name_byte 125 ≡ false
unfolding is_name_byte
close_name = refl

open_name : is_name_byte 123 ≡ false
unfolding is_name_byte
open_name = refl

close_plain : is_plain_byte 125 ≡ false
unfolding is_plain_byte is_name_byte
close_plain = refl

named_read : (inside : List Part) (n : List ℕ) (more : List Part) (text : List ℕ) → IsNamed inside n → Lays (inside ++ close more) text → ReadsItem (name_at text) n (close more)
named_read inside n more text h l = let f = name_reads n (close more) text h.1 close_name (subst (λ ps. Lays (ps ++ close more) text) h.0 l) in record { rest = f.rest; is = f.is; laid = f.laid }

type_read : (inside : List Part) (t : Ty) (more : List Part) (text : List ℕ) → IsOne inside t → Lays (inside ++ close more) text → ReadsItem (one_type_at text) t (close more)
type_read inside t more text h l = one_item.reads inside t (close more) text h close_plain l

-- callees

aux_name : IsName (codes "AuxCall")
unfolding is_name_byte
aux_name = ascii_named is_name_byte (codes "AuxCall") (omega arith) refl refl

abbrev IsAuxCall : List Part → List ℕ → Type 0
IsAuxCall parts n = (inside : List Part) × (parts ≡ word (codes "AuxCall") ∷ braced inside) × IsNamed inside n

aux_lay : (text n r : List ℕ) → aux_call_at text ≡ Some (n, r) → LaysItem IsAuxCall text n r
unfolding aux_call_at
aux_lay text n r h =
    let w = bind_some (name_at text) _ (n, r) h in
    let q = if_true (bytes_eq w.0.0 (codes "AuxCall")) (in_braces name_at w.0.1) (n, r) w.2 in
    let f = name_lays text w.0.0 w.0.1 w.1 in
    let i = brace_lay name_at IsNamed named_lay w.0.1 n r q.1 in
    let name = same_bytes w.0.0 (codes "AuxCall") q.0 in
    record {
      parts = word w.0.0 ∷ i.parts;
      item = (i.item.0, ap (λ w. word w ∷ i.parts) name ∙ ap (λ ps. word (codes "AuxCall") ∷ ps) i.item.1, i.item.2);
      lays = λ more v l. let k : Lays (i.parts ++ more) w.0.1 = i.lays more l in f.lays (i.parts ++ more) (subst (λ ps. Apart (word w.0.0) (ps ++ more) w.0.1) (sym i.item.1) tt) k;
    }

aux_read : (inside : List Part) (n : List ℕ) (more : List Part) (text : List ℕ) → IsAuxCall inside n → Lays (inside ++ close more) text → ReadsItem (aux_call_at text) n (close more)
unfolding aux_call_at
aux_read inside n more text h l =
    let k : Lays (word (codes "AuxCall") ∷ (braced h.0 ++ close more)) text = subst (λ ps. Lays (ps ++ close more) text) h.1 l in
    let f = name_reads (codes "AuxCall") (braced h.0 ++ close more) text aux_name open_name k in
    let b = brace_read name_at IsNamed named_read h.0 n (close more) f.rest h.2 f.laid in
    record { rest = b.rest; is = ap (λ o. o >>= λ n. cond (bytes_eq n.0 (codes "AuxCall")) (in_braces name_at n.1) None) f.is ∙ b.is; laid = b.laid }

either_none : {A : Type 0} (b : Bool) → cond {A = Option A} b None None ≡ None
either_none true = refl
either_none false = refl

unbraced : (text : List ℕ) → mark_at (codes "{") text ≡ None → in_braces name_at text ≡ None
unfolding in_braces
unbraced text h = ap (opened_by (codes "}") name_at) h

no_aux : (n : List ℕ) (more : List Part) (text : List ℕ) → IsName n → Lays (word n ∷ close more) text → aux_call_at text ≡ None
unfolding aux_call_at
no_aux n more text h l =
    let f = name_reads n (close more) text h close_name l in
    ap (λ o. o >>= λ n. cond (bytes_eq n.0 (codes "AuxCall")) (in_braces name_at n.1) None) f.is
    ∙ ap (λ o. cond (bytes_eq n (codes "AuxCall")) o None) (unbraced f.rest (other_mark 123 [] 125 [] more f.rest refl refl f.laid))
    ∙ either_none (bytes_eq n (codes "AuxCall"))

callee_first : (text n r : List ℕ) → in_braces aux_call_at text ≡ Some (n, r) → callee_at text ≡ Some (n, r)
unfolding callee_at
callee_first text n r h = ap (λ o. or_else o (in_braces name_at text)) h

callee_second : (text n r : List ℕ) → in_braces aux_call_at text ≡ None → in_braces name_at text ≡ Some (n, r) → callee_at text ≡ Some (n, r)
unfolding callee_at
callee_second text n r h g = ap (λ o. or_else o (in_braces name_at text)) h ∙ g

abbrev IsCallee : List Part → List ℕ → Type 0
IsCallee parts n = IsName n × ((parts ≡ braced (word n ∷ [])) ⊎ (parts ≡ braced (word (codes "AuxCall") ∷ braced (word n ∷ []))))

callee_lay : (text n r : List ℕ) → callee_at text ≡ Some (n, r) → LaysBeside IsCallee text n r
unfolding callee_at
callee_lay text n r h =
    ⊎_elim (λ e.
    let i = brace_lay aux_call_at IsAuxCall aux_lay text n r e in
    record { parts = i.parts; item = (i.item.2.2.1, inr (i.item.1 ∙ ap braced (i.item.2.1 ∙ ap (λ ps. word (codes "AuxCall") ∷ braced ps) i.item.2.2.0))); lays = i.lays })
    (λ e.
    let i = brace_lay name_at IsNamed named_lay text n r e.1 in
    record { parts = i.parts; item = (i.item.2.1, inl (i.item.1 ∙ ap braced i.item.2.0)); lays = i.lays })
    (either (in_braces aux_call_at text) (in_braces name_at text) (n, r) h)

callee_read : (parts : List Part) (n : List ℕ) (more : List Part) (text : List ℕ) → IsCallee parts n → Lays (parts ++ more) text → ReadsItem (callee_at text) n more
callee_read parts n more text h l =
    ⊎_elim (λ e.
    let k : Lays (braced (word n ∷ []) ++ more) text = subst (λ ps. Lays (ps ++ more) text) e l in
    let m = mark_reads 123 [] (word n ∷ close more) text refl k in
    let b = brace_read name_at IsNamed named_read (word n ∷ []) n more text (refl, h.0) k in
    record { rest = b.rest; is = callee_second text n b.rest (brace_fails aux_call_at text m.0 m.1 (no_aux n more m.0 h.0 m.2)) b.is; laid = b.laid })
    (λ e.
    let k : Lays (braced (word (codes "AuxCall") ∷ braced (word n ∷ [])) ++ more) text = subst (λ ps. Lays (ps ++ more) text) e l in
    let b = brace_read aux_call_at IsAuxCall aux_read (word (codes "AuxCall") ∷ braced (word n ∷ [])) n more text ((word n ∷ []), refl, (refl, h.0)) k in
    record { rest = b.rest; is = callee_first text n b.rest b.is; laid = b.laid }) h.1

-- what is in braces, and what it mentions

abbrev mention_and : MentionTree → List ℕ → Option (MentionTree × List ℕ)
mention_and m r = Some (m, r)

nothing_lays : (is : List Part → MentionTree → Type 0) (text : List ℕ) (m : MentionTree) (r : List ℕ) → mention_and no_mention text ≡ mention_and m r → ((n : MentionTree) → n ≡ no_mention → is [] n) → LaysBeside is text m r
nothing_lays is text m r h f = let same = some_is (no_mention, text) (m, r) h in record { parts = []; item = f m (sym (ap (λ x. x.0) same)); lays = λ more l. subst (Lays more) (sym (ap (λ x. x.1) same)) l }

ignored_lays : (text : List ℕ) (m : MentionTree) (r : List ℕ) (o : Option (List ℕ)) → cond (is_some o) (made (λ n. no_mention) (in_braces name_at text)) (Some (no_mention, text)) ≡ Some (m, r) → LaysBeside (IsBraces braces.Ignored) text m r
ignored_lays text m r None h = nothing_lays (IsBraces braces.Ignored) text m r h (λ n e. (e, inl refl))
ignored_lays text m r (Some a) h =
    let x = map_some _ (in_braces name_at text) (m, r) h in
    let i = brace_lay name_at IsNamed named_lay text x.0.0 x.0.1 x.1 in
    record { parts = i.parts; item = (sym (ap (λ y. y.0) x.2), inr (x.0.0, i.item.1 ∙ ap braced i.item.2.0, i.item.2.1)); lays = λ more l. i.lays more (subst (Lays more) (sym (ap (λ y. y.1) x.2)) l) }

pub braces_lays : (k : Braces) (text : List ℕ) (m : MentionTree) (r : List ℕ) → braces_at k text ≡ Some (m, r) → LaysBeside (IsBraces k) text m r
unfolding braces_at
braces_lays braces.Nothing text m r h = nothing_lays (IsBraces braces.Nothing) text m r h (λ n e. (refl, e))
braces_lays braces.Type text m r h =
    let x = map_some _ (in_braces one_type_at text) (m, r) h in
    let i = brace_lay one_type_at IsOne one_item.lays text x.0.0 x.0.1 x.1 in
    record { parts = i.parts; item = (i.item.2.0, x.0.0, i.item.1 ∙ ap braced i.item.2.1, i.item.2.2, sym (ap (λ y. y.0) x.2)); lays = λ more l. i.lays more (subst (Lays more) (sym (ap (λ y. y.1) x.2)) l) }
braces_lays braces.Name text m r h =
    let x = map_some _ (in_braces name_at text) (m, r) h in
    let i = brace_lay name_at IsNamed named_lay text x.0.0 x.0.1 x.1 in
    record { parts = i.parts; item = (x.0.0, i.item.1 ∙ ap braced i.item.2.0, i.item.2.1, sym (ap (λ y. y.0) x.2)); lays = λ more l. i.lays more (subst (Lays more) (sym (ap (λ y. y.1) x.2)) l) }
braces_lays braces.Callee text m r h =
    let x = map_some _ (callee_at text) (m, r) h in
    let i = callee_lay text x.0.0 x.0.1 x.1 in
    record { parts = i.parts; item = (x.0.0, i.item.0, sym (ap (λ y. y.0) x.2), i.item.1); lays = λ more l. i.lays more (subst (Lays more) (sym (ap (λ y. y.1) x.2)) l) }
braces_lays braces.Ignored text m r h = ignored_lays text m r (mark_at (codes "{") text) h

pub braces_reads : (k : Braces) (parts : List Part) (m : MentionTree) (more : List Part) (text : List ℕ) → IsBraces k parts m → Lacks (codes "{") more → Lays (parts ++ more) text → ReadsItem (braces_at k text) m more
unfolding braces_at
braces_reads braces.Nothing parts m more text h k l = record { rest = text; is = ap (λ y. Some (y, text)) (sym h.1); laid = subst (λ ps. Lays (ps ++ more) text) h.0 l }
braces_reads braces.Type parts m more text h k l =
    let b = brace_read one_type_at IsOne type_read (word h.0 ∷ []) h.1 more text (h.0, refl, h.3) (subst (λ ps. Lays (ps ++ more) text) h.2 l) in
    record { rest = b.rest; is = ap (made of_type) b.is ∙ ap (λ y. Some (y, b.rest)) (sym h.4); laid = b.laid }
braces_reads braces.Name parts m more text h k l =
    let b = brace_read name_at IsNamed named_read (word h.0 ∷ []) h.0 more text (refl, h.2) (subst (λ ps. Lays (ps ++ more) text) h.1 l) in
    record { rest = b.rest; is = ap (made of_name) b.is ∙ ap (λ y. Some (y, b.rest)) (sym h.3); laid = b.laid }
braces_reads braces.Callee parts m more text h k l =
    let b = callee_read parts h.0 more text (h.1, h.3) l in
    record { rest = b.rest; is = ap (made of_name) b.is ∙ ap (λ y. Some (y, b.rest)) (sym h.2); laid = b.laid }
braces_reads braces.Ignored parts m more text h k l =
    ⊎_elim (λ e.
    let here : Lays more text = subst (λ ps. Lays (ps ++ more) text) e l in
    record { rest = text; is = ap (λ o. cond (is_some o) (made (λ n. no_mention) (in_braces name_at text)) (Some (no_mention, text))) (k text here) ∙ ap (λ y. Some (y, text)) (sym h.0); laid = here })
    (λ e.
    let whole : Lays (braced (word e.0 ∷ []) ++ more) text = subst (λ ps. Lays (ps ++ more) text) e.1 l in
    let m = mark_reads 123 [] (word e.0 ∷ close more) text refl whole in
    let b = brace_read name_at IsNamed named_read (word e.0 ∷ []) e.0 more text (refl, e.2) whole in
    record {
      rest = b.rest;
      is = ap (λ o. cond (is_some o) (made (λ n. no_mention) (in_braces name_at text)) (Some (no_mention, text))) m.1 ∙ ap (made (λ n. no_mention)) b.is ∙ ap (λ y. Some (y, b.rest)) (sym h.0);
      laid = b.laid;
    }) h.1

-- Texts of rules that are printed are read back.
use Rattle.std.proofs.Common.{◌≡◌, ℕ, zero, suc, ◌+◌, ◌-◌, ◌^◌, ◌<◌, ◌≤◌, List, [], ◌∷◌, ◌++◌, append_assoc, length, take, drop, map, get_or, ap, ◌∙◌, sym, refl, subst, arith, Bool, true, false, cond, Option, Some, None, Result, Ok, Err, codes}
use Rattle.std.specs.Prelude.{◌==◌, ◌&&◌, ◌||◌, not, nat_lt, if◌then◌else◌, slice_index}
use Rattle.std.specs.List.{slice_split, list_all, AllByRecursion}
use Rattle.std.specs.Option.{is_some}
use Rattle.std.proofs.lemmas.Bool.Decides.{nat_tests}
use Rattle.std.proofs.lemmas.List.{length-append}
use Rattle.std.proofs.lemmas.List.Splits.{slice_split_at, length-slice_split}
use Rattle.bk_text.specs.Tokens.{is_blank}
use Rattle.bk_rule.specs.declared.trees.Pattern.{Pattern}
use Rattle.bk_rule.specs.declared.trees.Rule.{Rule}
use Rattle.bk_rule.proofs.Opened.{opened}
use Rattle.bk_rule_text.specs.declared.errors.Fault.{Fault}
use Rattle.bk_rule_text.specs.declared.errors.Fault.TheVariants as fault
use Rattle.bk_rule_text.specs.declared.errors.RuleError.{RuleError}
use Rattle.bk_rule_text.specs.Front.{◌>>=◌, is_done, unblanked, after, mark_at, where_marked, onto}
use Rattle.bk_rule_text.specs.Groups.{BitTree, byte, is_part_byte, part_len, part_at, parts_at, group_at, bit_at, bits_at, bits, first_count, has_count, count_of, expanded}
use Rattle.bk_rule_text.specs.Layout.{variable, front_text, pattern_text, conditions_text, build_text, rule_text, rules_text}
use Rattle.bk_rule_text.specs.Patterns.{is_node}
use Rattle.bk_rule_text.specs.Rules.{numbers_from, rule_at}
use Rattle.bk_rule_text.specs.Stands.{has_its_parts, same_sort, agree, rule_sorts}
use Rattle.bk_rule_text.specs.Widths.{fits}
use Rattle.bk_rule_text.specs.Texts.{without_cr, lines_of, is_lf, lines, is_skipped, in_front, rules_at, written, stands, if_standing, rules_of_line, at, at_line, followed, then_lines, rules_of_lines, rules_of}
use Rattle.bk_rule_text.proofs.Cuts.{one_line_more, no_lines}
use Rattle.bk_rule_text.proofs.Inverse.{none_is_some, same, steps}
use Rattle.bk_rule_text.proofs.Printed.{idle}
use Rattle.bk_rule_text.proofs.PrintedPatterns.{Lefts, any_left, var_left, node_left}
use Rattle.bk_rule_text.proofs.PrintedRules.{body, RuleWritten, rule_back}
use Rattle.bk_rule_text.proofs.Quiet.{begins_bar, rests, calm, both_true, calm_body}
use Rattle.bk_rule_text.proofs.ReadRules.{Good, rule_gives}

-- ---- no group stands in a calm text
no_bar : (t : List ℕ) → begins_bar t ≡ false → after (codes "|") t ≡ None
unfolding after
no_bar [] h = refl
no_bar (c ∷ t) h = ap (λ b. cond b (Some t) None) (turned c h)
  where
    turned : (d : ℕ) → (d == 124) ≡ false → (124 == d) ≡ false
    turned d e = grind (arith, nat_tests)

resting : (c : ℕ) (bar : Bool) → rests c bar ≡ true → is_part_byte c ≡ true → bar ≡ false
resting c false h p = refl
resting c true h p =
    let a = both_true (not (c == 10) && not (c == 13)) (not (is_part_byte c && true)) h in
    absurd (let e : not (true && true) ≡ true = sym (ap (λ b. not (b && true)) p) ∙ a.1 in cc)

run_ends : (r : List ℕ) → calm r ≡ true → 0 < part_len r → begins_bar (drop (part_len r) r) ≡ false
unfolding calm
run_ends [] h l = absurd (omega arith)
run_ends (c ∷ t) h l = by (is_part_byte c) refl (part_len t) refl (run_ends t)
  where
    p : (rests c (begins_bar t) ≡ true) × (calm t ≡ true)
    p = both_true (rests c (begins_bar t)) (calm t) h

    by : (b : Bool) → is_part_byte c ≡ b → (n : ℕ) → part_len t ≡ n → (calm t ≡ true → 0 < part_len t → begins_bar (drop (part_len t) t) ≡ false) → begins_bar (drop (part_len (c ∷ t)) (c ∷ t)) ≡ false
    by false e n d on = absurd (let z : part_len (c ∷ t) ≡ 0 = ap (λ b. cond b (1 + part_len t) 0) e in omega arith)
    by true e zero d on =
        let z : part_len (c ∷ t) ≡ suc zero = ap (λ b. cond b (1 + part_len t) 0) e ∙ (omega arith) in
        ap (λ k. begins_bar (drop k (c ∷ t))) z ∙ resting c (begins_bar t) p.0 e
    by true e (suc n) d on =
        let z : part_len (c ∷ t) ≡ suc (part_len t) = ap (λ b. cond b (1 + part_len t) 0) e ∙ (omega arith) in
        ap (λ k. begins_bar (drop k (c ∷ t))) z ∙ on p.1 (omega arith)

abbrev if_several : Option (List (List ℕ) × List ℕ) → Option (List (List ℕ) × List ℕ)
if_several o = o >>= λ g. if length g.0 == 1 then None else Some g

abbrev after_part : ℕ → List ℕ × List ℕ → Option (List ℕ) → Option (List (List ℕ) × List ℕ)
after_part n p o = where_marked o (λ r. Some (p.0 ∷ [], r)) (after (codes "|") p.1 >>= λ r. onto p.0 (parts_at n r))

one_part : (n : ℕ) (p : List ℕ × List ℕ) (o : Option (List ℕ)) → begins_bar p.1 ≡ false → if_several (after_part n p o) ≡ None
one_part n p (Some r) h = refl
one_part n p None h = ap (λ o. if_several (o >>= λ r. onto p.0 (parts_at n r))) (no_bar p.1 h)

no_parts : (n : ℕ) (r : List ℕ) → calm r ≡ true → if_several (parts_at n r) ≡ None
unfolding parts_at part_at
no_parts zero r h = refl
no_parts (suc n) r h = by (part_len r == 0) refl
  where
    by : (b : Bool) → (part_len r == 0) ≡ b → if_several (parts_at (suc n) r) ≡ None
    by true e = ap (λ b. if_several ((if b then None else Some (take (part_len r) r, drop (part_len r) r)) >>= λ p. after_part n p (after (codes ")") p.1))) e
    by false e =
        ap (λ b. if_several ((if b then None else Some (take (part_len r) r, drop (part_len r) r)) >>= λ p. after_part n p (after (codes ")") p.1))) e
        ∙ one_part n (take (part_len r) r, drop (part_len r) r) (after (codes ")") (drop (part_len r) r)) (run_ends r h (positive (part_len r) e))
      where
        positive : (k : ℕ) → (k == 0) ≡ false → 0 < k
        positive k d = grind (arith, nat_tests)

no_group : (c : ℕ) (t : List ℕ) → calm (c ∷ t) ≡ true → group_at (c ∷ t) ≡ None
unfolding group_at after calm
no_group c t h = by (40 == c) refl
  where
    by : (b : Bool) → (40 == c) ≡ b → group_at (c ∷ t) ≡ None
    by true e = ap (λ b. cond b (Some t) None >>= λ r. if_several (parts_at (length r) r)) e ∙ no_parts (length t) t (both_true (rests c (begins_bar t)) (calm t) h).1
    by false e = ap (λ b. cond b (Some t) None >>= λ r. if_several (parts_at (length r) r)) e

calm_rest : (c : ℕ) (t : List ℕ) → calm (c ∷ t) ≡ true → calm t ≡ true
unfolding calm
calm_rest c t h = (both_true (rests c (begins_bar t)) (calm t) h).1

plain_bits : (n : ℕ) (t : List ℕ) → calm t ≡ true → length t ≤ n → bits_at n t ≡ map byte t
unfolding bits_at
plain_bits zero [] h l = refl
plain_bits zero (c ∷ t) h l = absurd (omega arith)
plain_bits (suc n) [] h l = refl
plain_bits (suc n) (c ∷ t) h l = ap (λ g. (bit_at g c t).0 ∷ bits_at n (bit_at g c t).1) (no_group c t h) ∙ ap (λ bs. byte c ∷ bs) (plain_bits n t (calm_rest c t h) (omega arith))

first_of_plain : (t : List ℕ) → first_count (map byte t) ≡ 1
unfolding first_count
first_of_plain [] = refl
first_of_plain (c ∷ t) = first_of_plain t

all_plain : (n : ℕ) (t : List ℕ) → list_all (has_count n) (map byte t) ≡ true
all_plain n [] = refl
all_plain n (c ∷ t) = all_plain n t

count_of_plain : (t : List ℕ) → count_of (map byte t) ≡ Some 1
unfolding count_of
count_of_plain t = ap (λ n. if list_all (has_count n) (map byte t) then Some n else None) (first_of_plain t) ∙ ap (λ b. if b then Some 1 else None) (all_plain 1 t)

plain_expanded : (t : List ℕ) → expanded 0 (map byte t) ≡ t
unfolding expanded
plain_expanded [] = refl
plain_expanded (c ∷ t) = ap (λ v. c ∷ v) (plain_expanded t)

one_place : numbers_from 0 1 ≡ 0 ∷ []
unfolding numbers_from
one_place = refl

abbrev then_rules : List BitTree → List ℕ → Option Rule → Option (List Rule)
then_rules bs ks o = o >>= λ r. in_front r (rules_at bs ks)

one_rule : (bs : List BitTree) (t : List ℕ) (r : Rule) → expanded 0 bs ≡ t → rule_at t ≡ Some r → rules_at bs (0 ∷ []) ≡ Some (r ∷ [])
unfolding rules_at
one_rule bs t r e h = ap (then_rules bs []) (ap rule_at e ∙ h)

plain_written : (t : List ℕ) (r : Rule) → calm t ≡ true → rule_at t ≡ Some r → written t ≡ Some (r ∷ [])
unfolding written bits
plain_written t r h e =
    ap (λ bs. count_of bs >>= λ n. rules_at bs (numbers_from 0 n)) (plain_bits (length t) t h (omega arith))
    ∙ ap (λ o. o >>= λ n. rules_at (map byte t) (numbers_from 0 n)) (count_of_plain t)
    ∙ ap (rules_at (map byte t)) one_place
    ∙ one_rule (map byte t) t r (plain_expanded t) e

-- ---- lines of rules are not skipped
data Begins : List ℕ → Type 0 where
  bracket : (t : List ℕ) → Begins (40 ∷ t)
  letter : (t : List ℕ) → Begins (120 ∷ t)

left_begins : (k l : ℕ) (p : Pattern) (t : List ℕ) → Lefts k (p ∷ []) l → is_node p ≡ true → Begins (pattern_text p ++ t)
unfolding opened front_text variable
left_begins k l p t (any_left j i qs h) n = absurd (let e : false ≡ true = n in cc)
left_begins k l p t (var_left j i z v qs h g) n = absurd (let e : false ≡ true = n in cc)
left_begins k l p t (node_left j k1 k2 k3 k4 i z None o ty int aux args qs h w g f m d c) n = bracket _
left_begins k l p t (node_left j k1 k2 k3 k4 i z (Some v) o ty int aux args qs h w g f m d c) n = letter _

not_done : (c : ℕ) (t : List ℕ) → is_blank c ≡ false → is_done (c ∷ t) ≡ false
not_done c t h = ap (λ v. length v == 0) (idle c t h) ∙ (let e : (length (c ∷ t) == 0) ≡ false = grind (arith, nat_tests) in e)

no_comments : (d a b : Bool) → d ≡ false → a ≡ false → b ≡ false → (d || a || b) ≡ false
no_comments d a b e h g = grind (arith, nat_tests)

not_skipped : (t : List ℕ) → Begins t → is_skipped t ≡ false
unfolding mark_at unblanked after
not_skipped t (bracket r) = no_comments (is_done (40 ∷ r)) (is_some (mark_at (codes "#") (40 ∷ r))) (is_some (mark_at (codes "//") (40 ∷ r))) (not_done 40 r refl) refl refl
not_skipped t (letter r) = no_comments (is_done (120 ∷ r)) (is_some (mark_at (codes "#") (120 ∷ r))) (is_some (mark_at (codes "//") (120 ∷ r))) (not_done 120 r refl) refl refl

body_begins : (r : Rule) (l : ℕ) → RuleWritten r l → Begins (body r)
unfolding body
body_begins r l w = left_begins 0 l r.left (conditions_text r.conds ++ (codes " => " ++ build_text r.right)) w.left w.node

line_back : (r : Rule) → Good r → stands false r ≡ true → rules_of_line false (body r) ≡ Ok (r ∷ [])
unfolding rules_of_line
line_back r g s =
    let w = g.written in
    ap (λ b. if b then Ok [] else if_standing false (written (body r))) (not_skipped (body r) (body_begins r g.variables w))
    ∙ ap (if_standing false) (plain_written (body r) r (calm_body r g.variables w g.few) (rule_back r g.variables w g.few))
    ∙ ap (λ b. if b && true then Ok (r ∷ []) else Err fault.Op) s

-- ---- the lines of the text
calm_byte : (t : List ℕ) (k d : ℕ) → calm t ≡ true → k < length t → (is_lf (get_or t k d) ≡ false) × ((get_or t k d == 13) ≡ false)
unfolding calm
calm_byte [] k d h l = absurd (omega arith)
calm_byte (c ∷ t) zero d h l =
    let a = both_true (rests c (begins_bar t)) (calm t) h in
    let b = both_true (not (c == 10) && not (c == 13)) (not (is_part_byte c && begins_bar t)) a.0 in
    let e = both_true (not (c == 10)) (not (c == 13)) b.0 in
    (negated (c == 10) e.0, negated (c == 13) e.1)
  where
    negated : (b : Bool) → not b ≡ true → b ≡ false
    negated true q = absurd (let f : false ≡ true = q in cc)
    negated false q = refl
calm_byte (c ∷ t) (suc k) d h l = calm_byte t k d (both_true (rests c (begins_bar t)) (calm t) h).1 (omega arith)

keeps_end : (t : List ℕ) → calm t ≡ true → without_cr t ≡ t
unfolding without_cr
keeps_end t h = ap (λ b. if b then take (length t - 1) t else t) (by (nat_lt 0 (length t)) refl)
  where
    by : (b : Bool) → nat_lt 0 (length t) ≡ b → (nat_lt 0 (length t) && slice_index t (length t - 1) == 13) ≡ false
    by true e = let l : length t - 1 < length t = grind (arith, nat_tests) in ap (λ b. b && slice_index t (length t - 1) == 13) e ∙ (calm_byte t (length t - 1) 0 h l).1
    by false e = ap (λ b. b && slice_index t (length t - 1) == 13) e

text_of_rule : (r : Rule) (t : List ℕ) → rule_text r ++ t ≡ body r ++ (10 ∷ t)
unfolding rule_text body
text_of_rule r t =
    let e : pattern_text r.left ++ (conditions_text r.conds ++ (codes " => " ++ (build_text r.right ++ codes "\n"))) ≡ (pattern_text r.left ++ (conditions_text r.conds ++ (codes " => " ++ build_text r.right))) ++ codes "\n" = sym (simp append_assoc) in
    ap (λ v. v ++ t) e ∙ append_assoc (pattern_text r.left ++ (conditions_text r.conds ++ (codes " => " ++ build_text r.right))) (codes "\n") t

one_line : (t rest : List ℕ) → calm t ≡ true → lines (t ++ (10 ∷ rest)) ≡ t ∷ lines rest
unfolding lines
one_line t rest h =
    ap lines_of (slice_split_at is_lf t 10 rest (λ k d l. (calm_byte t k d h l).0) refl)
    ∙ one_line_more t (slice_split is_lf rest) (let c = length-slice_split is_lf rest in omega arith)
    ∙ ap (λ v. v ∷ lines_of (slice_split is_lf rest)) (keeps_end t h)

-- rules that are read back, one a line
abbrev Standing : Rule → Type 0
Standing r = Good r × (stands false r ≡ true)

text_back : (n : ℕ) (rs : List Rule) → AllByRecursion Standing rs → rules_of_lines false n (lines (rules_text rs)) ≡ Ok rs
unfolding rules_text rules_of_lines
text_back n [] w = ap (rules_of_lines false n) no_lines
text_back n (r ∷ rs) w =
    let g = w.0.0 in
    ap (rules_of_lines false n) (ap lines (text_of_rule r (rules_text rs)) ∙ one_line (body r) (rules_text rs) (calm_body r g.variables g.written g.few))
    ∙ ap (λ o. then_lines (at_line n o) (rules_of_lines false (n + 1) (lines (rules_text rs)))) (line_back r g w.0.1)
    ∙ ap (followed (r ∷ [])) (text_back (n + 1) rs w.1)

-- ---- the rules of a text
-- a rule that a text without groups reads as, and whose ops stand as they may
record Given (extra : Bool) (r : Rule) : Type 0 where
  text : List ℕ
  read : rule_at text ≡ Some r
  standing : stands extra r ≡ true

record Reading (r : Rule) : Type 0 where
  text : List ℕ
  read : rule_at text ≡ Some r

in_front_is : (r : Rule) (o : Option (List Rule)) (rs : List Rule) → in_front r o ≡ Some rs → (qs : List Rule) × (o ≡ Some qs) × (rs ≡ r ∷ qs)
in_front_is r None rs e = none_is_some rs e
in_front_is r (Some qs) rs e = (qs, refl, sym (same (r ∷ qs) rs e))

rules_read : (bs : List BitTree) (ks : List ℕ) (rs : List Rule) → rules_at bs ks ≡ Some rs → AllByRecursion Reading rs
unfolding rules_at
rules_read bs [] rs e = subst (AllByRecursion Reading) (same [] rs e) tt
rules_read bs (k ∷ ks) rs e =
    let a = steps (rule_at (expanded k bs)) (λ r. in_front r (rules_at bs ks)) rs e in
    let b = in_front_is a.0 (rules_at bs ks) rs a.2 in
    subst (AllByRecursion Reading) (sym b.2) (record { text = expanded k bs; read = a.1 }, rules_read bs ks b.0 b.1)

with_standing : (extra : Bool) (rs : List Rule) → AllByRecursion Reading rs → list_all (stands extra) rs ≡ true → AllByRecursion (Given extra) rs
with_standing extra [] h g = tt
with_standing extra (r ∷ rs) h g =
    let a = both_true (stands extra r) (list_all (stands extra) rs) g in
    (record { text = h.0.text; read = h.0.read; standing = a.0 }, with_standing extra rs h.1 a.1)

ok_same : {A E : Type 0} (x y : A) → ◌≡◌ {A = Result A E} (Ok x) (Ok y) → x ≡ y
ok_same x y e = cc

not_ok : {A E B : Type 0} (f : E) (x : A) → ◌≡◌ {A = Result A E} (Err f) (Ok x) → B
not_ok f x e = absurd (cc)

written_given : (extra : Bool) (line : List ℕ) (o : Option (List Rule)) (rs : List Rule) → written line ≡ o → if_standing extra o ≡ Ok rs → AllByRecursion (Given extra) rs
unfolding written
written_given extra line None rs e h = not_ok fault.Syntax rs h
written_given extra line (Some qs) rs e h =
    let a = steps (count_of (bits line)) (λ n. rules_at (bits line) (numbers_from 0 n)) qs e in
    by (rules_read (bits line) (numbers_from 0 a.0) qs a.2) (list_all (stands extra) qs) refl
  where
    by : AllByRecursion Reading qs → (b : Bool) → list_all (stands extra) qs ≡ b → AllByRecursion (Given extra) rs
    by w true t = subst (AllByRecursion (Given extra)) (ok_same qs rs (sym (ap (λ b. if b then Ok qs else Err fault.Op) t) ∙ h)) (with_standing extra qs w t)
    by w false t = not_ok fault.Op rs (sym (ap (λ b. if b then Ok qs else Err fault.Op) t) ∙ h)

line_given : (extra : Bool) (line : List ℕ) (rs : List Rule) → rules_of_line extra line ≡ Ok rs → AllByRecursion (Given extra) rs
unfolding rules_of_line
line_given extra line rs e = by (is_skipped line) refl
  where
    by : (b : Bool) → is_skipped line ≡ b → AllByRecursion (Given extra) rs
    by true t = subst (AllByRecursion (Given extra)) (ok_same [] rs (sym (ap (λ b. if b then Ok [] else if_standing extra (written line)) t) ∙ e)) tt
    by false t = written_given extra line (written line) rs refl (sym (ap (λ b. if b then Ok [] else if_standing extra (written line)) t) ∙ e)

given_join : (extra : Bool) (ps qs : List Rule) → AllByRecursion (Given extra) ps → AllByRecursion (Given extra) qs → AllByRecursion (Given extra) (ps ++ qs)
given_join extra [] qs h g = g
given_join extra (p ∷ ps) qs h g = (h.0, given_join extra ps qs h.1 g)

lines_given : (extra : Bool) (n : ℕ) (ls : List (List ℕ)) (rs : List Rule) → rules_of_lines extra n ls ≡ Ok rs → AllByRecursion (Given extra) rs
unfolding rules_of_lines
lines_given extra n [] rs e = subst (AllByRecursion (Given extra)) (ok_same [] rs e) tt
lines_given extra n (line ∷ more) rs e = by (rules_of_line extra line) (line_given extra line) (rules_of_lines extra (n + 1) more) (lines_given extra (n + 1) more) e
  where
    by : (o : Result (List Rule) Fault) → ((ps : List Rule) → o ≡ Ok ps → AllByRecursion (Given extra) ps) → (q : Result (List Rule) RuleError) → ((ps : List Rule) → q ≡ Ok ps → AllByRecursion (Given extra) ps) → then_lines (at_line n o) q ≡ Ok rs → AllByRecursion (Given extra) rs
    by (Err f) h q g d = not_ok (at n f) rs d
    by (Ok ps) h (Err f) g d = not_ok f rs d
    by (Ok ps) h (Ok qs) g d = subst (AllByRecursion (Given extra)) (ok_same (ps ++ qs) rs d) (given_join extra ps qs (h ps refl) (g qs refl))

-- an op that stands as it may in an extra rule stands so in any
stands_less : (extra : Bool) (r : Rule) → stands extra r ≡ true → stands false r ≡ true
unfolding stands
stands_less extra r h = ap (λ b. b && true) (both_true (has_its_parts r && agree same_sort (rule_sorts r)) (not extra || fits r) h).0

short_front : (r : Rule) (rs : List Rule) → length (rules_text (r ∷ rs)) < 2 ^ 64 → (length (rule_text r) < 2 ^ 64) × (length (rules_text rs) < 2 ^ 64)
unfolding rules_text
short_front r rs h = let e = length-append (rule_text r) (rules_text rs) in (omega arith, omega arith)

all_standing : (extra : Bool) (rs : List Rule) → AllByRecursion (Given extra) rs → length (rules_text rs) < 2 ^ 64 → AllByRecursion Standing rs
all_standing extra [] h b = tt
all_standing extra (r ∷ rs) h b =
    let s = short_front r rs b in
    ((rule_gives h.0.text r h.0.read s.0, stands_less extra r h.0.standing), all_standing extra rs h.1 s.1)

-- rules that a text reads as are read back from what is printed of them
pub read_again : (extra : Bool) (text : List ℕ) (rs : List Rule) → length (rules_text rs) < 2 ^ 64 → rules_of extra text ≡ Ok rs → rules_of false (rules_text rs) ≡ Ok rs
unfolding rules_of
read_again extra text rs b e = text_back 1 rs (all_standing extra rs (lines_given extra 1 (lines text) rs e) b)

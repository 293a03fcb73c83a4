-- Left trees that are printed are read back.
use Rattle.std.proofs.Common.{◌≡◌, ◌⊎◌, inl, inr, ℕ, zero, suc, ◌+◌, ◌^◌, ◌<◌, ◌≤◌, List, [], ◌∷◌, ◌++◌, append_assoc, length, drop, ap, ◌∙◌, sym, refl, arith, Bool, true, false, cond, Option, Some, None, codes, ℤ}
use Rattle.std.specs.Prelude.{◌==◌, ◌||◌, not, if◌then◌else◌}
use Rattle.std.specs.Char.{is_ascii_alphabetic}
use Rattle.std.specs.Fmt.{signed_decimal}
use Rattle.std.specs.List.{prefix_len, list_any, position_or_len, AllByRecursion}
use Rattle.std.specs.Str.{bytes_eq}
use Rattle.std.proofs.lemmas.Bool.Decides.{nat_tests}
use Rattle.std.proofs.lemmas.List.{length-append}
use Rattle.std.proofs.lemmas.List.Sums.{position_or_len_is}
use Rattle.bk_text.specs.Tokens.{is_blank}
use Rattle.bk_ops.specs.declared.table.Op.{Op}
use Rattle.bk_ops.specs.Names.{name_of}
use Rattle.bk_rule.specs.declared.trees.IntPart.{IntPart}
use Rattle.bk_rule.specs.declared.trees.IntPart.TheVariants as part
use Rattle.bk_rule.specs.declared.trees.Pattern.{Pattern, roll-Pattern}
use Rattle.bk_rule.specs.declared.trees.Pattern.TheOpen.{Pattern-F}
use Rattle.bk_rule.specs.Trees.{any, var}
use Rattle.bk_rule.proofs.Opened.{opened}
use Rattle.bk_rule_text.specs.Front.{◌>>=◌, Read, unblanked, after, mark_at, closed, where_marked}
use Rattle.bk_rule_text.specs.Layout.{variable, name_text, type_variable_text, int_part_text, aux_text, front_text, pattern_text, patterns_text}
use Rattle.bk_rule_text.specs.Names.{numbered}
use Rattle.bk_rule_text.specs.Numbers.{sign_at, begins_number, number_at}
use Rattle.bk_rule_text.specs.Words.{is_word_byte, run_at, word_at, begins_word, begins_name, variable_at, any_at}
use Rattle.bk_rule_text.specs.Patterns.{Numbers, op_of, op_at, with_number, marked_at, int_at, int_part_at, front_at, in_front, patterns_at, node_at, named_node_at, variable_or_node_at, pattern_in, pattern_at}
use Rattle.bk_rule_text.proofs.Printed.{idle, IsSmall, number_back, number_solid, name_back, variable_back, variable_word, word_back}
use Rattle.bk_rule_text.proofs.ReadExprs.{printed_names, length_printed, printed_at, first_named, not_named, printed_more}
use Rattle.bk_rule_text.proofs.Rows.{text_of_node}

-- ---- ops as the reader gives them
pub record OpWritten (o : Op) : Type 0 where
  pub back : op_of (name_of o) ≡ o
  pub words : AllByRecursion (λ c. is_word_byte c ≡ true) (name_of o)
  pub begins : begins_name (name_of o) ≡ true

letter_not_blank : (c : ℕ) → is_ascii_alphabetic c ≡ true → is_blank c ≡ false
letter_not_blank c h = grind (arith, nat_tests)

pub name_solid : (name t : List ℕ) → begins_name name ≡ true → unblanked (name ++ t) ≡ name ++ t
unfolding begins_name
name_solid [] t h = absurd (let e : false ≡ true = h in cc)
name_solid (c ∷ name) t h = idle c (name ++ t) (letter_not_blank c h)

pub op_back : (o : Op) → OpWritten o → (rest : List ℕ) → begins_word rest ≡ false → op_at (name_of o ++ rest) ≡ Some (o, rest)
unfolding op_at
op_back o w rest b =
    ap (λ p. p >>= λ n. Some (op_of n.0, n.1)) (name_back (name_of o ++ rest) (name_of o) rest (name_solid (name_of o) rest w.begins) w.words w.begins b)
    ∙ ap (λ q. Some (q, rest)) w.back

-- ---- variables in the order in which they first appear
-- of k variables this one is known, or it is the next
abbrev pub Next : ℕ → ℕ → ℕ → Type 0
Next k i l = ((i < k) × (l ≡ k)) ⊎ ((i ≡ k) × (l ≡ suc k))

pub any_place : {A : Type 0} (p : A → Bool) (xs : List A) → ((list_any p xs ≡ true) × (position_or_len p xs < length xs)) ⊎ ((list_any p xs ≡ false) × (position_or_len p xs ≡ length xs))
any_place p [] = inr (refl, refl)
any_place {A} p (x ∷ xs) = by (p x) refl (any_place p xs)
  where
    by : (b : Bool) → p x ≡ b → ((list_any p xs ≡ true) × (position_or_len p xs < length xs)) ⊎ ((list_any p xs ≡ false) × (position_or_len p xs ≡ length xs))
        → ((list_any p (x ∷ xs) ≡ true) × (position_or_len p (x ∷ xs) < length (x ∷ xs))) ⊎ ((list_any p (x ∷ xs) ≡ false) × (position_or_len p (x ∷ xs) ≡ length (x ∷ xs)))
    by true e h =
        let q : position_or_len p (x ∷ xs) ≡ 0 = ap (λ b. cond (not b) (1 + position_or_len p xs) 0) e in
        inl (ap (λ b. b || list_any p xs) e, omega (arith, q))
    by false e (inl h) =
        let q : position_or_len p (x ∷ xs) ≡ 1 + position_or_len p xs = ap (λ b. cond (not b) (1 + position_or_len p xs) 0) e in
        inl (ap (λ b. b || list_any p xs) e ∙ h.0, omega (arith, q, h.1))
    by false e (inr h) =
        let q : position_or_len p (x ∷ xs) ≡ 1 + position_or_len p xs = ap (λ b. cond (not b) (1 + position_or_len p xs) 0) e in
        inr (ap (λ b. b || list_any p xs) e ∙ h.0, omega (arith, q, h.1))

any_at_place : {A : Type 0} (p : A → Bool) (xs : List A) → position_or_len p xs < length xs → list_any p xs ≡ true
any_at_place p xs h = by (any_place p xs)
  where
    by : ((list_any p xs ≡ true) × (position_or_len p xs < length xs)) ⊎ ((list_any p xs ≡ false) × (position_or_len p xs ≡ length xs)) → list_any p xs ≡ true
    by (inl a) = a.0
    by (inr a) = absurd (omega (arith, a.1))

none_at_end : {A : Type 0} (p : A → Bool) (xs : List A) → position_or_len p xs ≡ length xs → list_any p xs ≡ false
none_at_end p xs h = by (any_place p xs)
  where
    by : ((list_any p xs ≡ true) × (position_or_len p xs < length xs)) ⊎ ((list_any p xs ≡ false) × (position_or_len p xs ≡ length xs)) → list_any p xs ≡ false
    by (inl a) = absurd (omega (arith, a.1))
    by (inr a) = a.0

pub numbered_back : (k i l : ℕ) → Next k i l → l < 2 ^ 64 → numbered (printed_names k) (variable i) ≡ (i, printed_names l)
numbered_back k i l (inl h) b =
    let test = bytes_eq (variable i) in
    let z = length_printed k in
    let p = first_named k i h.0 (omega (arith, h.1)) in
    ap (λ n. (n, if list_any test (printed_names k) then printed_names k else printed_names k ++ variable i ∷ [])) p
    ∙ ap (λ t. (i, if t then printed_names k else printed_names k ++ variable i ∷ [])) (any_at_place test (printed_names k) (omega (arith, p, h.0)))
    ∙ ap (λ n. (i, printed_names n)) (sym h.1)
numbered_back k i l (inr h) b =
    let test = bytes_eq (variable i) in
    let z = length_printed k in
    let p : position_or_len test (printed_names k) ≡ k =
    position_or_len_is test (printed_names k) k [] (omega arith)
    (λ j g. ap test (printed_at k j [] g) ∙ not_named i j (omega (arith, h.0, h.1)) (omega (arith, h.1)) (omega (arith, h.0)))
    (λ g. absurd (omega arith)) in
    ap (λ n. (n, if list_any test (printed_names k) then printed_names k else printed_names k ++ variable i ∷ [])) (p ∙ sym h.0)
    ∙ ap (λ t. (i, if t then printed_names k else printed_names k ++ variable i ∷ [])) (none_at_end test (printed_names k) (omega (arith, p)))
    ∙ ap (λ n. (i, printed_names k ++ variable n ∷ [])) h.0
    ∙ ap (λ xs. (i, xs)) (sym (printed_more k))
    ∙ ap (λ n. (i, printed_names n)) (sym h.1)

-- ---- parts of a node
abbrev pub Nexts : ℕ → Option ℕ → ℕ → Type 0
Nexts k None l = l ≡ k
Nexts k (Some i) l = Next k i l

abbrev pub NextInt : ℕ → Option IntPart → ℕ → Type 0
NextInt k None l = l ≡ k
NextInt k (Some (part.Number z)) l = IsSmall z × (l ≡ k)
NextInt k (Some (part.Var i)) l = Next k i l

pub closed_by : {A : Type 0} (c : ℕ) (read : Read A) (text rest : List ℕ) (x : A) → read text ≡ Some (x, c ∷ rest) → mark_at (c ∷ []) (c ∷ rest) ≡ Some rest → closed (c ∷ []) read text ≡ Some (x, rest)
unfolding closed
closed_by c read text rest x e h = ap (λ p. p >>= λ y. mark_at (c ∷ []) y.1 >>= λ r. Some (y.0, r)) e ∙ ap (λ p. p >>= λ r. Some (x, r)) h

-- a mark behind a blank, and without it
pub mark_behind : (c : ℕ) (t : List ℕ) → is_blank c ≡ false → mark_at (c ∷ []) (32 ∷ c ∷ t) ≡ Some t
unfolding mark_at unblanked after
mark_behind c t h =
    let e : 1 + prefix_len is_blank (c ∷ t) ≡ 1 = ap (λ b. 1 + cond b (1 + prefix_len is_blank t) 0) h in
    ap (λ n. after (c ∷ []) (drop n (32 ∷ c ∷ t))) e ∙ ap (λ b. cond b (Some t) None) (same_byte c)
  where
    same_byte : (d : ℕ) → (d == d) ≡ true
    same_byte d = grind (arith, nat_tests)

pub mark_here : (c : ℕ) (t : List ℕ) → is_blank c ≡ false → mark_at (c ∷ []) (c ∷ t) ≡ Some t
unfolding mark_at after
mark_here c t h = ap (after (c ∷ [])) (idle c t h) ∙ ap (λ b. cond b (Some t) None) (same_byte c)
  where
    same_byte : (d : ℕ) → (d == d) ≡ true
    same_byte d = grind (arith, nat_tests)

marked_part : (a z : ℕ) (names more : List (List ℕ)) (text r t name : List ℕ) (i : ℕ) → mark_at (a ∷ []) text ≡ Some r → closed (z ∷ []) variable_at r ≡ Some (name, t) → numbered names name ≡ (i, more) → marked_at (a ∷ []) (z ∷ []) names text ≡ Some (Some i, more, t)
unfolding marked_at
marked_part a z names more text r t name i e h g =
    ap (λ o. where_marked o (λ s. closed (z ∷ []) variable_at s >>= λ n. Some (with_number Some names n)) (Some (None, names, text))) e
    ∙ ap (λ o. o >>= λ n. Some (with_number Some names n)) h
    ∙ ap (λ p. Some (Some p.0, p.1, t)) g

no_part : (a z : ℕ) (names : List (List ℕ)) (text : List ℕ) → mark_at (a ∷ []) text ≡ None → marked_at (a ∷ []) (z ∷ []) names text ≡ Some (None, names, text)
unfolding marked_at
no_part a z names text e = ap (λ o. where_marked o (λ s. closed (z ∷ []) variable_at s >>= λ n. Some (with_number Some names n)) (Some (None, names, text))) e

pub variable_solid : (i : ℕ) (t : List ℕ) → unblanked (variable i ++ t) ≡ variable i ++ t
unfolding variable unblanked
variable_solid i t = refl

pub closed_variable : (z i : ℕ) (t : List ℕ) → i < 2 ^ 64 → is_word_byte z ≡ false → is_blank z ≡ false → closed (z ∷ []) variable_at ((variable i ++ z ∷ []) ++ t) ≡ Some (variable i, t)
unfolding begins_word
closed_variable z i t h w b =
    ap (closed (z ∷ []) variable_at) (append_assoc (variable i) (z ∷ []) t)
    ∙ closed_by z variable_at (variable i ++ z ∷ t) t (variable i) (variable_back i (variable i ++ z ∷ t) (z ∷ t) h (variable_solid i (z ∷ t)) (ends z t w)) (mark_here z t b)
  where
    ends : (c : ℕ) (s : List ℕ) → is_word_byte c ≡ false → begins_word (c ∷ s) ≡ false
    ends c s e = e

pub below : (k i l : ℕ) → Next k i l → l < 2 ^ 64 → i < 2 ^ 64
below k i l (inl h) b = omega (arith, h.0, h.1)
below k i l (inr h) b = omega (arith, h.0, h.1)

-- a part between two marks that holds a variable
part_back : (a z k i l : ℕ) (t : List ℕ) → Next k i l → l < 2 ^ 64 → is_blank a ≡ false → is_word_byte z ≡ false → is_blank z ≡ false →
    marked_at (a ∷ []) (z ∷ []) (printed_names k) (32 ∷ a ∷ ((variable i ++ z ∷ []) ++ t)) ≡ Some (Some i, printed_names l, t)
part_back a z k i l t n b f w e =
    marked_part a z (printed_names k) (printed_names l) (32 ∷ a ∷ ((variable i ++ z ∷ []) ++ t)) ((variable i ++ z ∷ []) ++ t) t (variable i) i
    (mark_behind a ((variable i ++ z ∷ []) ++ t) f) (closed_variable z i t (below k i l n b) w e) (numbered_back k i l n b)

plain_byte : is_word_byte 62 ≡ false
unfolding is_word_byte
plain_byte = refl

pub plain_brace : is_word_byte 125 ≡ false
unfolding is_word_byte
plain_brace = refl

plain_square : is_word_byte 93 ≡ false
unfolding is_word_byte
plain_square = refl

type_back : (k l : ℕ) (o : Option ℕ) → Nexts k o l → l < 2 ^ 64 → (t : List ℕ) → mark_at (codes "<") t ≡ None → marked_at (codes "<") (codes ">") (printed_names k) (type_variable_text o ++ t) ≡ Some (o, printed_names l, t)
type_back k l None n b t e = no_part 60 62 (printed_names k) t e ∙ ap (λ m. Some (None, printed_names m, t)) (sym n)
type_back k l (Some i) n b t e = part_back 60 62 k i l t n b refl plain_byte refl

aux_back : (k l : ℕ) (o : Option ℕ) → Nexts k o l → l < 2 ^ 64 → (t : List ℕ) → mark_at (codes "{") t ≡ None → marked_at (codes "{") (codes "}") (printed_names k) (aux_text o ++ t) ≡ Some (o, printed_names l, t)
aux_back k l None n b t e = no_part 123 125 (printed_names k) t e ∙ ap (λ m. Some (None, printed_names m, t)) (sym n)
aux_back k l (Some i) n b t e = part_back 123 125 k i l t n b refl plain_brace refl

int_marked : (names : List (List ℕ)) (text r : List ℕ) → mark_at (codes "[") text ≡ Some r → int_part_at names text ≡ int_at names (unblanked r)
unfolding int_part_at
int_marked names text r e = ap (λ o. where_marked o (λ s. int_at names (unblanked s)) (Some (None, names, text))) e

square_no_word : (t : List ℕ) → begins_word (93 ∷ t) ≡ false
unfolding begins_word is_word_byte
square_no_word t = refl

int_number : (names : List (List ℕ)) (text t : List ℕ) (z : ℤ) → begins_number text ≡ true → closed (codes "]") number_at text ≡ Some (z, t) → int_at names text ≡ Some (Some (part.Number z), names, t)
unfolding int_at
int_number names text t z e h =
    ap (λ b. if b then (closed (codes "]") number_at text >>= λ n. Some (Some (part.Number n.0), names, n.1)) else (closed (codes "]") variable_at text >>= λ n. Some (with_number (λ i. Some (part.Var i)) names n))) e
    ∙ ap (λ o. o >>= λ n. Some (Some (part.Number n.0), names, n.1)) h

int_variable : (names more : List (List ℕ)) (text t name : List ℕ) (i : ℕ) → begins_number text ≡ false → closed (codes "]") variable_at text ≡ Some (name, t) → numbered names name ≡ (i, more) → int_at names text ≡ Some (Some (part.Var i), more, t)
unfolding int_at
int_variable names more text t name i e h g =
    ap (λ b. if b then (closed (codes "]") number_at text >>= λ n. Some (Some (part.Number n.0), names, n.1)) else (closed (codes "]") variable_at text >>= λ n. Some (with_number (λ j. Some (part.Var j)) names n))) e
    ∙ ap (λ o. o >>= λ n. Some (with_number (λ j. Some (part.Var j)) names n)) h
    ∙ ap (λ p. Some (Some (part.Var p.0), p.1, t)) g

no_number : (i : ℕ) (t : List ℕ) → begins_number (variable i ++ t) ≡ false
unfolding variable begins_number sign_at after
no_number i t = refl

no_int : (names : List (List ℕ)) (text : List ℕ) → mark_at (codes "[") text ≡ None → int_part_at names text ≡ Some (None, names, text)
unfolding int_part_at
no_int names text e = ap (λ o. where_marked o (λ s. int_at names (unblanked s)) (Some (None, names, text))) e

int_back : (k l : ℕ) (o : Option IntPart) → NextInt k o l → l < 2 ^ 64 → (t : List ℕ) → mark_at (codes "[") t ≡ None → int_part_at (printed_names k) (int_part_text o ++ t) ≡ Some (o, printed_names l, t)
int_back k l None n b t e = no_int (printed_names k) t e ∙ ap (λ m. Some (None, printed_names m, t)) (sym n)
int_back k l (Some (part.Number z)) n b t e =
    let r = (signed_decimal z ++ codes "]") ++ t in
    let u : unblanked r ≡ signed_decimal z ++ 93 ∷ t = ap unblanked (append_assoc (signed_decimal z) (codes "]") t) ∙ number_solid z n.0 (93 ∷ t) in
    let q = number_back z (93 ∷ t) n.0 (square_no_word t) in
    int_marked (printed_names k) (32 ∷ 91 ∷ r) r (mark_behind 91 r refl)
    ∙ ap (int_at (printed_names k)) u
    ∙ int_number (printed_names k) (signed_decimal z ++ 93 ∷ t) t z q.begins (closed_by 93 number_at (signed_decimal z ++ 93 ∷ t) t z q.read (mark_here 93 t refl))
    ∙ ap (λ m. Some (Some (part.Number z), printed_names m, t)) (sym n.1)
int_back k l (Some (part.Var i)) n b t e =
    let r = (variable i ++ codes "]") ++ t in
    let a = append_assoc (variable i) (codes "]") t in
    let u : unblanked r ≡ r = ap unblanked a ∙ variable_solid i (93 ∷ t) ∙ sym a in
    int_marked (printed_names k) (32 ∷ 91 ∷ r) r (mark_behind 91 r refl)
    ∙ ap (int_at (printed_names k)) u
    ∙ int_variable (printed_names k) (printed_names l) r t (variable i) i (ap begins_number a ∙ no_number i (93 ∷ t)) (closed_variable 93 i t (below k i l n b) plain_square refl) (numbered_back k i l n b)

-- ---- a node up to its arguments
-- what may stand behind a part of a node
pub record Tail (text : List ℕ) : Type 0 where
  pub word : begins_word text ≡ false
  pub type : mark_at (codes "<") text ≡ None
  pub int : mark_at (codes "[") text ≡ None
  pub aux : mark_at (codes "{") text ≡ None

blank_no_word : (t : List ℕ) → begins_word (32 ∷ t) ≡ false
unfolding begins_word is_word_byte
blank_no_word t = refl

pub aux_no_type : (o : Option ℕ) (t : List ℕ) → Tail t → mark_at (codes "<") (aux_text o ++ t) ≡ None
unfolding mark_at unblanked after
aux_no_type None t h = h.type
aux_no_type (Some i) t h = refl

pub aux_no_int : (o : Option ℕ) (t : List ℕ) → Tail t → mark_at (codes "[") (aux_text o ++ t) ≡ None
unfolding mark_at unblanked after
aux_no_int None t h = h.int
aux_no_int (Some i) t h = refl

pub aux_no_word : (o : Option ℕ) (t : List ℕ) → Tail t → begins_word (aux_text o ++ t) ≡ false
unfolding begins_word is_word_byte
aux_no_word None t h = h.word
aux_no_word (Some i) t h = refl

int_no_type : (o : Option IntPart) (t : List ℕ) → mark_at (codes "<") t ≡ None → mark_at (codes "<") (int_part_text o ++ t) ≡ None
unfolding mark_at unblanked after
int_no_type None t h = h
int_no_type (Some (part.Number z)) t h = refl
int_no_type (Some (part.Var i)) t h = refl

pub int_no_word : (o : Option IntPart) (t : List ℕ) → begins_word t ≡ false → begins_word (int_part_text o ++ t) ≡ false
unfolding begins_word is_word_byte
int_no_word None t h = h
int_no_word (Some (part.Number z)) t h = refl
int_no_word (Some (part.Var i)) t h = refl

pub type_no_word : (o : Option ℕ) (t : List ℕ) → begins_word t ≡ false → begins_word (type_variable_text o ++ t) ≡ false
unfolding begins_word is_word_byte
type_no_word None t h = h
type_no_word (Some i) t h = refl

pub front_around : (o : Op) (ty : Option ℕ) (int : Option IntPart) (aux : Option ℕ) (t : List ℕ) → front_text o ty int aux ++ t ≡ 40 ∷ (name_of o ++ (type_variable_text ty ++ (int_part_text int ++ (aux_text aux ++ t))))
unfolding front_text
front_around o ty int aux t =
    ap (λ v. 40 ∷ v)
    (
    append_assoc (name_of o) (type_variable_text ty ++ (int_part_text int ++ aux_text aux)) t
    ∙ ap (λ v. name_of o ++ v) (append_assoc (type_variable_text ty) (int_part_text int ++ aux_text aux) t ∙ ap (λ v. type_variable_text ty ++ v) (append_assoc (int_part_text int) (aux_text aux) t))
    )

front_back : (o : Op) (ty : Option ℕ) (int : Option IntPart) (aux : Option ℕ) (k1 k2 k3 k4 : ℕ) (t : List ℕ) → OpWritten o → Nexts k1 ty k2 → NextInt k2 int k3 → Nexts k3 aux k4 → k2 < 2 ^ 64 → k3 < 2 ^ 64 → k4 < 2 ^ 64 → Tail t →
    front_at (printed_names k1) (name_of o ++ (type_variable_text ty ++ (int_part_text int ++ (aux_text aux ++ t)))) ≡ Some (record { op = o; ty = ty; int = int; aux = aux }, printed_names k4, t)
unfolding front_at
front_back o ty int aux k1 k2 k3 k4 t w h g f b2 b3 b4 tail =
    let x = aux_text aux ++ t in
    let i = int_part_text int ++ x in
    let s = type_variable_text ty ++ i in
    ap (λ p. p >>= λ q. marked_at (codes "<") (codes ">") (printed_names k1) q.1 >>= λ r. int_part_at r.1 r.2 >>= λ u. marked_at (codes "{") (codes "}") u.1 u.2 >>= λ v. Some (record { op = q.0; ty = r.0; int = u.0; aux = v.0 }, v.1, v.2))
    (op_back o w s (type_no_word ty i (int_no_word int x (aux_no_word aux t tail))))
    ∙ ap (λ p. p >>= λ r. int_part_at r.1 r.2 >>= λ u. marked_at (codes "{") (codes "}") u.1 u.2 >>= λ v. Some (record { op = o; ty = r.0; int = u.0; aux = v.0 }, v.1, v.2))
    (type_back k1 k2 ty h b2 i (int_no_type int x (aux_no_type aux t tail)))
    ∙ ap (λ p. p >>= λ u. marked_at (codes "{") (codes "}") u.1 u.2 >>= λ v. Some (record { op = o; ty = ty; int = u.0; aux = v.0 }, v.1, v.2))
    (int_back k2 k3 int g b3 x (aux_no_int aux t tail))
    ∙ ap (λ p. p >>= λ v. Some (record { op = o; ty = ty; int = int; aux = v.0 }, v.1, v.2))
    (aux_back k3 k4 aux f b4 t tail.aux)

-- ---- trees as the reader gives them
abbrev pub tree : Option ℕ → Op → Option ℕ → Option IntPart → Option ℕ → List Pattern → Pattern
tree name o ty int aux ps = roll-Pattern (Pattern-F.Node name o ty int aux ps)

-- left trees in a row, before which k variables are known and behind which l are
pub data Lefts : ℕ → List Pattern → ℕ → Type 0 where
  no_left : (k : ℕ) → Lefts k [] k
  any_left : (k l : ℕ) (ps : List Pattern) → Lefts k ps l → Lefts k (any ∷ ps) l
  var_left : (k m l i : ℕ) (ps : List Pattern) → Next k i m → Lefts m ps l → Lefts k (var i ∷ ps) l
  node_left : (k k1 k2 k3 k4 m l : ℕ) (name : Option ℕ) (o : Op) (ty : Option ℕ) (int : Option IntPart) (aux : Option ℕ) (args ps : List Pattern) → Nexts k name k1 → OpWritten o → Nexts k1 ty k2 → NextInt k2 int k3 → Nexts k3 aux k4 → Lefts k4 args m
      → Lefts m ps l → Lefts k (tree name o ty int aux args ∷ ps) l

pub any_text : pattern_text any ≡ codes "_"
unfolding opened
any_text = refl

pub var_text : (i : ℕ) → pattern_text (var i) ≡ variable i
unfolding opened
var_text i = refl

-- what stands behind a tree: a blank or a closing bracket
pub data Closes : List ℕ → Type 0 where
  by_blank : (c : ℕ) (t : List ℕ) → is_blank c ≡ false → (c == 58) ≡ false → Closes (32 ∷ c ∷ t)
  by_bracket : (t : List ℕ) → Closes (41 ∷ t)

pub closes_no_word : (t : List ℕ) → Closes t → begins_word t ≡ false
unfolding begins_word is_word_byte
closes_no_word t (by_blank c r b e) = refl
closes_no_word t (by_bracket r) = refl

behind_blank : (c : ℕ) (t : List ℕ) → is_blank c ≡ false → unblanked (32 ∷ c ∷ t) ≡ c ∷ t
unfolding unblanked
behind_blank c t h = let e : 1 + prefix_len is_blank (c ∷ t) ≡ 1 = ap (λ b. 1 + cond b (1 + prefix_len is_blank t) 0) h in ap (λ n. drop n (32 ∷ c ∷ t)) e

closes_no_colon : (t : List ℕ) → Closes t → mark_at (codes ":") t ≡ None
unfolding mark_at after
closes_no_colon t (by_bracket r) = ap (after (codes ":")) (idle 41 r refl)
closes_no_colon t (by_blank c r b e) = ap (after (codes ":")) (behind_blank c r b) ∙ ap (λ q. cond q (Some r) None) (turned c e)
  where
    turned : (d : ℕ) → (d == 58) ≡ false → (58 == d) ≡ false
    turned d h = grind (arith, nat_tests)

-- ---- nodes
no_any : (text : List ℕ) (word rest : List ℕ) → word_at text ≡ (word, rest) → bytes_eq word (codes "_") ≡ false → any_at text ≡ None
unfolding any_at
no_any text word rest e h = ap (λ p. if bytes_eq p.0 (codes "_") then Some p.1 else None) e ∙ ap (λ b. if b then Some rest else None) h

bracket_word : (text t : List ℕ) → unblanked text ≡ 40 ∷ t → word_at text ≡ ([], 40 ∷ t)
unfolding word_at run_at is_word_byte
bracket_word text t e = ap run_at e

variable_is_not_any : (i : ℕ) → bytes_eq (variable i) (codes "_") ≡ false
unfolding variable
variable_is_not_any i = refl

word_of_variable : (i : ℕ) (text t : List ℕ) → i < 2 ^ 64 → unblanked text ≡ variable i ++ t → begins_word t ≡ false → word_at text ≡ (variable i, t)
unfolding word_at
word_of_variable i text t h e w = ap run_at e ∙ word_back (variable i) t (variable_word i h) w

pub bracket_mark : (text t : List ℕ) → unblanked text ≡ 40 ∷ t → mark_at (codes "(") text ≡ Some t
unfolding mark_at after
bracket_mark text t e = ap (after (codes "(")) e

pub variable_no_bracket : (i : ℕ) (text t : List ℕ) → unblanked text ≡ variable i ++ t → mark_at (codes "(") text ≡ None
unfolding mark_at after variable
variable_no_bracket i text t e = ap (after (codes "(")) e

abbrev in_any : Numbers Pattern → List (List ℕ) → List ℕ → Option (List ℕ) → Option (Pattern × List (List ℕ) × List ℕ)
in_any read names text o = where_marked o (λ r. Some (any, names, r)) (where_marked (mark_at (codes "(") text) (node_at read None names) (variable_or_node_at read names text))

abbrev in_node : Numbers Pattern → List (List ℕ) → List ℕ → Option (List ℕ) → Option (Pattern × List (List ℕ) × List ℕ)
in_node read names text o = where_marked o (node_at read None names) (variable_or_node_at read names text)

in_bracket : (read : Numbers Pattern) (names : List (List ℕ)) (text t : List ℕ) → unblanked text ≡ 40 ∷ t → pattern_in read names text ≡ node_at read None names t
unfolding pattern_in
in_bracket read names text t e = ap (in_any read names text) (no_any text [] (40 ∷ t) (bracket_word text t e) refl) ∙ ap (in_node read names text) (bracket_mark text t e)

in_variable : (read : Numbers Pattern) (names : List (List ℕ)) (text t : List ℕ) (i : ℕ) → i < 2 ^ 64 → unblanked text ≡ variable i ++ t → begins_word t ≡ false → pattern_in read names text ≡ variable_or_node_at read names text
unfolding pattern_in
in_variable read names text t i h e w =
    ap (in_any read names text) (no_any text (variable i) t (word_of_variable i text t h e w) (variable_is_not_any i)) ∙ ap (in_node read names text) (variable_no_bracket i text t e)

abbrev colon : Numbers Pattern → List (List ℕ) → List ℕ × List ℕ → Option (List ℕ) → Option (Pattern × List (List ℕ) × List ℕ)
colon read names n o = where_marked o (named_node_at read (numbered names n.0).0 (numbered names n.0).1) (Some (with_number var names n))

-- a variable alone
var_back : (read : Numbers Pattern) (k i l : ℕ) (text t : List ℕ) → Next k i l → l < 2 ^ 64 → unblanked text ≡ variable i ++ t → Closes t → pattern_in read (printed_names k) text ≡ Some (var i, printed_names l, t)
unfolding variable_or_node_at
var_back read k i l text t n b e c =
    let h = below k i l n b in
    in_variable read (printed_names k) text t i h e (closes_no_word t c)
    ∙ ap (λ o. o >>= λ p. colon read (printed_names k) p (mark_at (codes ":") p.1)) (variable_back i text t h e (closes_no_word t c))
    ∙ ap (colon read (printed_names k) (variable i, t)) (closes_no_colon t c)
    ∙ ap (λ p. Some (var p.0, p.1, t)) (numbered_back k i l n b)

colon_no_word : (t : List ℕ) → begins_word (58 ∷ t) ≡ false
unfolding begins_word is_word_byte
colon_no_word t = refl

colon_mark : (t : List ℕ) → mark_at (codes ":") (58 ∷ t) ≡ Some t
unfolding mark_at unblanked after
colon_mark t = refl

-- a node that a variable names
named_back : (read : Numbers Pattern) (k i l : ℕ) (text t : List ℕ) → Next k i l → l < 2 ^ 64 → unblanked text ≡ variable i ++ (58 ∷ 40 ∷ t) → pattern_in read (printed_names k) text ≡ node_at read (Some i) (printed_names l) t
unfolding variable_or_node_at named_node_at unblanked
named_back read k i l text t n b e =
    let h = below k i l n b in
    in_variable read (printed_names k) text (58 ∷ 40 ∷ t) i h e (colon_no_word (40 ∷ t))
    ∙ ap (λ o. o >>= λ p. colon read (printed_names k) p (mark_at (codes ":") p.1)) (variable_back i text (58 ∷ 40 ∷ t) h e (colon_no_word (40 ∷ t)))
    ∙ ap (colon read (printed_names k) (variable i, 58 ∷ 40 ∷ t)) (colon_mark (40 ∷ t))
    ∙ ap (λ o. o >>= node_at read (Some (numbered (printed_names k) (variable i)).0) (numbered (printed_names k) (variable i)).1) (bracket_mark (40 ∷ t) t refl)
    ∙ ap (λ p. node_at read (Some p.0) p.1 t) (numbered_back k i l n b)

node_inside : (read : Numbers Pattern) (name : Option ℕ) (o : Op) (ty : Option ℕ) (int : Option IntPart) (aux : Option ℕ) (args : List Pattern) (k1 k2 k3 k4 m : ℕ) (t rest : List ℕ) → OpWritten o → Nexts k1 ty k2 → NextInt k2 int k3 → Nexts k3 aux k4
    → k2 < 2 ^ 64 → k3 < 2 ^ 64 → k4 < 2 ^ 64 → Tail t → patterns_at read (length t) (printed_names k4) t ≡ Some (args, printed_names m, rest)
    → node_at read name (printed_names k1) (name_of o ++ (type_variable_text ty ++ (int_part_text int ++ (aux_text aux ++ t)))) ≡ Some (tree name o ty int aux args, printed_names m, rest)
unfolding node_at
node_inside read name o ty int aux args k1 k2 k3 k4 m t rest w h g f b2 b3 b4 tail e =
    ap (λ q. q >>= λ p. patterns_at read (length p.2) p.1 p.2 >>= λ r. Some (tree name p.0.op p.0.ty p.0.int p.0.aux r.0, r.1, r.2)) (front_back o ty int aux k1 k2 k3 k4 t w h g f b2 b3 b4 tail)
    ∙ ap (λ q. q >>= λ r. Some (tree name o ty int aux r.0, r.1, r.2)) e

-- ---- variables never get fewer
next_up : (k i l : ℕ) → Next k i l → k ≤ l
next_up k i l (inl h) = omega (arith, h.1)
next_up k i l (inr h) = omega (arith, h.1)

pub nexts_up : (k : ℕ) (o : Option ℕ) (l : ℕ) → Nexts k o l → k ≤ l
nexts_up k None l h = omega arith
nexts_up k (Some i) l h = next_up k i l h

pub int_up : (k : ℕ) (o : Option IntPart) (l : ℕ) → NextInt k o l → k ≤ l
int_up k None l h = omega arith
int_up k (Some (part.Number z)) l h = omega (arith, h.1)
int_up k (Some (part.Var i)) l h = next_up k i l h

pub lefts_up : (k l : ℕ) (ps : List Pattern) → Lefts k ps l → k ≤ l
lefts_up k l ps (no_left j) = omega arith
lefts_up k l ps (any_left j m qs h) = lefts_up k l qs h
lefts_up k l ps (var_left j m n i qs h g) = let a = next_up j i m h in let b = lefts_up m n qs g in omega arith
lefts_up k l ps (node_left j k1 k2 k3 k4 m n name o ty int aux args qs h w g f e d c) =
    let a1 = nexts_up j name k1 h in
    let a2 = nexts_up k1 ty k2 g in
    let a3 = int_up k2 int k3 f in
    let a4 = nexts_up k3 aux k4 e in
    let a5 = lefts_up k4 m args d in
    let a6 = lefts_up m n qs c in
    omega arith

-- ---- rows of trees
row_closes : (k l : ℕ) (ps : List Pattern) (rest : List ℕ) → Lefts k ps l → Closes (patterns_text ps ++ (41 ∷ rest))
unfolding opened patterns_text front_text variable
row_closes k l ps rest (no_left j) = by_bracket rest
row_closes k l ps rest (any_left j m qs h) = by_blank 95 _ refl refl
row_closes k l ps rest (var_left j m n i qs h g) = by_blank 120 _ refl refl
row_closes k l ps rest (node_left j k1 k2 k3 k4 m n None o ty int aux args qs h w g f e d c) = by_blank 40 _ refl refl
row_closes k l ps rest (node_left j k1 k2 k3 k4 m n (Some i) o ty int aux args qs h w g f e d c) = by_blank 120 _ refl refl

pub row_tail : (k l : ℕ) (ps : List Pattern) (rest : List ℕ) → Lefts k ps l → Tail (patterns_text ps ++ (41 ∷ rest))
unfolding opened patterns_text front_text variable begins_word is_word_byte mark_at unblanked after
row_tail k l ps rest (no_left j) = record { word = refl; type = refl; int = refl; aux = refl }
row_tail k l ps rest (any_left j m qs h) = record { word = refl; type = refl; int = refl; aux = refl }
row_tail k l ps rest (var_left j m n i qs h g) = record { word = refl; type = refl; int = refl; aux = refl }
row_tail k l ps rest (node_left j k1 k2 k3 k4 m n None o ty int aux args qs h w g f e d c) = record { word = refl; type = refl; int = refl; aux = refl }
row_tail k l ps rest (node_left j k1 k2 k3 k4 m n (Some i) o ty int aux args qs h w g f e d c) = record { word = refl; type = refl; int = refl; aux = refl }

-- a text that a tree begins
pub data Opens : List ℕ → Type 0 where
  opens : (c : ℕ) (t : List ℕ) → is_blank c ≡ false → (41 == c) ≡ false → Opens (c ∷ t)

pub opens_no_end : (t : List ℕ) → Opens t → mark_at (codes ")") (32 ∷ t) ≡ None
unfolding mark_at after
opens_no_end t (opens c r b e) = ap (after (codes ")")) (behind_blank c r b) ∙ ap (λ q. cond q (Some r) None) e

pub opens_solid : (t : List ℕ) → Opens t → unblanked (32 ∷ t) ≡ t
opens_solid t (opens c r b e) = behind_blank c r b

pub any_opens : (t : List ℕ) → Opens (pattern_text any ++ t)
unfolding opened
any_opens t = opens 95 t refl refl

pub var_opens : (i : ℕ) (t : List ℕ) → Opens (pattern_text (var i) ++ t)
unfolding opened variable
var_opens i t = opens 120 _ refl refl

pub tree_opens : (name : Option ℕ) (o : Op) (ty : Option ℕ) (int : Option IntPart) (aux : Option ℕ) (args : List Pattern) (t : List ℕ) → Opens (pattern_text (tree name o ty int aux args) ++ t)
unfolding opened front_text variable
tree_opens None o ty int aux args t = opens 40 _ refl refl
tree_opens (Some i) o ty int aux args t = opens 120 _ refl refl

row_text : (p : Pattern) (ps : List Pattern) (t : List ℕ) → patterns_text (p ∷ ps) ++ t ≡ 32 ∷ (pattern_text p ++ (patterns_text ps ++ t))
unfolding patterns_text
row_text p ps t = ap (λ v. 32 ∷ v) (append_assoc (pattern_text p) (patterns_text ps) t)

abbrev after_end : Numbers Pattern → ℕ → List (List ℕ) → List ℕ → Option (List ℕ) → Option (List Pattern × List (List ℕ) × List ℕ)
after_end read n names text o = where_marked o (λ r. Some ([], names, r)) (read names text >>= λ p. in_front p.0 (patterns_at read n p.1 p.2))

row_ends : (read : Numbers Pattern) (n : ℕ) (names : List (List ℕ)) (rest : List ℕ) → patterns_at read (suc n) names (41 ∷ rest) ≡ Some ([], names, rest)
unfolding patterns_at
row_ends read n names rest = ap (after_end read n names (41 ∷ rest)) (mark_here 41 rest refl)

row_ends_here : (read : Numbers Pattern) (n : ℕ) (names : List (List ℕ)) (rest : List ℕ) → patterns_at read (suc n) names (patterns_text [] ++ (41 ∷ rest)) ≡ Some ([], names, rest)
unfolding patterns_text
row_ends_here read n names rest = row_ends read n names rest

row_goes_on : (read : Numbers Pattern) (n : ℕ) (names more most : List (List ℕ)) (text t rest : List ℕ) (p : Pattern) (ps : List Pattern) → mark_at (codes ")") text ≡ None → read names text ≡ Some (p, more, t) → patterns_at read n more t ≡ Some (ps, most, rest)
    → patterns_at read (suc n) names text ≡ Some (p ∷ ps, most, rest)
unfolding patterns_at
row_goes_on read n names more most text t rest p ps e h g =
    ap (after_end read n names text) e
    ∙ ap (λ o. o >>= λ q. in_front q.0 (patterns_at read n q.1 q.2)) h
    ∙ ap (λ o. in_front p o) g

any_word : AllByRecursion (λ c. is_word_byte c ≡ true) (codes "_")
unfolding is_word_byte
any_word = (refl, tt)

any_back : (read : Numbers Pattern) (names : List (List ℕ)) (text t : List ℕ) → unblanked text ≡ pattern_text any ++ t → Closes t → pattern_in read names text ≡ Some (any, names, t)
unfolding pattern_in any_at word_at
any_back read names text t e c =
    ap (in_any read names text)
    (ap (λ p. if bytes_eq p.0 (codes "_") then Some p.1 else None) (ap run_at (e ∙ ap (λ v. v ++ t) any_text) ∙ word_back (codes "_") t any_word (closes_no_word t c)))

deeper : (m : ℕ) (names : List (List ℕ)) (text : List ℕ) → pattern_at (suc m) names text ≡ pattern_in (pattern_at m) names text
unfolding pattern_at
deeper m names text = refl

pub tree_around : (a f q t : List ℕ) → (a ++ (f ++ (q ++ codes ")"))) ++ t ≡ a ++ (f ++ (q ++ (41 ∷ t)))
tree_around a f q t = append_assoc a (f ++ (q ++ codes ")")) t ∙ ap (λ v. a ++ v) (append_assoc f (q ++ codes ")") t ∙ ap (λ v. f ++ v) (append_assoc q (codes ")") t))

-- a node, where its arguments are read back
pub tree_back : (read : Numbers Pattern) (name : Option ℕ) (o : Op) (ty : Option ℕ) (int : Option IntPart) (aux : Option ℕ) (args : List Pattern) (k k1 k2 k3 k4 m : ℕ) (text t : List ℕ) → Nexts k name k1 → OpWritten o → Nexts k1 ty k2 → NextInt k2 int k3 → Nexts k3 aux k4
    → Lefts k4 args m → k1 < 2 ^ 64 → k2 < 2 ^ 64 → k3 < 2 ^ 64 → k4 < 2 ^ 64 → unblanked text ≡ pattern_text (tree name o ty int aux args) ++ t
    → patterns_at read (length (patterns_text args ++ (41 ∷ t))) (printed_names k4) (patterns_text args ++ (41 ∷ t)) ≡ Some (args, printed_names m, t)
    → pattern_in read (printed_names k) text ≡ Some (tree name o ty int aux args, printed_names m, t)
tree_back read None o ty int aux args k k1 k2 k3 k4 m text t n w h g f d b1 b2 b3 b4 e q =
    let a = patterns_text args ++ (41 ∷ t) in
    let inside = name_of o ++ (type_variable_text ty ++ (int_part_text int ++ (aux_text aux ++ a))) in
    in_bracket read (printed_names k) text inside (e ∙ ap (λ v. v ++ t) (text_of_node None o ty int aux args) ∙ tree_around [] (front_text o ty int aux) (patterns_text args) t ∙ front_around o ty int aux a)
    ∙ ap (λ j. node_at read None (printed_names j) inside) (sym n)
    ∙ node_inside read None o ty int aux args k1 k2 k3 k4 m a t w h g f b2 b3 b4 (row_tail k4 m args t d) q
tree_back read (Some i) o ty int aux args k k1 k2 k3 k4 m text t n w h g f d b1 b2 b3 b4 e q =
    let a = patterns_text args ++ (41 ∷ t) in
    let inside = name_of o ++ (type_variable_text ty ++ (int_part_text int ++ (aux_text aux ++ a))) in
    named_back read k i k1 text inside n b1
    (
    e ∙ ap (λ v. v ++ t) (text_of_node (Some i) o ty int aux args) ∙ tree_around (variable i ++ codes ":") (front_text o ty int aux) (patterns_text args) t
    ∙ ap (λ v. (variable i ++ codes ":") ++ v) (front_around o ty int aux a) ∙ append_assoc (variable i) (codes ":") (40 ∷ inside)
    )
    ∙ node_inside read (Some i) o ty int aux args k1 k2 k3 k4 m a t w h g f b2 b3 b4 (row_tail k4 m args t d) q

-- ---- lengths
long_plain : (a f q p r : List ℕ) (m : ℕ) → p ≡ a ++ (f ++ (q ++ codes ")")) → length (32 ∷ (p ++ r)) ≤ m → (length q + 2 ≤ m) × (length r + 1 ≤ m)
long_plain a f q p r m e h =
    let s : length p ≡ length a + (length f + (length q + 1)) = simp (length-append) at (ap length e) in
    let u : suc (length p + length r) ≤ m = simp (length-append) at h in
    (omega arith, omega arith)

long_tree : (name : Option ℕ) (o : Op) (ty : Option ℕ) (int : Option IntPart) (aux : Option ℕ) (args ps : List Pattern) (m : ℕ) → length (patterns_text (tree name o ty int aux args ∷ ps)) ≤ m → (length (patterns_text args) + 2 ≤ m) × (length (patterns_text ps) + 1 ≤ m)
unfolding patterns_text
long_tree name o ty int aux args ps m h = long_plain (name_text name) (front_text o ty int aux) (patterns_text args) (pattern_text (tree name o ty int aux args)) (patterns_text ps) m (text_of_node name o ty int aux args) h

long_rest : (p : Pattern) (ps : List Pattern) (m : ℕ) → length (patterns_text (p ∷ ps)) ≤ m → length (patterns_text ps) + 1 ≤ m
unfolding patterns_text
long_rest p ps m h = let u : 1 + length (pattern_text p) + length (patterns_text ps) ≤ m = simp (length-append) at h in omega arith

row_long : (ps : List Pattern) → length ps ≤ length (patterns_text ps)
row_long [] = omega arith
row_long (p ∷ ps) = let h = long_rest p ps (length (patterns_text (p ∷ ps))) (omega arith) in let g = row_long ps in omega arith

-- ---- all rows of left trees
pub lefts_back : (k l : ℕ) (ps : List Pattern) → Lefts k ps l → l < 2 ^ 64 → (m n : ℕ) → length (patterns_text ps) ≤ m → length ps < n → (rest : List ℕ) → patterns_at (pattern_at m) n (printed_names k) (patterns_text ps ++ (41 ∷ rest)) ≡ Some (ps, printed_names l, rest)
lefts_back k l ps h b m zero long few rest = absurd (omega arith)
lefts_back k l ps (no_left j) b m (suc n) long few rest = row_ends_here (pattern_at m) n (printed_names j) rest
lefts_back k l ps (any_left j i qs h) b zero (suc n) long few rest = absurd (let q = long_rest any qs zero long in omega arith)
lefts_back k l ps (any_left j i qs h) b (suc m) (suc n) long few rest =
    let t = patterns_text qs ++ (41 ∷ rest) in
    let q = long_rest any qs (suc m) long in
    let o = any_opens t in
    ap (patterns_at (pattern_at (suc m)) (suc n) (printed_names j)) (row_text any qs (41 ∷ rest))
    ∙ row_goes_on (pattern_at (suc m)) n (printed_names j) (printed_names j) (printed_names i) (32 ∷ (pattern_text any ++ t)) t rest any qs (opens_no_end (pattern_text any ++ t) o)
    (deeper m (printed_names j) (32 ∷ (pattern_text any ++ t)) ∙ any_back (pattern_at m) (printed_names j) (32 ∷ (pattern_text any ++ t)) t (opens_solid (pattern_text any ++ t) o) (row_closes j i qs rest h))
    (lefts_back j i qs h b (suc m) n (omega arith) (omega arith) rest)
lefts_back k l ps (var_left j i z v qs h g) b zero (suc n) long few rest = absurd (let q = long_rest (var v) qs zero long in omega arith)
lefts_back k l ps (var_left j i z v qs h g) b (suc m) (suc n) long few rest =
    let t = patterns_text qs ++ (41 ∷ rest) in
    let q = long_rest (var v) qs (suc m) long in
    let o = var_opens v t in
    let up = lefts_up i z qs g in
    ap (patterns_at (pattern_at (suc m)) (suc n) (printed_names j)) (row_text (var v) qs (41 ∷ rest))
    ∙ row_goes_on (pattern_at (suc m)) n (printed_names j) (printed_names i) (printed_names z) (32 ∷ (pattern_text (var v) ++ t)) t rest (var v) qs (opens_no_end (pattern_text (var v) ++ t) o)
    (
    deeper m (printed_names j) (32 ∷ (pattern_text (var v) ++ t))
    ∙ var_back (pattern_at m) j v i (32 ∷ (pattern_text (var v) ++ t)) t h (omega arith) (opens_solid (pattern_text (var v) ++ t) o ∙ ap (λ x. x ++ t) (var_text v)) (row_closes i z qs rest g)
    )
    (lefts_back i z qs g b (suc m) n (omega arith) (omega arith) rest)
lefts_back k l ps (node_left j k1 k2 k3 k4 i z name o ty int aux args qs h w g f e d c) b zero (suc n) long few rest = absurd (let q = long_rest (tree name o ty int aux args) qs zero long in omega arith)
lefts_back k l ps (node_left j k1 k2 k3 k4 i z name o ty int aux args qs h w g f e d c) b (suc m) (suc n) long few rest =
    let p = tree name o ty int aux args in
    let t = patterns_text qs ++ (41 ∷ rest) in
    let q = long_tree name o ty int aux args qs (suc m) long in
    let s = tree_opens name o ty int aux args t in
    let a2 = nexts_up k1 ty k2 g in
    let a3 = int_up k2 int k3 f in
    let a4 = nexts_up k3 aux k4 e in
    let a5 = lefts_up k4 i args d in
    let a6 = lefts_up i z qs c in
    let more = row_long args in
    let few_args : length args < length (patterns_text args ++ (41 ∷ t)) = omega (arith, length-append (patterns_text args) (41 ∷ t)) in
    ap (patterns_at (pattern_at (suc m)) (suc n) (printed_names j)) (row_text p qs (41 ∷ rest))
    ∙ row_goes_on (pattern_at (suc m)) n (printed_names j) (printed_names i) (printed_names z) (32 ∷ (pattern_text p ++ t)) t rest p qs (opens_no_end (pattern_text p ++ t) s)
    (
    deeper m (printed_names j) (32 ∷ (pattern_text p ++ t))
    ∙ tree_back (pattern_at m) name o ty int aux args j k1 k2 k3 k4 i (32 ∷ (pattern_text p ++ t)) t h w g f e d (omega arith) (omega arith) (omega arith) (omega arith) (opens_solid (pattern_text p ++ t) s)
    (lefts_back k4 i args d (omega arith) m (length (patterns_text args ++ (41 ∷ t))) (omega (arith, q.0)) few_args t)
    )
    (lefts_back i z qs c b (suc m) n (omega (arith, q.1)) (omega arith) rest)

lefts_none : (k l : ℕ) → Lefts k [] l → k ≡ l
lefts_none k l (no_left j) = refl

-- a tree alone
pub left_alone : (k l : ℕ) (p : Pattern) → Lefts k (p ∷ []) l → l < 2 ^ 64 → (m : ℕ) → length (patterns_text (p ∷ [])) ≤ m → (text t : List ℕ) → unblanked text ≡ pattern_text p ++ t → Closes t → pattern_at m (printed_names k) text ≡ Some (p, printed_names l, t)
left_alone k l p (any_left j i qs h) b zero long text t e c = absurd (let q = long_rest any [] zero long in omega arith)
left_alone k l p (any_left j i qs h) b (suc m) long text t e c = deeper m (printed_names j) text ∙ any_back (pattern_at m) (printed_names j) text t e c ∙ ap (λ n. Some (any, printed_names n, t)) (lefts_none j i h)
left_alone k l p (var_left j i z v qs h g) b zero long text t e c = absurd (let q = long_rest (var v) [] zero long in omega arith)
left_alone k l p (var_left j i z v qs h g) b (suc m) long text t e c =
    let up = lefts_up i z [] g in
    deeper m (printed_names j) text ∙ var_back (pattern_at m) j v i text t h (omega arith) (e ∙ ap (λ x. x ++ t) (var_text v)) c ∙ ap (λ n. Some (var v, printed_names n, t)) (lefts_none i z g)
left_alone k l p (node_left j k1 k2 k3 k4 i z name o ty int aux args qs h w g f n d c) b zero long text t e cl = absurd (let q = long_rest (tree name o ty int aux args) [] zero long in omega arith)
left_alone k l p (node_left j k1 k2 k3 k4 i z name o ty int aux args qs h w g f n d c) b (suc m) long text t e cl =
    let q = long_tree name o ty int aux args [] (suc m) long in
    let a2 = nexts_up k1 ty k2 g in
    let a3 = int_up k2 int k3 f in
    let a4 = nexts_up k3 aux k4 n in
    let a5 = lefts_up k4 i args d in
    let a6 = lefts_up i z [] c in
    let more = row_long args in
    let few_args : length args < length (patterns_text args ++ (41 ∷ t)) = omega (arith, length-append (patterns_text args) (41 ∷ t)) in
    deeper m (printed_names j) text
    ∙ tree_back (pattern_at m) name o ty int aux args j k1 k2 k3 k4 i text t h w g f n d (omega arith) (omega arith) (omega arith) (omega arith) e
    (lefts_back k4 i args d (omega arith) m (length (patterns_text args ++ (41 ∷ t))) (omega (arith, q.0)) few_args t)
    ∙ ap (λ x. Some (tree name o ty int aux args, printed_names x, t)) (lefts_none i z c)

-- rows of trees, one behind the other
pub lefts_join : (k m l : ℕ) (ps qs : List Pattern) → Lefts k ps m → Lefts m qs l → Lefts k (ps ++ qs) l
lefts_join k m l ps qs (no_left j) t = t
lefts_join k m l ps qs (any_left j i rs h) t = any_left j l (rs ++ qs) (lefts_join j i l rs qs h t)
lefts_join k m l ps qs (var_left j i z v rs h g) t = var_left j i l v (rs ++ qs) h (lefts_join i z l rs qs g t)
lefts_join k m l ps qs (node_left j k1 k2 k3 k4 i z name o ty int aux args rs h w g f n d c) t = node_left j k1 k2 k3 k4 i l name o ty int aux args (rs ++ qs) h w g f n d (lefts_join i z l rs qs c t)

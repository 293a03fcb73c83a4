-- What the reader gives of expressions.
use Rattle.std.proofs.Common.{◌≡◌, ◌⊎◌, inl, inr, ℕ, zero, suc, ◌+◌, ◌-◌, ◌^◌, ◌<◌, ◌≤◌, List, [], ◌∷◌, ◌++◌, length, map, get_or, ap, ◌∙◌, sym, refl, subst, arith, Bool, true, false, cond, Option, Some, None, codes, ℤ, pos, negsuc}
use Rattle.std.specs.Prelude.{◌==◌, ◌||◌, nat_lt, if◌then◌else◌}
use Rattle.std.specs.List.{list_all, find, position_or_len}
use Rattle.std.specs.Option.{is_some, option_map_or}
use Rattle.std.specs.Str.{bytes_eq}
use Rattle.std.proofs.lemmas.Bool.Decides.{nat_tests}
use Rattle.std.proofs.lemmas.Fmt.{decimal_injective}
use Rattle.std.proofs.lemmas.List.Sums.{position_or_len_is}
use Rattle.std.proofs.lemmas.Slice.Eq.{bytes_eq-Decides}
use Rattle.bk_rule.specs.declared.trees.Expr.{Expr}
use Rattle.bk_rule.specs.declared.trees.Fun.{Fun}
use Rattle.bk_rule.specs.declared.trees.Fun.TheVariants as fun
use Rattle.bk_rule.specs.Trees.{number, held, call}
use Rattle.bk_rule_text.specs.declared.read.operator.Level.{Level}
use Rattle.bk_rule_text.specs.declared.read.operator.Level.TheVariants as level
use Rattle.bk_rule_text.specs.declared.read.operator.Operands.{Operands}
use Rattle.bk_rule_text.specs.declared.read.operator.Operands.TheVariants as operands
use Rattle.bk_rule_text.specs.Front.{◌>>=◌, Read, unblanked, after, closed, where_marked}
use Rattle.bk_rule_text.specs.Layout.{symbol, variable, is_prefix, is_infix}
use Rattle.bk_rule_text.specs.Names.{Variables, place_of, in_scope}
use Rattle.bk_rule_text.specs.Numbers.{sign_at, begins_number, decimal_at, natural_at, negative_at, number_at}
use Rattle.bk_rule_text.specs.Rules.{numbers_from}
use Rattle.bk_rule_text.specs.Words.{variable_at}
use Rattle.bk_rule_text.specs.Exprs.{products, sums, comparisons, prefixes, functions, first_of, symbol_at, and_at, operator_at, chain, chained, whole_at, literal_at, uses_at, about_variable_at, of_type_at, one_at, two_at, function_named, operands_of, given_at, function_at, opened_at, prefixed_at, operand_in, operand_at, expr_at}
use Rattle.bk_rule_text.proofs.Inverse.{Was, none_is_some, same, steps, marked, mapped, either, tested_by, found_has, before_mark}
use Rattle.bk_rule_text.proofs.Keys.{length_map}
use Rattle.bk_rule_text.proofs.Printed.{IsSmall}
use Rattle.bk_rule_text.proofs.PrintedExprs.{is_function, Named, Written, a_number, a_variable, uses_of, of_type, before, between, of_one, of_two}

-- ---- variables as they are printed
-- the first so many variables
unfoldable pub printed_names : ℕ → List (List ℕ)
printed_names n = map variable (numbers_from 0 n)

-- as many variables, of which the same may be named
abbrev pub renamed : Variables → Variables
renamed s = record { names = printed_names (length s.names); first = s.first }

length_numbers : (a n : ℕ) → length (numbers_from a n) ≡ n
unfolding numbers_from
length_numbers a zero = refl
length_numbers a (suc n) = ap suc (length_numbers (suc a) n)

pub length_printed : (n : ℕ) → length (printed_names n) ≡ n
unfolding printed_names
length_printed n = length_map variable (numbers_from 0 n) ∙ length_numbers 0 n

numbers_at : (a n k : ℕ) → k < n → (d : List ℕ) → get_or (map variable (numbers_from a n)) k d ≡ variable (a + k)
unfolding numbers_from
numbers_at a zero k l d = absurd (omega arith)
numbers_at a (suc n) zero l d = let e : a ≡ a + 0 = omega arith in ap variable e
numbers_at a (suc n) (suc k) l d = numbers_at (suc a) n k (omega arith) d ∙ (let e : suc a + k ≡ a + suc k = omega arith in ap variable e)

pub printed_at : (n k : ℕ) (d : List ℕ) → k < n → get_or (printed_names n) k d ≡ variable k
unfolding printed_names
printed_at n k d l = numbers_at 0 n k l d ∙ (let e : 0 + k ≡ k = omega arith in ap variable e)

one_printed_more : (a n : ℕ) → map variable (numbers_from a (suc n)) ≡ map variable (numbers_from a n) ++ variable (a + n) ∷ []
unfolding numbers_from
one_printed_more a zero = let e : a ≡ a + 0 = omega arith in ap (λ k. variable k ∷ []) e
one_printed_more a (suc n) =
    ap (λ xs. variable a ∷ xs) (one_printed_more (suc a) n)
    ∙ (let e : suc a + n ≡ a + suc n = omega arith in ap (λ k. map variable (numbers_from a (suc n)) ++ variable k ∷ []) e)

pub printed_more : (n : ℕ) → printed_names (suc n) ≡ printed_names n ++ variable n ∷ []
unfolding printed_names
printed_more n = one_printed_more 0 n ∙ (let e : 0 + n ≡ n = omega arith in ap (λ k. map variable (numbers_from 0 n) ++ variable k ∷ []) e)

same_variable : (i k : ℕ) → i < 2 ^ 64 → k < 2 ^ 64 → variable i ≡ variable k → i ≡ k
unfolding variable
same_variable i k h g e = decimal_injective i k h g (cc)

pub not_named : (i k : ℕ) → i < 2 ^ 64 → k < 2 ^ 64 → k < i → bytes_eq (variable i) (variable k) ≡ false
not_named i k h g l = by (bytes_eq (variable i) (variable k)) refl
  where
    by : (b : Bool) → bytes_eq (variable i) (variable k) ≡ b → b ≡ false
    by true e = absurd (let q : i ≡ k = same_variable i k h g ((bytes_eq-Decides (variable i) (variable k)).0 e) in omega arith)
    by false e = refl

is_named : (i : ℕ) → bytes_eq (variable i) (variable i) ≡ true
is_named i = (bytes_eq-Decides (variable i) (variable i)).1 refl

pub first_named : (n i : ℕ) → i < n → n < 2 ^ 64 → position_or_len (bytes_eq (variable i)) (printed_names n) ≡ i
first_named n i l h =
    let z = length_printed n in
    position_or_len_is (bytes_eq (variable i)) (printed_names n) i [] (omega arith)
    (λ k g. ap (bytes_eq (variable i)) (printed_at n k [] (omega arith)) ∙ not_named i k (omega arith) (omega arith) g)
    (λ g. ap (bytes_eq (variable i)) (printed_at n i [] l) ∙ is_named i)

pub place_printed : (n i : ℕ) → i < n → n < 2 ^ 64 → place_of (printed_names n) (variable i) ≡ Some i
place_printed n i l h =
    ap (λ k. cond (nat_lt k (length (printed_names n))) (Some k) None) (first_named n i l h)
    ∙ (let z = length_printed n in let t : nat_lt i (length (printed_names n)) ≡ true = grind (arith, nat_tests) in ap (λ b. cond b (Some i) None) t)

placed_within : (names : List (List ℕ)) (name : List ℕ) (i : ℕ) → place_of names name ≡ Some i → i < length names
placed_within names name i e = by (nat_lt (position_or_len (bytes_eq name) names) (length names)) refl
  where
    by : (b : Bool) → nat_lt (position_or_len (bytes_eq name) names) (length names) ≡ b → i < length names
    by true t =
        let q : position_or_len (bytes_eq name) names ≡ i = same (position_or_len (bytes_eq name) names) i (sym (ap (λ b. cond b (Some (position_or_len (bytes_eq name) names)) None) t) ∙ e) in
        grind (arith, nat_tests)
    by false t = none_is_some i (sym (ap (λ b. cond b (Some (position_or_len (bytes_eq name) names)) None) t) ∙ e)

pub named_still : (s : Variables) (name : List ℕ) (i : ℕ) → length s.names < 2 ^ 64 → in_scope s name ≡ Some i → Named (renamed s) i
unfolding in_scope
named_still s name i h e =
    let a = steps (place_of s.names name) (λ k. if nat_lt k s.first then None else Some k) i e in
    by a (placed_within s.names name a.0 a.1) (tested_by (nat_lt a.0 s.first) None (Some a.0) (Some i) a.2)
  where
    by : (a : (k : ℕ) × (place_of s.names name ≡ Some k) × ((if nat_lt k s.first then None else Some k) ≡ Some i)) → a.0 < length s.names → ((nat_lt a.0 s.first ≡ true) × (None ≡ Some i)) ⊎ ((nat_lt a.0 s.first ≡ false) × (Some a.0 ≡ Some i)) → Named (renamed s) i
    by a l (inl t) = none_is_some i t.1
    by a l (inr t) =
        let q : a.0 ≡ i = same a.0 i t.1 in
        let w : i < length s.names = omega (arith, l) in
        record {
          found = ap (λ o. o >>= λ k. if nat_lt k s.first then None else Some k) (place_printed (length s.names) i w h) ∙ ap (λ b. if b then None else Some i) (ap (λ k. nat_lt k s.first) (sym q) ∙ t.0);
          small = omega arith;
        }

-- ---- numbers
small_natural : (n : ℕ) → nat_lt n (2 ^ 63) ≡ true → IsSmall (pos n)
small_natural n h = grind (arith, nat_tests)

small_negative : (n : ℕ) → (n == 0 || nat_lt (2 ^ 63) n) ≡ false → IsSmall (negsuc (n - 1))
small_negative n h = let a : 0 < n = grind (arith, nat_tests) in let b : n ≤ 2 ^ 63 = grind (arith, nat_tests) in omega arith

pub number_small : (text rest : List ℕ) (k : ℤ) → number_at text ≡ Some (k, rest) → IsSmall k
unfolding number_at natural_at negative_at
number_small text rest k e = by (mapped negative_at (sign_at (unblanked text)) (natural_at (unblanked text)) (Some (k, rest)) e)
  where
    natural : (t : List ℕ) → natural_at t ≡ Some (k, rest) → IsSmall k
    natural t d =
        let a = steps (decimal_at t) (λ n. if nat_lt n.0 (2 ^ 63) then Some (pos n.0, n.1) else None) (k, rest) d in
        cases a.0 (tested_by (nat_lt a.0.0 (2 ^ 63)) (Some (pos a.0.0, a.0.1)) None (Some (k, rest)) a.2)
      where
        cases : (n : ℕ × List ℕ) → ((nat_lt n.0 (2 ^ 63) ≡ true) × Was (Some (pos n.0, n.1)) k rest) ⊎ ((nat_lt n.0 (2 ^ 63) ≡ false) × Was None k rest) → IsSmall k
        cases n (inl u) = let q : pos n.0 ≡ k = ap (λ p. p.0) (same (pos n.0, n.1) (k, rest) u.1) in subst IsSmall q (small_natural n.0 u.0)
        cases n (inr u) = none_is_some (k, rest) u.1

    negative : (t : List ℕ) → negative_at t ≡ Some (k, rest) → IsSmall k
    negative t d =
        let a = steps (decimal_at t) (λ n. if n.0 == 0 || nat_lt (2 ^ 63) n.0 then None else Some (negsuc (n.0 - 1), n.1)) (k, rest) d in
        cases a.0 (tested_by (a.0.0 == 0 || nat_lt (2 ^ 63) a.0.0) None (Some (negsuc (a.0.0 - 1), a.0.1)) (Some (k, rest)) a.2)
      where
        cases : (n : ℕ × List ℕ) → (((n.0 == 0 || nat_lt (2 ^ 63) n.0) ≡ true) × Was None k rest) ⊎ (((n.0 == 0 || nat_lt (2 ^ 63) n.0) ≡ false) × Was (Some (negsuc (n.0 - 1), n.1)) k rest) → IsSmall k
        cases n (inl u) = none_is_some (k, rest) u.1
        cases n (inr u) = let q : negsuc (n.0 - 1) ≡ k = ap (λ p. p.0) (same (negsuc (n.0 - 1), n.1) (k, rest) u.1) in subst IsSmall q (small_negative n.0 u.0)

    by : ((r : List ℕ) × (sign_at (unblanked text) ≡ Some r) × Was (negative_at r) k rest) ⊎ ((sign_at (unblanked text) ≡ None) × Was (natural_at (unblanked text)) k rest) → IsSmall k
    by (inl a) = negative a.0 a.2
    by (inr a) = natural (unblanked text) a.1

-- ---- operators
of_list : (q : Fun → Bool) (funs : List Fun) (text r : List ℕ) (f : Fun) → list_all q funs ≡ true → symbol_at funs text ≡ Some (f, r) → q f ≡ true
unfolding symbol_at first_of
of_list q funs text r f h e =
    let a = steps (find (λ g. is_some (after (symbol g) text)) funs) (λ g. after (symbol g) text >>= λ t. Some (g, t)) (f, r) e in
    let b = steps (after (symbol a.0) text) (λ t. Some (a.0, t)) (f, r) a.2 in
    ap q (sym (ap (λ p. p.0) (same (a.0, b.0) (f, r) b.2))) ∙ found_has (λ g. is_some (after (symbol g) text)) q funs a.0 h a.1

product_infix : list_all is_infix products ≡ true
unfolding products is_infix
product_infix = refl

sum_infix : list_all is_infix sums ≡ true
unfolding sums is_infix
sum_infix = refl

comparison_infix : list_all is_infix comparisons ≡ true
unfolding comparisons is_infix
comparison_infix = refl

prefix_prefix : list_all is_prefix prefixes ≡ true
unfolding prefixes is_prefix
prefix_prefix = refl

function_function : list_all is_function functions ≡ true
unfolding functions
function_function = refl

and_infix : is_infix fun.And ≡ true
unfolding is_infix
and_infix = refl

of_and : (text r : List ℕ) (f : Fun) → and_at text ≡ Some (f, r) → is_infix f ≡ true
unfolding and_at
of_and text r f e =
    let a = steps (after (codes "&") text) (λ t. if is_some (after (codes "&") t) then None else Some (fun.And, t)) (f, r) e in
    by a.0 (tested_by (is_some (after (codes "&") a.0)) None (Some (fun.And, a.0)) (Some (f, r)) a.2)
  where
    by : (t : List ℕ) → ((is_some (after (codes "&") t) ≡ true) × Was None f r) ⊎ ((is_some (after (codes "&") t) ≡ false) × Was (Some (fun.And, t)) f r) → is_infix f ≡ true
    by t (inl u) = none_is_some (f, r) u.1
    by t (inr u) = ap is_infix (sym (ap (λ p. p.0) (same (fun.And, t) (f, r) u.1))) ∙ and_infix

infix_of : (l : Level) (text r : List ℕ) (f : Fun) → operator_at l text ≡ Some (f, r) → is_infix f ≡ true
unfolding operator_at
infix_of level.Product text r f e = by (either (symbol_at products (unblanked text)) (and_at (unblanked text)) (f, r) e)
  where
    by : Was (symbol_at products (unblanked text)) f r ⊎ Was (and_at (unblanked text)) f r → is_infix f ≡ true
    by (inl d) = of_list is_infix products (unblanked text) r f product_infix d
    by (inr d) = of_and (unblanked text) r f d
infix_of level.Sum text r f e = of_list is_infix sums (unblanked text) r f sum_infix e
infix_of level.Comparison text r f e = of_list is_infix comparisons (unblanked text) r f comparison_infix e

-- ---- operators between operands
abbrev Gives : Variables → Read Expr → Type 0
Gives s operand = (text rest : List ℕ) (x : Expr) → operand text ≡ Some (x, rest) → Written s x

chain_gives : (s : Variables) (l : Level) (operand : Read Expr) → Gives s operand → (n : ℕ) (left : Expr) (text rest : List ℕ) (x : Expr) → Written s left → chain (operator_at l) operand n left text ≡ Some (x, rest) → Written s x
unfolding chain
chain_gives s l operand g zero left text rest x w e = subst (Written s) (ap (λ p. p.0) (same (left, text) (x, rest) e)) w
chain_gives s l operand g (suc n) left text rest x w e =
    by (mapped (λ f. operand f.1 >>= λ y. chain (operator_at l) operand n (call f.0 (left ∷ y.0 ∷ [])) y.1) (operator_at l text) (Some (left, text)) (Some (x, rest)) e) (chain_gives s l operand g n)
  where
    by : ((f : Fun × List ℕ) × (operator_at l text ≡ Some f) × Was (operand f.1 >>= λ y. chain (operator_at l) operand n (call f.0 (left ∷ y.0 ∷ [])) y.1) x rest) ⊎ ((operator_at l text ≡ None) × Was (Some (left, text)) x rest)
        → ((z : Expr) (t r : List ℕ) (v : Expr) → Written s z → chain (operator_at l) operand n z t ≡ Some (v, r) → Written s v) → Written s x
    by (inl a) on =
        let f = a.0 in
        let b = steps (operand f.1) (λ y. chain (operator_at l) operand n (call f.0 (left ∷ y.0 ∷ [])) y.1) (x, rest) a.2 in
        on (call f.0 (left ∷ b.0.0 ∷ [])) b.0.1 rest x (between f.0 left b.0.0 (infix_of l text f.1 f.0 a.1) w (g f.1 b.0.1 b.0.0 b.1)) b.2
    by (inr a) on = subst (Written s) (ap (λ p. p.0) (same (left, text) (x, rest) a.1)) w

chained_gives : (s : Variables) (l : Level) (operand : Read Expr) → Gives s operand → Gives s (chained (operator_at l) operand)
unfolding chained
chained_gives s l operand g text rest x e =
    let a = steps (operand text) (λ y. chain (operator_at l) operand (length y.1) y.0 y.1) (x, rest) e in
    chain_gives s l operand g (length a.0.1) a.0.0 a.0.1 rest x (g text a.0.1 a.0.0 a.1) a.2

whole_gives : (s : Variables) (operand : Read Expr) → Gives s operand → Gives s (whole_at operand)
whole_gives s operand g =
    chained_gives s level.Comparison (chained (operator_at level.Sum) (chained (operator_at level.Product) operand))
    (chained_gives s level.Sum (chained (operator_at level.Product) operand) (chained_gives s level.Product operand g))

-- ---- operands
abbrev by_kind : Variables → Read Expr → Fun → List ℕ → Operands → Option (Expr × List ℕ)
by_kind s read f text o = given_at s read o f text

given_gives : (s : Variables) (read : Read Expr) (f : Fun) (text rest : List ℕ) (x : Expr) (o : Operands) → length s.names < 2 ^ 64 → Gives (renamed s) read → is_function f ≡ true → operands_of f ≡ o → given_at s read o f text ≡ Some (x, rest) → Written (renamed s) x
unfolding one_at two_at of_type_at
given_gives s read f text rest x operands.One n g h k e =
    let a = steps (closed (codes ")") read text) (λ y. Some (call f (y.0 ∷ []), y.1)) (x, rest) e in
    let b = before_mark (codes ")") read text a.0.1 a.0.0 a.1 in
    subst (Written (renamed s)) (ap (λ p. p.0) (same (call f (a.0.0 ∷ []), a.0.1) (x, rest) a.2)) (of_one f a.0.0 h k (g text b.0 a.0.0 b.1))
given_gives s read f text rest x operands.Two n g h k e =
    let a = steps (closed (codes ",") read text) (λ y. closed (codes ")") read y.1 >>= λ z. Some (call f (y.0 ∷ z.0 ∷ []), z.1)) (x, rest) e in
    let b = before_mark (codes ",") read text a.0.1 a.0.0 a.1 in
    let c = steps (closed (codes ")") read a.0.1) (λ z. Some (call f (a.0.0 ∷ z.0 ∷ []), z.1)) (x, rest) a.2 in
    let d = before_mark (codes ")") read a.0.1 c.0.1 c.0.0 c.1 in
    subst (Written (renamed s)) (ap (λ p. p.0) (same (call f (a.0.0 ∷ c.0.0 ∷ []), c.0.1) (x, rest) c.2)) (of_two f a.0.0 c.0.0 h k (g text b.0 a.0.0 b.1) (g a.0.1 d.0 c.0.0 d.1))
given_gives s read f text rest x operands.Type n g h k e =
    let a = steps (closed (codes ")") variable_at text) (λ v. in_scope s v.0 >>= λ i. Some (call f (held i ∷ []), v.1)) (x, rest) e in
    let b = steps (in_scope s a.0.0) (λ i. Some (call f (held i ∷ []), a.0.1)) (x, rest) a.2 in
    subst (Written (renamed s)) (ap (λ p. p.0) (same (call f (held b.0 ∷ []), a.0.1) (x, rest) b.2)) (of_type f b.0 h k (named_still s a.0.0 b.0 n b.1))

function_gives : (s : Variables) (read : Read Expr) (name text rest : List ℕ) (x : Expr) → length s.names < 2 ^ 64 → Gives (renamed s) read → function_at s read name text ≡ Some (x, rest) → Written (renamed s) x
unfolding function_at function_named
function_gives s read name text rest x n g e =
    let a = steps (find (λ f. bytes_eq (symbol f) name) functions) (λ f. given_at s read (operands_of f) f text) (x, rest) e in
    given_gives s read a.0 text rest x (operands_of a.0) n g (found_has (λ f. bytes_eq (symbol f) name) is_function functions a.0 function_function a.1) refl a.2

about_gives : (s : Variables) (text rest : List ℕ) (x : Expr) → length s.names < 2 ^ 64 → about_variable_at s text ≡ Some (x, rest) → Written (renamed s) x
unfolding about_variable_at
about_gives s text rest x n e =
    let a = steps (variable_at text) (λ v. in_scope s v.0 >>= λ i. where_marked (uses_at v.1) (λ r. Some (call fun.Uses (held i ∷ []), r)) (Some (held i, v.1))) (x, rest) e in
    let b = steps (in_scope s a.0.0) (λ i. where_marked (uses_at a.0.1) (λ r. Some (call fun.Uses (held i ∷ []), r)) (Some (held i, a.0.1))) (x, rest) a.2 in
    by a.0.1 b.0 (named_still s a.0.0 b.0 n b.1) (marked (uses_at a.0.1) (λ r. Some (call fun.Uses (held b.0 ∷ []), r)) (Some (held b.0, a.0.1)) (Some (x, rest)) b.2)
  where
    by : (t : List ℕ) (i : ℕ) → Named (renamed s) i → ((r : List ℕ) × (uses_at t ≡ Some r) × Was (Some (call fun.Uses (held i ∷ []), r)) x rest) ⊎ ((uses_at t ≡ None) × Was (Some (held i, t)) x rest) → Written (renamed s) x
    by t i w (inl u) = subst (Written (renamed s)) (ap (λ p. p.0) (same (call fun.Uses (held i ∷ []), u.0) (x, rest) u.2)) (uses_of i w)
    by t i w (inr u) = subst (Written (renamed s)) (ap (λ p. p.0) (same (held i, t) (x, rest) u.1)) (a_variable i w)

literal_gives : (s : Variables) (text rest : List ℕ) (x : Expr) → literal_at text ≡ Some (x, rest) → Written (renamed s) x
unfolding literal_at
literal_gives s text rest x e =
    let a = steps (number_at text) (λ n. Some (number n.0, n.1)) (x, rest) e in
    subst (Written (renamed s)) (ap (λ p. p.0) (same (number a.0.0, a.0.1) (x, rest) a.2)) (a_number a.0.0 (number_small text a.0.1 a.0.0 a.1))

prefixed_gives : (s : Variables) (operand : Read Expr) (text r t rest : List ℕ) (f : Fun) (x : Expr) → Gives (renamed s) operand → symbol_at prefixes t ≡ Some (f, r) → prefixed_at operand f text ≡ Some (x, rest) → Written (renamed s) x
unfolding prefixed_at
prefixed_gives s operand text r t rest f x g h e =
    let a = steps (operand text) (λ y. Some (call f (y.0 ∷ []), y.1)) (x, rest) e in
    subst (Written (renamed s)) (ap (λ p. p.0) (same (call f (a.0.0 ∷ []), a.0.1) (x, rest) a.2)) (before f a.0.0 (of_list is_prefix prefixes t r f prefix_prefix h) (g text a.0.1 a.0.0 a.1))

operand_in_gives : (s : Variables) (operand : Read Expr) (text rest : List ℕ) (x : Expr) → length s.names < 2 ^ 64 → Gives (renamed s) operand → operand_in s operand text ≡ Some (x, rest) → Written (renamed s) x
unfolding operand_in
operand_in_gives s operand text rest x n g e = one (tested_by (begins_number text) (literal_at text) others (Some (x, rest)) e)
  where
    named : Option (Expr × List ℕ)
    named = option_map_or (λ m. function_at s (whole_at operand) m.0 m.1) (opened_at text) (about_variable_at s text)

    bracketed : Option (Expr × List ℕ)
    bracketed = where_marked (after (codes "(") text) (closed (codes ")") (whole_at operand)) named

    others : Option (Expr × List ℕ)
    others = option_map_or (λ f. prefixed_at operand f.0 f.1) (symbol_at prefixes text) bracketed

    four : ((m : List ℕ × List ℕ) × (opened_at text ≡ Some m) × (function_at s (whole_at operand) m.0 m.1 ≡ Some (x, rest))) ⊎ ((opened_at text ≡ None) × (about_variable_at s text ≡ Some (x, rest))) → Written (renamed s) x
    four (inl a) = function_gives s (whole_at operand) a.0.0 a.0.1 rest x n (whole_gives (renamed s) operand g) a.2
    four (inr a) = about_gives s text rest x n a.1

    three : ((r : List ℕ) × (after (codes "(") text ≡ Some r) × (closed (codes ")") (whole_at operand) r ≡ Some (x, rest))) ⊎ ((after (codes "(") text ≡ None) × (named ≡ Some (x, rest))) → Written (renamed s) x
    three (inl a) = let b = before_mark (codes ")") (whole_at operand) a.0 rest x a.2 in whole_gives (renamed s) operand g a.0 b.0 x b.1
    three (inr a) = four (mapped (λ m. function_at s (whole_at operand) m.0 m.1) (opened_at text) (about_variable_at s text) (Some (x, rest)) a.1)

    two : ((f : Fun × List ℕ) × (symbol_at prefixes text ≡ Some f) × (prefixed_at operand f.0 f.1 ≡ Some (x, rest))) ⊎ ((symbol_at prefixes text ≡ None) × (bracketed ≡ Some (x, rest))) → Written (renamed s) x
    two (inl a) = prefixed_gives s operand a.0.1 a.0.1 text rest a.0.0 x g a.1 a.2
    two (inr a) = three (marked (after (codes "(") text) (closed (codes ")") (whole_at operand)) named (Some (x, rest)) a.1)

    one : ((begins_number text ≡ true) × (literal_at text ≡ Some (x, rest))) ⊎ ((begins_number text ≡ false) × (others ≡ Some (x, rest))) → Written (renamed s) x
    one (inl a) = literal_gives s text rest x a.1
    one (inr a) = two (mapped (λ f. prefixed_at operand f.0 f.1) (symbol_at prefixes text) bracketed (Some (x, rest)) a.1)

pub operand_gives : (s : Variables) → length s.names < 2 ^ 64 → (n : ℕ) → Gives (renamed s) (operand_at s n)
unfolding operand_at
operand_gives s h zero text rest x e = none_is_some (x, rest) e
operand_gives s h (suc n) text rest x e = operand_in_gives s (operand_at s n) (unblanked text) rest x h (operand_gives s h n) e

pub expr_gives : (s : Variables) → length s.names < 2 ^ 64 → (n : ℕ) (text rest : List ℕ) (x : Expr) → expr_at s n text ≡ Some (x, rest) → Written (renamed s) x
unfolding expr_at
expr_gives s h n text rest x e = whole_gives (renamed s) (operand_at s n) (operand_gives s h n) text rest x e

-- Expressions that are printed are read back.
use Rattle.std.proofs.Common.{◌≡◌, ◌⊎◌, inl, inr, ℕ, zero, suc, ◌+◌, ◌^◌, ◌<◌, ◌≤◌, List, [], ◌∷◌, ◌++◌, append_assoc, length, drop, map, ap, ◌∙◌, sym, refl, subst, arith, Bool, true, false, Option, Some, None, codes, ℤ}
use Rattle.std.specs.Prelude.{if◌then◌else◌, bytes_eq}
use Rattle.std.specs.Fmt.{decimal, signed_decimal}
use Rattle.std.specs.List.{prefix_len, AllByRecursion}
use Rattle.bk_text.specs.Tokens.{is_blank}
use Rattle.std.specs.Option.{option_map_or}
use Rattle.std.proofs.lemmas.List.{length-append}
use Rattle.bk_rule.specs.declared.trees.Expr.{Expr}
use Rattle.bk_rule.specs.declared.trees.Fun.{Fun}
use Rattle.bk_rule.specs.declared.trees.Fun.TheVariants as fun
use Rattle.bk_rule.specs.Trees.{number, held, call}
use Rattle.bk_rule.proofs.Opened.{opened}
use Rattle.bk_rule_text.specs.declared.read.operator.Level.TheVariants as level
use Rattle.bk_rule_text.specs.declared.read.operator.Operands.TheVariants as operands
use Rattle.bk_rule_text.specs.Front.{◌>>=◌, Read, unblanked, after, mark_at, closed, where_marked}
use Rattle.bk_rule_text.specs.Layout.{symbol, variable, is_prefix, is_infix, is_uses, operates, in_brackets, one_text, two_text, function_text, call_text, joined, separator, expr_text, inner_text, is_operation}
use Rattle.bk_rule_text.specs.Names.{Variables, in_scope}
use Rattle.bk_rule_text.specs.Numbers.{sign_at, begins_number, number_at}
use Rattle.bk_rule_text.specs.Words.{is_word_byte, begins_word, begins_name, run_at, name_at, variable_at}
use Rattle.bk_rule_text.specs.Exprs.{products, sums, comparisons, prefixes, functions, first_of, symbol_at, and_at, operator_at, chain, chained, whole_at, literal_at, uses_at, about_variable_at, of_type_at, one_at, two_at, function_named, operands_of, given_at, function_at, opened_at, prefixed_at, operand_in, operand_at, expr_at}
use Rattle.bk_rule_text.proofs.Loops.{chain_stops}
use Rattle.bk_rule_text.proofs.Printed.{IsSmall, number_back, number_solid, number_long, variable_back, variable_word, variable_name, name_back, word_back}
use Rattle.bk_rule_text.proofs.Rows.{text_of_call, operation_of_call}

-- ---- what may stand behind an operand and behind an expression
pub record Stops (rest : List ℕ) : Type 0 where
  pub word : begins_word rest ≡ false
  pub dot : after (codes ".") rest ≡ None
  pub bracket : mark_at (codes "(") rest ≡ None

pub record Ends (rest : List ℕ) : Type 0 where
  pub stops : Stops rest
  pub product : operator_at level.Product rest ≡ None
  pub sum : operator_at level.Sum rest ≡ None
  pub comparison : operator_at level.Comparison rest ≡ None

pub blank_stops : (text : List ℕ) → mark_at (codes "(") (32 ∷ text) ≡ None → Stops (32 ∷ text)
unfolding begins_word after is_word_byte
blank_stops text e = record { word = refl; dot = refl; bracket = e }

-- ---- operators between operands
step_back : (operator : Read Fun) (operand : Read Expr) (n : ℕ) (left y : Expr) (text r u : List ℕ) (f : Fun) → operator text ≡ Some (f, r) → operand r ≡ Some (y, u) → operator u ≡ None → 0 < n →
    chain operator operand n left text ≡ Some (call f (left ∷ y ∷ []), u)
unfolding chain
step_back operator operand zero left y text r u f e d g h = absurd (omega arith)
step_back operator operand (suc n) left y text r u f e d g h =
    ap (λ o. option_map_or (λ p. operand p.1 >>= λ q. chain operator operand n (call p.0 (left ∷ q.0 ∷ [])) q.1) o (Some (left, text))) e
    ∙ ap (λ o. o >>= λ q. chain operator operand n (call f (left ∷ q.0 ∷ [])) q.1) d
    ∙ chain_stops operator operand n (call f (left ∷ y ∷ [])) u (chain operator operand n (call f (left ∷ y ∷ [])) u) refl g

pub alone : (operator : Read Fun) (operand : Read Expr) (text u : List ℕ) (x : Expr) → operand text ≡ Some (x, u) → operator u ≡ None → chained operator operand text ≡ Some (x, u)
unfolding chained
alone operator operand text u x e g =
    ap (λ o. o >>= λ p. chain operator operand (length p.1) p.0 p.1) e
    ∙ chain_stops operator operand (length u) x u (chain operator operand (length u) x u) refl g

both : (operator : Read Fun) (operand : Read Expr) (text u r v : List ℕ) (x y : Expr) (f : Fun) → operand text ≡ Some (x, u) → operator u ≡ Some (f, r) → operand r ≡ Some (y, v) → operator v ≡ None → 0 < length u →
    chained operator operand text ≡ Some (call f (x ∷ y ∷ []), v)
unfolding chained
both operator operand text u r v x y f e g d h l =
    ap (λ o. o >>= λ p. chain operator operand (length p.1) p.0 p.1) e
    ∙ step_back operator operand (length u) x y u r v f g d h l

pub whole_alone : (operand : Read Expr) (text rest : List ℕ) (x : Expr) → operand text ≡ Some (x, rest) → Ends rest → whole_at operand text ≡ Some (x, rest)
whole_alone operand text rest x e h =
    alone (operator_at level.Comparison) (chained (operator_at level.Sum) (chained (operator_at level.Product) operand)) text rest x
    (alone (operator_at level.Sum) (chained (operator_at level.Product) operand) text rest x (alone (operator_at level.Product) operand text rest x e h.product) h.sum)
    h.comparison

-- how an operator is read where it stands between blanks
abbrev spaced : Fun → List ℕ → List ℕ
spaced f text = 32 ∷ (symbol f ++ (32 ∷ text))

record AsProduct (f : Fun) (text : List ℕ) : Type 0 where
  product : operator_at level.Product (spaced f text) ≡ Some (f, 32 ∷ text)

record AsSum (f : Fun) (text : List ℕ) : Type 0 where
  product : operator_at level.Product (spaced f text) ≡ None
  sum : operator_at level.Sum (spaced f text) ≡ Some (f, 32 ∷ text)

record AsComparison (f : Fun) (text : List ℕ) : Type 0 where
  product : operator_at level.Product (spaced f text) ≡ None
  sum : operator_at level.Sum (spaced f text) ≡ None
  comparison : operator_at level.Comparison (spaced f text) ≡ Some (f, 32 ∷ text)

infix_at : (f : Fun) (text : List ℕ) → is_infix f ≡ true → AsProduct f text ⊎ (AsSum f text ⊎ AsComparison f text)
unfolding is_infix symbol operator_at symbol_at and_at first_of products sums comparisons unblanked after
infix_at fun.Mul text h = inl (record { product = refl })
infix_at fun.Shl text h = inl (record { product = refl })
infix_at fun.Shr text h = inl (record { product = refl })
infix_at fun.And text h = inl (record { product = refl })
infix_at fun.Add text h = inr (inl (record { product = refl; sum = refl }))
infix_at fun.Sub text h = inr (inl (record { product = refl; sum = refl }))
infix_at fun.Or text h = inr (inl (record { product = refl; sum = refl }))
infix_at fun.Xor text h = inr (inl (record { product = refl; sum = refl }))
infix_at fun.Eq text h = inr (inr (record { product = refl; sum = refl; comparison = refl }))
infix_at fun.Ne text h = inr (inr (record { product = refl; sum = refl; comparison = refl }))
infix_at fun.Lt text h = inr (inr (record { product = refl; sum = refl; comparison = refl }))
infix_at fun.Le text h = inr (inr (record { product = refl; sum = refl; comparison = refl }))
infix_at _ text h = absurd (let e : false ≡ true = h in cc)

infix_stops : (f : Fun) (text : List ℕ) → is_infix f ≡ true → Stops (spaced f text)
unfolding is_infix symbol begins_word mark_at unblanked after is_word_byte
infix_stops fun.Mul text h = record { word = refl; dot = refl; bracket = refl }
infix_stops fun.Shl text h = record { word = refl; dot = refl; bracket = refl }
infix_stops fun.Shr text h = record { word = refl; dot = refl; bracket = refl }
infix_stops fun.And text h = record { word = refl; dot = refl; bracket = refl }
infix_stops fun.Add text h = record { word = refl; dot = refl; bracket = refl }
infix_stops fun.Sub text h = record { word = refl; dot = refl; bracket = refl }
infix_stops fun.Or text h = record { word = refl; dot = refl; bracket = refl }
infix_stops fun.Xor text h = record { word = refl; dot = refl; bracket = refl }
infix_stops fun.Eq text h = record { word = refl; dot = refl; bracket = refl }
infix_stops fun.Ne text h = record { word = refl; dot = refl; bracket = refl }
infix_stops fun.Lt text h = record { word = refl; dot = refl; bracket = refl }
infix_stops fun.Le text h = record { word = refl; dot = refl; bracket = refl }
infix_stops _ text h = absurd (let e : false ≡ true = h in cc)

pub unblanked_blank : (text : List ℕ) → unblanked (32 ∷ text) ≡ unblanked text
unfolding unblanked
unblanked_blank text = let e : 1 + prefix_len is_blank text ≡ suc (prefix_len is_blank text) = omega arith in ap (λ k. drop k (32 ∷ text)) e

-- an operand that this reader reads where its text stands behind blanks
abbrev pub Back : Read Expr → Expr → Type 0
Back operand x = (text rest : List ℕ) → unblanked text ≡ inner_text x ++ rest → Stops rest → operand text ≡ Some (x, rest)

-- two operands, and an operator between them
pub whole_between : (operand : Read Expr) (f : Fun) (x y : Expr) (text rest : List ℕ) → is_infix f ≡ true → Back operand x → Back operand y → unblanked text ≡ inner_text x ++ spaced f (inner_text y ++ rest) → unblanked (inner_text y ++ rest) ≡ inner_text y ++ rest → Ends rest →
    whole_at operand text ≡ Some (call f (x ∷ y ∷ []), rest)
whole_between operand f x y text rest i bx bye u w h = by (infix_at f (inner_text y ++ rest) i)
  where
    first : operand text ≡ Some (x, spaced f (inner_text y ++ rest))
    first = bx text (spaced f (inner_text y ++ rest)) u (infix_stops f (inner_text y ++ rest) i)

    second : operand (32 ∷ (inner_text y ++ rest)) ≡ Some (y, rest)
    second = bye (32 ∷ (inner_text y ++ rest)) rest (unblanked_blank (inner_text y ++ rest) ∙ w) h.stops

    by : AsProduct f (inner_text y ++ rest) ⊎ (AsSum f (inner_text y ++ rest) ⊎ AsComparison f (inner_text y ++ rest)) → whole_at operand text ≡ Some (call f (x ∷ y ∷ []), rest)
    by (inl p) =
        alone (operator_at level.Comparison) (chained (operator_at level.Sum) (chained (operator_at level.Product) operand)) text rest (call f (x ∷ y ∷ []))
        (
        alone (operator_at level.Sum) (chained (operator_at level.Product) operand) text rest (call f (x ∷ y ∷ []))
        (both (operator_at level.Product) operand text (spaced f (inner_text y ++ rest)) (32 ∷ (inner_text y ++ rest)) rest x y f first p.product second h.product (omega arith))
        h.sum
        )
        h.comparison
    by (inr (inl s)) =
        let product = operator_at level.Product in
        alone (operator_at level.Comparison) (chained (operator_at level.Sum) (chained product operand)) text rest (call f (x ∷ y ∷ []))
        (
        both (operator_at level.Sum) (chained product operand) text (spaced f (inner_text y ++ rest)) (32 ∷ (inner_text y ++ rest)) rest x y f
        (alone product operand text (spaced f (inner_text y ++ rest)) x first s.product) s.sum (alone product operand (32 ∷ (inner_text y ++ rest)) rest y second h.product) h.sum (omega arith)
        )
        h.comparison
    by (inr (inr s)) =
        let product = operator_at level.Product in
        let sum = operator_at level.Sum in
        both (operator_at level.Comparison) (chained sum (chained product operand)) text (spaced f (inner_text y ++ rest)) (32 ∷ (inner_text y ++ rest)) rest x y f
        (alone sum (chained product operand) text (spaced f (inner_text y ++ rest)) x (alone product operand text (spaced f (inner_text y ++ rest)) x first s.product) s.sum)
        s.comparison
        (alone sum (chained product operand) (32 ∷ (inner_text y ++ rest)) rest y (alone product operand (32 ∷ (inner_text y ++ rest)) rest y second h.product) h.sum)
        h.comparison (omega arith)

-- ---- operands
at_suc : (s : Variables) (m : ℕ) (text u : List ℕ) (o : Option (Expr × List ℕ)) → unblanked text ≡ u → operand_in s (operand_at s m) u ≡ o → operand_at s (suc m) text ≡ o
unfolding operand_at
at_suc s m text u o e h = ap (operand_in s (operand_at s m)) e ∙ h

abbrev by_function : Variables → Read Expr → List ℕ → Option (List ℕ × List ℕ) → Option (Expr × List ℕ)
by_function s operand text o = option_map_or (λ n. function_at s (whole_at operand) n.0 n.1) o (about_variable_at s text)

abbrev by_bracket : Variables → Read Expr → List ℕ → Option (List ℕ) → Option (Expr × List ℕ)
by_bracket s operand text o = where_marked o (closed (codes ")") (whole_at operand)) (by_function s operand text (opened_at text))

abbrev by_prefix : Variables → Read Expr → List ℕ → Option (Fun × List ℕ) → Option (Expr × List ℕ)
by_prefix s operand text o = option_map_or (λ f. prefixed_at operand f.0 f.1) o (by_bracket s operand text (after (codes "(") text))

abbrev by_number : Variables → Read Expr → List ℕ → Bool → Option (Expr × List ℕ)
by_number s operand text b = if b then literal_at text else by_prefix s operand text (symbol_at prefixes text)

in_number : (s : Variables) (operand : Read Expr) (text : List ℕ) → begins_number text ≡ true → operand_in s operand text ≡ literal_at text
unfolding operand_in
in_number s operand text e = ap (by_number s operand text) e

-- what begins neither like a number nor like an operator
pub record Plain (text : List ℕ) : Type 0 where
  number : begins_number text ≡ false
  operator : symbol_at prefixes text ≡ None

in_prefix : (s : Variables) (operand : Read Expr) (text r : List ℕ) (f : Fun) → begins_number text ≡ false → symbol_at prefixes text ≡ Some (f, r) → operand_in s operand text ≡ prefixed_at operand f r
unfolding operand_in
in_prefix s operand text r f e h = ap (by_number s operand text) e ∙ ap (by_prefix s operand text) h

in_bracket : (s : Variables) (operand : Read Expr) (text r : List ℕ) → Plain text → after (codes "(") text ≡ Some r → operand_in s operand text ≡ closed (codes ")") (whole_at operand) r
unfolding operand_in
in_bracket s operand text r p h = ap (by_number s operand text) p.number ∙ ap (by_prefix s operand text) p.operator ∙ ap (by_bracket s operand text) h

in_function : (s : Variables) (operand : Read Expr) (text name r : List ℕ) → Plain text → after (codes "(") text ≡ None → opened_at text ≡ Some (name, r) → operand_in s operand text ≡ function_at s (whole_at operand) name r
unfolding operand_in
in_function s operand text name r p h g = ap (by_number s operand text) p.number ∙ ap (by_prefix s operand text) p.operator ∙ ap (by_bracket s operand text) h ∙ ap (by_function s operand text) g

in_variable : (s : Variables) (operand : Read Expr) (text : List ℕ) → Plain text → after (codes "(") text ≡ None → opened_at text ≡ None → operand_in s operand text ≡ about_variable_at s text
unfolding operand_in
in_variable s operand text p h g = ap (by_number s operand text) p.number ∙ ap (by_prefix s operand text) p.operator ∙ ap (by_bracket s operand text) h ∙ ap (by_function s operand text) g

-- ---- names that stand before a bracket or not
opening : (text name t : List ℕ) (o : Option (List ℕ)) → name_at text ≡ Some (name, t) → mark_at (codes "(") t ≡ o → opened_at text ≡ (o >>= λ r. Some (name, r))
unfolding opened_at closed
opening text name t o e h = ap (λ p. p >>= λ x. mark_at (codes "(") x.1 >>= λ r. Some (x.0, r)) e ∙ ap (λ p. p >>= λ r. Some (name, r)) h

closed_back : {A : Type 0} (read : Read A) (text rest : List ℕ) (x : A) → read text ≡ Some (x, 41 ∷ rest) → closed (codes ")") read text ≡ Some (x, rest)
unfolding closed mark_at unblanked after
closed_back read text rest x e = ap (λ p. p >>= λ y. mark_at (codes ")") y.1 >>= λ r. Some (y.0, r)) e

comma_back : {A : Type 0} (read : Read A) (text rest : List ℕ) (x : A) → read text ≡ Some (x, 44 ∷ rest) → closed (codes ",") read text ≡ Some (x, rest)
unfolding closed mark_at unblanked after
comma_back read text rest x e = ap (λ p. p >>= λ y. mark_at (codes ",") y.1 >>= λ r. Some (y.0, r)) e

pub bracket_ends : (rest : List ℕ) → Ends (41 ∷ rest)
unfolding begins_word mark_at unblanked after operator_at symbol_at and_at first_of products sums comparisons symbol is_word_byte
bracket_ends rest = record { stops = record { word = refl; dot = refl; bracket = refl }; product = refl; sum = refl; comparison = refl }

pub comma_ends : (rest : List ℕ) → Ends (44 ∷ rest)
unfolding begins_word mark_at unblanked after operator_at symbol_at and_at first_of products sums comparisons symbol is_word_byte
comma_ends rest = record { stops = record { word = refl; dot = refl; bracket = refl }; product = refl; sum = refl; comparison = refl }

-- ---- functions
abbrev pub is_function : Fun → Bool
is_function fun.IsPowerOfTwo = true
is_function fun.Log2 = true
is_function fun.Ult = true
is_function fun.Ule = true
is_function fun.Zext8 = true
is_function fun.Zext16 = true
is_function fun.Zext32 = true
is_function fun.Is12 = true
is_function fun.ArmImm = true
is_function fun.Size = true
is_function fun.IsBool = true
is_function _ = false

pub record FunctionText (f : Fun) : Type 0 where
  pub solid : (t : List ℕ) → unblanked (symbol f ++ t) ≡ symbol f ++ t
  pub plain : (t : List ℕ) → Plain (symbol f ++ t)
  pub bracket : (t : List ℕ) → after (codes "(") (symbol f ++ t) ≡ None
  pub words : AllByRecursion (λ c. is_word_byte c ≡ true) (symbol f)
  pub name : begins_name (symbol f) ≡ true
  pub found : function_named (symbol f) ≡ Some f
  pub not_prefix : is_prefix f ≡ false
  pub not_infix : is_infix f ≡ false
  pub not_uses : is_uses f ≡ false

pub function_text_of : (f : Fun) → is_function f ≡ true → FunctionText f
unfolding symbol unblanked after begins_number sign_at symbol_at first_of prefixes is_word_byte begins_name function_named functions is_prefix is_infix is_uses
function_text_of fun.IsPowerOfTwo h = record { solid = λ t. refl; plain = λ t. record { number = refl; operator = refl }; bracket = λ t. refl; words = (refl, (refl, (refl, (refl, (refl, (refl, (refl, (refl, (refl, (refl, (refl, (refl, tt)))))))))))); name = refl; found = refl; not_prefix = refl; not_infix = refl; not_uses = refl }
function_text_of fun.Log2 h = record { solid = λ t. refl; plain = λ t. record { number = refl; operator = refl }; bracket = λ t. refl; words = (refl, (refl, (refl, (refl, tt)))); name = refl; found = refl; not_prefix = refl; not_infix = refl; not_uses = refl }
function_text_of fun.Ult h = record { solid = λ t. refl; plain = λ t. record { number = refl; operator = refl }; bracket = λ t. refl; words = (refl, (refl, (refl, tt))); name = refl; found = refl; not_prefix = refl; not_infix = refl; not_uses = refl }
function_text_of fun.Ule h = record { solid = λ t. refl; plain = λ t. record { number = refl; operator = refl }; bracket = λ t. refl; words = (refl, (refl, (refl, tt))); name = refl; found = refl; not_prefix = refl; not_infix = refl; not_uses = refl }
function_text_of fun.Zext8 h = record { solid = λ t. refl; plain = λ t. record { number = refl; operator = refl }; bracket = λ t. refl; words = (refl, (refl, (refl, (refl, (refl, tt))))); name = refl; found = refl; not_prefix = refl; not_infix = refl; not_uses = refl }
function_text_of fun.Zext16 h = record { solid = λ t. refl; plain = λ t. record { number = refl; operator = refl }; bracket = λ t. refl; words = (refl, (refl, (refl, (refl, (refl, (refl, tt)))))); name = refl; found = refl; not_prefix = refl; not_infix = refl; not_uses = refl }
function_text_of fun.Zext32 h = record { solid = λ t. refl; plain = λ t. record { number = refl; operator = refl }; bracket = λ t. refl; words = (refl, (refl, (refl, (refl, (refl, (refl, tt)))))); name = refl; found = refl; not_prefix = refl; not_infix = refl; not_uses = refl }
function_text_of fun.Is12 h = record { solid = λ t. refl; plain = λ t. record { number = refl; operator = refl }; bracket = λ t. refl; words = (refl, (refl, (refl, (refl, tt)))); name = refl; found = refl; not_prefix = refl; not_infix = refl; not_uses = refl }
function_text_of fun.ArmImm h = record { solid = λ t. refl; plain = λ t. record { number = refl; operator = refl }; bracket = λ t. refl; words = (refl, (refl, (refl, (refl, (refl, (refl, tt)))))); name = refl; found = refl; not_prefix = refl; not_infix = refl; not_uses = refl }
function_text_of fun.Size h = record { solid = λ t. refl; plain = λ t. record { number = refl; operator = refl }; bracket = λ t. refl; words = (refl, (refl, (refl, (refl, tt)))); name = refl; found = refl; not_prefix = refl; not_infix = refl; not_uses = refl }
function_text_of fun.IsBool h = record { solid = λ t. refl; plain = λ t. record { number = refl; operator = refl }; bracket = λ t. refl; words = (refl, (refl, (refl, (refl, (refl, (refl, tt)))))); name = refl; found = refl; not_prefix = refl; not_infix = refl; not_uses = refl }
function_text_of _ h = absurd (let e : false ≡ true = h in cc)

-- ---- the texts of expressions
pub number_text : (k : ℤ) → inner_text (number k) ≡ signed_decimal k
unfolding opened
number_text k = refl

pub held_text : (i : ℕ) → inner_text (held i) ≡ variable i
unfolding opened
held_text i = refl

inner_of_call : (f : Fun) (xs : List Expr) → inner_text (call f xs) ≡ in_brackets (operates f (length xs)) (call_text f (map inner_text xs))
inner_of_call f xs = ap (λ b. in_brackets b (expr_text (call f xs))) (operation_of_call f xs) ∙ ap (in_brackets (operates f (length xs))) (text_of_call f xs)

-- a use of an operator before its operand
pub before_text : (f : Fun) (x : Expr) → is_prefix f ≡ true → expr_text (call f (x ∷ [])) ≡ symbol f ++ (32 ∷ inner_text x)
unfolding one_text
before_text f x h = text_of_call f (x ∷ []) ∙ ap (λ b. if b then symbol f ++ (32 ∷ inner_text x) else (if is_uses f then inner_text x ++ codes ".Uses" else symbol f ++ (codes "(" ++ (inner_text x ++ codes ")")))) h

pub before_inner : (f : Fun) (x : Expr) → is_prefix f ≡ true → inner_text (call f (x ∷ [])) ≡ 40 ∷ (expr_text (call f (x ∷ [])) ++ (41 ∷ []))
unfolding operates
before_inner f x h = ap (λ b. in_brackets b (expr_text (call f (x ∷ [])))) (operation_of_call f (x ∷ []) ∙ h)

pub between_text : (f : Fun) (x y : Expr) → is_infix f ≡ true → expr_text (call f (x ∷ y ∷ [])) ≡ inner_text x ++ spaced f (inner_text y)
unfolding two_text
between_text f x y h = text_of_call f (x ∷ y ∷ []) ∙ ap (λ b. if b then inner_text x ++ spaced f (inner_text y) else function_text f (inner_text x ∷ inner_text y ∷ [])) h

pub between_inner : (f : Fun) (x y : Expr) → is_infix f ≡ true → inner_text (call f (x ∷ y ∷ [])) ≡ 40 ∷ (expr_text (call f (x ∷ y ∷ [])) ++ (41 ∷ []))
unfolding operates
between_inner f x y h = ap (λ b. in_brackets b (expr_text (call f (x ∷ y ∷ [])))) (operation_of_call f (x ∷ y ∷ []) ∙ h)

pub uses_text : (i : ℕ) → inner_text (call fun.Uses (held i ∷ [])) ≡ variable i ++ codes ".Uses"
unfolding operates is_prefix one_text is_uses
uses_text i = inner_of_call fun.Uses (held i ∷ []) ∙ ap (λ t. t ++ codes ".Uses") (held_text i)

pub one_function_text : (f : Fun) (x : Expr) → is_prefix f ≡ false → is_uses f ≡ false → inner_text (call f (x ∷ [])) ≡ symbol f ++ (40 ∷ (inner_text x ++ (41 ∷ [])))
unfolding operates one_text
one_function_text f x p u =
    inner_of_call f (x ∷ [])
    ∙ ap (λ b. in_brackets b (if b then symbol f ++ (32 ∷ inner_text x) else (if is_uses f then inner_text x ++ codes ".Uses" else symbol f ++ (40 ∷ (inner_text x ++ (41 ∷ [])))))) p
    ∙ ap (λ b. if b then inner_text x ++ codes ".Uses" else symbol f ++ (40 ∷ (inner_text x ++ (41 ∷ [])))) u

pub two_function_text : (f : Fun) (x y : Expr) → is_infix f ≡ false → inner_text (call f (x ∷ y ∷ [])) ≡ symbol f ++ (40 ∷ ((inner_text x ++ (44 ∷ inner_text y ++ [])) ++ (41 ∷ [])))
unfolding operates two_text function_text joined separator
two_function_text f x y p =
    inner_of_call f (x ∷ y ∷ [])
    ∙ ap (λ b. in_brackets b (if b then inner_text x ++ spaced f (inner_text y) else symbol f ++ (40 ∷ ((inner_text x ++ (44 ∷ inner_text y ++ [])) ++ (41 ∷ []))))) p

-- ---- what the printer writes and the reader gives
pub record Named (s : Variables) (i : ℕ) : Type 0 where
  pub found : in_scope s (variable i) ≡ Some i
  pub small : i < 2 ^ 64

-- expressions as the reader gives them, over these variables
pub data Written (s : Variables) : Expr → Type 0 where
  a_number : (k : ℤ) → IsSmall k → Written s (number k)
  a_variable : (i : ℕ) → Named s i → Written s (held i)
  uses_of : (i : ℕ) → Named s i → Written s (call fun.Uses (held i ∷ []))
  of_type : (f : Fun) (i : ℕ) → is_function f ≡ true → operands_of f ≡ operands.Type → Named s i → Written s (call f (held i ∷ []))
  before : (f : Fun) (x : Expr) → is_prefix f ≡ true → Written s x → Written s (call f (x ∷ []))
  between : (f : Fun) (x y : Expr) → is_infix f ≡ true → Written s x → Written s y → Written s (call f (x ∷ y ∷ []))
  of_one : (f : Fun) (x : Expr) → is_function f ≡ true → operands_of f ≡ operands.One → Written s x → Written s (call f (x ∷ []))
  of_two : (f : Fun) (x y : Expr) → is_function f ≡ true → operands_of f ≡ operands.Two → Written s x → Written s y → Written s (call f (x ∷ y ∷ []))

-- ---- operands that are read back
-- the text of an operand, which no blank begins
abbrev Solid : Expr → Type 0
Solid x = (t : List ℕ) → unblanked (inner_text x ++ t) ≡ inner_text x ++ t

variable_solid : (i : ℕ) (t : List ℕ) → unblanked (variable i ++ t) ≡ variable i ++ t
unfolding variable unblanked
variable_solid i t = refl

variable_plain : (i : ℕ) (t : List ℕ) → Plain (variable i ++ t)
unfolding variable begins_number sign_at symbol_at first_of prefixes after symbol
variable_plain i t = record { number = refl; operator = refl }

variable_bracket : (i : ℕ) (t : List ℕ) → after (codes "(") (variable i ++ t) ≡ None
unfolding variable after
variable_bracket i t = refl

bracket_solid : (t : List ℕ) → unblanked (40 ∷ t) ≡ 40 ∷ t
unfolding unblanked
bracket_solid t = refl

bracket_plain : (t : List ℕ) → Plain (40 ∷ t)
unfolding begins_number sign_at symbol_at first_of prefixes after symbol
bracket_plain t = record { number = refl; operator = refl }

after_bracket : (t : List ℕ) → after (codes "(") (40 ∷ t) ≡ Some t
unfolding after
after_bracket t = refl

mark_bracket : (t : List ℕ) → mark_at (codes "(") (40 ∷ t) ≡ Some t
unfolding mark_at unblanked after
mark_bracket t = refl

with_text : (x : Expr) (u : List ℕ) → inner_text x ≡ u → ((t : List ℕ) → unblanked (u ++ t) ≡ u ++ t) → Solid x
with_text x u e h t = ap (λ v. unblanked (v ++ t)) e ∙ h t ∙ ap (λ v. v ++ t) (sym e)

front_solid : (a b : List ℕ) → ((t : List ℕ) → unblanked (a ++ t) ≡ a ++ t) → (t : List ℕ) → unblanked ((a ++ b) ++ t) ≡ (a ++ b) ++ t
front_solid a b h t = ap unblanked (append_assoc a b t) ∙ h (b ++ t) ∙ sym (append_assoc a b t)

-- a number
back_number : (s : Variables) (m : ℕ) (k : ℤ) → IsSmall k → Back (operand_at s (suc m)) (number k)
unfolding literal_at
back_number s m k h text rest u stops =
    let n = number_back k rest h stops.word in
    at_suc s m text (signed_decimal k ++ rest) (Some (number k, rest)) (u ∙ ap (λ t. t ++ rest) (number_text k))
    (in_number s (operand_at s m) (signed_decimal k ++ rest) n.begins ∙ read n.read)
  where
    read : number_at (signed_decimal k ++ rest) ≡ Some (k, rest) → literal_at (signed_decimal k ++ rest) ≡ Some (number k, rest)
    read e = ap (λ o. o >>= λ n. Some (number n.0, n.1)) e

-- a variable and what stands behind it
abbrev about : Variables → Option (List ℕ × List ℕ) → Option (Expr × List ℕ)
about s o = o >>= λ n. in_scope s n.0 >>= λ i. where_marked (uses_at n.1) (λ r. Some (call fun.Uses (held i ∷ []), r)) (Some (held i, n.1))

about_back : (s : Variables) (i : ℕ) (text t : List ℕ) (o : Option (List ℕ)) → Named s i → variable_at text ≡ Some (variable i, t) → uses_at t ≡ o →
    about_variable_at s text ≡ where_marked o (λ r. Some (call fun.Uses (held i ∷ []), r)) (Some (held i, t))
unfolding about_variable_at
about_back s i text t o n e h =
    ap (about s) e
    ∙ ap (λ p. p >>= λ j. where_marked (uses_at t) (λ r. Some (call fun.Uses (held j ∷ []), r)) (Some (held j, t))) n.found
    ∙ ap (λ p. where_marked p (λ r. Some (call fun.Uses (held i ∷ []), r)) (Some (held i, t))) h

variable_name_back : (i : ℕ) (t : List ℕ) → i < 2 ^ 64 → begins_word t ≡ false → name_at (variable i ++ t) ≡ Some (variable i, t)
variable_name_back i t h w = name_back (variable i ++ t) (variable i) t (variable_solid i t) (variable_word i h) (variable_name i) w

no_uses : (t : List ℕ) → after (codes ".") t ≡ None → uses_at t ≡ None
unfolding uses_at
no_uses t e = ap (λ o. o >>= λ r. if bytes_eq (run_at r).0 (codes "Uses") then Some (run_at r).1 else None) e

back_variable : (s : Variables) (m i : ℕ) → Named s i → Back (operand_at s (suc m)) (held i)
back_variable s m i n text rest u stops =
    let t = variable i ++ rest in
    at_suc s m text t (Some (held i, rest)) (u ∙ ap (λ v. v ++ rest) (held_text i))
    (
    in_variable s (operand_at s m) t (variable_plain i rest) (variable_bracket i rest) (opening t (variable i) rest None (variable_name_back i rest n.small stops.word) stops.bracket)
    ∙ about_back s i t rest None n (variable_back i t rest n.small (variable_solid i rest) stops.word) (no_uses rest stops.dot)
    )

uses_word : AllByRecursion (λ c. is_word_byte c ≡ true) (codes "Uses")
unfolding is_word_byte
uses_word = (refl, (refl, (refl, (refl, tt))))

dot_uses : (rest : List ℕ) → begins_word rest ≡ false → uses_at (codes ".Uses" ++ rest) ≡ Some rest
unfolding uses_at after
dot_uses rest w = ap (λ p. if bytes_eq p.0 (codes "Uses") then Some p.1 else None) (word_back (codes "Uses") rest uses_word w)

dot_no_word : (t : List ℕ) → begins_word (46 ∷ t) ≡ false
unfolding begins_word is_word_byte
dot_no_word t = refl

dot_no_bracket : (t : List ℕ) → mark_at (codes "(") (46 ∷ t) ≡ None
unfolding mark_at unblanked after
dot_no_bracket t = refl

back_uses : (s : Variables) (m i : ℕ) → Named s i → Back (operand_at s (suc m)) (call fun.Uses (held i ∷ []))
back_uses s m i n text rest u stops =
    let r = codes ".Uses" ++ rest in
    let t = variable i ++ r in
    at_suc s m text t (Some (call fun.Uses (held i ∷ []), rest)) (u ∙ ap (λ v. v ++ rest) (uses_text i) ∙ append_assoc (variable i) (codes ".Uses") rest)
    (
    in_variable s (operand_at s m) t (variable_plain i r) (variable_bracket i r) (opening t (variable i) r None (variable_name_back i r n.small (dot_no_word (codes "Uses" ++ rest))) (dot_no_bracket (codes "Uses" ++ rest)))
    ∙ about_back s i t r (Some rest) n (variable_back i t r n.small (variable_solid i r) (dot_no_word (codes "Uses" ++ rest))) (dot_uses rest stops.word)
    )

-- a function, up to its bracket
bracket_no_word : (t : List ℕ) → begins_word (40 ∷ t) ≡ false
unfolding begins_word is_word_byte
bracket_no_word t = refl

function_opens : (s : Variables) (operand : Read Expr) (f : Fun) (t : List ℕ) → is_function f ≡ true → operand_in s operand (symbol f ++ (40 ∷ t)) ≡ given_at s (whole_at operand) (operands_of f) f t
unfolding function_at
function_opens s operand f t h =
    let e = function_text_of f h in
    let text = symbol f ++ (40 ∷ t) in
    in_function s operand text (symbol f) t (e.plain (40 ∷ t)) (e.bracket (40 ∷ t)) (opening text (symbol f) (40 ∷ t) (Some t) (name_back text (symbol f) (40 ∷ t) (e.solid (40 ∷ t)) e.words e.name (bracket_no_word t)) (mark_bracket t))
    ∙ ap (λ o. o >>= λ g. given_at s (whole_at operand) (operands_of g) g t) e.found

closing_no_word : (t : List ℕ) → begins_word (41 ∷ t) ≡ false
unfolding begins_word is_word_byte
closing_no_word t = refl

type_given : (s : Variables) (f : Fun) (i : ℕ) (rest : List ℕ) → Named s i → of_type_at s f (variable i ++ (41 ∷ rest)) ≡ Some (call f (held i ∷ []), rest)
unfolding of_type_at
type_given s f i rest n =
    ap (λ o. o >>= λ p. in_scope s p.0 >>= λ j. Some (call f (held j ∷ []), p.1))
    (closed_back variable_at (variable i ++ (41 ∷ rest)) rest (variable i) (variable_back i (variable i ++ (41 ∷ rest)) (41 ∷ rest) n.small (variable_solid i (41 ∷ rest)) (closing_no_word rest)))
    ∙ ap (λ o. o >>= λ j. Some (call f (held j ∷ []), rest)) n.found

one_around : (a b x rest : List ℕ) → (a ++ (40 ∷ (x ++ (41 ∷ [])))) ++ rest ≡ a ++ (40 ∷ (x ++ (41 ∷ rest)))
one_around a b x rest = append_assoc a (40 ∷ (x ++ (41 ∷ []))) rest ∙ ap (λ t. a ++ (40 ∷ t)) (append_assoc x (41 ∷ []) rest)

back_type : (s : Variables) (m : ℕ) (f : Fun) (i : ℕ) → is_function f ≡ true → operands_of f ≡ operands.Type → Named s i → Back (operand_at s (suc m)) (call f (held i ∷ []))
back_type s m f i h o n text rest u stops =
    let e = function_text_of f h in
    let t = symbol f ++ (40 ∷ (variable i ++ (41 ∷ rest))) in
    at_suc s m text t (Some (call f (held i ∷ []), rest))
    (u ∙ ap (λ v. v ++ rest) (one_function_text f (held i) e.not_prefix e.not_uses ∙ ap (λ v. symbol f ++ (40 ∷ (v ++ (41 ∷ [])))) (held_text i)) ∙ one_around (symbol f) [] (variable i) rest)
    (function_opens s (operand_at s m) f (variable i ++ (41 ∷ rest)) h ∙ ap (λ p. given_at s (whole_at (operand_at s m)) p f (variable i ++ (41 ∷ rest))) o ∙ type_given s f i rest n)

back_one : (s : Variables) (m : ℕ) (f : Fun) (x : Expr) → is_function f ≡ true → operands_of f ≡ operands.One → Solid x → Back (operand_at s m) x → Back (operand_at s (suc m)) (call f (x ∷ []))
unfolding one_at
back_one s m f x h o solid bx text rest u stops =
    let e = function_text_of f h in
    let r = inner_text x ++ (41 ∷ rest) in
    at_suc s m text (symbol f ++ (40 ∷ r)) (Some (call f (x ∷ []), rest))
    (u ∙ ap (λ v. v ++ rest) (one_function_text f x e.not_prefix e.not_uses) ∙ one_around (symbol f) [] (inner_text x) rest)
    (
    function_opens s (operand_at s m) f r h
    ∙ ap (λ p. given_at s (whole_at (operand_at s m)) p f r) o
    ∙ given (closed_back (whole_at (operand_at s m)) r rest x (whole_alone (operand_at s m) r (41 ∷ rest) x (bx r (41 ∷ rest) (solid (41 ∷ rest)) (bracket_ends rest).stops) (bracket_ends rest)))
    )
  where
    given : closed (codes ")") (whole_at (operand_at s m)) (inner_text x ++ (41 ∷ rest)) ≡ Some (x, rest) → one_at (whole_at (operand_at s m)) f (inner_text x ++ (41 ∷ rest)) ≡ Some (call f (x ∷ []), rest)
    given e = ap (λ p. p >>= λ y. Some (call f (y.0 ∷ []), y.1)) e

two_around : (a x y rest : List ℕ) → (a ++ (40 ∷ ((x ++ (44 ∷ y ++ [])) ++ (41 ∷ [])))) ++ rest ≡ a ++ (40 ∷ (x ++ (44 ∷ (y ++ (41 ∷ rest)))))
two_around a x y rest = simp append_assoc

back_two : (s : Variables) (m : ℕ) (f : Fun) (x y : Expr) → is_function f ≡ true → operands_of f ≡ operands.Two → Solid x → Solid y → Back (operand_at s m) x → Back (operand_at s m) y → Back (operand_at s (suc m)) (call f (x ∷ y ∷ []))
unfolding two_at
back_two s m f x y h o sx sy bx bye text rest u stops =
    let e = function_text_of f h in
    let q = inner_text y ++ (41 ∷ rest) in
    let r = inner_text x ++ (44 ∷ q) in
    let whole = whole_at (operand_at s m) in
    at_suc s m text (symbol f ++ (40 ∷ r)) (Some (call f (x ∷ y ∷ []), rest))
    (u ∙ ap (λ v. v ++ rest) (two_function_text f x y e.not_infix) ∙ two_around (symbol f) (inner_text x) (inner_text y) rest)
    (
    function_opens s (operand_at s m) f r h
    ∙ ap (λ p. given_at s whole p f r) o
    ∙ given (comma_back whole r q x (whole_alone (operand_at s m) r (44 ∷ q) x (bx r (44 ∷ q) (sx (44 ∷ q)) (comma_ends q).stops) (comma_ends q)))
    (closed_back whole q rest y (whole_alone (operand_at s m) q (41 ∷ rest) y (bye q (41 ∷ rest) (sy (41 ∷ rest)) (bracket_ends rest).stops) (bracket_ends rest)))
    )
  where
    given : closed (codes ",") (whole_at (operand_at s m)) (inner_text x ++ (44 ∷ (inner_text y ++ (41 ∷ rest)))) ≡ Some (x, inner_text y ++ (41 ∷ rest))
        → closed (codes ")") (whole_at (operand_at s m)) (inner_text y ++ (41 ∷ rest)) ≡ Some (y, rest)
        → two_at (whole_at (operand_at s m)) f (inner_text x ++ (44 ∷ (inner_text y ++ (41 ∷ rest)))) ≡ Some (call f (x ∷ y ∷ []), rest)
    given e d =
        ap (λ p. p >>= λ v. closed (codes ")") (whole_at (operand_at s m)) v.1 >>= λ w. Some (call f (v.0 ∷ w.0 ∷ []), w.1)) e
        ∙ ap (λ p. p >>= λ w. Some (call f (x ∷ w.0 ∷ []), w.1)) d

-- a use of an operator before its operand
record PrefixText (f : Fun) (t : List ℕ) : Type 0 where
  solid : unblanked (symbol f ++ (32 ∷ t)) ≡ symbol f ++ (32 ∷ t)
  number : begins_number (symbol f ++ (32 ∷ t)) ≡ false
  operator : symbol_at prefixes (symbol f ++ (32 ∷ t)) ≡ Some (f, 32 ∷ t)

prefix_text : (f : Fun) (t : List ℕ) → is_prefix f ≡ true → PrefixText f t
unfolding symbol unblanked after begins_number sign_at symbol_at first_of prefixes is_prefix
prefix_text fun.Neg t h = record { solid = refl; number = refl; operator = refl }
prefix_text fun.Com t h = record { solid = refl; number = refl; operator = refl }
prefix_text _ t h = absurd (let e : false ≡ true = h in cc)

whole_before : (s : Variables) (m : ℕ) (f : Fun) (x : Expr) (text rest : List ℕ) → is_prefix f ≡ true → Solid x → Back (operand_at s m) x → unblanked text ≡ symbol f ++ (32 ∷ (inner_text x ++ rest)) → Ends rest → whole_at (operand_at s (suc m)) text ≡ Some (call f (x ∷ []), rest)
unfolding prefixed_at
whole_before s m f x text rest h solid bx u ends =
    let p = prefix_text f (inner_text x ++ rest) h in
    whole_alone (operand_at s (suc m)) text rest (call f (x ∷ []))
    (
    at_suc s m text (symbol f ++ (32 ∷ (inner_text x ++ rest))) (Some (call f (x ∷ []), rest)) u
    (in_prefix s (operand_at s m) (symbol f ++ (32 ∷ (inner_text x ++ rest))) (32 ∷ (inner_text x ++ rest)) f p.number p.operator ∙ read (bx (32 ∷ (inner_text x ++ rest)) rest (unblanked_blank (inner_text x ++ rest) ∙ solid rest) ends.stops))
    )
    ends
  where
    read : operand_at s m (32 ∷ (inner_text x ++ rest)) ≡ Some (x, rest) → prefixed_at (operand_at s m) f (32 ∷ (inner_text x ++ rest)) ≡ Some (call f (x ∷ []), rest)
    read e = ap (λ o. o >>= λ y. Some (call f (y.0 ∷ []), y.1)) e

-- an expression in brackets
back_bracketed : (s : Variables) (m : ℕ) (x : Expr) → inner_text x ≡ 40 ∷ (expr_text x ++ (41 ∷ [])) → ((rest : List ℕ) → Ends rest → whole_at (operand_at s m) (expr_text x ++ rest) ≡ Some (x, rest)) → Back (operand_at s (suc m)) x
back_bracketed s m x e w text rest u stops =
    let r = expr_text x ++ (41 ∷ rest) in
    at_suc s m text (40 ∷ r) (Some (x, rest)) (u ∙ ap (λ v. v ++ rest) e ∙ ap (λ v. 40 ∷ v) (append_assoc (expr_text x) (41 ∷ []) rest))
    (in_bracket s (operand_at s m) (40 ∷ r) r (bracket_plain r) (after_bracket r) ∙ closed_back (whole_at (operand_at s m)) r rest x (w (41 ∷ rest) (bracket_ends rest)))

back_before : (s : Variables) (m : ℕ) (f : Fun) (x : Expr) → is_prefix f ≡ true → Solid x → Back (operand_at s m) x → Back (operand_at s (suc (suc m))) (call f (x ∷ []))
back_before s m f x h solid bx =
    back_bracketed s (suc m) (call f (x ∷ [])) (before_inner f x h)
    (
    λ rest ends.
    let p = prefix_text f (inner_text x ++ rest) h in
    let t : expr_text (call f (x ∷ [])) ++ rest ≡ symbol f ++ (32 ∷ (inner_text x ++ rest)) = ap (λ v. v ++ rest) (before_text f x h) ∙ append_assoc (symbol f) (32 ∷ inner_text x) rest in
    whole_before s m f x (expr_text (call f (x ∷ [])) ++ rest) rest h solid bx (ap unblanked t ∙ p.solid) ends
    )

back_between : (s : Variables) (m : ℕ) (f : Fun) (x y : Expr) → is_infix f ≡ true → Solid x → Solid y → Back (operand_at s m) x → Back (operand_at s m) y → Back (operand_at s (suc m)) (call f (x ∷ y ∷ []))
back_between s m f x y h sx sy bx bye =
    back_bracketed s m (call f (x ∷ y ∷ [])) (between_inner f x y h)
    (
    λ rest ends.
    let t : expr_text (call f (x ∷ y ∷ [])) ++ rest ≡ inner_text x ++ spaced f (inner_text y ++ rest) =
    ap (λ v. v ++ rest) (between_text f x y h) ∙ append_assoc (inner_text x) (spaced f (inner_text y)) rest ∙ ap (λ v. inner_text x ++ (32 ∷ v)) (append_assoc (symbol f) (32 ∷ inner_text y) rest) in
    whole_between (operand_at s m) f x y (expr_text (call f (x ∷ y ∷ [])) ++ rest) rest h bx bye (ap unblanked t ∙ sx (spaced f (inner_text y ++ rest))) (sy rest) ends
    )

-- ---- all expressions
solid_of : (s : Variables) (x : Expr) → Written s x → Solid x
solid_of s x (a_number k h) = with_text (number k) (signed_decimal k) (number_text k) (number_solid k h)
solid_of s x (a_variable i n) = with_text (held i) (variable i) (held_text i) (variable_solid i)
solid_of s x (uses_of i n) = with_text (call fun.Uses (held i ∷ [])) (variable i ++ codes ".Uses") (uses_text i) (front_solid (variable i) (codes ".Uses") (variable_solid i))
solid_of s x (of_type f i h o n) =
    let e = function_text_of f h in
    with_text (call f (held i ∷ [])) (symbol f ++ (40 ∷ (inner_text (held i) ++ (41 ∷ [])))) (one_function_text f (held i) e.not_prefix e.not_uses) (front_solid (symbol f) (40 ∷ (inner_text (held i) ++ (41 ∷ []))) e.solid)
solid_of s x (before f y h w) = with_text (call f (y ∷ [])) (40 ∷ (expr_text (call f (y ∷ [])) ++ (41 ∷ []))) (before_inner f y h) (λ t. bracket_solid ((expr_text (call f (y ∷ [])) ++ (41 ∷ [])) ++ t))
solid_of s x (between f y z h w v) = with_text (call f (y ∷ z ∷ [])) (40 ∷ (expr_text (call f (y ∷ z ∷ [])) ++ (41 ∷ []))) (between_inner f y z h) (λ t. bracket_solid ((expr_text (call f (y ∷ z ∷ [])) ++ (41 ∷ [])) ++ t))
solid_of s x (of_one f y h o w) =
    let e = function_text_of f h in
    with_text (call f (y ∷ [])) (symbol f ++ (40 ∷ (inner_text y ++ (41 ∷ [])))) (one_function_text f y e.not_prefix e.not_uses) (front_solid (symbol f) (40 ∷ (inner_text y ++ (41 ∷ []))) e.solid)
solid_of s x (of_two f y z h o w v) =
    let e = function_text_of f h in
    with_text (call f (y ∷ z ∷ [])) (symbol f ++ (40 ∷ ((inner_text y ++ (44 ∷ inner_text z ++ [])) ++ (41 ∷ [])))) (two_function_text f y z e.not_infix) (front_solid (symbol f) (40 ∷ ((inner_text y ++ (44 ∷ inner_text z ++ [])) ++ (41 ∷ []))) e.solid)

-- the text of an expression is longer than those of its operands
long_around : (a b : List ℕ) (m : ℕ) (t : List ℕ) → t ≡ a ++ (40 ∷ (b ++ (41 ∷ []))) → length t ≤ m → length b + 2 ≤ m
long_around a b m t e h = omega (arith, simp (length-append) at (ap length e))

long_in_two : (a b c : List ℕ) (m : ℕ) (t : List ℕ) → t ≡ a ++ (40 ∷ ((b ++ (44 ∷ c ++ [])) ++ (41 ∷ []))) → length t ≤ m → (length b + 2 ≤ m) × (length c + 2 ≤ m)
long_in_two a b c m t e h = (omega (arith, simp (length-append) at (ap length e)), omega (arith, simp (length-append) at (ap length e)))

long_before : (a b : List ℕ) (m : ℕ) (t : List ℕ) → t ≡ 40 ∷ ((a ++ (32 ∷ b)) ++ (41 ∷ [])) → length t ≤ m → length b + 2 ≤ m
long_before a b m t e h = omega (arith, simp (length-append) at (ap length e))

long_between : (a b c : List ℕ) (m : ℕ) (t : List ℕ) → t ≡ 40 ∷ ((b ++ (32 ∷ (a ++ (32 ∷ c)))) ++ (41 ∷ [])) → length t ≤ m → (length b + 2 ≤ m) × (length c + 2 ≤ m)
long_between a b c m t e h = (omega (arith, simp (length-append) at (ap length e)), omega (arith, simp (length-append) at (ap length e)))

variable_long : (i m : ℕ) (t : List ℕ) → t ≡ variable i → length t ≤ m → 0 < m
unfolding variable
variable_long i m t e h = let l : length t ≡ suc (length (decimal i)) = ap length e in omega arith

pub operand_back : (s : Variables) (x : Expr) → Written s x → (m : ℕ) → length (inner_text x) ≤ m → Back (operand_at s m) x
operand_back s x (a_number k h) zero l = absurd (let n = ap length (sym (number_text k)) in let q = number_long k h in omega arith)
operand_back s x (a_number k h) (suc m) l = back_number s m k h
operand_back s x (a_variable i n) zero l = absurd (let q : 0 < zero = variable_long i zero (inner_text (held i)) (held_text i) l in omega arith)
operand_back s x (a_variable i n) (suc m) l = back_variable s m i n
operand_back s x (uses_of i n) zero l = absurd (let q : length (variable i ++ codes ".Uses") ≤ zero = subst (λ t. length t ≤ zero) (uses_text i) l in omega (arith, length-append {A = ℕ}))
operand_back s x (uses_of i n) (suc m) l = back_uses s m i n
operand_back s x (of_type f i h o n) zero l = let e = function_text_of f h in absurd (let q = long_around (symbol f) (inner_text (held i)) zero (inner_text (call f (held i ∷ []))) (one_function_text f (held i) e.not_prefix e.not_uses) l in omega arith)
operand_back s x (of_type f i h o n) (suc m) l = back_type s m f i h o n
operand_back s x (before f y h w) zero l = absurd (let q = long_before (symbol f) (inner_text y) zero (inner_text (call f (y ∷ []))) (before_inner f y h ∙ ap (λ t. 40 ∷ (t ++ (41 ∷ []))) (before_text f y h)) l in omega arith)
operand_back s x (before f y h w) (suc zero) l = absurd (let q = long_before (symbol f) (inner_text y) (suc zero) (inner_text (call f (y ∷ []))) (before_inner f y h ∙ ap (λ t. 40 ∷ (t ++ (41 ∷ []))) (before_text f y h)) l in omega arith)
operand_back s x (before f y h w) (suc (suc m)) l =
    let q = long_before (symbol f) (inner_text y) (suc (suc m)) (inner_text (call f (y ∷ []))) (before_inner f y h ∙ ap (λ t. 40 ∷ (t ++ (41 ∷ []))) (before_text f y h)) l in
    back_before s m f y h (solid_of s y w) (operand_back s y w m (omega arith))
operand_back s x (between f y z h w v) zero l = absurd (let q = long_between (symbol f) (inner_text y) (inner_text z) zero (inner_text (call f (y ∷ z ∷ []))) (between_inner f y z h ∙ ap (λ t. 40 ∷ (t ++ (41 ∷ []))) (between_text f y z h)) l in omega (arith, q.0))
operand_back s x (between f y z h w v) (suc m) l =
    let q = long_between (symbol f) (inner_text y) (inner_text z) (suc m) (inner_text (call f (y ∷ z ∷ []))) (between_inner f y z h ∙ ap (λ t. 40 ∷ (t ++ (41 ∷ []))) (between_text f y z h)) l in
    back_between s m f y z h (solid_of s y w) (solid_of s z v) (operand_back s y w m (omega (arith, q.0))) (operand_back s z v m (omega (arith, q.1)))
operand_back s x (of_one f y h o w) zero l = let e = function_text_of f h in absurd (let q = long_around (symbol f) (inner_text y) zero (inner_text (call f (y ∷ []))) (one_function_text f y e.not_prefix e.not_uses) l in omega arith)
operand_back s x (of_one f y h o w) (suc m) l =
    let e = function_text_of f h in
    let q = long_around (symbol f) (inner_text y) (suc m) (inner_text (call f (y ∷ []))) (one_function_text f y e.not_prefix e.not_uses) l in
    back_one s m f y h o (solid_of s y w) (operand_back s y w m (omega arith))
operand_back s x (of_two f y z h o w v) zero l = let e = function_text_of f h in absurd (let q = long_in_two (symbol f) (inner_text y) (inner_text z) zero (inner_text (call f (y ∷ z ∷ []))) (two_function_text f y z e.not_infix) l in omega (arith, q.0))
operand_back s x (of_two f y z h o w v) (suc m) l =
    let e = function_text_of f h in
    let q = long_in_two (symbol f) (inner_text y) (inner_text z) (suc m) (inner_text (call f (y ∷ z ∷ []))) (two_function_text f y z e.not_infix) l in
    back_two s m f y z h o (solid_of s y w) (solid_of s z v) (operand_back s y w m (omega (arith, q.0))) (operand_back s z v m (omega (arith, q.1)))

-- ---- an expression as a whole
pub not_operation : (x : Expr) → is_operation x ≡ false → inner_text x ≡ expr_text x
not_operation x e = ap (λ b. in_brackets b (expr_text x)) e

pub number_operates_not : (k : ℤ) → is_operation (number k) ≡ false
unfolding opened
number_operates_not k = refl

pub held_operates_not : (i : ℕ) → is_operation (held i) ≡ false
unfolding opened
held_operates_not i = refl

pub one_operates_not : (f : Fun) (x : Expr) → is_prefix f ≡ false → is_operation (call f (x ∷ [])) ≡ false
unfolding operates
one_operates_not f x e = operation_of_call f (x ∷ []) ∙ e

pub two_operates_not : (f : Fun) (x y : Expr) → is_infix f ≡ false → is_operation (call f (x ∷ y ∷ [])) ≡ false
unfolding operates
two_operates_not f x y e = operation_of_call f (x ∷ y ∷ []) ∙ e

pub uses_is_no_prefix : is_prefix fun.Uses ≡ false
unfolding is_prefix
uses_is_no_prefix = refl

whole_plain : (s : Variables) (m : ℕ) (x : Expr) (rest : List ℕ) → Solid x → is_operation x ≡ false → Back (operand_at s m) x → Ends rest → whole_at (operand_at s m) (expr_text x ++ rest) ≡ Some (x, rest)
whole_plain s m x rest solid o b ends =
    let t : expr_text x ++ rest ≡ inner_text x ++ rest = ap (λ v. v ++ rest) (sym (not_operation x o)) in
    whole_alone (operand_at s m) (expr_text x ++ rest) rest x (b (expr_text x ++ rest) rest (ap unblanked t ∙ solid rest ∙ refl) ends.stops) ends

pub whole_back : (s : Variables) (x : Expr) → Written s x → (m : ℕ) (rest : List ℕ) → length (inner_text x) ≤ m → Ends rest → whole_at (operand_at s m) (expr_text x ++ rest) ≡ Some (x, rest)
whole_back s x (a_number k h) m rest l ends = whole_plain s m (number k) rest (solid_of s (number k) (a_number k h)) (number_operates_not k) (operand_back s (number k) (a_number k h) m l) ends
whole_back s x (a_variable i n) m rest l ends = whole_plain s m (held i) rest (solid_of s (held i) (a_variable i n)) (held_operates_not i) (operand_back s (held i) (a_variable i n) m l) ends
whole_back s x (uses_of i n) m rest l ends =
    let y = call fun.Uses (held i ∷ []) in
    whole_plain s m y rest (solid_of s y (uses_of i n)) (one_operates_not fun.Uses (held i) uses_is_no_prefix) (operand_back s y (uses_of i n) m l) ends
whole_back s x (of_type f i h o n) m rest l ends =
    let y = call f (held i ∷ []) in
    let e = function_text_of f h in
    whole_plain s m y rest (solid_of s y (of_type f i h o n)) (one_operates_not f (held i) e.not_prefix) (operand_back s y (of_type f i h o n) m l) ends
whole_back s x (before f y h w) zero rest l ends = absurd (let q = long_before (symbol f) (inner_text y) zero (inner_text (call f (y ∷ []))) (before_inner f y h ∙ ap (λ t. 40 ∷ (t ++ (41 ∷ []))) (before_text f y h)) l in omega arith)
whole_back s x (before f y h w) (suc m) rest l ends =
    let q = long_before (symbol f) (inner_text y) (suc m) (inner_text (call f (y ∷ []))) (before_inner f y h ∙ ap (λ t. 40 ∷ (t ++ (41 ∷ []))) (before_text f y h)) l in
    let p = prefix_text f (inner_text y ++ rest) h in
    let t : expr_text (call f (y ∷ [])) ++ rest ≡ symbol f ++ (32 ∷ (inner_text y ++ rest)) = ap (λ v. v ++ rest) (before_text f y h) ∙ append_assoc (symbol f) (32 ∷ inner_text y) rest in
    whole_before s m f y (expr_text (call f (y ∷ [])) ++ rest) rest h (solid_of s y w) (operand_back s y w m (omega arith)) (ap unblanked t ∙ p.solid) ends
whole_back s x (between f y z h w v) m rest l ends =
    let q = long_between (symbol f) (inner_text y) (inner_text z) m (inner_text (call f (y ∷ z ∷ []))) (between_inner f y z h ∙ ap (λ t. 40 ∷ (t ++ (41 ∷ []))) (between_text f y z h)) l in
    let sy = solid_of s y w in
    let sz = solid_of s z v in
    let t : expr_text (call f (y ∷ z ∷ [])) ++ rest ≡ inner_text y ++ spaced f (inner_text z ++ rest) =
    ap (λ u. u ++ rest) (between_text f y z h) ∙ append_assoc (inner_text y) (spaced f (inner_text z)) rest ∙ ap (λ u. inner_text y ++ (32 ∷ u)) (append_assoc (symbol f) (32 ∷ inner_text z) rest) in
    whole_between (operand_at s m) f y z (expr_text (call f (y ∷ z ∷ [])) ++ rest) rest h (operand_back s y w m (omega (arith, q.0))) (operand_back s z v m (omega (arith, q.1))) (ap unblanked t ∙ sy (spaced f (inner_text z ++ rest))) (sz rest) ends
whole_back s x (of_one f y h o w) m rest l ends =
    let z = call f (y ∷ []) in
    let e = function_text_of f h in
    whole_plain s m z rest (solid_of s z (of_one f y h o w)) (one_operates_not f y e.not_prefix) (operand_back s z (of_one f y h o w) m l) ends
whole_back s x (of_two f y z h o w v) m rest l ends =
    let u = call f (y ∷ z ∷ []) in
    let e = function_text_of f h in
    whole_plain s m u rest (solid_of s u (of_two f y z h o w v)) (two_operates_not f y z e.not_infix) (operand_back s u (of_two f y z h o w v) m l) ends

pub expr_back : (s : Variables) (x : Expr) → Written s x → (m : ℕ) (rest : List ℕ) → length (inner_text x) ≤ m → Ends rest → expr_at s m (expr_text x ++ rest) ≡ Some (x, rest)
unfolding expr_at
expr_back s x w m rest l ends = whole_back s x w m rest l ends

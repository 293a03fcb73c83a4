-- The arguments in registers, which the entry has last.
use Rattle.std.proofs.Common.{◌≡◌, ◌∙◌, sym, ap, refl, ℕ, ◌+◌, ◌<◌, ◌≤◌, ◌==◌, ◌||◌, Bool, true, false, cond, List, [], ◌∷◌, ◌++◌, length, take, drop, get_or, filter, sum_by, Option, Some, None, append_assoc, append-nil, add-one, drop-cons, length-append, arith}
use Rattle.std.specs.List.{find, list_any}
use Rattle.std.specs.Option.{option_or, option_map}
use Rattle.std.proofs.lemmas.List.{drop_all, take_more}
use Rattle.std.proofs.lemmas.List.Elements.{filter-append}
use Rattle.std.proofs.lemmas.List.Folds.{find-append, list_any-append}
use Rattle.std.proofs.lemmas.List.Sums.{sum_by-cons}
use Rattle.bk_ops.specs.declared.types.Ty.{Ty}
use Rattle.bk_func.specs.Numbers.{natural}
use Rattle.bk_func.specs.Records.{ValueRecord}
use Rattle.bk_calls.specs.Areas.{made_for, stays}
use Rattle.bk_calls.specs.Arguments.{is_named, arg_reg, arg_regs, argument_number}
use Rattle.bk_callees.proofs.Found.{map_or, found_one}
use Rattle.bk_calls.proofs.Noted.{or_none}

-- they stay as they are, and nothing is made for them

pub regs_stay : (named : ℕ → Bool) (i n : ℕ) (tys : List Ty) → filter stays (arg_regs named i n tys) ≡ arg_regs named i n tys
regs_stay named i n [] = refl
regs_stay named i n (ty ∷ tys) = one (named i) (regs_stay named (i + 1) (n + 1) tys) (regs_stay named (i + 1) n tys)
  where
    one : (b : Bool) → filter stays (arg_regs named (i + 1) (n + 1) tys) ≡ arg_regs named (i + 1) (n + 1) tys
        → filter stays (arg_regs named (i + 1) n tys) ≡ arg_regs named (i + 1) n tys
        → filter stays (cond b (arg_reg n ty i ∷ arg_regs named (i + 1) (n + 1) tys) (arg_regs named (i + 1) n tys))
        ≡ cond b (arg_reg n ty i ∷ arg_regs named (i + 1) (n + 1) tys) (arg_regs named (i + 1) n tys)
    one true more less = ap (λ (ws : List ValueRecord). arg_reg n ty i ∷ ws) more
    one false more less = less

pub regs_make_none : (r : ℕ) (named : ℕ → Bool) (i n : ℕ) (tys : List Ty) → sum_by (made_for r) (arg_regs named i n tys) ≡ 0
regs_make_none r named i n [] = refl
regs_make_none r named i n (ty ∷ tys) = one (named i) (regs_make_none r named (i + 1) (n + 1) tys) (regs_make_none r named (i + 1) n tys)
  where
    one : (b : Bool) → sum_by (made_for r) (arg_regs named (i + 1) (n + 1) tys) ≡ 0 → sum_by (made_for r) (arg_regs named (i + 1) n tys) ≡ 0
        → sum_by (made_for r) (cond b (arg_reg n ty i ∷ arg_regs named (i + 1) (n + 1) tys) (arg_regs named (i + 1) n tys)) ≡ 0
    one true more less = sum_by-cons (made_for r) (arg_reg n ty i) (arg_regs named (i + 1) (n + 1) tys) ∙ ap (λ k. made_for r (arg_reg n ty i) + k) more
    one false more less = less

-- the entry's values that stay, with those that are added
pub entry_stays : (vs ws : List ValueRecord) → filter stays ws ≡ ws → filter stays (vs ++ ws) ≡ filter stays vs ++ ws
entry_stays vs ws e = filter-append stays vs ws ∙ ap (λ us. filter stays vs ++ us) e

-- without blocks there are none
pub none_named : (i n : ℕ) (tys : List Ty) → arg_regs (is_named []) i n tys ≡ []
none_named i n [] = refl
none_named i n (ty ∷ tys) = none_named (i + 1) n tys

-- names that are noted

pub any_more : {A : Type 0} (p : A → Bool) (xs : List A) (i : ℕ) (x : A) (o old new : Bool) → i < length xs → x ≡ get_or xs i x
    → old ≡ (o || list_any p (take i xs)) → new ≡ (old || p x) → new ≡ (o || list_any p (take (i + 1) xs))
any_more p xs i x o old new l is before after =
    let grown : list_any p (take (i + 1) xs) ≡ (list_any p (take i xs) || p x) =
    ap (list_any p) (take_more xs i x l ∙ ap (λ y. take i xs ++ y ∷ []) (sym is)) ∙ (list_any-append p (take i xs) (x ∷ []) ∙ ap (λ b. list_any p (take i xs) || b) (or_false (p x)))
    in
    after ∙ (ap (λ b. b || p x) before ∙ (or_or o (list_any p (take i xs)) (p x) ∙ ap (λ b. o || b) (sym grown)))
  where
    or_false : (b : Bool) → (b || false) ≡ b
    or_false true = refl
    or_false false = refl

    or_or : (a b c : Bool) → ((a || b) || c) ≡ (a || (b || c))
    or_or true b c = refl
    or_or false b c = refl

-- arguments that are listed one by one

pub read_same : {A : Type 0} (xs : List A) (i : ℕ) (x y : A) → i < length xs → get_or xs i x ≡ get_or xs i y
read_same xs i x y l =
    let p = drop-cons xs i x l in
    let q = drop-cons xs i y l in
    cc

pub regs_next : (test : ℕ → Bool) (tys : List Ty) (i n m : ℕ) (ty d : Ty) (b : Bool) (out now whole : List ValueRecord) → i < length tys → ty ≡ get_or tys i d
    → b ≡ test i → now ≡ out ++ cond b (arg_reg n ty i ∷ []) [] → m ≡ n + cond b 1 0 → out ++ arg_regs test i n (drop i tys) ≡ whole
    → now ++ arg_regs test (i + 1) m (drop (i + 1) tys) ≡ whole
regs_next test tys i n m ty d b out now whole l is named after next before =
    let rest : List Ty = drop (i + 1) tys in
    let e : drop i tys ≡ ty ∷ rest = drop-cons tys i d l ∙ (ap (λ j. get_or tys i d ∷ drop j tys) (sym (add-one i)) ∙ ap (λ y. y ∷ rest) (sym is)) in
    let whole_is : out ++ cond (test i) (arg_reg n ty i ∷ arg_regs test (i + 1) (n + 1) rest) (arg_regs test (i + 1) n rest) ≡ whole =
    ap (λ ys. out ++ arg_regs test i n ys) (sym e) ∙ before in
    rw (after, next) (one b (ap (λ c. out ++ cond c (arg_reg n ty i ∷ arg_regs test (i + 1) (n + 1) rest) (arg_regs test (i + 1) n rest)) named ∙ whole_is))
  where
    one : (b : Bool) → out ++ cond b (arg_reg n ty i ∷ arg_regs test (i + 1) (n + 1) (drop (i + 1) tys)) (arg_regs test (i + 1) n (drop (i + 1) tys)) ≡ whole
        → (out ++ cond b (arg_reg n ty i ∷ []) []) ++ arg_regs test (i + 1) (n + cond b 1 0) (drop (i + 1) tys) ≡ whole
    one true h = append_assoc out (arg_reg n ty i ∷ []) (arg_regs test (i + 1) (n + 1) (drop (i + 1) tys)) ∙ h
    one false h =
        let z : n + 0 ≡ n = omega arith in
        rw (append-nil out, z) h

pub regs_all : (test : ℕ → Bool) (tys : List Ty) (i n : ℕ) (out whole : List ValueRecord) → length tys ≤ i → out ++ arg_regs test i n (drop i tys) ≡ whole → out ≡ whole
regs_all test tys i n out whole l e = sym (append-nil out) ∙ (ap (λ ys. out ++ arg_regs test i n ys) (sym (drop_all i tys l)) ∙ e)

pub number_listed : (ws now : List ValueRecord) (n : ℕ) (ty : Ty) (p i : ℕ) (b : Bool) (old new : Option ℕ) → now ≡ ws ++ cond b (arg_reg n ty p ∷ []) []
    → old ≡ argument_number ws i → new ≡ option_or old (cond b (cond (p == i) (Some n) None) None) → new ≡ argument_number now i
number_listed ws now n ty p i true old new is before after =
    let test : ValueRecord → Bool = λ w. natural w.int == i in
    after ∙ (ap (λ o. option_or o (cond (p == i) (Some n) None)) before
    ∙ sym (ap (λ us. argument_number us i) is ∙ (ap (option_map (λ (w : ValueRecord). w.id)) (find-append test ws (arg_reg n ty p ∷ []))
    ∙ (map_or (λ (w : ValueRecord). w.id) (find test ws) (find test (arg_reg n ty p ∷ []))
    ∙ ap (option_or (argument_number ws i)) (found_one (λ (w : ValueRecord). w.id) test (arg_reg n ty p))))))
number_listed ws now n ty p i false old new is before after =
    after ∙ (sym (or_none old) ∙ (before ∙ ap (λ us. argument_number us i) (sym (is ∙ append-nil ws))))

pub listed_length : (ws now : List ValueRecord) (w : ValueRecord) (b : Bool) (first n m : ℕ) → now ≡ ws ++ cond b (w ∷ []) [] → m ≡ n + cond b 1 0
    → n ≡ first + length ws → m ≡ first + length now
listed_length ws now w true first n m is next before =
    let l = ap length is ∙ length-append ws (w ∷ []) in
    omega (arith, l, next, before)
listed_length ws now w false first n m is next before =
    let l = ap length (is ∙ append-nil ws) in
    omega (arith, l, next, before)

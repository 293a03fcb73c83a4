-- Words that spell signed numbers, and the arguments that they give.
use Rattle.std.proofs.Common.{◌≡◌, ℕ, suc, ℤ, pos, negsuc, ◌+◌, ◌^◌, ◌-◌, ◌<◌, ◌≤◌, List, [], ◌∷◌, ◌++◌, length, map, take, drop, get_or, ap, ◌∙◌, sym, subst, refl, arith, true, All, Option, Some, None, IfNone, ⊎_elim, append_assoc, append-nil, add-one, drop-cons}
use Rattle.std.specs.Prelude.{slice_index, nat_lt, ◌&&◌}
use Rattle.std.specs.Fmt.{decimal, signed_decimal}
use Rattle.std.proofs.lemmas.Bool.{cases_lt}
use Rattle.std.proofs.lemmas.Bool.Decides.{nat_tests}
use Rattle.std.proofs.lemmas.List.{length-map, get_or-map, take_all, length-drop}
use Rattle.std.proofs.lemmas.Fmt.{first_decimal, decimal_digit, decimal_injective}
use Rattle.std.proofs.Math.ListN.{drop_of_length-le}
use Rattle.std.proofs.Math.Nat.{pow-le-pow_right}
use Rattle.bk_num.proofs.Signs.{residue_below}
use Rattle.bk_ops.specs.Types.{width_of}
use Rattle.bk_ops.specs.declared.types.Target.{Target}
use Rattle.bk_ops.specs.declared.types.Target.TheVariants.{Arm, Riscv64}
use Rattle.bk_ops.specs.declared.types.Ty.{Ty}
use Rattle.bk_ops.specs.declared.types.Ty.TheVariants as ty
use Rattle.bk_top.specs.Commands.{IsArgument}
use Rattle.bk_func.specs.Arguments.{fit}
use Rattle.bk_top.specs.Arguments.{FitsBits, FitsType, GivesOne, Gives, DoNotFit}

-- no number below 2^64 begins with a sign
no_minus : (n : ℕ) (rest : List ℕ) → n < 2 ^ 64 → decimal n ≡ 45 ∷ rest → ⊥
no_minus n rest h e =
    let f : slice_index (decimal n) 0 ≡ 45 = ap (λ t. slice_index t 0) e in
    ⊎_elim
    (λ z. let q : n ≡ 0 = omega arith in let c : slice_index (decimal n) 0 ≡ 48 = ap (λ t. slice_index t 0) (ap decimal q ∙ decimal_digit 0 (omega arith)) in omega arith)
    (λ p. omega (arith, first_decimal n (omega arith) h))
    (cases_lt n 1)

-- what stands behind a sign
pub behind_minus : (digits : List ℕ) (z : ℤ) → IsArgument z → 45 ∷ digits ≡ signed_decimal z → (n : ℕ) × (n < 2 ^ 63) × (digits ≡ decimal (suc n))
behind_minus digits (pos n) h e = absurd (no_minus n digits h (sym e))
behind_minus digits (negsuc n) h e = (n, h, ap (drop 1) e)

-- two numbers of one word are the same
pub same_argument : (y z : ℤ) (word : List ℕ) → IsArgument y → IsArgument z → word ≡ signed_decimal y → word ≡ signed_decimal z → y ≡ z
same_argument (pos m) (pos n) word h k d e = ap pos (decimal_injective m n h k (sym d ∙ e))
same_argument (pos m) (negsuc n) word h k d e = absurd (no_minus m (decimal (suc n)) h (sym d ∙ e))
same_argument (negsuc m) (pos n) word h k d e = absurd (no_minus n (decimal (suc m)) k (sym e ∙ d))
same_argument (negsuc m) (negsuc n) word h k d e =
    let q : suc m ≡ suc n = decimal_injective (suc m) (suc n) (omega arith) (omega arith) (ap (drop 1) (sym d ∙ e)) in
    ap negsuc (omega arith)

width_most : (type : Ty) (target : Target) → width_of type target ≤ 64
width_most ty.Bool target = omega arith
width_most ty.Int8 target = omega arith
width_most ty.Uint8 target = omega arith
width_most ty.Int16 target = omega arith
width_most ty.Uint16 target = omega arith
width_most ty.Int32 target = omega arith
width_most ty.Uint32 target = omega arith
width_most ty.Int64 target = omega arith
width_most ty.Uint64 target = omega arith
width_most ty.Int Arm = omega arith
width_most ty.Int Riscv64 = omega arith
width_most ty.Uint Arm = omega arith
width_most ty.Uint Riscv64 = omega arith
width_most ty.Uintptr Arm = omega arith
width_most ty.Uintptr Riscv64 = omega arith
width_most ty.Ptr Arm = omega arith
width_most ty.Ptr Riscv64 = omega arith
width_most ty.Mem target = omega arith
width_most ty.Void target = omega arith
width_most ty.Tuple target = omega arith

bits_argument : (w : ℕ) (z : ℤ) → w ≤ 64 → FitsBits w z → IsArgument z
bits_argument w (pos n) h k = let m : 2 ^ w ≤ 2 ^ 64 = pow-le-pow_right (omega arith) {j = 64} h in omega arith
bits_argument w (negsuc n) h k = let m : 2 ^ (w - 1) ≤ 2 ^ 63 = pow-le-pow_right (omega arith) {j = 63} (omega arith) in omega arith

truth_argument : (z : ℤ) (target : Target) → FitsType target ty.Bool z → IsArgument z
truth_argument (pos n) target h = omega arith
truth_argument (negsuc n) target h = absurd h

-- a number of a type is one that a word may spell
pub fits_argument : (target : Target) (type : Ty) (z : ℤ) → FitsType target type z → IsArgument z
fits_argument target ty.Bool z h = truth_argument z target h
fits_argument target type z h = bits_argument (width_of type target) z (width_most type target) h.1

-- a word that spells no number gives none
pub unspelled : (target : Target) (type : Ty) (word : List ℕ) (n : ℕ) → ((z : ℤ) → IsArgument z → word ≡ signed_decimal z → ⊥) → GivesOne target type word n → ⊥
unspelled target type word n none g = none g.0 (fits_argument target type g.0 g.2) g.1

-- nor does one whose number does not fit
pub unfit : (target : Target) (type : Ty) (word : List ℕ) (n : ℕ) (z : ℤ) → IsArgument z → word ≡ signed_decimal z → (FitsType target type z → ⊥) → GivesOne target type word n → ⊥
unfit target type word n z h d other g = other (subst (FitsType target type) (sym (same_argument z g.0 word h (fits_argument target type g.0 g.2) d g.1)) g.2)

-- the element at the index is the first of the rest
from_place : {X : Type 0} (xs : List X) (i : ℕ) (x d : X) → i < length xs → x ≡ get_or xs i d → drop i xs ≡ x ∷ drop (i + 1) xs
from_place xs i x d lt is = drop-cons xs i d lt ∙ ap (λ y. y ∷ drop (suc i) xs) (sym is) ∙ ap (λ j. x ∷ drop j xs) (sym (add-one i))

-- what is given from a place on, by the type and the word that stand there
moved : {W : Type 0} (spell : W → List ℕ) (target : Target) (types : List Ty) (words : List W) (i : ℕ) (type d : Ty) (word : W) (ns : List ℕ) → i < length types → i < length words → type ≡ get_or types i d → word ≡ get_or words i word
    → Gives target (drop i types) (map spell (drop i words)) ns → Gives target (type ∷ drop (i + 1) types) (spell word ∷ map spell (drop (i + 1) words)) ns
moved spell target types words i type d word ns l m t w g =
    subst (λ ts. Gives target ts (spell word ∷ map spell (drop (i + 1) words)) ns) (from_place types i type d l t)
    (subst (λ ws. Gives target (drop i types) (map spell ws) ns) (from_place words i word word m w) g)

moved_back : {W : Type 0} (spell : W → List ℕ) (target : Target) (types : List Ty) (words : List W) (i : ℕ) (type d : Ty) (word : W) (ns : List ℕ) → i < length types → i < length words → type ≡ get_or types i d → word ≡ get_or words i word
    → Gives target (type ∷ drop (i + 1) types) (spell word ∷ map spell (drop (i + 1) words)) ns → Gives target (drop i types) (map spell (drop i words)) ns
moved_back spell target types words i type d word ns l m t w g =
    subst (λ ts. Gives target ts (map spell (drop i words)) ns) (sym (from_place types i type d l t))
    (subst (λ ws. Gives target (type ∷ drop (i + 1) types) (map spell ws) ns) (sym (from_place words i word word m w)) g)

first_given : (target : Target) (type : Ty) (types : List Ty) (word : List ℕ) (words : List (List ℕ)) (ns : List ℕ) → Gives target (type ∷ types) (word ∷ words) ns → (n : ℕ) × GivesOne target type word n
first_given target type types word words [] g = absurd g
first_given target type types word words (n ∷ ns) g = (n, g.0)

others_given : (target : Target) (type : Ty) (types : List Ty) (word : List ℕ) (words : List (List ℕ)) (ns : List ℕ) → Gives target (type ∷ types) (word ∷ words) ns → (rest : List ℕ) × Gives target types words rest
others_given target type types word words [] g = absurd g
others_given target type types word words (n ∷ ns) g = (ns, g.1)

-- the numbers before a place, with those from it on, are all numbers; where there are all, there are those from the place on
pub record Given {W : Type 0} (spell : W → List ℕ) (target : Target) (types : List Ty) (words : List W) (i : ℕ) (before : List ℕ) : Type 0 where
  pub whole : (ns : List ℕ) → Gives target (drop i types) (map spell (drop i words)) ns → Gives target types (map spell words) (before ++ ns)
  pub part : (ns : List ℕ) → Gives target types (map spell words) ns → (rest : List ℕ) × Gives target (drop i types) (map spell (drop i words)) rest

pub given_none : {W : Type 0} (spell : W → List ℕ) (target : Target) (types : List Ty) (words : List W) (before : List ℕ) → before ≡ [] → Given spell target types words 0 before
given_none spell target types words before none = record { whole = λ ns g. subst (λ l. Gives target types (map spell words) (l ++ ns)) (sym none) g; part = λ ns g. (ns, g) }

-- one more number
pub given_more : {W : Type 0} (spell : W → List ℕ) (target : Target) (types : List Ty) (words : List W) (i : ℕ) (type d : Ty) (word : W) (n : ℕ) (before after : List ℕ) → i < length types → i < length words → type ≡ get_or types i d → word ≡ get_or words i word
    → GivesOne target type (spell word) n → after ≡ before ++ n ∷ [] → Given spell target types words i before → Given spell target types words (i + 1) after
given_more spell target types words i type d word n before after l m t w one wrote h = record {
  whole = λ ns g.
      subst (Gives target types (map spell words)) (sym (ap (λ l. l ++ ns) wrote ∙ append_assoc before (n ∷ []) ns))
      (h.whole (n ∷ ns) (moved_back spell target types words i type d word (n ∷ ns) l m t w (one, g)));
  part = λ ns g.
      let r = h.part ns g in
      others_given target type (drop (i + 1) types) (spell word) (map spell (drop (i + 1) words)) r.0 (moved spell target types words i type d word r.0 l m t w r.1);
}

-- all numbers
pub given_all : {W : Type 0} (spell : W → List ℕ) (target : Target) (types : List Ty) (words : List W) (i : ℕ) (before : List ℕ) → length types ≤ i → length words ≤ i → Given spell target types words i before → Gives target types (map spell words) before
given_all spell target types words i before l m h =
    subst (Gives target types (map spell words)) (append-nil before)
    (h.whole [] (subst (λ ts. Gives target ts (map spell (drop i words)) []) (sym (drop_of_length-le types {i = i} l)) (subst (λ ws. Gives target [] (map spell ws) []) (sym (drop_of_length-le words {i = i} m)) tt)))

-- a word that gives no number
pub given_no_more : {W : Type 0} (spell : W → List ℕ) (target : Target) (types : List Ty) (words : List W) (i : ℕ) (type d : Ty) (word : W) (before : List ℕ) → i < length types → i < length words → type ≡ get_or types i d → word ≡ get_or words i word
    → ((n : ℕ) → GivesOne target type (spell word) n → ⊥) → Given spell target types words i before → DoNotFit target types (map spell words)
given_no_more spell target types words i type d word before l m t w none h = λ ns g.
    let r = h.part ns g in
    let f = first_given target type (drop (i + 1) types) (spell word) (map spell (drop (i + 1) words)) r.0 (moved spell target types words i type d word r.0 l m t w r.1) in
    none f.0 f.1

as_many : (target : Target) (types : List Ty) (words : List (List ℕ)) (ns : List ℕ) → Gives target types words ns → length types ≡ length words
as_many target [] [] [] g = refl
as_many target [] [] (n ∷ ns) g = absurd g
as_many target [] (word ∷ words) ns g = absurd g
as_many target (type ∷ types) [] ns g = absurd g
as_many target (type ∷ types) (word ∷ words) [] g = absurd g
as_many target (type ∷ types) (word ∷ words) (n ∷ ns) g = ap suc (as_many target types words ns g.1)

-- other counts
pub other_count : {W : Type 0} (spell : W → List ℕ) (target : Target) (types : List Ty) (words : List W) → (length types ≡ length words → ⊥) → DoNotFit target types (map spell words)
other_count spell target types words other = λ ns g. other (as_many target types (map spell words) ns g ∙ length-map words spell)

below_test : (a b : ℕ) → a < b → nat_lt a b ≡ true
below_test a b h = grind (arith, nat_tests)

-- the numbers are below 2 to the widths
pub gives_fit : (target : Target) (types : List Ty) (words : List (List ℕ)) (ns : List ℕ) → Gives target types words ns → fit target types ns ≡ true
gives_fit target [] [] [] g = refl
gives_fit target [] [] (n ∷ ns) g = absurd g
gives_fit target [] (word ∷ words) ns g = absurd g
gives_fit target (type ∷ types) [] ns g = absurd g
gives_fit target (type ∷ types) (word ∷ words) [] g = absurd g
gives_fit target (type ∷ types) (word ∷ words) (n ∷ ns) g =
    let below : n < 2 ^ width_of type target = subst (λ m. m < 2 ^ width_of type target) (sym g.0.3) (residue_below (width_of type target) g.0.0) in
    ap (λ b. b && fit target types ns) (below_test n (2 ^ width_of type target) below) ∙ gives_fit target types words ns g.1

-- one more of the words that are spelled so
pub all_more : {W : Type 0} (spell : W → List ℕ) (P : List ℕ → Type 0) (words : List W) (i : ℕ) (word : W) → i < length words → word ≡ get_or words i word → P (spell word) → ((k : ℕ) (d : List ℕ) → k < i → P (get_or (map spell words) k d)) → (k : ℕ) (d : List ℕ) → k < i + 1 → P (get_or (map spell words) k d)
all_more spell P words i word l is p h k d lt = ⊎_elim
    (λ less. h k d less)
    (λ same. let e : k ≡ i = omega arith in subst P (sym (ap (λ j. get_or (map spell words) j d) e ∙ get_or-map spell words i word d l ∙ ap spell (sym is))) p)
    (cases_lt k i)

pub one_not : {W : Type 0} (spell : W → List ℕ) (P : List ℕ → Type 0) (words : List W) (i : ℕ) (word : W) → i < length words → word ≡ get_or words i word → (P (spell word) → ⊥) → All P (map spell words) → ⊥
one_not spell P words i word l is other all =
    let m : i < length (map spell words) = subst (λ n. i < n) (sym (length-map words spell)) l in
    other (subst P (get_or-map spell words i word (spell word) l ∙ ap spell (sym is)) (all i (spell word) m))

-- what an answer that is none owes
pub if_none : {A : Type 0} (o : Option A) (P : Type 0) → P → IfNone o P
if_none None P p = p
if_none (Some x) P p = tt

-- the words behind two, as a pattern has them
pub behind_two : {X : Type 0} (xs : List X) → take (length xs - 2) (drop 2 xs) ≡ drop 2 xs
behind_two xs = take_all (length xs - 2) (drop 2 xs) (omega (arith, length-drop 2 xs))

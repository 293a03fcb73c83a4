-- References that were looked up: what is printed of them is looked up again.
use Rattle.std.proofs.Common.{◌≡◌, ℕ, zero, suc, ◌+◌, ◌<◌, ◌^◌, List, [], ◌∷◌, ◌++◌, length, map, ap, ◌∙◌, sym, refl, subst, arith, get_or, Bool, true, false, cond, Option, Some, None, ◌⊎◌, inl, inr, ⊎_elim}
use Rattle.std.specs.Prelude.{Result, Ok, not, nat_lt, ◌==◌, ◌&&◌, slice_index_or, codes}
use Rattle.std.specs.Fmt.{decimal}
use Rattle.std.specs.Option.{option_map}
use Rattle.std.specs.Str.{bytes_eq}
use Rattle.std.proofs.lemmas.Bool.Decides.{nat_tests}
use Rattle.std.proofs.lemmas.Fmt.{decimal_injective, decimal_is_IsNumeral}
use Rattle.std.proofs.lemmas.List.{get_or_default}
use Rattle.std.proofs.lemmas.List.Quantifiers.{position-Some}
use Rattle.std.proofs.lemmas.List.Folds.{list_any_none}
use Rattle.std.proofs.lemmas.List.Sums.{position_or_len_is}
use Rattle.std.proofs.lemmas.Slice.Eq.{bytes_eq-Decides}
use Rattle.bk_ops.specs.declared.types.Ty.{Ty}
use Rattle.bk_ops.specs.declared.family.Family.{Family}
use Rattle.bk_ops.specs.declared.family.Family.TheVariants as family
use Rattle.bk_func.specs.declared.parts.Aux.{Aux}
use Rattle.bk_func.specs.declared.parts.Aux.TheVariants as aux
use Rattle.bk_dump.specs.Trees.{MentionTree, ParameterTree, of_name}
use Rattle.bk_dump.specs.Drafts.{is_declared, are_fresh, divide_name, shift_name}
use Rattle.bk_dump.specs.Print.{symbol, argument_name}
use Rattle.bk_dump_laws.specs.Printed.{mention_of, parameters_of}
use Rattle.bk_dump.specs.Resolved.{Scope, place_of, symbol_of, argument_of, callee_of, aux_of, or_name, if_named, looked_up}

-- Names of arguments differ.

short_name : (k : ℕ) → nat_lt k 26 ≡ true → argument_name k ≡ (97 + k) ∷ []
unfolding argument_name
short_name k h = ap (λ b. cond b ((97 + k) ∷ []) (codes "a" ++ decimal k)) h

long_name : (k : ℕ) → nat_lt k 26 ≡ false → argument_name k ≡ codes "a" ++ decimal k
unfolding argument_name
long_name k h = ap (λ b. cond b ((97 + k) ∷ []) (codes "a" ++ decimal k)) h

same_letter : (j k : ℕ) → (97 + j) ∷ [] ≡ (97 + k) ∷ [] → j ≡ k
same_letter j k h = let e : 97 + j ≡ 97 + k = cc in omega (arith, e)

some_digits : (k : ℕ) → k < 2 ^ 64 → 0 < length (decimal k)
some_digits k h = (decimal_is_IsNumeral k h).0.0

one_letter : (j k : ℕ) → k < 2 ^ 64 → (97 + j) ∷ [] ≡ codes "a" ++ decimal k → ⊥
one_letter j k h e = let l : 1 ≡ suc (length (decimal k)) = ap length e in absurd (omega (arith, l, some_digits k h))

same_digits : (j k : ℕ) → codes "a" ++ decimal j ≡ codes "a" ++ decimal k → decimal j ≡ decimal k
same_digits j k h = cc

name_cases : (j k : ℕ) (a b : Bool) → nat_lt j 26 ≡ a → nat_lt k 26 ≡ b → j < 2 ^ 64 → k < 2 ^ 64 → argument_name j ≡ argument_name k → j ≡ k
name_cases j k true true p q l m e = same_letter j k (sym (short_name j p) ∙ e ∙ short_name k q)
name_cases j k true false p q l m e = absurd (one_letter j k m (sym (short_name j p) ∙ e ∙ long_name k q))
name_cases j k false true p q l m e = absurd (one_letter k j l (sym (short_name k q) ∙ sym e ∙ long_name j p))
name_cases j k false false p q l m e = decimal_injective j k l m (same_digits j k (sym (long_name j p) ∙ e ∙ long_name k q))

pub one_argument : (j k : ℕ) → j < 2 ^ 64 → k < 2 ^ 64 → argument_name j ≡ argument_name k → j ≡ k
one_argument j k l m e = name_cases j k (nat_lt j 26) (nat_lt k 26) refl refl l m e

-- Parameters by their places.

abbrev name_of : ParameterTree → List ℕ
name_of p = p.name

-- the names of arguments from place k on
abbrev pub arguments : ℕ → ℕ → List (List ℕ)
arguments k zero = []
arguments k (suc n) = argument_name k ∷ arguments (k + 1) n

pub parameters_named : (k : ℕ) (ts : List Ty) → map name_of (parameters_of k ts) ≡ arguments k (length ts)
parameters_named k [] = refl
parameters_named k (t ∷ ts) = ap (λ ns. argument_name k ∷ ns) (parameters_named (k + 1) ts)

pub parameters_typed : (k : ℕ) (ts : List Ty) → map (λ (p : ParameterTree). p.ty) (parameters_of k ts) ≡ ts
parameters_typed k [] = refl
parameters_typed k (t ∷ ts) = ap (λ us. t ∷ us) (parameters_typed (k + 1) ts)

pub parameters_counted : (k : ℕ) (ts : List Ty) → length (parameters_of k ts) ≡ length ts
parameters_counted k [] = refl
parameters_counted k (t ∷ ts) = ap suc (parameters_counted (k + 1) ts)

arguments_counted : (k n : ℕ) → length (arguments k n) ≡ n
arguments_counted k zero = refl
arguments_counted k (suc n) = ap suc (arguments_counted (k + 1) n)

argument_at : (k n i : ℕ) → i < n → get_or (arguments k n) i [] ≡ argument_name (k + i)
argument_at k zero i h = absurd (omega arith)
argument_at k (suc n) zero h = ap argument_name (let q : k ≡ k + 0 = omega arith in q)
argument_at k (suc n) (suc i) h = argument_at (k + 1) n i (omega arith) ∙ ap argument_name (let q : k + 1 + i ≡ k + suc i = omega arith in q)

not_true : (b : Bool) → (b ≡ true → ⊥) → b ≡ false
not_true true h = absurd (h refl)
not_true false h = refl

found_place : (n l a : ℕ) → n ≡ a → a < l → cond (nat_lt n l) (Some n) None ≡ Some a
found_place n l a e h = grind (arith, nat_tests)

pub argument_found : (n k : ℕ) → n < 2 ^ 64 → k < n → place_of (arguments 0 n) (argument_name k) ≡ Some k
argument_found n k small h =
    let counted = arguments_counted 0 n in
    let test = λ (m : List ℕ). bytes_eq (argument_name k) m in
    let before : (i : ℕ) → i < k → bytes_eq (argument_name k) (get_or (arguments 0 n) i []) ≡ false = λ i l. not_true _ (λ e.
    let same : argument_name k ≡ argument_name i = (bytes_eq-Decides (argument_name k) (get_or (arguments 0 n) i [])).0 e ∙ argument_at 0 n i (omega arith) ∙ ap argument_name (let q : 0 + i ≡ i = omega arith in q) in
    let q = one_argument k i (omega arith) (omega arith) same in absurd (omega (arith, q))) in
    let here : bytes_eq (argument_name k) (get_or (arguments 0 n) k []) ≡ true = (bytes_eq-Decides (argument_name k) (get_or (arguments 0 n) k [])).1 (sym (argument_at 0 n k h ∙ ap argument_name (let q : 0 + k ≡ k = omega arith in q))) in
    found_place _ (length (arguments 0 n)) k (position_or_len_is (λ m. bytes_eq (argument_name k) m) (arguments 0 n) k [] (omega (arith, counted)) before (λ l. here)) (omega (arith, counted))

-- no argument comes again

arguments_more : (k n : ℕ) → arguments k n ++ argument_name (k + n) ∷ [] ≡ arguments k (suc n)
arguments_more k zero = ap (λ j. argument_name j ∷ []) (let q : k + 0 ≡ k = omega arith in q)
arguments_more k (suc n) =
    ap (λ ns. argument_name k ∷ ns) (ap (λ j. arguments (k + 1) n ++ argument_name j ∷ []) (let q : k + suc n ≡ k + 1 + n = omega arith in q) ∙ arguments_more (k + 1) n)

next_arguments : (k : ℕ) → arguments 0 k ++ argument_name k ∷ [] ≡ arguments 0 (k + 1)
next_arguments k =
    ap (λ j. arguments 0 k ++ argument_name j ∷ []) (let q : k ≡ 0 + k = omega arith in q) ∙ arguments_more 0 k ∙ ap (arguments 0) (let q : suc k ≡ k + 1 = omega arith in q)

argument_new : (k : ℕ) → k < 2 ^ 64 → is_declared (arguments 0 k) (argument_name k) ≡ false
argument_new k small = list_any_none (λ m. bytes_eq (argument_name k) m) (arguments 0 k) (λ i d l. not_true _ (λ e.
    let inside : i < k = omega (arith, arguments_counted 0 k) in
    let same : argument_name k ≡ argument_name i =
    (bytes_eq-Decides (argument_name k) (get_or (arguments 0 k) i d)).0 e
    ∙ get_or_default (arguments 0 k) i d [] l
    ∙ argument_at 0 k i inside
    ∙ ap argument_name (let q : 0 + i ≡ i = omega arith in q) in
    absurd (omega (arith, one_argument k i small (omega arith) same))))

fresh_from : (k n : ℕ) → k + n < 2 ^ 64 → are_fresh (arguments 0 k) (arguments k n) ≡ true
fresh_from k zero small = refl
fresh_from k (suc n) small =
    ap (λ b. not b && are_fresh (arguments 0 k ++ argument_name k ∷ []) (arguments (k + 1) n)) (argument_new k (omega arith))
    ∙ ap (λ s. are_fresh s (arguments (k + 1) n)) (next_arguments k)
    ∙ fresh_from (k + 1) n (omega arith)

pub arguments_fresh : (ts : List Ty) → length ts < 2 ^ 64 → are_fresh [] (map name_of (parameters_of 0 ts)) ≡ true
arguments_fresh ts small = ap (are_fresh []) (parameters_named 0 ts) ∙ fresh_from 0 (length ts) (omega arith)

-- How the name that a value mentions is looked up.

-- among the parameters, the callees, or all names
abbrev Looks : Family → Type 0
Looks f =
    ((s : Scope) (n : List ℕ) → aux_of s f n ≡ argument_of s.parameters n)
    ⊎ (((s : Scope) (n : List ℕ) → aux_of s f n ≡ callee_of s.names n) ⊎ ((s : Scope) (n : List ℕ) → aux_of s f n ≡ symbol_of s.names n))

looks : (f : Family) → Looks f
unfolding aux_of
looks family.Const = inr (inr (λ s n. refl))
looks family.ConstBool = inr (inr (λ s n. refl))
looks family.ConstNil = inr (inr (λ s n. refl))
looks family.Add = inr (inr (λ s n. refl))
looks family.Sub = inr (inr (λ s n. refl))
looks family.Mul = inr (inr (λ s n. refl))
looks family.And = inr (inr (λ s n. refl))
looks family.Or = inr (inr (λ s n. refl))
looks family.Xor = inr (inr (λ s n. refl))
looks family.Neg = inr (inr (λ s n. refl))
looks family.Com = inr (inr (λ s n. refl))
looks family.Div = inr (inr (λ s n. refl))
looks family.Divu = inr (inr (λ s n. refl))
looks family.Mod = inr (inr (λ s n. refl))
looks family.Modu = inr (inr (λ s n. refl))
looks family.Hmul = inr (inr (λ s n. refl))
looks family.Hmulu = inr (inr (λ s n. refl))
looks family.Lsh = inr (inr (λ s n. refl))
looks family.Rsh = inr (inr (λ s n. refl))
looks family.RshU = inr (inr (λ s n. refl))
looks family.Eq = inr (inr (λ s n. refl))
looks family.Neq = inr (inr (λ s n. refl))
looks family.Less = inr (inr (λ s n. refl))
looks family.LessU = inr (inr (λ s n. refl))
looks family.Leq = inr (inr (λ s n. refl))
looks family.LeqU = inr (inr (λ s n. refl))
looks family.EqB = inr (inr (λ s n. refl))
looks family.NeqB = inr (inr (λ s n. refl))
looks family.AndB = inr (inr (λ s n. refl))
looks family.OrB = inr (inr (λ s n. refl))
looks family.Not = inr (inr (λ s n. refl))
looks family.EqPtr = inr (inr (λ s n. refl))
looks family.NeqPtr = inr (inr (λ s n. refl))
looks family.IsNonNil = inr (inr (λ s n. refl))
looks family.IsInBounds = inr (inr (λ s n. refl))
looks family.IsSliceInBounds = inr (inr (λ s n. refl))
looks family.SignExt = inr (inr (λ s n. refl))
looks family.ZeroExt = inr (inr (λ s n. refl))
looks family.Trunc = inr (inr (λ s n. refl))
looks family.CvtBoolToUint8 = inr (inr (λ s n. refl))
looks family.Signmask = inr (inr (λ s n. refl))
looks family.Zeromask = inr (inr (λ s n. refl))
looks family.Ctz32 = inr (inr (λ s n. refl))
looks family.BitLen32 = inr (inr (λ s n. refl))
looks family.RotateLeft = inr (inr (λ s n. refl))
looks family.CondSelect = inr (inr (λ s n. refl))
looks family.AddPtr = inr (inr (λ s n. refl))
looks family.SubPtr = inr (inr (λ s n. refl))
looks family.OffPtr = inr (inr (λ s n. refl))
looks family.Int64Make = inr (inr (λ s n. refl))
looks family.Int64Hi = inr (inr (λ s n. refl))
looks family.Int64Lo = inr (inr (λ s n. refl))
looks family.AddHi32 = inr (inr (λ s n. refl))
looks family.SubHi32 = inr (inr (λ s n. refl))
looks family.Phi = inr (inr (λ s n. refl))
looks family.Copy = inr (inr (λ s n. refl))
looks family.Arg = inl (λ s n. refl)
looks family.InitMem = inr (inr (λ s n. refl))
looks family.Sp = inr (inr (λ s n. refl))
looks family.Sb = inr (inr (λ s n. refl))
looks family.Addr = inr (inr (λ s n. refl))
looks family.Load = inr (inr (λ s n. refl))
looks family.Store = inr (inr (λ s n. refl))
looks family.Zero = inr (inr (λ s n. refl))
looks family.Move = inr (inr (λ s n. refl))
looks family.NilCheck = inr (inr (λ s n. refl))
looks family.PanicBounds = inr (inr (λ s n. refl))
looks family.StaticLECall = inr (inl (λ s n. refl))
looks family.SelectN = inr (inr (λ s n. refl))
looks family.MakeResult = inr (inr (λ s n. refl))
looks family.ArgWord = inr (inr (λ s n. refl))
looks family.ArgReg = inr (inr (λ s n. refl))
looks family.ResWord = inr (inr (λ s n. refl))
looks family.ResReg = inr (inr (λ s n. refl))
looks family.OutWord = inr (inr (λ s n. refl))
looks family.RetWord = inr (inr (λ s n. refl))
looks family.RetRegs = inr (inr (λ s n. refl))
looks family.Call = inr (inr (λ s n. refl))
looks family.CallRegs = inr (inr (λ s n. refl))
looks family.Trap = inr (inr (λ s n. refl))
looks (family.Arm op) = inr (inr (λ s n. refl))
looks (family.Rv op) = inr (inr (λ s n. refl))

some_is : {A : Type 0} (x y : A) → Some x ≡ Some y → x ≡ y
some_is x y h = cc

mapped : {A B : Type 0} (f : A → B) (o : Option A) (y : B) → option_map f o ≡ Some y → (x : A) × (o ≡ Some x) × (f x ≡ y)
mapped f None y h = absurd (cc)
mapped f (Some x) y h = (x, refl, some_is (f x) y h)

-- what is found at a place stands there
place_is : (names : List (List ℕ)) (name : List ℕ) (n : ℕ) → place_of names name ≡ Some n → (n < length names) × (get_or names n [] ≡ name)
place_is names name n h =
    let p = position-Some (λ m. bytes_eq name m) names n [] h in
    (p.0, sym ((bytes_eq-Decides name (get_or names n [])).0 p.1))

pub symbol_is : (names : List (List ℕ)) (n : ℕ) → n < 4294967294 → symbol names n ≡ slice_index_or names n []
unfolding symbol
symbol_is names n h =
    let a : (n == 4294967294) ≡ false = grind (arith, nat_tests) in
    let b : (n == 4294967295) ≡ false = grind (arith, nat_tests) in
    ap (λ c. cond c (codes "runtime.panicdivide") (cond (n == 4294967295) (codes "runtime.panicshift") (slice_index_or names n []))) a
    ∙ ap (λ c. cond c (codes "runtime.panicshift") (slice_index_or names n [])) b

-- a symbol that is found has the name that was looked up
abbrev IsSymbol : List (List ℕ) → List ℕ → Aux → Type 0
IsSymbol names name x = (n : ℕ) × (x ≡ aux.Sym n) × (symbol names n ≡ name)

symbol_found : (names : List (List ℕ)) (name : List ℕ) (x : Aux) → length names < 4294967294 → symbol_of names name ≡ Some x → IsSymbol names name x
symbol_found names name x few h =
    let m = mapped aux.Sym (place_of names name) x h in
    let p = place_is names name m.0 m.1 in
    (m.0, sym m.2, symbol_is names m.0 (omega (arith, p.0)) ∙ p.1)

shift_found : (names : List (List ℕ)) (name : List ℕ) (x : Aux) (b : Bool) → length names < 4294967294 → bytes_eq name shift_name ≡ b → cond b (Some (aux.Sym 4294967295)) (symbol_of names name) ≡ Some x → IsSymbol names name x
unfolding symbol
shift_found names name x true few e h = (4294967295, sym (some_is (aux.Sym 4294967295) x h), sym ((bytes_eq-Decides name shift_name).0 e))
shift_found names name x false few e h = symbol_found names name x few h

divide_found : (names : List (List ℕ)) (name : List ℕ) (x : Aux) (b : Bool) → length names < 4294967294 → bytes_eq name divide_name ≡ b
    → cond b (Some (aux.Sym 4294967294)) (cond (bytes_eq name shift_name) (Some (aux.Sym 4294967295)) (symbol_of names name)) ≡ Some x → IsSymbol names name x
unfolding symbol
divide_found names name x true few e h = (4294967294, sym (some_is (aux.Sym 4294967294) x h), sym ((bytes_eq-Decides name divide_name).0 e))
divide_found names name x false few e h = shift_found names name x (bytes_eq name shift_name) few refl h

callee_found : (names : List (List ℕ)) (name : List ℕ) (x : Aux) → length names < 4294967294 → callee_of names name ≡ Some x → IsSymbol names name x
callee_found names name x few h = divide_found names name x (bytes_eq name divide_name) few refl h

-- What a value mentions.

-- what needs no looking up is nothing, or a type
abbrev pub IsGiven : Aux → Type 0
IsGiven aux.Nothing = Unit {0}
IsGiven (aux.Sym n) = ⊥
IsGiven (aux.Ty t) = Unit {0}
IsGiven (aux.Arg k) = ⊥

-- two scopes of one text, of which the second one has the names of arguments
pub record Renames (s t : Scope) : Type 0 where
  pub names : t.names ≡ s.names
  pub few : length s.names < 4294967294
  pub parameters : t.parameters ≡ arguments 0 (length s.parameters)
  pub small : length s.parameters < 2 ^ 64
  pub values : t.values ≡ s.values
  pub blocks : t.blocks ≡ s.blocks

found_again : (t : Scope) (f : Family) (name : List ℕ) (x : Aux) → aux_of t f name ≡ Some x → looked_up t f (of_name name) ≡ Ok x
unfolding looked_up
found_again t f name x h = ap (or_name name) h

symbols_again : (s t : Scope) (f : Family) (name : List ℕ) (x : Aux) → ((n : List ℕ) → aux_of t f n ≡ aux_of s f n) → aux_of s f name ≡ Some x → IsSymbol s.names name x → t.names ≡ s.names → looked_up t f (mention_of t.names x) ≡ Ok x
symbols_again s t f name x same h (n, e, k) r =
    let called : symbol t.names n ≡ name = ap (λ ns. symbol ns n) r ∙ k in
    let found : aux_of t f (symbol t.names n) ≡ Some x = ap (aux_of t f) called ∙ same name ∙ h in
    ap (λ y. looked_up t f (mention_of t.names y)) e ∙ found_again t f (symbol t.names n) x found

arguments_again : (s t : Scope) (f : Family) (name : List ℕ) (x : Aux) → ((u : Scope) (n : List ℕ) → aux_of u f n ≡ argument_of u.parameters n) → aux_of s f name ≡ Some x → Renames s t → looked_up t f (mention_of t.names x) ≡ Ok x
arguments_again s t f name x look h r =
    let m = mapped aux.Arg (place_of s.parameters name) x (sym (look s name) ∙ h) in
    let p = place_is s.parameters name m.0 m.1 in
    let found : place_of t.parameters (argument_name m.0) ≡ Some m.0 = ap (λ ns. place_of ns (argument_name m.0)) r.parameters ∙ argument_found (length s.parameters) m.0 r.small p.0 in
    let got : aux_of t f (argument_name m.0) ≡ Some x = look t (argument_name m.0) ∙ ap (option_map aux.Arg) found ∙ ap Some m.2 in
    ap (λ y. looked_up t f (mention_of t.names y)) (sym m.2) ∙ found_again t f (argument_name m.0) x got

name_again : (s t : Scope) (f : Family) (name : List ℕ) (x : Aux) → aux_of s f name ≡ Some x → Renames s t → looked_up t f (mention_of t.names x) ≡ Ok x
name_again s t f name x h r =
    ⊎_elim (λ look. arguments_again s t f name x look h r) (λ other. ⊎_elim
    (λ look. symbols_again s t f name x (λ n. look t n ∙ ap (λ ns. callee_of ns n) r.names ∙ sym (look s n)) h (callee_found s.names name x r.few (sym (look s name) ∙ h)) r.names)
    (λ look. symbols_again s t f name x (λ n. look t n ∙ ap (λ ns. symbol_of ns n) r.names ∙ sym (look s n)) h (symbol_found s.names name x r.few (sym (look s name) ∙ h)) r.names)
    other) (looks f)

named_is : (name : List ℕ) (o : Option Aux) (x : Aux) → or_name name o ≡ Ok x → o ≡ Some x
named_is name None x h = absurd (cc)
named_is name (Some y) x h = cc

given_again : (t : Scope) (f : Family) (x : Aux) → IsGiven x → looked_up t f (mention_of t.names x) ≡ Ok x
unfolding looked_up
given_again t f aux.Nothing g = refl
given_again t f (aux.Ty ty) g = refl
given_again t f (aux.Sym n) g = absurd g
given_again t f (aux.Arg k) g = absurd g

ok_is : (x y : Aux) → ◌≡◌ {A = Result Aux (List ℕ)} (Ok x) (Ok y) → x ≡ y
ok_is x y h = cc

mention_case : (s t : Scope) (f : Family) (given x : Aux) (o : Option (List ℕ)) → IsGiven given → if_named s f given o ≡ Ok x → Renames s t → looked_up t f (mention_of t.names x) ≡ Ok x
mention_case s t f given x None g h r = let e : given ≡ x = ok_is given x h in given_again t f x (subst IsGiven e g)
mention_case s t f given x (Some name) g h r = name_again s t f name x (named_is name (aux_of s f name) x h) r

pub mention_again : (s t : Scope) (f : Family) (m : MentionTree) (x : Aux) → IsGiven m.aux → looked_up s f m ≡ Ok x → Renames s t → looked_up t f (mention_of t.names x) ≡ Ok x
unfolding looked_up
mention_again s t f m x g h r = mention_case s t f m.aux x m.name g h r

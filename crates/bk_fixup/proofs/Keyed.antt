-- The keys of a function are keys.
use Rattle.std.proofs.Common.{◌≡◌, ◌≢◌, ℕ, ℤ, ◌+◌, List, [], ◌∷◌, ◌++◌, Bool, true, false, if◌then◌else◌, refl, sym, ap, ◌∙◌, subst, arith, Option, Some, None, option_map, option_to_list, IsTrue}
use Rattle.std.specs.List.{All, filter_map, flat_map, cons_option}
use Rattle.std.specs.Option.{ForSome}
use Rattle.std.proofs.lemmas.List.Elements.{All-nil, All-cons, All-head, All-tail, All-append}
use Rattle.bk_num.specs.Word.{signed, residue, fits_signed}
use Rattle.bk_num.proofs.Signs.{signed_residue}
use Rattle.bk_ops.specs.Types.{code_of}
use Rattle.bk_ops.specs.declared.family.ArmOp.TheVariants as arm
use Rattle.bk_ops.specs.declared.family.Family.{Family}
use Rattle.bk_ops.specs.declared.family.Family.TheVariants as op
use Rattle.bk_ops.specs.declared.family.RvOp.TheVariants as rv
use Rattle.bk_ops.specs.declared.types.Ty.{Ty}
use Rattle.bk_ops.specs.declared.types.Ty.TheVariants as ty
use Rattle.bk_func.specs.declared.parts.Aux.{Aux}
use Rattle.bk_func.specs.declared.parts.Aux.TheVariants as aux
use Rattle.bk_func.specs.Records.{ValueRecord, BlockRecord, FuncRecord}
use Rattle.bk_piece.specs.declared.Key.{Key}
use Rattle.bk_piece.specs.Filled.{key_in}
use Rattle.bk_fixup.specs.Keys.{IsKey, symbol_key, constant_key, type_key, op_key, key_of, block_keys, value_keys, keys_of, HasSmallConstants}

-- a number that 32 bits with a sign don't hold is not 0 modulo 2 ^ 64
pub constant_not_zero : (c : ℤ) → IsTrue (fits_signed 64 c) → fits_signed 32 c ≡ false → residue 64 c ≢ 0
constant_not_zero c fits wide none =
    let is : signed 64 0 ≡ c = ap (signed 64) (sym none) ∙ signed_residue 64 c (omega arith) fits in
    let narrow : fits_signed 32 c ≡ true = ap (fits_signed 32) (sym is) in
    cc

-- one key more, or none
pub more_keys : (keys : List Key) (key : Option Key) → ForSome key IsKey → All IsKey keys → All IsKey (keys ++ option_to_list key)
more_keys keys None is all = All-append IsKey keys [] all (All-nil IsKey)
more_keys keys (Some k) is all = All-append IsKey keys (k ∷ []) all (All-cons IsKey k [] (is k refl) (All-nil IsKey))

-- what is listed of elements are keys where each element's key is one
pub kept_keys : {X : Type 0} (P : X → Type 0) (h : X → Option Key) → ((x : X) → P x → ForSome (h x) IsKey) → (xs : List X) → All P xs → All IsKey (filter_map h xs)
kept_keys P h each [] all = All-nil IsKey
kept_keys P h each (x ∷ xs) all = one_more (h x) (filter_map h xs) (each x (All-head P x xs all)) (kept_keys P h each xs (All-tail P x xs all))
  where
    one_more : (key : Option Key) (keys : List Key) → ForSome key IsKey → All IsKey keys → All IsKey (cons_option key keys)
    one_more None keys is rest = rest
    one_more (Some k) keys is rest = All-cons IsKey k keys (is k refl) rest

-- what stands in an option is what it holds
held : {X : Type 0} (P : X → Type 0) (x : X) → P x → ForSome (Some x) P
held P x is k e = let same : x ≡ k = cc in subst P same is

none : {X : Type 0} (P : X → Type 0) → ForSome {T = X} None P
none P k e = cc

-- the key of a value
symbol_is : (a : Aux) → ForSome (symbol_key a) IsKey
symbol_is aux.Nothing = none IsKey
symbol_is (aux.Sym name) = held IsKey (key_in 0 (name + 1)) (omega arith, (λ z. absurd (omega arith)))
symbol_is (aux.Ty t) = none IsKey
symbol_is (aux.Arg place) = none IsKey

constant_is : (c : ℤ) → IsTrue (fits_signed 64 c) → ForSome (constant_key c) IsKey
constant_is c fits = by_size (fits_signed 32 c) refl
  where
    by_size : (b : Bool) → fits_signed 32 c ≡ b → ForSome (if b then None else Some (key_in 2 (residue 64 c))) IsKey
    by_size true is = none IsKey
    by_size false is = held IsKey (key_in 2 (residue 64 c)) (omega arith, constant_not_zero c fits is)

op_is : (o : Family) (a : Aux) (c : ℤ) → IsTrue (fits_signed 64 c) → ForSome (op_key o a c) IsKey
unfolding op_key
op_is op.Call a c fits = symbol_is a
op_is op.CallRegs a c fits = symbol_is a
op_is (op.Arm arm.Addr) a c fits = symbol_is a
op_is (op.Rv rv.Addr) a c fits = symbol_is a
op_is (op.Rv rv.Const) a c fits = constant_is c fits
op_is _ a c fits = none IsKey

-- the key of a type
codes : (t : Ty) → ForSome (code_of t) (λ n. n ≢ 0)
codes t n e z = some_code t (e ∙ ap Some z)
  where
    some_code : (t : Ty) → code_of t ≢ Some 0
    some_code ty.Bool e = cc
    some_code ty.Int8 e = cc
    some_code ty.Uint8 e = cc
    some_code ty.Int16 e = cc
    some_code ty.Uint16 e = cc
    some_code ty.Int32 e = cc
    some_code ty.Uint32 e = cc
    some_code ty.Int64 e = cc
    some_code ty.Uint64 e = cc
    some_code ty.Int e = cc
    some_code ty.Uint e = cc
    some_code ty.Uintptr e = cc
    some_code ty.Ptr e = cc
    some_code ty.Mem e = cc
    some_code ty.Void e = cc
    some_code ty.Tuple e = cc

type_is : (t : Ty) → ForSome (type_key t) IsKey
type_is t = by_code (code_of t) (codes t)
  where
    by_code : (o : Option ℕ) → ForSome o (λ n. n ≢ 0) → ForSome (option_map (key_in 1) o) IsKey
    by_code None is = none IsKey
    by_code (Some n) is = held IsKey (key_in 1 n) (omega arith, is n refl)

types_are : (ts : List Ty) → All IsKey (filter_map type_key ts)
types_are ts = kept_keys (λ _. Unit {0}) type_key (λ t _. type_is t) ts (λ k d lt. tt)

values_are : (bs : List BlockRecord) → All (λ b. All (λ v. IsTrue (fits_signed 64 v.int)) b.values) bs → All IsKey (flat_map block_keys bs)
values_are [] all = All-nil IsKey
values_are (b ∷ bs) all =
    let P : BlockRecord → Type 0 = λ x. All (λ v. IsTrue (fits_signed 64 v.int)) x.values in
    let here = kept_keys (λ (v : ValueRecord). IsTrue (fits_signed 64 v.int)) key_of (λ v fits. op_is v.op.family v.aux v.int fits) b.values (All-head P b bs all) in
    All-append IsKey (block_keys b) (flat_map block_keys bs) here (values_are bs (All-tail P b bs all))

pub are_keys : (f : FuncRecord) → HasSmallConstants f → All IsKey (keys_of f)
are_keys f small =
    All-append IsKey (value_keys f) (filter_map type_key f.sig.args ++ filter_map type_key f.sig.results) (values_are f.blocks small)
    (All-append IsKey (filter_map type_key f.sig.args) (filter_map type_key f.sig.results) (types_are f.sig.args) (types_are f.sig.results))

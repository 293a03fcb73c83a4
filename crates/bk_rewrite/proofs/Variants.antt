-- A derived `==` of an enum that holds fields in few of its variants, and of an op.
use Rattle.std.proofs.Common.{◌≡◌, refl, ap, sym, subst, Bool, true, false, List, [], ◌∷◌, inl, inr}
use Rattle.std.specs.Prelude.{◌&&◌}
use Rattle.std.specs.Cmp.{IsEquivalence}
use Rattle.bk_ops.specs.declared.table.Op.{Op}
use denote.Struct.Field.{Field}
use denote.Struct.Values.{Values}
use denote.Enum.Declared.{Choice}
use denote.Enum.Compared.{Each, by}

-- a test of the fields of each variant that has some
abbrev pub Tests : List (List Field) → Type 0
Tests [] = Unit {0}
Tests ([] ∷ Fss) = Tests Fss
Tests ((F ∷ Fs) ∷ Fss) = (Values (F ∷ Fs) → Values (F ∷ Fs) → Bool) × Tests Fss

-- each variant's, which holds where there are no fields
abbrev pub each_test : (Fss : List (List Field)) → Tests Fss → Each Bool Fss
each_test [] ts = tt
each_test ([] ∷ Fss) ts = ((λ x y. true), each_test Fss ts)
each_test ((F ∷ Fs) ∷ Fss) ts = (ts.0, each_test Fss ts.1)

abbrev pub AreExact : (Fss : List (List Field)) → Tests Fss → Type 0
AreExact [] ts = Unit {0}
AreExact ([] ∷ Fss) ts = AreExact Fss ts
AreExact ((F ∷ Fs) ∷ Fss) ts = ((x y : Values (F ∷ Fs)) → ts.0 x y ≡ true → x ≡ y) × AreExact Fss ts.1

pub same_choice : (Fss : List (List Field)) (ts : Tests Fss) → AreExact Fss ts → (c d : Choice Fss) → by false false Fss (each_test Fss ts) c d ≡ true → c ≡ d
same_choice [] ts o c d e = absurd c
same_choice ([] ∷ Fss) ts o (inl x) (inl y) e = refl
same_choice ([] ∷ Fss) ts o (inl x) (inr d) e = cc
same_choice ([] ∷ Fss) ts o (inr c) (inl y) e = cc
same_choice ([] ∷ Fss) ts o (inr c) (inr d) e = ap inr (same_choice Fss ts o c d e)
same_choice ((F ∷ Fs) ∷ Fss) ts o (inl x) (inl y) e = ap inl (o.0 x y e)
same_choice ((F ∷ Fs) ∷ Fss) ts o (inl x) (inr d) e = cc
same_choice ((F ∷ Fs) ∷ Fss) ts o (inr c) (inl y) e = cc
same_choice ((F ∷ Fs) ∷ Fss) ts o (inr c) (inr d) e = ap inr (same_choice Fss ts.1 o.1 c d e)

pub both_hold : (x y : Bool) → (x && y) ≡ true → (x ≡ true) × (y ≡ true)
both_hold true y e = (refl, e)
both_hold false y e = cc

pub other_than : {K : Type 0} {E : K → K → Bool} → IsEquivalence E → (a b : K) → E a b ≡ false → a ≡ b → ⊥
other_than {K} {E} l a b f e = (let r : E a a ≡ true = l.refl a in let s : E a a ≡ false = subst (λ (z : K). E a z ≡ false) (sym e) f in cc)

pub same_parts : (x y : Op) → x.family ≡ y.family → x.a ≡ y.a → x.b ≡ y.b → x ≡ y
same_parts x y e d b = λ i. record { family = e i; a = d i; b = b i }

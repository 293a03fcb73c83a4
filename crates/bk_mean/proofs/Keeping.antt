-- What is kept of a call's results, put in its places.
use Rattle.std.proofs.Common.{◌≡◌, ℕ, zero, suc, ◌+◌, ◌<◌, ◌≢◌, refl, ap, sym, ◌∙◌, subst, arith, ◌⊎◌, inl, inr, List, [], ◌∷◌, ◌++◌, length, Option, Some}
use Rattle.std.specs.Prelude.{slice_index, slice_set}
use Rattle.std.proofs.Math.ListN.{length-set}
use Rattle.std.proofs.lemmas.Bool.{cases_eq}
use Rattle.std.proofs.lemmas.List.{get_or-set_same, get_or-set_other}
use Rattle.bk_func.proofs.Faults.{In}
use Rattle.bk_ops.specs.declared.types.Target.{Target}
use Rattle.bk_ops.specs.declared.types.Ty.{Ty}
use Rattle.bk_ops.specs.declared.family.Family.{Family}
use Rattle.bk_ops.specs.declared.family.Family.TheVariants as op
use Rattle.bk_func.specs.Records.{SigRecord, ValueRecord, FuncRecord}
use Rattle.bk_func.specs.Symbols.{symbol_of, sig_of}
use Rattle.bk_func.specs.Numbers.{Program, natural, value_of, callee_of, callee_of_some, result_place, cut_result}
use Rattle.bk_func.specs.Form.Signatures.{whole}
use Rattle.bk_mean.specs.declared.ready.Kept.{Kept}
use Rattle.bk_mean.specs.Ready.{kept_by}
use Rattle.bk_mean.specs.Running.{index_of, kept_number, keep_all}
use Rattle.bk_mean.proofs.Filling.{number_given}

-- the number of a value that keeps a result is that of the result
pub kept_given : (p : Program) (f g : FuncRecord) (v : ValueRecord) (c : ValueRecord) (given : List ℕ) → p.places ≡ whole → value_of f (slice_index v.args 0) ≡ Some c → sig_of p.pkg (symbol_of c.aux) ≡ g.sig →
    kept_number p.target (length g.sig.args) (kept_by f v) given ≡ number_given p f v given
kept_given p f g v c given places e s =
    ap (λ n. cut_result v.op.family p.target v.ty (slice_index given (index_of v.op.family (natural v.int) n))) count ∙ ap (λ n. cut_result v.op.family p.target v.ty (slice_index given n)) (index_is v.op.family)
  where
    count : length g.sig.args ≡ length (p.places (sig_of p.pkg (callee_of f v)).args)
    count =
        ap (λ (z : SigRecord). length z.args) (sym s) ∙ ap (λ (h : List Ty → List Ty). length (h (sig_of p.pkg (symbol_of c.aux)).args)) (sym places)
        ∙ ap (λ (o : Option ValueRecord). length (p.places (sig_of p.pkg (callee_of_some o)).args)) (sym e)

    index_is : (o : Family) → index_of o (natural v.int) (length (p.places (sig_of p.pkg (callee_of f v)).args)) ≡ result_place o p f v
    index_is op.ResWord = refl
    index_is _ = refl

module _ (t : Target) (count : ℕ) where
  pub keep_length : (first : ℕ) (ks : List Kept) (given numbers : List ℕ) → length (keep_all t count first ks given numbers) ≡ length numbers
  keep_length first [] given numbers = refl
  keep_length first (k ∷ ks) given numbers = keep_length first ks given (slice_set numbers (first + k.place) (kept_number t count k given)) ∙ length-set numbers (first + k.place) (kept_number t count k given)

  pub keep_other : (first : ℕ) (ks : List Kept) (given numbers : List ℕ) (x : ℕ) → ((k : Kept) → In k ks → x ≢ first + k.place) → slice_index (keep_all t count first ks given numbers) x ≡ slice_index numbers x
  keep_other first [] given numbers x h = refl
  keep_other first (k ∷ ks) given numbers x h =
      keep_other first ks given (slice_set numbers (first + k.place) (kept_number t count k given)) x (λ j i. h j (inr i))
      ∙ get_or-set_other numbers (first + k.place) x (kept_number t count k given) 0 (h k (inl refl))

  -- a place has what is kept there, where all that is kept there is one
  pub keep_own : (first : ℕ) (ks : List Kept) (given numbers : List ℕ) (one : Kept) → ((y : Kept) → In y ks → y.place ≡ one.place → y ≡ one) → first + one.place < length numbers →
      In one ks ⊎ (slice_index numbers (first + one.place) ≡ kept_number t count one given) → slice_index (keep_all t count first ks given numbers) (first + one.place) ≡ kept_number t count one given
  keep_own first [] given numbers one h l (inl i) = elim i [ ]
  keep_own first [] given numbers one h l (inr e) = e
  keep_own first (k ∷ ks) given numbers one h l q =
      keep_own first ks given (slice_set numbers (first + k.place) (kept_number t count k given)) one (λ y i e. h y (inr i) e)
      (let e = length-set numbers (first + k.place) (kept_number t count k given) in omega (arith, l, e)) (go (cases_eq k.place one.place) q)
    where
      go : (k.place ≡ one.place) ⊎ (k.place ≡ one.place → ⊥) → In one (k ∷ ks) ⊎ (slice_index numbers (first + one.place) ≡ kept_number t count one given) →
          In one ks ⊎ (slice_index (slice_set numbers (first + k.place) (kept_number t count k given)) (first + one.place) ≡ kept_number t count one given)
      go (inl e) q =
          let P : ℕ → Type 0 = λ z. slice_index (slice_set numbers (first + k.place) (kept_number t count k given)) (first + z) ≡ kept_number t count k given in
          inr (subst P e (get_or-set_same numbers (first + k.place) (kept_number t count k given) 0 (omega (arith, l, e))) ∙ ap (λ (z : Kept). kept_number t count z given) (h k (inl refl) e))
      go (inr n) (inl (inl i)) = absurd (n (ap (λ (z : Kept). z.place) i))
      go (inr n) (inl (inr i)) = inl i
      go (inr n) (inr e) = inr (get_or-set_other numbers (first + k.place) (first + one.place) (kept_number t count k given) 0 (λ z. n (omega (arith, z))) ∙ e)

-- a list behind another
set_behind : (xs ys : List ℕ) (i v : ℕ) → slice_set (xs ++ ys) (length xs + i) v ≡ xs ++ slice_set ys i v
set_behind [] ys i v = let e : 0 + i ≡ i = omega arith in ap (λ n. slice_set ys n v) e
set_behind (x ∷ xs) ys i v = let e : suc (length xs) + i ≡ suc (length xs + i) = omega arith in ap (λ n. slice_set (x ∷ (xs ++ ys)) n v) e ∙ ap (λ zs. x ∷ zs) (set_behind xs ys i v)

set_before : (xs ys : List ℕ) (i v : ℕ) → i < length xs → slice_set (xs ++ ys) i v ≡ slice_set xs i v ++ ys
set_before [] ys i v l = absurd (omega arith)
set_before (x ∷ xs) ys zero v l = refl
set_before (x ∷ xs) ys (suc i) v l = ap (λ zs. x ∷ zs) (set_before xs ys i v (omega arith))

-- what is kept goes into the numbers of its call alone
pub keep_within : (t : Target) (count : ℕ) (ns front args : List ℕ) (ks : List Kept) (given : List ℕ) → ((k : Kept) → In k ks → k.place < length front) →
    keep_all t count (length ns) ks given (ns ++ (front ++ args)) ≡ ns ++ (keep_all t count 0 ks given front ++ args)
keep_within t count ns front args [] given h = refl
keep_within t count ns front args (k ∷ ks) given h =
    ap (keep_all t count (length ns) ks given) (
    set_behind ns (front ++ args) k.place (kept_number t count k given)
    ∙ ap (λ zs. ns ++ zs) (set_before front args k.place (kept_number t count k given) (h k (inl refl)))
    )
    ∙ keep_within t count ns (slice_set front k.place (kept_number t count k given)) args ks given
    (λ j i. let l = h j (inr i) in let e = length-set front k.place (kept_number t count k given) in omega (arith, l, e))
    ∙ ap (λ n. ns ++ (keep_all t count 0 ks given (slice_set front n (kept_number t count k given)) ++ args)) (let e : k.place ≡ 0 + k.place = omega arith in e)
